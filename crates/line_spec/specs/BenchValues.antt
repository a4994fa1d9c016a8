-- The bench values of 01 that carry †, "gathered into a joint proof from the definitions": one field for each.
-- Assumes nothing.
use Rattle.std.specs.Prelude.{◌≡◌, true, [], ◌∷◌, ℕ, ◌<◌}
use Rattle.word_spec.specs.Completion.{completed}
use Rattle.word_spec.specs.Repair.{repaired, mark, repair}
use Rattle.word_spec.specs.declared.Repair.TheVariants.{Lost}
use Rattle.word_spec.proofs.BenchValues.{set_at}
use Rattle.pair_spec.specs.Rows.{RowBits, word_of, payload_index}
use Rattle.interleaver_spec.proofs.BenchValues.{ComesFrom}
use Rattle.cells_spec.specs.Cells.{to_cells}
use Rattle.profiles_spec.specs.Profiles.{qam16}

pub record BenchValues : Type 0 where
  -- "Only bit 238 set among 0 to 238: parity bits set are 240, 241, 243, 244, 245, 246, 248, 249, 253, 254, 255."
  pub parity : (k : ℕ) → k < 256
      → completed (set_at (238 ∷ [])) k ≡ set_at (238 ∷ 240 ∷ 241 ∷ 243 ∷ 244 ∷ 245 ∷ 246 ∷ 248 ∷ 249 ∷ 253 ∷ 254 ∷ 255 ∷ []) k
  -- "Zero word with bits 0 and 255 flipped: repaired, 2."
  pub two_flipped : mark (repair true (set_at (0 ∷ 255 ∷ []))) ≡ 2
  pub two_repaired : (k : ℕ) → k < 256 → repaired (repair true (set_at (0 ∷ 255 ∷ []))) (set_at (0 ∷ 255 ∷ [])) k ≡ 0
  -- "With 0, 1, 2 flipped: lost."
  pub three_flipped : repair true (set_at (0 ∷ 1 ∷ 2 ∷ [])) ≡ Lost
  -- "Word (20,0): bit 0 is V(1,0,0,0), bit 127 is V(15,7,15,0)."
  pub word_20_0_bit_0 : (v : RowBits) → word_of v 20 0 0 ≡ v 1 0 0 0
  pub word_20_0_bit_127 : (v : RowBits) → word_of v 20 0 127 ≡ v 15 7 15 0
  -- "V(14,7,2,5) is bit 119 of word (21,5). V(13,7,·,·) is in no front half that counts": bits that differ there alone have the same
  -- front halves.
  pub word_21_5_bit_119 : (v : RowBits) → word_of v 21 5 119 ≡ v 14 7 2 5
  pub row_13_block_7 : (v u : RowBits) → ((R C r c : ℕ) → (R ≡ 13 → C ≡ 7 → ⊥) → v R C r c ≡ u R C r c)
      → (R r k : ℕ) → k < 128 → word_of v R r k ≡ word_of u R r k
  -- "Payload index: R=0, r=1, k=96 gives 3087; R=1, r=15, k=110 gives 3551; R=2, r=0, k=0 gives 3552."
  pub payload_3087 : payload_index 0 1 96 ≡ 3087
  pub payload_3551 : payload_index 1 15 110 ≡ 3551
  pub payload_3552 : payload_index 2 0 0 ≡ 3552
  -- "Output bits: n=1 is encoder 0, R=0, C=0, (14,15); n=16 is encoder 0, R=21, (0,0); n=32 is (15,7); n=172031 is encoder 1, R=41,
  -- C=7, (0,15)." In `ComesFrom n e R C r c` output bit n is bit (R, C, r, c) of encoder e.
  pub output_1 : ComesFrom 1 0 0 0 14 15
  pub output_16 : ComesFrom 16 0 21 0 0 0
  pub output_32 : ComesFrom 32 0 0 0 15 7
  pub output_172031 : ComesFrom 172031 1 41 7 0 15
  -- "Bytes to cells: 255 gives 10, 10; 128 gives 12, 0; 8 gives 3, 0; 1 gives 0, 1."
  pub cells : to_cells qam16 (255 ∷ 128 ∷ 8 ∷ 1 ∷ []) ≡ 10 ∷ 10 ∷ 12 ∷ 0 ∷ 3 ∷ 0 ∷ 0 ∷ 1 ∷ []
