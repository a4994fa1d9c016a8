-- The bench values of 01 about rows, from the definitions.
-- Assumes nothing.
use Rattle.std.specs.Prelude.{◌≡◌, refl, ℕ, ◌+◌, ◌-◌, ◌*◌, ◌/◌, ◌%◌, ◌<◌, ◌≤◌}
use Rattle.std.proofs.Common.{sym, ◌∙◌, arith}
use Rattle.std.proofs.Math.Decide.{dec_lt}
use Rattle.bits.specs.Xor.{◌⊕◌}
use Rattle.pair_spec.specs.Rows.{RowBits, front_bit, front_counts, word_of, payload_index}
use Rattle.pair_spec.proofs.RowLaws.{word_front, word_start}

-- "Word (20,0): bit 0 is V(1,0,0,0), bit 127 is V(15,7,15,0)."
pub word_20_0_first : (v : RowBits) → word_of v 20 0 0 ≡ v 1 0 0 0
unfolding word_of front_counts front_bit ◌⊕◌
word_20_0_first v = refl

pub word_20_0_last : (v : RowBits) → word_of v 20 0 127 ≡ v 15 7 15 0
unfolding word_of front_counts front_bit ◌⊕◌
word_20_0_last v = refl

-- "V(14,7,2,5) is bit 119 of word (21,5)."
pub word_21_5_119 : (v : RowBits) → word_of v 21 5 119 ≡ v 14 7 2 5
unfolding word_of front_counts front_bit ◌⊕◌
word_21_5_119 v = refl

-- "V(13,7,·,·) is in no front half that counts": bits that differ in nothing else have the same front halves.
pub in_no_front : (v u : RowBits) → ((R C r c : ℕ) → (R ≡ 13 → C ≡ 7 → ⊥) → v R C r c ≡ u R C r c) → (R r k : ℕ) → k < 128
    → word_of v R r k ≡ word_of u R r k
unfolding front_bit
in_no_front v u same R r k l = go (dec_lt R 20)
  where
    go : Dec (R < 20) → word_of v R r k ≡ word_of u R r k
    go (yes m) = word_start v R r k l m ∙ sym (word_start u R r k l m)
    go (no m) =
        let high : 20 ≤ R = omega arith in
        word_front v R r k l high ∙ same ((R ⊕ 1) - 20 + 2 * (k / 16)) (k / 16) ((k % 16) ⊕ r) r (λ p q. omega arith) ∙ sym (word_front u R r k l high)

-- "Payload index: R=0, r=1, k=96 gives 3087; R=1, r=15, k=110 gives 3551; R=2, r=0, k=0 gives 3552."
pub payload_index_3087 : payload_index 0 1 96 ≡ 3087
unfolding payload_index
payload_index_3087 = refl

pub payload_index_3551 : payload_index 1 15 110 ≡ 3551
unfolding payload_index
payload_index_3551 = refl

pub payload_index_3552 : payload_index 2 0 0 ≡ 3552
unfolding payload_index
payload_index_3552 = refl
