-- Where the code finds each bit of a word.
-- Assumes nothing.
use Rattle.std.specs.Prelude.{◌≡◌, List, ◌++◌, ℕ, ◌+◌, ◌-◌, ◌*◌, ◌/◌, ◌%◌, ◌<◌, ◌≤◌, length}
use Rattle.std.proofs.Math.Path.{sym, ap}
use Rattle.std.proofs.Common.{◌∙◌}
use Rattle.std.proofs.Math.Bool.{true}
use native.Mathlib.Omega.{arith}
use borrow.Author.Tests.{lt-ltb, le-ltb}
use Rattle.std.proofs.Math.Dec.{ltb}
use Rattle.bits.specs.Bits.{bit}
use Rattle.bits.specs.Xor.{◌⊕◌}
use Rattle.word_spec.specs.Completion.{first_bits}
use Rattle.pair_spec.specs.Rows.{front_bit, back_bit, word_of}
use Rattle.pair_spec.specs.RowLaws.{reach, Place, zeros, before, own}
use Rattle.pair_spec.proofs.RowLaws.{xor_16, other_pair, other_row, word_start, word_front, word_back}
use Rattle.pair_spec.proofs.RowLaws.{place}
use Rattle.pair_spec.specs.Pairs.{pair_index, pair_bit, word_row, word_bit_row, own_index}
use Rattle.pair_spec.proofs.PairLaws.{own_index_low, own_index_high}
use Rattle.pair_spec.specs.History.{depth, held_bits}
use Rattle.pair_spec.proofs.HistoryLaws.{held_before, held_newest}
use Rattle.pair_spec.specs.Encoding.{open_word}
use Rattle.pair_spec.proofs.EncodingLaws.{of_pair, open_front, open_back}
use Rattle.pair_spec.specs.Receiving.{held_word}

-- ---- the front half

-- Bit k of the front half of word w as a history of n pairs holds it.
unfoldable pub front_held : ℕ → List ℕ → ℕ → ℕ → ℕ → ℕ
front_held n h P w k = word_of (held_bits n h P) (word_row P w) (word_bit_row w) k

-- Before pair 10 it counts as zero; from there on it stands in the history.
pub front_none : (n : ℕ) (h : List ℕ) (P w k : ℕ) → w < 32 → k < 128 → P < 10 → 0 ≡ front_held n h P w k
unfolding front_held
front_none n h P w k lw lk m = sym (word_start (held_bits n h P) (word_row P w) (word_bit_row w) k lk (omega arith))

pub front_held_lem : (h : List ℕ) (P w k x b : ℕ) → w < 32 → k < 128 → 10 ≤ P → x ≡ (k % 16) ⊕ (w % 16)
    → b ≡ bit h (k / 16 * 4112 + (1 - w / 16) * 2048 + x * 128 + w % 16) → b ≡ front_held depth h P w k
unfolding front_held front_bit held_bits pair_index
front_held_lem h P w k x b lw lk m ex eb =
    let ep = other_pair (word_row P w) in
    let er = other_row (word_row P w) in
    let half : word_row P w / 2 ≡ P = of_pair P w lw in
    let ej : ((word_row P w ⊕ 1) - 20 + 2 * (k / 16)) / 2 + depth - P ≡ k / 16 = omega arith in
    let es : ((word_row P w ⊕ 1) - 20 + 2 * (k / 16)) % 2 ≡ 1 - w / 16 = omega arith in
    eb ∙ sym (word_front (held_bits depth h P) (word_row P w) (word_bit_row w) k lk (omega arith) ∙ rw (ej, es) (ap (bit h) (omega (arith, ex))))

-- ---- a word as held

module _ (n : ℕ) (h p : List ℕ) (P w : ℕ) (size : length h ≡ 512 * n) (lw : w < 32) where
  pub held_front : reach ≤ n → (k b : ℕ) → k < 128 → b ≡ front_held n h P w k → b ≡ held_word n h P p w k
  unfolding front_held held_word
  held_front far k b l e = e ∙ sym (go (place (word_row P w) (word_bit_row w) k (omega arith) (omega arith)))
    where
      half : word_row P w / 2 ≡ P
      half = of_pair P w lw

      go : Place (word_row P w) (word_bit_row w) k
          → word_of (held_bits n (h ++ p) P) (word_row P w) (word_bit_row w) k ≡ word_of (held_bits n h P) (word_row P w) (word_bit_row w) k
      go (zeros m is) = is (held_bits n (h ++ p) P) ∙ sym (is (held_bits n h P))
      go (before Q C a c m lo hi lC la lc is) =
          is (held_bits n (h ++ p) P) ∙ held_before n h p P size Q C a c lC la lc (omega (arith, half)) (omega (arith, half)) ∙ sym (is (held_bits n h P))
      go (own C c m lC lc is) = absurd (omega arith)

  pub held_back : (k x b : ℕ) → 128 ≤ k → k < 256 → x ≡ (k % 16) ⊕ (w % 16) → b ≡ bit p (w * 128 + (k - 128) / 16 * 16 + x)
      → b ≡ held_word n h P p w k
  unfolding held_word back_bit pair_bit pair_index
  held_back k x b l m ex eb =
      let half : word_row P w / 2 ≡ P = of_pair P w lw in
      let s : word_row P w % 2 ≡ w / 16 = omega arith in
      eb
      ∙ sym (word_back (held_bits n (h ++ p) P) (word_row P w) (word_bit_row w) k l
      ∙ held_newest n h p P size (word_row P w) ((k - 128) / 16) (word_bit_row w) ((k % 16) ⊕ word_bit_row w) (omega arith) (omega arith)
      (xor_16 (k % 16) (word_bit_row w) (omega arith) (omega arith)) half
      ∙ rw s (ap (bit p) (omega (arith, ex))))

-- ---- a word before its completion

module _ (n : ℕ) (h y : List ℕ) (P w : ℕ) (lw : w < 32) where
  pub open_front_bit : (k b : ℕ) → k < 128 → b ≡ front_held n h P w k → b ≡ first_bits (open_word n h P y w) k
  unfolding front_held first_bits
  open_front_bit k b l e = let t : ltb k 239 ≡ true = lt-ltb k 239 (omega arith) in e ∙ rw t (sym (open_front n h P y w k l))

  payload_at_lem : (k : ℕ) → 128 ≤ k → k < 239 → bit y (own_index w (k - 128)) ≡ first_bits (open_word n h P y w) k
  unfolding first_bits
  payload_at_lem k l m =
      let t : ltb k 239 ≡ true = lt-ltb k 239 m in
      let e : 128 + (k - 128) ≡ k = omega arith in
      rw t (sym (open_back n h P y w (k - 128)) ∙ ap (open_word n h P y w) e)

  pub open_low : (k b : ℕ) → 128 ≤ k → k < 224 → b ≡ bit y (w * 16 + (k - 128) / 16 * 512 + k % 16) → b ≡ first_bits (open_word n h P y w) k
  open_low k b l m e = e ∙ ap (bit y) (omega (arith, own_index_low w (k - 128) lw (omega arith))) ∙ payload_at_lem k l (omega arith)

  pub open_high : (k b : ℕ) → 224 ≤ k → k < 239 → b ≡ bit y (w * 15 + k + 2848) → b ≡ first_bits (open_word n h P y w) k
  open_high k b l m e =
      e ∙ ap (bit y) (omega (arith, own_index_high w (k - 128) lw (omega arith) (omega arith))) ∙ payload_at_lem k (omega arith) m

  pub open_none : (k : ℕ) → 239 ≤ k → 0 ≡ first_bits (open_word n h P y w) k
  unfolding first_bits
  open_none k l = simp (le-ltb _ _ l)
