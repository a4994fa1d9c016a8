-- Laws of receiving a pair: where each bit of a word goes, and what its repair gives where the history is right.
-- Assumes nothing.
use Rattle.std.specs.Prelude.{◌≡◌, Bool, true, false, List, ◌++◌, ℕ, ◌+◌, ◌*◌, ◌/◌, ◌%◌, ◌<◌, ◌≤◌, length, get_or}
use Rattle.std.proofs.Math.Path.{refl, ap₂}
use Rattle.std.proofs.Common.{sym, ap, ◌∙◌, arith, leb-false}
use Rattle.std.proofs.Math.Bool.{cond}
use Rattle.bits.specs.Bits.{bit}
use Rattle.bits.specs.ListLaws.{length_tabulate, get_d_tabulate}
use Rattle.word_spec.specs.CodeWord.{Word, CodeWord}
use Rattle.word_spec.specs.Repair.{repair, repaired, mark}
use Rattle.word_spec.proofs.RepairLaws.{FrontKept, repaired_bits, repaired_off}
use Rattle.word_spec.specs.declared.Repair.{Repair}
use Rattle.word_spec.specs.declared.Repair.TheVariants.{Sound}
use Rattle.pair_spec.specs.Rows.{RowBits, front_counts, checked, Checked, word_of, payload_index}
use Rattle.pair_spec.specs.RowLaws.{reach}
use Rattle.pair_spec.proofs.RowLaws.{word_lt, word_start, word_at, back_place, back_place_lt}
use Rattle.pair_spec.specs.Pairs.{pair_bit, word_row, word_bit_row, own_index}
use Rattle.pair_spec.proofs.PairLaws.{coded_pair_bit, length_payload_of, payload_of_bit}
use Rattle.pair_spec.specs.History.{held_bits}
use Rattle.pair_spec.proofs.HistoryLaws.{held_bits_lt, Right, RightPair, near, history_after, right_after}
use Rattle.pair_spec.proofs.WordLaws.{WordOutcome, word_outcome_of}
use Rattle.pair_spec.proofs.EncodingLaws.{numbered}
use Rattle.pair_spec.specs.Receiving.{held_word, repair_of, repaired_word, newest_pair, payload_out, marks}
use Rattle.pair_spec.specs.Promise.{Holds, wrong_bits, Limit}
use Rattle.pair_spec.specs.ReceivingLaws.{length_newest}

module _ (n : ℕ) (h : List ℕ) (P : ℕ) (p : List ℕ) where
  pub held_bits_lem : (w k : ℕ) → held_word n h P p w k < 2
  unfolding held_word
  held_bits_lem w k = word_lt (held_bits n (h ++ p) P) (held_bits_lt n (h ++ p) P) (word_row P w) (word_bit_row w) k

  pub repaired_word_bits : (w k : ℕ) → repaired_word n h P p w k < 2
  unfolding repaired_word
  repaired_word_bits w k = repaired_bits (repair_of n h P p w) (held_word n h P p w) k (held_bits_lem w k)

  pub length_payload_out : length (payload_out n h P p) ≡ 444
  unfolding payload_out
  length_payload_out = length_payload_of (repaired_word n h P p)

  pub length_marks : length (marks n h P p) ≡ 32
  unfolding marks
  length_marks = length_tabulate 32 (λ w. mark (repair_of n h P p w))

  -- A word's back half goes to the newest pair,
  pub newest_bit : (R C r c : ℕ) → C < 8 → r < 16 → c < 16
      → pair_bit (newest_pair n h P p) (R % 2) C r c ≡ repaired_word n h P p (16 * (R % 2) + r) (back_place C r c)
  unfolding newest_pair
  newest_bit R C r c lC lr lc =
      coded_pair_bit (repaired_word n h P p) (R % 2) C r c (omega arith) lC lr lc ∙ omega (arith, repaired_word_bits (16 * (R % 2) + r) (back_place C r c))

  -- its payload bits to payload out,
  pub payload_bit_lem : (R r k : ℕ) → r < 16 → k < 111
      → bit (payload_out n h P p) (payload_index (R % 2) r k) ≡ repaired_word n h P p (16 * (R % 2) + r) (128 + k)
  unfolding payload_out own_index
  payload_bit_lem R r k lr lk =
      let w = numbered (R / 2) R r refl lr in
      ap₂ (λ (s a : ℕ). bit (payload_out n h P p) (payload_index s a k)) (sym w.half) (sym w.bit_row)
      ∙ payload_of_bit (repaired_word n h P p) (16 * (R % 2) + r) k w.below lk
      ∙ omega (arith, repaired_word_bits (16 * (R % 2) + r) (128 + k))

  -- and its mark to the marks.
  pub mark_is : (w : ℕ) → w < 32 → get_or (marks n h P p) w 0 ≡ mark (repair_of n h P p w)
  unfolding marks
  mark_is w l = get_d_tabulate 32 (λ w. mark (repair_of n h P p w)) w 0 l

  -- Words by row and bit row.
  module _ (R r : ℕ) (own_pair : R / 2 ≡ P) (lr : r < 16) where
    pub held_word_lem : held_word n h P p (16 * (R % 2) + r) ≡ word_of (held_bits n (h ++ p) P) R r
    unfolding held_word
    held_word_lem = let w = numbered P R r own_pair lr in ap₂ (word_of (held_bits n (h ++ p) P)) w.row w.bit_row

    -- The repair of one that is checked, or not.
    pub repair_of_lem : (b : Bool) → checked R ≡ b
        → repair_of n h P p (16 * (R % 2) + r) ≡ cond b (repair (front_counts R) (word_of (held_bits n (h ++ p) P) R r)) Sound
    unfolding repair_of
    repair_of_lem b e =
        let w = numbered P R r own_pair lr in
        ap₂ (λ (a : Bool) (f : Repair). cond a f Sound) (ap checked w.row ∙ e) (ap₂ repair (ap front_counts w.row) held_word_lem)

    pub repaired_word_is : (f : Repair) → repair_of n h P p (16 * (R % 2) + r) ≡ f
        → repaired_word n h P p (16 * (R % 2) + r) ≡ repaired f (word_of (held_bits n (h ++ p) P) R r)
    unfolding repaired_word
    repaired_word_is f e = ap₂ repaired e held_word_lem

-- In front of rows 0 to 19 stand zeros on both sides.
front_kept : (v u : RowBits) (R r : ℕ) → FrontKept (front_counts R) (word_of v R r) (word_of u R r)
unfolding front_counts
front_kept v u R r = go (front_counts R) refl
  where
    go : (b : Bool) → front_counts R ≡ b → FrontKept b (word_of v R r) (word_of u R r)
    go true e = tt
    go false e = λ k l. word_start v R r k l (leb-false 20 R e) ∙ sym (word_start u R r k l (leb-false 20 R e))

module _ {n : ℕ} (far : reach ≤ n) {S W : RowBits} {P : ℕ} {h : List ℕ} (inv : Right n S W P h) (p : List ℕ) (holds : Holds W P p) where
  -- What the repair of a word that is checked gives.
  pub word_outcome : (R r : ℕ) → R / 2 ≡ P → r < 16 → CodeWord (word_of S R r) → wrong_bits S W R r ≤ 3
      → WordOutcome (word_of S R r) (word_of W R r) (word_of (held_bits n (h ++ p) P) R r) (repair (front_counts R) (word_of (held_bits n (h ++ p) P) R r))
  unfolding wrong_bits
  word_outcome R r e lr code three =
      word_outcome_of (front_counts R) (word_of S R r) (word_of W R r) (word_of (held_bits n (h ++ p) P) R r) code
      (λ k l. word_lt (held_bits n (h ++ p) P) (held_bits_lt n (h ++ p) P) R r k) (front_kept (held_bits n (h ++ p) P) S R r)
      (λ k l. near far inv R r k e lr p holds l) three

  module _ (code : (R r : ℕ) → R / 2 ≡ P → r < 16 → Checked R → CodeWord (word_of S R r))
      (three : (R r : ℕ) → R / 2 ≡ P → r < 16 → Checked R → wrong_bits S W R r ≤ 3) where
    -- A repaired word, checked or not, is right wherever the delivered bits are,
    repaired_word_right : (R r k : ℕ) → R / 2 ≡ P → r < 16 → k < 256 → word_of W R r k ≡ word_of S R r k
        → repaired_word n h P p (16 * (R % 2) + r) k ≡ word_of S R r k
    repaired_word_right R r k e lr lk same = go (checked R) refl
      where
        go : (b : Bool) → checked R ≡ b → repaired_word n h P p (16 * (R % 2) + r) k ≡ word_of S R r k
        go true t =
            ap (λ (w : Word). w k) (repaired_word_is n h P p R r e lr _ (repair_of_lem n h P p R r e lr true t))
            ∙ (word_outcome R r e lr (code R r e lr t) (three R r e lr t)).right k lk same
        go false t =
            ap (λ (w : Word). w k) (repaired_word_is n h P p R r e lr _ (repair_of_lem n h P p R r e lr false t))
            ∙ repaired_off Sound (word_of (held_bits n (h ++ p) P) R r) k tt ∙ near far inv R r k e lr p holds lk same

    -- and so is the newest pair.
    pub newest_right : RightPair S W P (newest_pair n h P p)
    newest_right =
        record {
          size = length_newest n h P p;
          right = λ R C r c e lC lr lc same.
              newest_bit n h P p R C r c lC lr lc
              ∙ repaired_word_right R r (back_place C r c) e lr (back_place_lt C r c lC lr lc) (word_at W R C r c lr lc ∙ same ∙ sym (word_at S R C r c lr lc))
              ∙ word_at S R C r c lr lc;
        }

-- ---- the history of a receiver

-- The history of n pairs before pair P of a receiver that takes these pairs.
unfoldable pub receiver_history : ℕ → (ℕ → List ℕ) → ℕ → List ℕ
receiver_history n pair = history_after n (newest_pair n) pair

-- It is right: a held bit whose delivered bit is right is the sent bit.
pub receiver_right : {n : ℕ} → reach ≤ n → {S W : RowBits} (pair : ℕ → List ℕ) (k : ℕ) → ((P : ℕ) → P < k → Holds W P (pair P))
    → ((R r : ℕ) → R < 2 * k → r < 16 → Checked R → CodeWord (word_of S R r)) → Limit S W k → (m : ℕ) → m ≤ k
    → Right n S W m (receiver_history n pair m)
unfolding receiver_history
receiver_right {n} far {S} {W} pair k holds code limit m l =
    right_after (omega arith) S W (newest_pair n) pair m
    (λ P h lP inv.
    newest_right far inv (pair P) (holds P (omega arith)) (λ R r e lr t. code R r (omega arith) lr t) (λ R r e lr t. limit.three R r (omega arith) lr t))
