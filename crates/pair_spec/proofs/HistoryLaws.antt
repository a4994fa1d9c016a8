-- Laws of histories, over the number n of pairs held: what a shift keeps, and the invariant of a list of calls.
-- Assumes nothing.
use Rattle.std.specs.Prelude.{◌≡◌, List, ◌++◌, length, get_or}
use Rattle.std.proofs.Common.{sym, ◌∙◌, arith, length-append, length-drop}
use Prim.Native.Nat.{ℕ, zero, suc, ◌+◌, ◌-◌, ◌*◌, ◌/◌, ◌%◌, ◌<◌, ◌≤◌}
use Rattle.std.proofs.Math.Decide.{ℕ_discrete}
use Rattle.std.proofs.lemmas.List.{length-replicate, get_or-replicate}
use Rattle.bits.proofs.BitLaws.{bit_lt}
use Rattle.pair_spec.specs.Rows.{RowBits, word_of}
use Rattle.pair_spec.specs.RowLaws.{reach, Place, zeros, before, own}
use Rattle.pair_spec.proofs.RowLaws.{place}
use Rattle.pair_spec.specs.Pairs.{pair_index, pair_bit}
use Rattle.pair_spec.specs.History.{depth, fresh, held_bits, shift}
use Rattle.pair_spec.specs.Promise.{Holds}
use Rattle.bits.proofs.BufferLaws.{bit_left, bit_right, bit_drop}

-- The depth of the calls' history reaches as far back as a front half.
pub deep : reach ≤ depth
deep = omega arith

pub held_bits_lt : (n : ℕ) (pairs : List ℕ) (P R C r c : ℕ) → held_bits n pairs P R C r c < 2
unfolding held_bits
held_bits_lt n pairs P R C r c = bit_lt pairs _

pub pair_index_lt : (s C r c : ℕ) → s < 2 → C < 8 → r < 16 → c < 16 → pair_index s C r c < 4096
unfolding pair_index
pair_index_lt s C r c ls lC lr lc = omega arith

pub length_fresh : (n : ℕ) → length (fresh n) ≡ 512 * n
unfolding fresh
length_fresh n = simp length-replicate

-- "all zero .. when fresh"
pub fresh_zero : (n j : ℕ) → j < 512 * n → get_or (fresh n) j 0 ≡ 0
unfolding fresh
fresh_zero n j l = get_or-replicate (512 * n) j 0 0 l

pub length_shift : (n : ℕ) (h q : List ℕ) → length h ≡ 512 * n → length q ≡ 512 → length (shift h q) ≡ 512 * n
unfolding shift
length_shift n h q a b = simp (length-drop, length-append) (omega arith)

-- ---- a pair after a history, and the shift

module _ (n : ℕ) (h q : List ℕ) (P : ℕ) (size : length h ≡ 512 * n) (R C r c : ℕ) (lC : C < 8) (lr : r < 16) (lc : c < 16) where
  inside : pair_index (R % 2) C r c < 4096
  inside = pair_index_lt (R % 2) C r c (omega arith) lC lr lc

  -- Rows of the pairs before are those of the history,
  pub held_before : R / 2 < P → P ≤ R / 2 + n → held_bits n (h ++ q) P R C r c ≡ held_bits n h P R C r c
  unfolding held_bits
  held_before l m = bit_left h q (4096 * (R / 2 + n - P) + pair_index (R % 2) C r c) (omega (arith, inside))

  -- rows of pair P those of the pair after it.
  pub held_newest : R / 2 ≡ P → held_bits n (h ++ q) P R C r c ≡ pair_bit q (R % 2) C r c
  unfolding held_bits pair_bit
  held_newest e = bit_right h q (4096 * (R / 2 + n - P) + pair_index (R % 2) C r c) (pair_index (R % 2) C r c) (omega arith)

  -- A history that is shifted holds the same rows for the pair after.
  pub held_shifted : P < R / 2 + n → held_bits n (shift h q) (suc P) R C r c ≡ held_bits n (h ++ q) P R C r c
  unfolding held_bits shift
  held_shifted l =
      bit_drop 512 (h ++ q) (4096 * (R / 2 + n - suc P) + pair_index (R % 2) C r c) (4096 * (R / 2 + n - P) + pair_index (R % 2) C r c) (omega arith)

-- ---- the invariant

-- Of every bit that a history of n pairs holds before pair P: where the delivered bit is right, the held one is the sent one.
pub record Right (n : ℕ) (S W : RowBits) (P : ℕ) (h : List ℕ) : Type 0 where
  pub size : length h ≡ 512 * n
  pub right : (R C r c : ℕ) → R / 2 < P → P ≤ R / 2 + n → C < 8 → r < 16 → c < 16 → W R C r c ≡ S R C r c
      → held_bits n h P R C r c ≡ S R C r c

-- Of a pair's bits: where the delivered bit is right, the pair's is the sent one.
pub record RightPair (S W : RowBits) (P : ℕ) (q : List ℕ) : Type 0 where
  pub size : length q ≡ 512
  pub right : (R C r c : ℕ) → R / 2 ≡ P → C < 8 → r < 16 → c < 16 → W R C r c ≡ S R C r c → pair_bit q (R % 2) C r c ≡ S R C r c

pub right_fresh : (n : ℕ) (S W : RowBits) → Right n S W 0 (fresh n)
right_fresh n S W = record { size = length_fresh n; right = λ R C r c l m lC lr lc e. absurd (omega arith) }

pub right_shift : {n : ℕ} {S W : RowBits} {P : ℕ} {h q : List ℕ} → 0 < n → Right n S W P h → RightPair S W P q
    → Right n S W (suc P) (shift h q)
right_shift {n} {S} {W} {P} {h} {q} some inv new = record { size = length_shift n h q inv.size new.size; right = right' }
  where
    right' : (R C r c : ℕ) → R / 2 < suc P → suc P ≤ R / 2 + n → C < 8 → r < 16 → c < 16 → W R C r c ≡ S R C r c
        → held_bits n (shift h q) (suc P) R C r c ≡ S R C r c
    right' R C r c l m lC lr lc e = held_shifted n h q P inv.size R C r c lC lr lc (omega arith) ∙ go (ℕ_discrete (R / 2) P)
      where
        go : Dec (R / 2 ≡ P) → held_bits n (h ++ q) P R C r c ≡ S R C r c
        go (yes d) = held_newest n h q P inv.size R C r c lC lr lc d ∙ new.right R C r c d lC lr lc e
        go (no d) =
            held_before n h q P inv.size R C r c lC lr lc (omega arith) (omega arith)
            ∙ inv.right R C r c (omega arith) (omega arith) lC lr lc e

-- ---- words over a history that reaches back far enough

module _ {n : ℕ} (far : reach ≤ n) {S W : RowBits} {P : ℕ} {h : List ℕ} (inv : Right n S W P h) (R r k : ℕ) (own_pair : R / 2 ≡ P) (lr : r < 16) where
  -- The front half as held is right wherever the delivered one is.
  pub near_front : k < 128 → word_of W R r k ≡ word_of S R r k → word_of (held_bits n h P) R r k ≡ word_of S R r k
  near_front l e = go (place R r k lr (omega arith))
    where
      go : Place R r k → word_of (held_bits n h P) R r k ≡ word_of S R r k
      go (zeros m is) = is (held_bits n h P) ∙ sym (is S)
      go (before Q C a c m lo hi lC la lc is) =
          is (held_bits n h P) ∙ inv.right Q C a c (omega arith) (omega arith) lC la lc (sym (is W) ∙ e ∙ is S) ∙ sym (is S)
      go (own C c m lC lc is) = absurd (omega arith)

  -- And so is the whole word, front as held and back as received.
  pub near : (q : List ℕ) → Holds W P q → k < 256 → word_of W R r k ≡ word_of S R r k → word_of (held_bits n (h ++ q) P) R r k ≡ word_of S R r k
  near q holds lk e = go (place R r k lr lk)
    where
      go : Place R r k → word_of (held_bits n (h ++ q) P) R r k ≡ word_of S R r k
      go (zeros m is) = is (held_bits n (h ++ q) P) ∙ sym (is S)
      go (before Q C a c m lo hi lC la lc is) =
          is (held_bits n (h ++ q) P) ∙ held_before n h q P inv.size Q C a c lC la lc (omega arith) (omega arith)
          ∙ inv.right Q C a c (omega arith) (omega arith) lC la lc (sym (is W) ∙ e ∙ is S) ∙ sym (is S)
      go (own C c m lC lc is) =
          is (held_bits n (h ++ q) P) ∙ held_newest n h q P inv.size R C r c lC lr lc own_pair
          ∙ holds.holds R C r c own_pair lC lr lc ∙ sym (is W) ∙ e

-- ---- the histories of a list of steps

-- The history of n pairs after m steps from fresh: each shifts in the pair that it makes of the history, the pair number and what it
-- is given.
unfoldable pub history_after : ℕ → (List ℕ → ℕ → List ℕ → List ℕ) → (ℕ → List ℕ) → ℕ → List ℕ
history_after n new given zero = fresh n
history_after n new given (suc m) = shift (history_after n new given m) (new (history_after n new given m) m (given m))

-- Where each step makes a right pair of a right history, all histories are right.
pub right_after : {n : ℕ} → 0 < n → (S W : RowBits) (new : List ℕ → ℕ → List ℕ → List ℕ) (given : ℕ → List ℕ) (m : ℕ)
    → ((P : ℕ) (h : List ℕ) → P < m → Right n S W P h → RightPair S W P (new h P (given P))) → Right n S W m (history_after n new given m)
unfolding history_after
right_after {n} some S W new given zero step = right_fresh n S W
right_after {n} some S W new given (suc m) step =
    let inv = right_after some S W new given m (λ P h l. step P h (omega arith)) in
    right_shift some inv (step m (history_after n new given m) (omega arith) inv)
