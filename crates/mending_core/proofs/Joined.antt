-- The words that are no code words, as a fold over the sums tells them.
-- Assumes nothing.
use Rattle.std.specs.Prelude.{◌≡◌, List, ◌++◌, [], ◌∷◌, fold, take, ℕ, zero, suc, ◌≤◌, length, get_or}
use Rattle.std.proofs.Common.{subst, arith, add-one, take_all, bit_or}
use Rattle.std.proofs.Math.Seq.{take-suc}
use Rattle.std.proofs.lemmas.List.Sums.{fold_push}
use Rattle.gathering_spec.specs.Dirty.{Joining}
use Rattle.gathering_spec.proofs.Dirty.{joining_none, joining_more}

module _ (q : ℕ) (t : List ℕ) (l : length t ≡ 16) where
  first : (k : ℕ) → k ≤ 16 → Joining q t k (fold bit_or q (take k t))
  first zero h = joining_none q t
  first (suc k) h =
      let e : take (suc k) t ≡ take k t ++ (get_or t k 0 ∷ []) = take-suc t k 0 (omega arith) in
      rw (e, fold_push bit_or q (take k t) (get_or t k 0), ← add-one k) (joining_more (first k (omega arith)) (omega arith))

  pub joined : (d : ℕ) → d ≡ fold bit_or q t → Joining q t 16 d
  joined d e = rw e (subst (λ s. Joining q t 16 (fold bit_or q s)) (take_all 16 t (omega arith)) (first 16 (omega arith)))
