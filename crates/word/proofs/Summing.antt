-- A fold by exclusive or over the places 0 to n - 1.
-- Assumes nothing.
use Rattle.std.specs.Prelude.{◌≡◌, refl, List, fold, ℕ, ◌-◌, get_or}
use Rattle.std.proofs.Common.{ap, sym, ◌∙◌, arith, zero-add}
use Rattle.std.specs.Fn.{Called}
use Rattle.std.specs.Iterator.{Drains}
use Rattle.std.specs.List.{range_with_len, FoldsTo}
use Rattle.std.proofs.iter.Yields.{nat_range_steps, Range-gives}
use Rattle.std.proofs.lemmas.Fn.{fold_over}
use Rattle.std.proofs.lemmas.List.Sums.{fold_push}
use denote.Param.Members.{Mut}
use Rattle.std.proofs.lemmas.List.FromFn.{length-range_with_len, get_or-range_with_len}
use Rattle.bits.specs.Xor.{◌⊕◌, xor_sum}
use Rattle.bits.proofs.XorLaws.{xor_sum_ext}
use Rattle.bits.proofs.Folding.{sum_from_fold}

xor_fold : (h : ℕ → ℕ) (n : ℕ) → fold (λ a k. a ⊕ h k) 0 (range_with_len 0 n) ≡ xor_sum n h
xor_fold h n =
    sum_from_fold h (range_with_len 0 n) 0 ∙ ap (λ m. xor_sum m (λ i. h (get_or (range_with_len 0 n) i 0))) (length-range_with_len 0 n)
    ∙ xor_sum_ext n (λ i. h (get_or (range_with_len 0 n) i 0)) h (λ i l. ap h (get_or-range_with_len 0 n i 0 l ∙ zero-add i))

-- Where each call of the closure adds what h gives for the place.
pub folded_xor : {F : Type 0} {g : Mut F (ℕ × (ℕ × Unit {0})) ℕ} {f : F} {r : ℕ} (n : ℕ) (h : ℕ → ℕ)
    → ((a k b : ℕ) (q : F) → Called g f (a, (k, tt)) b q → (b ≡ a ⊕ h k) × (q ≡ f))
    → (xs : List ℕ) × (q : F) × Drains nat_range_steps (record { start = 0; end = n }) xs × FoldsTo {P = F × ℕ} (λ p x q. Called g p.0 (p.1, (x, tt)) q.1 q.0) (f, 0) xs (q, r)
    → r ≡ xor_sum n h
folded_xor {F} {g} {f} {r} n h step ran =
    let whole : n - 0 ≡ n = omega arith in
    fold_over nat_range_steps (λ x. x) g (λ ys a. a ≡ fold (λ a k. a ⊕ h k) 0 ys) f
    (λ ys a x b q j k. let s = step a x b q k in (s.0 ∙ ap (λ u. u ⊕ h x) j ∙ sym (fold_push (λ a k. a ⊕ h k) 0 ys x), s.1))
    (record { start = 0; end = n }) (range_with_len 0 (n - 0)) 0 r (Range-gives (record { start = 0; end = n })) refl ran
    ∙ xor_fold h (n - 0) ∙ ap (λ m. xor_sum m h) whole
