-- What repair is, over all words of 256 bits and both settings of the flag (demand 2, inward).
-- Assumes nothing.
use Rattle.std.specs.Prelude.{◌≡◌, Bool, true, false, cond, List, [], ◌∷◌, ◌⊎◌, ◌≢◌}
use Rattle.std.proofs.Math.Path.{refl}
use Rattle.std.proofs.Common.{sym, ap, ap₂, ◌∙◌, arith}
use Rattle.std.proofs.Math.Logic.{inl, inr, ⊎_elim}
use Prim.Native.Nat.{ℕ, zero, suc, ◌-◌, ◌<◌, ◌≤◌}
use Rattle.std.proofs.Math.Decide.{ℕ_discrete, dec_lt, dec_le}
use Rattle.bits.specs.Count.{count, differs, distance}
use Rattle.bits.proofs.CountLaws.{count_zero, Differs, same, other, tell, differs_eq, differs_le, distance_triangle, distance_sym}
use Rattle.bits.proofs.CountLaws.{distance_ext}
use Rattle.word_spec.specs.CodeWord.{Word, CodeWord, is_code_word}
use Rattle.word_spec.proofs.Distance.{Last, last_set, code_distance}
use Rattle.word_spec.specs.Repair.{repaired, mark, first_place, open_places, candidates, first_that, repair}
use Rattle.word_spec.specs.Marks.{not_lost, lost, mark_meaning}
use Rattle.word_spec.specs.Search.{Allowed}
use Rattle.word_spec.proofs.Search.{first_passes, first_found, in_open, of_open}
use Rattle.word_spec.proofs.RepairLaws.{Bits, FrontKept, code_ext, code_test_passes, test_passed, repaired_off, repaired_one}
use Rattle.word_spec.proofs.RepairLaws.{repaired_two_first, repaired_two_second, repaired_bits, repaired_ext, test_ext, not_both}
use Rattle.word_spec.proofs.RepairLaws.{lost_is, lost_mark, mark_distance, same_repair}
use Rattle.word_spec.specs.declared.Repair.{Repair}
use Rattle.word_spec.specs.declared.Repair.TheVariants.{Sound, One, Two, Lost}

-- Flips from a later place on are flips from an earlier one on.
pub allowed_low : (front : Bool) (r : Repair) → Allowed (first_place front) r → Allowed 0 r
allowed_low front Sound t = tt
allowed_low front (One i) t = (omega arith, t.1)
allowed_low front (Two i j) t = (omega arith, t.1, t.2)
allowed_low front Lost t = absurd t

pub allowed_mark : (r : Repair) → Allowed 0 r → mark r ≤ 2
unfolding mark
allowed_mark Sound t = omega arith
allowed_mark (One i) t = omega arith
allowed_mark (Two i j) t = omega arith
allowed_mark Lost t = absurd t

-- An allowed repair keeps the front half where flips may not fall there.
allowed_front : (front : Bool) (r : Repair) (w : Word) → Allowed (first_place front) r → FrontKept front w (repaired r w)
allowed_front true r w t = tt
allowed_front false Sound w t = λ k l. sym (repaired_off Sound w k tt)
allowed_front false (One i) w t = λ k l. sym (repaired_off (One i) w k (omega (arith, t.0)))
allowed_front false (Two i j) w t = λ k l. sym (repaired_off (Two i j) w k (omega (arith, t.0), omega (arith, t.0, t.1)))
allowed_front false Lost w t = absurd t

module _ (front : Bool) (w : Word) (b : Bits w) where
  -- ---- the search finds the one repair that there is

  -- Two allowed repairs that each yield a code word are one.
  pub unique : (r s : Repair) → Allowed (first_place front) r → Allowed (first_place front) s → CodeWord (repaired r w)
      → CodeWord (repaired s w) → r ≡ s
  unique r s t u C D =
      let t0 = allowed_low front r t in
      let u0 = allowed_low front s u in
      same_repair w b r s t0 u0
      (code_distance (repaired r w) (repaired s w) C D
      (omega (
        arith,
        distance_triangle 256 (repaired r w) w (repaired s w),
        distance_sym 256 (repaired r w) w,
        mark_distance w b r t0,
        mark_distance w b s u0,
        allowed_mark r t0,
        allowed_mark s u0,
      )))

  pub repair_is : (r : Repair) → Allowed (first_place front) r → CodeWord (repaired r w) → repair front w ≡ r
  unfolding repair
  repair_is r t C =
      let f = first_found (λ s. is_code_word (repaired s w)) (candidates (open_places front)) r (in_open front r t) (code_test_passes (repaired r w) C) in
      let s = repair front w in
      unique s r (of_open front s f.0) t (test_passed (repaired s w) (λ k l. repaired_bits s w k (b k l)) f.1) C

  -- Either the word is lost, or the repair is allowed and yields a code word.
  pub found_or_lost : (repair front w ≡ Lost) ⊎ (Allowed (first_place front) (repair front w) × CodeWord (repaired (repair front w) w))
  unfolding repair
  found_or_lost =
      let s = repair front w in
      ⊎_elim (λ e. inl e) (λ p. inr (of_open front s p.0, test_passed (repaired s w) (λ k l. repaired_bits s w k (b k l)) p.1))
      (first_passes (λ s. is_code_word (repaired s w)) (candidates (open_places front)))

  pub repair_none : ((r : Repair) → Allowed (first_place front) r → CodeWord (repaired r w) → ⊥) → repair front w ≡ Lost
  repair_none f = ⊎_elim (λ e. e) (λ p. absurd (f (repair front w) p.0 p.1)) found_or_lost

  -- ---- a code word within two allowed flips is what an allowed repair yields

  module _ (c : Word) (C : CodeWord c) where
    -- Where two bits differ, one is the other flipped.
    flip_of : (k : ℕ) → k < 256 → differs (w k) (c k) ≡ 1 → c k ≡ 1 - w k
    flip_of k l e = go (tell (w k) (c k))
      where
        go : Differs (w k) (c k) → c k ≡ 1 - w k
        go (same p z) = absurd (omega arith)
        go (other n z) = omega (arith, b k l, C.bits k l)

    open_at : FrontKept front w c → (k : ℕ) → differs (w k) (c k) ≡ 1 → first_place front ≤ k
    open_at kept k e = go front kept (tell (w k) (c k)) (dec_le 128 k)
      where
        go : (g : Bool) → FrontKept g w c → Differs (w k) (c k) → Dec (128 ≤ k) → first_place g ≤ k
        go true t d l = omega arith
        go false h d (yes l) = l
        go false h (same p z) (no l) = absurd (omega arith)
        go false h (other n z) (no l) = absurd (n (h k (omega arith)))

    -- An allowed repair that yields c.
    abbrev Yields : Type 0
    Yields = (r : Repair) × Allowed (first_place front) r × ((k : ℕ) → k < 256 → repaired r w k ≡ c k)

    f : Word
    f k = differs (w k) (c k)

    f_bits : (k : ℕ) → k < 256 → f k < 2
    unfolding f
    f_bits k l = omega (arith, differs_le (w k) (c k))

    equal_at : (k : ℕ) → f k ≡ 0 → w k ≡ c k
    unfolding f
    equal_at k e = differs_eq (w k) (c k) e

    module _ (kept : FrontKept front w c) where
      yields_one : count 256 f ≡ 1 → Yields
      unfolding f
      yields_one e = (One i, (open_at kept i p.set, p.inside), λ k l. by k l (ℕ_discrete k i) (dec_lt k i))
        where
          p : Last f 256 0
          p = last_set f 256 0 f_bits e

          i : ℕ
          i = p.place

          by : (k : ℕ) → k < 256 → Dec (k ≡ i) → Dec (k < i) → repaired (One i) w k ≡ c k
          by k l (yes q) d = rw q (repaired_one i w ∙ sym (flip_of i p.inside p.set))
          by k l (no n) (yes m) = repaired_off (One i) w k n ∙ equal_at k (count_zero i f p.fewer k m)
          by k l (no n) (no m) = repaired_off (One i) w k n ∙ equal_at k (p.above k (omega arith) l)

      yields_two : count 256 f ≡ 2 → Yields
      unfolding f
      yields_two e =
          (Two i j, (open_at kept i q.set, q.inside, p.inside), λ k l. by k l (ℕ_discrete k i) (ℕ_discrete k j) (dec_lt k i) (dec_lt k j))
        where
          p : Last f 256 1
          p = last_set f 256 1 f_bits e

          j : ℕ
          j = p.place

          q : Last f p.place 0
          q = last_set f p.place 0 (λ k l. f_bits k (omega (arith, p.inside))) p.fewer

          i : ℕ
          i = q.place

          i_lt : i < 256
          i_lt = omega (arith, p.inside, q.inside)

          off : (k : ℕ) → k < 256 → k ≢ i → k ≢ j → f k ≡ 0 → repaired (Two i j) w k ≡ c k
          off k l n m z = repaired_off (Two i j) w k (n, m) ∙ equal_at k z

          by : (k : ℕ) → k < 256 → Dec (k ≡ i) → Dec (k ≡ j) → Dec (k < i) → Dec (k < j) → repaired (Two i j) w k ≡ c k
          by k l (yes d) _ _ _ = rw d (repaired_two_first i j w q.inside ∙ sym (flip_of i i_lt q.set))
          by k l (no n) (yes d) _ _ = rw d (repaired_two_second i j w q.inside ∙ sym (flip_of j p.inside p.set))
          by k l (no n) (no m) (yes x) _ = off k l n m (count_zero i f q.fewer k x)
          by k l (no n) (no m) (no x) (yes y) = off k l n m (q.above k (omega arith) y)
          by k l (no n) (no m) (no x) (no y) = off k l n m (p.above k (omega arith) l)

      near : distance 256 w c ≤ 2 → Yields
      unfolding distance f
      near h = go (count 256 f) refl h
        where
          go : (n : ℕ) → count 256 f ≡ n → n ≤ 2 → Yields
          go zero e l = (Sound, tt, λ k m. repaired_off Sound w k tt ∙ equal_at k (count_zero 256 f e k m))
          go (suc zero) e l = yields_one e
          go (suc (suc zero)) e l = yields_two e
          go (suc (suc (suc n))) e l = absurd (omega arith)

      -- The only one: a code word within two allowed flips is the word that repair yields, and their number is its mark.
      pub repair_only : distance 256 w c ≤ 2
          → (mark (repair front w) ≡ distance 256 w c) × ((k : ℕ) → k < 256 → repaired (repair front w) w k ≡ c k)
      repair_only h =
          let y = near h in
          let e : repair front w ≡ y.0 = repair_is y.0 y.1 (code_ext c (repaired y.0 w) (λ k l. sym (y.2 k l)) C) in (
            ap mark e ∙ sym (mark_distance w b y.0 (allowed_low front y.0 y.1)) ∙ distance_ext 256 w (repaired y.0 w) w c (λ k l. refl) y.2,
            λ k l. ap (λ r. repaired r w k) e ∙ y.2 k l,
          )

  -- ---- the theorems

  -- A word that is not lost becomes a code word, by as many allowed flips as its mark says.
  pub repair_found : mark_meaning (mark (repair front w)) ≡ not_lost
      → CodeWord (repaired (repair front w) w) × (distance 256 w (repaired (repair front w) w) ≡ mark (repair front w))
      × FrontKept front w (repaired (repair front w) w)
  repair_found n =
      ⊎_elim (λ e. absurd (not_both (mark (repair front w)) n (ap (λ r. mark_meaning (mark r)) e ∙ lost_mark)))
      (λ p. (p.1, mark_distance w b (repair front w) (allowed_low front (repair front w) p.0), allowed_front front (repair front w) w p.0))
      found_or_lost

  -- A lost word has no code word within two allowed flips.
  pub repair_lost : mark_meaning (mark (repair front w)) ≡ lost → (c : Word) → CodeWord c → FrontKept front w c → 2 < distance 256 w c
  repair_lost e c C kept = go (dec_le (distance 256 w c) 2)
    where
      go : Dec (distance 256 w c ≤ 2) → 2 < distance 256 w c
      go (yes h) = absurd (omega (arith, lost_is (mark (repair front w)) e, (repair_only c C kept h).0))
      go (no h) = omega arith

  -- Lost exactly when there is none: and the other way.
  pub none_lost : ((c : Word) → CodeWord c → FrontKept front w c → 2 < distance 256 w c) → mark_meaning (mark (repair front w)) ≡ lost
  none_lost f =
      ⊎_elim (λ e. ap (λ r. mark_meaning (mark r)) e ∙ lost_mark)
      (λ p.
      let r = repair front w in
      let t = allowed_low front r p.0 in
      absurd (omega (arith, f (repaired r w) p.1 (allowed_front front r w p.0), mark_distance w b r t, allowed_mark r t)))
      found_or_lost

-- Repair depends on the 256 bits alone.
first_ext : (s t : Repair → Bool) → ((r : Repair) → s r ≡ t r) → (l : List Repair) → first_that s l ≡ first_that t l
unfolding first_that
first_ext s t e [] = refl
first_ext s t e (r ∷ rs) = ap₂ (λ (b : Bool) (x : Repair). cond b r x) (e r) (first_ext s t e rs)

pub repair_ext : (front : Bool) (x y : Word) → ((k : ℕ) → k < 256 → x k ≡ y k) → repair front x ≡ repair front y
unfolding repair
repair_ext front x y e =
    first_ext (λ r. is_code_word (repaired r x)) (λ r. is_code_word (repaired r y))
    (λ r. test_ext (repaired r x) (repaired r y) (λ k l. repaired_ext r x y k (e k l))) (candidates (open_places front))
