-- Laws of repair, over all words of 256 bits and both settings of the flag: what it yields is a code word within two allowed
-- flips, it is the only one, and the word is lost exactly when there is none.
-- Assumes nothing.
use Rattle.std.specs.Prelude.{◌≡◌, refl, Bool, true, false, cond, ◌⊎◌, ◌≢◌, eqb}
use Rattle.std.proofs.Math.Path.{sym, ap₂}
use Rattle.std.proofs.Common.{ap, ◌∙◌, subst, inl, inr, arith, eq-eqb, eqb-true}
use Prim.Native.Nat.{ℕ, zero, suc, ◌+◌, ◌-◌, ◌%◌, ◌<◌, ◌≤◌}
use Rattle.std.proofs.Math.Decide.{ℕ_discrete}
use Rattle.bits.specs.Bits.{flipped}
use Rattle.bits.proofs.BitLaws.{flipped_at, flipped_off}
use Rattle.bits.specs.Count.{differs, distance}
use Rattle.bits.proofs.CountLaws.{count_ext, count_one, count_two, differs_other, differs_same, distance_none}
use Rattle.word_spec.specs.CodeWord.{Word, remainder, parity, CodeWord, is_code_word}
use Rattle.word_spec.proofs.RemainderLaws.{BitsTo, remainder_ext}
use Rattle.word_spec.specs.Repair.{places, flip_all, repaired, mark}
use Rattle.word_spec.specs.Marks.{not_lost, lost, mark_meaning}
use Rattle.word_spec.specs.Search.{Allowed}
use Rattle.word_spec.specs.declared.Repair.{Repair}
use Rattle.word_spec.specs.declared.Repair.TheVariants.{Sound, One, Two, Lost}

-- A word of 256 bits.
abbrev pub Bits : Word → Type 0
Bits w = BitsTo 256 w

-- Where flips may not fall in the front half, two words agree there.
abbrev pub FrontKept : Bool → Word → Word → Type 0
FrontKept true x c = Unit {0}
FrontKept false x c = (k : ℕ) → k < 128 → x k ≡ c k

-- ---- code words and the test of them

pub code_ext : (c d : Word) → ((k : ℕ) → k < 256 → c k ≡ d k) → CodeWord c → CodeWord d
unfolding parity
code_ext c d e C =
    record {
      bits = λ k l. subst (λ u. u < 2) (e k l) (C.bits k l);
      divisible = sym (remainder_ext 255 c d (λ k l. e k (omega arith))) ∙ C.divisible;
      even = ap (λ n. n % 2) (sym (count_ext 256 c d e)) ∙ C.even;
    }

pub test_ext : (x y : Word) → ((k : ℕ) → k < 256 → x k ≡ y k) → is_code_word x ≡ is_code_word y
unfolding is_code_word parity
test_ext x y e =
    ap₂ (λ (a b : ℕ). cond (eqb a 0) (eqb (b % 2) 0) false) (remainder_ext 255 x y (λ k l. e k (omega arith))) (count_ext 256 x y e)

pub code_test_passes : (w : Word) → CodeWord w → is_code_word w ≡ true
unfolding is_code_word
code_test_passes w C = simp (eq-eqb (remainder 255 w) 0 C.divisible, eq-eqb (parity w) 0 C.even)

pub test_passed : (w : Word) → Bits w → is_code_word w ≡ true → CodeWord w
unfolding is_code_word
test_passed w b e = go (eqb (remainder 255 w) 0) refl e
  where
    go : (t : Bool) → eqb (remainder 255 w) 0 ≡ t → cond t (eqb (parity w) 0) false ≡ true → CodeWord w
    go true d p = record { bits = b; divisible = eqb-true (remainder 255 w) 0 d; even = eqb-true (parity w) 0 p }
    go false d p = absurd (let q : ◌≡◌ {A = ℕ} 0 1 = ap (λ (t : Bool). cond t 1 0) p in omega arith)

-- ---- what a repair does to a word, place by place

-- The place k is none of a repair's.
abbrev pub Off : Repair → ℕ → Type 0
Off Sound k = Unit {0}
Off (One i) k = k ≢ i
Off (Two i j) k = (k ≢ i) × (k ≢ j)
Off Lost k = Unit {0}

pub repaired_off : (r : Repair) (w : Word) (k : ℕ) → Off r k → repaired r w k ≡ w k
unfolding repaired places flip_all
repaired_off Sound w k o = refl
repaired_off (One i) w k o = flipped_off i w k o
repaired_off (Two i j) w k o = flipped_off i (flipped j w) k o.0 ∙ flipped_off j w k o.1
repaired_off Lost w k o = refl

pub repaired_one : (i : ℕ) (w : Word) → repaired (One i) w i ≡ 1 - w i
unfolding repaired places flip_all
repaired_one i w = flipped_at i w

pub repaired_two_first : (i j : ℕ) (w : Word) → i < j → repaired (Two i j) w i ≡ 1 - w i
unfolding repaired places flip_all
repaired_two_first i j w l = flipped_at i (flipped j w) ∙ ap (λ b. 1 - b) (flipped_off j w i (omega arith))

pub repaired_two_second : (i j : ℕ) (w : Word) → i < j → repaired (Two i j) w j ≡ 1 - w j
unfolding repaired places flip_all
repaired_two_second i j w l = flipped_off i (flipped j w) j (omega arith) ∙ flipped_at j w

pub flipped_ext : (i : ℕ) (x y : Word) (k : ℕ) → x k ≡ y k → flipped i x k ≡ flipped i y k
unfolding flipped
flipped_ext i x y k e = ap (λ b. cond (eqb k i) (1 - b) b) e

pub repaired_ext : (r : Repair) (x y : Word) (k : ℕ) → x k ≡ y k → repaired r x k ≡ repaired r y k
unfolding repaired places flip_all
repaired_ext Sound x y k e = e
repaired_ext (One i) x y k e = flipped_ext i x y k e
repaired_ext (Two i j) x y k e = flipped_ext i (flipped j x) (flipped j y) k (flipped_ext j x y k e)
repaired_ext Lost x y k e = e

flipped_bit : (i : ℕ) (w : Word) (k : ℕ) → w k < 2 → flipped i w k < 2
flipped_bit i w k b = go (ℕ_discrete k i)
  where
    go : Dec (k ≡ i) → flipped i w k < 2
    go (yes e) = rw (e, flipped_at i w) (omega arith)
    go (no n) = rw (flipped_off i w k n) b

pub repaired_bits : (r : Repair) (w : Word) (k : ℕ) → w k < 2 → repaired r w k < 2
unfolding repaired places flip_all
repaired_bits Sound w k b = b
repaired_bits (One i) w k b = flipped_bit i w k b
repaired_bits (Two i j) w k b = flipped_bit i (flipped j w) k (flipped_bit j w k b)
repaired_bits Lost w k b = b

-- ---- the mark

-- Every repair's mark says that the word is not lost or that it is, ..
pub mark_says : (r : Repair) → (mark_meaning (mark r) ≡ not_lost) ⊎ (mark_meaning (mark r) ≡ lost)
unfolding mark_meaning mark
mark_says Sound = inl refl
mark_says (One i) = inl refl
mark_says (Two i j) = inl refl
mark_says Lost = inr refl

-- .. and no number says both.
pub not_both : (m : ℕ) → mark_meaning m ≡ not_lost → mark_meaning m ≡ lost → ⊥
not_both m n l = let z : ◌≡◌ {A = ℕ} 0 1 = cc in omega arith

-- Not lost: 0, 1 or 2; lost: 3.
pub not_lost_le : (m : ℕ) → mark_meaning m ≡ not_lost → m ≤ 2
unfolding mark_meaning
not_lost_le zero e = omega arith
not_lost_le (suc zero) e = omega arith
not_lost_le (suc (suc zero)) e = omega arith
not_lost_le (suc (suc (suc zero))) e = absurd (let z : ◌≡◌ {A = ℕ} 0 1 = cc in omega arith)
not_lost_le (suc (suc (suc (suc m)))) e = absurd (let z : ◌≡◌ {A = ℕ} 0 1 = cc in omega arith)

pub lost_is : (m : ℕ) → mark_meaning m ≡ lost → m ≡ 3
unfolding mark_meaning
lost_is zero e = absurd (not_both 0 refl e)
lost_is (suc zero) e = absurd (not_both 1 refl e)
lost_is (suc (suc zero)) e = absurd (not_both 2 refl e)
lost_is (suc (suc (suc zero))) e = refl
lost_is (suc (suc (suc (suc m)))) e = absurd (let z : ◌≡◌ {A = ℕ} 0 1 = cc in omega arith)

pub lost_mark : mark_meaning (mark Lost) ≡ lost
unfolding mark_meaning mark
lost_mark = refl

pub mark_lost : (r : Repair) → mark_meaning (mark r) ≡ lost → r ≡ Lost
unfolding mark_meaning mark
mark_lost Sound e = absurd (not_both 0 refl e)
mark_lost (One i) e = absurd (not_both 1 refl e)
mark_lost (Two i j) e = absurd (not_both 2 refl e)
mark_lost Lost e = refl

-- "the word is lost and unaltered"
pub lost_unaltered : (r : Repair) → mark_meaning (mark r) ≡ lost → (w : Word) (k : ℕ) → repaired r w k ≡ w k
lost_unaltered r e w k = ap (λ s. repaired s w k) (mark_lost r e) ∙ repaired_off Lost w k tt

-- The mark of an allowed repair is the number of places at which the word is changed.
module _ (w : Word) (b : Bits w) where
  turned : (k : ℕ) (r : Repair) → k < 256 → repaired r w k ≡ 1 - w k → differs (w k) (repaired r w k) ≡ 1
  turned k r l e = differs_other (w k) (repaired r w k) (λ p. omega (arith, b k l))

  kept : (k : ℕ) (r : Repair) → Off r k → differs (w k) (repaired r w k) ≡ 0
  kept k r o = differs_same (w k) (repaired r w k) (sym (repaired_off r w k o))

  pub mark_distance : (r : Repair) → Allowed 0 r → distance 256 w (repaired r w) ≡ mark r
  unfolding distance mark
  mark_distance Sound t = distance_none 256 w (repaired Sound w) (λ k l. sym (repaired_off Sound w k tt))
  mark_distance (One i) t =
      count_one 256 i (λ k. differs (w k) (repaired (One i) w k)) t.1 (λ k l n. kept k (One i) n)
      ∙ turned i (One i) t.1 (repaired_one i w)
  mark_distance (Two i j) t =
      count_two 256 i j (λ k. differs (w k) (repaired (Two i j) w k)) t.1 t.2 (λ k l n m. kept k (Two i j) (n, m))
      ∙ ap₂ ◌+◌ (turned i (Two i j) (omega (arith, t.1, t.2)) (repaired_two_first i j w t.1))
      (turned j (Two i j) t.2 (repaired_two_second i j w t.1))
  mark_distance Lost t = absurd t

  -- ---- two repairs that yield one word are one

  clash : {A : Type 0} (k : ℕ) → k < 256 → 1 - w k ≡ w k → A
  clash k l e = absurd (omega (arith, b k l))

  module _ (r s : Repair) (agree : (k : ℕ) → k < 256 → repaired r w k ≡ repaired s w k) where
    -- At a place of r that is none of s there is a clash.
    only_left : {A : Type 0} (k : ℕ) → k < 256 → repaired r w k ≡ 1 - w k → Off s k → A
    only_left k l e o = clash k l (sym e ∙ agree k l ∙ repaired_off s w k o)

    only_right : {A : Type 0} (k : ℕ) → k < 256 → repaired s w k ≡ 1 - w k → Off r k → A
    only_right k l e o = clash k l (sym e ∙ sym (agree k l) ∙ repaired_off r w k o)

  pub same_repair : (r s : Repair) → Allowed 0 r → Allowed 0 s → ((k : ℕ) → k < 256 → repaired r w k ≡ repaired s w k) → r ≡ s
  same_repair Sound Sound t u e = refl
  same_repair Sound (One i) t u e = only_right Sound (One i) e i u.1 (repaired_one i w) tt
  same_repair Sound (Two i j) t u e = only_right Sound (Two i j) e j u.2 (repaired_two_second i j w u.1) tt
  same_repair (One i) Sound t u e = only_left (One i) Sound e i t.1 (repaired_one i w) tt
  same_repair (Two i j) Sound t u e = only_left (Two i j) Sound e j t.2 (repaired_two_second i j w t.1) tt
  same_repair (One i) (One j) t u e = go (ℕ_discrete i j)
    where
      go : Dec (i ≡ j) → One i ≡ One j
      go (yes p) = ap One p
      go (no n) = only_left (One i) (One j) e i t.1 (repaired_one i w) n
  same_repair (One i) (Two h j) t u e = go (ℕ_discrete i h)
    where
      go : Dec (i ≡ h) → One i ≡ Two h j
      go (yes p) = only_right (One i) (Two h j) e j u.2 (repaired_two_second h j w u.1) (omega (arith, u.1))
      go (no n) = only_right (One i) (Two h j) e h (omega (arith, u.1, u.2)) (repaired_two_first h j w u.1) (λ q. n (sym q))
  same_repair (Two h j) (One i) t u e = go (ℕ_discrete i h)
    where
      go : Dec (i ≡ h) → Two h j ≡ One i
      go (yes p) = only_left (Two h j) (One i) e j t.2 (repaired_two_second h j w t.1) (omega (arith, t.1))
      go (no n) = only_left (Two h j) (One i) e h (omega (arith, t.1, t.2)) (repaired_two_first h j w t.1) (λ q. n (sym q))
  same_repair (Two h j) (Two m n) t u e = go (ℕ_discrete h m) (ℕ_discrete j n) (ℕ_discrete h n)
    where
      go : Dec (h ≡ m) → Dec (j ≡ n) → Dec (h ≡ n) → Two h j ≡ Two m n
      go (yes p) (yes q) d = ap₂ Two p q
      go (yes p) (no q) d =
          only_left (Two h j) (Two m n) e j t.2 (repaired_two_second h j w t.1) (omega (arith, t.1), q)
      go (no p) q (yes d) =
          only_right (Two h j) (Two m n) e m (omega (arith, u.1, u.2)) (repaired_two_first m n w u.1) (λ c. p (sym c), omega (arith, u.1, t.1))
      go (no p) q (no d) =
          only_left (Two h j) (Two m n) e h (omega (arith, t.1, t.2)) (repaired_two_first h j w t.1) (p, d)
  same_repair Lost s t u e = absurd t
  same_repair Sound Lost t u e = absurd u
  same_repair (One i) Lost t u e = absurd u
  same_repair (Two i j) Lost t u e = absurd u
