-- Laws of specs/Telling.antt, and the cases of `confined`, as code tells them.
-- Assumes nothing.
use Rattle.std.specs.Prelude.{◌≡◌, refl, Bool, true, false, cond, ◌⊎◌, ℕ, ◌<◌, ◌≤◌, ltb}
use Rattle.std.proofs.Common.{sym, ◌∙◌, inl, inr, arith, lt-ltb, le-ltb}
use Rattle.word_spec.specs.Locating.{Located, confined}
use Rattle.word_spec.proofs.Locating.{one_lost, two_lost, located_repair}
use Rattle.word_spec.specs.declared.Repair.{Repair}
use Rattle.word_spec.specs.declared.Repair.TheVariants.{Sound, One, Two, Lost}
use Rattle.word_spec.specs.declared.Syndromes.{Syndromes}
use Rattle.locating_core.specs.Telling.{Told, Inside}

pub confined_none : (b : Bool) (r : Repair) → (r ≡ Sound) ⊎ (r ≡ Lost) → r ≡ confined b r
unfolding confined
confined_none true r h = refl
confined_none false r (inl e) = rw e refl
confined_none false r (inr e) = rw e refl

-- Where i is its first place.
abbrev pub Begins : Repair → ℕ → Type 0
Begins r i = (r ≡ One i) ⊎ ((j : ℕ) × (r ≡ Two i j))

pub confined_kept : (b : Bool) (r : Repair) (i : ℕ) → Begins r i → (b ≡ true) ⊎ ((b ≡ false) × (128 ≤ i)) → r ≡ confined b r
unfolding confined
confined_kept true r i h f = refl
confined_kept false r i h (inl e) = absurd (let z : ◌≡◌ {A = ℕ} 0 1 = cc in omega arith)
confined_kept false r i (inl d) (inr f) = rw d (simp (le-ltb i 128 f.1))
confined_kept false r i (inr (j, d)) (inr f) = rw d (simp (le-ltb i 128 f.1))

pub confined_lost : (b : Bool) (r : Repair) (i : ℕ) → Begins r i → (b ≡ false) × (i < 128) → Lost ≡ confined b r
unfolding confined
confined_lost true r i h (e, l) = absurd (let z : ◌≡◌ {A = ℕ} 0 1 = cc in omega arith)
confined_lost false r i (inl d) f = rw d (simp (lt-ltb i 128 f.1))
confined_lost false r i (inr (j, d)) f = rw d (simp (lt-ltb i 128 f.1))

pub located_told : (front : Bool) (s : Syndromes) (q r : Repair) → Located s q → r ≡ confined front q → Told front s r
located_told front s q r L e = record { told = λ w b h. e ∙ sym (located_repair w b front q (rw h at L)) }

-- What was located lies in the word, and confined it still does.
lost_or : (t : Bool) (x : Repair) → Inside x → Inside (cond t Lost x)
lost_or true x i = tt
lost_or false x i = i

located_inside : (s : Syndromes) (q : Repair) → Located s q → Inside q
located_inside s Sound L = tt
located_inside s (One i) L = (L.found (one_lost i)).0.1
located_inside s (Two i j) L = let t = (L.found (two_lost i j)).0 in (omega (arith, t.1, t.2), t.2)
located_inside s Lost L = tt

within : (front : Bool) (q : Repair) → Inside q → Inside (confined front q)
unfolding confined
within true q i = i
within false Sound i = tt
within false (One k) i = lost_or (ltb k 128) (One k) i
within false (Two j k) i = lost_or (ltb j 128) (Two j k) i
within false Lost i = tt

pub confined_inside : (s : Syndromes) (front : Bool) (q r : Repair) → Located s q → r ≡ confined front q → Inside r
confined_inside s front q r L e = rw e (within front q (located_inside s q L))
