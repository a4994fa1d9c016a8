-- Laws for code that flips the places of a repair in a word of bytes.
-- Assumes nothing.
use Rattle.std.specs.Prelude.{◌≡◌, refl, List, Bool, ◌⊎◌, ℕ, ◌<◌, length, get_or}
use Rattle.std.proofs.Common.{sym, ap, ◌∙◌, inl, inr, arith}
use Rattle.bits.specs.Bits.{bit, pack, flipped}
use Rattle.bits.proofs.BitLaws.{bit_lt, bit_pack_of, flipped_lt, length_pack, pack_bit, pack_ext}
use Rattle.bits.specs.Xor.{◌⊕◌}
use Rattle.bits.proofs.XorLaws.{⊕_zero}
use Rattle.word_spec.specs.CodeWord.{Word}
use Rattle.word_spec.specs.Repair.{places, flip_all, repaired, repair}
use Rattle.word_spec.proofs.RepairLaws.{Bits, code_ext, flipped_ext}
use Rattle.word_spec.proofs.RepairTheorems.{repair_is}
use Rattle.word_spec.specs.Syndromes.{syndromes_of}
use Rattle.word_spec.proofs.RemainderLaws.{added}
use Rattle.word_spec.specs.Checks.{check, tail}
use Rattle.word_spec.proofs.CheckLaws.{checked_code}
use Rattle.word_spec.proofs.CompletionLaws.{tail_zero}
use Rattle.word_spec.specs.declared.Repair.{Repair}
use Rattle.word_spec.specs.declared.Repair.TheVariants.{Sound, One, Two, Lost}
use Rattle.word_spec.specs.declared.Syndromes.{Syndromes}
use Rattle.word.specs.Checking.{syndromes_are}
use Rattle.locating_core.specs.Telling.{Told, Inside}

-- Nothing flipped.
pub apply_none : (s : List ℕ) (r : Repair) → length s ≡ 32 → ((j : ℕ) → get_or s j 0 < 256) → ((w : Word) → repaired r w ≡ w)
    → s ≡ pack 32 (repaired r (bit s))
apply_none s r l b e = sym (ap (pack 32) (e (bit s)) ∙ pack_bit s 32 l b)

pub none_flipped : (r : Repair) → (r ≡ Sound) ⊎ (r ≡ Lost) → (w : Word) → repaired r w ≡ w
unfolding repaired places flip_all
none_flipped r (inl e) w = rw e refl
none_flipped r (inr e) w = rw e refl

pub apply_one : (s d : List ℕ) (r : Repair) (i : ℕ) → length s ≡ 32 → r ≡ One i → d ≡ pack (length s) (flipped i (bit s))
    → d ≡ pack 32 (repaired r (bit s))
unfolding repaired places flip_all
apply_one s d r i l e h = h ∙ rw (l, e) refl

pub apply_two : (s t d : List ℕ) (r : Repair) (i j : ℕ) → length s ≡ 32 → r ≡ Two i j → t ≡ pack (length s) (flipped j (bit s))
    → d ≡ pack (length t) (flipped i (bit t)) → d ≡ pack 32 (repaired r (bit s))
unfolding repaired places flip_all
apply_two s t d r i j l e f h =
    h ∙ ap (λ n. pack n (flipped i (bit t))) (ap length f ∙ length_pack (length s) (flipped j (bit s)) ∙ l)
    ∙ pack_ext 32 (flipped i (bit t)) (flipped i (flipped j (bit s)))
    (λ k h. flipped_ext i (bit t) (flipped j (bit s)) k
    (ap (λ x. bit x k) f ∙ bit_pack_of (length s) (flipped j (bit s)) (flipped_lt j (bit s) (bit_lt s)) k (omega arith)))
    ∙ rw e refl

-- The whole of a repair in place.
pub repaired_in_place : (s d : List ℕ) (front : Bool) (v : ℕ) (y : Syndromes) (r : Repair) → (v ≡ check (bit s)) × (v < 131072)
    → y ≡ syndromes_of (tail v) → Told front y r × Inside r → d ≡ pack 32 (repaired r (bit s))
    → (r ≡ repair front (bit s)) × (d ≡ pack 32 (repaired (repair front (bit s)) (bit s)))
repaired_in_place s d front v y r e ey t ed =
    let is : r ≡ repair front (bit s) = t.0.told (bit s) (λ k l. bit_lt s k) (syndromes_are s v y e ey) in
    (is, ed ∙ ap (λ x. pack 32 (repaired x (bit s))) is)

-- A word whose check bits are all 0 is a code word.
pub sound_in_place : (s : List ℕ) (front : Bool) (v : ℕ) → length s ≡ 32 → ((j : ℕ) → get_or s j 0 < 256) → (v ≡ check (bit s)) × (v < 131072)
    → v ≡ 0 → (Sound ≡ repair front (bit s)) × (s ≡ pack 32 (repaired (repair front (bit s)) (bit s)))
unfolding added repaired places flip_all
sound_in_place s front v l b e z = (is, apply_none s (repair front (bit s)) l b (none_flipped (repair front (bit s)) (inl (sym is))))
  where
    bits : Bits (bit s)
    bits k h = bit_lt s k

    same : (k : ℕ) → k < 256 → added (bit s) (tail (check (bit s))) k ≡ repaired Sound (bit s) k
    same k h = ap (λ u. bit s k ⊕ u) (ap (λ u. tail u k) (sym e.0 ∙ z) ∙ tail_zero k) ∙ ⊕_zero (bit s k)

    is : Sound ≡ repair front (bit s)
    is = sym (repair_is front (bit s) bits Sound tt (code_ext _ _ same (checked_code (bit s) bits)))

pub ruleset applying = (apply_one, apply_two)
