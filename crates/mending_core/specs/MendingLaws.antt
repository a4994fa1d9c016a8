-- Laws of repairs put into the back halves: as code flips, word by word, and the whole of a pair.
-- Assumes nothing.
use Rattle.std.specs.Prelude.{◌≡◌, Bool, true, false, List, ◌≢◌, ◌⊎◌, ltb, eqb, set}
use Rattle.std.proofs.Math.Path.{refl, sym, ap}
use Rattle.std.proofs.Common.{ap₂, ◌∙◌, inl, inr, zero-mul, one-mul, lt-ltb, le-ltb, eq-eqb, ne_eqb, lit<, shl_exact, get_or-set_same}
use Rattle.std.proofs.Math.Bool.{cond}
use Prim.Native.Nat.{ℕ, zero, suc, ◌+◌, ◌-◌, ◌*◌, ◌/◌, ◌%◌, ◌^◌, ◌<◌, ◌≤◌}
use native.Mathlib.Omega.{arith}
use Rattle.std.proofs.Math.Decide.{ℕ_discrete, dec_lt}
use Rattle.std.proofs.Math.ListN.{length, get_or, length-set}
use Rattle.std.proofs.Math.Pow.{pow-lt}
use Rattle.std.proofs.Math.Seq.{get_or-set_other}
use Rattle.std.proofs.lemmas.List.{set-get_or}
use Rattle.bits.specs.Bits.{bit_of, bit, from_bits, pack, flipped}
use Rattle.bits.proofs.BitLaws.{length_pack, pack_ext, bit_pack, bit_of_lt, bit_of_from_bits, from_bits_ext, from_bits_bit_of, flipped_at, flipped_off}
use Rattle.bits.proofs.FlipLaws.{flip_byte}
use Rattle.bits.specs.Lists.{tabulate}
use Rattle.bits.specs.ListLaws.{length_tabulate, get_d_tabulate, is_tabulate, tabulate_ext}
use Rattle.bits.specs.Xor.{◌⊕◌}
use Rattle.bits.proofs.XorLaws.{⊕_self, ⊕_zero, zero_⊕, ⊕_lt}
use Rattle.word_spec.specs.CodeWord.{Word, CodeWord}
use Rattle.word_spec.specs.Repair.{repair, repaired, places, flip_all, mark}
use Rattle.word_spec.proofs.RepairLaws.{Bits, repaired_bits, flipped_ext}
use Rattle.word_spec.proofs.RepairTheorems.{repair_is}
use Rattle.word_spec.specs.declared.Repair.{Repair}
use Rattle.word_spec.specs.declared.Repair.TheVariants.{Sound, One, Two, Lost}
use Rattle.word_spec.specs.declared.Syndromes.{Syndromes}
use Rattle.locating_core.specs.Telling.{Told, Inside}
use Rattle.pair_spec.specs.Pairs.{laid_out, coded_index, coded_pair}
use Rattle.pair_spec.specs.PairLaws.{length_coded_pair}
use Rattle.pair_spec.proofs.PairLaws.{coded_place, coded_place_lt, coded_index_is, coded_from, coded_back, coded_laid}
use Rattle.pair_words_core.specs.Halves.{word_half, word_halves}
use Rattle.networks_spec.proofs.NetworkLaws.{bit_of_⊕}
use Rattle.gathering_spec.specs.Sums.{Parities}
use Rattle.gathering_spec.specs.Dirty.{Dirty}
use Rattle.gathering_spec.proofs.Dirty.{zero_digit}
use Rattle.gathering_spec.specs.Collecting.{syndromes_in, ByWords, Collected}
use Rattle.gathering_spec.proofs.Collecting.{by_words_collected, syndromes_collected}
use Rattle.mending_core.specs.Sets.{bit_of_power, Removed}
use Rattle.mending_core.specs.Mending.{flipped_number, flipped_if, buffer_flipped_if, flipped_back, coded_bit, flipped_coded, mended_by, updated, Holding}
use Rattle.mending_core.specs.Mending.{repaired_by, in_set, Handled, HandledSet, HandledDirty, HandledAll}

-- ---- a number with one bit flipped, as code does it

bit_flip : (b : ℕ) → b < 2 → b ⊕ 1 ≡ 1 - b
unfolding ◌⊕◌
bit_flip zero h = refl
bit_flip (suc zero) h = refl
bit_flip (suc (suc b)) h = absurd (omega arith)

pub flip_number : (v j : ℕ) → v < 2 ^ 16 → j < 16 → v ⊕ (1 * 2 ^ (15 - j) % 2 ^ 16) ≡ flipped_number v j
unfolding flipped_number bit_of
flip_number v j lv lj =
    ap (λ m. v ⊕ m) (shl_exact 1 (15 - j) 16 (lit< tt) (omega arith) ∙ one-mul (2 ^ (15 - j)))
    ∙ sym (from_bits_bit_of 16 (v ⊕ 2 ^ (15 - j)) (⊕_lt 16 v (2 ^ (15 - j)) lv (pow-lt {i = 15 - j} {j = 16} (omega arith))))
    ∙ from_bits_ext 16 (bit_of 16 (v ⊕ 2 ^ (15 - j))) (flipped j (bit_of 16 v)) (λ c lc. ap (λ u. u % 2) (here c lc (ℕ_discrete c j)))
  where
    digit : (c : ℕ) → c < 16 → bit_of 16 (v ⊕ 2 ^ (15 - j)) c ≡ bit_of 16 v c ⊕ cond (eqb c j) 1 0
    digit c lc = bit_of_⊕ 16 v (2 ^ (15 - j)) c ∙ ap (λ u. bit_of 16 v c ⊕ u) (bit_of_power 16 j c (omega arith) lj lc)

    here : (c : ℕ) → c < 16 → Dec (c ≡ j) → bit_of 16 (v ⊕ 2 ^ (15 - j)) c ≡ flipped j (bit_of 16 v) c
    here c lc (yes e) =
        digit c lc ∙ ap (λ u. bit_of 16 v c ⊕ u) (simp (eq-eqb c j e)) ∙ bit_flip (bit_of 16 v c) (bit_of_lt 16 v c)
        ∙ ap (λ i. 1 - bit_of 16 v i) e ∙ sym (flipped_at j (bit_of 16 v)) ∙ ap (flipped j (bit_of 16 v)) (sym e)
    here c lc (no n) =
        digit c lc ∙ ap (λ u. bit_of 16 v c ⊕ u) (simp (ne_eqb c j n)) ∙ ⊕_zero (bit_of 16 v c) ∙ sym (flipped_off j (bit_of 16 v) c n)

pub flip_number_if : (v j b : ℕ) → v < 2 ^ 16 → j < 16 → b < 2 → v ⊕ (b * 2 ^ (15 - j) % 2 ^ 16) ≡ flipped_if b v j
unfolding flipped_if
flip_number_if v j zero lv lj lb = ap (λ m. v ⊕ (m % 2 ^ 16)) (zero-mul (2 ^ (15 - j))) ∙ ⊕_zero v
flip_number_if v j (suc zero) lv lj lb = flip_number v j lv lj
flip_number_if v j (suc (suc b)) lv lj lb = absurd (omega arith)

-- As code finds the number.
pub flipped_set : (w k n v u b : ℕ) (s : List ℕ) → k < 256 → n ≡ 8 * w + k % 128 / 16 → v ≡ get_or s n 0 → b ≡ k / 128 % 2 → u ≡ flipped_if b v ((k + 8) % 16)
    → set s n u ≡ flipped_back w k s
unfolding flipped_back flipped_if
flipped_set w k n v u b s lk en ev eb eu = go (dec_lt k 128)
  where
    go : Dec (k < 128) → set s n u ≡ cond (ltb k 128) s (set s (8 * w + (k - 128) / 16) (flipped_number (get_or s (8 * w + (k - 128) / 16) 0) ((k + 8) % 16)))
    go (yes l) =
        let z : b ≡ 0 = omega arith in
        let same : cond (eqb b 0) v (flipped_number v ((k + 8) % 16)) ≡ v = simp (eq-eqb b 0 z) in
        ap (set s n) (eu ∙ same ∙ ev) ∙ set-get_or s n 0 ∙ sym (simp (lt-ltb k 128 l))
    go (no l) =
        let z : b ≢ 0 = λ e. omega arith in
        let i : n ≡ 8 * w + (k - 128) / 16 = omega arith in
        let turned : cond (eqb b 0) v (flipped_number v ((k + 8) % 16)) ≡ flipped_number v ((k + 8) % 16) = simp (ne_eqb b 0 z) in
        ap (set s n) (eu ∙ turned) ∙ sym (simp (le-ltb k 128 (omega arith)) (rw (← i, ← ev) refl))

-- The same of a coded pair.
pub buffer_flip : (s : List ℕ) (i b : ℕ) → i < length s * 8 → ((j : ℕ) → get_or s j 0 < 256) → b < 2
    → set s (i / 8) (get_or s (i / 8) 0 ⊕ (b * 2 ^ (7 - i % 8) % 256)) ≡ buffer_flipped_if b i s
unfolding buffer_flipped_if
buffer_flip s i zero li small lb =
    ap (λ m. set s (i / 8) (get_or s (i / 8) 0 ⊕ (m % 256))) (zero-mul (2 ^ (7 - i % 8))) ∙ ap (set s (i / 8)) (⊕_zero (get_or s (i / 8) 0)) ∙ set-get_or s (i / 8) 0
buffer_flip s i (suc zero) li small lb = flip_byte s i li small
buffer_flip s i (suc (suc b)) li small lb = absurd (omega arith)

pub coded_set : (w k x i b : ℕ) (c a : List ℕ) → k < 256 → x ≡ (k % 16) ⊕ (w % 16) → i ≡ 128 * w + k % 128 / 16 * 16 + x → b ≡ k / 128 % 2
    → a ≡ buffer_flipped_if b i c → a ≡ flipped_coded w k c
unfolding flipped_coded coded_bit buffer_flipped_if
coded_set w k x i b c a lk ex ei eb ea = go (dec_lt k 128)
  where
    go : Dec (k < 128) → a ≡ cond (ltb k 128) c (pack (length c) (flipped (128 * w + (k - 128) / 16 * 16 + ((k % 16) ⊕ (w % 16))) (bit c)))
    go (yes l) =
        let z : b ≡ 0 = omega arith in
        let same : cond (eqb b 0) c (pack (length c) (flipped i (bit c))) ≡ c = simp (eq-eqb b 0 z) in
        ea ∙ same ∙ sym (simp (lt-ltb k 128 l))
    go (no l) =
        let z : b ≢ 0 = λ e. omega arith in
        let n : 128 * w + (k - 128) / 16 * 16 + x ≡ i = omega arith in
        let turned : cond (eqb b 0) c (pack (length c) (flipped i (bit c))) ≡ pack (length c) (flipped i (bit c)) = simp (ne_eqb b 0 z) in
        ea ∙ turned ∙ sym (simp (le-ltb k 128 (omega arith)) (rw (← ex, n) refl))

pub coded_long : (w k : ℕ) (c a : List ℕ) → length c ≡ 512 → a ≡ flipped_coded w k c → length a ≡ 512
unfolding flipped_coded
coded_long w k c a l e = ap length e ∙ go (ltb k 128)
  where
    go : (b : Bool) → length (cond b c (pack (length c) (flipped (coded_bit w k) (bit c)))) ≡ 512
    go true = l
    go false = length_pack (length c) (flipped (coded_bit w k) (bit c)) ∙ l

pub ruleset flipping = (flipped_set, coded_set)

-- ---- halves of words

pub halves_same : (f g : ℕ → Word) → ((u k : ℕ) → u < 32 → 128 ≤ k → k < 256 → f u k ≡ g u k) → word_halves f ≡ word_halves g
unfolding word_halves word_half
halves_same f g same =
    tabulate_ext 256 (word_half f) (word_half g)
    (λ n l. from_bits_ext 16 (λ c. f (n / 8) (128 + (16 * (n % 8) + (c + 8) % 16))) (λ c. g (n / 8) (128 + (16 * (n % 8) + (c + 8) % 16)))
    (λ c lc. ap (λ u. u % 2) (same (n / 8) (128 + (16 * (n % 8) + (c + 8) % 16)) (omega arith) (omega arith) (omega arith))))

updated_at : (w : ℕ) (v : Word) (f : ℕ → Word) (u : ℕ) → u ≡ w → updated w v f u ≡ v
unfolding updated
updated_at w v f u e = simp (eq-eqb u w e)

updated_off : (w : ℕ) (v : Word) (f : ℕ → Word) (u : ℕ) → u ≢ w → updated w v f u ≡ f u
unfolding updated
updated_off w v f u n = simp (ne_eqb u w n)

-- Words that differ from f in word w at most.
updated_same : (w : ℕ) (v : Word) (f g : ℕ → Word) → ((k : ℕ) → 128 ≤ k → k < 256 → v k ≡ g w k) → ((u k : ℕ) → u < 32 → u ≢ w → f u k ≡ g u k)
    → (u k : ℕ) → u < 32 → 128 ≤ k → k < 256 → updated w v f u k ≡ g u k
updated_same w v f g here there u k lu l m = go (ℕ_discrete u w)
  where
    go : Dec (u ≡ w) → updated w v f u k ≡ g u k
    go (yes e) = ap (λ (x : Word). x k) (updated_at w v f u e) ∙ here k l m ∙ ap (λ i. g i k) (sym e)
    go (no n) = ap (λ (x : Word). x k) (updated_off w v f u n) ∙ there u k lu n

half_bit : (f : ℕ → Word) (n c : ℕ) → ((u : ℕ) → Bits (f u)) → n < 256 → c < 16 → bit_of 16 (word_half f n) c ≡ f (n / 8) (128 + (16 * (n % 8) + (c + 8) % 16))
unfolding word_half
half_bit f n c bits ln lc =
    bit_of_from_bits 16 (λ c. f (n / 8) (128 + (16 * (n % 8) + (c + 8) % 16))) c lc ∙ omega (arith, bits (n / 8) (128 + (16 * (n % 8) + (c + 8) % 16)) (omega arith))

number_same : (f g : ℕ → ℕ) → ((c : ℕ) → c < 16 → f c ≡ g c) → from_bits 16 f ≡ from_bits 16 g
number_same f g same = from_bits_ext 16 f g (λ c l. ap (λ u. u % 2) (same c l))

back_placed : (f : ℕ → Word) → ((u : ℕ) → Bits (f u)) → (w k : ℕ) (s : List ℕ) → w < 32 → k < 256 → s ≡ word_halves f → 128 ≤ k
    → set s (8 * w + (k - 128) / 16) (from_bits 16 (flipped ((k + 8) % 16) (bit_of 16 (get_or s (8 * w + (k - 128) / 16) 0)))) ≡ word_halves (updated w (flipped k (f w)) f)
unfolding word_halves word_half
back_placed f bits w k s lw lk e m =
    is_tabulate 0 (set s n v) 256 (word_half g) (length-set s n v ∙ long) (λ i li. here i li (ℕ_discrete i n))
  where
    n : ℕ
    n = 8 * w + (k - 128) / 16

    v : ℕ
    v = from_bits 16 (flipped ((k + 8) % 16) (bit_of 16 (get_or s n 0)))

    g : ℕ → Word
    g = updated w (flipped k (f w)) f

    long : length s ≡ 256
    long = ap length e ∙ length_tabulate 256 (word_half f)

    stands : (i : ℕ) → i < 256 → get_or s i 0 ≡ word_half f i
    stands i li = ap (λ t. get_or t i 0) e ∙ get_d_tabulate 256 (word_half f) i 0 li

    own : n / 8 ≡ w
    own = omega arith

    block : n % 8 ≡ (k - 128) / 16
    block = omega arith

    place : 128 + (16 * ((k - 128) / 16) + ((k + 8) % 16 + 8) % 16) ≡ k
    place = omega arith

    apart : (i c : ℕ) → i / 8 ≡ w → c < 16 → i ≢ n → 128 + (16 * (i % 8) + c) ≢ k
    apart i c d lc ne q = ne (omega arith)

    turned : (c : ℕ) → c < 16 → Dec (c ≡ (k + 8) % 16) → flipped ((k + 8) % 16) (bit_of 16 (get_or s n 0)) c ≡ flipped k (f w) (128 + (16 * (n % 8) + (c + 8) % 16))
    turned c lc (yes q) =
        let t : 128 + (16 * (n % 8) + (c + 8) % 16) ≡ k = rw (block, q) place in
        ap (flipped ((k + 8) % 16) (bit_of 16 (get_or s n 0))) q ∙ flipped_at ((k + 8) % 16) (bit_of 16 (get_or s n 0))
        ∙ ap (λ x. 1 - x)
        (ap (λ x. bit_of 16 x ((k + 8) % 16)) (stands n (omega arith)) ∙ half_bit f n ((k + 8) % 16) bits (omega arith) (omega arith) ∙ rw (own, block, place) refl)
        ∙ sym (flipped_at k (f w)) ∙ ap (flipped k (f w)) (sym t)
    turned c lc (no ne) =
        let t : 128 + (16 * (n % 8) + (c + 8) % 16) ≢ k = λ z. ne (omega (arith, block)) in
        flipped_off ((k + 8) % 16) (bit_of 16 (get_or s n 0)) c ne ∙ ap (λ x. bit_of 16 x c) (stands n (omega arith)) ∙ half_bit f n c bits (omega arith) lc
        ∙ ap (λ u. f u (128 + (16 * (n % 8) + (c + 8) % 16))) own ∙ sym (flipped_off k (f w) (128 + (16 * (n % 8) + (c + 8) % 16)) t)

    kept : (i c : ℕ) → i < 256 → c < 16 → i ≢ n → Dec (i / 8 ≡ w) → f (i / 8) (128 + (16 * (i % 8) + c)) ≡ g (i / 8) (128 + (16 * (i % 8) + c))
    kept i c li lc ne (yes d) =
        ap (λ u. f u (128 + (16 * (i % 8) + c))) d ∙ sym (flipped_off k (f w) (128 + (16 * (i % 8) + c)) (apart i c d lc ne))
        ∙ sym (ap (λ (x : Word). x (128 + (16 * (i % 8) + c))) (updated_at w (flipped k (f w)) f (i / 8) d))
    kept i c li lc ne (no d) = sym (ap (λ (x : Word). x (128 + (16 * (i % 8) + c))) (updated_off w (flipped k (f w)) f (i / 8) d))

    here : (i : ℕ) → i < 256 → Dec (i ≡ n) → get_or (set s n v) i 0 ≡ word_half g i
    here i li (yes q) =
        rw q
        (get_or-set_same s n v 0 (omega (arith, long))
        ∙ number_same (flipped ((k + 8) % 16) (bit_of 16 (get_or s n 0))) (λ c. g (n / 8) (128 + (16 * (n % 8) + (c + 8) % 16)))
        (λ c lc. turned c lc (ℕ_discrete c ((k + 8) % 16)) ∙ sym (ap (λ (x : Word). x (128 + (16 * (n % 8) + (c + 8) % 16))) (updated_at w (flipped k (f w)) f (n / 8) own))))
    here i li (no ne) =
        get_or-set_other s n i v 0 ne ∙ stands i li
        ∙ number_same (λ c. f (i / 8) (128 + (16 * (i % 8) + (c + 8) % 16))) (λ c. g (i / 8) (128 + (16 * (i % 8) + (c + 8) % 16)))
        (λ c lc. kept i ((c + 8) % 16) li (omega arith) ne (ℕ_discrete (i / 8) w))

flipped_back_lem : (f : ℕ → Word) → ((u : ℕ) → Bits (f u)) → (w k : ℕ) (s : List ℕ) → w < 32 → k < 256 → s ≡ word_halves f
    → flipped_back w k s ≡ word_halves (updated w (flipped k (f w)) f)
unfolding flipped_back flipped_number
flipped_back_lem f bits w k s lw lk e = go (dec_lt k 128)
  where
    n : ℕ
    n = 8 * w + (k - 128) / 16

    g : ℕ → Word
    g = updated w (flipped k (f w)) f

    go : Dec (k < 128) → cond (ltb k 128) s (set s n (from_bits 16 (flipped ((k + 8) % 16) (bit_of 16 (get_or s n 0))))) ≡ word_halves g
    go (yes l) =
        simp (lt-ltb k 128 l)
        (e ∙ sym (halves_same g f (updated_same w (flipped k (f w)) f f (λ i li mi. flipped_off k (f w) i (omega arith)) (λ u i lu ne. refl))))
    go (no l) = simp (le-ltb k 128 (omega arith)) (placed (omega arith))
      where
        placed : 128 ≤ k → set s n (from_bits 16 (flipped ((k + 8) % 16) (bit_of 16 (get_or s n 0)))) ≡ word_halves g
        placed m = back_placed f bits w k s lw lk e m

-- ---- coded pairs of words

pub coded_same : (f g : ℕ → Word) → ((u k : ℕ) → u < 32 → 128 ≤ k → k < 256 → f u k ≡ g u k) → coded_pair f ≡ coded_pair g
unfolding coded_pair
coded_same f g same =
    pack_ext 512 (laid_out 128 coded_index f) (laid_out 128 coded_index g)
    (λ i l. coded_laid f i (omega arith) ∙ same (i / 128) (128 + coded_place i) (omega arith) (omega arith) (omega (arith, coded_place_lt i))
    ∙ sym (coded_laid g i (omega arith)))

pub holding_same : {f g : ℕ → Word} {s c : List ℕ} → ((u k : ℕ) → u < 32 → 128 ≤ k → k < 256 → f u k ≡ g u k) → Holding f s c → Holding g s c
holding_same {f} {g} same h = record { halves_are = h.halves_are ∙ halves_same f g same; coded_is = h.coded_is ∙ coded_same f g same }

coded_bit_is : (w k : ℕ) → 128 ≤ k → coded_bit w k ≡ coded_index w (k - 128)
unfolding coded_bit
coded_bit_is w k m =
    let r : (k - 128) % 16 ≡ k % 16 = omega arith in
    sym (coded_index_is w (k - 128) ∙ rw r (omega arith))

coded_placed : (f : ℕ → Word) → ((u : ℕ) → Bits (f u)) → (w k : ℕ) (c : List ℕ) → w < 32 → k < 256 → c ≡ coded_pair f → 128 ≤ k
    → pack 512 (flipped (coded_bit w k) (bit c)) ≡ coded_pair (updated w (flipped k (f w)) f)
unfolding coded_pair
coded_placed f bits w k c lw lk e m =
    pack_ext 512 (flipped (coded_bit w k) (bit c)) (laid_out 128 coded_index g)
    (λ i l. go i (omega arith) (ℕ_discrete i (coded_bit w k)) ∙ sym (coded_laid g i (omega arith)))
  where
    g : ℕ → Word
    g = updated w (flipped k (f w)) f

    at_index : coded_bit w k ≡ coded_index w (k - 128)
    at_index = coded_bit_is w k m

    stands : (i : ℕ) → i < 4096 → bit c i ≡ f (i / 128) (128 + coded_place i)
    stands i l =
        ap (λ t. bit t i) e ∙ bit_pack 512 (laid_out 128 coded_index f) i (omega arith) ∙ ap (λ u. u % 2) (coded_laid f i (omega arith))
        ∙ omega (arith, bits (i / 128) (128 + coded_place i) (omega (arith, coded_place_lt i)))

    -- At another place, or in another word.
    kept : (i : ℕ) → i < 4096 → i ≢ coded_bit w k → Dec (i / 128 ≡ w) → f (i / 128) (128 + coded_place i) ≡ g (i / 128) (128 + coded_place i)
    kept i l ne (yes d) =
        let away : 128 + coded_place i ≢ k = λ q. ne (sym (coded_from i) ∙ ap₂ coded_index d (omega (arith, q)) ∙ sym at_index) in
        ap (λ u. f u (128 + coded_place i)) d ∙ sym (flipped_off k (f w) (128 + coded_place i) away)
        ∙ sym (ap (λ (x : Word). x (128 + coded_place i)) (updated_at w (flipped k (f w)) f (i / 128) d))
    kept i l ne (no d) = sym (ap (λ (x : Word). x (128 + coded_place i)) (updated_off w (flipped k (f w)) f (i / 128) d))

    go : (i : ℕ) → i < 4096 → Dec (i ≡ coded_bit w k) → flipped (coded_bit w k) (bit c) i ≡ g (i / 128) (128 + coded_place i)
    go i l (yes q) =
        let t = coded_back w (k - 128) lw (omega arith) in
        let own : i / 128 ≡ w = ap (λ n. n / 128) (q ∙ at_index) ∙ t.0 in
        let place : 128 + coded_place i ≡ k = ap (λ n. 128 + coded_place n) (q ∙ at_index) ∙ ap (λ n. 128 + n) t.1 ∙ omega arith in
        ap (flipped (coded_bit w k) (bit c)) q ∙ flipped_at (coded_bit w k) (bit c)
        ∙ ap (λ x. 1 - x) (ap (bit c) (sym q) ∙ stands i l ∙ ap₂ f own place)
        ∙ sym (flipped_at k (f w)) ∙ ap (flipped k (f w)) (sym place)
        ∙ sym (ap (λ (x : Word). x (128 + coded_place i)) (updated_at w (flipped k (f w)) f (i / 128) own))
    go i l (no ne) = flipped_off (coded_bit w k) (bit c) i ne ∙ stands i l ∙ kept i l ne (ℕ_discrete (i / 128) w)

coded_flipped : (f : ℕ → Word) → ((u : ℕ) → Bits (f u)) → (w k : ℕ) (c : List ℕ) → w < 32 → k < 256 → c ≡ coded_pair f
    → flipped_coded w k c ≡ coded_pair (updated w (flipped k (f w)) f)
unfolding flipped_coded
coded_flipped f bits w k c lw lk e = go (dec_lt k 128)
  where
    g : ℕ → Word
    g = updated w (flipped k (f w)) f

    long : length c ≡ 512
    long = ap length e ∙ length_coded_pair f

    go : Dec (k < 128) → cond (ltb k 128) c (pack (length c) (flipped (coded_bit w k) (bit c))) ≡ coded_pair g
    go (yes l) =
        simp (lt-ltb k 128 l)
        (e ∙ sym (coded_same g f (updated_same w (flipped k (f w)) f f (λ i li mi. flipped_off k (f w) i (omega arith)) (λ u i lu ne. refl))))
    go (no l) = simp (le-ltb k 128 (omega arith)) (ap (λ n. pack n (flipped (coded_bit w k) (bit c))) long ∙ coded_placed f bits w k c lw lk e (omega arith))

-- ---- a repair put in

module _ (f : ℕ → Word) (bits : (u : ℕ) → Bits (f u)) (w : ℕ) (s c : List ℕ) (lw : w < 32) (e : Holding f s c) where
  held_flip : (g : ℕ → Word) → ((u : ℕ) → Bits (g u)) → (k : ℕ) (t d : List ℕ) → k < 256 → Holding g t d
      → Holding (updated w (flipped k (g w)) g) (flipped_back w k t) (flipped_coded w k d)
  held_flip g b k t d lk h =
      record { halves_are = flipped_back_lem g b w k t lw lk h.halves_are; coded_is = coded_flipped g b w k d lw lk h.coded_is }

  unchanged : Holding (updated w (f w) f) s c
  unchanged = holding_same (λ u k lu l m. sym (updated_same w (f w) f f (λ k l m. refl) (λ u k lu n. refl) u k lu l m)) e

  pub mended : (r : Repair) → Inside r → Holding (updated w (repaired r (f w)) f) (mended_by (flipped_back w) r s) (mended_by (flipped_coded w) r c)
  unfolding mended_by repaired places flip_all
  mended Sound t = unchanged
  mended (One i) t = held_flip f bits i s c t e
  mended (Two i j) t =
      holding_same
      (updated_same w (flipped i (once w)) once (updated w (flipped i (flipped j (f w))) f)
      (λ k l m. flipped_ext i (once w) (flipped j (f w)) k (ap (λ (x : Word). x k) (updated_at w (flipped j (f w)) f w refl))
      ∙ sym (ap (λ (x : Word). x k) (updated_at w (flipped i (flipped j (f w))) f w refl)))
      (λ u k lu n. ap (λ (x : Word). x k) (updated_off w (flipped j (f w)) f u n ∙ sym (updated_off w (flipped i (flipped j (f w))) f u n))))
      (held_flip once once_bits i (flipped_back w j s) (flipped_coded w j c) t.0 (held_flip f bits j s c t.1 e))
    where
      once : ℕ → Word
      once = updated w (flipped j (f w)) f

      once_bits : (u : ℕ) → Bits (once u)
      once_bits u = go (ℕ_discrete u w)
        where
          go : Dec (u ≡ w) → Bits (updated w (flipped j (f w)) f u)
          go (yes d) k l = rw (updated_at w (flipped j (f w)) f u d) (repaired_bits (One j) (f w) k (bits w k l))
          go (no d) k l = rw (updated_off w (flipped j (f w)) f u d) (bits u k l)
  mended Lost t = unchanged

-- Case by case, as code goes.
module _ (flip : ℕ → List ℕ → List ℕ) (r : Repair) (s : List ℕ) where
  pub mend_none : (r ≡ Sound) ⊎ (r ≡ Lost) → s ≡ mended_by flip r s
  unfolding mended_by
  mend_none (inl e) = rw e refl
  mend_none (inr e) = rw e refl

  pub mend_one : (i : ℕ) (a : List ℕ) → r ≡ One i → a ≡ flip i s → a ≡ mended_by flip r s
  unfolding mended_by
  mend_one i a e q = rw e q

  pub mend_two : (i j : ℕ) (b a : List ℕ) → r ≡ Two i j → b ≡ flip j s → a ≡ flip i b → a ≡ mended_by flip r s
  unfolding mended_by
  mend_two i j b a e p q = rw e (q ∙ ap (flip i) p)

pub ruleset mending = (mend_none, mend_one, mend_two, coded_long)

pub sound : (front : Bool) (w : Word) → Bits w → CodeWord w → repair front w ≡ Sound
unfolding repaired places flip_all
sound front w b c = repair_is front w b Sound tt c

pub stays : (w : Word) → repaired Sound w ≡ w
unfolding repaired places flip_all
stays w = refl

pub handled_mended : (u : List ℕ) (q : ℕ) (front : Bool) (w : ℕ) (s c : List ℕ) (y : Syndromes) (r : Repair) (m : ℕ) (a b : List ℕ) → w < 32
    → y ≡ syndromes_in u q w → Told front y r → Inside r → m ≡ mark r → a ≡ mended_by (flipped_back w) r s → b ≡ mended_by (flipped_coded w) r c
    → Handled u q front w s c m a b
handled_mended u q front w s c y r m a b lw ey told inside em ea eb =
    record {
      done = λ words bits g o f fb same e.
          let is : r ≡ repair front (words w) = told.told (words w) (bits w) (ey ∙ syndromes_collected g o w lw) in
          let done = mended f fb w s c lw e r inside in
          let now-is = ap₂ (λ (x : Repair) (v : Word). updated w (repaired x v) f) is same in (
            em ∙ ap mark is,
            record { halves_are = ea ∙ done.halves_are ∙ ap word_halves now-is; coded_is = eb ∙ done.coded_is ∙ ap coded_pair now-is },
          );
    }

-- ---- the words of a set

module _ {A : Type 0} (left : ℕ) (f g : ℕ → A) (v : ℕ) where
  in_set_lem : bit_of 32 left v ≡ 1 → in_set left f g v ≡ f v
  unfolding in_set
  in_set_lem e = simp (eq-eqb (bit_of 32 left v) 1 e)

  off_set : bit_of 32 left v ≡ 0 → in_set left f g v ≡ g v
  unfolding in_set
  off_set e = let n : bit_of 32 left v ≢ 1 = λ o. omega arith in simp (ne_eqb (bit_of 32 left v) 1 n)

-- By the digit.
digit_of : {A : Type 0} (left v : ℕ) → (bit_of 32 left v ≡ 1 → A) → (bit_of 32 left v ≡ 0 → A) → A
digit_of {A} left v set_is clear-is = go (bit_of 32 left v) refl (bit_of_lt 32 left v)
  where
    go : (t : ℕ) → bit_of 32 left v ≡ t → t < 2 → A
    go zero e l = clear-is e
    go (suc zero) e l = set_is e
    go (suc (suc t)) e l = absurd (omega arith)

module _ (left w r : ℕ) (lw : w < 32) (k : Removed left w r) where
  first_in : bit_of 32 left w ≡ 1
  first_in = k.each w lw ∙ ap₂ ◌⊕◌ (simp (eq-eqb w w refl)) k.gone ∙ ⊕_zero 1

  others_in : (v : ℕ) → v < 32 → v ≢ w → bit_of 32 left v ≡ bit_of 32 r v
  others_in v lv n = k.each v lv ∙ ap (λ b. b ⊕ bit_of 32 r v) (simp (ne_eqb v w n)) ∙ zero_⊕ (bit_of 32 r v)

  -- What holds at word w, and at the others of the rest, holds at all.
  set_more : {A : Type 0} (f g h : ℕ → A) → h w ≡ f w → ((v : ℕ) → v ≢ w → h v ≡ g v) → (v : ℕ) → v < 32 → in_set r f h v ≡ in_set left f g v
  set_more f g h here there v lv = go (ℕ_discrete v w)
    where
      go : Dec (v ≡ w) → in_set r f h v ≡ in_set left f g v
      go (yes e) =
          off_set r f h v (ap (bit_of 32 r) e ∙ k.gone) ∙ ap h e ∙ here ∙ sym (ap f e) ∙ sym (in_set_lem left f g v (ap (bit_of 32 left) e ∙ first_in))
      go (no n) =
          digit_of r v (λ e. in_set_lem r f h v e ∙ sym (in_set_lem left f g v (others_in v lv n ∙ e)))
          (λ e. off_set r f h v e ∙ there v n ∙ sym (off_set left f g v (others_in v lv n ∙ e)))

-- No word.
set_none : (u : List ℕ) (q : ℕ) (front : Bool) (left : ℕ) (s c ms : List ℕ) → left ≡ 0 → HandledSet u q front left s c ms s c ms
unfolding bit_of
set_none u q front left s c ms z =
    record {
      long = refl;
      done = λ words bits g o f fb same e. (
        (λ v lv. sym (off_set left (λ v. mark (repair front (words v))) (λ v. get_or ms v 0) v (clear v))),
        holding_same (λ v k lv a b. sym (ap (λ (x : Word). x k) (off_set left (repaired_by front words) f v (clear v)))) e,
      );
    }
  where
    clear : (v : ℕ) → bit_of 32 left v ≡ 0
    clear v = ap (λ n. n / 2 ^ (32 - 1 - v) % 2) z ∙ zero_digit (32 - 1 - v)

-- One word, and then the others.
module _ {u : List ℕ} {q : ℕ} {front : Bool} {left w r : ℕ} {s c ms : List ℕ} {m : ℕ} {a b s' c' ms' : List ℕ} where
  set_first : w < 32 → w < length ms → Removed left w r → Handled u q front w s c m a b → HandledSet u q front r a b (set ms w m) s' c' ms'
      → HandledSet u q front left s c ms s' c' ms'
  unfolding repaired_by
  set_first lw lm k one rest =
      record {
        long = rest.long ∙ length-set ms w m;
        done = λ words bits g o f fb same e.
            let was = one.done words bits g o f fb (same w lw (first_in left w r lw k)) e in
            let next = updated w (repaired_by front words w) f in
            let then =
            rest.done words bits g o next (λ v. next_bits words bits f fb v (ℕ_discrete v w)) (λ v lv i. others words f same v lv i (ℕ_discrete v w)) was.1 in (
              (λ v lv. then.0 v lv
                  ∙ set_more left w r lw k (λ v. mark (repair front (words v))) (λ v. get_or ms v 0) (λ v. get_or (set ms w m) v 0) (get_or-set_same ms w m 0 lm ∙ was.0)
                  (λ v n. get_or-set_other ms w v m 0 n) v lv),
              holding_same
                  (λ v i lv x y. ap (λ (x : Word). x i)
                  (set_more left w r lw k (repaired_by front words) f next (updated_at w (repaired_by front words w) f w refl) (λ v n. updated_off w (repaired_by front words w) f v n) v lv))
                  then.1,
            );
      }
    where
      next_bits : (words : ℕ → Word) → ((v : ℕ) → Bits (words v)) → (f : ℕ → Word) → ((v : ℕ) → Bits (f v)) → (v : ℕ) → Dec (v ≡ w)
          → Bits (updated w (repaired (repair front (words w)) (words w)) f v)
      next_bits words bits f fb v (yes e) k l =
          rw (updated_at w (repaired (repair front (words w)) (words w)) f v e) (repaired_bits (repair front (words w)) (words w) k (bits w k l))
      next_bits words bits f fb v (no n) k l = rw (updated_off w (repaired (repair front (words w)) (words w)) f v n) (fb v k l)

      others : (words f : ℕ → Word) → ((v : ℕ) → v < 32 → bit_of 32 left v ≡ 1 → f v ≡ words v) → (v : ℕ) → v < 32 → bit_of 32 r v ≡ 1 → Dec (v ≡ w)
          → updated w (repaired (repair front (words w)) (words w)) f v ≡ words v
      others words f same v lv i (yes e) = absurd (omega (arith, i, ap (bit_of 32 r) e ∙ k.gone))
      others words f same v lv i (no n) =
          updated_off w (repaired (repair front (words w)) (words w)) f v n ∙ same v lv (others_in left w r lw k v lv n ∙ i)

-- The loop: what is left to do gives the whole. none / more / done
pub record Going (u : List ℕ) (q : ℕ) (front : Bool) (all : ℕ) (s₀ c₀ ms₀ : List ℕ) (left : ℕ) (s c ms : List ℕ) : Type 0 where
  pub marks : length ms ≡ 32
  pub coded : length c ≡ 512
  pub whole : (s' c' ms' : List ℕ) → HandledSet u q front left s c ms s' c' ms' → HandledSet u q front all s₀ c₀ ms₀ s' c' ms'

pub going_none : (u : List ℕ) (q : ℕ) (front : Bool) (all : ℕ) (s c ms : List ℕ) → length ms ≡ 32 → length c ≡ 512 → Going u q front all s c ms all s c ms
going_none u q front all s c ms l lc = record { marks = l; coded = lc; whole = λ s' c' ms' h. h }

pub going_more : {u : List ℕ} {q : ℕ} {front : Bool} {all : ℕ} {s₀ c₀ ms₀ : List ℕ} {left : ℕ} {s c ms : List ℕ} (w m r : ℕ) (a b : List ℕ)
    → Going u q front all s₀ c₀ ms₀ left s c ms → w < 32 → Handled u q front w s c m a b → length b ≡ 512 → Removed left w r
    → Going u q front all s₀ c₀ ms₀ r a b (set ms w m)
going_more {ms = ms} w m r a b go lw one lb k =
    record {
      marks = length-set ms w m ∙ go.marks;
      coded = lb;
      whole = λ s' c' ms' h. go.whole s' c' ms' (set_first lw (omega (arith, go.marks)) k one h);
    }

pub going_done : {u : List ℕ} {q : ℕ} {front : Bool} {all : ℕ} {s₀ c₀ ms₀ : List ℕ} {left : ℕ} {s c ms : List ℕ} → Going u q front all s₀ c₀ ms₀ left s c ms
    → left ≡ 0 → HandledSet u q front all s₀ c₀ ms₀ s c ms
going_done {u} {q} {front} {left = left} {s = s} {c = c} {ms = ms} go z = go.whole s c ms (set_none u q front left s c ms z)

-- ---- all words

sound_mark : (front : Bool) (w : Word) → Bits w → CodeWord w → 0 ≡ mark (repair front w)
unfolding mark
sound_mark front w b c = sym (ap mark (sound front w b c))

-- Words of odd parity first, then the others that are no code words; the rest are, and stay.
module _ (u : List ℕ) (q d : ℕ) (front : Bool) (s c ms₀ s₁ c₁ ms₁ s₂ c₂ ms₂ : List ℕ) (e₀ : ms₀ ≡ tabulate 32 (λ w. 0))
    (one : HandledSet u q front q s c ms₀ s₁ c₁ ms₁) (two : HandledSet u q front (d ⊕ q) s₁ c₁ ms₁ s₂ c₂ ms₂) where
  module _ (words : ℕ → Word) (bits : (v : ℕ) → Bits (words v)) (known : Collected words u) (o : Parities words q) (k : Dirty words d) (e : Holding words s c) where
    -- An odd word is no code word, so that it is not in the second set.
    odd_dirty : (v : ℕ) → v < 32 → bit_of 32 q v ≡ 1 → bit_of 32 d v ≡ 1
    odd_dirty v l i =
        digit_of d v (λ e. e) (λ z. absurd (omega (arith, sym (o.parity_of v l) ∙ i, (k.clean v l z).even)))

    second : (v : ℕ) → bit_of 32 (d ⊕ q) v ≡ bit_of 32 d v ⊕ bit_of 32 q v
    second v = bit_of_⊕ 32 d q v

    odd_not_second : (v : ℕ) → v < 32 → bit_of 32 q v ≡ 1 → bit_of 32 (d ⊕ q) v ≡ 0
    odd_not_second v l i = second v ∙ ap₂ ◌⊕◌ (odd_dirty v l i) i ∙ ⊕_self 1

    even_second : (v : ℕ) → bit_of 32 q v ≡ 0 → bit_of 32 (d ⊕ q) v ≡ bit_of 32 d v
    even_second v z = second v ∙ ap (λ b. bit_of 32 d v ⊕ b) z ∙ ⊕_zero (bit_of 32 d v)

    -- Of whatever is put for the words handled, all have it, if code words have it already.
    both_sets : {A : Type 0} (f g : ℕ → A) → ((v : ℕ) → v < 32 → CodeWord (words v) → g v ≡ f v) → (v : ℕ) → v < 32
        → in_set (d ⊕ q) f (in_set q f g) v ≡ f v
    both_sets f g clean v l =
        digit_of q v (λ i. off_set (d ⊕ q) f (in_set q f g) v (odd_not_second v l i) ∙ in_set_lem q f g v i)
        (λ z. digit_of d v (λ i. in_set_lem (d ⊕ q) f (in_set q f g) v (even_second v z ∙ i))
        (λ y. off_set (d ⊕ q) f (in_set q f g) v (even_second v z ∙ y) ∙ off_set q f g v z ∙ clean v l (k.clean v l y)))

    first_done : ((v : ℕ) → v < 32 → get_or ms₁ v 0 ≡ in_set q (λ v. mark (repair front (words v))) (λ v. get_or ms₀ v 0) v)
        × Holding (in_set q (repaired_by front words) words) s₁ c₁
    first_done = one.done words bits known o words bits (λ v l i. refl) e

    after_first : (v : ℕ) → Bits (in_set q (repaired_by front words) words v)
    unfolding repaired_by
    after_first v =
        digit_of q v (λ i k l. rw (in_set_lem q (repaired_by front words) words v i) (repaired_bits (repair front (words v)) (words v) k (bits v k l)))
        (λ z k l. rw (off_set q (repaired_by front words) words v z) (bits v k l))

    untouched : (v : ℕ) → v < 32 → bit_of 32 (d ⊕ q) v ≡ 1 → in_set q (repaired_by front words) words v ≡ words v
    untouched v l i =
        digit_of q v (λ j. absurd (omega (arith, i, odd_not_second v l j))) (λ z. off_set q (repaired_by front words) words v z)

    then_done : ((v : ℕ) → v < 32 → get_or ms₂ v 0 ≡ in_set (d ⊕ q) (λ v. mark (repair front (words v))) (λ v. get_or ms₁ v 0) v)
        × Holding (in_set (d ⊕ q) (repaired_by front words) (in_set q (repaired_by front words) words)) s₂ c₂
    then_done = two.done words bits known o (in_set q (repaired_by front words) words) after_first untouched first_done.1

    marks_done : ms₂ ≡ tabulate 32 (λ v. mark (repair front (words v)))
    unfolding in_set
    marks_done =
        is_tabulate 0 ms₂ 32 (λ v. mark (repair front (words v))) (two.long ∙ one.long ∙ ap length e₀ ∙ length_tabulate 32 (λ w. 0))
        (λ v l. then_done.0 v l ∙ ap (λ m. cond (eqb (bit_of 32 (d ⊕ q) v) 1) (mark (repair front (words v))) m) (first_done.0 v l)
        ∙ both_sets (λ v. mark (repair front (words v))) (λ v. get_or ms₀ v 0)
        (λ v l i. ap (λ m. get_or m v 0) e₀ ∙ get_d_tabulate 32 (λ w. 0) v 0 l ∙ sound_mark front (words v) (bits v) i) v l)

    words_done : Holding (repaired_by front words) s₂ c₂
    unfolding repaired_by
    words_done =
        holding_same
        (λ v k lv a b. ap (λ (x : Word). x k)
        (both_sets (repaired_by front words) words (λ v l i. sym (ap (λ r. repaired r (words v)) (sound front (words v) (bits v) i) ∙ stays (words v))) v lv))
        then_done.1

  pub handled_dirty : HandledDirty u q d front s c ms₂ s₂ c₂
  handled_dirty = record { done = λ words bits g o k e. (marks_done words bits g o k e, words_done words bits g o k e) }

pub handled_all : (t : List ℕ) (q d : ℕ) (front : Bool) (s c u ms s' c' : List ℕ) → ByWords t u → HandledDirty u q d front s c ms s' c'
    → HandledAll t q d front s c ms s' c'
handled_all t q d front s c u ms s' c' n h = record { done = λ words bits g o k e. h.done words bits (by_words_collected bits g n) o k e }
