-- The bytes of a word as the code makes them, of bits where it finds them.
-- Assumes nothing.
use Rattle.std.specs.Prelude.{◌≡◌, false, cond, List, ℕ, ◌+◌, ◌-◌, ◌*◌, ◌/◌, ◌%◌, ◌^◌, ◌<◌, ◌≤◌, ltb, length, get_or, set}
use Rattle.std.proofs.Math.Path.{refl, ap}
use Rattle.std.proofs.Common.{sym, ◌∙◌, lt-ltb, le-ltb, replicate}
use borrow.Rule.Slice.PartMut.{put_mid}
use native.Mathlib.Omega.{arith}
use Rattle.std.proofs.Math.Decide.{dec_lt}
use Rattle.bits.specs.Bits.{bit, bit_of, byte_of, from_bits, pack}
use Rattle.bits.specs.Filling.{fill_none, fill_more, fill_part, fill_done}
use Rattle.bits.specs.Lists.{tabulate}
use Rattle.bits.specs.ListLaws.{tabulate_ext}
use Rattle.bits.proofs.BitLaws.{from_bits_ext}
use Rattle.bits.specs.Xor.{◌⊕◌}
use Rattle.word_spec.specs.Completion.{first_bits}
use Rattle.pair_spec.specs.History.{depth}
use Rattle.pair_spec.proofs.HistoryLaws.{deep}
use Rattle.pair_spec.specs.Encoding.{open_word}
use Rattle.pair_spec.specs.Receiving.{held_word}
use Rattle.bits.proofs.NumberLaws.{byte_of_ext, byte_copied}
use Rattle.pair_words_core.specs.WordBits.{front_held, front_none, front_held_lem, held_front, held_back, open_front_bit, open_low}
use Rattle.pair_words_core.specs.WordBits.{open_high, open_none}
use Rattle.pair_words_core.specs.BackHalves.{coded_source}

-- ---- the front half

-- Bit k of the front half of word w in a history, from pair 10 on.
unfoldable pub front_stored : List ℕ → ℕ → ℕ → ℕ
front_stored h w k = bit h (k / 16 * 4112 + (1 - w / 16) * 2048 + ((k % 16) ⊕ (w % 16)) * 128 + w % 16)

pub front_bit_is : (h : List ℕ) (w k x j b : ℕ) → x ≡ (k % 16) ⊕ (w % 16) → j ≡ k / 16 * 514 + (1 - w / 16) * 256 + x * 16 + w % 16 / 8
    → b ≡ get_or h j 0 / 2 ^ (7 - w % 8) % 2 → b ≡ front_stored h w k
unfolding front_stored bit bit_of
front_bit_is h w k x j b ex ej eb =
    let d : (k / 16 * 4112 + (1 - w / 16) * 2048 + x * 128 + w % 16) / 8 ≡ j = omega arith in
    let m : (k / 16 * 4112 + (1 - w / 16) * 2048 + x * 128 + w % 16) % 8 ≡ w % 8 = omega arith in
    eb ∙ rw (← ex, d, m)

-- A byte of a history's front half; zero before pair 10.
pub stored_front : (h : List ℕ) (P w j : ℕ) → w < 32 → j < 16 → 10 ≤ P → byte_of (front_stored h w) j ≡ byte_of (front_held depth h P w) j
unfolding front_stored
stored_front h P w j lw lj m =
    byte_of_ext (front_stored h w) (front_held depth h P w) j (λ k lk. front_held_lem h P w (j * 8 + k) _ _ lw (omega arith) m refl refl)

pub zero_front : (h : List ℕ) (P w j : ℕ) → w < 32 → j < 16 → P < 10 → 0 ≡ byte_of (front_held depth h P w) j
unfolding byte_of from_bits
zero_front h P w j lw lj m =
    from_bits_ext 8 (λ k. 0) (λ k. front_held depth h P w (j * 8 + k)) (λ k lk. ap (λ u. u % 2) (front_none depth h P w (j * 8 + k) lw (omega arith) m))

-- Two of them one after the other,
pub front_block_is : (h : List ℕ) (w C : ℕ) (d : List ℕ) (x y : ℕ) → length d ≡ 2 → x ≡ byte_of (front_stored h w) (C * 2)
    → y ≡ byte_of (front_stored h w) (C * 2 + 1)
    → set (set d 0 x) 1 y ≡ tabulate 2 (λ i. byte_of (front_stored h w) (C * 2 + i))
front_block_is h w C d x y long ex ey =
    let none = fill_none (λ i. byte_of (front_stored h w) (C * 2 + i)) 2 d long in
    let one = fill_more x none (omega arith) (ex ∙ ap (byte_of (front_stored h w)) (omega arith)) in
    fill_done (fill_more y one (omega arith) ey) (omega arith)

-- and all sixteen.
pub stored_half : (h : List ℕ) (P w : ℕ) → w < 32 → 10 ≤ P → tabulate 16 (byte_of (front_stored h w)) ≡ pack 16 (front_held depth h P w)
unfolding pack
stored_half h P w lw m =
    tabulate_ext 16 (byte_of (front_stored h w)) (byte_of (front_held depth h P w)) (λ j l. stored_front h P w j lw l m)

pub zero_half : (h : List ℕ) (P w : ℕ) → w < 32 → P < 10 → replicate 16 0 ≡ pack 16 (front_held depth h P w)
unfolding pack tabulate
zero_half h P w lw m = tabulate_ext 16 (λ j. 0) (byte_of (front_held depth h P w)) (λ j l. zero_front h P w j lw l m)

-- ---- a word of its halves

pub halves_joined : (f : ℕ → ℕ) (d ys zs : List ℕ) → length d ≡ 32 → ys ≡ tabulate 16 f → zs ≡ tabulate 16 (λ j. f (16 + j))
    → put_mid 16 16 (put_mid 0 16 d ys) zs ≡ tabulate 32 f
unfolding tabulate
halves_joined f d ys zs long ey ez =
    fill_done (fill_part 16 zs (fill_part 16 ys (fill_none f 32 d long) (omega arith) ey) (omega arith) ez) (omega arith)

-- ---- a word as held

module _ (h p : List ℕ) (P w : ℕ) (size : length h ≡ 512 * depth) (lw : w < 32) where
  pub held_start : (j : ℕ) → j < 16 → byte_of (front_held depth h P w) j ≡ byte_of (held_word depth h P p w) j
  held_start j l =
      byte_of_ext (front_held depth h P w) (held_word depth h P p w) j (λ k lk. held_front depth h p P w size lw deep (j * 8 + k) _ (omega arith) refl)

  pub held_byte : (j x : ℕ) → 16 ≤ j → j < 32 → x ≡ byte_of (λ i. bit p (coded_source i)) (w * 16 + j - 16)
      → x ≡ byte_of (held_word depth h P p w) j
  unfolding byte_of coded_source
  held_byte j x l m e =
      e ∙ from_bits_ext 8 (λ k. bit p (coded_source ((w * 16 + j - 16) * 8 + k))) (λ k. held_word depth h P p w (j * 8 + k))
      (λ k lk. ap (λ u. u % 2) (bits k lk))
    where
      bits : (k : ℕ) → k < 8 → bit p (coded_source ((w * 16 + j - 16) * 8 + k)) ≡ held_word depth h P p w (j * 8 + k)
      bits k lk =
          let a : ((w * 16 + j - 16) * 8 + k) / 16 * 16 ≡ w * 128 + (j * 8 + k - 128) / 16 * 16 = omega arith in
          let b : ((w * 16 + j - 16) * 8 + k) % 16 ≡ (j * 8 + k) % 16 = omega arith in
          let d : ((w * 16 + j - 16) * 8 + k) / 128 ≡ w = omega arith in
          let c : ((w * 16 + j - 16) * 8 + k) / 128 % 16 ≡ w % 16 = ap (λ n. n % 16) d in
          held_back depth h p P w size lw (j * 8 + k) _ _ (omega arith) (omega arith) refl (rw (a, b, c))

  -- Its halves.
  pub held_first : pack 16 (front_held depth h P w) ≡ tabulate 16 (byte_of (held_word depth h P p w))
  unfolding pack
  held_first = tabulate_ext 16 (byte_of (front_held depth h P w)) (byte_of (held_word depth h P p w)) held_start

  pub held_second : tabulate 16 (λ j. byte_of (λ i. bit p (coded_source i)) (w * 16 + j))
      ≡ tabulate 16 (λ j. byte_of (held_word depth h P p w) (16 + j))
  held_second =
      tabulate_ext 16 (λ j. byte_of (λ i. bit p (coded_source i)) (w * 16 + j)) (λ j. byte_of (held_word depth h P p w) (16 + j))
      (λ j l. held_byte (16 + j) _ (omega arith) (omega arith) (ap (byte_of (λ i. bit p (coded_source i))) (omega arith)))

-- ---- a word before its completion

-- Bit k of the back half of word w as the payload has it; zeros behind it.
unfoldable pub own_bit : List ℕ → ℕ → ℕ → ℕ
own_bit y w k = cond (ltb k 224) (bit y (w * 16 + (k - 128) / 16 * 512 + k % 16)) (cond (ltb k 239) (bit y (w * 15 + k + 2848)) 0)

pub own_low : (y : List ℕ) (w k : ℕ) → k < 224 → own_bit y w k ≡ bit y (w * 16 + (k - 128) / 16 * 512 + k % 16)
unfolding own_bit
own_low y w k l = simp (lt-ltb k 224 l)

pub own_high : (y : List ℕ) (w k b : ℕ) → 224 ≤ k → k < 239 → b ≡ bit y (w * 15 + k + 2848) → b ≡ own_bit y w k
unfolding own_bit
own_high y w k b l m e = e ∙ sym (simp (le-ltb k 224 l, lt-ltb k 239 m))

pub own_none : (y : List ℕ) (w k : ℕ) → 239 ≤ k → 0 ≡ own_bit y w k
unfolding own_bit
own_none y w k l = let m : ltb k 224 ≡ false = le-ltb k 224 (omega arith) in sym (simp (m, le-ltb k 239 l))

pub own_copied : (y : List ℕ) (w j : ℕ) → length y ≡ 444 → ((i : ℕ) → get_or y i 0 < 256) → w < 32 → 16 ≤ j → j < 28
    → get_or y (w * 2 + (j - 16) / 2 * 64 + j % 2) 0 ≡ byte_of (own_bit y w) j
own_copied y w j e b lw l m =
    byte_copied y (own_bit y w) j (w * 2 + (j - 16) / 2 * 64 + j % 2) b
    (λ k lk. ap (bit y) (omega arith) ∙ sym (own_low y w (j * 8 + k) (omega arith)))

module _ (h y : List ℕ) (P w : ℕ) (lw : w < 32) where
  pub open_start : (j : ℕ) → j < 16 → byte_of (front_held depth h P w) j ≡ byte_of (first_bits (open_word depth h P y w)) j
  open_start j l =
      byte_of_ext (front_held depth h P w) (first_bits (open_word depth h P y w)) j (λ k lk. open_front_bit depth h y P w lw (j * 8 + k) _ (omega arith) refl)

  pub own_is : (k : ℕ) → 128 ≤ k → k < 256 → own_bit y w k ≡ first_bits (open_word depth h P y w) k
  own_is k l m = go (dec_lt k 224) (dec_lt k 239)
    where
      go : Dec (k < 224) → Dec (k < 239) → own_bit y w k ≡ first_bits (open_word depth h P y w) k
      go (yes a) d = own_low y w k a ∙ open_low depth h y P w lw k _ l a refl
      go (no a) (yes b) = sym (own_high y w k _ (omega arith) b refl) ∙ open_high depth h y P w lw k _ (omega arith) b refl
      go (no a) (no b) = sym (own_none y w k (omega arith)) ∙ open_none depth h y P w lw k (omega arith)

  pub open_byte : (j x : ℕ) → 16 ≤ j → j < 32 → x ≡ byte_of (own_bit y w) j → x ≡ byte_of (first_bits (open_word depth h P y w)) j
  open_byte j x l m e =
      e ∙ byte_of_ext (own_bit y w) (first_bits (open_word depth h P y w)) j (λ k lk. own_is (j * 8 + k) (omega arith) (omega arith))

  -- Its halves.
  pub open_first : pack 16 (front_held depth h P w) ≡ tabulate 16 (byte_of (first_bits (open_word depth h P y w)))
  unfolding pack
  open_first = tabulate_ext 16 (byte_of (front_held depth h P w)) (byte_of (first_bits (open_word depth h P y w))) open_start

  pub open_second : tabulate 16 (λ j. byte_of (own_bit y w) (16 + j))
      ≡ tabulate 16 (λ j. byte_of (first_bits (open_word depth h P y w)) (16 + j))
  open_second =
      tabulate_ext 16 (λ j. byte_of (own_bit y w) (16 + j)) (λ j. byte_of (first_bits (open_word depth h P y w)) (16 + j))
      (λ j l. open_byte (16 + j) _ (omega arith) (omega arith) refl)
