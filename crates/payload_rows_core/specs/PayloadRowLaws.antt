-- The numbers of a row as code makes them of the payload: six blocks, block 6 and zeros, and then all by words.
-- Assumes nothing.
use Rattle.std.specs.Prelude.{◌≡◌, refl, List, ℕ, ◌+◌, ◌-◌, ◌*◌, ◌/◌, ◌%◌, ◌^◌, ◌<◌, ◌≤◌, length, get_or, set, take, drop, replicate}
use Rattle.std.proofs.Common.{sym, ap, ap₂, ◌∙◌, arith, get_or-drop}
use Rattle.std.proofs.Math.Nat.{mul-mod_left}
use Rattle.std.proofs.Math.Decide.{dec_lt}
use borrow.Rule.Slice.PartMut.{put_mid, drop_put}
use Rattle.std.specs.Int.Bits.{bit_or}
use Rattle.std.proofs.lemmas.Nat.{or_shifted, mod-pow-add, shl-shr}
use Rattle.std.proofs.lemmas.List.{get_or-replicate}
use Rattle.std.proofs.Math.Pow.{high, low}
use Rattle.bits.specs.Bits.{bit, bit_of, from_bits}
use Rattle.bits.proofs.BitLaws.{from_bits_lt, from_bits_ext, bit_of_from_bits}
use Rattle.bits.specs.Filling.{Filling, fill_none, fill_part, fill_ext}
use Rattle.bits.specs.Lists.{tabulate}
use Rattle.bits.proofs.PartLaws.{part_length, part_at}
use Rattle.bits.specs.ListLaws.{length_tabulate, get_d_tabulate, is_tabulate, tabulate_ext}
use Rattle.blocks.specs.Moves.{turned}
use Rattle.blocks.specs.SideBySide.{read_word}
use Rattle.pair_words_core.specs.WordBytes.{own_bit, own_low, own_high, own_none}
use Rattle.payload_core.specs.NumberBits.{behind, behind_split}
use Rattle.riffle_core.specs.Riffles.{by_words, riffled, riffled_number}
use Rattle.riffle_core.specs.RiffleLaws.{by_words_at}
use Rattle.payload_rows_core.specs.PayloadRows.{open_number, row_number, fifteen_of, last_number}
use Rattle.payload_rows_core.specs.FourFronts.{FourFronts, fronts_none, fronts_more, fronts_done}

-- A part of a buffer, number by number.
part_tabulate : (a n : ℕ) (s : List ℕ) → a + n ≤ length s → take n (drop a s) ≡ tabulate n (λ k. get_or s (a + k) 0)
part_tabulate a n s l = is_tabulate 0 (take n (drop a s)) n (λ k. get_or s (a + k) 0) (part_length a n s l) (part_at a n s l)

-- ---- six blocks

-- Number 8w+C, its bits where the payload has them.
open_is : (y : List ℕ) (w C n : ℕ) (f : ℕ → ℕ) → C < 8 → n ≡ 8 * w + C → ((k : ℕ) → k < 16 → f k % 2 ≡ own_bit y w (128 + (16 * C + k)) % 2)
    → from_bits 16 (λ c. f ((c + 8) % 16)) ≡ open_number y n
unfolding open_number
open_is y w C n f l e same =
    let d : n / 8 ≡ w = omega arith in
    let m : n % 8 ≡ C = omega arith in
    rw (d, m)
    (from_bits_ext 16 (λ c. f ((c + 8) % 16)) (λ c. own_bit y w (128 + (16 * C + (c + 8) % 16)))
    (λ c lc. same ((c + 8) % 16) (omega arith)))

-- Two bytes as they lie in memory are number 16C+r of row s by blocks.
pub read_row : (y : List ℕ) (s C r v : ℕ) → C < 6 → r < 16 → v ≡ read_word y (64 * C + 32 * s + 2 * r) → v ≡ row_number y s (C * 16 + r)
unfolding row_number read_word
read_row y s C r v lC lr e =
    e ∙ open_is y (16 * s + r) C _ (λ k. bit y (8 * (64 * C + 32 * s + 2 * r) + k)) (omega arith) (omega arith)
    (λ k lk. ap (λ b. b % 2) (ap (bit y) (omega arith) ∙ sym (own_low y (16 * s + r) (128 + (16 * C + k)) (omega arith))))

-- ---- block 6

-- Two bytes as they lie in memory, turned by eight columns, are their bits in order.
read_turned : (s : List ℕ) (j : ℕ) → turned (read_word s j) 8 ≡ from_bits 16 (λ c. bit s (8 * j + c))
unfolding turned read_word
read_turned s j =
    from_bits_ext 16 (λ c. bit_of 16 (read_word s j) ((c + 8) % 16)) (λ c. bit s (8 * j + c))
    (λ c l.
    let p : 8 * j + ((c + 8) % 16 + 8) % 16 ≡ 8 * j + c = omega arith in
    let b : bit_of 16 (read_word s j) ((c + 8) % 16) ≡ bit s (8 * j + ((c + 8) % 16 + 8) % 16) % 2 =
    bit_of_from_bits 16 (λ c. bit s (8 * j + (c + 8) % 16)) ((c + 8) % 16) (omega arith) in
    omega (arith, b, ap (bit s) p))

-- Sixteen bits moved left by a columns, and the next a bits behind them.
joined : (f : ℕ → ℕ) (a r : ℕ) → a + r ≡ 16
    → bit_or (from_bits 16 f * 2 ^ a % 2 ^ 16) (from_bits 16 (behind 16 f) / 2 ^ r) ≡ from_bits 16 (behind a f)
unfolding behind
joined f a r is =
    ap₂ bit_or left right ∙ or_shifted (from_bits r (behind a f)) a (from_bits a (behind 16 f)) (from_bits_lt a (behind 16 f)) ∙ sym whole
  where
    back : 16 ≡ r + a
    back = omega arith

    parts : (g : ℕ → ℕ) → from_bits 16 g ≡ from_bits a g * 2 ^ r + from_bits r (behind a g)
    parts g = ap (λ n. from_bits n g) (sym is) ∙ behind_split a r g

    left : from_bits 16 f * 2 ^ a % 2 ^ 16 ≡ from_bits r (behind a f) * 2 ^ a
    left =
        ap (λ n. from_bits 16 f * 2 ^ a % 2 ^ n) back ∙ mod-pow-add (from_bits 16 f * 2 ^ a) r a
        ∙ ap₂ (λ u v. u % 2 ^ r * 2 ^ a + v) (shl-shr (from_bits 16 f) a ∙ parts f) (mul-mod_left (from_bits 16 f) (2 ^ a))
        ∙ ap (λ u. u * 2 ^ a + 0) (low (from_bits a f) r (from_bits_lt r (behind a f))) ∙ omega arith

    right : from_bits 16 (behind 16 f) / 2 ^ r ≡ from_bits a (behind 16 f)
    right = ap (λ u. u / 2 ^ r) (parts (behind 16 f)) ∙ high (from_bits a (behind 16 f)) r (from_bits_lt r (behind a (behind 16 f)))

    whole : from_bits 16 (behind a f) ≡ from_bits r (behind a f) * 2 ^ a + from_bits a (behind 16 f)
    whole =
        ap (λ n. from_bits n (behind a f)) back ∙ behind_split r a (behind a f)
        ∙ ap (λ u. from_bits r (behind a f) * 2 ^ a + u)
        (from_bits_ext a (λ k. f (a + (r + k))) (λ k. f (16 + k)) (λ k l. ap (λ i. f i % 2) (omega arith)))

-- The last of sixteen bits made zero.
but_last : (f : ℕ → ℕ) (z : ℕ) → z ≡ from_bits 16 f → z / 2 ^ 1 * 2 ^ 1 % 2 ^ 16 ≡ from_bits 15 f * 2
unfolding from_bits
but_last f z e = omega (arith, from_bits_lt 16 f)

-- Word n of eight, from the two bytes that have its first bit and the two behind them.
pub fifteen_is : (s : List ℕ) (at n u v x y z t : ℕ) → n < 8 → u ≡ read_word s (at + 2 * n) → v ≡ read_word s (at + 2 * n + 2)
    → x ≡ turned u 8 → y ≡ turned v 8 → z ≡ bit_or (x * 2 ^ (8 - n) % 2 ^ 16) (y / 2 ^ (8 + n)) → t ≡ turned (z / 2 ^ 1 * 2 ^ 1 % 2 ^ 16) 8
    → t ≡ fifteen_of s (8 * at + 8 + 15 * n)
unfolding behind fifteen_of
fifteen_is s at n u v x y z t l eu ev ex ey ez et =
    et ∙ ap (λ m. turned m 8)
    (but_last (behind (8 - n) f) z
    (ez ∙ ap₂ (λ a b. bit_or (a * 2 ^ (8 - n) % 2 ^ 16) (b / 2 ^ (8 + n))) first second ∙ joined f (8 - n) (8 + n) (omega arith))
    ∙ ap (λ m. m * 2)
    (from_bits_ext 15 (behind (8 - n) f) (λ k. bit s (8 * at + 8 + 15 * n + k)) (λ k lk. ap (λ i. bit s i % 2) (omega arith))))
  where
    f : ℕ → ℕ
    f c = bit s (8 * (at + 2 * n) + c)

    first : x ≡ from_bits 16 f
    first = ex ∙ ap (λ z. turned z 8) eu ∙ read_turned s (at + 2 * n)

    second : y ≡ from_bits 16 (behind 16 f)
    second =
        ey ∙ ap (λ z. turned z 8) ev ∙ read_turned s (at + 2 * n + 2)
        ∙ from_bits_ext 16 (λ c. bit s (8 * (at + 2 * n + 2) + c)) (behind 16 f) (λ c lc. ap (λ i. bit s i % 2) (omega arith))

-- Fifteen bits of the payload from bit 15w+3072 on and a zero behind them are block 6 of word w,
fifteen_open : (y : List ℕ) (w : ℕ) → from_bits 15 (λ k. bit y (w * 15 + 3072 + k)) * 2 ≡ from_bits 16 (λ k. own_bit y w (224 + k))
unfolding from_bits
fifteen_open y w =
    ap (λ z. z * 2)
    (from_bits_ext 15 (λ k. bit y (w * 15 + 3072 + k)) (λ k. own_bit y w (224 + k))
    (λ k lk. ap (λ b. b % 2) (own_high y w (224 + k) _ (omega arith) (omega arith) (ap (bit y) (omega arith)))))
    ∙ omega (arith, own_none y w (224 + 15) (omega arith))

-- and turned they are its number.
turned_open : (y : List ℕ) (w x : ℕ) → x ≡ from_bits 15 (λ k. bit y (w * 15 + 3072 + k)) * 2 → turned x 8 ≡ open_number y (8 * w + 6)
unfolding turned
turned_open y w x e =
    open_is y w 6 (8 * w + 6) (bit_of 16 x) (omega arith) refl
    (λ k lk.
    let p : 224 + k ≡ 128 + (16 * 6 + k) = omega arith in
    let b : bit_of 16 x k ≡ own_bit y w (224 + k) % 2 =
    ap (λ z. bit_of 16 z k) (e ∙ fifteen_open y w) ∙ bit_of_from_bits 16 (λ k. own_bit y w (224 + k)) k lk in
    omega (arith, b, ap (own_bit y w) p))

-- So fifteen bits from there on are word w's,
last_of : (y : List ℕ) (w i t : ℕ) → t ≡ fifteen_of y i → i ≡ w * 15 + 3072 → t ≡ last_number y w
unfolding fifteen_of last_number
last_of y w i t e p = e ∙ turned_open y w _ (ap (λ i. from_bits 15 (λ k. bit y (i + k)) * 2) p)

-- and those of the last sixteen bytes are the payload's.
end_of : (y s : List ℕ) (i t : ℕ) → Filling (λ k. get_or y (428 + k) 0) 18 16 s → i + 15 ≤ 128 → t ≡ fifteen_of s i → t ≡ fifteen_of y (3424 + i)
unfolding bit fifteen_of
end_of y s i t h l e =
    e ∙ ap (λ u. turned (u * 2) 8)
    (from_bits_ext 15 (λ k. bit s (i + k)) (λ k. bit y (3424 + i + k))
    (λ k lk.
    let p : 428 + (i + k) / 8 ≡ (3424 + i + k) / 8 = omega arith in
    let q : (i + k) % 8 ≡ (3424 + i + k) % 8 = omega arith in
    ap₂ (λ u v. bit_of 8 u v % 2) (h.done 0 ((i + k) / 8) (omega arith) ∙ ap (λ j. get_or y j 0) p) q))

-- These sixteen, in a buffer of eighteen.
pub end_copied : (y d ys : List ℕ) → length y ≡ 444 → length d ≡ 18 → ys ≡ take 16 (drop 428 y)
    → Filling (λ k. get_or y (428 + k) 0) 18 16 (put_mid 0 16 d ys)
end_copied y d ys l e p =
    fill_part 16 ys (fill_none (λ k. get_or y (428 + k) 0) 18 d e) (omega arith)
    (p ∙ part_tabulate 428 16 y (omega arith) ∙ tabulate_ext 16 _ (λ k. get_or y (428 + (0 + k)) 0) (λ k l. ap (λ n. get_or y (428 + n) 0) (omega arith)))

-- Word n of each of the four groups.
pub lasts_more : (y s d : List ℕ) (n a b c e : ℕ) → FourFronts (last_number y) n d → n < 8 → Filling (λ k. get_or y (428 + k) 0) 18 16 s
    → a ≡ fifteen_of y (8 * 383 + 8 + 15 * n) → b ≡ fifteen_of y (8 * 398 + 8 + 15 * n) → c ≡ fifteen_of y (8 * 413 + 8 + 15 * n)
    → e ≡ fifteen_of s (8 * 0 + 8 + 15 * n)
    → FourFronts (last_number y) (n + 1) (set (set (set (set d n a) (8 + n) b) (16 + n) c) (24 + n) e)
lasts_more y s d n a b c e h l hs p q r z =
    fronts_more h l a b c e (last_of y n _ a p (omega arith)) (last_of y (8 + n) _ b q (omega arith)) (last_of y (16 + n) _ c r (omega arith))
    (last_of y (24 + n) _ e (end_of y s _ e hs (omega arith) z) (omega arith))

pub ruleset lastwise = (fronts_none, lasts_more, fronts_done)

-- ---- a row

-- Block 7 has no payload: zeros, in a row too.
none_open : (y : List ℕ) (w n : ℕ) → n ≡ 8 * w + 7 → 0 ≡ open_number y n
unfolding from_bits
none_open y w n e = open_is y w 7 n (λ k. 0) (omega arith) e (λ k lk. ap (λ b. b % 2) (own_none y w (128 + (16 * 7 + k)) (omega arith)))

seventh : (y : List ℕ) (s k : ℕ) → 112 ≤ k → k < 128 → 0 ≡ row_number y s k
unfolding row_number
seventh y s k a l = none_open y (16 * s + k % 16) _ (omega arith)

-- A part of a buffer was lent: what stands behind it is as it was.
lent_rest : (a l : ℕ) (d ys : List ℕ) → a + l ≤ length d → length ys ≡ l → (k : ℕ) → a + l ≤ k → get_or (put_mid a l d ys) k 0 ≡ get_or d k 0
lent_rest a l d ys fits ly k h =
    ap (λ n. get_or (put_mid a l d ys) n 0) place ∙ sym (get_or-drop (a + l) (put_mid a l d ys) (k - (a + l)) 0)
    ∙ ap (λ u. get_or u (k - (a + l)) 0) same
    ∙ get_or-drop (a + l) d (k - (a + l)) 0 ∙ ap (λ n. get_or d n 0) (sym place)
  where
    place : k ≡ a + l + (k - (a + l))
    place = omega arith

    size : a + l - a ≡ l
    size = omega arith

    same : drop (a + l) (put_mid a l d ys) ≡ drop (a + l) d
    same = rw size at (drop_put a (a + l) d ys (omega arith) fits (ly ∙ sym size))

-- Six blocks, then block 6, then zeros.
pub row_parts : (y last : List ℕ) (s : ℕ) (d ys zs : List ℕ) → d ≡ replicate 128 0 → ys ≡ tabulate 96 (row_number y s)
    → zs ≡ take 16 (drop (16 * s) last) → last ≡ tabulate 32 (last_number y) → s < 2
    → put_mid 96 16 (put_mid 0 96 d ys) zs ≡ tabulate 128 (row_number y s)
unfolding row_number last_number
row_parts y last s d ys zs ed ey et el ls = is_tabulate 0 (put_mid 96 16 (put_mid 0 96 d ys) zs) 128 (row_number y s) two.long (λ k l. at k l (dec_lt k 112))
  where
    ez : zs ≡ tabulate 16 (λ i. get_or last (16 * s + i) 0)
    ez = et ∙ part_tabulate (16 * s) 16 last (omega (arith, ap length el, length_tabulate 32 (last_number y)))

    long : length d ≡ 128
    long = ap length ed

    one : Filling (row_number y s) 128 96 (put_mid 0 96 d ys)
    one =
        fill_ext 96
        (fill_part 96 ys (fill_none (row_number y s) 128 d long) (omega arith)
        (ey ∙ tabulate_ext 96 (row_number y s) (λ k. row_number y s (0 + k)) (λ k l. ap (row_number y s) (omega arith))))
        (omega arith) (λ k l. refl)

    two : Filling (row_number y s) 128 112 (put_mid 96 16 (put_mid 0 96 d ys) zs)
    two = fill_part 16 zs one (omega arith)
        (ez ∙ tabulate_ext 16 (λ k. get_or last (16 * s + k) 0) (λ k. row_number y s (96 + k))
        (λ k l.
        ap (λ u. get_or u (16 * s + k) 0) el ∙ get_d_tabulate 32 (last_number y) (16 * s + k) 0 (omega arith) ∙ ap (open_number y) (omega arith)))

    at : (k : ℕ) → k < 128 → Dec (k < 112) → get_or (put_mid 96 16 (put_mid 0 96 d ys) zs) k 0 ≡ row_number y s k
    at k l (yes a) = two.done 0 k a
    at k l (no a) =
        lent_rest 96 16 (put_mid 0 96 d ys) zs (omega (arith, one.long)) (ap length ez ∙ length_tabulate 16 (λ k. get_or last (16 * s + k) 0)) k (omega arith)
        ∙ lent_rest 0 96 d ys (omega (arith, long)) (ap length ey ∙ length_tabulate 96 (row_number y s)) k (omega arith)
        ∙ ap (λ u. get_or u k 0) ed ∙ get_or-replicate 128 k 0 0 l ∙ seventh y s k (omega arith) l

-- A row by words.
by_words_length : (x : List ℕ) → length (by_words x) ≡ 128
unfolding by_words riffled
by_words_length x = length_tabulate 128 (riffled_number (riffled (riffled x)))

pub row_copied : (y : List ℕ) (s : ℕ) (ys x : List ℕ) → ys ≡ by_words x → x ≡ tabulate 128 (row_number y s)
    → ys ≡ tabulate 128 (λ i. open_number y (s * 128 + i))
unfolding row_number
row_copied y s ys x ef ex =
    is_tabulate 0 ys 128 (λ i. open_number y (s * 128 + i)) (ap length ef ∙ by_words_length x)
    (λ i l.
    let p : i ≡ 8 * (i / 8) + i % 8 = omega arith in
    ap (λ u. get_or u i 0) (ef ∙ ap by_words ex)
    ∙ ap (λ n. get_or (by_words (tabulate 128 (row_number y s))) n 0) p
    ∙ by_words_at (tabulate 128 (row_number y s)) (i / 8) (i % 8) (omega arith) (omega arith)
    ∙ get_d_tabulate 128 (row_number y s) (16 * (i % 8) + i / 8) 0 (omega arith)
    ∙ ap (open_number y) (omega arith))
