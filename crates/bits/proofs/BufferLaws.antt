-- Bits of buffers one after another, and of a part of a buffer.
-- Assumes nothing.
use Rattle.std.specs.Prelude.{◌≡◌, List, ◌++◌, ℕ, ◌+◌, ◌*◌, ◌/◌, ◌%◌, ◌<◌, length, drop}
use Rattle.std.proofs.Common.{ap, arith, get_or-drop, get_or-append-add}
use Rattle.std.proofs.Math.ListN.{get_or-append}
use Rattle.bits.specs.Bits.{bit_of, bit}

pub bit_left : (a b : List ℕ) (i : ℕ) → i < 8 * length a → bit (a ++ b) i ≡ bit a i
unfolding bit
bit_left a b i l = ap (λ x. bit_of 8 x (i % 8)) (get_or-append a b 0 (i / 8) (omega arith))

pub bit_right : (a b : List ℕ) (i j : ℕ) → i ≡ 8 * length a + j → bit (a ++ b) i ≡ bit b j
unfolding bit
bit_right a b i j e =
    let d : i / 8 ≡ length a + j / 8 = omega arith in
    let m : i % 8 ≡ j % 8 = omega arith in
    rw (d, m) (ap (λ x. bit_of 8 x (j % 8)) (get_or-append-add a b (j / 8) 0))

pub bit_drop : (n : ℕ) (a : List ℕ) (i j : ℕ) → j ≡ 8 * n + i → bit (drop n a) i ≡ bit a j
unfolding bit
bit_drop n a i j e =
    let d : j / 8 ≡ n + i / 8 = omega arith in
    let m : j % 8 ≡ i % 8 = omega arith in
    rw (d, m) (ap (λ x. bit_of 8 x (i % 8)) (get_or-drop n a (i / 8) 0))
