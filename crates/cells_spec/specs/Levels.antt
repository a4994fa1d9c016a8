-- Levels. 01, "Cells": "A bit pair gives the level: 00 is −3, 01 is −1, 10 is 3, 11 is 1."
-- A level is a signed number.
-- Assumes nothing.
use Rattle.std.specs.Prelude.{ℕ, zero, suc, ◌+◌, ◌*◌, ◌/◌, ℤ, pos, neg_ℤ, nat_abs, ◌+ℤ◌}

-- The level of the bit pair (a, b).
unfoldable pub level : ℕ → ℕ → ℤ
level zero zero = neg_ℤ (pos 3)
level zero (suc b) = neg_ℤ (pos 1)
level (suc a) zero = pos 3
level (suc a) (suc b) = pos 1

-- The four levels.
pub data Level : ℤ → Type 0 where
  minus_three : Level (neg_ℤ (pos 3))
  minus_one : Level (neg_ℤ (pos 1))
  plus_three : Level (pos 3)
  plus_one : Level (pos 1)

-- "(I+3)/2" of a level I: its place, 0 to 3, among −3, −1, 1, 3.
unfoldable pub ordinal : ℤ → ℕ
ordinal l = nat_abs (l +ℤ pos 3) / 2

-- ---- the X or Y byte of a cell

-- "A cell is two bytes, X then Y, each 4×(I+3)/2 + (Q+3)/2."
unfoldable pub rails : ℤ → ℤ → ℕ
rails i q = 4 * ordinal i + ordinal q
