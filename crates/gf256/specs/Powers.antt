-- Times a in GF(256). 01, "Code words": "Let a be a root of the first factor. The library carries the 255 powers of a
-- as a table from 1 on, each entry being the one before times a, in bytes whose bit i stands for the i-th power of a."
-- Assumes nothing.
use Rattle.std.specs.Prelude.{List, [], ◌∷◌, ℕ, ◌*◌}
use Rattle.gf256.specs.Polynomials.{reduce}

-- "the first factor": y^8+y^4+y^3+y^2+1.
unfoldable pub first_factor : List ℕ
first_factor = 8 ∷ 4 ∷ 3 ∷ 2 ∷ 0 ∷ []

-- A byte times a: each power one higher, and a^8 replaced by what the first factor says that it is.
unfoldable pub times_a : ℕ → ℕ
times_a x = reduce first_factor 8 (x * 2)
