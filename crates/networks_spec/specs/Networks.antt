-- Sums of sixteen numbers by constant matrices: bit i of column j says whether number j goes into sum i.
-- Assumes nothing.
use Rattle.std.specs.Prelude.{List, [], ◌∷◌, ℕ, zero, suc, ◌+◌, ◌*◌, ◌/◌, ◌%◌, ◌^◌, get_or}
use Rattle.bits.specs.Lists.{tabulate}
use Rattle.bits.specs.Xor.{◌⊕◌}

-- v goes into the sum unless t is 0.
unfoldable pub taken : ℕ → ℕ → ℕ → ℕ
taken zero a v = a
taken (suc t) a v = a ⊕ v

-- The sum of f's values at the first n places that t marks.
unfoldable pub marked : ℕ → (ℕ → ℕ) → (ℕ → ℕ) → ℕ
marked zero t f = 0
marked (suc n) t f = taken (t n) (marked n t f) (f n)

-- Sum i of a network, and all sixteen.
unfoldable pub network_sum : List ℕ → List ℕ → ℕ → ℕ
network_sum columns x i = marked 16 (λ j. get_or columns j 0 / 2 ^ i % 2) (λ j. get_or x j 0)

unfoldable pub network : List ℕ → List ℕ → List ℕ
network columns x = tabulate 16 (network_sum columns x)

-- Lane C of eight side by side, and two lanes summed.
unfoldable pub lane : List ℕ → ℕ → List ℕ
lane x C = tabulate 16 (λ i. get_or x (8 * i + C) 0)

unfoldable pub added : List ℕ → List ℕ → List ℕ
added a b = tabulate 16 (λ i. get_or a i 0 ⊕ get_or b i 0)

-- ---- the matrices: S1 in bits 0 to 7 of a column, S3 in bits 8 to 15

-- Of the last block of a word, as if bit 255 had a locator like the others.
unfoldable pub back_columns : List ℕ
back_columns = 46355 ∷ 13703 ∷ 9677 ∷ 10216 ∷ 24692 ∷ 3130 ∷ 36637 ∷ 30080 ∷ 11584 ∷ 9760 ∷ 52496 ∷ 14856 ∷ 16388 ∷ 2050 ∷ 257 ∷ 44430 ∷ []

-- The same 128 places further on.
unfoldable pub front_columns : List ℕ
front_columns = 45866 ∷ 64533 ∷ 37252 ∷ 48962 ∷ 29473 ∷ 58526 ∷ 37455 ∷ 21929 ∷ 10714 ∷ 43117 ∷ 5560 ∷ 8540 ∷ 43310 ∷ 47127 ∷ 6021 ∷ 26316 ∷ []

-- Sums moved 64, 32 and 16 places on.
unfoldable pub up64_columns : List ℕ
up64_columns = 95 ∷ 190 ∷ 97 ∷ 194 ∷ 153 ∷ 47 ∷ 94 ∷ 188 ∷ 33280 ∷ 6400 ∷ 12800 ∷ 25600 ∷ 51200 ∷ 36096 ∷ 1792 ∷ 3584 ∷ []

unfoldable pub up32_columns : List ℕ
up32_columns = 157 ∷ 39 ∷ 78 ∷ 156 ∷ 37 ∷ 74 ∷ 148 ∷ 53 ∷ 55552 ∷ 44800 ∷ 17152 ∷ 34304 ∷ 4352 ∷ 8704 ∷ 17408 ∷ 34816 ∷ []

unfoldable pub up16_columns : List ℕ
up16_columns = 76 ∷ 152 ∷ 45 ∷ 90 ∷ 180 ∷ 117 ∷ 234 ∷ 201 ∷ 17920 ∷ 35840 ∷ 1280 ∷ 2560 ∷ 5120 ∷ 10240 ∷ 20480 ∷ 40960 ∷ []

-- ---- the check bits from S1 and S3

-- Sum i is one of the remainder's sixteen digits, in the order in which the code puts them into the last block of a word, its bytes
-- exchanged: those of bits 248 to 254, that of bit 239 in the place of bit 255, and those of bits 240 to 247.
unfoldable pub check_columns : List ℕ
check_columns = 20957 ∷ 54221 ∷ 37573 ∷ 45633 ∷ 55584 ∷ 27792 ∷ 19819 ∷ 42677 ∷ 20893 ∷ 41864 ∷ 10193 ∷ 54253 ∷ 10983 ∷ 59595 ∷ 37589 ∷ 61008 ∷ []
