-- Parts of a buffer, and buffers end to end.
-- Assumes nothing.
use Rattle.std.specs.Prelude.{List, ℕ, ◌*◌, ◌/◌, ◌%◌, get_or, take, drop}
use Rattle.bits.specs.Lists.{tabulate}

-- n bytes of a buffer, from byte a on; and number k of the parts of w bytes that it consists of.
abbrev pub part : ℕ → ℕ → List ℕ → List ℕ
part a n s = take n (drop a s)

abbrev pub part_of : ℕ → List ℕ → ℕ → List ℕ
part_of w s k = part (k * w) w s

-- m buffers of w bytes end to end: f 0, f 1, .., f (m - 1).
abbrev pub byte_of_each : ℕ → (ℕ → List ℕ) → ℕ → ℕ
byte_of_each w f y = get_or (f (y / w)) (y % w) 0

unfoldable pub end_to_end : ℕ → ℕ → (ℕ → List ℕ) → List ℕ
end_to_end m w f = tabulate (m * w) (byte_of_each w f)
