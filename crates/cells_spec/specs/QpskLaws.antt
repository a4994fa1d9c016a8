-- The symbol of a cell of QPSK in a closed form, as the code has it; that it is so is a law (proofs/QpskLaws.antt).
-- Assumes nothing.
use Rattle.std.specs.Prelude.{ℕ, ◌+◌, ◌*◌, ◌/◌, ◌%◌}

-- The symbol of a legal cell. A bit is 1 where its level is 1, whose ordinal is 2.
unfoldable pub symbol_of_cell : ℕ → ℕ → ℕ
symbol_of_cell x y = x / 8 * 8 + y / 8 * 4 + x % 4 / 2 * 2 + y % 4 / 2
