-- The pairs of a history, stated over their number n, 512 bytes each. 01, "Rows and pairs": "The history holds the ten pairs before,
-- oldest first, 5,120 bytes, all zero and with pair number 0 when fresh". What stands in front of them since 02, E2, is in Front.antt.
-- Assumes nothing.
use Rattle.std.specs.Prelude.{List, ◌++◌, ℕ, ◌+◌, ◌-◌, ◌*◌, ◌/◌, ◌%◌, drop, replicate}
use Rattle.bits.specs.Bits.{bit}
use Rattle.pair_spec.specs.Rows.{RowBits}
use Rattle.pair_spec.specs.Pairs.{pair_index}

-- "The history holds the ten pairs before".
abbrev pub depth : ℕ
depth = 10

-- The n pairs of a fresh history.
unfoldable pub fresh : ℕ → List ℕ
fresh n = replicate (512 * n) 0

-- The bits of the rows that coded pairs one after another hold, the first n of which are the n pairs before pair P, oldest first:
-- pair R div 2 is number R div 2 + n − P among them.
unfoldable pub held_bits : ℕ → List ℕ → ℕ → RowBits
held_bits n pairs P R C r c = bit pairs (4096 * (R / 2 + n - P) + pair_index (R % 2) C r c)

-- "the shifted history": its pairs, of which one more is held and the oldest goes.
unfoldable pub shift : List ℕ → List ℕ → List ℕ
shift history pair = drop 512 (history ++ pair)
