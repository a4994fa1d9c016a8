-- `bits::numbers::number` meets its contract.
use Rattle.std.proofs.Common.{rules}
use Rattle.bits.proofs.Numbers32Laws.{number_read}
use Rattle.bits.proofs.numbers.number.Goals as goal

pub returns : goal.returns
returns c = search (rules, number_read)
