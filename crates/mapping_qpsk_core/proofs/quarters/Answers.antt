-- `mapping_qpsk_core::quarters` meets its contract: the definition.
use Rattle.std.proofs.Common.{rules}
use Rattle.bits.specs.Lists.{tabulate}
use Rattle.cells_spec.specs.QpskBytes.{half_of, quarter}
use Rattle.mapping_qpsk_core.proofs.quarters.Goals as goal

pub returns : goal.returns
unfolding tabulate quarter half_of
returns c = search rules
