-- `moved_sums_core::up64` meets its contract: step by step as its circuit, whose sums are computed.
-- Assumes nothing.
use Rattle.bits.specs.Lists.{tabulate}
use Rattle.bits.specs.Xor.{◌⊕◌}
use Rattle.networks_spec.specs.Circuits.{run, circuit, up64_steps, up64_sums}
use Rattle.networks_spec.proofs.CircuitLaws.{up64_circuit}
use Rattle.moved_sums_core.proofs.up64.Goals as goal

pub returns : goal.returns
unfolding circuit run tabulate up64_steps up64_sums ◌⊕◌
returns c = up64_circuit _
