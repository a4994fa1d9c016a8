-- `moved_sums_core::up16` meets its contract: step by step as its circuit, whose sums are computed.
-- Assumes nothing.
use Rattle.bits.specs.Lists.{tabulate}
use Rattle.bits.specs.Xor.{◌⊕◌}
use Rattle.networks_spec.specs.Circuits.{run, circuit, up16_steps, up16_sums}
use Rattle.networks_spec.proofs.CircuitLaws.{up16_circuit}
use Rattle.moved_sums_core.proofs.up16.Goals as goal

pub returns : goal.returns
unfolding circuit run tabulate up16_steps up16_sums ◌⊕◌
returns c = up16_circuit _
