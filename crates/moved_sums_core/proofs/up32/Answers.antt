-- `moved_sums_core::up32` meets its contract: step by step as its circuit, whose sums are computed.
-- Assumes nothing.
use Rattle.bits.specs.Lists.{tabulate}
use Rattle.bits.specs.Xor.{◌⊕◌}
use Rattle.networks_spec.specs.Circuits.{run, circuit, up32_steps, up32_sums}
use Rattle.networks_spec.proofs.CircuitLaws.{up32_circuit}
use Rattle.moved_sums_core.proofs.up32.Goals as goal

pub returns : goal.returns
unfolding circuit run tabulate up32_steps up32_sums ◌⊕◌
returns c = up32_circuit _
