-- `block_sums_core::front` meets its contract: step by step as its circuit, whose sums are computed.
-- Assumes nothing.
use Rattle.bits.specs.Lists.{tabulate}
use Rattle.bits.specs.Xor.{◌⊕◌}
use Rattle.networks_spec.specs.Circuits.{run, circuit, front_steps, front_sums}
use Rattle.networks_spec.proofs.CircuitLaws.{front_circuit}
use Rattle.block_sums_core.proofs.front.Goals as goal

pub returns : goal.returns
unfolding circuit run tabulate front_steps front_sums ◌⊕◌
returns c = front_circuit _
