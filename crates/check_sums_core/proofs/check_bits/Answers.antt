-- `check_sums_core::check_bits` meets its contract: step by step as its circuit, whose sums are computed.
-- Assumes nothing.
use Rattle.bits.specs.Lists.{tabulate}
use Rattle.bits.specs.Xor.{◌⊕◌}
use Rattle.networks_spec.specs.Circuits.{run, circuit, check_steps, check_sums}
use Rattle.networks_spec.proofs.CircuitLaws.{check_circuit}
use Rattle.check_sums_core.proofs.check_bits.Goals as goal

pub returns : goal.returns
unfolding circuit run tabulate check_steps check_sums ◌⊕◌
returns c = check_circuit _
