-- `block_sums_core::back` meets its contract: step by step as its circuit, whose sums are computed.
-- Assumes nothing.
use Rattle.bits.specs.Lists.{tabulate}
use Rattle.bits.specs.Xor.{◌⊕◌}
use Rattle.networks_spec.specs.Circuits.{run, circuit, back_steps, back_sums}
use Rattle.networks_spec.proofs.CircuitLaws.{back_circuit}
use Rattle.block_sums_core.proofs.back.Goals as goal

pub returns : goal.returns
unfolding circuit run tabulate back_steps back_sums ◌⊕◌
returns c = back_circuit _
