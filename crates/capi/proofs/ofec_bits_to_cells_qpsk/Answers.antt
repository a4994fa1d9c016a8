-- `capi::ofec_bits_to_cells_qpsk` meets its contract: the answer of the library in numbers, and its buffers.
use Rattle.std.proofs.Common.{rules}
use Rattle.profiles_spec.specs.Profiles.{modulation}
use Rattle.capi.specs.ExportLaws.{exported_is}
use Rattle.capi.proofs.ofec_bits_to_cells_qpsk.Goals as goal

ruleset kit = (rules, exported_is)

pub returns : goal.returns
unfolding modulation
returns c = search kit
