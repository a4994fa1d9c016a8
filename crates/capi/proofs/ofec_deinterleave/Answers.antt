-- `capi::ofec_deinterleave` meets its contract: the answer of the library in numbers, and its buffers.
use Rattle.std.proofs.Common.{rules}
use Rattle.capi.specs.ExportLaws.{exported_is}
use Rattle.capi.proofs.ofec_deinterleave.Goals as goal

ruleset kit = (rules, exported_is)

pub returns : goal.returns
returns c = search kit
