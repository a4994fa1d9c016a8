-- `payload_core::last_sixty` meets its contract: fifteen bits a turn.
use Rattle.std.proofs.Common.{rules}
use Rattle.payload_core.specs.NumberBits.{digits}
use Rattle.payload_core.specs.PayloadParts.{lastwise}
use Rattle.payload_core.proofs.last_sixty.Goals as goal

ruleset kit = (rules, digits, lastwise)

pub loop-i-init : goal.loop-i-init
loop-i-init c = search kit

pub overflow_mul-v : goal.overflow_mul-v
overflow_mul-v c = search kit

pub overflow_add-v : goal.overflow_add-v
overflow_add-v c = search kit

pub loop-i-preserved : goal.loop-i-preserved
loop-i-preserved c = search kit

pub returns : goal.returns
returns c = search kit
