-- `loopback::line::carry_all` meets its contract: one super-frame a turn.
use Rattle.std.proofs.Common.{rules}
use Rattle.loopback.specs.LineLaws.{carrying}
use Rattle.loopback.proofs.line.carry_all.Goals as goal

pub overflow_mul-n : goal.overflow_mul-n
overflow_mul-n c = search (rules, carrying)

pub loop-q-init : goal.loop-q-init
loop-q-init c = search (rules, carrying)

pub overflow_mul-a : goal.overflow_mul-a
overflow_mul-a c = search (rules, carrying)

pub overflow_add-a : goal.overflow_add-a
overflow_add-a c = search (rules, carrying)

pub carry_next-differing-requires : goal.carry_next-differing-requires
carry_next-differing-requires c = search (rules, carrying)

pub loop-q-preserved : goal.loop-q-preserved
loop-q-preserved c = search (rules, carrying)

pub returns : goal.returns
returns c = (search (rules, carrying), search (rules, carrying))
