-- `frame_legal_core::is_illegal` meets its contract: one law for either kind of cell.
use Rattle.std.proofs.Common.{rules, sym, ◌∙◌}
use Rattle.profiles_spec.specs.Profiles.{qpsk}
use Rattle.frame_spec.proofs.FrameLaws.{rule_overhead, rule_payload}
use Rattle.frame_legal_core.proofs.is_illegal.Goals as goal

pub returns-then-is_overhead : goal.returns-then-is_overhead
returns-then-is_overhead c = sym (rule_overhead qpsk _ _ _ (search rules))

pub returns-else-is_overhead : goal.returns-else-is_overhead
returns-else-is_overhead c = c.is_outer.ensures ∙ sym (rule_payload qpsk _ _ _ (search rules))
