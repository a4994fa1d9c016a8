-- `frame_legal_core::first_illegal_qpsk` meets its contract: where neither search finds one, all bytes are legal.
use Rattle.std.proofs.Common.{rules}
use Rattle.profiles_spec.specs.Profiles.{qpsk}
use Rattle.frame_spec.proofs.LegalLaws.{none_in_frame}
use Rattle.frame_legal_core.proofs.first_illegal_qpsk.Goals as goal

pub returns-then-is_none-2 : goal.returns-then-is_none-2
returns-then-is_none-2 c = none_in_frame qpsk _ _ c.requires (search rules) (search rules)
