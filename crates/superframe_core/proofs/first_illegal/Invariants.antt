-- The first sub-frames are legal.
use Rattle.profiles_spec.specs.Profiles.{modulation}
use Rattle.superframe_spec.proofs.LegalLaws.{Judged}
use Rattle.superframe_core.proofs.first_illegal.Given as goal

abbrev pub invariant-loop-s : goal.invariant-loop-s
invariant-loop-s l = Judged (modulation l.profile) l.line l.s
