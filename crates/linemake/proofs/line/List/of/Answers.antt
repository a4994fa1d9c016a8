-- A list with no illegal byte is legal.
use Rattle.cells_spec.proofs.CallLaws.{legal_unfound}
use Rattle.linemake.proofs.line.List.of.Goals as goal

pub invariant_of-result : goal.invariant_of-result
invariant_of-result c = record { legal = legal_unfound _ _ c.in-None.ensures }
