-- The payload of the first sub-frames, and their count.
use Rattle.bits.proofs.Folding.{Counting}
use Rattle.superframe_spec.specs.Apart.{differing_in}
use Rattle.superframe_spec.proofs.ApartLaws.{Unframing}
use Rattle.superframe_core.proofs.unframe_all.Given as goal

abbrev pub invariant-loop-s : goal.invariant-loop-s
invariant-loop-s l =
    record {
      cells : Unframing l.line l.s l.cells;
      count : Counting (differing_in l.line l.overhead) 48 l.s l.n;
    }
