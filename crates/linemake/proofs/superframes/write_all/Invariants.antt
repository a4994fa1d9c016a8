-- Both encoders are at the first pair of super-frame q, and the histories are those before it; a super-frame has at most 168 pairs of each.
use Rattle.std.proofs.Common.{◌≡◌, ◌*◌, ◌≤◌}
use Rattle.pair_spec.specs.Front.{BothBefore}
use Rattle.cells_spec.specs.Modulation.{pairs_in}
use Rattle.profiles_spec.specs.Profiles.{modulation}
use Rattle.linemake.proofs.superframes.write_all.Given as goal

abbrev pub invariant-loop-q : goal.invariant-loop-q
invariant-loop-q g l = record {
  first : l.encoders.first.next ≡ pairs_in (modulation l.profile) l.q;
  second : l.encoders.second.next ≡ l.encoders.first.next;
  most : l.encoders.first.next ≤ l.q * 168;
  both : BothBefore (pairs_in (modulation l.profile) l.q) l.encoders.first.history l.encoders.second.history;
}
