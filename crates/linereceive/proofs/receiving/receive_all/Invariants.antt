-- The sums are small; both receivers are at the first pair of super-frame q, and the histories are those before it; a super-frame has at
-- most 168 pairs of each.
use Rattle.std.proofs.Common.{◌≡◌, ◌*◌, ◌≤◌}
use Rattle.pair_spec.specs.Front.{BothBefore}
use Rattle.cells_spec.specs.Modulation.{pairs_in}
use Rattle.profiles_spec.specs.Profiles.{modulation}
use Rattle.linereceive.proofs.receiving.receive_all.Given as goal

abbrev pub invariant-loop-q : goal.invariant-loop-q
invariant-loop-q g l = record {
  flips : l.received.flips ≤ l.q * 8589934592;
  lost : l.received.lost ≤ l.q * 8589934592;
  differing : l.received.overhead ≤ l.q * 8589934592;
  first : l.receivers.first.next ≡ pairs_in (modulation l.profile) l.q;
  second : l.receivers.second.next ≡ l.receivers.first.next;
  most : l.receivers.first.next ≤ l.q * 168;
  both : BothBefore (pairs_in (modulation l.profile) l.q) l.receivers.first.history l.receivers.second.history;
}
