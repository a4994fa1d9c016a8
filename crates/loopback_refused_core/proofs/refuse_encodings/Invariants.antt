-- The history is as it was, and the calls so far are counted.
use Rattle.std.proofs.Common.{◌≡◌}
use Rattle.loopback_core.specs.StepLaws.{Stepping}
use Rattle.loopback_core.specs.Tally.{refused_two}
use Rattle.loopback_refused_core.proofs.refuse_encodings.Given as goal

abbrev pub invariant-loop : goal.invariant-loop
invariant-loop l = record { kept : l.history ≡ l.fn.history; counted : Stepping (λ i. refused_two) 168 l.fn.counts l.counter l.counts }
