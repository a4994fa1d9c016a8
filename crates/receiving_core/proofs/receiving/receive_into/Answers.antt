-- `receiving_core::receiving::receive_into` meets its contract, without a repair and with repairs.
use Rattle.std.proofs.Common.{◌≡◌, refl, ap, ◌∙◌, arith}
use Rattle.bits.specs.Lists.{tabulate}
use Rattle.bits.specs.ListLaws.{is_tabulate}
use Rattle.pair_words_core.specs.Halves.{payload_in}
use Rattle.receiving_core.specs.ReceivingLaws.{received_clean, received_repaired, repaired_made}
use Rattle.receiving_core.proofs.receiving.receive_into.Goals as goal
use Rattle.receiving_core.proofs.receiving.receive_into.Goals.{then-dirty-eq0, else-dirty-eq0}

pub returns : goal.returns
returns c =
    let p = c.args.coded.now in
    let long = c.requires.0 in
    let size = c.requires.3 in
    let found = c.gather-found.ensures in
    elim c.if-dirty-eq0.branch [
      | then-dirty-eq0 w ↦
          let k = w.fill.ensures in
          let none : w.fill.new.self ≡ tabulate 32 (λ w. 0) =
          is_tabulate 0 _ 32 (λ w. 0) (k.len ∙ c.requires.2) (λ i l. k.clones i 0 (omega arith) refl) in
          rw (w.marks-is, w.history-is)
          (received_clean _ _ p _ _ _ _ _ _ _ size long (λ j. (c.type_inv.coded j).fits) c.put_halves.ensures found.0 found.1 c.dirty-dirty.ensures w.if-dirty-eq0.true
          (c.put_payload.ensures ∙ ap payload_in w.halves-is) none c.shift_in.ensures)
      | else-dirty-eq0 w ↦
          rw (w.marks-is, w.history-is)
          (received_repaired _ _ p _ _ _ _ _ _ _ size long (λ j. (c.type_inv.coded j).fits) c.put_halves.ensures found.0 found.1 c.dirty-dirty.ensures
          (repaired_made _ _ _ _ p _ _ _ _ _ _ _ _ c.shift_in.ensures size long refl w.repair_words.ensures (c.put_payload.ensures ∙ ap payload_in w.halves-is)))
    ]
