-- `superframe::take_apart` meets its contract.
use Rattle.std.proofs.Common.{refl, rules}
use Rattle.calls.proofs.CallLaws.{cases}
use Rattle.cells_spec.proofs.CallLaws.{legality, demap_legal}
use Rattle.cells_spec.proofs.FoundLaws.{found_at, found_within, found_none}
use Rattle.superframe_spec.proofs.ApartLaws.{apart_done}
use Rattle.superframe.proofs.take_apart.Goals as goal

ruleset kit = (rules, cases, legality)

pub returns-in-Some : goal.returns-in-Some
returns-in-Some c = search (kit, found_at _ _ _ c.in-Some.ensures, found_within _ _ _ c.in-Some.ensures)

pub returns-in-Some-first_illegal : goal.returns-in-Some-first_illegal
returns-in-Some-first_illegal c =
    search (kit, found_none _ _ c.in_default.ensures, found_at _ _ _ c.in-Some-first_illegal.ensures, found_within _ _ _ c.in-Some-first_illegal.ensures)

pub take-requires : goal.take-requires
take-requires c = (
  record {
    frames_legal = demap_legal _ _ _ refl (found_none _ _ c.in_default-first_illegal.ensures);
    overhead_legal = demap_legal _ _ _ refl (found_none _ _ c.in_default.ensures);
  },
  c.requires,
)

pub returns : goal.returns
returns c =
    apart_done _ _ _ _ _ _ refl (found_none _ _ c.in_default.ensures) _ refl (found_none _ _ c.in_default-first_illegal.ensures) _ c.take.ensures
