-- `mapping_core::qam16::demap` meets its contract: the bytes are filled from the front.
use Rattle.std.proofs.Common.{rules, arith}
use Rattle.bits.specs.Filling.{fill, fill_more}
use Rattle.profiles_spec.proofs.Qam16Bytes.{byte_at, bits_filled, legal_x, legal_y}
use Rattle.profiles_spec.proofs.Qam16Tables.{symbol_entry}
use Rattle.mapping_core.proofs.qam16.demap.Goals as goal

ruleset kit = (rules, fill, bits_filled)

pub overflow_mul-x-in-loop-i : goal.overflow_mul-x-in-loop-i
overflow_mul-x-in-loop-i c = record { fits = omega (arith, legal_x _ c.requires.1 c.requires.0 c.loop-i-test.true) }

pub overflow_add-x : goal.overflow_add-x
overflow_add-x c = record { fits = omega (arith, legal_x _ c.requires.1 c.requires.0 c.loop-i-test.true, legal_y _ c.requires.1 c.requires.0 c.loop-i-test.true) }

pub bounds-table-from : goal.bounds-table-from
bounds-table-from c = omega (arith, c.from.ensures, legal_x _ c.requires.1 c.requires.0 c.loop-i-test.true, legal_y _ c.requires.1 c.requires.0 c.loop-i-test.true)

pub loop-i-preserved : goal.loop-i-preserved
unfolding byte_at
loop-i-preserved c =
    let x = legal_x _ c.requires.1 c.requires.0 c.loop-i-test.true in
    let y = legal_y _ c.requires.1 c.requires.0 c.loop-i-test.true in
    fill_more _ c.loop-i.invariant c.loop-i-test.true (rw c.from.ensures (symbol_entry _ _ _ c.cell_symbols-table.ensures x y))

pub returns : goal.returns
returns c = search kit
