-- `mapping_core::qam16::map` meets its contract: the cells are filled two bytes at a time.
use Rattle.std.proofs.Common.{rules, arith, refl, ap, ap₂, [], ◌∷◌, ◌≡◌, ◌∙◌, ◌<◌, ◌+◌, ◌*◌, ◌/◌, ◌%◌, slice_index_or}
use Rattle.bits.specs.Filling.{blocks_next}
use Rattle.bits.specs.Lists.{tabulate}
use Rattle.cells_spec.specs.Qam16Tables.{cell_bytes}
use Rattle.profiles_spec.proofs.Qam16Tables.{by_filled_cells, cell_bytes_entry, cell_bytes_below, cell_x, cell_y}
use Rattle.mapping_core.proofs.qam16.map.Goals as goal

pub loop-i-preserved : goal.loop-i-preserved
unfolding tabulate
loop-i-preserved c =
    let bits = c.args.bits.now in
    let i = c.loop-i.i in
    let table = c.symbol_cells-table in
    let v = slice_index_or table.result c.from.result 0 in
    let small : c.from.result < 256 = search rules in
    let entry : v ≡ cell_bytes (slice_index_or bits i 0) = cell_bytes_entry table.result _ table.ensures small ∙ ap cell_bytes c.from.ensures in
    let upper : v / 256 % 256 ≡ v / 256 = omega (arith, cell_bytes_below table.result _ table.ensures small) in
    let first : i * 2 + 0 ≡ i * 2 = omega arith in
    blocks_next (i * 2) (i * 2 + 2) c.copy_from_slice.new.self c.loop-i.invariant c.loop-i-test.true refl refl
    (c.copy_from_slice.ensures.after ∙ c.to_le_bytes.ensures ∙ rw first (ap₂ (λ x y. x ∷ y ∷ []) (cell_x bits i v entry) (upper ∙ cell_y bits i v entry)))

pub returns : goal.returns
returns c = search (rules, by_filled_cells)
