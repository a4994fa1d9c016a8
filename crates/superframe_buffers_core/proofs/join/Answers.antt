-- `superframe_buffers_core::join` meets its contract: one buffer a part.
use Rattle.std.proofs.Common.{◌≡◌, ◌*◌, ◌<◌, ◌∙◌, length, rules}
use Rattle.std.proofs.iter.Serving.{serving}
use Rattle.cells_spec.specs.Modulation.{cells_per_buffer}
use Rattle.bits.specs.Parts.{byte_of_each}
use Rattle.profiles_spec.specs.Profiles.{modulation}
use Rattle.superframe_spec.specs.Superframe.{buffer_cells}
use Rattle.superframe_spec.proofs.SuperframeLaws.{cells_some, whole_buffers, buffer_below, cells_block, payload_joined}
use Rattle.superframe_buffers_core.proofs.join.Goals as goal

pub fill_parts-requires-clause-width : goal.fill_parts-requires-clause-width
fill_parts-requires-clause-width c = cells_some _ _ c.cell_bytes.ensures

pub fill_parts-requires-clause-whole : goal.fill_parts-requires-clause-whole
fill_parts-requires-clause-whole c = whole_buffers _ _ c.cell_bytes.ensures _ c.requires.cells_long

pub fill_parts-requires-clause-accepts : goal.fill_parts-requires-clause-accepts
fill_parts-requires-clause-accepts c =
    λ k part l long. let below : k < (modulation c.args.profile).bits = buffer_below _ _ c.cell_bytes.ensures k _ c.requires.cells_long l in
    let room : length part.now ≡ cells_per_buffer (modulation c.args.profile) * 2 = long ∙ c.cell_bytes.ensures in
    grind serving

pub returns : goal.returns
returns c =
    let p = modulation c.args.profile in
    let pairs0 = c.args.pairs0.now in
    let pairs1 = c.args.pairs1.now in
    let width = c.cell_bytes.result in
    let size = c.cell_bytes.ensures in
    payload_joined p width size pairs0 pairs1 _ _ c.requires.cells_long
    (c.fill_parts.ensures (byte_of_each width (buffer_cells p pairs0 pairs1)) (λ k p' q l long e. cells_block p width size pairs0 pairs1 k q.now (search rules)))
