-- `loopback::line::carry_next` meets its contract: an encoder's pairs of a super-frame fit the room.
use Rattle.std.proofs.Common.{ℕ, List, ◌≤◌, ◌∙◌, length, replicate, arith}
use Rattle.std.proofs.lemmas.List.{length-replicate}
use Rattle.bits.proofs.PartLaws.{part_long}
use Rattle.loopback.specs.LineLaws.{pairs_most}
use Rattle.loopback.proofs.line.carry_next.Goals as goal

pub slice_bounds-room-end : goal.slice_bounds-room-end
slice_bounds-room-end c = pairs_most c.args.profile (length c.args.pairs.now) _ c.requires.2 (length-replicate {A = ℕ} 86016 0)

pub carry_both-requires : goal.carry_both-requires
carry_both-requires c =
    let room : List ℕ = replicate 86016 0 in
    let fits : length c.args.pairs.now ≤ length room = pairs_most c.args.profile (length c.args.pairs.now) _ c.requires.2 (length-replicate {A = ℕ} 86016 0) in
    (c.requires.0, c.requires.1, c.requires.2, part_long 0 (length c.args.pairs.now) (length c.args.pairs.now) room (omega arith) fits ∙ c.requires.2)
