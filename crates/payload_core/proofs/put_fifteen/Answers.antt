-- `payload_core::put_fifteen` meets its contract: the last bits of eight words.
use Rattle.std.proofs.Common.{◌∙◌}
use Rattle.payload_core.specs.PayloadParts.{last_bit, eight_words}
use Rattle.payload_core.proofs.put_fifteen.Goals as goal

pub returns : goal.returns
returns c =
    eight_words (last_bit c.args.halves.now) c.args.group c.last_sixty-first.result c.last_sixty-second.result c.args.out.now _ _
    (c.copy_from_slice.ensures.after ∙ c.number_bytes.ensures)
    (c.copy_from_slice-2.ensures.after ∙ c.number_bytes-2.ensures)
    c.last_sixty-first.ensures.0 c.last_sixty-second.ensures.0 c.requires.0
