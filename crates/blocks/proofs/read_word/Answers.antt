-- `blocks::read_word` meets its contract.
use Rattle.std.proofs.Common.{◌∙◌}
use Rattle.blocks.specs.Twos.{read_from_le}
use Rattle.blocks.proofs.read_word.Goals as goal

pub returns : goal.returns
returns c = c.from_le_bytes.ensures ∙ read_from_le c.args.s.now c.args.j (λ i. (c.type_inv.s i).fits)
