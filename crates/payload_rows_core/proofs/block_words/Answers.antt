-- `payload_rows_core::block_words` meets its contract: word by word.
use Rattle.std.proofs.Common.{rules}
use Rattle.bits.proofs.FromFn.{from_fn_is}
use Rattle.payload_rows_core.specs.PayloadRowLaws.{read_row}
use Rattle.payload_rows_core.proofs.block_words.Goals as goal

pub returns : goal.returns
returns c = from_fn_is _ (λ r y q l e. search (rules, read_row)) c.from_fn.ensures.items
