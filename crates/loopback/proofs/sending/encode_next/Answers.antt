-- `loopback::sending::encode_next` meets its contract.
use Rattle.loopback.specs.StreamLaws.{coded_of_lem, history_of_lem}
use Rattle.loopback.proofs.sending.encode_next.Goals as goal

pub returns : goal.returns
returns c = (coded_of_lem _ _ _ _ _ c.draw.ensures _ c.encode.ensures, history_of_lem _ _ _ _ _ c.draw.ensures _ c.encode.ensures)
