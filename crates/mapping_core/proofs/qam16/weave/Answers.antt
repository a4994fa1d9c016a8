-- `mapping_core::qam16::weave` meets its contract: `weave_is`, from what `bit_pair` ensures.
use Rattle.cells_spec.proofs.Qam16Laws.{weave_is}
use Rattle.mapping_core.proofs.qam16.weave.Goals as goal

pub returns : goal.returns
returns c = weave_is c.args.x c.args.y c.bit_pair-p.result c.bit_pair-q.result c.bit_pair-p.ensures c.bit_pair-q.ensures
