-- `mapping_core::qam16::cell_bytes` meets its contract: the definition, from the two bytes.
use Rattle.std.proofs.Common.{◌∙◌}
use Rattle.profiles_spec.proofs.Qam16Tables.{cell_bytes_made}
use Rattle.mapping_core.proofs.qam16.cell_bytes.Goals as goal

pub returns : goal.returns
returns c = c.from_le_bytes.ensures ∙ cell_bytes_made c.args.b _ _ c.x_byte.ensures c.y_byte.ensures
