-- `mapping_qpsk_core::demap` meets its contract: the bytes are filled from the front.
use Rattle.std.proofs.Common.{rules}
use Rattle.bits.specs.Filling.{fill}
use Rattle.profiles_spec.proofs.QpskBytes.{bits_filled, byte_joined, lows}
use Rattle.mapping_qpsk_core.proofs.demap.Goals as goal

ruleset kit = (rules, fill, bits_filled, byte_joined, lows)

pub symbol_of-upper-requires : goal.symbol_of-upper-requires
symbol_of-upper-requires c = search kit

pub symbol_of-lower-requires : goal.symbol_of-lower-requires
symbol_of-lower-requires c = search kit

pub loop-i-preserved : goal.loop-i-preserved
loop-i-preserved c = search kit

pub returns : goal.returns
returns c = search kit
