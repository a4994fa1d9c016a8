-- `cells_core::legal::first_illegal_in_buffer` meets its contract, profile by profile: the part that is searched is the whole.
use Rattle.std.proofs.Common.{rules}
use Rattle.profiles_spec.proofs.ProfileLaws.{buffer_searched}
use Rattle.cells_core.proofs.legal.first_illegal_in_buffer.Goals as goal

ruleset kit = (rules, buffer_searched)

pub slice_bounds-first_illegal-end : goal.slice_bounds-first_illegal-end
slice_bounds-first_illegal-end c = search kit

pub slice_bounds-first_outer-end : goal.slice_bounds-first_outer-end
slice_bounds-first_outer-end c = search kit

pub returns-in-Qam16 : goal.returns-in-Qam16
returns-in-Qam16 c = search kit

pub returns-in-Qpsk : goal.returns-in-Qpsk
returns-in-Qpsk c = search kit
