-- `interleaver::deinterleave` meets its contract: the tests in their order, and what it does.
use Rattle.std.proofs.Common.{rules}
use Rattle.calls.proofs.CallLaws.{cases}
use Rattle.interleaver_spec.proofs.CallLaws.{part_done}
use Rattle.interleaver.proofs.deinterleave.Goals as goal

ruleset kit = (rules, cases, part_done)

pub returns-then-bits-ne21504 : goal.returns-then-bits-ne21504
returns-then-bits-ne21504 c = search kit

pub returns-then-pairs0-ne10752 : goal.returns-then-pairs0-ne10752
returns-then-pairs0-ne10752 c = search kit

pub returns-then-pairs1-ne10752 : goal.returns-then-pairs1-ne10752
returns-then-pairs1-ne10752 c = search kit

pub returns : goal.returns
returns c = search kit
