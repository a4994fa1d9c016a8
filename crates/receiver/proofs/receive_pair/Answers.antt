-- `receiver::receive_pair` meets its contract: the tests in their order, and what it does.
use Rattle.std.proofs.Common.{rules}
use Rattle.calls.proofs.CallLaws.{cases, stray_of}
use Rattle.pair_spec.proofs.CallLaws.{receive_done_lem, receive_put}
use Rattle.receiver.proofs.receive_pair.Goals as goal

ruleset kit = (rules, cases, stray_of, receive_done_lem, receive_put)

pub returns-then-coded-ne512 : goal.returns-then-coded-ne512
returns-then-coded-ne512 c = search kit

pub returns-then-payload-ne444 : goal.returns-then-payload-ne444
returns-then-payload-ne444 c = search kit

pub returns-then-marks-ne32 : goal.returns-then-marks-ne32
returns-then-marks-ne32 c = search kit

pub returns-then-history-ne5128 : goal.returns-then-history-ne5128
returns-then-history-ne5128 c = search kit

pub returns-then-stray : goal.returns-then-stray
returns-then-stray c = search kit

pub returns-then-pair-eq-SPENT : goal.returns-then-pair-eq-SPENT
returns-then-pair-eq-SPENT c = search kit

pub returns : goal.returns
returns c = search kit
