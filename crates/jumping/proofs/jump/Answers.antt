-- 12 where the pair is not above the last; else what was sent.
use Rattle.jumping.proofs.Laws.JumpAnswers.{jumped_12, jumped_sent}
use mathlib.Core.Path.{ap}
use mathlib.Core.Bool.{not}
use Rattle.jumping.proofs.jump.Goals as goal

pub returns-then-not-is_above : goal.returns-then-not-is_above
returns-then-not-is_above c =
    let a = c.args in
    jumped_12 a.m a.t a.ws.now a.coin a.out.now _ _ _ _ _ c.word_at.ensures c.read_fields-given.ensures c.own_fields-f.ensures c.step_of.ensures c.is_above.ensures (ap not c.if-not-is_above.true)

pub returns : goal.returns
returns c =
    let a = c.args in
    jumped_sent a.m a.t a.ws.now a.coin a.out.now _ _ _ _ _ c.word_at.ensures c.read_fields-given.ensures c.own_fields-f.ensures c.step_of.ensures c.is_above.ensures
    c.send_copy-s.result _ _ (ap not c.if-not-is_above.false) c.stage_of.ensures c.send_copy-s.ensures
