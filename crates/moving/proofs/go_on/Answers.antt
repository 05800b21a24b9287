-- 12 where the pair is not above the last; else what was sent.
use Rattle.moving.proofs.Laws.MovedAnswers.{moved_12, moved_sent}
use mathlib.Core.Path.{ap, refl}
use mathlib.Core.Bool.{not}
use Rattle.moving.proofs.go_on.Goals as goal

pub returns-then-not-is_above : goal.returns-then-not-is_above
returns-then-not-is_above c =
    let a = c.args in
    moved_12 a.m a.k a.x a.l a.out.now _ _ _ refl c.step_of.ensures c.is_above.ensures (ap not c.if-not-is_above.true)

pub returns : goal.returns
returns c = let a = c.args in
    moved_sent a.m a.k a.x a.l a.out.now _ _ _ refl c.step_of.ensures c.is_above.ensures _ c.send_next-s.result _ (ap not c.if-not-is_above.false) c.answer.ensures c.send_next-s.ensures
