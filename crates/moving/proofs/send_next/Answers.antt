-- By what the calls answer.
use Rattle.moving.proofs.Laws.MovedAnswers.{next_sent}
use Rattle.moving.proofs.send_next.Goals as goal

pub returns : goal.returns
returns c =
    let a = c.args in
    next_sent a.m a.k a.x a.l a.out.now a.f _ _ _ _ _ _ c.group_by.ensures c.count_by.ensures c.send.ensures
