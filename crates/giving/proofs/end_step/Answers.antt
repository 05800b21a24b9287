-- The last round closes the station; any other goes on.
use mathlib.Core.Bool.{true}
use mathlib.Core.Path.{ap, ◌∙◌}
use Rattle.station.specs.Present.{empty_station}
use Rattle.std.specs.Prelude.{Ok}
use Rattle.station.specs.declared.Answer.{Answer}
use Rattle.station.specs.Answers.{returned_by}
use Rattle.giving.specs.Gives.{shut_words}
use Rattle.giving.proofs.Laws.EndAnswers.{ends_closed, ends_on}
use Rattle.giving.proofs.end_step.Goals as goal

pub returns-then-closes : goal.returns-then-closes
unfolding shut_words
returns-then-closes c =
    let a = c.args in
    ap (λ (y : Answer). returned_by a.k a.m a.out.now (Ok y)) c.no_bundle.ensures
    ∙ (ends_closed a.m a.k a.coin a.out.now _ _ _ c.lasting_after-l.ensures c.closes.ensures c.if-closes.true (c.empty-closed.ensures ∙ ap (empty_station a.k.identity a.k.stage true) c.jump_off.ensures))

pub returns-else-closes : goal.returns-else-closes
returns-else-closes c =
    let a = c.args in
    ends_on a.m a.k a.coin a.out.now _ _ _ _ c.lasting_after-l.ensures c.closes.ensures c.if-closes.false c.next-x.ensures c.go_on.ensures
