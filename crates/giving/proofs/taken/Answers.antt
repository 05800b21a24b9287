-- Fewer than q are held, or the step ends.
use mathlib.Core.Path.{ap, ◌∙◌}
use Rattle.std.specs.Prelude.{Ok}
use Rattle.station.specs.declared.Answer.{Answer}
use Rattle.station.specs.Answers.{returned_by}
use Rattle.giving.proofs.Laws.EndAnswers.{taken_kept, taken_ends}
use borrow.Author.Rules.{rules}
use Rattle.giving.proofs.taken.Goals as goal

pub returns-then-number_of-quorum : goal.returns-then-number_of-quorum
returns-then-number_of-quorum c = let a = c.args in
    ap (λ (y : Answer). returned_by a.k a.m a.out.now (Ok y)) c.no_bundle.ensures
    ∙ (taken_kept a.m a.k a.coin a.out.now _ _ c.number_of.ensures c.quorum.ensures (search rules))

pub returns-else-number_of-quorum : goal.returns-else-number_of-quorum
returns-else-number_of-quorum c = let a = c.args in
    taken_ends a.m a.k a.coin a.out.now _ _ _ c.number_of.ensures c.quorum.ensures (search rules) c.end_step.ensures
