-- The tests on what was read are those of the definition.
use Rattle.sealed.proofs.Coding.{refusal_is}
use Rattle.sealed.proofs.refusal.Goals as goal

pub returns : goal.returns
returns c =
    let a = c.args in
    refusal_is a.m a.ws.now a.range a.way _ _ _ _ _ _ _ c.word_at.ensures c.read_fields-f.ensures c.word_at-question.ensures c.well_formed-2.ensures c.step_of.ensures c.is_above-later.ensures c.first_failed.ensures
