-- The module is one pair on, and the words are coded.
use Rattle.sealed.proofs.Coding.{finished}
use Rattle.sealed.proofs.finish.Goals as goal

pub returns : goal.returns
returns c =
    let a = c.args in
    finished a.m a.ws.now a.value _ _ _ c.read_fields.ensures c.step_of.ensures c.sign.ensures
