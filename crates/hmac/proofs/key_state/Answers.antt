-- The calls, one inside the other, are the definition.
use Rattle.hmac.proofs.key_state.Goals as goal

pub returns : goal.returns
returns c = cc
