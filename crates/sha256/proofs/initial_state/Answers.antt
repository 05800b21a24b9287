-- The eight words are those of the definition.
use mathlib.Core.Path.{refl}
use Rattle.sha256.specs.Sha256.{initial}
use Rattle.sha256.proofs.initial_state.Goals as goal

pub returns : goal.returns
unfolding initial
returns c = refl
