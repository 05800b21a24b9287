-- Each way out is a case of the definition.
use mathlib.Core.Path.{refl, ◌∙◌}
use Rattle.laws.specs.Pick.{here, skip}
use Rattle.keeping.proofs.group_after.Goals as goal

pub returns-then-replaced : goal.returns-then-replaced
returns-then-replaced c = c.group_from.ensures ∙ here _ _ _ c.if-replaced.true

pub returns : goal.returns
returns c = skip _ _ _ _ c.if-replaced.false refl
