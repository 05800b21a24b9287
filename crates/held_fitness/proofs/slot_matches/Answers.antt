-- The bit says which of the two tests the slot has to pass.
use mathlib.Core.Path.{sym, ◌∙◌}
use Rattle.laws.specs.Pick.{here, skip}
use Rattle.held_fitness.specs.Laws.Parts.{slot_right}
use Rattle.held_fitness.proofs.slot_matches.Goals as goal

pub returns-then-in_set : goal.returns-then-in_set
unfolding slot_right
returns-then-in_set c = c.slot_fits.ensures ∙ here _ _ _ (sym c.in_set.ensures ∙ c.if-in_set.true)

pub returns : goal.returns
unfolding slot_right
returns c = skip _ _ _ _ (sym c.in_set.ensures ∙ c.if-in_set.false) c.slot_empty.ensures
