-- By what the two calls answer.
use Rattle.keeping.specs.Kept.{held_with}
use Rattle.keeping.proofs.held_with.Goals as goal

pub returns : goal.returns
unfolding held_with
returns c = rw (c.with_slot.ensures, c.with_station.ensures)
