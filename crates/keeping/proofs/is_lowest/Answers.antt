-- By what the two calls answer.
use Rattle.keeping.specs.Kept.{is_lowest}
use Rattle.keeping.proofs.is_lowest.Goals as goal

pub returns : goal.returns
unfolding is_lowest
returns c = rw (c.with_station.ensures, c.lowest.ensures)
