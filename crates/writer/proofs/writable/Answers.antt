-- The tests are those of the definition; the sum of two words fits the wider number.
use Rattle.writer.specs.Written.{writable}
use Rattle.writer.proofs.writable.Goals as goal

pub returns : goal.returns
unfolding writable
returns c = rw c.names_stations.ensures
