-- Each test is one of the definition.
use Rattle.held_fitness.specs.Laws.Parts.{held_words_fit}
use Rattle.held_fitness.proofs.held_fits.Goals as goal

pub returns : goal.returns
unfolding held_words_fit
returns c = rw (c.quorum.ensures, c.number_of.ensures, c.names_stations.ensures, c.slots_fit.ensures, c.in_set.ensures)
