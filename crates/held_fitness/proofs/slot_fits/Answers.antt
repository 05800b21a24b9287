-- Each test is one of the definition, on the fields that were read.
use Rattle.format.specs.Words.{fields_of, step_in}
use Rattle.held_fitness.proofs.slot_fits.Goals as goal

pub returns : goal.returns
unfolding fields_of step_in
returns c =
    rw (c.well_formed-2.ensures, c.step_of.ensures, c.read_fields-f.ensures)
