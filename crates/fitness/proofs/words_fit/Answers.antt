-- Each test is one of the definition, on the station's own words.
use Rattle.fitness.specs.Laws.Parts.{words_are}
use Rattle.fitness.proofs.words_fit.Goals as goal

pub returns : goal.returns
returns c =
    words_are c.args.n c.args.site c.args.t c.held_fits.result c.stage_fits.result c.groups_fit.result c.step_in-step.result.0 c.requires.2
    c.step_in-step.ensures c.held_fits.ensures c.stage_fits.ensures c.groups_fit.ensures
