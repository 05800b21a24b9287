-- The module's range is tested first: what the other tests ask follows from it.
use Rattle.station.specs.Present as F
use Rattle.fitness.specs.Laws.Parts.{whole, range_out, refused, rest_decides}
use mathlib.Core.Path.{ap}
use mathlib.Core.Bool.{not}
use Rattle.fitness.proofs.fits_module.Goals as goal

pub returns-then-not-fits : goal.returns-then-not-fits
returns-then-not-fits c =
    let a = c.args in
    refused a.m c.fits.result c.fits.ensures (F.fits a.m.n a.m.station a.t) (ap not c.if-not-fits.true)

pub words_fit-requires : goal.words_fit-requires
words_fit-requires c =
    let a = c.args in
    range_out a.m c.fits.result c.fits.ensures (ap not c.if-not-fits.false)

pub returns : goal.returns
returns c =
    let a = c.args in
    rest_decides a.m c.fits.result c.fits.ensures _ (F.fits a.m.n a.m.station a.t) (ap not c.if-not-fits.false)
    (whole a.m.n a.m.station a.t c.words_fit.result c.words_fit.ensures)
