-- What the calls give are the fields of the definition. The code is computed only where the fields are in place, so that the words read are those that it covers.
use mathlib.Core.Bool.{not}
use Rattle.format.specs.Words.{fields_of}
use Rattle.walk.specs.Walk.{started}
use Rattle.walk.proofs.Laws.Codes.{covers}
use Rattle.walk.proofs.start.Goals as goal

pub code_fails-requires : goal.code_fails-requires
code_fails-requires c = λ h.
    let s = c.args in
    covers s.n s.t.words c.read_fields-m.result c.well_formed-malformed.result (not c.allows-other.result) c.read_fields-m.ensures c.well_formed-malformed.ensures h

pub returns : goal.returns
unfolding started fields_of
returns c =
    rw (c.code_fails.ensures, c.early_toss.ensures, c.allows-other.ensures, c.well_formed-malformed.ensures, c.read_fields-m.ensures)
