-- What the calls give are the fields of the definition. A code is computed only where the fields are in place, so that the words read are those that it covers.
use mathlib.Core.Bool.{false, not, ◌||◌}
use mathlib.Core.Path.{◌≡◌}
use lib.Dec.{eqb}
use lib.ListN.{get_or}
use Rattle.format.specs.Words.{fields_of}
use Rattle.walk.specs.Walk.{noted}
use Rattle.laws.specs.Bools.{neither, or_nothing}
use Rattle.walk.proofs.Laws.Codes.{covers}
use Rattle.walk.proofs.turn.Goals as goal

pub returns-then-malformed-other : goal.returns-then-malformed-other
unfolding noted fields_of
returns-then-malformed-other c =
    let f = c.args.f in
    let fault = rw (c.well_formed-malformed.ensures, c.read_fields-s.ensures) at c.if-malformed-other.true in
    rw (c.well_formed-malformed.ensures, c.read_fields-s.ensures, fault, ← or_nothing f.wrong, ← or_nothing f.unbacked, ← or_nothing f.dget, ← or_nothing f.zero, ← or_nothing f.one)

pub code_fails-requires : goal.code_fails-requires
code_fails-requires c = λ h.
    let s = c.args in
    covers s.n s.t.words c.read_fields-s.result c.well_formed-malformed.result (s.f.other || not (eqb (get_or s.t.words 1 0) s.question)) c.read_fields-s.ensures
    c.well_formed-malformed.ensures (neither _ s.f.wrong c.if-malformed-other.false).0

pub returns : goal.returns
unfolding noted fields_of
returns c =
    let none = rw (c.well_formed-malformed.ensures, c.read_fields-s.ensures) at c.if-malformed-other.false in
    let s = c.args in
    let right : s.f.wrong ≡ false = (neither (not c.well_formed-malformed.result || (s.f.other || not (eqb (get_or s.t.words 1 0) s.question))) s.f.wrong c.if-malformed-other.false).1 in
    rw (c.code_fails.ensures, c.is_wanted.ensures, c.well_formed-malformed.ensures, c.read_fields-s.ensures, none, right)
