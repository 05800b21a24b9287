-- Each way out is a case of the definition.
use mathlib.Core.Path.{refl, ◌∙◌, ap}
use native.Mathlib.Omega.{arith}
use Prim.Native.Nat.{◌*◌}
use lib.Count.{ones}
use borrow.Author.Tests.{le-leb, lt-leb}
use Rattle.laws.specs.Pick.{here, skip}
use Rattle.ending.proofs.Laws.Values.{first_by}
use Rattle.ending.proofs.first_value.Goals as goal

pub returns-then-all-ones : goal.returns-then-all-ones
returns-then-all-ones c =
    let a = c.args in
    here _ _ _ (le-leb c.number_of-all.result (2 * c.number_of-ones.result) (omega (arith, c.if-all-ones.true)))
    ∙ first_by a.held.now.heard a.held.now.slots c.number_of-all.result c.number_of-ones.result (c.number_of-all.ensures ∙ ap ones c.scan.ensures)
    (c.number_of-ones.ensures ∙ ap ones c.scan-2.ensures)

pub returns-else-all-ones : goal.returns-else-all-ones
returns-else-all-ones c =
    let a = c.args in
    skip _ _ _ _ (lt-leb c.number_of-all.result (2 * c.number_of-ones.result) (omega (arith, c.if-all-ones.false))) refl
    ∙ first_by a.held.now.heard a.held.now.slots c.number_of-all.result c.number_of-ones.result (c.number_of-all.ensures ∙ ap ones c.scan.ensures)
    (c.number_of-ones.ensures ∙ ap ones c.scan-2.ensures)
