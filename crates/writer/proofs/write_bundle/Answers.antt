-- Where the test fails nothing is written; where it holds it gives what the writer of the parts requires.
use mathlib.Core.Path.{◌≡◌, ◌∙◌}
use lib.ListN.{length}
use mathlib.Core.Bool.{true, false}
use Rattle.writer.specs.Written.{writable}
use Rattle.writer.proofs.Laws.Writing.{not_is_true, not_is_false, writable_out, not_written, is_written}
use mathlib.Core.Path.{ap}
use mathlib.Core.Bool.{not}
use Rattle.writer.proofs.write_bundle.Goals as goal

pub returns-then-not-writable : goal.returns-then-not-writable
returns-then-not-writable c =
    let a = c.args in
    let e : writable (length a.out.now) a.set c.number_of-count.result a.k ≡ false = not_is_true c.writable.result _ c.writable.ensures (ap not c.if-not-writable.true) in
    not_written a.w0 a.question a.slots.now a.set a.group.now a.k a.out.now c.number_of-count.result c.number_of-count.ensures e

pub write_parts-requires : goal.write_parts-requires
write_parts-requires c =
    let a = c.args in
    let e : writable (length a.out.now) a.set c.number_of-count.result a.k ≡ true = not_is_false c.writable.result _ c.writable.ensures (ap not c.if-not-writable.false) in
    let o = writable_out (length a.out.now) a.set c.number_of-count.result a.k e in
    (o.0, o.1, o.2, o.3, c.number_of-count.ensures)

pub returns : goal.returns
returns c =
    let a = c.args in
    let e : writable (length a.out.now) a.set c.number_of-count.result a.k ≡ true = not_is_false c.writable.result _ c.writable.ensures (ap not c.if-not-writable.false) in
    let o = is_written a.w0 a.question a.slots.now a.set a.group.now a.k a.out.now c.number_of-count.result c.number_of-count.ensures e in
    (c.write_parts.ensures.0 ∙ o.0, c.write_parts.ensures.1 ∙ o.1)
