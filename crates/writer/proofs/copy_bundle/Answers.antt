-- Where the test fails nothing is written; where it holds the words are copied, and word 0 of the main statement is stored over the given one.
use mathlib.Core.Path.{sym, ◌∙◌}
use Rattle.std.proofs.Math.Seq.{take-length}
use native.Mathlib.Omega.{arith}
use lib.ListN.{length}
use Rattle.writer.proofs.Laws.Writing.{copied, not_copied, front_copied}
use Rattle.writer.proofs.copy_bundle.Goals as goal

pub returns-then-not-count-out : goal.returns-then-not-count-out
returns-then-not-count-out c =
    let a = c.args in
    not_copied a.w0 a.ws.now a.out.now (c.if-not-count-out.true)

pub returns : goal.returns
returns c =
    let a = c.args in
    copied a.w0 a.ws.now a.out.now _ c.if-not-count-out.false
    (front_copied (length a.ws.now) a.ws.now a.out.now _ (omega arith) (c.copy_from_slice.ensures.after ∙ sym (take-length a.ws.now)))
