-- Where words end, another starts inside the text.
use Prim.Native.Nat.{◌+◌, ◌≤◌}
use native.Mathlib.Omega.{arith}
use lib.ListN.{length}
use Rattle.valley_lines.proofs.Laws.Words.{end_inside}
use Rattle.valley_lines.proofs.read_line.Goals as goal

pub overflow_add-first : goal.overflow_add-first
overflow_add-first c =
    omega (arith, c.if-a-text.false, end_inside c.args.text.now 0 c.word_end-a.result (omega arith) c.word_end-a.ensures)

pub word_end-b-requires : goal.word_end-b-requires
word_end-b-requires c =
    omega (arith, c.if-a-text.false, end_inside c.args.text.now 0 c.word_end-a.result (omega arith) c.word_end-a.ensures)

pub read_longer-requires : goal.read_longer-requires
read_longer-requires c =
    let text = c.args.text.now in
    let text = text in
    let a = c.word_end-a.result in
    let b = c.word_end-b.result in
    let a_in : (0 ≤ a) × (a ≤ length text) = end_inside text 0 c.word_end-a.result (omega arith) c.word_end-a.ensures in
    let b_in : (a + 1 ≤ b) × (b ≤ length text) = end_inside text (a + 1) b (omega (arith, c.if-a-text.false)) c.word_end-b.ensures in
    (a_in.1, b_in.0, omega (arith, c.if-b-text.false))
