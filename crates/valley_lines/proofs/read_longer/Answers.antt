-- Where words end, another starts inside the text.
use Prim.Native.Nat.{◌+◌}
use native.Mathlib.Omega.{arith}
use Rattle.valley_lines.proofs.Laws.Words.{end_inside}
use Rattle.valley_lines.proofs.read_longer.Goals as goal

pub overflow_add-third : goal.overflow_add-third
overflow_add-third c =
    omega (arith, c.if-c-text.false, end_inside c.args.text.now (c.args.b + 1) c.word_end-c.result (omega (arith, c.requires)) c.word_end-c.ensures)

pub word_end-d-requires : goal.word_end-d-requires
word_end-d-requires c =
    omega (arith, c.if-c-text.false, end_inside c.args.text.now (c.args.b + 1) c.word_end-c.result (omega (arith, c.requires)) c.word_end-c.ensures)
