-- The numbers one behind the other, and the line's end.
use Rattle.std.proofs.Common.{arith, rules}
use Rattle.valley_printing.proofs.Laws.Put.{event_line_put}
use Rattle.valley_printing.proofs.event_line.Goals as goal

pub returns : goal.returns
returns c =
    let a = c.args in
    rw (← c.from.ensures, ← c.from-2.ensures)
    (event_line_put a.event c.from.result a.step.0 c.from-2.result _ _ _ _ a.out.now
    c.put_number-a.new.out c.put_spaced-b.new.out c.put_spaced-c.new.out c.put_spaced-d.new.out
    (omega (arith, c)) c.ranges.event.fits (omega arith) (search rules) (omega arith)
    (omega (arith, c.put_number-a.ensures.0)) c.put_number-a.ensures.1
    c.put_spaced-b.ensures.0 c.put_spaced-b.ensures.1
    c.put_spaced-c.ensures.0 c.put_spaced-c.ensures.1
    c.put_spaced-d.ensures.0 c.put_spaced-d.ensures.1)
