-- The fixed bytes, the number behind them, and the line's end.
use Rattle.std.proofs.Common.{refl, arith}
use Rattle.std.proofs.lemmas.Slice.{put_mid-paste}
use Rattle.valley_printing.specs.Print.{bad_line_bytes}
use Rattle.valley_printing.proofs.Laws.Put.{bad_line_put}
use Rattle.valley_printing.proofs.bad_line.Goals as goal

pub returns : goal.returns
returns c = let a = c.args in
    bad_line_put a.number _ a.out.now _ c.put_number-end.new.out c.ranges.number.fits (omega (arith, c))
    (put_mid-paste 0 9 a.out.now _ bad_line_bytes 9 c.copy_from_slice.ensures.after refl refl)
    c.put_number-end.ensures.0 c.put_number-end.ensures.1
