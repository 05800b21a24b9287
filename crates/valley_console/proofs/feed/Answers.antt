-- A newline ends the line that is there.
use Rattle.valley_console.proofs.Laws.Ends.{taken, piece_ends_line}
use Rattle.valley_console.proofs.feed.Goals as goal

pub returns-then-s : goal.returns-then-s
returns-then-s c = let a = c.args in
    taken
    (piece_ends_line a.run _ a.piece.now a.out.now _ c.scan-s.ensures
    c.with_line-next.ensures _ _ _ _ c.if-s.true c.end_line.ensures)
