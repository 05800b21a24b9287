-- The invariant: what is found from here on, behind the i bytes passed, is what is found in the whole.
use Rattle.std.proofs.Common.{◌+◌, drop, ◌∙◌, arith}
use Rattle.valley_console.specs.Scans.{behind, scanned}
use Rattle.valley_console.proofs.Laws.Scans.{scan_start, scan_found, scan_room, scan_full, scan_end}
use Rattle.valley_console.proofs.scan.Goals as goal
use Rattle.valley_console.proofs.scan.Goals.{then-many-lt23, else-many-lt23}

pub loop-i-init : goal.loop-i-init
loop-i-init c = scan_start (scanned c.args.held c.args.line c.args.piece.now)

pub returns-then-b-eq10 : goal.returns-then-b-eq10
returns-then-b-eq10 c = let a = c.args in
    let v = c.loop-i in
    scan_found a.piece.now v.i v.many v.kept c.loop-i-test.true c.if-b-eq10.true ∙ v.invariant

pub loop-i-preserved : goal.loop-i-preserved
loop-i-preserved c =
    let v = c.loop-i in
    let p = c.args.piece.now in
    elim c.if-many-lt23.branch [
      | then-many-lt23 w ↦
          ((λ j. behind (v.i + 1) (scanned (w.many-is j) (w.kept-is j) (drop (v.i + 1) p)))
          ∙ scan_room p v.i v.many v.kept c.loop-i-test.true c.if-b-eq10.false (omega (arith, w.if-many-lt23.true))
          ∙ v.invariant)
      | else-many-lt23 w ↦
          ((λ j. behind (v.i + 1) (scanned (w.many-is j) (w.kept-is j) (drop (v.i + 1) p)))
          ∙ scan_full p v.i v.many v.kept c.loop-i-test.true c.if-b-eq10.false (omega (arith, w.if-many-lt23.false))
          ∙ v.invariant)
    ]

pub returns : goal.returns
returns c = let v = c.loop-i in
    scan_end c.args.piece.now v.i v.many v.kept (omega arith) ∙ v.invariant
