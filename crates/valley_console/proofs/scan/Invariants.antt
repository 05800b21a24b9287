-- The invariant: what is found from here on, behind the i bytes passed, is what is found in the whole.
use Rattle.std.proofs.Common.{◌≡◌, drop}
use Rattle.valley_console.specs.Scans.{behind, scanned}
use Rattle.valley_console.proofs.scan.Given as goal

abbrev pub invariant-loop-i : goal.invariant-loop-i
invariant-loop-i l = behind l.i (scanned l.many l.kept (drop l.i l.piece)) ≡ scanned l.initial.many l.initial.kept l.piece
