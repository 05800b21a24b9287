-- The invariant: what was gathered so far is the scan of the slots from here on. Each turn is one unfolding of the definition.
use Prim.Native.Nat.{◌-◌}
use mathlib.Core.Path.{◌≡◌}
use Rattle.station.specs.Present.{sites}
use Rattle.held.specs.Scan.{gathered, such}
use Rattle.held.proofs.Laws.Held.{found}
use Rattle.held.proofs.scan.Given as goal

abbrev pub invariant-loop-i : goal.invariant-loop-i
invariant-loop-i l = l.out ≡ gathered (found (such l.value l.flag) l.set l.slots) l.i (sites - l.i)
