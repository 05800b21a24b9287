-- The invariant: what was gathered so far are those from here on that are among the k lowest. Each turn is one unfolding of the definition.
use Prim.Native.Nat.{◌-◌, ◌%◌, ◌^◌}
use mathlib.Core.Bool.{◌&&◌}
use mathlib.Core.Path.{◌≡◌}
use lib.Count.{ones}
use lib.Dec.{ltb}
use Rattle.laws.specs.Sets.{bit}
use Rattle.station.specs.Present.{sites}
use Rattle.held.specs.Scan.{gathered}
use Rattle.held.proofs.lowest.Given as goal

abbrev pub invariant-loop-i : goal.invariant-loop-i
invariant-loop-i l = l.out ≡ gathered (λ j. bit l.set j && ltb (ones (l.set % 2 ^ j)) l.k) l.i (sites - l.i)
