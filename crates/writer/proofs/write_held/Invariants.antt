-- In each turn the front holds the words of the set's slots so far; a slot is written behind them into the rest that is lent.
use Prim.Native.Nat.{◌*◌, ◌≤◌}
use mathlib.Core.Path.{◌≡◌}
use lib.ListN.{length}
use Rattle.laws.specs.Over.{over}
use Rattle.writer.specs.Written.{held_words}
use Rattle.writer.proofs.write_held.Given as goal

abbrev pub invariant-loop-i : goal.invariant-loop-i
invariant-loop-i l =
    (l.at ≤ l.i * 10) × (l.at ≡ length (held_words l.set l.slots 0 l.i)) × (length l.out ≡ length l.initial.out) × (l.out ≡ over (held_words l.set l.slots 0 l.i) l.initial.out)
