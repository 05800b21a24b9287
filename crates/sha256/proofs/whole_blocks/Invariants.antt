-- Each turn compresses one block: what is left from here on gives the state of the whole.
use Rattle.std.proofs.Common.{◌≡◌, ◌*◌, ◌-◌, ◌/◌, length, drop}
use Rattle.sha256.specs.Sha256.{blocks}
use Rattle.sha256.proofs.whole_blocks.Given as goal

abbrev pub invariant-loop-i : goal.invariant-loop-i
invariant-loop-i l = blocks (length l.s / 64 - l.i) l.h (drop (l.i * 64) l.s) ≡ blocks (length l.s / 64) l.fn.state l.s
