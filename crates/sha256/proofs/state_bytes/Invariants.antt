-- Each turn writes one word's bytes: the bytes so far, and those of the words that remain, are the state's.
use Rattle.std.proofs.Common.{◌≡◌, ◌++◌, ◌*◌, length, take, drop}
use Rattle.sha256.specs.Sha256.{bytes}
use Rattle.sha256.proofs.state_bytes.Given as goal

abbrev pub invariant-loop-i : goal.invariant-loop-i
invariant-loop-i l = (length l.r ≡ 32) × (take (l.i * 4) l.r ++ bytes (drop l.i l.h) ≡ bytes l.h)
