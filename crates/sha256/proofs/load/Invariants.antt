-- Each turn joins four bytes to a word: the words so far, and those of the bytes that remain, are those of the definition.
use Rattle.std.proofs.Common.{◌≡◌, ◌++◌, ◌+◌, ◌*◌, ◌-◌, length, take, drop}
use Rattle.sha256.specs.Sha256.{words}
use Rattle.sha256.proofs.load.Given as goal

abbrev pub invariant-loop-j : goal.invariant-loop-j
invariant-loop-j l =
    (length l.w ≡ 16) × (take l.j l.w ++ words (take (64 - l.j * 4) (drop (l.at + l.j * 4) l.s)) ≡ words (take 64 (drop l.at l.s)))
