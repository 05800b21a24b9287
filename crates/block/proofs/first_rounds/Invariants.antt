-- Each turn is one step of `rounds` over the whole schedule, and one step of `extended`.
use Rattle.std.proofs.Common.{◌≡◌, ◌+◌, ◌-◌, length, take, drop}
use Rattle.compression.specs.Compression.{extended}
use Rattle.compression.specs.Steps.{onward}
use Rattle.block.proofs.first_rounds.Given as goal

abbrev pub invariant-loop-i : goal.invariant-loop-i
invariant-loop-i l = (length l.w ≡ 64) × ((extended (48 - l.i) (take (l.i + 16) l.w) ≡ extended 48 l.fn.block) × (onward (drop l.i l.k) (drop l.i (extended 48 l.fn.block)) l.v ≡ onward l.k (extended 48 l.fn.block) l.fn.s))
