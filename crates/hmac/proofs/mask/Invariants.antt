-- The bytes before the turn's are masked, and those from it on are still to be.
use Rattle.std.proofs.Common.{◌≡◌, length}
use Rattle.hmac.specs.Hmac.{masked}
use Rattle.hmac.proofs.Masked.{rest_masked}
use Rattle.hmac.proofs.mask.Given as goal

abbrev pub invariant-loop-b : goal.invariant-loop-b
invariant-loop-b l = (length l.b-items ≡ 64) × (rest_masked l.p l.b-items l.b-index ≡ masked l.p l.fn.k)
