-- The invariant: what is to come from this statement on is the whole. A turn is one unfolding of the definition.
use Rattle.std.proofs.Common.{◌≡◌, ◌-◌}
use Rattle.hmac.specs.Hmac.{code_from}
use Rattle.walk.specs.Walk.{walked}
use Rattle.certificate.proofs.held_against.Given as goal

abbrev pub invariant-loop-place : goal.invariant-loop-place
invariant-loop-place l =
    (l.f.place ≡ l.place)
    × (walked (code_from l.key) l.n l.g l.question l.ws l.fn.f (l.end - l.fn.f.place) ≡ walked (code_from l.key) l.n l.g l.question l.ws l.f (l.end - l.f.place))
