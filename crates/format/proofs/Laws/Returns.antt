-- A refusal's number is none of those that stand for an answer: it is above 0, and below that of a bundle sent; and no outcome's is 12.
use Rattle.std.specs.Prelude.{◌≡◌, refl, ◌<◌, false, eqb, Result, Ok, Err}
use Rattle.std.proofs.Common.{ap, arith}
use Rattle.format.specs.Numbers.{sent, not_above}
use Rattle.format.specs.Returns.{refusal_number, outcome_number, number_in}
use Rattle.format.specs.declared.Refusal.{Refusal}
use Rattle.format.specs.declared.Refusal.TheVariants.{ShortOutput, OutOfRange, Malformed, OtherQuestion, WrongCode, NoCertificate, TooLate, TooEarly, AlreadyHeld, Conflicting, StationClosed, NotAbove}
use Rattle.format.specs.declared.Outcome.{Outcome}
use Rattle.format.specs.declared.Outcome.TheVariants.{Kept, Sent, SentDecided, ClosedNow, Jumped}

pub above : (r : Refusal) → 0 < refusal_number r
above ShortOutput = omega arith
above OutOfRange = omega arith
above Malformed = omega arith
above OtherQuestion = omega arith
above WrongCode = omega arith
above NoCertificate = omega arith
above TooLate = omega arith
above TooEarly = omega arith
above AlreadyHeld = omega arith
above Conflicting = omega arith
above StationClosed = omega arith
above NotAbove = omega arith

pub below_sent : (e : Refusal) → refusal_number e < sent
below_sent ShortOutput = omega arith
below_sent OutOfRange = omega arith
below_sent Malformed = omega arith
below_sent OtherQuestion = omega arith
below_sent WrongCode = omega arith
below_sent NoCertificate = omega arith
below_sent TooLate = omega arith
below_sent TooEarly = omega arith
below_sent AlreadyHeld = omega arith
below_sent Conflicting = omega arith
below_sent StationClosed = omega arith
below_sent NotAbove = omega arith

-- no outcome's number is 12
pub no_12 : (o : Outcome) → eqb (outcome_number o) not_above ≡ false
no_12 Kept = refl
no_12 Sent = refl
no_12 SentDecided = refl
no_12 ClosedNow = refl
no_12 Jumped = refl

-- an answer's number is 0, and a refusal's its own
pub of_ok : {A : Type 0} (r : Result A Refusal) (x : A) → r ≡ Ok x → number_in r ≡ 0
of_ok r x e = ap number_in e

pub of_err : {A : Type 0} (r : Result A Refusal) (e : Refusal) → r ≡ Err e → number_in r ≡ refusal_number e
of_err r e is = ap number_in is
