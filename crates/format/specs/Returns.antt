-- "If an answer is an enum, a definition gives this paper's number and values for each of the enum's cases." The numbers of refusals and of outcomes.
use Rattle.std.specs.Prelude.{Bool, ℕ, List, [], ◌∷◌, Result, Ok, Err}
use Rattle.laws.specs.Refusals.{Test, test}
use Rattle.format.specs.Numbers.{kept, short_output, out_of_range, malformed, other_question, wrong_code, no_certificate, too_late, too_early, already_held, conflicting, station_closed, not_above, sent, sent_decided, closed_now, jumped}
use Rattle.format.specs.declared.Refusal.{Refusal}
use Rattle.format.specs.declared.Refusal.TheVariants.{ShortOutput, OutOfRange, Malformed, OtherQuestion, WrongCode, NoCertificate, TooLate, TooEarly, AlreadyHeld, Conflicting, StationClosed, NotAbove}
use Rattle.format.specs.declared.Outcome.{Outcome}
use Rattle.format.specs.declared.Outcome.TheVariants.{Kept, Sent, SentDecided, ClosedNow, Jumped}

abbrev pub refusal_number : Refusal → ℕ
refusal_number ShortOutput = short_output
refusal_number OutOfRange = out_of_range
refusal_number Malformed = malformed
refusal_number OtherQuestion = other_question
refusal_number WrongCode = wrong_code
refusal_number NoCertificate = no_certificate
refusal_number TooLate = too_late
refusal_number TooEarly = too_early
refusal_number AlreadyHeld = already_held
refusal_number Conflicting = conflicting
refusal_number StationClosed = station_closed
refusal_number NotAbove = not_above

abbrev pub outcome_number : Outcome → ℕ
outcome_number Kept = kept
outcome_number Sent = sent
outcome_number SentDecided = sent_decided
outcome_number ClosedNow = closed_now
outcome_number Jumped = jumped

-- 0, "also valid, coded, or module made", or the refusal's number
abbrev pub number_in : {A : Type 0} → Result A Refusal → ℕ
number_in (Ok x) = 0
number_in (Err r) = refusal_number r

-- the tests of a table whose refusals are given by name, in order
abbrev pub table_of : List (Bool × Refusal) → List Test
table_of [] = []
table_of ((b, r) ∷ l) = test b (refusal_number r) ∷ table_of l
