-- Reading a station: a call that a host makes to learn what was decided on a question. "Calls added later test 2 on any module or station lent to them,
-- straight after 1"; nothing is lent, so there is no 1. "later calls that only read change nothing and stand outside" demand 3's list.
use Rattle.std.specs.Prelude.{ℕ, Bool, ◌&&◌, eqb, Option, Some, None, Result, Ok, Err}
use Rattle.laws.specs.Pick.{pick}
use Rattle.format.specs.Numbers.{none}
use Rattle.format.specs.declared.Refusal.{Refusal}
use Rattle.format.specs.declared.Refusal.TheVariants.{OutOfRange}
use Rattle.modules.specs.declared.Module.{Module}
use Rattle.modules.specs.Present.{module_fits}
use Rattle.station.specs.declared.Station.{Station}
use Rattle.station.specs.Machine.{round_in}
use Rattle.station.specs.Present.{fits}
use Rattle.status.specs.declared.Status.{Status}

-- the decision on the question asked for: the station's own, or none where the station is on another question
unfoldable pub decision_on : ℕ → Station → ℕ
decision_on question t = pick (eqb t.identity.question question) t.lasting.decision none

-- "n, station number … out of range; a station whose n or number isn't the given module's, or whose stage, set and held statements don't fit one another"
abbrev pub readable : Module → Station → Bool
readable m t = module_fits m && fits m.n m.station t

-- the decision of a number: 2 stands for none
unfoldable pub if_decided : ℕ → Option ℕ
if_decided d = pick (eqb d none) None (Some d)

-- what is told of a station that can be read
abbrev pub told : Station → ℕ → Status
told t question =
    record { decision = if_decided (decision_on question t); stage = t.stage; round = record { 0 = round_in t.stage }; closed = t.closed }

-- any other is out of range, and nothing is told of it
unfoldable pub status : Module → Station → ℕ → Result Status Refusal
status m t question = pick (readable m t) (Ok (told t question)) (Err OutOfRange)

-- ---- the numbers of an answer (the returned one is `number_in` of crate format)
-- a decision's number, or none's
abbrev pub decision_number : Option ℕ → ℕ
decision_number (Some d) = d
decision_number None = none

-- the number of the decision that is told; at a refusal none is
abbrev pub decision_in : Result Status Refusal → ℕ
decision_in (Ok s) = decision_number s.decision
decision_in (Err r) = none
