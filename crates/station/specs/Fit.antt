-- "A station fits if, unless closed, it holds fewer than q well-formed statements of its question and step, its own among them, and the set names
-- exactly their stations; docs/ lists what its other kept words need": docs/STATION.md.
use Rattle.std.specs.Prelude.{ℕ, zero, suc, ◌+◌, ◌-◌, ◌*◌, ◌^◌, Bool, true, ◌&&◌, ◌||◌, List, eqb, leb, ltb, get_or}
use Rattle.std.specs.Int.Count.{ones}
use Rattle.laws.specs.Pick.{pick}
use Rattle.laws.specs.Sets.{bit}
use Rattle.format.specs.Form.{Form, last_round, round_at, fields_at, statement_words}
use Rattle.format.specs.Numbers.{none}
use Rattle.format.specs.Group.{quorum}
use Rattle.format.specs.Words.{flag_of, step_of, kind_of, station_of}
use Rattle.format.specs.Statement.{statements, formed}
use Rattle.format.specs.Lists.{every}
use Rattle.format.specs.Bundle.{all_formed}
use Rattle.rules.specs.declared.Group.{Group}
use Rattle.rules.specs.Test.{holds}
use Rattle.station.specs.declared.Stage.{Stage}
use Rattle.station.specs.declared.Stage.TheVariants.{Gathering, Proposing, Voting}
use Rattle.station.specs.declared.Station.{Station}
use Rattle.station.specs.Machine.{stage_step, kept_for_value, kept_for_none}
use Rattle.station.specs.Words.{sites, kept_words, held_by}

-- k words from a place on, all zero
unfoldable pub zeros : List ℕ → ℕ → ℕ → Bool
zeros ws at zero = true
zeros ws at (suc k) = eqb (get_or ws at 0) 0 && zeros ws (suc at) k

module _ (form : Form) where
  -- a slot whose bit is set: a well-formed statement of its station, of the question and of the step
  abbrev pub slot_fits : ℕ → ℕ → ℕ → ℕ → List ℕ → Bool
  slot_fits n question step i slots =
      formed form n (fields_at form slots (i * statement_words form))
      && eqb (station_of (get_or slots (i * statement_words form) 0)) (i + 1)
      && eqb (get_or slots (i * statement_words form + 1) 0) question
      && eqb (step_of (kind_of (get_or slots (i * statement_words form) 0)) (round_at form slots (i * statement_words form))) step

  -- k slots from slot i on: as above where the bit is set, zero elsewhere
  unfoldable pub slots_fit : ℕ → ℕ → ℕ → ℕ → List ℕ → ℕ → ℕ → Bool
  slots_fit n question step set slots i zero = true
  slots_fit n question step set slots i (suc k) =
      pick (bit set i) (slot_fits n question step i slots) (zeros slots (i * statement_words form) (statement_words form)) && slots_fit n question step set slots (suc i) k

  -- the stage's round is in range; a proposing station's flag is its own proposal's, whose word 0 this is
  abbrev pub stage_fits : Stage → ℕ → Bool
  stage_fits Gathering w = true
  stage_fits (Proposing r f) w = leb 1 r.0 && leb r.0 (last_round form) && eqb f (flag_of w)
  stage_fits (Voting r) w = leb 1 r.0 && leb r.0 (last_round form)

  -- a kept group: well-formed statements of the question, as the group asks, and zeros behind them
  abbrev pub group_fits : ℕ → ℕ → Group → List ℕ → Bool
  group_fits n question g ws =
      holds g (statements form ws 0 g.size)
      && all_formed form n ws 0 g.size
      && every (λ s. eqb s.question question) (statements form ws 0 g.size)
      && zeros ws (g.size * statement_words form) (kept_words form - g.size * statement_words form)

  -- the held statements: no bit behind the last slot, fewer than q, the own among them, and each slot as its bit says
  abbrev pub held_fits : ℕ → ℕ → Station → Bool
  held_fits n site t =
      ltb t.held.heard (2 ^ sites form)
      && ltb (ones t.held.heard) (quorum n)
      && bit t.held.heard (site - 1)
      && slots_fit n t.identity.question (stage_step t.stage) t.held.heard t.held.slots 0 (sites form)

  -- the other kept words
  abbrev pub rest_fits : ℕ → ℕ → Station → Bool
  rest_fits n site t =
      stage_fits t.stage (get_or t.held.slots ((site - 1) * statement_words form) 0)
      && leb t.lasting.decision none
      && group_fits n t.identity.question (kept_for_value n t.stage (held_by form t)) t.groups.value
      && group_fits n t.identity.question (kept_for_none n t.stage (held_by form t)) t.groups.none

  -- "a station whose n or number isn't the given module's, or whose stage, set and held statements don't fit one another"
  unfoldable pub fits : ℕ → ℕ → Station → Bool
  fits n site t =
      eqb t.identity.n n && eqb t.identity.station site && (t.closed || (held_fits n site t && rest_fits n site t))
