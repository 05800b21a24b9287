-- A station as 640 words (docs/SCRIPT.md, "The words of a station"), and back. Settings, sets and statements stand apart.
use Rattle.std.specs.Prelude.{ℕ, ◌+◌, Bool, true, ◌&&◌, ◌||◌, List, [], ◌∷◌, ◌++◌, eqb, ltb, leb, length, take, drop, get_or, Result, Ok, Err}
use Rattle.laws.specs.Pick.{pick}
use Rattle.laws.specs.Over.{over}
use Rattle.format.specs.Numbers.{malformed, short_output, out_of_range}
use Rattle.format.specs.Returns.{refusal_number}
use Rattle.format.specs.declared.Refusal.{Refusal}
use Rattle.station.specs.declared.Identity.{Identity}
use Rattle.station.specs.declared.Stage.{Stage}
use Rattle.station.specs.declared.Stage.TheVariants.{Gathering, Proposing, Voting}
use Rattle.station.specs.declared.Station.{Station}
use Rattle.station.specs.Present.{no_station, slots_words, kept_words}

-- ---- the layout
-- words 0 to 7: the settings
abbrev pub stage_at : ℕ
stage_at = 3

abbrev pub closed_at : ℕ
closed_at = 6

abbrev pub decision_at : ℕ
decision_at = 7

-- word 8: the set of stations heard
abbrev pub heard_at : ℕ
heard_at = 8

-- words 9 to 318: the held statements, 31 slots of ten words
abbrev pub slots_at : ℕ
slots_at = 9

-- words 319 to 478 and 479 to 638: the kept groups, 16 slots of ten words each
abbrev pub value_at : ℕ
value_at = slots_at + slots_words

abbrev pub none_at : ℕ
none_at = value_at + kept_words

-- word 639, the last: the jump setting
abbrev pub jump_at : ℕ
jump_at = none_at + kept_words

abbrev pub station_words : ℕ
station_words = jump_at + 1

-- ---- a station's words
-- which stage, 0 gathering, 1 proposing, 2 voting; its round, 0 when gathering; its flag when proposing, else 0
unfoldable pub stage_words : Stage → List ℕ
stage_words Gathering = 0 ∷ 0 ∷ 0 ∷ []
stage_words (Proposing r f) = 1 ∷ r.0 ∷ f ∷ []
stage_words (Voting r) = 2 ∷ r.0 ∷ 0 ∷ []

-- of closed and of the jump setting: 1 if it is so, else 0
unfoldable pub truth_word : Bool → ℕ
truth_word so = pick so 1 0

-- n, station number, question; the stage's three words; closed; the decision
unfoldable pub settings_of : Station → List ℕ
settings_of t =
    t.identity.n ∷ t.identity.station ∷ t.identity.question ∷ (stage_words t.stage ++ (truth_word t.closed ∷ t.lasting.decision ∷ []))

-- the set of stations heard
unfoldable pub sets_of : Station → List ℕ
sets_of t = t.held.heard ∷ []

-- the held statements and both kept groups
unfoldable pub statements_of : Station → List ℕ
statements_of t = t.held.slots ++ t.groups.value ++ t.groups.none

-- the jump setting stands last
unfoldable pub words_of : Station → List ℕ
words_of t = settings_of t ++ sets_of t ++ statements_of t ++ (truth_word t.lasting.jump ∷ [])

-- ---- words that are a station
-- a stage's three words: `0 0 0`, `1 round 0`, `1 round 1` or `2 round 0`, with any round
abbrev pub is_stage : ℕ → ℕ → ℕ → Bool
is_stage tag round flag = (eqb tag 0 && eqb round 0 && eqb flag 0) || (eqb tag 1 && leb flag 1) || (eqb tag 2 && eqb flag 0)

-- exactly 640 words, whose stage can be written down and whose closed word and jump word are each 0 or 1; all other words are free
unfoldable pub is_station : List ℕ → Bool
is_station ws =
    eqb (length ws) station_words
    && (is_stage (get_or ws stage_at 0) (get_or ws (stage_at + 1) 0) (get_or ws (stage_at + 2) 0) && leb (get_or ws closed_at 0) 1 && leb (get_or ws jump_at 0) 1)

-- ---- the station of such words
abbrev pub identity_in : List ℕ → Identity
identity_in ws = record { n = get_or ws 0 0; station = get_or ws 1 0; question = get_or ws 2 0 }

unfoldable pub stage_in : ℕ → ℕ → ℕ → Stage
stage_in tag round flag =
    pick (eqb tag 0) Gathering (pick (eqb tag 1) (Proposing (record { 0 = round }) flag) (Voting (record { 0 = round })))

-- words from a place on
unfoldable pub part : ℕ → ℕ → List ℕ → List ℕ
part at count ws = take count (drop at ws)

unfoldable pub station_in : List ℕ → Station
station_in ws =
    record {
      identity = identity_in ws;
      stage = stage_in (get_or ws stage_at 0) (get_or ws (stage_at + 1) 0) (get_or ws (stage_at + 2) 0);
      closed = eqb (get_or ws closed_at 0) 1;
      lasting = record { jump = eqb (get_or ws jump_at 0) 1; decision = get_or ws decision_at 0 };
      held = record { heard = get_or ws heard_at 0; slots = part slots_at slots_words ws };
      groups = record { value = part value_at kept_words ws; none = part none_at kept_words ws };
    }

-- ---- the calls
-- all that reading returns: the number, and the station
pub record Reading : Type 0 where
  pub number : ℕ
  pub station : Station

-- reading: the station, or 3 and the station that is none
unfoldable pub reading : List ℕ → Reading
reading ws = pick (is_station ws) (record { number = 0; station = station_in ws }) (record { number = malformed; station = no_station })

-- what was read, as a number and a station: 0 and the station, or the refusal's number and the station that is none
abbrev pub read_by : Result Station Refusal → Reading
read_by (Ok t) = record { number = 0; station = t }
read_by (Err r) = record { number = refusal_number r; station = no_station }

-- a stage's flag is 0 or 1; the type allows others, which no word stands for
unfoldable pub flag_fits : Stage → Bool
flag_fits Gathering = true
flag_fits (Proposing r f) = ltb f 2
flag_fits (Voting r) = true

-- all that writing returns: the number, the word count, and the lent words
pub record Writing : Type 0 where
  pub number : ℕ
  pub count : ℕ
  pub lent : List ℕ

-- the returned number: 1 where fewer than 640 words are lent, 2 where the stage has no words
unfoldable pub refusal : Station → ℕ → ℕ
refusal t lent = pick (leb station_words lent) (pick (flag_fits t.stage) 0 out_of_range) short_output

-- writing: the words at the front of those lent, and all behind them unchanged; at a refusal nothing is changed
unfoldable pub writing : Station → List ℕ → Writing
writing t out =
    pick (eqb (refusal t (length out)) 0) (record { number = 0; count = station_words; lent = over (words_of t) out })
    (record { number = refusal t (length out); count = 0; lent = out })

-- what was written, with the words that are lent then: 0 and the word count, or the refusal's number and no words
abbrev pub written_by : List ℕ → Result ℕ Refusal → Writing
written_by lent (Ok count) = record { number = 0; count = count; lent = lent }
written_by lent (Err r) = record { number = refusal_number r; count = 0; lent = lent }
