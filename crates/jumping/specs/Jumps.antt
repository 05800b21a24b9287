-- Jumping, by a station's words and a bundle's: what is returned. `Law` ties it to the machine's definition, `entered`.
use Rattle.std.specs.Prelude.{ℕ, ◌&&◌, List, eqb, length, get_or}
use Rattle.laws.specs.Pick.{pick}
use Rattle.format.specs.declared.Fields.{Fields}
use Rattle.format.specs.Numbers.{kind_p, r_get, jumped, not_above}
use Rattle.format.specs.Words.{fields_of, step_of}
use Rattle.format.specs.Present.{place_of}
use Rattle.modules.specs.declared.Module.{Module}
use Rattle.modules.specs.Counter.{above, last_for}
use Rattle.station.specs.declared.Stage.{Stage}
use Rattle.station.specs.declared.Stage.TheVariants.{Proposing, Voting}
use Rattle.station.specs.declared.Station.{Station}
use Rattle.station.specs.Calls.{Returned}
use Rattle.writer.specs.Written.{copy_count}
use Rattle.sending.specs.Sent.{sent_station, copy_lent, copy_module, copy_bundle}

-- the given value, or the coin as the value of an R-GET proposal
unfoldable pub value_by : Fields → ℕ → ℕ
value_by f coin = pick (eqb f.kind kind_p && eqb f.flag r_get) coin f.value

-- the given fields with that value and the station's own number
unfoldable pub copied_fields : ℕ → Fields → ℕ → Fields
copied_fields number f coin =
    record { kind = f.kind; value = value_by f coin; flag = f.flag; spare = 0; station = number; round = f.round }

unfoldable pub stage_by : Fields → Stage
stage_by f = pick (eqb f.kind kind_p) (Proposing f.round f.flag) (Voting f.round)

abbrev pub given_fields : List ℕ → Fields
given_fields ws = fields_of (get_or ws (place_of 0) 0)

-- 23, and the given bundle with the own statement in its main statement's place
unfoldable pub jump_words : Module → Station → Fields → Fields → List ℕ → List ℕ → Returned
jump_words m t given f ws out =
    record {
      number = jumped;
      count = copy_count (length ws) (length out);
      station = sent_station m t.identity.question t.lasting (stage_by given) (copy_bundle m f ws out);
      after = copy_module m f ws out;
      lent = copy_lent m f ws out;
    }

-- "12 follows the checks up to 7"
unfoldable pub jumping : Module → Station → List ℕ → ℕ → List ℕ → Returned
jumping m t ws coin out =
    let f = copied_fields m.station (given_fields ws) coin in
    pick (above (last_for m t.identity.question) t.identity.question (step_of f.kind f.round.0)) (jump_words m t (given_fields ws) f ws out)
    (record { number = not_above; count = 0; station = t; after = m; lent = out })
