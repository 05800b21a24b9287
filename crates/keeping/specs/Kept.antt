-- A station's words with one bundle more: a definition that is total, by the words alone. `Law` ties it to the state's definition, `keeping`.
use Rattle.std.specs.Prelude.{ℕ, ◌-◌, ◌*◌, Bool, not, ◌&&◌, List, ◌++◌, eqb, leb, length, take, drop, replicate}
use Rattle.std.proofs.Math.Seq.{paste}
use Rattle.laws.specs.Pick.{pick}
use Rattle.format.specs.Group.{quorum}
use Rattle.format.specs.Statement.{Statement}
use Rattle.format.specs.Present.{most_stations, statement_words, place_of, fields_at}
use Rattle.laws.specs.Least.{least}
use Rattle.station.specs.declared.Stage.{Stage}
use Rattle.station.specs.declared.Held.{Held}
use Rattle.station.specs.declared.Groups.{Groups}
use Rattle.station.specs.declared.Station.{Station}
use Rattle.station.specs.Machine.{supplies_for_value, supplies_for_none}
use Rattle.station.specs.Present.{kept_words}
use Rattle.held.specs.Scan.{with_station, scan, lowest}

-- the slots with the words of a bundle's main statement in station s's slot
unfoldable pub with_slot : List ℕ → ℕ → List ℕ → List ℕ
with_slot slots s ws = pick (not (leb 1 s && leb s most_stations && leb (place_of 1) (length ws))) slots (paste slots ((s - 1) * statement_words) (drop (place_of 0) ws) statement_words)

-- how many words of a bundle of so many words are kept: those of q certificate statements, as far as there are any, and no more than a group's array has
unfoldable pub words_kept : ℕ → ℕ → ℕ
words_kept q have = least (least (q * statement_words) kept_words) (have - place_of 1)

-- a group's words from a bundle's, with zeros behind
unfoldable pub group_from : ℕ → List ℕ → List ℕ
group_from q ws = take (words_kept q (length ws)) (drop (place_of 1) ws) ++ replicate (kept_words - words_kept q (length ws)) 0

-- whether station s is the lowest-numbered of the set
unfoldable pub is_lowest : ℕ → ℕ → Bool
is_lowest set s = eqb (lowest set 1) (with_station 0 s)

-- "the lowest-numbered station's is taken": whether station s is the lowest-numbered of those whose held statement supplies the group
abbrev pub taken_from : (Statement → Bool) → Held → ℕ → Bool
taken_from p held s = is_lowest (scan p held.heard held.slots) s

unfoldable pub held_with : Held → ℕ → List ℕ → Held
held_with held s ws = record { heard = with_station held.heard s; slots = with_slot held.slots s ws }

-- the kept groups behind a bundle of station s, where the statements held are those with its own
unfoldable pub groups_with : Groups → Stage → ℕ → Held → ℕ → List ℕ → Groups
groups_with groups g n held s ws =
    record {
      value = pick (taken_from (supplies_for_value g) held s) (group_from (quorum n) ws) groups.value;
      none = pick (taken_from (supplies_for_none g) held s) (group_from (quorum n) ws) groups.none;
    }

unfoldable pub with_bundle : Station → List ℕ → Station
with_bundle t ws =
    let s = (fields_at ws (place_of 0)).station in
    let held = held_with t.held s ws in
    record {
      identity = t.identity;
      stage = t.stage;
      closed = t.closed;
      lasting = t.lasting;
      held = held;
      groups = groups_with t.groups t.stage t.identity.n held s ws;
    }
