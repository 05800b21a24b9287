-- Giving, by a station's words: what follows a bundle kept, as the code finds it. `Law` ties it to the definition, `giving`.
use Rattle.std.specs.Prelude.{ℕ, true, false, List, ltb}
use Rattle.std.specs.Int.Count.{ones}
use Rattle.laws.specs.Pick.{pick}
use Rattle.format.specs.Numbers.{kept, closed_now}
use Rattle.format.specs.Group.{quorum}
use Rattle.format.specs.Present.{last_round}
use Rattle.modules.specs.declared.Module.{Module}
use Rattle.station.specs.declared.Lasting.{Lasting}
use Rattle.station.specs.declared.Station.{Station}
use Rattle.station.specs.Machine.{closes, with_setting, lasting_at}
use Rattle.station.specs.Calls.{Returned}
use Rattle.station.specs.Present.{empty_station, held_by}
use Rattle.ending.specs.After.{next_by}
use Rattle.moving.specs.Moves.{with_no_bundle, moving}

-- a closed station keeps its identity, its stage and what outlasts a step, with jump off
unfoldable pub shut_words : Station → Lasting → Station
shut_words k l = empty_station k.identity k.stage true (with_setting false l)

unfoldable pub ending_words : Module → Station → ℕ → List ℕ → Returned
ending_words m k coin out =
    let l = lasting_at k.stage k.lasting (held_by k) in
    pick (closes last_round k.stage) (with_no_bundle closed_now (shut_words k l) m out)
    (moving m k (next_by m.n k.stage k.held.heard k.held.slots coin) l out)

unfoldable pub after_words : Module → Station → ℕ → List ℕ → Returned
after_words m k coin out =
    pick (ltb (ones k.held.heard) (quorum m.n)) (with_no_bundle kept k m out) (ending_words m k coin out)
