-- A station that has just sent, as words: a blank station that keeps the bundle it wrote.
use Rattle.std.specs.Prelude.{ℕ, false}
use Rattle.station.specs.declared.Stage.{Stage}
use Rattle.station.specs.declared.Station.{Station}
use Rattle.station.specs.declared.Lasting.{Lasting}
use Rattle.station.specs.Present.{empty_station}

-- an open station that holds nothing
unfoldable pub blank : ℕ → ℕ → ℕ → Lasting → Stage → Station
blank n site question l g = empty_station (record { n = n; station = site; question = question }) g false l
