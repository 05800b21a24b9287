-- What the calls on a group promise.
use Rattle.std.specs.Prelude.{ℕ}
use Rattle.modules.specs.declared.Module.{Module}
use Rattle.station.specs.declared.Station.{Station}
use Rattle.station.specs.Calls.{Returned}
use Rattle.valley_world.specs.declared.Call.{Call}
use Rattle.valley_world.specs.declared.World.{World}
use Rattle.valley_world.specs.Valley.{put_number}

-- what a call returned, as the definitions have it
abbrev pub returned_by : Call → Returned
returned_by c = record { number = c.number; count = c.bundle.count; station = c.station; after = c.after; lent = c.bundle.words }

-- the group with another station and module of number s
abbrev pub moved : World → ℕ → Station → Module → World
moved w s t m = record { modules = put_number w.modules s m; stations = put_number w.stations s t; written = w.written; bundles = w.bundles }
