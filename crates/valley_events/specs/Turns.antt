-- What the parts of a turn promise.
use Rattle.std.specs.Prelude.{ℕ, suc, List, ◌≡◌, length, set}
use Rattle.laws.specs.Over.{over}
use Rattle.valley_world.specs.declared.Phase.{Phase}
use Rattle.valley_world.specs.declared.World.{World}
use Rattle.valley_world.specs.Valley.{Turn}

-- what was printed stands at the front of the lent bytes, and those behind it are untouched
pub record Printed (printed : List ℕ) (count : ℕ) (before after : List ℕ) : Type 0 where
  pub count_is : count ≡ length printed
  pub lent_is : after ≡ over printed before

-- what a line did is what the definition says
pub record Turned (t : Turn) (phase : Phase) (world : World) (count : ℕ) (before after : List ℕ) : Type 0 where
  pub phase_is : phase ≡ t.phase
  pub world_is : world ≡ t.world
  pub prints : Printed t.printed count before after

-- the group with one more bundle
abbrev pub with_bundle : World → ℕ → List ℕ → World
with_bundle w count words =
    record {
      modules = w.modules;
      stations = w.stations;
      written = suc w.written;
      bundles = set w.bundles w.written (record { count = count; words = words });
    }
