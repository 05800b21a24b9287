-- The first proposal, held against the backing: of q INITs that are 0 or 1, a value is proposed exactly if it has its backing among them. So the backing
-- of a value is the least number of INITs with which it is proposed, for every n.
use Rattle.std.specs.Prelude.{ℕ, ◌≤◌, List, ◌≡◌}
use Rattle.format.specs.Group.{backing}
use Rattle.format.specs.Statement.{Statement}
use Rattle.format.specs.Lists.{number_of}
use Rattle.station.specs.Machine.{has_value, first_value}

-- v is proposed only where it has its backing, and wherever it has it
abbrev pub Exactly : ℕ → List Statement → ℕ → Type 0
Exactly n h v = (first_value h ≡ v → backing n v ≤ number_of (has_value v) h) × (backing n v ≤ number_of (has_value v) h → first_value h ≡ v)
