-- What taking a piece promises, part by part, and the run with another line.
use Rattle.std.specs.Prelude.{◌≡◌, ℕ, List}
use Rattle.valley_console.specs.declared.Run.{Run}
use Rattle.valley_console.specs.Pieces.{Takes}

pub record Took (t : Takes) (used count : ℕ) (run : Run) (lent : List ℕ) : Type 0 where
  pub used_is : used ≡ t.used
  pub count_is : count ≡ t.count
  pub run_is : run ≡ t.run
  pub lent_is : lent ≡ t.lent

abbrev pub with_line : Run → ℕ → List ℕ → Run
with_line r held line = record { phase = r.phase; number = r.number; held = held; line = line; world = r.world }
