-- The promise of opening and of giving: each thing that the call answers is what the definition returns.
use Rattle.std.specs.Prelude.{ℕ, List, Result, Ok, Err, ◌≡◌}
use Rattle.format.specs.declared.Refusal.{Refusal}
use Rattle.format.specs.Returns.{refusal_number, outcome_number}
use Rattle.modules.specs.declared.Module.{Module}
use Rattle.station.specs.declared.Answer.{Answer}
use Rattle.station.specs.declared.Station.{Station}
use Rattle.station.specs.Calls.{Returned}

pub record Answers (x : Returned) (number count : ℕ) (t : Station) (after : Module) (lent : List ℕ) : Type 0 where
  pub number_is : number ≡ x.number
  pub count_is : count ≡ x.count
  pub station_is : t ≡ x.station
  pub after_is : after ≡ x.after
  pub lent_is : lent ≡ x.lent

-- what a call on a station returns, with the words that it left lent: at a refusal its number, no words counted, and the station and the module that were given
abbrev pub returned_by : Station → Module → List ℕ → Result Answer Refusal → Returned
returned_by t m out (Ok a) = record { number = outcome_number a.outcome; count = a.count; station = a.station; after = a.after; lent = out }
returned_by t m out (Err r) = record { number = refusal_number r; count = 0; station = t; after = m; lent = out }
