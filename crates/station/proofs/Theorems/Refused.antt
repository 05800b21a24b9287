-- "At a refusal station, module and lent words keep their values", and the word count is zero: of giving, and of opening, which returns its one fixed station.
use Rattle.std.specs.Prelude.{ℕ, ◌||◌, List, ◌≡◌, ltb}
use Rattle.std.proofs.Math.Bool.{true, false}
use Rattle.std.proofs.Math.Path.{refl}
use Rattle.std.proofs.Common.{ap, ◌∙◌}
use Rattle.std.proofs.Math.Dec.{eqb}
use Rattle.laws.specs.Bools.{never}
use Rattle.format.specs.Form.{present_form}
use Rattle.format.specs.Numbers.{none}
use Rattle.modules.specs.declared.Module.{Module}
use Rattle.station.specs.declared.Station.{Station}
use Rattle.station.specs.Machine.{Outcome}
use Rattle.station.specs.Demand.{as_given}
use Rattle.station.proofs.Laws.Views.{lasting_then, Gives, refuses, holds_on, shuts, goes_on, enters, gives_view, Opens, no_opening, begins, opens_view}
use Rattle.station.specs.Returns.{unrefused, wrote}
use Rattle.station.proofs.Laws.Returns.{wrote_unrefused, sent_wrote}
use Rattle.station.specs.Present.{returned, opening, opening_outcome, giving, giving_outcome, no_station, Lengths}

module _ (mac : List ℕ → List ℕ → List ℕ) (m : Module) where
  pub giving_refused : (t : Station) (ws : List ℕ) (coin : ℕ) (out : List ℕ) → Lengths t → unrefused (giving mac m t ws coin out).number ≡ false
      → giving mac m t ws coin out ≡ as_given (giving mac m t ws coin out).number m t out
  unfolding Rattle.station.specs.Calls.giving Rattle.station.specs.Calls.returned
  giving_refused t ws coin out L = go (giving_outcome mac m t ws coin out) (gives_view present_form mac m t ws coin out L)
    where
      go : (o : Outcome) → Gives present_form mac m t ws coin out o → unrefused (returned m t out o).number ≡ false
          → returned m t out o ≡ as_given (returned m t out o).number m t out
      go _ (refuses e) u = refl
      go _ (holds_on A few) u = never true u refl
      go _ (shuts A size c) u = never true u refl
      go _ (goes_on {k} A size c above e) u = never (unrefused k) u (wrote_unrefused k (ap wrote e ∙ sent_wrote (ltb t.lasting.decision none || eqb (lasting_then present_form mac m t ws coin out).decision none)))
      go _ (enters J above) u = never true u refl

  pub opening_refused : (question proposal jump : ℕ) (out : List ℕ) → unrefused (opening mac m question proposal jump out).number ≡ false
      → opening mac m question proposal jump out ≡ as_given (opening mac m question proposal jump out).number m no_station out
  unfolding Rattle.station.specs.Calls.opening Rattle.station.specs.Calls.returned
  opening_refused question proposal jump out = go (opening_outcome mac m question proposal jump out) (opens_view present_form mac m question proposal jump out)
    where
      go : (o : Outcome) → Opens present_form mac m question proposal jump out o → unrefused (returned m no_station out o).number ≡ false
          → returned m no_station out o ≡ as_given (returned m no_station out o).number m no_station out
      go _ (no_opening e) u = refl
      go _ (begins room r p a) u = never true u refl
