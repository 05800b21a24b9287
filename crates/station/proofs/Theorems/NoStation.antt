-- The station that is none, which a refused opening returns: it names no decision, fits no module, and every giving on it is refused by 1 or 2.
use Rattle.std.specs.Prelude.{ℕ, Bool, ◌&&◌, List, ◌⊎◌, ◌≡◌, eqb, ltb, length}
use Rattle.std.proofs.Math.Bool.{true, false}
use Rattle.std.proofs.Math.Logic.{inl, inr}
use Rattle.std.proofs.Math.Path.{refl}
use Rattle.std.proofs.Common.{ap, ◌∙◌, arith, eqb-true}
use Rattle.std.proofs.Math.Dec.{leb}
use Rattle.laws.specs.Pick.{pick}
use Rattle.laws.specs.Bools.{never, both, is_false}
use Rattle.laws.specs.Refusals.{first_failed}
use Rattle.format.specs.Form.{present_form}
use Rattle.format.specs.Numbers.{none, short_output, out_of_range}
use Rattle.format.specs.Present.{output_words}
use Rattle.modules.specs.declared.Module.{Module}
use Rattle.modules.specs.Present.{module_fits}
use Rattle.station.specs.Returns.{unrefused}
use Rattle.station.specs.Calls.{Returned}
use Rattle.station.proofs.Laws.Views.{in_range}
use Rattle.station.proofs.Theorems.Refused.{opening_refused}
use Rattle.station.specs.Present.{fits, opening, giving, no_station}

-- it names no decision, so that a refused opening never looks like a decided station
pub no_station_undecided : no_station.lasting.decision ≡ none
unfolding Rattle.station.specs.Calls.no_station
no_station_undecided = refl

pub refused_undecided : (mac : List ℕ → List ℕ → List ℕ) (m : Module) (question v jump : ℕ) (out : List ℕ)
    → unrefused (opening mac m question v jump out).number ≡ false → (opening mac m question v jump out).station.lasting.decision ≡ none
refused_undecided mac m question v jump out e = ap (λ (r : Returned). r.station.lasting.decision) (opening_refused mac m question v jump out e) ∙ no_station_undecided

-- it fits no module that is in range
pub no_station_fits : (m : Module) → module_fits m ≡ true → fits m.n m.station no_station ≡ false
unfolding Rattle.station.specs.Calls.no_station Rattle.station.specs.Fit.fits
no_station_fits m r = is_false (fits m.n m.station no_station) (λ h. omega (arith, eqb-true 0 m.n (both (eqb 0 m.n) _ (both (eqb 0 m.n && eqb 0 m.station) _ h).0).0, (in_range present_form m r).at_least))

-- every giving on it is answered 1 or 2
module _ (mac : List ℕ → List ℕ → List ℕ) (m : Module) (ws : List ℕ) (coin : ℕ) (out : List ℕ) where
  unfit : (module_fits m && ltb coin 2 && fits m.n m.station no_station) ≡ false
  unfit = is_false _ (λ h. let a = both (module_fits m && ltb coin 2) _ h in never _ (no_station_fits m (both (module_fits m) _ a.0).0) a.1)

  pub no_station_refused : ((giving mac m no_station ws coin out).number ≡ short_output) ⊎ ((giving mac m no_station ws coin out).number ≡ out_of_range)
  unfolding Rattle.station.specs.Calls.giving Rattle.station.specs.Calls.returned first_failed pick
  no_station_refused = go (leb output_words (length out)) refl
    where
      go : (b : Bool) → leb output_words (length out) ≡ b
          → ((giving mac m no_station ws coin out).number ≡ short_output) ⊎ ((giving mac m no_station ws coin out).number ≡ out_of_range)
      go true e = inr (rw (e, unfit))
      go false e = inl (rw e)
