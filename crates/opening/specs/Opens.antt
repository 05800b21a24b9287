-- Opening, by what its code finds: the refusal, and what is returned with it or without one.
use Rattle.std.specs.Prelude.{ℕ, ◌≤◌, Bool, ◌&&◌, List, [], ◌∷◌, ◌≡◌, leb, length}
use Rattle.std.proofs.Math.Bool.{true, false}
use Rattle.std.proofs.Math.Path.{refl, ap}
use Rattle.std.proofs.Common.{sym, ◌∙◌}
use native.Mathlib.Omega.{arith}
use Rattle.std.proofs.Math.Dec.{ltb}
use borrow.Author.Tests.{leb-true}
use Rattle.laws.specs.Pick.{pick}
use Rattle.laws.specs.Bools.{both}
use Rattle.laws.specs.Refusals.{Test, test, first_failed, all_passed}
use Rattle.format.specs.Numbers.{short_output, out_of_range, not_above}
use Rattle.format.specs.Statement.{step}
use Rattle.hmac.specs.Code.{hmac_code}
use Rattle.format.specs.Words.{step_of}
use Rattle.format.specs.Present.{output_words}
use Rattle.modules.specs.declared.Module.{Module}
use Rattle.modules.specs.Counter.{above, last_for}
use Rattle.modules.specs.Present.{module_fits}
use Rattle.station.specs.declared.Station.{Station}
use Rattle.station.specs.Calls.{Returned}
use Rattle.station.specs.Answers.{Answers}
use Rattle.station.specs.Present.{opening, no_station}

-- "Opening tests 1, 2, 12."
abbrev pub tests : Bool → Bool → Bool → List Test
tests room range later = test room short_output ∷ test range out_of_range ∷ test later not_above ∷ []

unfoldable pub open_refusal : Module → ℕ → ℕ → ℕ → ℕ → ℕ
open_refusal m question proposal jump lent =
    first_failed (tests (leb output_words lent) (module_fits m && ltb proposal 2 && ltb jump 2) (above (last_for m question) question 0))

module _ (m : Module) (question proposal jump : ℕ) (out : List ℕ) where
  by_tests : (a b c : Bool) → leb output_words (length out) ≡ a → (module_fits m && ltb proposal 2 && ltb jump 2) ≡ b → above (last_for m question) question 0 ≡ c
      → (first_failed (tests a b c) ≡ 0 → ⊥)
      → opening hmac_code m question proposal jump out ≡ record { number = first_failed (tests a b c); count = 0; station = no_station; after = m; lent = out }
  unfolding Rattle.station.specs.Calls.opening Rattle.station.specs.Calls.returned first_failed pick step step_of
  by_tests false b c x y z no_0 = rw x
  by_tests true false c x y z no_0 = rw (x, y)
  by_tests true true false x y z no_0 = rw (x, y, z)
  by_tests true true true x y z no_0 = absurd (no_0 refl)

  pub refused_answers : (k : ℕ) (t : Station) → k ≡ open_refusal m question proposal jump (length out) → (k ≡ 0 → ⊥) → t ≡ no_station
      → Answers (opening hmac_code m question proposal jump out) k 0 t m out
  unfolding open_refusal
  refused_answers k t e no_0 et =
      let r = by_tests (leb output_words (length out)) (module_fits m && ltb proposal 2 && ltb jump 2) (above (last_for m question) question 0) refl refl refl (λ z. no_0 (e ∙ z)) in
      record {
        number_is = e ∙ ap (λ (x : Returned). x.number) (sym r);
        count_is = ap (λ (x : Returned). x.count) (sym r);
        station_is = et ∙ ap (λ (x : Returned). x.station) (sym r);
        after_is = ap (λ (x : Returned). x.after) (sym r);
        lent_is = ap (λ (x : Returned). x.lent) (sym r);
      }

  pub record Passed : Type 0 where
    pub room : output_words ≤ length out
    pub fit : module_fits m ≡ true
    pub bit : ltb proposal 2 ≡ true
    pub setting : ltb jump 2 ≡ true
    pub later : above (last_for m question) question 0 ≡ true

  pub passed : open_refusal m question proposal jump (length out) ≡ 0 → Passed
  unfolding open_refusal
  passed e =
      let p = all_passed (tests (leb output_words (length out)) (module_fits m && ltb proposal 2 && ltb jump 2) (above (last_for m question) question 0)) (omega arith, (omega arith, (omega arith, tt))) e in
      let a = both (module_fits m && ltb proposal 2) _ p.1.0 in
      let b = both (module_fits m) _ a.0 in
      record { room = leb-true _ _ p.0; fit = b.0; bit = b.1; setting = a.1; later = p.1.1.0 }

-- the tests as the code finds them
pub refusal_is : (m : Module) (question proposal jump lent k : ℕ) (range later : Bool) → range ≡ module_fits m → later ≡ above (last_for m question) question 0
    → k ≡ first_failed (tests (leb output_words lent) (range && ltb proposal 2 && ltb jump 2) later) → k ≡ open_refusal m question proposal jump lent
unfolding open_refusal
refusal_is m question proposal jump lent k range later a b e = rw (← a, ← b) e
