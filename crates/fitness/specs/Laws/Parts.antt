-- The test of a station, put together from that of the held statements and that of the kept groups.
use Rattle.std.specs.Prelude.{ℕ, ◌-◌, ◌*◌, ◌≤◌, Bool, true, false, not, ◌&&◌, ◌||◌, ◌≡◌, refl, eqb, leb, get_or}
use Rattle.std.proofs.Common.{sym, ◌∙◌, arith, leb-true}
use Rattle.std.proofs.lemmas.Bool.{not-true, not-false}
use Rattle.laws.specs.Bools.{both}
use Rattle.format.specs.Numbers.{none}
use Rattle.format.specs.Present.{most_stations, statement_words, size_fits}
use Rattle.modules.specs.declared.Module.{Module}
use Rattle.modules.specs.Present.{module_fits}
use Rattle.station.specs.declared.Station.{Station}
use Rattle.station.specs.Machine.{stage_step, kept_for_value, kept_for_none}
use Rattle.station.specs.Present.{held_by, stage_fits, group_fits, held_fits, rest_fits, fits}
use Rattle.held_fitness.specs.Laws.Parts.{held_words_fit}
use Rattle.kept_fitness.specs.Laws.Parts.{groups_fit}

unfoldable pub words_fit : ℕ → ℕ → Station → Bool
words_fit n site t = held_fits n site t && rest_fits n site t

and_assoc : (a b c d : Bool) → (a && b && (c && d)) ≡ (a && b && c && d)
and_assoc true true true d = refl
and_assoc true true false d = refl
and_assoc true false c d = refl
and_assoc false b c d = refl

-- ---- the whole
module _ (n site : ℕ) (t : Station) where
  pub words_are : (a b c : Bool) (step : ℕ) → size_fits n ≡ true → step ≡ stage_step t.stage
      → a ≡ held_words_fit n (site - 1) t.identity.question step t.held.heard t.held.slots
      → b ≡ stage_fits t.stage (get_or t.held.slots ((site - 1) * statement_words) 0)
      → c ≡ (size_fits n && groups_fit n t.identity.question t.stage t.held.heard t.held.slots t.groups)
      → (a && (b && leb t.lasting.decision none && c)) ≡ words_fit n site t
  unfolding words_fit held_words_fit groups_fit
  words_are a b c step w e p q r =
      let g = group_fits n t.identity.question (kept_for_value n t.stage (held_by t)) t.groups.value in
      let h = group_fits n t.identity.question (kept_for_none n t.stage (held_by t)) t.groups.none in
      rw (p, q, r, e, w)
      (λ i. held_fits n site t && and_assoc (stage_fits t.stage (get_or t.held.slots ((site - 1) * statement_words) 0)) (leb t.lasting.decision none) g h i)

  pub whole : (a : Bool) → a ≡ words_fit n site t
      → (eqb t.identity.n n && eqb t.identity.station site && (t.closed || a)) ≡ fits n site t
  unfolding words_fit Rattle.station.specs.Fit.fits
  whole a e = rw e

module _ (m : Module) (r : Bool) (e : r ≡ module_fits m) where
  pub range_out : not r ≡ false → (1 ≤ m.station) × (m.station ≤ most_stations) × (size_fits m.n ≡ true)
  range_out h =
      let p = both (size_fits m.n) _ (sym e ∙ not-false _ h) in
      let s = both (leb 2 m.n) _ p.0 in
      let g = both (leb 1 m.station) _ p.1 in
      let a : m.station ≤ m.n = leb-true _ _ g.1 in
      let b : m.n ≤ most_stations = leb-true _ _ s.1 in
      (leb-true _ _ g.0, omega (arith, a, b), p.0)

  pub refused : (b : Bool) → not r ≡ true → false ≡ (module_fits m && b)
  refused b h = rw (sym e ∙ not-true _ h)

  pub rest_decides : (a b : Bool) → not r ≡ false → a ≡ b → a ≡ (module_fits m && b)
  rest_decides a b h p = rw (sym e ∙ not-false _ h) p
