-- The test of the kept groups, in the parts that the code has.
use Rattle.std.specs.Prelude.{ℕ, ◌-◌, ◌*◌, ◌≤◌, ◌<◌, Bool, true, false, not, ◌&&◌, List, ◌≡◌, ltb, leb, get_or}
use Rattle.std.proofs.Math.Path.{sym, ap}
use Rattle.std.proofs.Common.{◌∙◌, arith}
use Rattle.std.specs.Int.Count.{count_trailing_zeros}
use borrow.Author.Tests.{leb-true, lt-ltb, not-true, not-false}
use Rattle.laws.specs.Pick.{here, skip}
use Rattle.laws.specs.Bools.{both}
use Rattle.format.specs.declared.Fields.{Fields}
use Rattle.format.specs.Words.{fields_of}
use Rattle.format.specs.Lists.{leading}
use Rattle.format.specs.Present.{most_stations, statement_words, size_fits, statement}
use Rattle.rules.specs.declared.Group.{Group}
use Rattle.rules.specs.Rules.{none_votes}
use Rattle.station.specs.declared.Groups.{Groups}
use Rattle.station.specs.declared.Stage.{Stage}
use Rattle.station.specs.Machine.{round_in, supplies_for_value, supplies_for_none, kept_for_value, kept_for_none, value_group, no_group}
use Rattle.station.specs.Present.{sites, held_in, group_fits}
use Rattle.held.specs.Scan.{scan}
use Rattle.held.proofs.Laws.Held.{scan_some, scan_first}

-- both groups are those that are to be kept
unfoldable pub groups_fit : ℕ → ℕ → Stage → ℕ → List ℕ → Groups → Bool
groups_fit n question g set slots groups =
    group_fits n question (kept_for_value n g (held_in set slots 0 sites)) groups.value
    && group_fits n question (kept_for_none n g (held_in set slots 0 sites)) groups.none

-- ---- the groups: there where the scan finds a station
pub for_value_slot : (g : Stage) (set : ℕ) (slots : List ℕ) (found : ℕ) → found ≡ scan (supplies_for_value g) set slots → (found ≡ 0 → ⊥) → count_trailing_zeros 32 found < sites
for_value_slot g set slots found e h = rw e (scan_first (supplies_for_value g) set slots (omega (arith, h, e))).0

module _ (n : ℕ) (g : Stage) (set : ℕ) (slots : List ℕ) (found : ℕ) (k : Group) where
  module _ (e : found ≡ scan (supplies_for_value g) set slots) where
    there : (found ≡ 0 → ⊥) → 0 < scan (supplies_for_value g) set slots
    there h = omega (arith, h, e)

    pub for_value_found : (f : Fields) → (found ≡ 0 → ⊥) → f ≡ fields_of (get_or slots (count_trailing_zeros 32 found * statement_words) 0) → k ≡ value_group n g f.value
        → k ≡ kept_for_value n g (held_in set slots 0 sites)
    unfolding kept_for_value fields_of
    for_value_found f h r q =
        let v : f.value ≡ leading (supplies_for_value g) (held_in set slots 0 sites)
        = ap (λ (x : Fields). x.value) r ∙ ap (λ (x : ℕ). (statement slots (count_trailing_zeros 32 x * statement_words)).value) e ∙ sym (scan_first (supplies_for_value g) set slots (there h)).1 in
        q ∙ ap (value_group n g) v ∙ here _ _ _ (sym (scan_some (supplies_for_value g) set slots) ∙ lt-ltb 0 _ (there h))

    pub for_value_missing : found ≡ 0 → k ≡ no_group → k ≡ kept_for_value n g (held_in set slots 0 sites)
    unfolding kept_for_value
    for_value_missing z q = skip _ _ _ _ (sym (scan_some (supplies_for_value g) set slots) ∙ ap (ltb 0) (sym e ∙ z)) q

  module _ (e : found ≡ scan (supplies_for_none g) set slots) where
    pub for_none_found : (r : ℕ) → (found ≡ 0 → ⊥) → r ≡ round_in g - 1 → k ≡ none_votes n r → k ≡ kept_for_none n g (held_in set slots 0 sites)
    unfolding kept_for_none
    for_none_found r h p q =
        let l : 0 < scan (supplies_for_none g) set slots = omega (arith, h, e) in
        rw (q, p) (here _ _ _ (sym (scan_some (supplies_for_none g) set slots) ∙ lt-ltb 0 (scan (supplies_for_none g) set slots) l))

    pub for_none_missing : found ≡ 0 → k ≡ no_group → k ≡ kept_for_none n g (held_in set slots 0 sites)
    unfolding kept_for_none
    for_none_missing z q = skip _ _ _ _ (sym (scan_some (supplies_for_none g) set slots) ∙ ap (ltb 0) (sym e ∙ z)) q

-- ---- the whole
module _ (n : ℕ) (r : Bool) (e : r ≡ size_fits n) where
  pub few : not r ≡ false → n ≤ most_stations
  few h = leb-true n most_stations (both (leb 2 n) _ (sym e ∙ not-false r h)).1

  pub refused : (b : Bool) → not r ≡ true → false ≡ (size_fits n && b)
  refused b h = rw (sym e ∙ not-true r h)

  pub rest_decides : (a b : Bool) → not r ≡ false → a ≡ b → a ≡ (size_fits n && b)
  rest_decides a b h p = rw (sym e ∙ not-false r h) p
