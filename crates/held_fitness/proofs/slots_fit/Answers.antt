-- The test of each number of a station in turn is the definition.
use Rattle.std.proofs.Common.{ℕ, zero, suc, ◌≡◌, ◌&&◌, ◌∙◌, Bool, List, ap, refl, rules, add-one}
use Rattle.std.specs.List.{list_all, range_with_len}
use Rattle.std.proofs.lemmas.Iterator.{YieldsList-from_range}
use Rattle.std.proofs.lemmas.Iterator.Search.{all_from_yields_List}
use borrow.Author.Tests.{tests}
use Rattle.station.specs.Present.{sites, slots_fit}
use Rattle.held_fitness.specs.Laws.Parts.{slot_right}
use Rattle.held_fitness.proofs.slots_fit.Goals as goal

all_right : (n question step set : ℕ) (slots : List ℕ) (i k : ℕ)
    → list_all (slot_right n question step set slots) (range_with_len i k) ≡ slots_fit n question step set slots i k
unfolding Rattle.station.specs.Fit.slots_fit slot_right
all_right n question step set slots i zero = refl
all_right n question step set slots i (suc k) =
    ap (λ (b : Bool). slot_right n question step set slots i && b)
    (ap (λ j. list_all (slot_right n question step set slots) (range_with_len j k)) (add-one i) ∙ all_right n question step set slots (suc i) k)

pub returns : goal.returns
returns c =
    let a = c.args in
    all_from_yields_List (slot_right a.n a.question a.step.0 a.held.now.heard a.held.now.slots) _ _ _ c.all.ensures.ran
    (YieldsList-from_range 0 sites sites refl refl)
    (λ x b q k. search (rules, tests))
    ∙ all_right a.n a.question a.step.0 a.held.now.heard a.held.now.slots 0 sites
