-- Each test is one of the definition; that of each word behind the statements is the test for zeros.
use Rattle.std.proofs.Common.{ℕ, zero, suc, List, Bool, get_or, ◌≡◌, refl, ap, ◌&&◌, ◌-◌, ◌*◌, ◌∙◌, add-one, eqb, rules}
use Rattle.std.specs.List.{list_all, range_with_len}
use Rattle.std.proofs.lemmas.Iterator.{YieldsList-from_range}
use Rattle.std.proofs.lemmas.Iterator.Search.{all_from_yields_List}
use borrow.Author.Tests.{tests}
use Rattle.format.specs.Present.{statement_words}
use Rattle.station.specs.Fit.{zeros}
use Rattle.station.specs.Present.{kept_words}
use Rattle.kept_fitness.proofs.group_fits.Goals as goal

all_zero : (ws : List ℕ) (at k : ℕ) → list_all (λ i. eqb (get_or ws i 0) 0) (range_with_len at k) ≡ zeros ws at k
unfolding zeros
all_zero ws at zero = refl
all_zero ws at (suc k) =
    ap (λ (b : Bool). eqb (get_or ws at 0) 0 && b)
    (ap (λ j. list_all (λ i. eqb (get_or ws i 0) 0) (range_with_len j k)) (add-one at) ∙ all_zero ws (suc at) k)

pub returns : goal.returns
returns c =
    let a = c.args in
    let at : ℕ = a.g.size * statement_words in
    let zero_behind : c.all.result ≡ zeros a.ws.now at (kept_words - at) =
    all_from_yields_List (λ i. eqb (get_or a.ws.now i 0) 0) _ _ c.all.result c.all.ensures.ran (YieldsList-from_range at kept_words (kept_words - at) refl refl)
    (λ x b q k. search (rules, tests))
    ∙ all_zero a.ws.now at (kept_words - at) in
    λ j. c.statements_fit.ensures j && zero_behind j
