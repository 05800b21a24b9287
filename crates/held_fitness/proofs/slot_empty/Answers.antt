-- The test of each of the ten words is the definition.
use Rattle.std.proofs.Common.{ℕ, ◌≡◌, ◌+◌, ◌-◌, ◌*◌, ◌∙◌, arith, eqb, take, drop, ap, rules}
use Rattle.std.proofs.lemmas.Iterator.{YieldsList-from_slice}
use Rattle.std.proofs.lemmas.Iterator.Search.{all_from_yields_List}
use borrow.Author.Tests.{tests}
use Rattle.format.specs.Present.{statement_words}
use Rattle.held.proofs.Laws.Zeros.{zeros_all}
use Rattle.held_fitness.proofs.slot_empty.Goals as goal

pub returns : goal.returns
returns c =
    let a = c.args in
    let at : ℕ = a.i * statement_words in
    let ten : at + statement_words - at ≡ statement_words = omega arith in
    all_from_yields_List (λ w. eqb w 0) _ _ _ c.all.ensures.ran
    (YieldsList-from_slice (take statement_words (drop at a.slots.now)) (c.iter.ensures.rest ∙ ap (λ k. take k (drop at a.slots.now)) ten))
    (λ x b q k. search (rules, tests))
    ∙ zeros_all a.slots.now at statement_words (omega arith)
