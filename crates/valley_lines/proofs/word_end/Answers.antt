-- The library's search stops at the first space, as the definition does.
use Rattle.std.proofs.Common.{rules, Some, None, nat_eq, drop, ap, ◌+◌, ◌∙◌}
use Rattle.std.proofs.lemmas.Iterator.{YieldsList-from_slice}
use Rattle.std.proofs.lemmas.Iterator.Search.{position_from_yields_List}
use borrow.Author.Tests.{tests}
use Rattle.valley_lines.specs.Read.{space}
use Rattle.valley_lines.proofs.Laws.Words.{rest_all, space_found, no_space, end_whole}
use Rattle.valley_lines.proofs.word_end.Goals as goal

pub returns-in-Some : goal.returns-in-Some
returns-in-Some c =
    let rest = drop c.args.from c.args.text.now in
    ap (◌+◌ c.args.from) (space_found rest c.in-Some.count
    (position_from_yields_List (λ b. nat_eq b space) _ _ (Some c.in-Some.count) c.in-Some.ensures.ran
    (YieldsList-from_slice rest (c.iter.ensures.rest ∙ rest_all c.args.text.now c.args.from)) (λ x b q k. search (rules, tests))))

pub returns-in-None : goal.returns-in-None
returns-in-None c =
    let rest = drop c.args.from c.args.text.now in
    end_whole c.args.text.now c.args.from c.requires (no_space rest
    (position_from_yields_List (λ b. nat_eq b space) _ _ None c.in-None.ensures.ran
    (YieldsList-from_slice rest (c.iter.ensures.rest ∙ rest_all c.args.text.now c.args.from)) (λ x b q k. search (rules, tests))))
