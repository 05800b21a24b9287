-- Where a test fails, all is as it was; else a jump, or what follows the bundle kept, which leaves the station that was given where it is refused.
use mathlib.Core.Path.{sym, ap, ◌∙◌}
use borrow.Author.Rules.{rules}
use Rattle.std.proofs.lemmas.Result.{err_from_is_err_and}
use Rattle.format.specs.Returns.{number_in}
use Rattle.station.specs.Present.{Lengths}
use Rattle.keeping.proofs.Laws.One.{LowWords}
use Rattle.giving.proofs.Laws.Give.{give_refused, none_found, jumps_found, give_jump, give_after}
use Rattle.giving.proofs.give.Goals as goal

pub returns-in_err-found : goal.returns-in_err-found
returns-in_err-found c =
    let a = c.args in
    let p = err_from_is_err_and c.from_residual.result c.from_residual.ensures.1 in
    rw (p.1, p.2)
    (give_refused a.m a.t a.ws.now a.coin a.out.now c.in_err-found.field-0.0 (sym (ap number_in c.in_err-found.was) ∙ c.refusal-found.ensures.0))

pub returns-then-found : goal.returns-then-found
returns-then-found c =
    let lengths : Lengths c.args.t =
    record {
      slots = search rules;
      for_value = search rules;
      for_none = search rules;
    } in
    let a = c.args in
    give_jump a.m a.t a.ws.now a.coin a.out.now lengths (λ i. search rules) _ _
    (none_found a.m a.t a.ws.now a.coin a.out.now _ c.refusal-found.ensures.0 (ap number_in c.in_ok-found.was))
    (sym (jumps_found a.m a.t a.ws.now a.coin a.out.now _ c.refusal-found.ensures.2) ∙ c.if-found.true)
    c.jump.ensures (λ i. search rules)

pub returns : goal.returns
returns c =
    let lengths : Lengths c.args.t =
    record {
      slots = search rules;
      for_value = search rules;
      for_none = search rules;
    } in
    let low_words : LowWords c.args.t =
    record {
      slots = λ i. search (rules, c.well_formed);
      for_value = λ i. search (rules, c.well_formed);
      for_none = λ i. search (rules, c.well_formed);
    } in
    let a = c.args in
    give_after a.m a.t a.ws.now a.coin a.out.now lengths low_words (λ i. search rules) _ _ _
    (none_found a.m a.t a.ws.now a.coin a.out.now _ c.refusal-found.ensures.0 (ap number_in c.in_ok-found.was))
    (sym (jumps_found a.m a.t a.ws.now a.coin a.out.now _ c.refusal-found.ensures.2) ∙ c.if-found.false)
    c.keep-k.ensures c.taken.ensures (λ i. search rules)
