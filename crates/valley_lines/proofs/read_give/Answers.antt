-- Behind numbers the keyword decides.
use Rattle.std.proofs.Common.{refl, sym, ◌∙◌}
use Rattle.valley_lines.specs.Read.{word_give}
use Rattle.valley_lines.proofs.Laws.Says.{keyword_is, give_read}
use Rattle.valley_lines.proofs.read_give.Goals as goal

pub returns : goal.returns
returns c =
    c.then_some.ensures
    ∙ give_read c.args.keyword.now c.args.s.now c.args.k.now c.args.c.now _ _ _ _ (keyword_is c.args.keyword.now word_give _ _ _ c.eq.ensures c.as_slice.ensures refl)
    (sym c.in_ok-number.was ∙ c.number.ensures) (sym c.in_ok-number-2.was ∙ c.number-2.ensures) (sym c.in_ok-number-3.was ∙ c.number-3.ensures)
