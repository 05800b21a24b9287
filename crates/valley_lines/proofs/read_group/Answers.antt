-- Behind numbers the keyword decides.
use Rattle.std.proofs.Common.{refl, sym, ◌∙◌}
use Rattle.valley_lines.specs.Read.{word_n}
use Rattle.valley_lines.proofs.Laws.Says.{keyword_is, group_read}
use Rattle.valley_lines.proofs.read_group.Goals as goal

pub returns : goal.returns
returns c =
    c.then_some.ensures
    ∙ group_read c.args.keyword.now c.args.n.now _ _ (keyword_is c.args.keyword.now word_n _ _ _ c.eq.ensures c.as_slice.ensures refl)
    (sym c.in_ok-number.was ∙ c.number.ensures)
