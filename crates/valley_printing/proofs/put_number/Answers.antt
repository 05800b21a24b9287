-- The library's digits are those of the definition, and are copied.
use Rattle.std.proofs.Common.{◌≡◌, ◌+◌, length, take, refl, ap, ◌∙◌, arith}
use Rattle.std.proofs.lemmas.Slice.{put_mid-paste}
use Rattle.valley_printing.specs.Print.{decimal}
use Rattle.valley_printing.proofs.Laws.Decimal.{spelled_text}
use Rattle.valley_printing.proofs.put_number.Goals as goal

pub returns : goal.returns
returns c =
    let d = c.decimal-count in
    let a = c.args in
    let text_is : (take d.result d.new.out ≡ decimal a.n) × (d.result ≡ length (decimal a.n)) =
    spelled_text a.n d.result d.new.out d.ensures.in_bounds.1 d.ensures.len d.ensures.digits in (
      ap (◌+◌ a.at) text_is.1,
      put_mid-paste a.at _ a.out.now _ (decimal a.n) (length (decimal a.n)) (c.copy_from_slice.ensures.after ∙ text_is.0) (omega (arith, text_is)) refl,
    )
