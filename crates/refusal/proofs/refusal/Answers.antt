-- By what the calls answer.
use mathlib.Core.Path.{◌≡◌, ap, ◌∙◌}
use Rattle.format.specs.declared.Fields.{Fields}
use Rattle.format.specs.Words.{fields_of}
use Rattle.refusal.specs.Refusal.{jumps_by}
use Rattle.refusal.proofs.refusal.Goals as goal

pub first_refusal-requires : goal.first_refusal-requires
first_refusal-requires c =
    (c.read_fields-fields.ensures ∙ ap fields_of c.word_at.ensures, c.jumps-leaps.ensures)

pub returns : goal.returns
returns c =
    let a = c.args in
    let f : c.read_fields-fields.result ≡ _ = c.read_fields-fields.ensures ∙ ap fields_of c.word_at.ensures in
    (c.first_refusal.ensures, f, c.jumps-leaps.ensures ∙ ap (λ (x : Fields). jumps_by a.t.stage a.t.lasting.jump x) f)
