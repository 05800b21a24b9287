-- After a fault nothing is computed. Else the words read are those that the code covers, and the code over them is compared with the words after them.
use Rattle.std.proofs.Common.{sym, ap, ◌∙◌, rules}
use Rattle.std.specs.Result.{is_ok}
use Rattle.walk.proofs.Laws.Codes.{two_coded, failed}
use Rattle.walk.proofs.code_fails.Goals as goal

pub unwrap-code-requires : goal.unwrap-code-requires
unwrap-code-requires c =
    let a = c.args in ap is_ok (c.code_words.ensures ∙ two_coded a.key a.words.now (search rules))

pub returns : goal.returns
returns c =
    let a = c.args in
    rw c.if-fault.false
    (failed a.key a.words.now c.unwrap-code.result c.code_matches.result (search rules) (c.requires c.if-fault.false) (sym c.code_words.ensures ∙ c.unwrap-code.ensures) c.code_matches.ensures)
