-- The value goes into word 0, and the code of words 0 and 1 behind them.
use Prim.Native.Nat.{◌-◌}
use mathlib.Core.Path.{◌≡◌, ap, ◌∙◌}
use lib.ListN.{length, set, length-set}
use borrow.Rule.Slice.PartMut.{put_mid}
use Rattle.format.specs.declared.Fields.{Fields}
use Rattle.format.specs.Words.{fields_of, word_of}
use Rattle.format.specs.Present.{covered_words, statement_words}
use Rattle.sealed.specs.Laws.Answers.{word_with}
use Rattle.sealed.proofs.Coding.{signed_is}
use Rattle.sealed.proofs.Stored.{stored}
use Rattle.sealed.proofs.sign.Goals as goal

pub returns : goal.returns
unfolding fields_of word_with
returns c =
    let a = c.args in
    let w = c.write_fields-w.result in
    let w_is =
    c.write_fields-w.ensures
    ∙ ap (λ (f : Fields). word_of (record { kind = f.kind; value = a.value; flag = f.flag; spare = 0; station = f.station; round = f.round })) c.read_fields-f.ensures in
    let long : length (set a.ws.now 0 w) ≡ statement_words = length-set a.ws.now 0 w ∙ c.requires in
    signed_is a.key a.ws.now _ _ a.value w c.requires w_is c.code_of-code.ensures
    (ap (put_mid covered_words (length (set a.ws.now 0 w) - covered_words) (set a.ws.now 0 w)) c.copy_from_slice.ensures.after ∙ stored (set a.ws.now 0 w) _ long)
