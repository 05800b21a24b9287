-- Where no code is computed nothing is promised; else a key of 32 bytes is short enough to be prepared, and from its states the code is HMAC.
use Rattle.std.proofs.Common.{◌<◌, sym, ap, ◌∙◌, length, rules}
use Rattle.std.specs.Result.{is_ok}
use Rattle.laws.specs.Bools.{never}
use Rattle.laws.proofs.Chosen.{same_ok}
use Rattle.sha256.specs.Sha256.{limit}
use Rattle.hmac.specs.Hmac.{prepared, code_from}
use Rattle.hmac.proofs.Laws.Keys.{keyed_short}
use Rattle.certificate.proofs.Laws.Read.{code_is}
use Rattle.certificate.proofs.states_for.Goals as goal

pub returns-then-not-needed : goal.returns-then-not-needed
returns-then-not-needed c = λ h. never _ (c.if-not-needed.true) h

pub unwrap-requires : goal.unwrap-requires
unwrap-requires c =
    let key = c.args.key in
    let short : length key < limit = search rules in
    ap is_ok (c.prepare.ensures ∙ keyed_short key short)

pub returns : goal.returns
returns c = λ h.
    let key = c.args.key in
    let short : length key < limit = search rules in
    let states = same_ok c.unwrap.result (prepared key) (sym c.unwrap.ensures ∙ c.prepare.ensures ∙ keyed_short key short) in
    ap code_from states ∙ code_is key
