-- The key is short enough to be prepared, two words are few enough for the code, and the code from the prepared key is that of the key.
use Rattle.std.proofs.Common.{◌<◌, sym, ap, ◌∙◌, List, [], ◌∷◌, ℕ, length, rules}
use Rattle.std.specs.Result.{is_ok}
use Rattle.laws.specs.Pick.{pick}
use Rattle.laws.proofs.Chosen.{same_ok}
use Rattle.sha256.specs.Sha256.{limit}
use Rattle.hmac.specs.declared.Prepared.{Prepared}
use Rattle.hmac.specs.Hmac.{prepared, code_from, short_code}
use Rattle.hmac.proofs.Laws.Keys.{keyed_short}
use Rattle.hmac.proofs.Theorems.Prepared.{code_is_hmac}
use Rattle.hmac.specs.Code.{hmac_code}
use Rattle.sealed.proofs.code_of.Goals as goal

pub unwrap-states-requires : goal.unwrap-states-requires
unwrap-states-requires c =
    let key = c.args.key in
    let short : length key < limit = search rules in
    ap is_ok (c.prepare.ensures ∙ keyed_short key short)

pub unwrap-requires : goal.unwrap-requires
unfolding short_code pick
unwrap-requires c = ap is_ok c.code_words.ensures

pub returns : goal.returns
unfolding hmac_code short_code pick
returns c =
    let a = c.args in
    let ws : List ℕ = a.w0 ∷ a.w1 ∷ [] in
    let short : length a.key < limit = search rules in
    let states = same_ok c.unwrap-states.result (prepared a.key) (sym c.unwrap-states.ensures ∙ c.prepare.ensures ∙ keyed_short a.key short) in
    same_ok c.unwrap.result (code_from c.unwrap-states.result ws) (sym c.unwrap.ensures ∙ c.code_words.ensures)
    ∙ ap (λ (k : Prepared). code_from k ws) states
    ∙ code_is_hmac a.key ws
