-- Each way out is a case of the definition; the two states are its states, field by field.
use Rattle.std.proofs.Common.{◌≡◌, ◌∙◌, sym, ap, List, ℕ, length, ltb, Ok, Err}
use Rattle.std.proofs.lemmas.Result.{err_from_is_err_and}
use Rattle.laws.specs.Pick.{pick}
use Rattle.laws.proofs.Chosen.{was_ok, was_err}
use Rattle.compression.specs.Compression.{compressed}
use Rattle.sha256.specs.Sha256.{words, initial, limit}
use Rattle.sha256.specs.declared.HashError.TheVariants.{TooLong}
use Rattle.hmac.specs.declared.Prepared.{Prepared}
use Rattle.hmac.specs.Hmac.{key_block, masked, ipad, opad, prepared, keyed}
use Rattle.hmac.proofs.prepare.Goals as goal

pub returns-in_err-b : goal.returns-in_err-b
unfolding keyed pick
returns-in_err-b c =
    let k = c.args.k.now in
    let w = was_err (ltb (length k) limit) (key_block k) TooLong _ (sym c.block_of.ensures ∙ c.in_err-b.was) in
    let p = err_from_is_err_and c.from_residual.result c.from_residual.ensures.1 in
    rw (p.1, p.2, w.0) (ap Err (sym w.1))

pub returns : goal.returns
unfolding keyed prepared pick
returns c =
    let k = c.args.k.now in
    let w = was_ok (ltb (length k) limit) (key_block k) _ TooLong (sym c.block_of.ensures ∙ c.in_ok-b.was) in
    let inner = c.key_state-inner.ensures ∙ ap (λ (l : List ℕ). compressed initial (words (masked ipad l))) (sym w.1) in
    let outer = c.key_state-outer.ensures ∙ ap (λ (l : List ℕ). compressed initial (words (masked opad l))) (sym w.1) in
    let states : ◌≡◌ {A = Prepared} (record { inner = c.key_state-inner.result; outer = c.key_state-outer.result }) (prepared k)
    = λ i. record { inner = inner i; outer = outer i } in
    rw w.0 (ap Ok states)
