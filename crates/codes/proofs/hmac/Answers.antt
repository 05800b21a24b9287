-- Each way out is a case of the definition: the code is there only where both inputs are short enough.
use Rattle.std.proofs.Common.{◌≡◌, ◌∙◌, ◌+◌, ◌<◌, ◌≤◌, ◌++◌, sym, ap, arith, length, ltb, replicate, lt-ltb, le-ltb, Ok, Err}
use Rattle.std.specs.Result.{result_unwrap_or}
use Rattle.std.proofs.Math.Bool.{and-false}
use Rattle.std.proofs.lemmas.Result.{err_from_is_err_and}
use Rattle.laws.specs.Pick.{pick}
use Rattle.laws.proofs.Chosen.{was_ok, was_err}
use Rattle.sha256.specs.Sha256.{bytes, padding, hashed, limit}
use Rattle.sha256.specs.declared.HashError.TheVariants.{TooLong}
use Rattle.sha256.proofs.Laws.Answers.{after_short}
use Rattle.hmac.specs.declared.Prepared.{Prepared}
use Rattle.hmac.specs.Hmac.{prepared, keyed, closed, code_of}
use Rattle.hmac.proofs.Laws.Keys.{hmac_from}
use Rattle.codes.proofs.hmac.Goals as goal

pub returns-in_err-key : goal.returns-in_err-key
unfolding code_of keyed pick
returns-in_err-key c =
    let k = c.args.k.now in
    let w = was_err (ltb (length k) limit) (prepared k) TooLong _ (sym c.prepare.ensures ∙ c.in_err-key.was) in
    let p = err_from_is_err_and c.from_residual.result c.from_residual.ensures.1 in
    rw (p.1, p.2, w.0) (ap Err (sym w.1))

pub returns-in_ok-key : goal.returns-in_ok-key
unfolding code_of keyed pick
returns-in_ok-key c =
    let k = c.args.k.now in
    let m = c.args.m.now in
    let key : Prepared = c.in_ok-key.key in
    let short : 64 + length m < limit = omega (arith, c.if-m.true) in
    let w = was_ok (ltb (length k) limit) (prepared k) _ TooLong (sym c.prepare.ensures ∙ c.in_ok-key.was) in
    let s = hashed key.inner (m ++ padding (64 + length m)) in
    let x : c.unwrap_or-inner.result ≡ s =
    c.unwrap_or-inner.ensures ∙ ap (λ r. result_unwrap_or r (replicate 8 0)) (c.hash_after.ensures ∙ after_short key.inner 1 m short) in
    rw (w.0, lt-ltb (64 + length m) limit short) (ap Ok
    (c.state_bytes.ensures
    ∙ ap bytes (c.close-outer.ensures ∙ ap (closed key.outer) x)
    ∙ ap (λ (p : Prepared). bytes (closed p.outer (hashed p.inner (m ++ padding (64 + length m))))) (sym w.1)
    ∙ hmac_from k m))

pub returns-else-m : goal.returns-else-m
unfolding code_of pick
returns-else-m c =
    let far : limit ≤ 64 + length c.args.m.now = omega (arith, c.if-m.false) in
    rw (le-ltb (64 + length c.args.m.now) limit far, and-false)
