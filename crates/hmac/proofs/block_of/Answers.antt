-- Each way out is a case of the definition.
use Rattle.std.proofs.Common.{◌∙◌, sym, ap, length, ltb, Ok, Err, arith, lt-ltb, le-leb}
use Rattle.std.proofs.lemmas.Bool.{lt-leb}
use Rattle.std.proofs.lemmas.Result.{err_from_is_err_and}
use Rattle.laws.specs.Pick.{pick}
use Rattle.laws.proofs.Chosen.{was_ok, was_err}
use Rattle.sha256.specs.Sha256.{limit, sha256, digest}
use Rattle.sha256.specs.declared.HashError.TheVariants.{TooLong}
use Rattle.hmac.specs.Hmac.{zero_filled, key_block}
use Rattle.hmac.proofs.block_of.Goals as goal

pub returns-then-k-le64 : goal.returns-then-k-le64
unfolding key_block pick
returns-then-k-le64 c =
    let k = c.args.k.now in
    rw (lt-ltb (length k) limit (omega arith), le-leb _ 64 c.if-k-le64.true) (ap Ok c.zero_fill.ensures)

pub returns-in_err-hash : goal.returns-in_err-hash
unfolding digest pick
returns-in_err-hash c =
    let k = c.args.k.now in
    let w = was_err (ltb (length k) limit) (sha256 k) TooLong _ (sym c.sha256.ensures ∙ c.in_err-hash.was) in
    let p = err_from_is_err_and c.from_residual.result c.from_residual.ensures.1 in
    rw (p.1, p.2, w.0) (ap Err (sym w.1))

pub returns : goal.returns
unfolding key_block digest pick
returns c =
    let k = c.args.k.now in
    let w = was_ok (ltb (length k) limit) (sha256 k) _ TooLong (sym c.sha256.ensures ∙ c.in_ok-hash.was) in
    rw (w.0, lt-leb _ 64 c.if-k-le64.false) (ap Ok (c.zero_fill-2.ensures ∙ ap zero_filled (sym w.1)))
