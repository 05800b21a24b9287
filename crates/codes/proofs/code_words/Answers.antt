-- Each way out is a case of the definition.
use Rattle.std.proofs.Common.{ap, ◌∙◌, Ok, le-leb}
use Rattle.std.proofs.lemmas.Bool.{lt-leb}
use Rattle.laws.specs.Pick.{pick}
use Rattle.hmac.specs.Hmac.{closed, code_from, short_code}
use Rattle.codes.proofs.code_words.Goals as goal

pub returns-then-ws-le13 : goal.returns-then-ws-le13
unfolding short_code code_from pick
returns-then-ws-le13 c =
    rw (le-leb _ 13 c.if-ws-le13.true) (ap Ok (c.close.ensures ∙ ap (closed c.args.key.outer) c.close-inner.ensures))

pub returns-else-ws-le13 : goal.returns-else-ws-le13
unfolding short_code pick
returns-else-ws-le13 c = rw (lt-leb _ 13 c.if-ws-le13.false)
