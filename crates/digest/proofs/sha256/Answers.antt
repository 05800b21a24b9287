-- Each way out is a case of the definition; the three calls are the hash's three steps.
use Rattle.std.proofs.Common.{◌≡◌, ap, zero-add, lt-ltb, le-ltb, Ok}
use Rattle.laws.specs.Pick.{pick}
use Rattle.sha256.specs.Sha256.{digest, limit, sha256}
use Rattle.digest.proofs.sha256.Goals as goal

pub returns-then-m-lt-LIMIT : goal.returns-then-m-lt-LIMIT
unfolding digest pick sha256
returns-then-m-lt-LIMIT c =
    let m = c.args.m.now in
    let d : c.state_bytes.result ≡ sha256 m = rw (c.state_bytes.ensures, c.finish-state.ensures, c.initial_state.ensures, zero-add) in
    rw (lt-ltb _ limit c.if-m-lt-LIMIT.true) (ap Ok d)

pub returns-else-m-lt-LIMIT : goal.returns-else-m-lt-LIMIT
unfolding digest pick
returns-else-m-lt-LIMIT c = rw (le-ltb _ limit c.if-m-lt-LIMIT.false)
