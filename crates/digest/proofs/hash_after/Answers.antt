-- Each way out is a case of the definition: the sum is below the limit only where both tests hold.
use Rattle.std.proofs.Common.{ap, ◌+◌, ◌*◌, ◌≤◌, length, arith, lt-ltb, le-ltb, Ok}
use Rattle.laws.specs.Pick.{pick}
use Rattle.sha256.specs.Sha256.{hash_after, limit}
use Rattle.digest.proofs.hash_after.Goals as goal
use Rattle.digest.proofs.hash_after.Goals.{else-n-via-then-n+else-m-n, else-n-via-else-n}

pub returns-then-m-n : goal.returns-then-m-n
unfolding hash_after pick
returns-then-m-n c =
    let a = c.args in
    rw (lt-ltb (a.n * 64 + length a.m.now) limit (omega arith)) (ap Ok c.finish.ensures)

pub returns : goal.returns
unfolding hash_after pick
returns c =
    let a = c.args in
    let far : limit ≤ a.n * 64 + length a.m.now = elim c.else-n.branch [ else-n-via-then-n+else-m-n w ↦ omega arith | else-n-via-else-n w ↦ omega arith ] in
    rw (le-ltb (a.n * 64 + length a.m.now) limit far)
