-- What is left is copied to the front of zeros, and the mark is put in after it.
use Rattle.std.proofs.Common.{◌≡◌, ◌-◌, ℕ, length, drop, ◌∙◌, arith, length-drop, take_all}
use Rattle.laws.specs.Fill.{copied, marked}
use Rattle.digest.proofs.rest.Goals as goal

pub returns : goal.returns
returns c =
    let s = c.args.s.now in
    let d = drop c.args.from s in
    let n : ℕ = length s - c.args.from in
    let long : length d ≡ n = length-drop c.args.from s in
    marked 128 d _ n n 128 long (omega arith) (omega arith) (omega arith) (copied 128 d c.copy_from_slice.new.self n (c.copy_from_slice.ensures.after ∙ take_all n d (omega arith)) long)
