-- The bytes are copied to the front of zeros.
use Rattle.std.proofs.Common.{length, ◌∙◌, arith, take_all, refl}
use Rattle.laws.specs.Fill.{copied}
use Rattle.hmac.specs.Hmac.{zero_filled}
use Rattle.hmac.proofs.zero_fill.Goals as goal

pub returns : goal.returns
unfolding zero_filled
returns c =
    let k = c.args.k.now in
    copied 64 k c.copy_from_slice.new.self (length k) c.copy_from_slice.ensures.after refl ∙ rw (take_all (length k) k (omega arith))
