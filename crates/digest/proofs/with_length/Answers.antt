-- The eight bytes that are put in are the number's.
use Rattle.std.proofs.Common.{◌≡◌, length, ◌∙◌, arith, rules}
use Rattle.digest.proofs.Tail.{put64}
use Rattle.digest.proofs.with_length.Goals as goal

pub returns : goal.returns
returns c =
    let a = c.args in
    let long : length a.b ≡ 128 = search rules in
    put64 a.b c.copy_from_slice.new.self a.at a.bits _ (omega arith) (c.copy_from_slice.ensures.after ∙ c.to_be_bytes-eight.ensures) (omega arith)
