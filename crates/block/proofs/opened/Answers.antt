-- The first sixteen words are the copied ones.
use Rattle.std.proofs.Common.{◌≡◌, length, take_at, rules, ◌∙◌}
use Rattle.block.proofs.opened.Goals as goal

pub returns : goal.returns
returns c =
    let n : length c.copy_from_slice.new.self ≡ 16 = search rules in
    take_at c.copy_from_slice.new.self _ 16 n ∙ c.copy_from_slice.ensures.after
