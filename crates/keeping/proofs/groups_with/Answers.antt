-- By what the calls answer, each group by itself.
use Rattle.keeping.specs.Kept.{groups_with}
use Rattle.keeping.proofs.groups_with.Goals as goal

pub returns : goal.returns
unfolding groups_with
returns c =
    rw (
      c.group_after.ensures,
      c.group_after-2.ensures,
      c.is_lowest-for_value.ensures,
      c.is_lowest-for_none.ensures,
      c.for_value.ensures,
      c.for_none.ensures,
      c.quorum-q.ensures,
    )
