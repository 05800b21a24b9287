-- By what the calls answer, field by field.
use Rattle.keeping.specs.Kept.{with_bundle}
use Rattle.keeping.proofs.keep.Goals as goal

pub returns : goal.returns
unfolding with_bundle
returns c =
    rw (c.groups_with.ensures, c.held_with-held.ensures, c.read_fields-f.ensures, c.word_at.ensures)
