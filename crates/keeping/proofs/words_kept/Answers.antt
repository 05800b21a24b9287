-- The smaller of two numbers is the definition's, twice.
use Rattle.std.proofs.Common.{◌∙◌, arith}
use Rattle.keeping.specs.Kept.{words_kept}
use Rattle.keeping.proofs.Laws.Turns.{kept_room, min_least}
use Rattle.keeping.proofs.words_kept.Goals as goal

pub returns-clause-value : goal.returns-clause-value
unfolding words_kept
returns-clause-value c =
    c.min-2.ensures ∙ rw (c.min.ensures, c.saturating_sub.ensures, min_least, min_least)

pub returns-clause-few : goal.returns-clause-few
returns-clause-few c = omega (arith, kept_room c.args.q c.args.have, returns-clause-value c)

pub returns-clause-there : goal.returns-clause-there
returns-clause-there c = omega (arith, kept_room c.args.q c.args.have, returns-clause-value c)
