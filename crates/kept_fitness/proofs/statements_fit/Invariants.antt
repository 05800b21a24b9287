-- The invariant: the statements from here on, above the last station, decide the whole. Each turn is one unfolding of the definition.
use Rattle.std.proofs.Common.{◌≡◌, ◌&&◌}
use Rattle.format.specs.Present.{statements, all_formed}
use Rattle.rules.specs.Test.{holds}
use Rattle.kept_fitness.proofs.Laws.Groups.{asked, fit_from}
use Rattle.kept_fitness.proofs.statements_fit.Given as goal

abbrev pub invariant-loop-i : goal.invariant-loop-i
invariant-loop-i l =
    (holds l.g (statements l.ws 0 l.g.size) && all_formed l.n l.ws 0 l.g.size && asked l.ws l.g.size l.question (statements l.ws 0 l.g.size))
    ≡ fit_from l.ws l.g.size l.g l.n l.question l.last l.i
