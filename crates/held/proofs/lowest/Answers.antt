-- The invariant: what was gathered so far are those from here on that are among the k lowest. Each turn is one unfolding of the definition.
use Prim.Native.Nat.{◌-◌, ◌+◌, ◌*◌, ◌%◌, ◌^◌, ◌<◌}
use mathlib.Core.Bool.{◌&&◌}
use mathlib.Core.Path.{◌≡◌, refl, ap, ◌∙◌}
use lib.Count.{ones}
use lib.Dec.{ltb}
use Rattle.laws.specs.Count.{one_if}
use Rattle.laws.specs.Sets.{bit}
use Rattle.station.specs.Present.{sites}
use Rattle.held.specs.Scan.{gathered, lowest}
use Rattle.held.proofs.Laws.Sets.{as_number, gathered_room, gathered_turn, gathered_end}
use Rattle.held.proofs.lowest.Goals as goal
use Rattle.held.proofs.lowest.Goals.{After-from}

pub loop-i-init : goal.loop-i-init
unfolding gathered
loop-i-init c = refl

pub overflow_mul-out : goal.overflow_mul-out
overflow_mul-out c =
    let v = c.loop-i in
    record { fits = gathered_room (λ j. bit c.args.set j && ltb (ones (c.args.set % 2 ^ j)) c.args.k) v.i v.out v.auto.i v.invariant }

-- one turn: what is gathered then, which is a word
turn : (c : After-from) → let v = c.loop-i in (2 * v.out + c.from.result < 2 ^ 32) × (2 * v.out + c.from.result ≡ gathered (λ j. bit c.args.set j && ltb (ones (c.args.set % 2 ^ j)) c.args.k) (v.i - 1) (sites - (v.i - 1)))
turn c =
    let v = c.loop-i in
    gathered_turn (λ j. bit c.args.set j && ltb (ones (c.args.set % 2 ^ j)) c.args.k) v.i v.out c.from.result c.loop-i-test.true v.auto.i v.invariant
    (c.from.ensures ∙ as_number _ ∙ ap one_if (rw (c.number_below.ensures, c.in_set.ensures)))

pub overflow_add-out : goal.overflow_add-out
overflow_add-out c = record { fits = (turn c).0 }

pub loop-i-preserved : goal.loop-i-preserved
loop-i-preserved c = (turn c).1

pub returns : goal.returns
unfolding lowest
returns c =
    let v = c.loop-i in
    v.invariant ∙ gathered_end (λ j. bit c.args.set j && ltb (ones (c.args.set % 2 ^ j)) c.args.k) v.i c.loop-i-test.false
