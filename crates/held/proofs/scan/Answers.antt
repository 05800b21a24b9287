-- The invariant: what was gathered so far is the scan of the slots from here on. Each turn is one unfolding of the definition.
use Prim.Native.Nat.{◌+◌, ◌-◌, ◌*◌, ◌^◌, ◌<◌}
use mathlib.Core.Path.{◌≡◌, refl, ap, ◌∙◌}
use Rattle.laws.specs.Count.{one_if}
use Rattle.station.specs.Present.{sites}
use Rattle.held.specs.Scan.{gathered, such, scan}
use Rattle.held.proofs.Laws.Sets.{as_number, gathered_room, gathered_turn, gathered_end}
use Rattle.held.proofs.Laws.Held.{found, read_such}
use Rattle.held.proofs.scan.Goals as goal
use Rattle.held.proofs.scan.Goals.{After-from}

pub loop-i-init : goal.loop-i-init
unfolding gathered
loop-i-init c = refl

pub overflow_mul-out : goal.overflow_mul-out
overflow_mul-out c =
    let v = c.loop-i in
    record { fits = gathered_room (found (such c.args.value c.args.flag) c.args.set c.args.slots.now) v.i v.out v.auto.i v.invariant }

-- one turn: what is gathered then, which is a word
turn : (c : After-from) → let v = c.loop-i in (2 * v.out + c.from.result < 2 ^ 32) × (2 * v.out + c.from.result ≡ gathered (found (such c.args.value c.args.flag) c.args.set c.args.slots.now) (v.i - 1) (sites - (v.i - 1)))
turn c =
    let v = c.loop-i in
    gathered_turn (found (such c.args.value c.args.flag) c.args.set c.args.slots.now) v.i v.out c.from.result c.loop-i-test.true v.auto.i v.invariant
    (c.from.ensures ∙ as_number _ ∙ ap one_if (rw (
      c.in_set.ensures,
      read_such c.args.value c.args.flag c.args.slots.now (v.i - 1) c.read_fields-f.result c.allows.result c.allows-in-loop-i.result c.read_fields-f.ensures
          c.allows.ensures c.allows-in-loop-i.ensures,
    )))

pub overflow_add-out : goal.overflow_add-out
overflow_add-out c = record { fits = (turn c).0 }

pub loop-i-preserved : goal.loop-i-preserved
loop-i-preserved c = (turn c).1

pub returns : goal.returns
unfolding scan
returns c =
    let v = c.loop-i in
    v.invariant ∙ gathered_end (found (such c.args.value c.args.flag) c.args.set c.args.slots.now) v.i c.loop-i-test.false
