-- Where the scan finds a station that supplies the group, the value is that of the lowest-numbered, in the slot of the lowest bit.
use Prim.Native.Nat.{◌<◌}
use native.Mathlib.Omega.{arith}
use Rattle.station.specs.Present.{sites}
use Rattle.kept_fitness.specs.Laws.Parts.{for_value_slot, for_value_found, for_value_missing}
use Rattle.kept_fitness.proofs.kept_for_value.Goals as goal
use Rattle.kept_fitness.proofs.kept_for_value.Goals.{After-first_of-i}

pub returns-then-found-eq0 : goal.returns-then-found-eq0
returns-then-found-eq0 c =
    let a = c.args in
    let s = c.for_value-found in
    for_value_missing a.n a.stage a.held.now.heard a.held.now.slots s.result c.no_group.result s.ensures c.if-found-eq0.true c.no_group.ensures

-- there is a slot of that number
slot : (c : After-first_of-i) → c.first_of-i.result < sites
slot c =
    let a = c.args in
    rw c.first_of-i.ensures (for_value_slot a.stage a.held.now.heard a.held.now.slots c.for_value-found.result c.for_value-found.ensures c.if-found-eq0.false)

pub overflow_cast-i : goal.overflow_cast-i
overflow_cast-i c = record { fits = omega (arith, slot c) }

pub overflow_mul-i : goal.overflow_mul-i
overflow_mul-i c = record { fits = omega (arith, slot c) }

pub offset_bounds-held-i : goal.offset_bounds-held-i
offset_bounds-held-i c = record { fits = omega (arith, slot c) }

pub bounds-held-i : goal.bounds-held-i
bounds-held-i c = omega (arith, slot (goal.at.bounds-held-i c).After-first_of-i)

pub returns : goal.returns
returns c =
    let a = c.args in
    let s = c.for_value-found in
    for_value_found a.n a.stage a.held.now.heard a.held.now.slots s.result c.value_group.result s.ensures c.read_fields-f.result c.if-found-eq0.false (rw c.first_of-i.ensures at c.read_fields-f.ensures)
    c.value_group.ensures
