-- A call takes at least one byte of what is left, and none behind its end (`piece_taken`); what it printed stands in the lent bytes (`lent_enough`).
use Rattle.std.proofs.Common.{ℕ, ◌≡◌, length, sym, ◌∙◌, length-take-le, length-drop, arith}
use Rattle.std.proofs.lemmas.Bool.{eqb-false}
use Rattle.std.proofs.lemmas.List.{length-take}
use Rattle.valley_console.proofs.Theorems.Within.{piece_taken, lent_enough}
use Rattle.valley.proofs.take_piece.Goals as goal

pub slice_bounds-out-end : goal.slice_bounds-out-end
slice_bounds-out-end g c = lent_enough _ _ _ _ _ c.feed-t.ensures.1 c.feed-t.ensures.3

pub slice_bounds-write_all-end : goal.slice_bounds-write_all-end
slice_bounds-write_all-end g c = sym (length-take-le _ _ (lent_enough _ _ _ _ _ c.feed-t.ensures.1 c.feed-t.ensures.3))

pub slice_bounds-rest-count : goal.slice_bounds-rest-count
slice_bounds-rest-count g c = (piece_taken c.loop-rest.rest.now _ _ _ c.feed-t.ensures.0).1

pub slice_bounds-rest-start : goal.slice_bounds-rest-start
slice_bounds-rest-start g c = (piece_taken c.loop-rest.rest.now _ _ _ c.feed-t.ensures.0).1

pub loop-rest-smaller : goal.loop-rest-smaller
loop-rest-smaller g c =
    let some : (length c.loop-rest.rest.now ≡ 0 → ⊥) = eqb-false (length c.loop-rest.rest.now) 0 (sym c.is_empty.ensures ∙ c.loop-rest-test.true) in
    let p = piece_taken c.loop-rest.rest.now _ _ _ c.feed-t.ensures.0 in
    omega (arith, length-take {A = ℕ}, length-drop {A = ℕ}, p.0 (omega (arith, some)), p.1)
