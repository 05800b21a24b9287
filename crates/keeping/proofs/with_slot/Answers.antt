-- Each way out is a case of the definition.
use Rattle.std.proofs.Common.{ℕ, ◌+◌, ◌-◌, ◌≡◌, List, arith, length, take, drop, drop-drop, append_assoc, sym}
use Rattle.std.proofs.Math.Seq.{paste}
use borrow.Rule.Slice.PartMut.{put_mid}
use Rattle.format.specs.Present.{place_of, statement_words}
use Rattle.laws.specs.Pick.{here, skip}
use Rattle.keeping.specs.Kept.{with_slot}
use Rattle.keeping.proofs.Laws.Turns.{has_main}
use mathlib.Core.Path.{ap}
use mathlib.Core.Bool.{not}
use Rattle.keeping.proofs.with_slot.Goals as goal

-- the ten words copied over a slot
main_put : (slots ws ys : List ℕ) (at : ℕ) → ys ≡ take statement_words (drop (place_of 0) ws)
    → put_mid at (at + statement_words - at) slots ys ≡ paste slots at (drop (place_of 0) ws) statement_words
main_put slots ws ys at y =
    let ten : at + statement_words - at ≡ statement_words = omega arith in
    rw (ten, y, drop-drop statement_words at slots) (sym (append_assoc (take at slots) (take statement_words (drop (place_of 0) ws)) (drop (at + statement_words) slots)))

pub returns-then-not-s-ws : goal.returns-then-not-s-ws
unfolding with_slot
returns-then-not-s-ws c = here _ _ _ (ap not c.if-not-s-ws.true)

pub overflow_sub-at : goal.overflow_sub-at
overflow_sub-at c = (has_main c.args.s (length c.args.ws.now) (ap not c.if-not-s-ws.false)).0

pub overflow_mul-at : goal.overflow_mul-at
overflow_mul-at c = omega (arith, has_main c.args.s (length c.args.ws.now) (ap not c.if-not-s-ws.false))

pub returns : goal.returns
unfolding with_slot
returns c = skip _ _ _ _ (ap not c.if-not-s-ws.false) (main_put c.args.slots c.args.ws.now _ _ c.copy_from_slice.ensures.after)
