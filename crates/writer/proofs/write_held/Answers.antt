-- In each turn the front holds the words of the set's slots so far; a slot is written behind them into the rest that is lent.
use Prim.Native.Nat.{ℕ, ◌+◌, ◌*◌, ◌≤◌}
use mathlib.Core.Path.{◌≡◌, refl, sym, ap, ◌∙◌}
use mathlib.Core.List.{List, ◌++◌}
use native.Mathlib.Omega.{arith}
use lib.ListN.{length}
use mathlib.Core.Bool.{true, false}
use Rattle.laws.specs.Pick.{via}
use Rattle.laws.specs.Sets.{bit}
use Rattle.laws.specs.Over.{over}
use Rattle.laws.proofs.Over.{length_over}
use Rattle.writer.specs.Written.{segment, held_words}
use Rattle.writer.proofs.Laws.Writing.{held_begin, held_in_turn, held_out_turn, held_longer, length_part, part_read, part_put}
use borrow.Author.Rules.{rules}
use Rattle.writer.proofs.write_held.Goals as goal
use Rattle.writer.proofs.write_held.Goals.{then-in_set, else-in_set}

pub loop-i-init : goal.loop-i-init
loop-i-init c =
    let a = c.args in
    let b = held_begin a.set a.slots.now a.out.now in
    (search rules, b.0, refl, b.1)

pub loop-i-preserved : goal.loop-i-preserved
loop-i-preserved c =
    let v = c.loop-i in
    let a = c.args in
    let l = a.slots.now in
    elim c.if-in_set.branch [
      | then-in_set w ↦
          (let e : bit a.set v.i ≡ true = via c.in_set.result _ true c.in_set.ensures w.if-in_set.true in
          let h : held_words a.set l 0 (v.i + 1) ≡ held_words a.set l 0 v.i ++ segment 10 (v.i * 10) l = held_in_turn a.set l v.i e in
          let n : v.at + 10 ≡ length (held_words a.set l 0 (v.i + 1)) = held_longer a.set l v.i v.at e v.invariant.1 in
          let room : length (held_words a.set l 0 (v.i + 1)) ≤ length a.out.now = omega (arith, n) in
          let o : c.if-in_set.out ≡ over (held_words a.set l 0 (v.i + 1)) a.out.now =
          w.out-is
          ∙ part_put (held_words a.set l 0 v.i) (segment 10 (v.i * 10) l) a.out.now v.out _ v.at 10 v.invariant.3 (sym v.invariant.1)
          (part_read 10 (v.i * 10) l _ (omega arith) w.copy_from_slice.ensures.after) (length_part 10 (v.i * 10) l)
          ∙ ap (λ (x : List ℕ). over x a.out.now) (sym h) in
          (omega arith, w.at-is ∙ n, ap length o ∙ length_over (held_words a.set l 0 (v.i + 1)) a.out.now room, o))
      | else-in_set w ↦
          (let e : bit a.set v.i ≡ false = via c.in_set.result _ false c.in_set.ensures w.if-in_set.false in
          let h : held_words a.set l 0 (v.i + 1) ≡ held_words a.set l 0 v.i = held_out_turn a.set l v.i e in
          (omega arith, rw h (w.at-is ∙ v.invariant.1), ap length w.out-is ∙ v.invariant.2, rw h (w.out-is ∙ v.invariant.3)))
    ]

pub returns : goal.returns
returns c =
    let v = c.loop-i in
    let e : v.i ≡ 31 = omega arith in
    v.invariant.3 ∙ rw e
