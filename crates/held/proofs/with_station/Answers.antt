-- Each way out is a case of the definition; a bit that is clear can be added.
use Prim.Native.Nat.{◌-◌}
use mathlib.Core.Path.{refl, sym, ◌∙◌}
use native.Mathlib.Omega.{arith}
use Rattle.laws.specs.Pick.{here, skip}
use Rattle.laws.specs.Sets.{bit_fits}
use Rattle.held.specs.Scan.{with_station}
use Rattle.held.proofs.Laws.Sets.{is_station, one_bit}
use borrow.Author.Rules.{rules}
use mathlib.Core.Path.{ap}
use mathlib.Core.Bool.{not}
use Rattle.held.proofs.with_station.Goals as goal

pub returns-then-not-s : goal.returns-then-not-s
unfolding with_station
returns-then-not-s c = here _ _ _ (ap not c.if-not-s.true)

pub overflow_sub-i : goal.overflow_sub-i
overflow_sub-i c = (is_station c.args.s (ap not c.if-not-s.false)).0

pub returns-then-in_set : goal.returns-then-in_set
unfolding with_station
returns-then-in_set c = skip _ _ _ _ (ap not c.if-not-s.false) (here _ _ _ (sym c.in_set.ensures ∙ c.if-in_set.true))

pub overflow_shl-result : goal.overflow_shl-result
overflow_shl-result c = let a = c.args in
    omega (arith, is_station a.s (ap not c.if-not-s.false))

pub overflow_add-result : goal.overflow_add-result
overflow_add-result c = let a = c.args in
    let s = is_station a.s (ap not c.if-not-s.false) in
    record { fits = rw (one_bit (a.s - 1) (omega arith)) (bit_fits a.set (a.s - 1) (sym c.in_set.ensures ∙ c.if-in_set.false) 32 (omega arith) (search rules)) }

pub returns : goal.returns
unfolding with_station
returns c = let a = c.args in
    let s = is_station a.s (ap not c.if-not-s.false) in
    rw (one_bit (a.s - 1) (omega arith)) (skip _ _ _ _ (ap not c.if-not-s.false) (skip _ _ _ _ (sym c.in_set.ensures ∙ c.if-in_set.false) refl))
