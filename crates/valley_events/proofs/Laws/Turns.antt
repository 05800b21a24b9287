-- Laws that join the parts of a turn.
use Rattle.std.specs.Prelude.{ℕ, ◌≤◌, ◌<◌, Bool, true, false, not, ◌&&◌, List, [], Option, Some, None, ◌≡◌, refl, ltb, leb}
use Rattle.std.proofs.Common.{sym, ap, ◌∙◌, subst, arith, lt-ltb, le-ltb, le-leb, leb-true}
use Rattle.std.proofs.lemmas.Bool.{lt-leb, not-true, not-false}
use Rattle.laws.specs.Pick.{pick}
use Rattle.valley_lines.specs.declared.Line.{Line}
use Rattle.valley_lines.specs.declared.Line.TheVariants.{Group, Open, Give}
use Rattle.laws.specs.Bools.{both, is_false}
use Rattle.station.specs.Calls.{Returned}
use Rattle.valley_world.specs.declared.Phase.{Phase}
use Rattle.valley_world.specs.declared.World.{World}
use Rattle.valley_world.specs.declared.Phase.TheVariants.{Running}
use Rattle.valley_world.specs.Valley.{Turn, group_of, least_n, most_n, most_bundles, after, after_opening, bad, told, event, is_open, is_written, first_turn, later_turn, gives}
use Rattle.valley_world.specs.Group.{moved}
use Rattle.valley_events.specs.Turns.{Printed, Turned, with_bundle}

-- ---- printing
pub nothing : (before : List ℕ) → Printed [] 0 before before
nothing before = record { count_is = refl; lent_is = refl }

-- what was shown of a turn, by another name for the turn
pub turned_as : {t : Turn} {u : Turn} {phase : Phase} {world : World} {count : ℕ} {before : List ℕ} {lent : List ℕ} → t ≡ u
    → Turned t phase world count before lent → Turned u phase world count before lent
turned_as {phase = phase} {world = world} {count = count} {before = before} {lent = lent} e h =
    subst (λ (x : Turn). Turned x phase world count before lent) e h

-- ---- the turns
-- a group of a size that is not allowed, and a line that names no group
pub no_size : (w : World) (number n : ℕ) → (least_n ≤ n → n ≤ most_n → ⊥) → bad w number ≡ first_turn w number (Some (Group n))
unfolding first_turn pick
no_size w number n h = rw (is_false (leb least_n n && leb n most_n) (λ e.
    let p = both (leb least_n n) (leb n most_n) e in
    h (leb-true least_n n p.0) (leb-true n most_n p.1)))

pub no_group : (w : World) (number : ℕ) (l : Option Line) → ((n : ℕ) → l ≡ Some (Group n) → ⊥) → bad w number ≡ first_turn w number l
unfolding first_turn
no_group w number (Some (Group n)) h = absurd (h n refl)
no_group w number (Some (Open s v)) h = refl
no_group w number (Some (Give s k c)) h = refl
no_group w number None h = refl

pub group_turned : (w g : World) (number n : ℕ) (before : List ℕ) → (least_n ≤ n) × (n ≤ most_n) → g ≡ group_of n
    → Turned (first_turn w number (Some (Group n))) Running g 0 before before
unfolding first_turn pick
group_turned w g number n before h g_is =
    rw (le-leb least_n n h.0, le-leb n most_n h.1) (record { phase_is = refl; world_is = g_is; prints = nothing before })

-- a line that is no event
pub no_event : (w : World) (number : ℕ) (l : Option Line) → ((s v : ℕ) → l ≡ Some (Open s v) → ⊥) → ((s k coin : ℕ) → l ≡ Some (Give s k coin) → ⊥)
    → bad w number ≡ later_turn w number l
unfolding later_turn
no_event w number (Some (Group n)) h g = refl
no_event w number (Some (Open s v)) h g = absurd (h s v refl)
no_event w number (Some (Give s k coin)) h g = absurd (g s k coin refl)
no_event w number None h g = refl

-- a call that writes nothing; one that would make bundle 41; one that makes a bundle
quiet : (w u : World) (number s : ℕ) (r : Returned) → r.count ≡ 0 → told u number s r.number ≡ event w number s r u
unfolding event pick
quiet w u number s r e = rw (le-ltb 0 r.count (omega arith))

quiet_after : (w : World) (s : ℕ) (r : Returned) → r.count ≡ 0 → moved w s r.station r.after ≡ after w s r
unfolding after pick
quiet_after w s r e = rw (le-ltb 0 r.count (omega arith))

pub quiet_event : (w u : World) (number s : ℕ) (r : Returned) → r.count ≡ 0 → u ≡ moved w s r.station r.after
    → told u number s r.number ≡ event w number s r (after w s r)
quiet_event w u number s r e u_is =
    ap (λ (x : World). told x number s r.number) (u_is ∙ quiet_after w s r e) ∙ quiet w (after w s r) number s r e

pub full_event : (w u : World) (number s : ℕ) (r : Returned) → (r.count ≡ 0 → ⊥) → most_bundles ≤ w.written
    → bad w number ≡ event w number s r u
unfolding event pick
full_event w u number s r e h =
    let p : 0 < r.count = omega (arith, e) in
    rw (lt-ltb 0 r.count p, le-leb most_bundles w.written h)

bundle_after : (w : World) (s : ℕ) (r : Returned) → ltb 0 r.count ≡ true
    → with_bundle (moved w s r.station r.after) r.count r.lent ≡ after w s r
unfolding after pick
bundle_after w s r e = rw e

not_full : (w u : World) (number s : ℕ) (r : Returned) → ltb 0 r.count ≡ true → w.written < most_bundles
    → told u number s r.number ≡ event w number s r u
unfolding event pick
not_full w u number s r e h = rw (e, lt-leb most_bundles w.written h)

pub bundle_event : (w u v : World) (number s : ℕ) (r : Returned) → (r.count ≡ 0 → ⊥) → w.written < most_bundles
    → u ≡ moved w s r.station r.after → v ≡ with_bundle u r.count r.lent
    → told v number s r.number ≡ event w number s r (after w s r)
bundle_event w u v number s r e h u_is v_is =
    let p : 0 < r.count = omega (arith, e) in
    let q : ltb 0 r.count ≡ true = lt-ltb 0 r.count p in
    let a : v ≡ after w s r = v_is ∙ ap (λ (x : World). with_bundle x r.count r.lent) u_is ∙ bundle_after w s r q in
    ap (λ (x : World). told x number s r.number) a ∙ not_full w (after w s r) number s r q h

-- an opening that was refused leaves the group as it was
pub refused_opening : (w : World) (number s : ℕ) (r : Returned) → r.count ≤ 0
    → told w number s r.number ≡ event w number s r (after_opening w s r)
unfolding after_opening pick
refused_opening w number s r h = rw (le-ltb 0 r.count h) (quiet w w number s r (omega arith))

pub done_opening : (w : World) (number s : ℕ) (r : Returned) → 0 < r.count
    → event w number s r (after w s r) ≡ event w number s r (after_opening w s r)
unfolding after_opening pick
done_opening w number s r h = rw (lt-ltb 0 r.count h)

-- what a giving names is open and written, or not
pub not_named : (w : World) (number s k coin : ℕ) (o b : Bool) → o ≡ is_open w s → b ≡ is_written w k → not (o && b) ≡ true
    → bad w number ≡ later_turn w number (Some (Give s k coin))
unfolding later_turn pick
not_named w number s k coin o b o_is b_is h =
    let e : (is_open w s && is_written w k) ≡ false = sym (λ i. o_is i && b_is i) ∙ not-true (o && b) h in
    rw e

pub named : (w : World) (number s k coin : ℕ) (o b : Bool) → o ≡ is_open w s → b ≡ is_written w k → not (o && b) ≡ false
    → event w number s (gives w s k coin) (after w s (gives w s k coin)) ≡ later_turn w number (Some (Give s k coin))
unfolding later_turn pick
named w number s k coin o b o_is b_is h =
    let e : (is_open w s && is_written w k) ≡ true = sym (λ i. o_is i && b_is i) ∙ not-false (o && b) h in
    rw e
