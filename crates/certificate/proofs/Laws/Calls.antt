-- What the parts of the walk's code give, taken to the walk's definitions.
use Prim.Native.Nat.{ℕ, suc, ◌+◌, ◌-◌, ◌*◌, ◌/◌, ◌≤◌, ◌<◌}
use Rattle.std.specs.Prelude.{Bool, not, ◌&&◌, ◌||◌, List, ◌≡◌, eqb, ltb, length}
use Rattle.std.proofs.Math.Bool.{true, false}
use Rattle.std.proofs.Math.Path.{refl, ap}
use Rattle.std.proofs.Common.{sym, ◌∙◌}
use native.Mathlib.Omega.{arith}
use borrow.Author.Tests.{ltb-false}
use Rattle.laws.specs.Pick.{pick}
use Rattle.laws.specs.Bools.{never}
use Rattle.laws.specs.Least.{least, least_fits}
use Rattle.format.specs.declared.Fields.{Fields}
use Rattle.format.specs.Present.{statement_words, place_of, formed, statement, words_at, fields_at}
use Rattle.rules.specs.declared.Group.{Group}
use Rattle.rules.specs.Test.{first_group, second_group}
use Rattle.walk.specs.declared.Findings.{Findings}
use Rattle.walk.specs.Walk.{noted, turned, walked, first_size, between, through, answer}
use Rattle.glance.specs.Glance.{glanced, left}
use Rattle.glance.proofs.Theorems.Behind.{glance_behind, behind_fault}
use Rattle.certificate.proofs.Laws.Read.{fields_read, statement_read}
use Rattle.walk.proofs.Laws.Turns.{onward}

module _ (code : List ℕ → List ℕ) (n : ℕ) (g : Group) (question : ℕ) (ws : List ℕ) where
  turn_read : (f : Findings) (t : List ℕ) → t ≡ words_at ws (place_of f.place)
      → noted code g question (f.place + 1) f (not (formed n (fields_at t 0))) (statement t 0) ≡ turned code n g question ws f
  turn_read f t e =
      let at : ℕ = place_of f.place in
      rw (e, fields_read ws at, statement_read ws at)

  -- a turn of the loop
  pub group_turn : (f next : Findings) (t : List ℕ) (end : ℕ) → f.place < end → f.malformed ≡ false → t ≡ words_at ws (place_of f.place)
      → next ≡ noted code g question (f.place + 1) f (not (formed n (fields_at t 0))) (statement t 0)
      → (next.place ≡ f.place + 1) × (walked code n g question ws f (end - f.place) ≡ walked code n g question ws next (end - next.place))
  unfolding noted
  group_turn f next t end h m e p =
      let q : next ≡ turned code n g question ws f = p ∙ turn_read f t e in
      let s : end - f.place ≡ suc (end - (f.place + 1)) = omega arith in
      (ap (λ (r : Findings). r.place) q, rw (q, s) (onward code n g question ws f (end - (f.place + 1)) m))

-- the second group that a main statement with these fields asks for
abbrev pub second : ℕ → Fields → Group
second n m = second_group n m.value m.round.0

-- what is to come behind x: in the first part what is between the groups and the second, in the second nothing
unfoldable pub finished : (List ℕ → List ℕ) → ℕ → Fields → ℕ → List ℕ → ℕ → ℕ → ℕ → Bool → Findings → Findings
finished code n m question ws count size have first x =
    pick first (walked code n (second n m) question ws (between m (eqb have size) (count - have) (second n m) x) (count - have)) x

-- a fault before the certificate
pub through_behind : (code : List ℕ → List ℕ) (n : ℕ) (m : Fields) (question : ℕ) (ws : List ℕ) (count : ℕ) (from : Findings) → from.place ≡ 1 → (from.malformed || from.other || from.wrong) ≡ true
    → answer (glanced n question ws from (1 + count - from.place)) ≡ answer (through code n m question ws count from)
unfolding through
through_behind code n m question ws count from p fault =
    let one : Group = first_group n m.kind m.value m.flag m.round.0 in
    let a : ℕ = least (first_size m one) count in
    let z : 1 + count - from.place ≡ a + (count - a) = omega (arith, p, least_fits (first_size m one) count) in
    rw z (sym (behind_fault code n one (second n m) question ws m (eqb a (first_size m one)) (count - a) from a (count - a) fault))

module _ (code : List ℕ → List ℕ) (n : ℕ) (m : Fields) (question : ℕ) (ws : List ℕ) (count size have : ℕ) where
  pub through_start : (from : Findings) (one : Group) → from.place ≡ 1 → one ≡ first_group n m.kind m.value m.flag m.round.0
      → size ≡ first_size m one → have ≡ least size count
      → through code n m question ws count from ≡ finished code n m question ws count size have true (walked code n one question ws from (1 + have - from.place))
  unfolding through finished pick
  through_start from one p a b c =
      let e : 1 + have - from.place ≡ have = omega (arith, p) in
      rw (e, c, b, a)

  -- the border: what is to come behind the first part is the second
  pub border_turn : (f border : Findings) (g two : Group) (end : ℕ) → end ≤ f.place → f.place ≤ end → end ≡ 1 + have → have ≤ count
      → two ≡ second n m → border ≡ between m (eqb have size) (count - have) two f
      → (border.place ≡ f.place) × (finished code n m question ws count size have true (walked code n g question ws f (end - f.place)) ≡ finished code n m question ws count size have false (walked code n two question ws border (1 + count - border.place)))
  unfolding between finished walked pick
  border_turn f border g two end low high e room t b =
      let place : border.place ≡ f.place = ap (λ (r : Findings). r.place) b in
      let none : end - f.place ≡ 0 = omega (arith, low) in
      let z : 1 + count - border.place ≡ count - have = omega (arith, place, low, high, e, room) in
      (place, rw (none, z, ← t, ← b))

  -- the loop has ended behind a fault, or behind the last statement
  pub loop_end : (g : Group) (f : Findings) (end : ℕ) (first : Bool) → f.place ≤ end → have ≤ count → (first ≡ true → end ≡ 1 + have) → (first ≡ false → end ≡ 1 + count)
      → (not (f.malformed || f.other || f.wrong) && (first || ltb f.place end)) ≡ false
      → answer (glanced n question ws f (1 + count - f.place)) ≡ answer (finished code n m question ws count size have first (walked code n g question ws f (end - f.place)))
  unfolding finished glanced walked pick
  loop_end g f end first low room one last h = go first (f.malformed || f.other || f.wrong) refl refl
    where
      go : (s t : Bool) → first ≡ s → (f.malformed || f.other || f.wrong) ≡ t
          → answer (glanced n question ws f (1 + count - f.place)) ≡ answer (pick s (walked code n (second n m) question ws (between m (eqb have size) (count - have) (second n m) (walked code n g question ws f (end - f.place))) (count - have)) (walked code n g question ws f (end - f.place)))
      go true true p fault =
          let z : 1 + count - f.place ≡ (end - f.place) + (count - have) = omega (arith, low, room, one p) in
          rw z (sym (behind_fault code n g (second n m) question ws m (eqb have size) (count - have) f (end - f.place) (count - have) fault))
      go false true p fault = rw (← last p) (ap answer (glance_behind code n g question ws f (end - f.place) fault))
      go true false p clean = never true (rw (p, clean) at h) refl
      go false false p clean =
          let over : end ≤ f.place = ltb-false f.place end (rw (p, clean) at h) in
          let z : end - f.place ≡ 0 = omega (arith, over) in
          rw (← last p, z)

-- as many statements are left in the words as the count says
pub glance_counted : (n question : ℕ) (ws : List ℕ) (count : ℕ) (f : Findings) → length ws ≡ place_of (1 + count)
    → answer (glanced n question ws f (left ws f.place)) ≡ answer (glanced n question ws f (1 + count - f.place))
unfolding left
glance_counted n question ws count f h =
    let k : (length ws - (1 + f.place * statement_words)) / statement_words ≡ 1 + count - f.place = omega (arith, h) in
    rw k
