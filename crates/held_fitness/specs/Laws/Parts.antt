-- The test of the held statements, in the parts that the code has, and what one turn of its loop finds.
use Prim.Native.Nat.{ℕ, suc, ◌+◌, ◌-◌, ◌*◌, ◌^◌, ◌≤◌, ◌<◌}
use Rattle.std.proofs.Math.Bool.{Bool, false}
use Rattle.std.specs.Prelude.{true, not, ◌&&◌, List, ◌≡◌, ltb}
use Rattle.std.proofs.Common.{sym, ◌∙◌, add-one}
use Rattle.std.proofs.Math.Path.{ap}
use native.Mathlib.Omega.{arith}
use Rattle.std.specs.Int.Count.{ones}
use Rattle.laws.specs.Pick.{pick, and_pick}
use Rattle.laws.specs.Sets.{bit}
use Rattle.format.specs.Group.{quorum}
use Rattle.format.specs.Present.{statement_words}
use Rattle.station.specs.Fit.{zeros}
use Rattle.station.specs.Present.{sites, slot_fits, slots_fit}

-- a slot is as its bit says
unfoldable pub slot_right : ℕ → ℕ → ℕ → ℕ → List ℕ → ℕ → Bool
slot_right n question step set slots i = pick (bit set i) (slot_fits n question step i slots) (zeros slots (i * statement_words) statement_words)

-- no bit behind the last slot, fewer than q, that of slot i among them, and each slot as its bit says
unfoldable pub held_words_fit : ℕ → ℕ → ℕ → ℕ → ℕ → List ℕ → Bool
held_words_fit n i question step set slots =
    ltb set (2 ^ sites) && ltb (ones set) (quorum n) && bit set i && slots_fit n question step set slots 0 sites

module _ (n question step set : ℕ) (slots : List ℕ) where
  pub slots_turn : (i : ℕ) → i < sites
      → slots_fit n question step set slots i (sites - i) ≡ pick (not (slot_right n question step set slots i)) false (slots_fit n question step set slots (i + 1) (sites - (i + 1)))
  unfolding Rattle.station.specs.Fit.slots_fit slot_right
  slots_turn i h =
      let e : sites - i ≡ suc (sites - (i + 1)) = omega arith in
      let r : Bool = slot_right n question step set slots i in
      rw e
      (and_pick r (slots_fit n question step set slots (suc i) (sites - (i + 1)))
      ∙ ap (λ (j : ℕ). pick (not r) false (slots_fit n question step set slots j (sites - (i + 1)))) (sym (add-one i)))

  pub slots_end : (i : ℕ) → sites ≤ i → true ≡ slots_fit n question step set slots i (sites - i)
  unfolding Rattle.station.specs.Fit.slots_fit
  slots_end i h =
      let e : sites - i ≡ 0 = omega arith in
      rw e
