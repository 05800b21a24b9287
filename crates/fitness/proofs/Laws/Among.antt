-- Where every slot is as its bit says, a station is among those held exactly if its bit is set.
use Prim.Native.Nat.{ℕ, zero, suc, ◌+◌, ◌-◌, ◌*◌, ◌≤◌, ◌<◌}
use Rattle.std.specs.Prelude.{Bool, ◌&&◌, List, ◌∷◌, ◌≡◌, get_or}
use Rattle.std.proofs.Math.Bool.{true, false}
use Rattle.std.proofs.Math.Path.{refl, sym, ap}
use Rattle.std.proofs.Common.{◌∙◌, add-one, arith}
use Rattle.std.proofs.Math.Dec.{eqb}
use borrow.Author.Tests.{eqb-true, eqb-false, eq-eqb, ne_eqb}
use Rattle.laws.specs.Pick.{pick}
use Rattle.laws.specs.Bools.{both}
use Rattle.laws.specs.Sets.{bit}
use Rattle.format.specs.Words.{fields_of, station_of}
use Rattle.format.specs.Lists.{some}
use Rattle.format.specs.Present.{most_stations, statement_words, formed, statement}
use Rattle.station.specs.Machine.{held_of}
use Rattle.station.specs.Fit.{zeros}
use Rattle.station.specs.Present.{sites, held_in, slot_fits, slots_fit}

module _ (n question step set : ℕ) (slots : List ℕ) where
  own_slot : (i : ℕ) → slot_fits n question step i slots ≡ true → (statement slots (i * statement_words)).station ≡ suc i
  own_slot i h =
      let w = get_or slots (i * statement_words) 0 in
      let a = both (formed n (fields_of w) && eqb (station_of w) (i + 1) && eqb (get_or slots (i * statement_words + 1) 0) question) _ h in
      let b = both (formed n (fields_of w) && eqb (station_of w) (i + 1)) _ a.0 in
      eqb-true _ _ (both (formed n (fields_of w)) _ b.0).1 ∙ add-one i

  below_slots : (k i j : ℕ) → slots_fit n question step set slots i k ≡ true → j < i → held_of (suc j) (held_in set slots i k) ≡ false
  unfolding Rattle.station.specs.Fit.slots_fit Rattle.station.specs.Words.held_in pick some
  below_slots zero i j h l = refl
  below_slots (suc k) i j h l =
      let a = both (pick (bit set i) (slot_fits n question step i slots) (zeros slots (i * statement_words) statement_words)) _ h in
      go (bit set i) a.0 (below_slots k (suc i) j a.1 (omega arith))
    where
      go : (b : Bool) → pick b (slot_fits n question step i slots) (zeros slots (i * statement_words) statement_words) ≡ true → held_of (suc j) (held_in set slots (suc i) k) ≡ false
          → held_of (suc j) (pick b (statement slots (i * statement_words) ∷ held_in set slots (suc i) k) (held_in set slots (suc i) k)) ≡ false
      go true f ih = rw (ne_eqb (statement slots (i * statement_words)).station (suc j) (λ z. omega (arith, own_slot i f))) ih
      go false f ih = ih

  among : (k i j : ℕ) → slots_fit n question step set slots i k ≡ true → i ≤ j → j < i + k → bit set j ≡ held_of (suc j) (held_in set slots i k)
  unfolding Rattle.station.specs.Fit.slots_fit Rattle.station.specs.Words.held_in pick some
  among zero i j h lo hi = absurd (omega arith)
  among (suc k) i j h lo hi =
      let a = both (pick (bit set i) (slot_fits n question step i slots) (zeros slots (i * statement_words) statement_words)) _ h in
      go (bit set i) refl (eqb j i) refl a.0 (below_slots k (suc i) j a.1) (λ z. among k (suc i) j a.1 z (omega arith))
    where
      go : (b : Bool) → bit set i ≡ b → (c : Bool) → eqb j i ≡ c → pick b (slot_fits n question step i slots) (zeros slots (i * statement_words) statement_words) ≡ true
          → (j < suc i → held_of (suc j) (held_in set slots (suc i) k) ≡ false) → (suc i ≤ j → bit set j ≡ held_of (suc j) (held_in set slots (suc i) k))
          → bit set j ≡ held_of (suc j) (pick b (statement slots (i * statement_words) ∷ held_in set slots (suc i) k) (held_in set slots (suc i) k))
      go true x true y f under ih =
          let z : j ≡ i = eqb-true j i y in
          rw (eq-eqb (statement slots (i * statement_words)).station (suc j) (own_slot i f ∙ ap suc (sym z))) (ap (bit set) z ∙ x)
      go true x false y f under ih =
          rw (ne_eqb (statement slots (i * statement_words)).station (suc j) (λ z. omega (arith, own_slot i f, eqb-false j i y))) (ih (omega (arith, eqb-false j i y)))
      go false x true y f under ih = let z : j ≡ i = eqb-true j i y in ap (bit set) z ∙ x ∙ sym (under (omega arith))
      go false x false y f under ih = ih (omega (arith, eqb-false j i y))

  pub bit_is_held : (station : ℕ) → slots_fit n question step set slots 0 sites ≡ true → 1 ≤ station → station ≤ most_stations
      → bit set (station - 1) ≡ held_of station (held_in set slots 0 sites)
  bit_is_held station h lo hi =
      let e : suc (station - 1) ≡ station = omega arith in
      among sites 0 (station - 1) h (omega arith) (omega arith) ∙ ap (λ (k : ℕ). held_of k (held_in set slots 0 sites)) e
