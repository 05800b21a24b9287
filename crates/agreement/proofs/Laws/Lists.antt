-- A list of calls with one call more: its modules, its stations and what was written, by whether the call is of the site and was refused.
use Rattle.std.specs.Prelude.{◌≡◌, Bool, ◌&&◌, List, ◌∷◌, ℕ}
use Rattle.std.proofs.Math.Path.{refl, sym, ap}
use Rattle.std.proofs.Common.{◌∙◌, eqb-true, eq-eqb, ne_eqb}
use Rattle.std.proofs.Math.Bool.{true, false}
use Rattle.std.proofs.Math.Dec.{eqb}
use Rattle.laws.specs.Pick.{pick}
use Rattle.format.specs.Form.{Form}
use Rattle.station.specs.Calls.{Returned}
use Rattle.station.specs.Returns.{unrefused}
use Rattle.agreement.specs.Demand.{Call, site, action, View, starting, going_on, apart, view, Lineage, Found, found, went, modules, answer, openings, lineage, unrefused_at}

pub same_line : (a b : Lineage) → found a ≡ found b → a ≡ b
same_line a b e = cc

module _ (form : Form) where
  -- a call that is of another site, or refused, changes no station of the site
  went_not : (v : View) (r : Returned) (o k : ℕ) (l : Found) → went form v false r o k l ≡ l
  unfolding pick
  went_not (starting q j) r o k l = refl
  went_not (going_on h t ws) r o k l = refl
  went_not apart r o k l = refl

  module _ (mac : List ℕ → List ℕ → List ℕ) (key : List ℕ) (n : ℕ) (c : Call) (cs : List Call) where
    pub module_now : modules form mac key n (c ∷ cs) (site c) ≡ (answer form mac key n cs c).after
    unfolding modules pick
    module_now = rw (eq-eqb (site c) (site c) refl)

    pub module_other : (i : ℕ) → (i ≡ site c → ⊥) → modules form mac key n (c ∷ cs) i ≡ modules form mac key n cs i
    unfolding modules pick
    module_other i ne = rw (ne_eqb (site c) i (λ e. ne (sym e)))

    -- a call that leaves its module as it was changes none
    pub module_same : (answer form mac key n cs c).after ≡ modules form mac key n cs (site c) → (i : ℕ) → modules form mac key n cs i ≡ modules form mac key n (c ∷ cs) i
    unfolding modules pick
    module_same e i = go (eqb (site c) i) refl
      where
        go : (b : Bool) → eqb (site c) i ≡ b → modules form mac key n cs i ≡ pick b (answer form mac key n cs c).after (modules form mac key n cs i)
        go true x = ap (modules form mac key n cs) (sym (eqb-true (site c) i x)) ∙ sym e
        go false x = refl

    lineage_same : (i k : ℕ) → unrefused_at form mac key n cs c i ≡ false → lineage form mac key n (c ∷ cs) i k ≡ lineage form mac key n cs i k
    unfolding lineage
    lineage_same i k e =
        ap (λ (b : Bool). went form (view (action c)) b (answer form mac key n cs c) (openings form mac key n cs i) k (lineage form mac key n cs i k)) e
        ∙ went_not (view (action c)) (answer form mac key n cs c) (openings form mac key n cs i) k (lineage form mac key n cs i k)

    pub lineage_other : (i k : ℕ) → (i ≡ site c → ⊥) → lineage form mac key n (c ∷ cs) i k ≡ lineage form mac key n cs i k
    lineage_other i k ne = lineage_same i k (ap (λ (b : Bool). b && unrefused (answer form mac key n cs c).number) (ne_eqb (site c) i (λ e. ne (sym e))))

    pub lineage_refused : (i k : ℕ) → unrefused (answer form mac key n cs c).number ≡ false → lineage form mac key n (c ∷ cs) i k ≡ lineage form mac key n cs i k
    lineage_refused i k u = lineage_same i k (go (eqb (site c) i) (unrefused (answer form mac key n cs c).number) u)
      where
        go : (a b : Bool) → b ≡ false → (a && b) ≡ false
        go true b e = e
        go false b e = refl
