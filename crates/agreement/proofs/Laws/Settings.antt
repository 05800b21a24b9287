-- A sound site's station that jumps was opened with jump on: where each opening on a question brought 0, no station of the site on it jumps.
use Rattle.std.specs.Prelude.{◌≡◌, refl, Bool, false, ◌&&◌, ℕ}
use Rattle.std.proofs.Common.{sym, ◌∙◌, ap, subst, arith}
use Rattle.std.proofs.Math.Bool.{true}
use mathlib.Core.List.{List, [], ◌∷◌}
use Rattle.std.proofs.Math.Dec.{eqb}
use borrow.Author.Tests.{eqb-true}
use Rattle.laws.specs.Pick.{pick}
use Rattle.laws.specs.Bools.{never, both}
use Rattle.format.specs.Form.{Form}
use Rattle.modules.specs.declared.Module.{Module}
use Rattle.station.specs.declared.Station.{Station}
use Rattle.station.specs.Machine.{Outcome}
use Rattle.station.specs.Words as W
use Rattle.station.specs.Calls.{Returned, returned, opening, opening_outcome, no_station}
use Rattle.station.specs.Returns.{unrefused}
use Rattle.station.proofs.Theorems.Jump.{setting_kept}
use Rattle.station.proofs.Laws.Views.{Opens, no_opening, begins, opens_view}
use Rattle.agreement.proofs.Laws.Lists.{same_line}
use Rattle.agreement.specs.Demand.{opens, gives, codes, tosses, Call, call, Lineage, Found, nothing, found, started, gave, act, modules, answer, openings, lineage, Presents, Sound, JumpOff, Given}

-- a choice of two histories, by a test
chosen : (b : Bool) (x y : Found) (line : Lineage) {A : Type 0} → (b ≡ true → x ≡ found line → A) → (y ≡ found line → A) → pick b x y ≡ found line → A
unfolding pick
chosen true x y line f g e = f refl e
chosen false x y line f g e = g e

none_found : {A : Type 0} (line : Lineage) → nothing ≡ found line → A
none_found line e = absurd (let z : ◌≡◌ {A = ℕ} 0 1 = cc in omega arith)

module _ (form : Form) where
  -- an opening that is not refused returns a station on its question, which jumps if the setting is 1
  opening_setting : (mac : List ℕ → List ℕ → List ℕ) (m : Module) (q v jump : ℕ) (out : List ℕ) → unrefused (opening form mac m q v jump out).number ≡ true
      → ((opening form mac m q v jump out).station.identity.question ≡ q) × ((opening form mac m q v jump out).station.lasting.jump ≡ true → jump ≡ 1)
  unfolding opening returned W.as_station
  opening_setting mac m q v jump out = go (opening_outcome form mac m q v jump out) (opens_view form mac m q v jump out)
    where
      go : (o : Outcome) → Opens form mac m q v jump out o → unrefused (returned form m (no_station form) out o).number ≡ true
          → ((returned form m (no_station form) out o).station.identity.question ≡ q) × ((returned form m (no_station form) out o).station.lasting.jump ≡ true → jump ≡ 1)
      go _ (no_opening {k} w) u = never (unrefused k) w u
      go _ (begins room r p a) u = (refl, λ j. eqb-true jump 1 j)

  -- what a giving leaves of a history is the station that it returned
  gave_is : (r : Returned) (ws : List ℕ) (f : Found) (line : Lineage) → gave form r ws f ≡ found line → line.present ≡ r.station
  gave_is r ws nothing line e = none_found line e
  gave_is r ws (found l) line e = sym (ap (λ (x : Lineage). x.present) (same_line _ line e))

  module _ (mac : List ℕ → List ℕ → List ℕ) (key : List ℕ) (n : ℕ) where
    pub setting_known : (cs : List Call) → Given form mac key n cs → (i k : ℕ) (line : Lineage) → Sound form mac key n i cs → lineage form mac key n cs i k ≡ found line → line.present.lasting.jump ≡ true
        → JumpOff form mac key n i line.present.identity.question cs → ⊥
    unfolding lineage Given Sound JumpOff act
    setting_known [] g i k line s e on off = none_found line e
    setting_known (call j (opens q v jump out) ∷ cs) g i k line s e on off =
        chosen (eqb j i && unrefused (answer form mac key n cs (call j (opens q v jump out))).number && eqb (openings form mac key n cs i) k) _ _ line here
        (λ f. setting_known cs g.1.1 i k line s.1 f on off.1) e
      where
        r : Returned
        r = opening form mac (modules form mac key n cs j) q v jump out

        here : (eqb j i && unrefused r.number && eqb (openings form mac key n cs i) k) ≡ true → started form r ≡ found line → ⊥
        here b f =
            let a = both (eqb j i) _ (both (eqb j i && unrefused r.number) _ b).0 in
            let o = opening_setting mac (modules form mac key n cs j) q v jump out a.1 in
            let t : r.station ≡ line.present = ap (λ (x : Lineage). x.present) (same_line _ line f) in
            let one : jump ≡ 1 = o.1 (ap (λ (x : Station). x.lasting.jump) t ∙ on) in
            let zero : jump ≡ 0 = off.0 (eqb-true j i a.0) a.1 (sym o.0 ∙ ap (λ (x : Station). x.identity.question) t) in
            omega arith
    setting_known (call j (gives o t ws coin out) ∷ cs) g i k line s e on off =
        chosen (eqb j i && unrefused (answer form mac key n cs (call j (gives o t ws coin out))).number && eqb o k) _ _ line (here (λ x f y z. setting_known cs g.1.1 i o x s.1 f y z))
        (λ f. setting_known cs g.1.1 i k line s.1 f on off.1) e
      where
        r : Returned
        r = answer form mac key n cs (call j (gives o t ws coin out))

        here : ((x : Lineage) → lineage form mac key n cs i o ≡ found x → x.present.lasting.jump ≡ true → JumpOff form mac key n i x.present.identity.question cs → ⊥)
            → (eqb j i && unrefused r.number && eqb o k) ≡ true → gave form r ws (lineage form mac key n cs i k) ≡ found line → ⊥
        here known b f =
            let a = both (eqb j i) _ (both (eqb j i && unrefused r.number) _ b).0 in
            let p : Presents form mac key n cs i o t = s.0 (eqb-true j i a.0) a.1 in
            let kept = setting_kept form mac (modules form mac key n cs j) t ws coin out g.1.0.0 in
            let now : line.present ≡ r.station = gave_is r ws (lineage form mac key n cs i k) line f in
            known p.line p.is (ap (λ (x : Station). x.lasting.jump) p.now ∙ kept.1 (sym (ap (λ (x : Station). x.lasting.jump) now) ∙ on))
            (subst (λ (q : ℕ). JumpOff form mac key n i q cs)
            (ap (λ (x : Station). x.identity.question) now ∙ kept.0 ∙ sym (ap (λ (x : Station). x.identity.question) p.now)) off.1)
    setting_known (call j (codes ws) ∷ cs) g i k line s e on off = setting_known cs g.1.1 i k line s.1 e on off.1
    setting_known (call j (tosses ws coin) ∷ cs) g i k line s e on off = setting_known cs g.1.1 i k line s.1 e on off.1
