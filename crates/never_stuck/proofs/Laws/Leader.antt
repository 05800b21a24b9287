-- The leader of a team: a site at a step that no site of the team is past. It is found by looking at one site after the other.
use Rattle.std.specs.Prelude.{◌≡◌, refl, Bool, true, false, List, ℕ, suc, ◌≤◌, eqb, leb}
use Rattle.std.proofs.Common.{sym, subst, arith, eqb-true, leb-true, leb-false}
use Rattle.std.proofs.lemmas.Bool.{eqb-false}
use Rattle.format.specs.Form.{present_form}
use Rattle.station.specs.Machine.{stage_step}
use Rattle.agreement.proofs.Laws.Ground.{Ground}
use Rattle.agreement.specs.Demand.{Call}
use Rattle.never_stuck.specs.Claim.{Ready}

module _ (G : Ground present_form) (q : ℕ) (team : ℕ → Bool) (cs : List Call) (r : ℕ) (jump : Bool) where
  open G use {mac, key, n}

  -- a site that is not past step f
  pub record Under (y f : ℕ) : Type 0 where
    pub ready : Ready mac key n cs q r jump y
    pub upto : stage_step ready.station.stage ≤ f

  -- and one that stands at it, with all of the team up to site j under it
  pub record Leads (j f : ℕ) : Type 0 where
    pub at : ℕ
    pub low : 1 ≤ at
    pub high : at ≤ n
    pub of_team : team at ≡ true
    pub ready : Ready mac key n cs q r jump at
    pub stands : stage_step ready.station.stage ≡ f
    pub under : (y : ℕ) → 1 ≤ y → y ≤ j → team y ≡ true → Under y f

  pub data Search (j : ℕ) : Type 0 where
    nobody : ((y : ℕ) → 1 ≤ y → y ≤ j → team y ≡ true → ⊥) → Search j
    somebody : (f : ℕ) → Leads j f → Search j

  higher : (y f g : ℕ) → f ≤ g → Under y f → Under y g
  higher y f g e u = record { ready = u.ready; upto = omega (arith, u.upto) }

  -- one site more
  pub with_site : (j : ℕ) → suc j ≤ n → team (suc j) ≡ true → Ready mac key n cs q r jump (suc j) → Search j → Search (suc j)
  with_site j b c R (nobody none) = somebody (stage_step R.station.stage) (record { at = suc j; low = omega arith; high = b; of_team = c; ready = R; stands = refl; under = one })
    where
      one : (y : ℕ) → 1 ≤ y → y ≤ suc j → team y ≡ true → Under y (stage_step R.station.stage)
      one y a e d = by (eqb y (suc j)) refl
        where
          by : (z : Bool) → eqb y (suc j) ≡ z → Under y (stage_step R.station.stage)
          by true z = subst (λ (v : ℕ). Under v (stage_step R.station.stage)) (sym (eqb-true y (suc j) z)) (record { ready = R; upto = omega arith })
          by false z = absurd (none y a (omega (arith, eqb-false y (suc j) z)) d)
  with_site j b c R (somebody f L) = by (leb (stage_step R.station.stage) f) refl
    where
      all_under : (g : ℕ) → f ≤ g → stage_step R.station.stage ≤ g → (y : ℕ) → 1 ≤ y → y ≤ suc j → team y ≡ true → Under y g
      all_under g e h y a d c = go (eqb y (suc j)) refl
        where
          go : (z : Bool) → eqb y (suc j) ≡ z → Under y g
          go true z = subst (λ (v : ℕ). Under v g) (sym (eqb-true y (suc j) z)) (record { ready = R; upto = h })
          go false z = higher y f g e (L.under y a (omega (arith, eqb-false y (suc j) z)) c)

      by : (z : Bool) → leb (stage_step R.station.stage) f ≡ z → Search (suc j)
      by true z =
          somebody f (record {
            at = L.at;
            low = L.low;
            high = L.high;
            of_team = L.of_team;
            ready = L.ready;
            stands = L.stands;
            under = all_under f (omega arith) (leb-true (stage_step R.station.stage) f z);
          })
      by false z =
          somebody (stage_step R.station.stage) (record {
            at = suc j;
            low = omega arith;
            high = b;
            of_team = c;
            ready = R;
            stands = refl;
            under = all_under (stage_step R.station.stage) (omega (arith, leb-false (stage_step R.station.stage) f z)) (omega arith);
          })
