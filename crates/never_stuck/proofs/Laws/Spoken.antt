-- Bundles that sites have written, of use to every station of their step; and the list behind one giving at a sound site to a station as it is.
use Rattle.std.specs.Prelude.{◌≡◌, refl, Bool, true, ◌&&◌, List, ◌∷◌, ◌++◌, ℕ, ◌≤◌}
use Rattle.std.proofs.Math.Path.{sym, ap, subst}
use Rattle.std.proofs.Common.{◌∙◌, eq-eqb}
use Rattle.std.proofs.Math.Dec.{eqb}
use Rattle.laws.specs.Pick.{here}
use Rattle.laws.specs.Bools.{join}
use Rattle.format.specs.Form.{present_form}
use Rattle.format.specs.Statement.{Statement, step}
use Rattle.format.specs.Present.{main_of}
use Rattle.rules.specs.declared.Which.TheVariants.{Any}
use Rattle.certificate.specs.Present.{check_by}
use Rattle.station.specs.declared.Station.{Station}
use Rattle.station.specs.Returns.{unrefused}
use Rattle.station.specs.Present.{Lengths}
use Rattle.agreement.proofs.Laws.Ground.{Ground}
use Rattle.agreement.proofs.Laws.Lists.{lineage_other}
use Rattle.agreement.specs.Demand.{Call, call, gives, site, action, view}
use Rattle.agreement.specs.Present.{written_main, given_main, gave, coded_in, answer, log, lineage, Presents, Sound, FewFaulty, CodesCame, Given}
use Rattle.never_stuck.specs.Claim.{Wrote, before}
use Rattle.never_stuck.proofs.Laws.Came.{came_more}

module _ (G : Ground present_form) where
  open G use {mac, key, n}

  -- demand 3's premises
  pub record Premises (cs : List Call) : Type 0 where
    pub given : Given mac key n cs
    pub few : FewFaulty mac key n cs

  -- a valid bundle that a call of site i wrote, for a step of a question; the codes in it came from modules
  pub record Spoke (cs : List Call) (i question σ : ℕ) (ws : List ℕ) : Type 0 where
    pub by_call : Wrote mac key n cs i ws
    pub valid : check_by (mac key) n Any ws ≡ 0
    pub came : CodesCame mac key n (log mac key n cs) ws
    pub station : (main_of ws).station ≡ i
    pub asked : (main_of ws).question ≡ question
    pub in_step : step (main_of ws) ≡ σ

  pub spoke_later : (c : Call) (cs : List Call) (i question σ : ℕ) (ws : List ℕ) → Spoke cs i question σ ws → Spoke (c ∷ cs) i question σ ws
  unfolding Rattle.agreement.specs.Demand.log
  spoke_later c cs i question σ ws s =
      record {
        by_call = before s.by_call;
        valid = s.valid;
        came = came_more mac key n (coded_in (site c) (view (action c)) (answer mac key n cs c)) (log mac key n cs) ws s.came;
        station = s.station;
        asked = s.asked;
        in_step = s.in_step;
      }

  -- and one whose main statement passes a test
  pub record Said (cs : List Call) (i question σ : ℕ) (ok : Statement → Bool) : Type 0 where
    pub words : List ℕ
    pub spoke : Spoke cs i question σ words
    pub passes : ok (main_of words) ≡ true

  pub said_later : (c : Call) (cs : List Call) (i question σ : ℕ) (ok : Statement → Bool) → Said cs i question σ ok → Said (c ∷ cs) i question σ ok
  said_later c cs i question σ ok w = record { words = w.words; spoke = spoke_later c cs i question σ w.words w.spoke; passes = w.passes }

  -- ---- the list behind a giving to a station as it is
  module _ (cs : List Call) (x k : ℕ) (t : Station) (ws : List ℕ) (coin : ℕ) (out : List ℕ) (p : Presents mac key n cs x k t) where
    abbrev g : Call
    g = call x (gives k t ws coin out)

    -- the station that the call returns, with what it took by it
    unfoldable pub presents_now : unrefused (answer mac key n cs g).number ≡ true → Presents mac key n (g ∷ cs) x k (answer mac key n cs g).station
    unfolding Rattle.agreement.specs.Demand.lineage
    presents_now u =
        record {
          line = record { present = (answer mac key n cs g).station; took = written_main (answer mac key n cs g) ++ (given_main (answer mac key n cs g) ws ++ p.line.took) };
          is = sym (here (eqb x x && unrefused (answer mac key n cs g).number && eqb k k) (gave (answer mac key n cs g) ws (lineage mac key n cs x k)) (lineage mac key n cs x k)
              (join (eqb x x && unrefused (answer mac key n cs g).number) _ (join (eqb x x) _ (eq-eqb x x refl) u) (eq-eqb k k refl)))
              ∙ ap (gave (answer mac key n cs g) ws) p.is;
          now = refl;
        }

    pub presents_other : (y o : ℕ) (u : Station) → (y ≡ x → ⊥) → Presents mac key n cs y o u → Presents mac key n (g ∷ cs) y o u
    presents_other y o u ne q = record { line = q.line; is = lineage_other present_form mac key n g cs y o ne ∙ q.is; now = q.now }

    pub sound_next : (i : ℕ) → Sound mac key n i cs → Sound mac key n i (g ∷ cs)
    unfolding Rattle.agreement.specs.Demand.Sound
    sound_next i s = ((λ e u. subst (λ (z : ℕ). Presents mac key n cs z k t) e p), s)

    pub premises_next : 1 ≤ x → x ≤ n → Lengths t → CodesCame mac key n (log mac key n cs) ws → Premises cs → Premises (g ∷ cs)
    unfolding Rattle.agreement.specs.Demand.Given
    premises_next lo hi l c P =
        record {
          given = ((lo, hi), ((l, c), P.given));
          few = record { faulty = P.few.faulty; few = P.few.few; others = λ i a b h. sound_next i (P.few.others i a b h) };
        }
