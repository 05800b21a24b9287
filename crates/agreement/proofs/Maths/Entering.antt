-- A station enters a later step with its own statement, which is justified by what was coded before: what is known of it holds on. It ended its step, or
-- jumped. At this moment one vote of the step is taken, its own, and one is below a quorum.
use Rattle.std.specs.Prelude.{◌≡◌, refl, Bool, ◌&&◌, List, [], ◌∷◌, ℕ, ◌+◌, ◌*◌, ◌≤◌, ◌<◌, length, take}
use Rattle.std.proofs.Common.{sym, ◌∙◌, subst, arith, eqb-true, eq-eqb}
use Rattle.std.proofs.Math.Bool.{true, false}
use mathlib.Core.List.Memᴰ
use Rattle.std.proofs.Math.Dec.{eqb}
use Rattle.std.proofs.lemmas.Bool.{eqb-false}
use Rattle.laws.specs.Pick.{pick}
use Rattle.laws.specs.Bools.{join, left}
use Rattle.laws.specs.All.{All, all_map}
use Rattle.laws.specs.Count.{count}
use Rattle.format.specs.Form.{Form}
use Rattle.format.specs.Numbers.{none, least_stations}
use Rattle.format.specs.Group.{quorum}
use Rattle.format.specs.Statement.{Statement, step}
use Rattle.format.specs.Lists.{some}
use Rattle.rules.specs.Rules.{Backed}
use Rattle.station.specs.declared.Stage.{Stage}
use Rattle.station.specs.Machine.{stage_step, has_value, began, supplies_for_value, supplies_for_none}
use Rattle.station.proofs.Laws.Sane.{Sane}
use Rattle.station.proofs.Laws.Keep.{all_take}
use Rattle.station.proofs.Theorems.Written.{backed_given}
use Rattle.station.specs.declared.Lasting.{Lasting}
use Rattle.agreement.proofs.Maths.Safe.{Just}
use Rattle.agreement.proofs.Maths.Just.{bare, Coded, backed_just, just_more, coded_more}
use Rattle.agreement.proofs.Maths.Took.{NowHeld, votes_held, number_few, enough_before, enough_after}
use Rattle.agreement.specs.Maths.Votes.{votes}
use Rattle.agreement.proofs.Maths.Standing.{Enough, Standing}

-- the votes of the present step are those held
pub few_votes : (n q : ℕ) (held took : List Statement) (σ v r : ℕ) → NowHeld σ held took → length held < quorum n → σ ≡ 2 * r + 1
    → quorum n ≤ count (votes took q r v) n → ⊥
few_votes n q held took σ v r now few e enough =
    omega (arith, votes_held q r v held took n (subst (λ (z : ℕ). NowHeld z held took) e now), number_few (has_value v) held)

module _ (form : Form) (n site q : ℕ) (lasting : Lasting) (l : List Statement) (g : Stage) (s : Statement) (c took : List Statement) (big : least_stations ≤ n) (low : 1 ≤ s.station) (high : s.station ≤ n)
    (on : s.question ≡ q) (s_step : step s ≡ stage_step g) (before : ℕ) (up : before < stage_step g) (upto : All (λ y. step y ≤ before) took)
    (facts : All (λ y. Coded n l y × Just n l y) took) (asked : All (λ y. y.question ≡ q) took) (c_coded : All (Coded n l) c) (c_asked : All (λ y. y.question ≡ q) c) (s_backed : Backed n s c)
    (d_low : lasting.decision ≤ none) (named : (v : ℕ) → v < none → lasting.decision ≡ v → Enough n took q v)
    (names : (v r : ℕ) → v < none → quorum n ≤ count (votes took q r v) n → lasting.decision < none)
    (sane : Sane form n site (began n q lasting g s c)) where
  abbrev l2 : List Statement
  l2 = bare s ∷ l

  abbrev took2 : List Statement
  took2 = s ∷ took

  -- the own statement is justified by what was coded before
  own_just : Just n l s
  own_just = backed_just n l s c c_coded (all_map (λ y e. e ∙ sym on) c c_asked) s_backed

  s_coded : Coded n l2 s
  s_coded = record { mem = Memᴰ.head refl; low = low; high = high }

  facts2 : All (λ y. Coded n l2 y × Just n l2 y) took2
  facts2 = ((s_coded, just_more n (bare s) l s own_just), all_map (λ y p. (coded_more n (bare s) l y p.0, just_more n (bare s) l y p.1)) took facts)

  upto2 : All (λ y. step y ≤ stage_step g) took2
  upto2 = (omega (arith, s_step), all_map (λ y e. omega (arith, up)) took upto)

  now2 : NowHeld (stage_step g) (s ∷ []) took2
  unfolding some
  now2 = (
    (λ e. left (has_value s.value s && eqb s.station s.station) false (join (has_value s.value s) _ (eq-eqb s.value s.value refl) (eq-eqb s.station s.station refl))),
    all_map (λ y f e. absurd (omega (arith, up))) took upto,
  )

  names2 : (v r : ℕ) → v < none → quorum n ≤ count (votes took2 q r v) n → lasting.decision < none
  names2 v r low enough = go (eqb (stage_step g) (2 * r + 1)) refl
    where
      go : (b : Bool) → eqb (stage_step g) (2 * r + 1) ≡ b → lasting.decision < none
      go true e = absurd (few_votes n q (s ∷ []) took2 (stage_step g) v r now2 (omega arith) (eqb-true _ _ e) enough)
      go false e = names v r low (enough_before q r v n (quorum n) s took (λ z. eqb-false (stage_step g) (2 * r + 1) e (sym s_step ∙ z)) enough)

  named2 : (v : ℕ) → v < none → lasting.decision ≡ v → Enough n took2 q v
  named2 v low e = let E = named v low e in record { round = E.round; enough = enough_after q E.round v n (quorum n) s took E.enough }

  kept2 : (b : Bool) → All (Coded n l2) (pick b (take (quorum n) c) [])
  unfolding pick
  kept2 true = all_take (Coded n l2) (quorum n) c (all_map (coded_more n (bare s) l) c c_coded)
  kept2 false = tt

  pub entered_standing : Standing form n l2 site (began n q lasting g s c) took2
  entered_standing =
      record {
        facts = facts2;
        asked = (on, asked);
        low = d_low;
        named = named2;
        names = names2;
        while_open = λ e.
            record {
              sane = sane;
              given = (backed_given n s c s_backed, tt);
              among = (Memᴰ.head refl, tt);
              for_value_coded = kept2 (supplies_for_value g s);
              for_none_coded = kept2 (supplies_for_none g s);
              upto = upto2;
              now_held = now2;
            };
      }
