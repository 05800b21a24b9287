-- A move by last bundles alone, with jump on: where the team stands at one step, one site ends it by the others' bundles, and then each other site jumps onto the
-- bundle that this one, the mover, has written.
use Rattle.std.specs.Prelude.{◌≡◌, refl, Bool, true, false, ◌⊎◌, List, ◌∷◌, ℕ, zero, suc, ◌+◌, ◌*◌, ◌≤◌, ◌<◌, eqb, length}
use Rattle.std.proofs.Common.{sym, ◌∙◌, ap, subst, inl, inr, arith, eqb-true}
use Rattle.std.proofs.lemmas.Bool.{eqb-false}
use Rattle.laws.specs.Bools.{never}
use Rattle.format.specs.Form.{present_form}
use Rattle.format.specs.Numbers.{none}
use Rattle.format.specs.Group.{quorum}
use Rattle.format.specs.Statement.{Statement}
use Rattle.format.specs.Lists.{every}
use Rattle.format.specs.Present.{last_round, main_of}
use Rattle.station.specs.declared.Stage.{Stage}
use Rattle.station.specs.declared.Station.{Station}
use Rattle.station.specs.Machine.{State, follows, closes, decision_at, stage_step, copied_value}
use Rattle.station.specs.Returns.{unrefused}
use Rattle.station.proofs.Laws.Sane.{InRounds}
use Rattle.agreement.proofs.Laws.Ground.{Ground}
use Rattle.agreement.proofs.Laws.Lists.{module_other, lineage_other}
use Rattle.agreement.specs.Demand.{Call, call, gives}
use Rattle.agreement.specs.Present.{answer}
use Rattle.never_stuck.specs.Claim.{Quorate, room, Waits, ByLast, done, give}
use Rattle.never_stuck.proofs.Laws.Spoken.{Premises, Said, spoke_later}
use Rattle.never_stuck.proofs.Laws.Steps.{not_one, before_last}
use Rattle.never_stuck.proofs.Laws.Heard.{sane_of, jump_heard}
use Rattle.never_stuck.proofs.Laws.Moves.{saying, Ended, went, shut, premises_then, jumped_there}
use Rattle.never_stuck.proofs.Laws.Advance.{Step, Stands, last_words, then_last, waits_on, Advanced, advance, state_stage, state_decision, state_jump}
use Rattle.never_stuck.proofs.Laws.Sweep.{Team, Stable}
use Rattle.never_stuck.proofs.Laws.Phase.{every_single, At, at_on, said_at}

module _ (G : Ground present_form) (q : ℕ) (team : ℕ → Bool) (enough : Quorate G.n team) where
  open G use {mac, key, n}

  -- of each site of the team
  abbrev Each : (ℕ → Type 0) → Type 0
  Each A = Team G q team 0 A

  -- a site at a step, with jump on; if it is among the first j sites, it has decided
  pub record Stood (cs : List Call) (y σ : ℕ) (ok : Statement → Bool) (j : ℕ) : Type 0 where
    pub at : At G q team 0 enough cs y σ ok
    pub setting : at.station.lasting.jump ≡ true
    pub named : y ≤ j → at.station.lasting.decision < none

  stood_on : (σ : ℕ) (ok : Statement → Bool) (j : ℕ) → Stable G q team 0 (λ cs y. Stood cs y σ ok j)
  stood_on σ ok j cs x s y ne o = record { at = at_on G q team 0 enough σ ok cs x s y ne o.at; setting = o.setting; named = o.named }

  stands : (cs : List Call) (y σ : ℕ) (ok : Statement → Bool) (j : ℕ) → Stood cs y σ ok j → Stands G q team 0 cs y σ
  stands cs y σ ok j o = record { opening = o.at.opening; station = o.at.station; presents = o.at.waits.presents; asked = o.at.waits.asked; there = o.at.in_step }

  -- a site behind that step, other than site x which stands there
  pub record Trails (cs : List Call) (x y σ j : ℕ) : Type 0 where
    pub opening : ℕ
    pub station : Station
    pub waits : Waits mac key n cs q y opening station
    pub behind : stage_step station.stage < σ
    pub setting : station.lasting.jump ≡ true
    pub named : y ≤ j → station.lasting.decision < none
    pub other : y ≡ x → ⊥

  trails_on : (x σ j : ℕ) → Stable G q team 0 (λ cs y. Trails cs x y σ j)
  trails_on x σ j cs z s y ne o =
      record {
        opening = o.opening;
        station = o.station;
        waits = waits_on G q team 0 cs z s y o.opening o.station ne o.waits;
        behind = o.behind;
        setting = o.setting;
        named = o.named;
        other = o.other;
      }

  -- a list that goes on from another by last bundles, behind which something is known of each site of the team
  pub record Brought (cs : List Call) (A : List Call → ℕ → Type 0) : Type 0 where
    pub list : List Call
    pub premises : Premises G list
    pub onward : ByLast mac key n q team cs list
    pub each : Each (A list)

  pub then_brought : (cs : List Call) (A B : List Call → ℕ → Type 0) (a : Brought cs A) → Brought a.list B → Brought cs B
  then_brought cs A B a b = record { list = b.list; premises = b.premises; onward = then_last G q team 0 cs a.list b.list a.onward b.onward; each = b.each }

  -- ---- all others jump onto the bundle of site x
  module _ (x σ coin : ℕ) (ok : Statement → Bool) (j : ℕ) (lo : 1 ≤ x) (hi : x ≤ n) (tx : team x ≡ true) (bit : coin < 2)
      (copies : (s s' : Statement) → s'.value ≡ copied_value s coin → ok s ≡ true → ok s' ≡ true) where
    record Jumped (cs : List Call) (y : ℕ) : Type 0 where
      step : Step G q team 0 cs y
      onward : ByLast mac key n q team cs step.list
      now : Stood step.list y σ ok j

    jump : (cs : List Call) → Premises G cs → (y : ℕ) → team y ≡ true → Stood cs x σ ok j → Trails cs x y σ j → Jumped cs y
    jump cs P y ty lead o = by (said_at G q team 0 enough cs P x σ ok lead.at)
      where
        by : Said G cs x q σ ok → Jumped cs y
        by w = jumped
          where
            un : unrefused (answer mac key n cs (call y (gives o.opening o.station w.words coin room))).number ≡ true
            un = jump_heard G cs P q y o.opening o.station o.waits x σ w.words w.spoke coin bit o.setting o.behind

            one : Step G q team 0 cs y
            one =
                record {
                  list = call y (gives o.opening o.station w.words coin room) ∷ cs;
                  premises = premises_then G q cs P y o.opening o.station o.waits x σ w.words w.spoke coin bit un;
                  onward = give done y o.opening o.station x w.words coin ty tx o.waits.presents o.waits.asked w.spoke.by_call (omega arith) bit un;
                  module_on = module_other present_form mac key n (call y (gives o.opening o.station w.words coin room)) cs;
                  line_on = lineage_other present_form mac key n (call y (gives o.opening o.station w.words coin room)) cs;
                  spoken = λ z τ ws h. spoke_later G (call y (gives o.opening o.station w.words coin room)) cs z q τ ws h;
                }

            jumped : Jumped cs y
            jumped =
                let L = jumped_there G q cs P y o.opening o.station o.waits x σ w.words w.spoke coin bit un o.behind in
                record {
                  step = one;
                  onward = give done y o.opening o.station x w.words coin ty tx o.waits.presents o.waits.asked w.spoke.by_call
                      (last_words G q team 0 cs x σ w.words (stands cs x σ ok j lead) w.spoke) bit un;
                  now = record {
                    at = record {
                      opening = o.opening;
                      station = (answer mac key n cs (call y (gives o.opening o.station w.words coin room))).station;
                      waits = L.waits_on;
                      in_step = L.in_step;
                      held_ok = ap (every ok) L.held ∙ every_single ok L.says (copies (main_of w.words) L.says L.value w.passes);
                    };
                    setting = L.setting ∙ o.setting;
                    named = λ le. subst (λ (d : ℕ). d < none) (sym L.decision) (o.named le);
                  };
                }

    -- a site that stands there, or trails and is not among the first i
    abbrev Part : ℕ → List Call → ℕ → Type 0
    Part i cs y = (Trails cs x y σ j × (i < y)) ⊎ Stood cs y σ ok j

    lead_of : (i : ℕ) (cs : List Call) → Part i cs x → Stood cs x σ ok j
    lead_of i cs (inl t) = absurd (t.0.other refl)
    lead_of i cs (inr s) = s

    -- one site more
    pass : (i : ℕ) → suc i ≤ n → (cs : List Call) → Premises G cs → Each (Part i cs) → Brought cs (Part (suc i))
    pass i b cs P each = by (team (suc i)) refl
      where
        -- nothing is to be done
        same : (team (suc i) ≡ true → Stood cs (suc i) σ ok j) → Brought cs (Part (suc i))
        same h = record { list = cs; premises = P; onward = done; each = λ y a c d. go y d (each y a c d) (eqb y (suc i)) refl }
          where
            go : (y : ℕ) → team y ≡ true → Part i cs y → (z : Bool) → eqb y (suc i) ≡ z → Part (suc i) cs y
            go y d p true e = let s = eqb-true y (suc i) e in inr (subst (λ (v : ℕ). Stood cs v σ ok j) (sym s) (h (ap team (sym s) ∙ d)))
            go y d (inl t) false e = inl (t.0, omega (arith, t.1, eqb-false y (suc i) e))
            go y d (inr s) false e = inr s

        pushed : Jumped cs (suc i) → Brought cs (Part (suc i))
        pushed p = record { list = p.step.list; premises = p.step.premises; onward = p.onward; each = λ y a c d. go y (each y a c d) (eqb y (suc i)) refl }
          where
            go : (y : ℕ) → Part i cs y → (z : Bool) → eqb y (suc i) ≡ z → Part (suc i) p.step.list y
            go y h true e = inr (subst (λ (v : ℕ). Stood p.step.list v σ ok j) (sym (eqb-true y (suc i) e)) p.now)
            go y (inl t) false e = let ne = eqb-false y (suc i) e in inl (trails_on x σ j cs (suc i) p.step y ne t.0, omega (arith, t.1, ne))
            go y (inr s) false e = inr (stood_on σ ok j cs (suc i) p.step y (eqb-false y (suc i) e) s)

        by_case : team (suc i) ≡ true → Part i cs (suc i) → Brought cs (Part (suc i))
        by_case t (inl o) = pushed (jump cs P (suc i) t (lead_of i cs (each x lo hi tx)) o.0)
        by_case t (inr s) = same (λ z. s)

        by : (z : Bool) → team (suc i) ≡ z → Brought cs (Part (suc i))
        by true t = by_case t (each (suc i) (omega arith) b t)
        by false t = same (λ z. never (team (suc i)) t z)

    follow_to : (i : ℕ) → i ≤ n → (cs : List Call) → Premises G cs → Each (Part 0 cs) → Brought cs (Part i)
    follow_to zero b cs P each = record { list = cs; premises = P; onward = done; each = each }
    follow_to (suc i) b cs P each =
        let A = follow_to i (omega arith) cs P each in
        then_brought cs (Part i) (Part (suc i)) A (pass i b A.list A.premises A.each)

    pub follow : (cs : List Call) → Premises G cs → Each (λ y. Trails cs x y σ j ⊎ Stood cs y σ ok j) → Brought cs (λ c y. Stood c y σ ok j)
    follow cs P each =
        let A = follow_to n (omega arith) cs P (λ y a b c. start y a (each y a b c)) in
        record { list = A.list; premises = A.premises; onward = A.onward; each = λ y a b c. finish A.list y b (A.each y a b c) }
      where
        start : (y : ℕ) → 1 ≤ y → Trails cs x y σ j ⊎ Stood cs y σ ok j → Part 0 cs y
        start y a (inl t) = inl (t, a)
        start y a (inr s) = inr s

        finish : (c : List Call) (y : ℕ) → y ≤ n → Part n c y → Stood c y σ ok j
        finish c y b (inl t) = absurd (omega (arith, t.1))
        finish c y b (inr s) = s

  -- ---- the whole move of site x: what the end of step σ brings, where all that is held passes a test
  pub record Move (x σ σ' coin : ℕ) (ok ok' : Statement → Bool) (j j' : ℕ) : Type 0 where
    pub up : σ < σ'
    pub still_open : σ < 2 * last_round + 1
    pub ends : (g : Stage) (u : State) → stage_step g ≡ σ → (stage_step (follows n g u coin).stage ≡ 1 → ⊥) → every ok u.held ≡ true → length u.held ≡ quorum n
        → (stage_step (follows n g u coin).stage ≡ σ') × (ok' (saying G q x g u coin) ≡ true)
    pub copies : (s s' : Statement) → s'.value ≡ copied_value s coin → ok' s ≡ true → ok' s' ≡ true
    pub names : (g : Stage) (d : ℕ) (h : List Statement) → stage_step g ≡ σ → every ok h ≡ true → x ≤ j' → (x ≤ j → d < none) → decision_at g d h < none
    pub others : (y : ℕ) → y ≤ j' → (y ≡ x → ⊥) → y ≤ j

  -- site x, behind the end of the step
  moved_on : (x σ σ' coin : ℕ) (ok ok' : Statement → Bool) (j j' : ℕ) → Move x σ σ' coin ok ok' j j' → (cs : List Call) → Premises G cs → (k : ℕ) (g : Stage) (d : ℕ) (u : State) (t : Station)
      → stage_step g ≡ σ → (x ≤ j → d < none) → u.lasting.jump ≡ true → every ok u.held ≡ true → length u.held ≡ quorum n → Ended G q cs x k g d u coin t → Stood cs x σ' ok' j'
  moved_on x σ σ' coin ok ok' j j' M cs P k g d u t e dec on oks full (shut c closed asked de) = never (closes last_round g) (before_last g (omega (arith, M.still_open))) c
  moved_on x σ σ' coin ok ok' j j' M cs P k g d u t e dec on oks full (went c w se) =
      let S = sane_of G cs P q x k t w in
      let is : stage_step t.stage ≡ stage_step (follows n g u coin).stage = sym (ap stage_step (state_stage t)) ∙ ap (λ (z : State). stage_step z.stage) se in
      let ne : stage_step (follows n g u coin).stage ≡ 1 → ⊥ = λ z. not_one t.stage (subst (InRounds present_form) (state_stage t) S.rounds) (is ∙ z) in
      let E = M.ends g u e ne oks full in
      record {
        at = record {
          opening = k;
          station = t;
          waits = w;
          in_step = is ∙ E.0;
          held_ok = ap (λ (z : State). every ok' z.held) se ∙ every_single ok' (saying G q x g u coin) E.1;
        };
        setting = sym (state_jump t) ∙ ap (λ (z : State). z.lasting.jump) se ∙ on;
        named = λ le. subst (λ (z : ℕ). z < none) (sym (sym (state_decision t) ∙ ap (λ (z : State). z.lasting.decision) se)) (M.names g d u.held e oks le dec);
      }

  pub move : (x σ σ' coin : ℕ) (ok ok' : Statement → Bool) (j j' : ℕ) → 1 ≤ x → x ≤ n → team x ≡ true → coin < 2 → Move x σ σ' coin ok ok' j j' → (cs : List Call) → Premises G cs
      → Each (λ y. Stood cs y σ ok j) → Brought cs (λ c y. Stood c y σ' ok' j')
  move x σ σ' coin ok ok' j j' lo hi tx bit M cs P each = by (each x lo hi tx)
    where
      by : Stood cs x σ ok j → Brought cs (λ c y. Stood c y σ' ok' j')
      by o = from A
        where
          A : Advanced G q team 0 cs x o.at.opening o.at.station.stage o.at.station.lasting.decision o.at.station.lasting.jump coin ok
          A =
              let S = sane_of G cs P q x o.at.opening o.at.station o.at.waits in
              advance G q team 0 enough x o.at.opening coin ok tx bit (quorum n) cs o.at.station P o.at.waits (omega arith)
              (λ y a b c. subst (λ (z : ℕ). Said G cs y q z ok) (sym o.at.in_step) (said_at G q team 0 enough cs P y σ ok (each y a b c).at)) o.at.held_ok S.few
              (omega arith)

          from : Advanced G q team 0 cs x o.at.opening o.at.station.stage o.at.station.lasting.decision o.at.station.lasting.jump coin ok → Brought cs (λ c y. Stood c y σ' ok' j')
          from a =
              let on : ByLast mac key n q team cs a.step.list
              = a.by_last (λ y b c d. subst (λ (z : ℕ). Stands G q team 0 cs y z) (sym o.at.in_step) (stands cs y σ ok j (each y b c d))) in
              let F = follow x σ' coin ok' j' lo hi tx bit M.copies a.step.list a.step.premises (λ y b c d. split y (each y b c d) (eqb y x) refl) in
              record { list = F.list; premises = F.premises; onward = then_last G q team 0 cs a.step.list F.list on F.onward; each = F.each }
            where
              now : Stood a.step.list x σ' ok' j'
              now =
                  moved_on x σ σ' coin ok ok' j j' M a.step.list a.step.premises o.at.opening o.at.station.stage o.at.station.lasting.decision a.state a.station o.at.in_step o.named
                  (a.setting ∙ o.setting) a.all_ok a.full a.ended

              split : (y : ℕ) → Stood cs y σ ok j → (z : Bool) → eqb y x ≡ z → Trails a.step.list x y σ' j' ⊎ Stood a.step.list y σ' ok' j'
              split y s true e = inr (subst (λ (v : ℕ). Stood a.step.list v σ' ok' j') (sym (eqb-true y x e)) now)
              split y s false e = inl (trailing (stood_on σ ok j cs x a.step y (eqb-false y x e) s))
                where
                  trailing : Stood a.step.list y σ ok j → Trails a.step.list x y σ' j'
                  trailing s =
                      record {
                        opening = s.at.opening;
                        station = s.at.station;
                        waits = s.at.waits;
                        behind = omega (arith, s.at.in_step, M.up);
                        setting = s.setting;
                        named = λ le. s.named (M.others y le (eqb-false y x e));
                        other = eqb-false y x e;
                      }
