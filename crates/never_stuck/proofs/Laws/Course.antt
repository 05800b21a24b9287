-- What a sound site has written, and where its module stands: for every list, each of its open stations has written a bundle of its step, and with jump off one
-- of each step up to it; and the module's last pair is the station's, unless it has gone on to a later question.
use Rattle.std.specs.Prelude.{◌≡◌, Bool, ℕ, suc, ◌≤◌, length}
use Rattle.std.proofs.Math.Path.{refl, ap, subst}
use Rattle.std.proofs.Common.{sym, ◌∙◌, arith, eqb-true}
use Rattle.std.proofs.Math.Bool.{true, false}
use mathlib.Core.List.{List, [], ◌∷◌, ◌++◌}
use Rattle.std.proofs.Math.Dec.{eqb}
use Rattle.std.proofs.lemmas.Bool.{eqb-false}
use Rattle.laws.specs.Pick.{pick}
use Rattle.laws.specs.Bools.{both}
use Rattle.laws.specs.All.{All, all_map}
use Rattle.format.specs.Form.{present_form}
use Rattle.format.specs.Statement.{Statement, step}
use Rattle.format.specs.Lists.{every}
use Rattle.format.specs.Bundle.{count_in}
use Rattle.format.proofs.Laws.ReadBack.{Proper}
use Rattle.format.specs.Present.{most_statements, place_of, statements, main_of, bundle_of}
use Rattle.rules.specs.declared.Which.TheVariants.{Any}
use Rattle.certificate.proofs.Theorems.Exact.{found_valid}
use Rattle.certificate.specs.Present.{check_by}
use Rattle.modules.specs.declared.Last.{Last}
use Rattle.modules.specs.declared.Module.{Module}
use Rattle.modules.specs.Counter.{pair, last_for}
use Rattle.station.specs.declared.Station.{Station}
use Rattle.station.specs.Machine.{State, sends, stage_step}
use Rattle.station.specs.Calls.{Returned}
use Rattle.station.specs.Returns.{wrote}
use Rattle.station.specs.Demand.{message}
use Rattle.station.proofs.Theorems.Written.{bundle_front}
use Rattle.station.proofs.Laws.Bundles.{main_is, all_in}
use Rattle.station.specs.Present.{state_of, returned, Reached}
use Rattle.agreement.proofs.Maths.Log.{In, all_at}
use Rattle.agreement.proofs.Maths.Safe.{Just}
use Rattle.agreement.proofs.Maths.Just.{Coded, coded_more}
use Rattle.agreement.proofs.Laws.Ground.{Ground}
use Rattle.agreement.proofs.Laws.Line.{Line, line_open, reads, reads_append}
use Rattle.agreement.proofs.Laws.Lists.{same_line}
use Rattle.agreement.proofs.Laws.Run.{Inv}
use Rattle.agreement.specs.Demand.{Call, site, action, view, Lineage, Found, found}
use Rattle.agreement.specs.Present.{coded_in, modules, answer, log, lineage}
use Rattle.never_stuck.specs.Claim.{Wrote, now}
use Rattle.never_stuck.proofs.Laws.Came.{codes_came}
use Rattle.never_stuck.proofs.Laws.Spoken.{Spoke, spoke_later, Said, said_later}
use Rattle.never_stuck.proofs.Laws.Steps.{any}

module _ (G : Ground present_form) where
  open G use {mac, eight, key, n, top}

  -- the bundle of the station's own step: its statement is held, so that it passes what all that is held passes
  pub record Latest (cs : List Call) (i : ℕ) (t : Station) : Type 0 where
    pub words : List ℕ
    pub spoke : Spoke G cs i t.identity.question (stage_step t.stage) words
    pub held : (ok : Statement → Bool) → every ok (state_of t).held ≡ true → ok (main_of words) ≡ true

  pub record Up (cs : List Call) (i : ℕ) (t : Station) : Type 0 where
    pub reached : Reached mac key n i t
    pub told : t.closed ≡ false → t.lasting.jump ≡ false → (s : ℕ) → s ≤ stage_step t.stage → (s ≡ 1 → ⊥) → Said G cs i t.identity.question s any
    pub latest : t.closed ≡ false → Latest cs i t
    pub has_coded : (last_for (modules mac key n cs i) t.identity.question).coded ≡ true
    pub behind : t.identity.question ≤ (last_for (modules mac key n cs i) t.identity.question).question
    pub in_time : t.closed ≡ false → (last_for (modules mac key n cs i) t.identity.question).question ≡ t.identity.question
        → last_for (modules mac key n cs i) t.identity.question ≡ pair t.identity.question (stage_step t.stage)

  -- and no two stations of the site are on one question
  pub record Course (cs : List Call) (i : ℕ) : Type 0 where
    pub up : (k : ℕ) (line : Lineage) → lineage mac key n cs i k ≡ found line → Up cs i line.present
    pub unique : (k o : ℕ) (a b : Lineage) → lineage mac key n cs i k ≡ found a → lineage mac key n cs i o ≡ found b → a.present.identity.question ≡ b.present.identity.question → k ≡ o

  latest_later : (c : Call) (cs : List Call) (i : ℕ) (t : Station) → Latest cs i t → Latest (c ∷ cs) i t
  latest_later c cs i t w = record { words = w.words; spoke = spoke_later G c cs i t.identity.question (stage_step t.stage) w.words w.spoke; held = w.held }

  -- the module is as it was
  pub up_later : (c : Call) (cs : List Call) (i : ℕ) (t : Station) → modules mac key n (c ∷ cs) i ≡ modules mac key n cs i → Up cs i t → Up (c ∷ cs) i t
  up_later c cs i t m u =
      let Q = t.identity.question in
      record {
        reached = u.reached;
        told = λ o j s a b. said_later G c cs i Q s any (u.told o j s a b);
        latest = λ o. latest_later c cs i t (u.latest o);
        has_coded = ap (λ (z : Module). (last_for z Q).coded) m ∙ u.has_coded;
        behind = subst (λ (z : Module). t.identity.question ≤ (last_for z t.identity.question).question) (sym m) u.behind;
        in_time = subst (λ (z : Module). t.closed ≡ false → (last_for z t.identity.question).question ≡ t.identity.question
            → last_for z t.identity.question ≡ pair t.identity.question (stage_step t.stage)) (sym m) u.in_time;
      }

  -- the module has gone on to a later question
  pub up_past : (c : Call) (cs : List Call) (i : ℕ) (t : Station) (q σ : ℕ) → last_for (modules mac key n (c ∷ cs) i) t.identity.question ≡ pair q σ → t.identity.question ≤ q
      → (t.identity.question ≡ q → ⊥) → Up cs i t → Up (c ∷ cs) i t
  up_past c cs i t q σ last le ne u =
      record {
        reached = u.reached;
        told = λ o j s a b. said_later G c cs i t.identity.question s any (u.told o j s a b);
        latest = λ o. latest_later c cs i t (u.latest o);
        has_coded = ap (λ (z : Last). z.coded) last;
        behind = omega (arith, ap (λ (z : Last). z.question) last);
        in_time = λ o e. absurd (ne (sym e ∙ ap (λ (z : Last). z.question) last));
      }

  -- a call that changes neither the site's stations nor its module
  pub still : (c : Call) (cs : List Call) (i : ℕ) → ((k : ℕ) → lineage mac key n (c ∷ cs) i k ≡ lineage mac key n cs i k) → modules mac key n (c ∷ cs) i ≡ modules mac key n cs i
      → Course cs i → Course (c ∷ cs) i
  still c cs i same m w =
      record {
        up = λ k line e. up_later c cs i line.present m (w.up k line (sym (same k) ∙ e));
        unique = λ k o a b e f z. w.unique k o a b (sym (same k) ∙ e) (sym (same o) ∙ f) z;
      }

  -- ---- a call that makes or changes station k of site i, which is then t
  pub data Whose (c : Call) (cs : List Call) (i k : ℕ) (t : Station) (o : ℕ) (line : Lineage) : Type 0 where
    this : k ≡ o → line.present ≡ t → Whose c cs i k t o line
    other : (k ≡ o → ⊥) → lineage mac key n cs i o ≡ found line → Whose c cs i k t o line

  pub whose : (c : Call) (cs : List Call) (i k : ℕ) (t : Station) (f : ℕ → Found) (line : Lineage) → f k ≡ found line → line.present ≡ t → (o : ℕ) (l : Lineage)
      → pick (eqb k o) (f o) (lineage mac key n cs i o) ≡ found l → Whose c cs i k t o l
  unfolding pick
  whose c cs i k t f line is p o l = go (eqb k o) refl
    where
      go : (b : Bool) → eqb k o ≡ b → pick b (f o) (lineage mac key n cs i o) ≡ found l → Whose c cs i k t o l
      go true x y = this (eqb-true k o x) (sym (ap (λ (z : Lineage). z.present) (same_line line l (sym is ∙ ap f (eqb-true k o x) ∙ y))) ∙ p)
      go false x y = other (eqb-false k o x) y

  pub renewed : (c : Call) (cs : List Call) (i k : ℕ) (t : Station) → Course cs i → ((o : ℕ) (l : Lineage) → lineage mac key n (c ∷ cs) i o ≡ found l → Whose c cs i k t o l) → Up (c ∷ cs) i t
      → ((o : ℕ) (l : Lineage) → (k ≡ o → ⊥) → lineage mac key n cs i o ≡ found l → Up (c ∷ cs) i l.present)
      → ((o : ℕ) (l : Lineage) → (k ≡ o → ⊥) → lineage mac key n cs i o ≡ found l → l.present.identity.question ≡ t.identity.question → ⊥) → Course (c ∷ cs) i
  renewed c cs i k t w each up others apart = record { up = λ o l e. one o l (each o l e); unique = λ o p a b e f z. two o p a b (each o a e) (each p b f) z }
    where
      one : (o : ℕ) (l : Lineage) → Whose c cs i k t o l → Up (c ∷ cs) i l.present
      one o l (this x y) = subst (λ (z : Station). Up (c ∷ cs) i z) (sym y) up
      one o l (other x y) = others o l x y

      at_t : (l : Lineage) → l.present ≡ t → l.present.identity.question ≡ t.identity.question
      at_t l e = ap (λ (z : Station). z.identity.question) e

      two : (o p : ℕ) (a b : Lineage) → Whose c cs i k t o a → Whose c cs i k t p b → a.present.identity.question ≡ b.present.identity.question → o ≡ p
      two o p a b (this x y) (this v u) z = sym x ∙ v
      two o p a b (this x y) (other v u) z = absurd (apart p b v u (sym z ∙ at_t a y))
      two o p a b (other x y) (this v u) z = absurd (apart o a x y (z ∙ at_t b u))
      two o p a b (other x y) (other v u) z = w.unique o p a b y u z

  -- ---- a bundle that was written
  coded_on : (a l : List Statement) (c : List Statement) → All (Coded n l) c → All (Coded n (a ++ l)) c
  coded_on [] l c h = h
  coded_on (s ∷ a) l c h = all_map (coded_more n s (a ++ l)) c (coded_on a l c h)

  coded_later : (c : Call) (cs : List Call) (x : List Statement) → All (Coded n (reads present_form (log mac key n cs))) x → All (Coded n (reads present_form (log mac key n (c ∷ cs)))) x
  unfolding Rattle.agreement.specs.Demand.log
  coded_later c cs x h =
      let e = coded_in (site c) (view (action c)) (answer mac key n cs c) in
      subst (λ (z : List Statement). All (Coded n z) x) (sym (reads_append present_form e (log mac key n cs))) (coded_on (reads present_form e) (reads present_form (log mac key n cs)) x h)

  module _ (faulty : List ℕ) (c : Call) (cs : List Call) (J : Inv present_form G faulty (c ∷ cs)) (m : Module) (t : Station) (out : List ℕ) (k : ℕ) (s : Statement) (C : List Statement) (u : State)
      (e : answer mac key n cs c ≡ returned m t out (sends k s C u)) (w : wrote k ≡ true) (ps : Proper present_form n s) (pc : All (Proper present_form n) C) (few : length C ≤ most_statements)
      (valid : check_by (mac key) n Any (message (answer mac key n cs c)) ≡ 0) (cs_s : Coded n (reads present_form (log mac key n (c ∷ cs))) s) (cs_c : All (Coded n (reads present_form (log mac key n cs))) C) where
    message_is : message (answer mac key n cs c) ≡ bundle_of s C
    unfolding Rattle.station.specs.Calls.returned
    message_is = ap message e ∙ bundle_front present_form mac key n eight n s C out top ps pc few

    main_there : main_of (bundle_of s C) ≡ s
    unfolding Rattle.format.specs.Bundle.bundle_of
    main_there = main_is present_form n s C top ps pc few

    all_there : statements (bundle_of s C) (place_of 0) (suc (count_in (bundle_of s C))) ≡ s ∷ C
    unfolding Rattle.format.specs.Bundle.bundle_of
    all_there = all_in present_form n s C top ps pc few

    pub main_written : main_of (message (answer mac key n cs c)) ≡ s
    main_written = ap main_of message_is ∙ main_there

    pub written_spoke : (i q σ : ℕ) → site c ≡ i → s.station ≡ i → s.question ≡ q → step s ≡ σ → Spoke G (c ∷ cs) i q σ (message (answer mac key n cs c))
    unfolding Rattle.station.specs.Calls.returned
    written_spoke i q σ si a b d =
        record {
          by_call = subst (λ (z : ℕ). Wrote mac key n (c ∷ cs) z (message (answer mac key n cs c))) si (now (ap (λ (r : Returned). wrote r.number) e ∙ w));
          valid = valid;
          came = codes_came mac key n (log mac key n (c ∷ cs)) (message (answer mac key n cs c)) J.logs.sites (found_valid present_form (mac key) n (message (answer mac key n cs c)) valid).bundle
              (subst (λ (z : List ℕ). All (Coded n (reads present_form (log mac key n (c ∷ cs)))) (statements z (place_of 0) (suc (count_in z)))) (sym message_is)
              (subst (λ (z : List Statement). All (Coded n (reads present_form (log mac key n (c ∷ cs)))) z) (sym all_there) (cs_s, coded_later c cs C cs_c)));
          station = ap (λ (z : Statement). z.station) main_written ∙ a;
          asked = ap (λ (z : Statement). z.question) main_written ∙ b;
          in_step = ap step main_written ∙ d;
        }

  -- the only statement that a station holds when it has just written it was coded, and is what is held
  pub held_coded : (l : List Statement) (i : ℕ) (t : Station) (took : List Statement) (u : State) (s : Statement) → Line present_form n l i t took → t.closed ≡ false → state_of t ≡ u → u.held ≡ s ∷ [] → Coded n l s
  held_coded l i t took u s L op e h =
      let a : All (λ z. In z took) (s ∷ []) = subst (λ (z : List Statement). All (λ y. In y took) z) (ap (λ (z : State). z.held) e ∙ h) (line_open present_form n l i t took L op).among in
      (all_at (λ z. Coded n l z × Just n l z) took L.standing.facts s a.0).0

  pub held_single : (t : Station) (u : State) (s : Statement) → state_of t ≡ u → u.held ≡ s ∷ [] → (ok : Statement → Bool) → every ok (state_of t).held ≡ true → ok s ≡ true
  unfolding every
  held_single t u s e h ok all =
      (both (ok s) true (subst (λ (z : List Statement). every ok z ≡ true) (ap (λ (z : State). z.held) e ∙ h) all)).0
