-- A station takes the main statement of a valid bundle whose statements were coded: what is known of its state holds of the state that follows, and the
-- statement that it sends is justified by coded statements. No word is looked into.
use Rattle.std.specs.Prelude.{◌≡◌, Bool, ◌&&◌, List, [], ◌∷◌, ◌++◌, ℕ, ◌+◌, ◌-◌, ◌*◌, ◌≤◌, ◌<◌, eqb, length, take}
use Rattle.std.proofs.Math.Path.{refl, subst}
use Rattle.std.proofs.Common.{sym, ◌∙◌, ap, arith}
use Rattle.std.proofs.Math.Bool.{true, false}
use mathlib.Core.List.Memᴰ
use Rattle.std.proofs.Math.Dec.{ltb}
use borrow.Author.Tests.{eqb-true, eqb-false, eq-eqb, ltb-true, lt-ltb}
use Rattle.laws.specs.Pick.{pick}
use Rattle.laws.specs.Bools.{never, both, join, left, right}
use Rattle.laws.specs.All.{All, all_map, all_two, all_append}
use Rattle.laws.specs.Count.{count}
use Rattle.format.specs.Form.{Form, last_round}
use Rattle.format.specs.Numbers.{kind_init, kind_p, kind_v, none, d_get, r_get, least_stations}
use Rattle.format.specs.Group.{quorum}
use Rattle.format.specs.Statement.{Statement, step}
use Rattle.format.specs.Lists.{every}
use Rattle.format.proofs.Laws.ReadBack.{Proper}
use Rattle.rules.specs.Rules.{some_value, which, none_votes, Holds, Backed}
use Rattle.rules.specs.declared.Which.TheVariants.{Any, Only}
use Rattle.station.specs.declared.Stage.{Stage}
use Rattle.station.specs.declared.Stage.TheVariants.{Gathering, Proposing, Voting}
use Rattle.station.specs.Machine.{State, stage_step, kind_in, round_in, has_value, decided, decision_at, closes, follows, Next, began, takes, supplies_for_value, supplies_for_none, vote_value, carried, keeping, held_of, conflict, value_group, with_decision}
use Rattle.station.proofs.Laws.Insert.{insert_all, some_insert}
use Rattle.station.proofs.Laws.Sane.{Sane}
use Rattle.station.proofs.Laws.Keep.{Fitting, keep_sane, all_take, steps_p, steps_v, steps_0}
use Rattle.station.proofs.Laws.Pieces.{SomeWith, find_some}
use Rattle.station.proofs.Laws.End.{Full, full_grown, EarlyDGet, Known, known, Sendable, both_values}
use Rattle.station.proofs.Laws.Fits.{began_sane, decision_low, ready, backed}
use Rattle.station.proofs.Theorems.Written.{next_all, backed_given}
use Rattle.agreement.proofs.Maths.Log.{In, all_at}
use Rattle.agreement.proofs.Maths.Safe.{Just, Split}
use Rattle.agreement.proofs.Maths.Just.{bare, Coded, backed_just, bare_just}
use Rattle.agreement.proofs.Maths.Took.{NowHeld, votes_held, enough_before, enough_after, held_enough, all_counted, decided_every, every_decided}
use Rattle.agreement.specs.Maths.Votes.{votes}
use Rattle.agreement.proofs.Maths.Entering.{few_votes, entered_standing}
use Rattle.agreement.proofs.Maths.Standing.{Enough, Open, Standing}

-- a step that is odd is that of votes
pub record Votes (g : Stage) (r : ℕ) : Type 0 where
  pub is : g ≡ Voting (record { 0 = r })

voting_of : (g : Stage) (r : ℕ) → stage_step g ≡ 2 * r + 1 → Votes g r
voting_of Gathering r e = absurd (omega (arith, steps_0 kind_init 0 refl))
voting_of (Proposing p f) r e = absurd (omega (arith, steps_p kind_p p.0 refl))
voting_of (Voting p) r e =
    let x : p.0 ≡ r = omega (arith, steps_v kind_v p.0 refl) in
    record { is = λ i. Voting (record { 0 = x i }) }

pub steps_up : (n : ℕ) (g : Stage) (k : State) (coin : ℕ) → stage_step g < stage_step (follows n g k coin).stage
unfolding follows pick
steps_up n Gathering k coin = omega (arith, steps_0 kind_init 0 refl, steps_p kind_p 1 refl)
steps_up n (Proposing r f) k coin = omega (arith, steps_p kind_p r.0 refl, steps_v kind_v r.0 refl)
steps_up n (Voting r) k coin = go (ltb (carried k.held) none)
  where
    go : (b : Bool) → stage_step (Voting r) < stage_step (pick {A = Next} b
        (record { kind = kind_p; value = carried k.held; flag = d_get; round = r.0 + 1; first = k.for_value; second = []; stage = Proposing (record { 0 = r.0 + 1 }) d_get })
        (record { kind = kind_p; value = coin; flag = r_get; round = r.0 + 1; first = k.held; second = []; stage = Proposing (record { 0 = r.0 + 1 }) r_get })).stage
    go true = omega (arith, steps_v kind_v r.0 refl, steps_p kind_p (r.0 + 1) refl)
    go false = omega (arith, steps_v kind_v r.0 refl, steps_p kind_p (r.0 + 1) refl)

-- a decision is kept
pub kept_decision : (g : Stage) (old : ℕ) (h : List Statement) → old < none → decision_at g old h ≡ old
unfolding pick
kept_decision Gathering old h e = refl
kept_decision (Proposing r f) old h e = refl
kept_decision (Voting r) old h e = rw (lt-ltb old none e)

module _ (form : Form) (n site : ℕ) (l : List Statement) (u : State) (took : List Statement) (K : Standing form n l site u took) (still_Open : u.closed ≡ false) (m : Statement) (c : List Statement)
    (B : Fitting form n u.question u.stage m c) (new : held_of m.station u.held ≡ false) (calm : conflict u.stage (m ∷ u.held) ≡ false)
    (m_coded : Coded n l m) (c_coded : All (Coded n l) c) where
  abbrev k : State
  k = keeping n u m c

  abbrev decided_then : ℕ
  decided_then = decision_at u.stage u.lasting.decision k.held

  abbrev took1 : List Statement
  took1 = m ∷ took

  O : Open form n l site u took
  O = K.while_open still_Open

  main_just : Just n l m
  main_just =
      backed_just n l m c c_coded (all_map (λ s e. e ∙ sym B.asked) c B.alike) B.backed

  pub facts1 : All (λ s. Coded n l s × Just n l s) took1
  facts1 = ((m_coded, main_just), K.facts)

  asked1 : All (λ s. s.question ≡ u.question) took1
  asked1 = (B.asked, K.asked)

  among1 : All (λ s. In s took1) k.held
  among1 = insert_all (λ s. In s took1) m u.held (Memᴰ.head refl) (all_map (λ s p. Memᴰ.tail p) u.held O.among)

  pub held_facts : All (λ s. Coded n l s × Just n l s) k.held
  held_facts = all_map (λ s p. all_at (λ s. Coded n l s × Just n l s) took1 facts1 s p) k.held among1

  group_coded : (b : Bool) (d : List Statement) → All (Coded n l) d → All (Coded n l) (pick b (take (quorum n) c) d)
  unfolding pick
  group_coded true d a = all_take (Coded n l) (quorum n) c c_coded
  group_coded false d a = a

  first1 : All (Coded n l) k.for_value
  first1 = group_coded (takes (supplies_for_value u.stage) u.held m) u.for_value O.for_value_coded

  second1 : All (Coded n l) k.for_none
  second1 = group_coded (takes (supplies_for_none u.stage) u.held m) u.for_none O.for_none_coded

  -- the certificate of what follows was coded
  pub parts_coded : (coin : ℕ) (g : Stage) → All (Coded n l) (follows n g k coin).first × All (Coded n l) (follows n g k coin).second
  parts_coded coin g = next_all (Coded n l) n k coin (all_map (λ s p. p.0) k.held held_facts) first1 second1 g

  main_step : step m ≡ stage_step u.stage
  main_step = B.in_step

  upto1 : All (λ s. step s ≤ stage_step u.stage) took1
  upto1 = (omega (arith, main_step), O.upto)

  now1 : NowHeld (stage_step u.stage) k.held took1
  now1 = (
    (λ e. some_insert (λ h. has_value m.value h && eqb h.station m.station) m u.held
        ∙ left (has_value m.value m && eqb m.station m.station) _
        (join (has_value m.value m) _ (eq-eqb m.value m.value refl) (eq-eqb m.station m.station refl))),
    all_map (λ s f e. some_insert (λ h. has_value s.value h && eqb h.station s.station) m u.held
        ∙ right (has_value s.value m && eqb m.station s.station) _ (f e)) took O.now_held,
  )

  named1 : (v : ℕ) → v < none → u.lasting.decision ≡ v → Enough n took1 u.question v
  named1 v low e =
      let E = K.named v low e in
      record { round = E.round; enough = enough_after u.question E.round v n (quorum n) m took E.enough }

  -- enough votes of another step were there before
  names_before : (v r : ℕ) → v < none → (stage_step u.stage ≡ 2 * r + 1 → ⊥) → quorum n ≤ count (votes took1 u.question r v) n → u.lasting.decision < none
  names_before v r low ne enough =
      K.names v r low (enough_before u.question r v n (quorum n) m took (λ e. ne (sym main_step ∙ e)) enough)

  -- ---- kept
  names_kept : length k.held < quorum n → (v r : ℕ) → v < none → quorum n ≤ count (votes took1 u.question r v) n → u.lasting.decision < none
  names_kept few v r low enough = go (eqb (stage_step u.stage) (2 * r + 1)) refl
    where
      go : (b : Bool) → eqb (stage_step u.stage) (2 * r + 1) ≡ b → u.lasting.decision < none
      go true e = absurd (few_votes n u.question k.held took1 (stage_step u.stage) v r now1 few (eqb-true _ _ e) enough)
      go false e = names_before v r low (eqb-false _ _ e) enough

  given1 : EarlyDGet k.held
  given1 = insert_all (λ s. s.round ≡ 1 → s.kind ≡ kind_p → s.flag ≡ d_get) m u.held (backed_given n m c B.backed) O.given

  pub kept_standing : length k.held < quorum n → Standing form n l site k took1
  kept_standing few =
      record {
        facts = facts1;
        asked = asked1;
        low = K.low;
        named = named1;
        names = names_kept few;
        while_open = λ e.
            record {
              sane = keep_sane form n site u m c O.sane B new few;
              given = given1;
              among = among1;
              for_value_coded = first1;
              for_none_coded = second1;
              upto = upto1;
              now_held = now1;
            };
      }

  -- ---- the end of the step
  module _ (size : length k.held ≡ quorum n) where
    F : Full form n k
    F = full_grown form n site u m c O.sane B new calm size

    -- enough votes of the step: all that are held
    every_held : (v r : ℕ) → stage_step u.stage ≡ 2 * r + 1 → quorum n ≤ count (votes took1 u.question r v) n → every (has_value v) k.held ≡ true
    every_held v r e enough =
        all_counted (has_value v) k.held
        (omega (arith, size, votes_held u.question r v k.held took1 n (subst (λ (z : ℕ). NowHeld z k.held took1) e now1)))

    -- what is decided first, or was before
    decided_first : (r v : ℕ) → v < none → every (has_value v) k.held ≡ true → decision_at (Voting (record { 0 = r })) u.lasting.decision k.held < none
    unfolding pick
    decided_first r v low all = go (ltb u.lasting.decision none) refl
      where
        go : (b : Bool) → ltb u.lasting.decision none ≡ b → pick b u.lasting.decision (decided k.held) < none
        go true x = ltb-true _ _ x
        go false x = every_decided k.held v low all

    pub names_ended : (v r : ℕ) → v < none → quorum n ≤ count (votes took1 u.question r v) n → decided_then < none
    names_ended v r low enough = go (eqb (stage_step u.stage) (2 * r + 1)) refl
      where
        go : (b : Bool) → eqb (stage_step u.stage) (2 * r + 1) ≡ b → decided_then < none
        go true e =
            let x = eqb-true (stage_step u.stage) (2 * r + 1) e in
            subst (λ (g : Stage). decision_at g u.lasting.decision k.held < none) (sym (voting_of u.stage r x).is) (decided_first r v low (every_held v r x enough))
        go false e =
            let y : u.lasting.decision < none = names_before v r low (eqb-false _ _ e) enough in
            subst (λ (d : ℕ). d < none) (sym (kept_decision u.stage u.lasting.decision k.held y)) y

    -- a decision is what q votes said
    voted_enough : (r v : ℕ) → u.stage ≡ Voting (record { 0 = r }) → every (has_value v) k.held ≡ true → Enough n took1 u.question v
    voted_enough r v e all =
        let g : k.stage ≡ Voting (record { 0 = r }) = e in
        record {
          round = r;
          enough = omega (
            arith,
            size,
            held_enough u.question r v n k.held took1 F.rising
                (all_map (λ s p. ((p.0.formed.low, p.0.formed.high), (p.1.0, (p.0.kind ∙ ap kind_in g, (p.1.1.0, p.0.round ∙ ap round_in g))))) k.held
                (all_two (Known form n k.stage) (λ s. In s took1 × ((s.question ≡ k.question) × (step s ≡ stage_step k.stage))) k.held (known form n k F)
                (all_two (λ s. In s took1) (λ s. (s.question ≡ k.question) × (step s ≡ stage_step k.stage)) k.held among1 F.alike))) all,
          );
        }

    pub named_ended : (v : ℕ) → v < none → decided_then ≡ v → Enough n took1 u.question v
    unfolding pick
    named_ended v low e = go u.stage refl e
      where
        counted : (r : ℕ) → u.stage ≡ Voting (record { 0 = r }) → (b : Bool) → ltb u.lasting.decision none ≡ b → pick b u.lasting.decision (decided k.held) ≡ v → Enough n took1 u.question v
        counted r g true x y = named1 v low y
        counted r g false x y = voted_enough r v g (decided_every k.held v y low)

        go : (g : Stage) → u.stage ≡ g → decision_at g u.lasting.decision k.held ≡ v → Enough n took1 u.question v
        go Gathering g y = named1 v low y
        go (Proposing r f) g y = named1 v low y
        go (Voting r) g y = counted r.0 g (ltb u.lasting.decision none) refl y

    low_ended : decided_then ≤ none
    low_ended = decision_low u.stage u.lasting.decision k.held K.low

    -- closed
    pub shut_standing : (v : State) → v.question ≡ u.question → v.closed ≡ true → v.lasting.decision ≡ decided_then → Standing form n l site v took1
    shut_standing v q closed d =
        record {
          facts = facts1;
          asked = subst (λ (x : ℕ). All (λ s. s.question ≡ x) took1) (sym q) asked1;
          low = subst (λ (x : ℕ). x ≤ none) (sym d) low_ended;
          named = λ w low e. subst (λ (x : ℕ). Enough n took1 x w) (sym q) (named_ended w low (sym d ∙ e));
          names = λ w r low enough. subst (λ (x : ℕ). x < none) (sym d) (names_ended w r low (subst (λ (x : ℕ). quorum n ≤ count (votes took1 x r w) n) q enough));
          while_open = λ e. never v.closed e closed;
        }

    -- ---- sent: the station's own statement, as it follows
    module _ (coin : ℕ) (bit : coin < 2) (more : closes (last_round form) u.stage ≡ false) (big : least_stations ≤ n) (s : Statement) (p : Proper form n s) (mine : s.station ≡ site) (low : 1 ≤ s.station) (high : s.station ≤ n)
        (on : s.question ≡ u.question) (kind≡ : s.kind ≡ (follows n u.stage k coin).kind) (value≡ : s.value ≡ (follows n u.stage k coin).value)
        (flag≡ : s.flag ≡ (follows n u.stage k coin).flag) (round≡ : s.round ≡ (follows n u.stage k coin).round) where
      abbrev x : Next
      x = follows n u.stage k coin

      abbrev c2 : List Statement
      c2 = x.first ++ x.second

      R : Sendable form n u.question x
      R = ready form n k F coin bit u.stage refl more

      s_backed : Backed n s c2
      s_backed = backed form n k F coin bit given1 u.stage refl more s kind≡ value≡ flag≡ round≡

      c2_coded : All (Coded n l) c2
      c2_coded = all_append (Coded n l) x.first x.second (parts_coded coin u.stage).0 (parts_coded coin u.stage).1

      c2_asked : All (λ y. y.question ≡ u.question) c2
      c2_asked = all_append (λ y. y.question ≡ u.question) x.first x.second R.alike R.more_alike

      -- the statement sent is justified by what was coded before
      pub sent_just : Just n l s
      sent_just = backed_just n l s c2 c2_coded (all_map (λ y e. e ∙ sym on) c2 c2_asked) s_backed

      -- and a none vote had both values among justified proposals
      pub sent_split : s.kind ≡ kind_v → s.value ≡ none → Split n l s.question s.round
      unfolding follows pick
      sent_split a b =
          subst (λ (q : ℕ). Split n l q s.round) (sym on)
          (subst (λ (r : ℕ). Split n l u.question r) (sym round≡) (go u.stage refl (sym kind≡ ∙ a) (sym value≡ ∙ b)))
        where
          Fact : Statement → Type 0
          Fact y = (Coded n l y × Just n l y) × (Known form n k.stage y × ((y.question ≡ k.question) × (step y ≡ stage_step k.stage)))

          all_facts : All Fact k.held
          all_facts =
              all_two (λ y. Coded n l y × Just n l y) (λ y. Known form n k.stage y × ((y.question ≡ k.question) × (step y ≡ stage_step k.stage))) k.held held_facts
              (all_two (Known form n k.stage) (λ y. (y.question ≡ k.question) × (step y ≡ stage_step k.stage)) k.held (known form n k F) F.alike)

          one : (v : ℕ) → some_value v k.held ≡ true → SomeWith Fact (λ y. which (Only v) y.value && which Any y.flag)
          one v e = find_some Fact (λ y. which (Only v) y.value && which Any y.flag) k.held all_facts e

          split : (r f : ℕ) → u.stage ≡ Proposing (record { 0 = r }) f → vote_value k.held ≡ none → Split n l u.question r
          split r f g e =
              let gk : k.stage ≡ Proposing (record { 0 = r }) f = g in
              let w = both_values form n k F r f gk e in
              let z = one 0 w.0 in
              let o = one 1 w.1 in
              record {
                a = bare z.one;
                b = bare o.one;
                a_in = z.has.0.0.mem;
                b_in = o.has.0.0.mem;
                a_just = bare_just n l z.one z.has.0.1;
                b_just = bare_just n l o.one o.has.0.1;
                a_kind = z.has.1.0.kind ∙ ap kind_in gk;
                b_kind = o.has.1.0.kind ∙ ap kind_in gk;
                a_qn = z.has.1.1.0;
                b_qn = o.has.1.1.0;
                a_rnd = z.has.1.0.round ∙ ap round_in gk;
                b_rnd = o.has.1.0.round ∙ ap round_in gk;
                apart = λ same. omega (arith, eqb-true z.one.value 0 (both (eqb z.one.value 0) true z.passes).0, eqb-true o.one.value 1 (both (eqb o.one.value 1) true o.passes).0);
              }

          go : (g : Stage) → u.stage ≡ g → (follows n g k coin).kind ≡ kind_v → (follows n g k coin).value ≡ none → Split n l u.question (follows n g k coin).round
          go Gathering g a b = absurd (omega arith)
          go (Proposing r f) g a b = split r.0 f g b
          go (Voting r) g a b = absurd (no_vote (ltb (carried k.held) none) a)
            where
              no_vote : (c : Bool) → (pick {A = Next} c
                  (record { kind = kind_p; value = carried k.held; flag = d_get; round = r.0 + 1; first = k.for_value; second = []; stage = Proposing (record { 0 = r.0 + 1 }) d_get })
                  (record { kind = kind_p; value = coin; flag = r_get; round = r.0 + 1; first = k.held; second = []; stage = Proposing (record { 0 = r.0 + 1 }) r_get })).kind ≡ kind_v → ⊥
              no_vote true z = omega arith
              no_vote false z = omega arith

      s_step : step s ≡ stage_step x.stage
      unfolding step
      s_step = λ i. Rattle.format.specs.Words.step_of ((kind≡ ∙ R.kind) i) ((round≡ ∙ R.round) i)

      sent_sane : Sane form n site (began n u.question (with_decision decided_then u.lasting) x.stage s c2)
      sent_sane =
          began_sane form n site u.question (with_decision decided_then u.lasting) x.stage s c2 big p mine low on s_step R.rounds (R.flag s flag≡) low_ended
          (all_append (Proper form n) x.first x.second R.proper R.more_proper) c2_asked
          (λ e. subst (λ (c : List Statement). Holds (value_group n x.stage s.value) c) (sym R.front)
          (subst (λ (v : ℕ). Holds (value_group n x.stage v) x.first) (sym value≡) (R.for_value s value≡ flag≡ e)))
          (λ e. subst (λ (c : List Statement). Holds (none_votes n (round_in x.stage - 1)) c) (sym R.front) (R.for_none s value≡ flag≡ e))

      pub sent_standing : Standing form n (bare s ∷ l) site (began n u.question (with_decision decided_then u.lasting) x.stage s c2) (s ∷ took1)
      sent_standing =
          entered_standing form n site u.question (with_decision decided_then u.lasting) l x.stage s c2 took1 big low high on s_step (stage_step u.stage) (steps_up n u.stage k coin) upto1 facts1 asked1 c2_coded c2_asked
          s_backed low_ended named_ended names_ended sent_sane
