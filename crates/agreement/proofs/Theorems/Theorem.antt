-- Demand 3, proved: for either form, every n that it takes, key and list of calls that meets the premises, the claim holds.
use Rattle.std.proofs.Math.Path.{◌≡◌, refl, subst}
use Rattle.std.proofs.Common.{sym, ◌∙◌, ap, arith}
use Rattle.std.proofs.Math.Bool.{Bool, true, false}
use Rattle.std.specs.Prelude.{not, ◌&&◌, ◌||◌, ℕ, suc, ◌-◌, ◌/◌, ◌≤◌, ◌<◌, ltb, length, get_or}
use mathlib.Core.List.{List, [], ◌∷◌}
use Rattle.std.proofs.Math.Dec.{eqb}
use borrow.Author.Tests.{eqb-true, eqb-false, eq-eqb, ltb-true, ltb-false}
use Rattle.laws.specs.Pick.{pick}
use Rattle.laws.specs.Bools.{never, both, join, left, right, twice_not}
use Rattle.laws.specs.All.{All, all_map, all_two}
use Rattle.laws.specs.Count.{count, meet, every_one}
use Rattle.format.specs.Form.{Form}
use Rattle.format.specs.Numbers.{kind_init, kind_p, kind_v, none, d_get, conflicting, code_words}
use Rattle.format.specs.Group.{quorum, backing, most_faulty}
use Rattle.format.specs.Words.{kind_of, value_of}
use Rattle.format.specs.Statement.{Statement, statement, statements, step}
use Rattle.format.specs.Lists.{some}
use Rattle.hmac.specs.Code.{hmac_code}
use Rattle.hmac.specs.Code.{hmac_eight}
use Rattle.format.specs.Bundle.{count_in, main_of, certificate_of}
use Rattle.format.proofs.Laws.Layout.{all_well}
use Rattle.format.proofs.Laws.Shape.{Shape, init, proposal, vote, Formed, formed_out}
use Rattle.modules.specs.declared.Module.{Module}
use Rattle.station.specs.declared.Stage.{Stage}
use Rattle.station.specs.declared.Stage.TheVariants.{Gathering, Proposing, Voting}
use Rattle.station.specs.declared.Station.{Station}
use Rattle.station.specs.Machine.{conflict, has_value, kind_in, round_in, stage_step}
use Rattle.station.specs.Words.{state_of}
use Rattle.station.specs.Calls.{Returned}
use Rattle.format.proofs.Laws.ReadBack.{Proper}
use Rattle.station.proofs.Laws.Sane.{Sane}
use Rattle.station.proofs.Laws.Keep.{same_step}
use Rattle.station.proofs.Laws.Pieces as P
use Rattle.station.proofs.Laws.Views.{conflicts, Nearly}
use Rattle.station.specs.Returns.{unrefused}
use Rattle.station.specs.Demand.{OfGroup}
use Rattle.agreement.proofs.Maths.Counting.{count_mono}
use Rattle.agreement.proofs.Maths.Log.{In, is, has, has_out, has_at, Supp, all_at}
use Rattle.agreement.proofs.Maths.Safe as Safe
use Rattle.agreement.proofs.Maths.Safe.{Just, Split, LogOk, Decided}
use Rattle.agreement.proofs.Maths.Just.{bare, Coded, backed_just}
use Rattle.agreement.proofs.Maths.Took.{vote_out}
use Rattle.agreement.proofs.Laws.Ground.{Ground}
use Rattle.agreement.proofs.Laws.Sites.{member_few, without, without_few, without_self, without_other, without_more}
use Rattle.agreement.proofs.Laws.Effect.{plain_effect, toss_effect}
use Rattle.agreement.proofs.Laws.Line.{reads, AtSite, whole_came, Line, line_asked, line_low, line_named, line_names, line_open}
use Rattle.agreement.proofs.Maths.Standing.{Enough, Open}
use Rattle.agreement.proofs.Laws.Invariant.{start}
use Rattle.agreement.proofs.Laws.Settings.{setting_known}
use Rattle.agreement.proofs.Laws.Run.{Inv, apart_step, open_step, give_step}
use Rattle.agreement.specs.Maths.Votes.{is_vote, votes}
use Rattle.agreement.specs.Demand.{opens, gives, codes, tosses, Call, call, site, action, View, starting, going_on, apart, view, Entry, is_statement, Lineage, Found, found, started, gave, went, member, proposed, act, modules, answer, log, openings, lineage, Presents, Sound, JumpOff, AllOff, FewFaulty, CodesCame, Given, Decides, Claim, Demand3}

module _ (form : Form) where
  module _ (G : Ground form) where
    open G use {mac, key, n, low, top}

    -- ---- the invariant of a list, for a list of sites outside which all are sound
    abbrev pub AllSound : List ℕ → List Call → Type 0
    AllSound faulty cs = (i : ℕ) → 1 ≤ i → i ≤ n → member i faulty ≡ false → Sound form mac key n i cs

    pub inv : (faulty : List ℕ) (cs : List Call) → Given form mac key n cs → AllSound faulty cs → Inv form G faulty cs
    unfolding Given Sound log lineage modules
    inv faulty [] g s = record { logs = start form key n faulty (λ i q. JumpOff form mac key n i q []) low top; lines = λ i k line a b h e. absurd (let z : ◌≡◌ {A = ℕ} 0 1 = cc in omega arith) }
    inv faulty (call j (opens q v setting out) ∷ cs) g s =
        open_step form G faulty j q v setting out cs g.0.0 g.0.1 (inv faulty cs g.1.1 (λ i a b h. (s i a b h).1))
    inv faulty (call j (gives o t ws coin out) ∷ cs) g s =
        give_step form G faulty j o t ws coin out cs g.0.0 g.0.1 (inv faulty cs g.1.1 (λ i a b h. (s i a b h).1)) g.1.0.0 g.1.0.1
        (λ h u. (s j g.0.0 g.0.1 h).0 refl u)
        (λ h u on off. let p = (s j g.0.0 g.0.1 h).0 refl u in
        setting_known form mac key n cs g.1.1 j o p.line (s j g.0.0 g.0.1 h).1 p.is (ap (λ (x : Station). x.lasting.jump) p.now ∙ on)
        (subst (λ (x : Station). JumpOff form mac key n j x.identity.question cs) (sym p.now) off))
    inv faulty (call j (codes ws) ∷ cs) g s =
        apart_step form G faulty j (codes ws) cs refl (plain_effect form G (modules form mac key n cs j) j ws) g.0.0 g.0.1 (inv faulty cs g.1.1 (λ i a b h. (s i a b h).1))
        (λ h e. (s j g.0.0 g.0.1 h).0 refl e)
    inv faulty (call j (tosses ws coin) ∷ cs) g s =
        apart_step form G faulty j (tosses ws coin) cs refl (toss_effect form G (modules form mac key n cs j) j ws coin) g.0.0 g.0.1 (inv faulty cs g.1.1 (λ i a b h. (s i a b h).1))
        (λ h e. (s j g.0.0 g.0.1 h).0 refl e)

    -- a station belongs to a site of the group
    by_site : (j i : ℕ) (x y : Bool) (a b : Found) (line : Lineage) → (1 ≤ j) × (j ≤ n) → (b ≡ found line → (1 ≤ i) × (i ≤ n)) → pick (eqb j i && x && y) a b ≡ found line
        → (1 ≤ i) × (i ≤ n)
    unfolding pick
    by_site j i x y a b line r ih e = go (eqb j i) refl (eqb j i && x && y) refl e
      where
        go : (c : Bool) → eqb j i ≡ c → (d : Bool) → (eqb j i && x && y) ≡ d → pick d a b ≡ found line → (1 ≤ i) × (i ≤ n)
        go true z d w e = let s : j ≡ i = eqb-true j i z in (omega (arith, r.0), omega (arith, r.1))
        go false z true w e = never (eqb j i) z (both (eqb j i) x (both (eqb j i && x) y w).0).0
        go false z false w e = ih e

    by_view : (v : View) (j i : ℕ) (x : Bool) (r : Returned) (o k : ℕ) (f : Found) (line : Lineage) → (1 ≤ j) × (j ≤ n) → (f ≡ found line → (1 ≤ i) × (i ≤ n))
        → went form v (eqb j i && x) r o k f ≡ found line → (1 ≤ i) × (i ≤ n)
    by_view (starting q setting) j i x r o k f line range ih e = by_site j i x (eqb o k) (started form r) f line range ih e
    by_view (going_on h t ws) j i x r o k f line range ih e = by_site j i x (eqb h k) (gave form r ws f) f line range ih e
    by_view apart j i x r o k f line range ih e = ih e

    pub in_group : (cs : List Call) → Given form mac key n cs → (i k : ℕ) (line : Lineage) → lineage form mac key n cs i k ≡ found line → (1 ≤ i) × (i ≤ n)
    unfolding Given lineage
    in_group [] g i k line e = absurd (let z : ◌≡◌ {A = ℕ} 0 1 = cc in omega arith)
    in_group (c ∷ cs) g i k line e =
        by_view (view (action c)) (site c) i (unrefused (answer form mac key n cs c).number) (answer form mac key n cs c) (openings form mac key n cs i) k (lineage form mac key n cs i k) line g.0
        (in_group cs g.1.1 i k line) e

    -- ---- from the invariant to the claims
    module _ (faulty : List ℕ) (few : length faulty ≤ most_faulty n) (cs : List Call) (I : Inv form G faulty cs) where
      abbrev l : List Statement
      l = reads form (log form mac key n cs)

      abbrev pub sound : ℕ → Bool
      sound i = not (member i faulty)

      not_sound : (b : Bool) → not b ≡ true → b ≡ false
      not_sound true e = never false refl e
      not_sound false e = refl

      pub bad_few : count (λ i. not (sound i)) n ≤ (n - 1) / 2
      bad_few = omega (arith, member_few faulty n, count_mono (λ i. not (sound i)) (λ i. member i faulty) (λ i e. twice_not (member i faulty) e) n)

      pub log_ok : LogOk n sound l
      log_ok =
          record {
            distinct = I.logs.distinct;
            small = λ s i k. bit s k (all_at (Formed form n) l I.logs.formed s i).shape;
            just = λ s i h. all_at (λ s. member s.station faulty ≡ false → Just n l s) l I.logs.just s i (not_sound _ h);
          }
        where
          bit : (s : Statement) → s.kind ≡ kind_p → Shape form s → s.value < 2
          bit s k (init a b c d) = c
          bit s k (proposal a b c d e) = d
          bit s k (vote a b c d e) = absurd (omega arith)

      -- enough votes among what a station took were coded
      took_supp : (took : List Statement) (q r v : ℕ) → All (λ s. Coded n l s × Just n l s) took → quorum n ≤ count (votes took q r v) n → Supp n l kind_v q r v (quorum n)
      took_supp took q r v a e = omega (arith, count_mono (votes took q r v) (has l kind_v q r v) (λ i h. coded i h) n)
        where
          coded : (i : ℕ) → votes took q r v i ≡ true → has l kind_v q r v i ≡ true
          coded i h =
              let f = P.find_some (λ s. Coded n l s × Just n l s) (is_vote q r v i) took a h in
              let w = vote_out q r v i f.one f.passes in
              subst (λ (x : ℕ). has l kind_v q r v x ≡ true) w.station (has_at (bare f.one) l f.has.0.mem w.kind w.question w.round w.value)

      -- votes are of round 1 or later
      from_1 : (q r v : ℕ) → Supp n l kind_v q r v (quorum n) → 1 ≤ r
      from_1 q r v s =
          let m = meet (has l kind_v q r v) (λ i. true) n (omega (arith, every_one n)) in
          let h = has_out l kind_v q r v m.at m.in_first in
          late h.one h.kind≡ h.round≡ (all_at (Formed form n) l I.logs.formed h.one h.mem).shape
        where
          late : (s : Statement) → s.kind ≡ kind_v → s.round ≡ r → Shape form s → 1 ≤ r
          late s k e (init a b c d) = absurd (omega arith)
          late s k e (proposal a b c d f) = absurd (omega arith)
          late s k e (vote a b c d f) = omega arith

      decided_by : (took : List Statement) (q r v : ℕ) → v < none → All (λ s. Coded n l s × Just n l s) took → quorum n ≤ count (votes took q r v) n → Decided n l q v
      decided_by took q r v b a e = let s = took_supp took q r v a e in record { round = r; from1 = from_1 q r v s; small = b; votes = s }

      known : (i k : ℕ) (line : Lineage) → Given form mac key n cs → member i faulty ≡ false → lineage form mac key n cs i k ≡ found line → Line form n l i line.present line.took
      known i k line g h e = let r = in_group cs g i k line e in I.lines i k line r.0 r.1 h e

      decided : Given form mac key n cs → (i k q v : ℕ) → member i faulty ≡ false → Decides form mac key n cs i k q v → Decided n l q v
      decided g i k q v h d = decided_by d.line.took q d.round v d.bit (known i k d.line g h d.is).standing.facts d.enough

      agree : Given form mac key n cs → (i j k o q v w : ℕ) → member i faulty ≡ false → member j faulty ≡ false → Decides form mac key n cs i k q v → Decides form mac key n cs j o q w → v ≡ w
      agree g i j k o q v w hi hj d e = Safe.agreement n sound l bad_few low log_ok q v w (decided g i k q v hi d) (decided g j o q w hj e)

      -- a coded INIT was proposed
      proposed_in : (es : List Entry) → All (AtSite form) es → (q v i : ℕ) → has (reads form es) kind_init q 0 v i ≡ true → proposed form es q v i ≡ true
      unfolding reads has some pick
      proposed_in [] a q v i h = h
      proposed_in (e ∷ es) a q v i h = by_kind (is_statement form e) refl h (proposed_in es a.1 q v i)
        where
          here : Bool
          here = is_statement form e && eqb e.at i && eqb (kind_of (get_or e.words 0 0)) kind_init && eqb (value_of (get_or e.words 0 0)) v && eqb (get_or e.words 1 0) q

          go : is_statement form e ≡ true → (b : Bool) → is kind_init q 0 v i (statement form e.words 0) ≡ b → (b || has (reads form es) kind_init q 0 v i) ≡ true
              → (has (reads form es) kind_init q 0 v i ≡ true → proposed form es q v i ≡ true) → (here || proposed form es q v i) ≡ true
          go w true x y ih =
              let s = statement form e.words 0 in
              let c = both (eqb s.station i) _ x in
              let d = both (eqb s.kind kind_init) _ c.1 in
              let f = both (eqb s.question q) _ d.1 in
              let g = both (eqb s.round 0) _ f.1 in
              left here _
              (join (is_statement form e && eqb e.at i && eqb s.kind kind_init && eqb s.value v) _
              (join (is_statement form e && eqb e.at i && eqb s.kind kind_init) _
              (join (is_statement form e && eqb e.at i) _ (join (is_statement form e) _ w (eq-eqb _ _ ((a.0 w).0 ∙ eqb-true _ _ c.0))) d.0) g.1) f.0)
          go w false x y ih = right here _ (ih y)

          by_kind : (b : Bool) → is_statement form e ≡ b → has (pick b (statement form e.words 0 ∷ reads form es) (reads form es)) kind_init q 0 v i ≡ true
              → (has (reads form es) kind_init q 0 v i ≡ true → proposed form es q v i ≡ true) → (here || proposed form es q v i) ≡ true
          by_kind true w h ih = go w (is kind_init q 0 v i (statement form e.words 0)) refl h ih
          by_kind false w h ih = right here _ (ih h)

      -- where no sound site jumps on the question, its none votes of round 1 had two values before them
      no_jumps : (q : ℕ) → ((x : ℕ) → 1 ≤ x → x ≤ n → member x faulty ≡ false → JumpOff form mac key n x q cs) → Safe.Splits n sound l bad_few low log_ok q 1
      no_jumps q off s i h a b c d =
          let f = all_at (Formed form n) l I.logs.formed s i in
          let m : member s.station faulty ≡ false = not_sound _ h in
          all_at (λ s. member s.station faulty ≡ false → JumpOff form mac key n s.station s.question cs → s.kind ≡ kind_v → s.value ≡ none → Split n l s.question s.round) l I.logs.split s i m
          (subst (λ (z : ℕ). JumpOff form mac key n s.station z cs) (sym c) (off s.station f.low f.high m)) a b

      back : Given form mac key n cs → (i k q v : ℕ) → member i faulty ≡ false → ((x : ℕ) → 1 ≤ x → x ≤ n → member x faulty ≡ false → JumpOff form mac key n x q cs) → Decides form mac key n cs i k q v
          → backing n v ≤ count (proposed form (log form mac key n cs) q v) n
      back g i k q v h off d =
          omega (
            arith,
            Safe.backed n sound l bad_few low log_ok q v (no_jumps q off) (decided g i k q v h d),
            count_mono (has l kind_init q 0 v) (proposed form (log form mac key n cs) q v) (proposed_in (log form mac key n cs) I.logs.sites q v) n,
          )

      -- ---- a station's decision
      enough_decides : (i k v : ℕ) (line : Lineage) → lineage form mac key n cs i k ≡ found line → v < none → Enough n line.took line.present.identity.question v
          → Decides form mac key n cs i k line.present.identity.question v
      enough_decides i k v line e b E = record { line = line; is = e; bit = b; round = E.round; enough = E.enough }

      -- what is decided is decided on the station's question
      on_question : (t : Station) (took : List Statement) (q r v : ℕ) → All (λ s. s.question ≡ t.identity.question) took → quorum n ≤ count (votes took q r v) n → q ≡ t.identity.question
      on_question t took q r v a e =
          let m = meet (votes took q r v) (λ i. true) n (omega (arith, every_one n)) in
          let f = P.find_some (λ s. s.question ≡ t.identity.question) (is_vote q r v m.at) took a m.in_first in
          sym (vote_out q r v m.at f.one f.passes).question ∙ f.has

      name_it : Given form mac key n cs → (i k q v : ℕ) (line : Lineage) → member i faulty ≡ false → lineage form mac key n cs i k ≡ found line → Decides form mac key n cs i k q v → line.present.lasting.decision ≡ v
      name_it g i k q v line h e d =
          let L = known i k line g h e in
          let same : d.line ≡ line = cc d.is in
          let enough : quorum n ≤ count (votes line.took q d.round v) n = subst (λ (x : Lineage). quorum n ≤ count (votes x.took q d.round v) n) same d.enough in
          let at_q : q ≡ line.present.identity.question = on_question line.present line.took q d.round v (line_asked form n l i line.present line.took L) enough in
          let named : line.present.lasting.decision < none
          = line_names form n l i line.present line.took L v d.round d.bit (subst (λ (x : ℕ). quorum n ≤ count (votes line.took x d.round v) n) at_q enough) in
          let other = enough_decides i k line.present.lasting.decision line e named (line_named form n l i line.present line.took L line.present.lasting.decision named refl) in
          sym (agree g i i k k line.present.identity.question v line.present.lasting.decision h h (subst (λ (x : ℕ). Decides form mac key n cs i k x v) at_q d) other)

      -- ---- 10 at a sound site's own station
      module _ (g : Given form mac key n cs) (i k : ℕ) (t : Station) (ws : List ℕ) (coin : ℕ) (out : List ℕ) (h : member i faulty ≡ false) (p : Presents form mac key n cs i k t)
          (came : CodesCame form mac key n (log form mac key n cs) ws) where
        two : (q r : ℕ) → Supp n l kind_p q r 0 (quorum n) → Supp n l kind_p q r 1 (quorum n) → ⊥
        two q r a b = let e : ◌≡◌ {A = ℕ} 0 1 = Safe.same n sound l bad_few low log_ok kind_p q r 0 1 a b in omega arith

        abbrev m : Module
        m = modules form mac key n cs i

        known_here : Line form n l i t p.line.took
        known_here = subst (λ (x : Station). Line form n l i x p.line.took) p.now (known i k p.line g h p.is)

        range_i : (1 ≤ i) × (i ≤ n)
        range_i = in_group cs g i k p.line p.is

        mine : OfGroup key n i m
        mine = I.logs.mods i range_i.0 range_i.1

        -- what is known of the new statement and of those held
        abbrev Fact : Stage → ℕ → Statement → Type 0
        Fact st q s = Just n l s × ((s.kind ≡ kind_in st) × ((s.round ≡ round_in st) × (s.question ≡ q)))

        module _ (N : Nearly form mac m t ws coin out known_here.lengths) where
          abbrev st : Stage
          st = (state_of form t).stage

          abbrev q : ℕ
          q = (state_of form t).question

          O : Open form n l i (state_of form t) p.line.took
          O = line_open form n l i t p.line.took known_here N.cleared.still_open

          sane : Sane form n i (state_of form t)
          sane = O.sane

          main_coded : Coded m.n l (main_of form ws) × All (Coded m.n l) (certificate_of form ws)
          unfolding statements
          main_coded =
              whole_came form mac m.key m.n (log form mac key n cs) ws (subst (λ (x : List ℕ). CodesCame form mac x m.n (log form mac key n cs) ws) (sym mine.same_key) came)
              (suc (count_in ws)) (omega (arith, N.cleared.bundle.size)) N.cleared.bundle.fields (all_well form m.n ws 1 (suc (count_in ws)) N.cleared.bundle.fields) N.cleared.codes

          main_fact : Fact st q (main_of form ws)
          main_fact =
              let j : Just m.n l (main_of form ws)
              = backed_just m.n l (main_of form ws) (certificate_of form ws) main_coded.1 (all_map (λ s e. e ∙ sym N.fitting.asked) (certificate_of form ws) N.fitting.alike) N.fitting.backed in
              let e = same_step form (main_of form ws) st (formed_out form m.n (main_of form ws) N.fitting.proper.formed).shape sane.rounds N.fitting.in_step in
              (subst (λ (x : ℕ). Just x l (main_of form ws)) mine.same_n j, (e.0, (e.1, N.fitting.asked)))

          held_fact : All (Fact st q) (state_of form t).held
          held_fact =
              all_map (λ s x. let e = same_step form s st (formed_out form n s x.0.formed).shape sane.rounds x.1.1.1 in
              ((all_at (λ s. Coded n l s × Just n l s) p.line.took known_here.standing.facts s x.1.0).1, (e.0, (e.1, x.1.1.0)))) (state_of form t).held
              (all_two (Proper form n) (λ s. In s p.line.took × ((s.question ≡ q) × (step s ≡ stage_step st))) (state_of form t).held sane.proper
              (all_two (λ s. In s p.line.took) (λ s. (s.question ≡ q) × (step s ≡ stage_step st)) (state_of form t).held O.among sane.alike))

          no_clash : (g : Stage) (hs : List Statement) → All (Fact g q) hs → conflict g hs ≡ true → ⊥
          unfolding conflict
          no_clash Gathering hs a e = never false refl e
          no_clash (Voting r) hs a e =
              let b = both (some (has_value 0) hs) _ e in
              two q r.0 (voted 0 (omega arith) (P.find_some (Fact (Voting r) q) (has_value 0) hs a b.0)) (voted 1 (omega arith) (P.find_some (Fact (Voting r) q) (has_value 1) hs a b.1))
            where
              voted : (v : ℕ) → v < 2 → P.SomeWith (Fact (Voting r) q) (has_value v) → Supp n l kind_p q r.0 v (quorum n)
              voted v low f =
                  let e : f.one.value ≡ v = eqb-true _ _ f.passes in
                  rw (f.has.1.1.1, f.has.1.1.0, e) at (f.has.0.voted f.has.1.0 (omega arith))
          no_clash (Proposing r x) hs a e =
              let w = both (ltb 1 r.0) _ e in
              let b = both (some (λ s. eqb s.flag d_get && has_value 0 s) hs) _ w.1 in
              two q (r.0 - 1) (proposed_by (ltb-true _ _ w.0) 0 (P.find_some (Fact (Proposing r x) q) (λ s. eqb s.flag d_get && has_value 0 s) hs a b.0))
              (proposed_by (ltb-true _ _ w.0) 1 (P.find_some (Fact (Proposing r x) q) (λ s. eqb s.flag d_get && has_value 1 s) hs a b.1))
            where
              proposed_by : 1 < r.0 → (v : ℕ) → P.SomeWith (Fact (Proposing r x) q) (λ s. eqb s.flag d_get && has_value v s) → Supp n l kind_p q (r.0 - 1) v (quorum n)
              proposed_by later v f =
                  let y = both (eqb f.one.flag d_get) _ f.passes in
                  let e : f.one.value ≡ v = eqb-true _ _ y.1 in
                  rw (f.has.1.1.1, f.has.1.1.0, e) at (f.has.0.taken f.has.1.0 (omega (arith, f.has.1.1.0)) (eqb-true _ _ y.0))

        never_10 : (answer form mac key n cs (call i (gives k t ws coin out))).number ≡ conflicting → ⊥
        unfolding act
        never_10 e =
            let c = conflicts form mac m t ws coin out known_here.lengths e in
            no_clash c.near (state_of form t).stage (main_of form ws ∷ (state_of form t).held) (main_fact c.near, held_fact c.near) c.clash

    -- ---- the claims of every sound site, also of one that the list of faulty sites happens to name
    module _ (cs : List Call) (g : Given form mac key n cs) (F : FewFaulty form mac key n cs) where
      -- without the two sites that a claim speaks of
      pub rest : ℕ → ℕ → List ℕ
      rest i j = without i (without j F.faulty)

      pub rest_few : (i j : ℕ) → length (rest i j) ≤ most_faulty n
      unfolding rest
      rest_few i j = omega (arith, without_few i (without j F.faulty), without_few j F.faulty, F.few)

      pub rest_i : (i j : ℕ) → member i (rest i j) ≡ false
      unfolding rest
      rest_i i j = without_self i (without j F.faulty)

      rest_j : (i j : ℕ) → member j (rest i j) ≡ false
      unfolding rest
      rest_j i j = without_more i j (without j F.faulty) (without_self j F.faulty)

      pub rest_sound : (i j : ℕ) → Sound form mac key n i cs → Sound form mac key n j cs → AllSound (rest i j) cs
      unfolding rest
      rest_sound i j si sj x a b h = go (eqb x i) refl (eqb x j) refl
        where
          go : (c : Bool) → eqb x i ≡ c → (d : Bool) → eqb x j ≡ d → Sound form mac key n x cs
          go true e d f = subst (λ (z : ℕ). Sound form mac key n z cs) (sym (eqb-true x i e)) si
          go false e true f = subst (λ (z : ℕ). Sound form mac key n z cs) (sym (eqb-true x j f)) sj
          go false e false f = F.others x a b (without_other j x F.faulty (eqb-false x j f) (without_other i x (without j F.faulty) (eqb-false x i e) h))

      pub at : (i j : ℕ) → Sound form mac key n i cs → Sound form mac key n j cs → Inv form G (rest i j) cs
      at i j si sj = inv (rest i j) cs g (rest_sound i j si sj)

      -- the five claims on what a station took, of which those on the named decision follow
      agreed : (i j k o q v w : ℕ) → Sound form mac key n i cs → Sound form mac key n j cs → Decides form mac key n cs i k q v → Decides form mac key n cs j o q w → v ≡ w
      agreed i j k o q v w si sj d e = agree (rest i j) (rest_few i j) cs (at i j si sj) g i j k o q v w (rest_i i j) (rest_j i j) d e

      enough_proposed : (i k q v : ℕ) → Sound form mac key n i cs → AllOff form mac key n cs q → Decides form mac key n cs i k q v → backing n v ≤ count (proposed form (log form mac key n cs) q v) n
      enough_proposed i k q v si off d =
          back (rest i i) (rest_few i i) cs (at i i si si) g i k q v (rest_i i i) (λ x a b h. off x a b (rest_sound i i si si x a b h)) d

      pub here : (i k : ℕ) (line : Lineage) → Sound form mac key n i cs → lineage form mac key n cs i k ≡ found line
          → Line form n (reads form (log form mac key n cs)) i line.present line.took
      here i k line si e = known (rest i i) (rest_few i i) cs (at i i si si) i k line g (rest_i i i) e

      decides_named : (i k v : ℕ) (line : Lineage) → Sound form mac key n i cs → lineage form mac key n cs i k ≡ found line → v < none → line.present.lasting.decision ≡ v
          → Decides form mac key n cs i k line.present.identity.question v
      decides_named i k v line si e b d = enough_decides (rest i i) (rest_few i i) cs (at i i si si) i k v line e b (line_named form n (reads form (log form mac key n cs)) i line.present line.took (here i k line si e) v b d)

      pub claim : Claim form mac key n cs
      claim =
          record {
            agreement = agreed;
            backed = enough_proposed;
            names = decides_named;
            named = λ i k q v line si e d. name_it (rest i i) (rest_few i i) cs (at i i si si) g i k q v line (rest_i i i) e d;
            unnamed = λ i k line si e never_decides. not_named i k line si e never_decides (ltb line.present.lasting.decision none) refl;
            named_agreement = λ i j k o a b si sj e f same x y.
                agreed i j k o a.present.identity.question a.present.lasting.decision b.present.lasting.decision si sj
                (decides_named i k a.present.lasting.decision a si e x refl)
                (subst (λ (q : ℕ). Decides form mac key n cs j o q b.present.lasting.decision) (sym same) (decides_named j o b.present.lasting.decision b sj f y refl));
            named_backed = λ i k a si e off x.
                enough_proposed i k a.present.identity.question a.present.lasting.decision si off (decides_named i k a.present.lasting.decision a si e x refl);
            no_conflict = λ i k t ws coin out si p c e. never_10 (rest i i) (rest_few i i) cs (at i i si si) g i k t ws coin out (rest_i i i) p c e;
          }
        where
          not_named : (i k : ℕ) (line : Lineage) → Sound form mac key n i cs → lineage form mac key n cs i k ≡ found line
              → ((v : ℕ) → Decides form mac key n cs i k line.present.identity.question v → ⊥) → (b : Bool) → ltb line.present.lasting.decision none ≡ b
              → line.present.lasting.decision ≡ none
          not_named i k line si e no_v true x = absurd (no_v line.present.lasting.decision (decides_named i k line.present.lasting.decision line si e (ltb-true _ _ x) refl))
          not_named i k line si e no_v false x = omega (arith, ltb-false line.present.lasting.decision none x, line_low form n (reads form (log form mac key n cs)) i line.present line.took (here i k line si e))

  -- ---- the theorem, for every code of eight words
  pub demand_3_by : (mac : List ℕ → List ℕ → List ℕ) → ((key ws : List ℕ) → length (mac key ws) ≡ code_words) → Demand3 form mac
  demand_3_by mac eight key n low top cs g f = claim (record { mac = mac; eight = eight; key = key; n = n; low = low; top = top }) cs g f

  -- and for HMAC-SHA-256
  pub demand_3 : Demand3 form hmac_code
  demand_3 = demand_3_by hmac_code hmac_eight
