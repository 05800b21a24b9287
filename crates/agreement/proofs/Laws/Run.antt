-- Every list of calls that meets the premises keeps the invariant of the log and what is known of sound sites' stations.
use Rattle.std.proofs.Math.Path.{◌≡◌, refl, sym, ap, subst}
use Rattle.std.proofs.Common.{◌∙◌, arith}
use Rattle.std.specs.Prelude.{Bool, ◌&&◌, ◌||◌, ℕ, ◌≤◌, ◌<◌, ltb}
use Rattle.std.proofs.Math.Bool.{true, false}
use mathlib.Core.List.Memᴰ
use mathlib.Core.List.{List, [], ◌∷◌, ◌++◌, append_assoc}
use Rattle.std.proofs.Math.Dec.{eqb}
use Rattle.std.proofs.Math.ListN.{length, drop}
use borrow.Author.Tests.{eqb-true, eq-eqb}
use Rattle.laws.specs.Pick.{pick}
use Rattle.laws.specs.Bools.{never, both, join, left}
use Rattle.laws.specs.All.{All}
use Rattle.laws.specs.Count.{count}
use Rattle.laws.specs.Over.{over}
use Rattle.format.specs.Form.{Form, most_stations, last_round}
use Rattle.format.specs.Numbers.{kind_init, kind_v, none, d_get, kept, sent, sent_decided, closed_now, jumped, code_words}
use Rattle.format.specs.Group.{quorum}
use Rattle.format.specs.Statement.{Statement, statement, written, step}
use Rattle.format.specs.Lists.{some}
use Rattle.format.specs.Bundle.{main_of, certificate_of, all_written, bundle_of}
use Rattle.format.proofs.Laws.Shape.{init}
use Rattle.rules.specs.Rules.{rule_1}
use Rattle.modules.specs.declared.Module.{Module}
use Rattle.modules.specs.Counter.{above, advanced, last_for}
use Rattle.station.specs.declared.Stage.TheVariants.{Gathering}
use Rattle.station.specs.declared.Station.{Station}
use Rattle.station.specs.Machine.{State, Outcome, refused, keeps, sends, began, shut, stage_of, closes, follows, has_value, undecided}
use Rattle.station.specs.Words as W
use Rattle.station.specs.Words.{Lengths}
use Rattle.station.specs.Calls.{Returned, returned, opening, giving, opening_outcome, giving_outcome, no_station}
use Rattle.format.proofs.Laws.ReadBack.{Proper, statement_drop, statement_back}
use Rattle.station.proofs.Laws.Keep.{steps_0}
use Rattle.station.proofs.Laws.Views.{InRange, init_statement, Opens, no_opening, begins, opens_view, Gives, refuses, holds_on, shuts, goes_on, enters, gives_view, sent_statement, jump_statement, Accepted, Jumping, after, lasting_then}
use Rattle.station.specs.Returns.{unrefused, wrote, took_given}
use Rattle.station.proofs.Laws.Returns.{wrote_unrefused, sent_wrote, sent_took_given}
use Rattle.station.proofs.Laws.Fits.{own_proper, init_sane, sent_proper, jump_proper}
use Rattle.station.specs.Demand.{OfGroup}
use Rattle.agreement.proofs.Maths.Safe.{Just, Split}
use Rattle.agreement.proofs.Maths.Just.{bare, backed_just}
use Rattle.agreement.proofs.Maths.Standing.{Standing}
use Rattle.agreement.proofs.Maths.Took.{none_there, enough_before}
use Rattle.agreement.proofs.Laws.Ground.{Ground}
use Rattle.agreement.proofs.Laws.Lists.{same_line, module_now, module_other, module_same}
use Rattle.agreement.proofs.Laws.Effect.{entry, coded_at, Effect, silent, speaks, log_of, after_of, open_coded, open_after, give_after}
use Rattle.agreement.proofs.Laws.EffectGiving.{give_coded}
use Rattle.agreement.proofs.Laws.Line.{reads, reads_append, AtSite, Line, line_more, open_line}
use Rattle.agreement.proofs.Laws.Giving.{kept_line, shut_line, sent_line, sent_just, sent_split, jump_just}
use Rattle.agreement.proofs.Laws.GivingJump.{jump_line}
use Rattle.agreement.proofs.Laws.Invariant.{LogInv, unchanged, log_add, entry_read, entry_at}
use Rattle.agreement.specs.Maths.Votes.{votes}
use Rattle.agreement.specs.Demand.{Action, opens, gives, Call, call, site, action, apart, view, Entry, Lineage, Found, found, written_main, given_main, started, gave, member, act, modules, answer, log, openings, lineage, Presents, JumpOff, CodesCame}

module _ (form : Form) where
  -- the main statement of a written bundle, read again
  main_written : (n : ℕ) (s : Statement) (c : List Statement) (out : List ℕ) → n ≤ most_stations form → Proper form n s → statement form (over (bundle_of form s c) out) 1 ≡ s
  unfolding bundle_of
  main_written n s c out top p =
      statement_drop form (over (bundle_of form s c) out) 1
      ∙ ap (λ (l : List ℕ). statement form l 0) (append_assoc (written form s) (all_written form c) (drop (length (bundle_of form s c)) out))
      ∙ statement_back form n s (all_written form c ++ drop (length (bundle_of form s c)) out) top p

  -- ---- a station that has just been opened
  module _ (mac : List ℕ → List ℕ → List ℕ) (eight : (key ws : List ℕ) → length (mac key ws) ≡ code_words) (m : Module) (q v : ℕ) (j : Bool) (out : List ℕ) (l : List Statement) (r : InRange form m) (p : v < 2) where
    abbrev s : Statement
    s = init_statement form mac m q v out

    abbrev l2 : List Statement
    l2 = bare s ∷ l

    pub init_just : (k : List Statement) → Just m.n k s
    init_just k = backed_just m.n k s [] tt tt (rule_1 refl)

    init_step : step s ≡ 0
    unfolding step
    init_step = steps_0 kind_init 0 refl

    init_standing : Standing form m.n l2 m.station (began m.n q (undecided j) Gathering s []) (s ∷ [])
    unfolding some pick
    init_standing =
        record {
          facts = ((record { mem = Memᴰ.head refl; low = r.low; high = r.high }, init_just l2), tt);
          asked = (refl, tt);
          low = omega arith;
          named = λ w low e. absurd (omega arith);
          names = λ w k low enough. absurd (none_yet w k enough);
          while_open = λ e.
              record {
                sane = init_sane form mac eight m q v j r p;
                given = ((λ a b. absurd (omega arith)), tt);
                among = (Memᴰ.head refl, tt);
                for_value_coded = tt;
                for_none_coded = tt;
                upto = (omega (arith, init_step), tt);
                now_held = (
                  (λ z. left (has_value s.value s && eqb s.station s.station) false
                      (join (has_value s.value s) _ (eq-eqb s.value s.value refl) (eq-eqb s.station s.station refl))),
                  tt,
                );
              };
        }
      where
        none_yet : (w k : ℕ) → quorum m.n ≤ count (votes (s ∷ []) q k w) m.n → ⊥
        none_yet w k enough = omega (arith, enough_before q k w m.n (quorum m.n) s [] (λ e. omega (arith, init_step)) enough, none_there m.n)

    pub init_line : Line form m.n l2 m.station (W.as_station form m.n m.station (began m.n q (undecided j) Gathering s [])) (s ∷ [])
    init_line = open_line form m.n m.station l2 (began m.n q (undecided j) Gathering s []) (s ∷ []) r.at_most r.low r.high (init_sane form mac eight m q v j r p) init_standing

  module _ (G : Ground form) (faulty : List ℕ) where
    open G use {mac, eight, key, n, top}

    -- a site's module is the group's: what holds by its words holds by the group's
    of_mine : (i : ℕ) (m : Module) → OfGroup key n i m → (l : List Statement) (t : Station) (took : List Statement)
        → Line form m.n l m.station t took → Line form n l i t took
    of_mine i m M l t took L = subst (λ (x : ℕ). Line form x l i t took) M.same_n (subst (λ (x : ℕ). Line form m.n l x t took) M.same_site L)

    to_mine : (i : ℕ) (m : Module) → OfGroup key n i m → (l : List Statement) (t : Station) (took : List Statement)
        → Line form n l i t took → Line form m.n l m.station t took
    to_mine i m M l t took L = subst (λ (x : ℕ). Line form m.n l x t took) (sym M.same_site) (subst (λ (x : ℕ). Line form x l i t took) (sym M.same_n) L)

    came_mine : (i : ℕ) (m : Module) → OfGroup key n i m → (l : List Entry) (ws : List ℕ) → CodesCame form mac key n l ws → CodesCame form mac m.key m.n l ws
    came_mine i m M l ws c = subst (λ (x : List ℕ). CodesCame form mac x n l ws) (sym M.same_key) c

    -- what is known of the stations of sites that are not named faulty
    abbrev Lines : List Statement → (ℕ → ℕ → Found) → Type 0
    Lines l f = (i k : ℕ) (line : Lineage) → 1 ≤ i → i ≤ n → member i faulty ≡ false → f i k ≡ found line → Line form n l i line.present line.took

    -- no station of the site on the question jumps
    abbrev Off : List Call → ℕ → ℕ → Type 0
    Off cs i q = JumpOff form mac key n i q cs

    pub record Inv (cs : List Call) : Type 0 where
      pub logs : LogInv form key n faulty (Off cs) (modules form mac key n cs) (log form mac key n cs)
      pub lines : Lines (reads form (log form mac key n cs)) (lineage form mac key n cs)

    lines_more : (u : Statement) (l : List Statement) (f : ℕ → ℕ → Found) → Lines l f → Lines (u ∷ l) f
    lines_more u l f h i k line a b c e = line_more form n u l i line.present line.took (h i k line a b c e)

    -- ---- the modules behind a call
    module _ (c : Call) (cs : List Call) where
      abbrev m : Module
      m = modules form mac key n cs (site c)

      -- what the call coded
      abbrev new : List Entry
      new = coded_at form G m (site c) (action c)

      -- a setting that is off in the longer list was off before
      off_before : (i q : ℕ) → Off (c ∷ cs) i q → Off cs i q
      unfolding JumpOff
      off_before i q h = h.1

      log_is : log form mac key n (c ∷ cs) ≡ new ++ log form mac key n cs
      unfolding log
      log_is = refl

      module _ (lo : 1 ≤ site c) (hi : site c ≤ n) (I : LogInv form key n faulty (Off cs) (modules form mac key n cs) (log form mac key n cs)) where
        -- no statement was coded
        quiet : reads form new ≡ [] → All (AtSite form) new → (act form mac key n m (action c)).after ≡ m → LogInv form key n faulty (Off (c ∷ cs)) (modules form mac key n (c ∷ cs)) (log form mac key n (c ∷ cs))
        quiet e at a =
            subst (λ (l : List Entry). LogInv form key n faulty (Off (c ∷ cs)) (modules form mac key n (c ∷ cs)) l) (sym log_is)
            (unchanged form key n faulty (Off cs) (Off (c ∷ cs)) off_before (modules form mac key n cs) (modules form mac key n (c ∷ cs)) new (log form mac key n cs) e at (module_same form mac key n c cs a) I)

        reads_quiet : reads form new ≡ [] → reads form (log form mac key n (c ∷ cs)) ≡ reads form (log form mac key n cs)
        reads_quiet e = ap (reads form) log_is ∙ reads_append form new (log form mac key n cs) ∙ ap (λ (x : List Statement). x ++ reads form (log form mac key n cs)) e

        -- one statement was coded
        spoke : (s : Statement) → Proper form m.n s → s.station ≡ m.station → above (last_for m s.question) s.question (step s) ≡ true
            → reads form new ≡ bare s ∷ [] → All (AtSite form) new → (act form mac key n m (action c)).after ≡ advanced m s.question (step s)
            → (member (site c) faulty ≡ false → Just n (reads form (log form mac key n cs)) s)
            → (member (site c) faulty ≡ false → Off (c ∷ cs) (site c) s.question → s.kind ≡ kind_v → s.value ≡ none
            → Rattle.agreement.proofs.Maths.Safe.Split n (reads form (log form mac key n cs)) s.question s.round)
            → LogInv form key n faulty (Off (c ∷ cs)) (modules form mac key n (c ∷ cs)) (log form mac key n (c ∷ cs))
        spoke s p mine high e at a sj ss =
            let M = I.mods (site c) lo hi in
            subst (λ (l : List Entry). LogInv form key n faulty (Off (c ∷ cs)) (modules form mac key n (c ∷ cs)) l) (sym log_is)
            (log_add form key n faulty (Off cs) (Off (c ∷ cs)) off_before (modules form mac key n cs) (modules form mac key n (c ∷ cs)) new (log form mac key n cs) (site c) s e at top lo hi I
            (subst (λ (x : ℕ). Proper form x s) M.same_n p) (mine ∙ M.same_site) high (module_now form mac key n c cs ∙ a) (module_other form mac key n c cs) sj ss)

        reads_spoke : (s : Statement) → reads form new ≡ bare s ∷ [] → reads form (log form mac key n (c ∷ cs)) ≡ bare s ∷ reads form (log form mac key n cs)
        reads_spoke s e = ap (reads form) log_is ∙ reads_append form new (log form mac key n cs) ∙ ap (λ (x : List Statement). x ++ reads form (log form mac key n cs)) e

        -- the entries of the calls that there are: none, or that of one statement
        none_read : new ≡ [] → (reads form new ≡ []) × All (AtSite form) new
        unfolding reads
        none_read e = rw e (refl, tt)

        one_read : (s : Statement) → Proper form m.n s → s.station ≡ m.station → new ≡ entry form (site c) s ∷ [] → (reads form new ≡ bare s ∷ []) × All (AtSite form) new
        one_read s p mine e =
            let M = I.mods (site c) lo hi in
            let q : Proper form n s = subst (λ (x : ℕ). Proper form x s) M.same_n p in
            rw e (entry_read form n (site c) s top q, entry_at form n (site c) s top q (mine ∙ M.same_site))

    -- the stations of a site whose call was a coding, and of the others
    keep_lines : (c : Call) (cs : List Call) (I : Inv cs) → ((i k : ℕ) → lineage form mac key n (c ∷ cs) i k ≡ lineage form mac key n cs i k) → Lines (reads form (log form mac key n cs)) (lineage form mac key n (c ∷ cs))
    keep_lines c cs I same i k line a b h e = I.lines i k line a b h (sym (same i k) ∙ e)

    coded_only : (b : Bool) (e x : Entry) → pick b (e ∷ []) [] ≡ x ∷ [] → b ≡ true
    unfolding pick
    coded_only true e x h = refl
    coded_only false e x h = absurd (let z : ◌≡◌ {A = ℕ} 0 1 = cc in omega arith)

    not_picked : (b : Bool) (x y z : Found) → b ≡ false → pick b x y ≡ z → y ≡ z
    unfolding pick
    not_picked true x y z e f = never true e refl
    not_picked false x y z e f = f

    middle : (a b c : Bool) → b ≡ false → (a && b && c) ≡ false
    middle true true c e = never true e refl
    middle true false c e = refl
    middle false b c e = refl

    -- ---- coding
    by_coding : (c : Call) (cs : List Call) → 1 ≤ site c → site c ≤ n → Inv cs → Effect form G (modules form mac key n cs (site c)) (site c) (action c)
        → ((i k : ℕ) → lineage form mac key n (c ∷ cs) i k ≡ lineage form mac key n cs i k)
        → ((s : Statement) → new c cs ≡ entry form (site c) s ∷ [] → member (site c) faulty ≡ false → ⊥) → Inv (c ∷ cs)
    by_coding c cs lo hi I (silent e a) same never_coded =
        let r = none_read c cs lo hi I.logs e in
        record {
          logs = quiet c cs lo hi I.logs r.0 r.1 a;
          lines = subst (λ (l : List Statement). Lines l (lineage form mac key n (c ∷ cs))) (sym (reads_quiet c cs lo hi I.logs r.0)) (keep_lines c cs I same);
        }
    by_coding c cs lo hi I (speaks s p mine high e a) same never_coded =
        let r = one_read c cs lo hi I.logs s p mine e in
        record {
          logs = spoke c cs lo hi I.logs s p mine high r.0 r.1 a (λ h. absurd (never_coded s e h)) (λ h. absurd (never_coded s e h));
          lines = subst (λ (l : List Statement). Lines l (lineage form mac key n (c ∷ cs))) (sym (reads_spoke c cs lo hi I.logs s r.0))
              (lines_more (bare s) (reads form (log form mac key n cs)) (lineage form mac key n (c ∷ cs)) (keep_lines c cs I same));
        }

    -- what stands apart from the stations, by its effect
    pub apart_step : (i : ℕ) (a : Action) (cs : List Call) → view a ≡ apart → Effect form G (modules form mac key n cs i) i a → 1 ≤ i → i ≤ n → Inv cs
        → (member i faulty ≡ false → (answer form mac key n cs (call i a)).number ≡ 0 → ⊥) → Inv (call i a ∷ cs)
    unfolding lineage
    apart_step i a cs is_apart effect lo hi I none_coded =
        by_coding (call i a) cs lo hi I effect (λ j k. rw is_apart)
        (λ s e h. none_coded h (eqb-true _ _ (coded_only (eqb (answer form mac key n cs (call i a)).number 0) _ (entry form i s) (rw is_apart at e))))

    -- ---- opening
    module _ (j q v setting : ℕ) (out : List ℕ) (cs : List Call) (lo : 1 ≤ j) (hi : j ≤ n) (I : Inv cs) where
      abbrev c : Call
      c = call j (opens q v setting out)

      abbrev mj : Module
      mj = modules form mac key n cs j

      -- the stations, by what the call returned
      abbrev lines_by : Returned → ℕ → ℕ → Found
      lines_by r i k =
          pick (eqb j i && unrefused r.number && eqb (openings form mac key n cs i) k) (started form r) (lineage form mac key n cs i k)

      lines_are : (r : Returned) → answer form mac key n cs c ≡ r → (l : List Statement) → Lines l (lines_by r) → Lines l (lineage form mac key n (c ∷ cs))
      unfolding lineage
      lines_are r e l h = subst (λ (x : Returned). Lines l (lines_by x)) (sym e) h

      answer_is : (o : Outcome) → opening_outcome form mac mj q v setting out ≡ o → answer form mac key n cs c ≡ returned form mj (no_station form) out o
      unfolding act opening
      answer_is o e = ap (returned form mj (no_station form) out) e

      -- the bundle that is written has the statement at its place
      written_is : Proper form mj.n (init_statement form mac mj q v out) → mj.n ≤ most_stations form → statement form (over (bundle_of form (init_statement form mac mj q v out) []) out) 1 ≡ init_statement form mac mj q v out
      unfolding bundle_of
      written_is p top = main_written mj.n (init_statement form mac mj q v out) [] out top p

      pub open_step : Inv (c ∷ cs)
      unfolding returned pick
      open_step = go (opening_outcome form mac mj q v setting out) refl (opens_view form mac mj q v setting out)
        where
          mine : OfGroup key n j mj
          mine = I.logs.mods j lo hi

          refused_so : (k : ℕ) → opening_outcome form mac mj q v setting out ≡ refused k → unrefused k ≡ false → Inv (c ∷ cs)
          refused_so k e w =
              let quiet_log = none_read c cs lo hi I.logs (open_coded form G mj j q v setting out ∙ ap (log_of form G j) e) in
              record {
                logs = quiet c cs lo hi I.logs quiet_log.0 quiet_log.1 (open_after form G mj j q v setting out ∙ ap (after_of form G mj) e);
                lines = subst (λ (l : List Statement). Lines l (lineage form mac key n (c ∷ cs))) (sym (reads_quiet c cs lo hi I.logs quiet_log.0))
                    (lines_are (returned form mj (no_station form) out (refused k)) (answer_is (refused k) e) (reads form (log form mac key n cs))
                    (λ i x line a b h f. I.lines i x line a b h (not_picked (eqb j i && unrefused k && eqb (openings form mac key n cs i) x) _ _ _ (middle (eqb j i) (unrefused k) _ w) f)));
              }

          begun : (r : InRange form mj) (p : v < 2) → above (last_for mj q) q (step (init_statement form mac mj q v out)) ≡ true
              → opening_outcome form mac mj q v setting out ≡ sends sent (init_statement form mac mj q v out) [] (began mj.n q (undecided (eqb setting 1)) Gathering (init_statement form mac mj q v out) []) → Inv (c ∷ cs)
          begun r p a e =
              let s = init_statement form mac mj q v out in
              let o = sends sent s [] (began mj.n q (undecided (eqb setting 1)) Gathering s []) in
              let proper : Proper form mj.n s = own_proper form mac eight mj q kind_init v d_get 0 r (init refl refl p refl) in
              let coded = one_read c cs lo hi I.logs s proper refl (open_coded form G mj j q v setting out ∙ ap (log_of form G j) e) in
              let to_n : (l : List Statement) → Just mj.n l s → Just n l s = λ l x. subst (λ (z : ℕ). Just z l s) mine.same_n x in
              record {
                logs = spoke c cs lo hi I.logs s proper refl a coded.0 coded.1 (open_after form G mj j q v setting out ∙ ap (after_of form G mj) e)
                    (λ h. to_n (reads form (log form mac key n cs)) (init_just mac eight mj q v (eqb setting 1) out (reads form (log form mac key n cs)) r p (reads form (log form mac key n cs)))) (λ h o x y. absurd (omega arith));
                lines = subst (λ (l : List Statement). Lines l (lineage form mac key n (c ∷ cs))) (sym (reads_spoke c cs lo hi I.logs s coded.0))
                    (lines_are (returned form mj (no_station form) out o) (answer_is o e) (bare s ∷ reads form (log form mac key n cs))
                    (λ i x line a b h f. picked i x line a b h (eqb j i && true && eqb (openings form mac key n cs i) x) refl f));
              }
            where
              picked : (i x : ℕ) (line : Lineage) → 1 ≤ i → i ≤ n → member i faulty ≡ false → (b : Bool) → (eqb j i && true && eqb (openings form mac key n cs i) x) ≡ b
                  → pick b (found (record {
                    present = W.as_station form mj.n mj.station (began mj.n q (undecided (eqb setting 1)) Gathering (init_statement form mac mj q v out) []);
                    took = statement form (over (bundle_of form (init_statement form mac mj q v out) []) out) 1 ∷ [];
                  })) (lineage form mac key n cs i x) ≡ found line
                  → Line form n (bare (init_statement form mac mj q v out) ∷ reads form (log form mac key n cs)) i line.present line.took
              picked i x line a b h true z f =
                  let s = init_statement form mac mj q v out in
                  let proper : Proper form mj.n s = own_proper form mac eight mj q kind_init v d_get 0 r (init refl refl p refl) in
                  let ji : j ≡ i = eqb-true j i (both (eqb j i) true (both (eqb j i && true) _ z).0).0 in
                  let same = same_line _ line f in
                  let T = W.as_station form mj.n mj.station (began mj.n q (undecided (eqb setting 1)) Gathering s []) in
                  let L : Line form n (bare s ∷ reads form (log form mac key n cs)) j T (s ∷ [])
                  = of_mine j mj mine (bare s ∷ reads form (log form mac key n cs)) T (s ∷ []) (init_line mac eight mj q v (eqb setting 1) out (reads form (log form mac key n cs)) r p) in
                  let L1 : Line form n (bare s ∷ reads form (log form mac key n cs)) j T (statement form (over (bundle_of form s []) out) 1 ∷ [])
                  = subst (λ (y : Statement). Line form n (bare s ∷ reads form (log form mac key n cs)) j T (y ∷ [])) (sym (written_is proper r.at_most)) L in
                  subst (λ (y : Lineage). Line form n (bare s ∷ reads form (log form mac key n cs)) i y.present y.took) same
                  (subst (λ (y : ℕ). Line form n (bare s ∷ reads form (log form mac key n cs)) y T (statement form (over (bundle_of form s []) out) 1 ∷ [])) ji L1)
              picked i x line a b h false z f =
                  line_more form n (bare (init_statement form mac mj q v out)) (reads form (log form mac key n cs)) i line.present line.took (I.lines i x line a b h f)

          go : (o : Outcome) → opening_outcome form mac mj q v setting out ≡ o → Opens form mac mj q v setting out o → Inv (c ∷ cs)
          go _ e (no_opening {k} w) = refused_so k e w
          go _ e (begins room r p a) = begun r p a e

    -- ---- giving
    module _ (j o : ℕ) (t : Station) (ws : List ℕ) (coin : ℕ) (out : List ℕ) (cs : List Call) (lo : 1 ≤ j) (hi : j ≤ n) (I : Inv cs) (len : Lengths form t)
        (came : CodesCame form mac key n (log form mac key n cs) ws)
        (sound : member j faulty ≡ false → unrefused (answer form mac key n cs (call j (gives o t ws coin out))).number ≡ true → Presents form mac key n cs j o t)
        (opened_on : member j faulty ≡ false → unrefused (answer form mac key n cs (call j (gives o t ws coin out))).number ≡ true → t.lasting.jump ≡ true → Off cs j t.identity.question → ⊥) where
      abbrev g : Call
      g = call j (gives o t ws coin out)

      abbrev mg : Module
      mg = modules form mac key n cs j

      abbrev before : List Statement
      before = reads form (log form mac key n cs)

      mine_g : OfGroup key n j mg
      mine_g = I.logs.mods j lo hi

      abbrev given_by : Returned → ℕ → ℕ → Found
      given_by r i k = pick (eqb j i && unrefused r.number && eqb o k) (gave form r ws (lineage form mac key n cs i k)) (lineage form mac key n cs i k)

      given_are : (r : Returned) → answer form mac key n cs g ≡ r → (l : List Statement) → Lines l (given_by r) → Lines l (lineage form mac key n (g ∷ cs))
      unfolding lineage
      given_are r e l h = subst (λ (x : Returned). Lines l (given_by x)) (sym e) h

      returned_is : (x : Outcome) → giving_outcome form mac mg t ws coin out ≡ x → answer form mac key n cs g ≡ returned form mg t out x
      unfolding act giving
      returned_is x e = ap (returned form mg t out) e

      -- the station given, where the site is not named faulty
      pub record Whose : Type 0 where
        pub line : Lineage
        pub is : lineage form mac key n cs j o ≡ found line
        pub known : Line form mg.n before mg.station t line.took

      whose : member j faulty ≡ false → unrefused (answer form mac key n cs g).number ≡ true → Whose
      whose h u =
          let p = sound h u in
          record {
            line = p.line;
            is = p.is;
            known = to_mine j mg mine_g before t p.line.took
                (subst (λ (x : Station). Line form n before j x p.line.took) p.now (I.lines j o p.line lo hi h p.is));
          }

      -- the stations behind a giving that is not refused
      placed : (r : Returned) (l : List Statement) → Lines l (lineage form mac key n cs)
          → (member j faulty ≡ false → Whose) → ((W : Whose) → member j faulty ≡ false → Line form n l j r.station (written_main form r ++ (given_main form r ws ++ W.line.took))) → Lines l (given_by r)
      unfolding pick
      placed r l stays who next i k line a b h f = go (eqb j i && unrefused r.number && eqb o k) refl f
        where
          go : (x : Bool) → (eqb j i && unrefused r.number && eqb o k) ≡ x → pick x (gave form r ws (lineage form mac key n cs i k)) (lineage form mac key n cs i k) ≡ found line
              → Line form n l i line.present line.took
          go false z f = stays i k line a b h f
          go true z f =
              let y = both (eqb j i && unrefused r.number) (eqb o k) z in
              let ji : j ≡ i = eqb-true j i (both (eqb j i) _ y.0).0 in
              let ok : o ≡ k = eqb-true o k y.1 in
              at_own (ap (λ (x : ℕ). member x faulty) ji ∙ h) ji ok
            where
              at_own : member j faulty ≡ false → j ≡ i → o ≡ k → Line form n l i line.present line.took
              at_own hj ji ok =
                  let W = who hj in
                  let was : lineage form mac key n cs i k ≡ found W.line = sym (λ x. lineage form mac key n cs (ji x) (ok x)) ∙ W.is in
                  let now : found (record { present = r.station; took = written_main form r ++ (given_main form r ws ++ W.line.took) }) ≡ found line = sym (ap (gave form r ws) was) ∙ f in
                  subst (λ (x : Lineage). Line form n l i x.present x.took) (same_line _ line now)
                  (subst (λ (x : ℕ). Line form n l x r.station (written_main form r ++ (given_main form r ws ++ W.line.took))) ji (next W hj))

      abbrev coded_g : Outcome → Type 0
      coded_g x = new g cs ≡ log_of form G j x

      log_g : (x : Outcome) → giving_outcome form mac mg t ws coin out ≡ x → coded_g x
      log_g x e = give_coded form G mg j o t ws coin out len ∙ ap (log_of form G j) e

      after_g : (x : Outcome) → giving_outcome form mac mg t ws coin out ≡ x → (act form mac key n mg (action g)).after ≡ after_of form G mg x
      after_g x e = give_after form G mg j o t ws coin out len ∙ ap (after_of form G mg) e

      came_g : CodesCame form mac mg.key mg.n (log form mac key n cs) ws
      came_g = came_mine j mg mine_g (log form mac key n cs) ws came

      number_g : (x : Outcome) → giving_outcome form mac mg t ws coin out ≡ x → unrefused (returned form mg t out x).number ≡ true → unrefused (answer form mac key n cs g).number ≡ true
      number_g x e u = ap (λ (r : Returned). unrefused r.number) (returned_is x e) ∙ u

      -- a call that coded nothing
      silent_inv : (x : Outcome) → giving_outcome form mac mg t ws coin out ≡ x → log_of form G j x ≡ [] → after_of form G mg x ≡ mg → Lines before (given_by (returned form mg t out x)) → Inv (g ∷ cs)
      silent_inv x e nil same h =
          let r = none_read g cs lo hi I.logs (log_g x e ∙ nil) in
          record {
            logs = quiet g cs lo hi I.logs r.0 r.1 (after_g x e ∙ same);
            lines = subst (λ (l : List Statement). Lines l (lineage form mac key n (g ∷ cs))) (sym (reads_quiet g cs lo hi I.logs r.0))
                (given_are (returned form mg t out x) (returned_is x e) before h);
          }

      -- the sent statement, as the lent words have it
      main_is : (k : ℕ) (s : Statement) (c : List Statement) (u : State) → wrote k ≡ true → Proper form mg.n s → mg.n ≤ most_stations form → written_main form (returned form mg t out (sends k s c u)) ≡ s ∷ []
      unfolding returned pick
      main_is k s c u e p small = rw e (ap (λ (y : Statement). y ∷ []) (main_written mg.n s c out small p))

      -- the given statement, where the number says that it is taken
      given_is : (k : ℕ) → took_given k ≡ true → pick (took_given k) (main_of form ws ∷ []) [] ≡ main_of form ws ∷ []
      unfolding pick
      given_is k e = rw e

      pub give_step : Inv (g ∷ cs)
      unfolding returned pick
      give_step = go (giving_outcome form mac mg t ws coin out) refl (gives_view form mac mg t ws coin out len)
        where
          go : (x : Outcome) → giving_outcome form mac mg t ws coin out ≡ x → Gives form mac mg t ws coin out x → Inv (g ∷ cs)
          go _ e (refuses {k} w) =
              silent_inv (refused k) e refl refl
              (λ i x line a b h f. I.lines i x line a b h (not_picked (eqb j i && unrefused k && eqb o x) _ _ _ (middle (eqb j i) (unrefused k) _ w) f))
          go _ e (holds_on A few) =
              silent_inv (keeps kept (after form mac mg t ws coin out)) e refl refl
              (placed (returned form mg t out (keeps kept (after form mac mg t ws coin out))) before I.lines (λ h. whose h (number_g (keeps kept (after form mac mg t ws coin out)) e refl))
              (λ H h. of_mine j mg mine_g before (W.as_station form mg.n mg.station (after form mac mg t ws coin out)) (main_of form ws ∷ H.line.took)
              (kept_line form mac eight mg t ws coin out (log form mac key n cs) H.line.took H.known A came_g few)))
          go _ e (shuts A size c) = closed_so A size c e
            where
              closed_so : (A : Accepted form mac mg t ws coin out) (size : length (after form mac mg t ws coin out).held ≡ quorum mg.n) → closes (last_round form) t.stage ≡ true
                  → giving_outcome form mac mg t ws coin out ≡ keeps closed_now (shut (after form mac mg t ws coin out) (lasting_then form mac mg t ws coin out))
                  → Inv (g ∷ cs)
              closed_so A size c e =
                  let u = shut (after form mac mg t ws coin out) (lasting_then form mac mg t ws coin out) in
                  silent_inv (keeps closed_now u) e refl refl
                  (placed (returned form mg t out (keeps closed_now u)) before I.lines (λ h. whose h (number_g (keeps closed_now u) e refl))
                  (λ H h. of_mine j mg mine_g before (W.as_station form mg.n mg.station u) (main_of form ws ∷ H.line.took)
                  (shut_line form mac eight mg t ws coin out (log form mac key n cs) H.line.took H.known A came_g size)))
          go _ e (goes_on {k} A size c a w) = sent_so k A size c a w e
            where
              sent_so : (k : ℕ) (A : Accepted form mac mg t ws coin out) (size : length (after form mac mg t ws coin out).held ≡ quorum mg.n) (c : closes (last_round form) t.stage ≡ false)
                  → above (last_for mg t.identity.question) t.identity.question (step (sent_statement form mac mg t ws coin out)) ≡ true
                  → k ≡ pick (ltb t.lasting.decision none || eqb (lasting_then form mac mg t ws coin out).decision none) sent sent_decided
                  → giving_outcome form mac mg t ws coin out ≡ sends k (sent_statement form mac mg t ws coin out)
                  ((follows mg.n t.stage (after form mac mg t ws coin out) coin).first ++ (follows mg.n t.stage (after form mac mg t ws coin out) coin).second)
                  (began mg.n t.identity.question (lasting_then form mac mg t ws coin out) (follows mg.n t.stage (after form mac mg t ws coin out) coin).stage (sent_statement form mac mg t ws coin out)
                  ((follows mg.n t.stage (after form mac mg t ws coin out) coin).first ++ (follows mg.n t.stage (after form mac mg t ws coin out) coin).second)) → Inv (g ∷ cs)
              sent_so k A size more a w e =
                  let s = sent_statement form mac mg t ws coin out in
                  let x = follows mg.n t.stage (after form mac mg t ws coin out) coin in
                  let u = began mg.n t.identity.question (lasting_then form mac mg t ws coin out) x.stage s (x.first ++ x.second) in
                  let o' = sends k s (x.first ++ x.second) u in
                  let proper : Proper form mg.n s = sent_proper form mac eight mg t ws coin out len A size more in
                  let coded = one_read g cs lo hi I.logs s proper refl (log_g o' e) in
                  let wr : wrote k ≡ true = ap wrote w ∙ sent_wrote (ltb t.lasting.decision none || eqb (lasting_then form mac mg t ws coin out).decision none) in
                  let tk : took_given k ≡ true = ap took_given w ∙ sent_took_given (ltb t.lasting.decision none || eqb (lasting_then form mac mg t ws coin out).decision none) in
                  let un : unrefused (answer form mac key n cs g).number ≡ true = number_g o' e (wrote_unrefused k wr) in
                  let T : Station = W.as_station form mg.n mg.station u in
                  record {
                    logs = spoke g cs lo hi I.logs s proper refl a coded.0 coded.1 (after_g o' e)
                        (λ h. let H = whose h un in
                        subst (λ (z : ℕ). Just z before s) mine_g.same_n (sent_just form mac eight mg t ws coin out (log form mac key n cs) H.line.took H.known A came_g size more))
                        (λ h off y z. let H = whose h un in
                        subst (λ (z : ℕ). Split z before s.question s.round) mine_g.same_n (sent_split form mac eight mg t ws coin out (log form mac key n cs) H.line.took H.known A came_g size more y z));
                    lines = subst (λ (l : List Statement). Lines l (lineage form mac key n (g ∷ cs))) (sym (reads_spoke g cs lo hi I.logs s coded.0))
                        (given_are (returned form mg t out o') (returned_is o' e) (bare s ∷ before)
                        (placed (returned form mg t out o') (bare s ∷ before) (lines_more (bare s) before (lineage form mac key n cs) I.lines) (λ h. whose h un)
                        (λ H h. subst (λ (y : List Statement). Line form n (bare s ∷ before) j T (y ++ (given_main form (returned form mg t out o') ws ++ H.line.took))) (sym (main_is k s (x.first ++ x.second) u wr proper A.cleared.range.at_most))
                        (subst (λ (y : List Statement). Line form n (bare s ∷ before) j T (s ∷ (y ++ H.line.took))) (sym (given_is k tk))
                        (of_mine j mg mine_g (bare s ∷ before) T (s ∷ (main_of form ws ∷ H.line.took))
                        (sent_line form mac eight mg t ws coin out (log form mac key n cs) H.line.took H.known A came_g size more))))));
                  }
          go _ e (enters J a) = jumped_so J a e
            where
              jumped_so : (J : Jumping form mac mg t ws coin out) → above (last_for mg t.identity.question) t.identity.question (step (jump_statement form mac mg t ws coin out)) ≡ true
                  → giving_outcome form mac mg t ws coin out ≡ sends jumped (jump_statement form mac mg t ws coin out) (certificate_of form ws)
                  (began mg.n t.identity.question t.lasting (stage_of (main_of form ws)) (jump_statement form mac mg t ws coin out) (certificate_of form ws)) → Inv (g ∷ cs)
              jumped_so J a e =
                  let s = jump_statement form mac mg t ws coin out in
                  let u = began mg.n t.identity.question t.lasting (stage_of (main_of form ws)) s (certificate_of form ws) in
                  let o' = sends jumped s (certificate_of form ws) u in
                  let proper : Proper form mg.n s = jump_proper form mac eight mg t ws coin out J in
                  let coded = one_read g cs lo hi I.logs s proper refl (log_g o' e) in
                  let un : unrefused (answer form mac key n cs g).number ≡ true = number_g o' e refl in
                  let T : Station = W.as_station form mg.n mg.station u in
                  record {
                    logs = spoke g cs lo hi I.logs s proper refl a coded.0 coded.1 (after_g o' e)
                        (λ h. let H = whose h un in
                        subst (λ (z : ℕ). Just z before s) mine_g.same_n (jump_just form mac eight mg t ws coin out (log form mac key n cs) H.line.took H.known J came_g))
                        (λ h off y z. absurd (opened_on h un J.on (off_before g cs j t.identity.question off)));
                    lines = subst (λ (l : List Statement). Lines l (lineage form mac key n (g ∷ cs))) (sym (reads_spoke g cs lo hi I.logs s coded.0))
                        (given_are (returned form mg t out o') (returned_is o' e) (bare s ∷ before)
                        (placed (returned form mg t out o') (bare s ∷ before) (lines_more (bare s) before (lineage form mac key n cs) I.lines) (λ h. whose h un)
                        (λ H h. subst (λ (y : List Statement). Line form n (bare s ∷ before) j T (y ++ H.line.took)) (sym (main_is jumped s (certificate_of form ws) u refl proper J.cleared.range.at_most))
                        (of_mine j mg mine_g (bare s ∷ before) T (s ∷ H.line.took)
                        (jump_line form mac eight mg t ws coin out (log form mac key n cs) H.line.took H.known J came_g)))));
                  }
