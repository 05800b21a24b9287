-- The log under the modules of a group: each entry is a well-formed statement of its site, no pair of a site is there twice, since none is above its module's last, and
-- what a sound site's module coded is justified.
use Rattle.std.specs.Prelude.{◌≡◌, Bool, false, List, [], ◌∷◌, ◌++◌, ℕ, ◌≤◌, length}
use Rattle.std.proofs.Math.Path.{refl}
use Rattle.std.proofs.Common.{sym, ◌∙◌, ap, subst, arith}
use Rattle.std.proofs.Math.Bool.{true}
use Rattle.std.proofs.Math.Dec.{eqb}
use borrow.Author.Tests.{eqb-true, eqb-false, le-leb, eq-eqb}
use Rattle.laws.specs.Pick.{pick}
use Rattle.laws.specs.Bools.{never}
use Rattle.laws.specs.All.{All, all_map, all_append}
use Rattle.format.specs.Form.{Form, most_stations, covered_words}
use Rattle.format.proofs.Form.{with_round_length}
use Rattle.format.specs.Numbers.{kind_v, none, least_stations}
use Rattle.format.specs.Statement.{Statement, statement, covered, step}
use Rattle.format.proofs.Laws.Shape.{Shape, init, proposal, vote, Formed, formed_out}
use Rattle.modules.specs.declared.Module.{Module}
use Rattle.modules.specs.Counter.{above, last_for, advanced, making}
use Rattle.modules.proofs.Theorems.Above.{stays_below, coded_below}
use Rattle.station.specs.Demand.{OfGroup}
use Rattle.format.proofs.Laws.ReadBack.{Proper, word_back}
use Rattle.format.proofs.Laws.Covered.{covered_round, covered_code}
use Rattle.agreement.proofs.Maths.Log.{OtherPair, Distinct}
use Rattle.agreement.proofs.Maths.Safe.{Just, Split}
use Rattle.agreement.proofs.Maths.Just.{bare, just_more, split_more, bare_just}
use Rattle.agreement.proofs.Laws.Effect.{entry}
use Rattle.agreement.proofs.Laws.Line.{reads, reads_append, AtSite}
use Rattle.agreement.specs.Demand.{Entry, member}

-- a statement whose pair is not above a module's last: the module codes nothing more of that question and step
abbrev pub NotAbove : Module → Statement → Type 0
NotAbove m s = above (last_for m s.question) s.question (step s) ≡ false

module _ (form : Form) where
  -- the covered words of a statement, read again
  pub covered_back : (n : ℕ) (s : Statement) → n ≤ most_stations form → Proper form n s → statement form (covered form s) 0 ≡ bare s
  covered_back n s top p =
      let b = word_back form n s top p.formed in
      λ i. record { kind = b.kind i; value = b.value i; flag = b.flag i; station = b.station i; round = covered_round form s b.low i; question = s.question; code = covered_code form s i }

  -- the entry of a statement: it is read again, and is of its site
  pub entry_read : (n i : ℕ) (s : Statement) → n ≤ most_stations form → Proper form n s → reads form (entry form i s ∷ []) ≡ bare s ∷ []
  unfolding reads pick
  entry_read n i s top p =
      let z : eqb (length (covered form s)) (covered_words form) ≡ true = eq-eqb (length (covered form s)) (covered_words form) (omega (arith, with_round_length form s.round [])) in
      rw z (ap (λ (x : Statement). x ∷ []) (covered_back n s top p))

  pub entry_at : (n i : ℕ) (s : Statement) → n ≤ most_stations form → Proper form n s → s.station ≡ i → All (AtSite form) (entry form i s ∷ [])
  entry_at n i s top p mine = ((λ e. (sym (ap (λ (x : Statement). x.station) (covered_back n s top p) ∙ mine), ap (covered form) (covered_back n s top p))), tt)

  bare_formed : (n : ℕ) (s : Statement) → Formed form n s → Formed form n (bare s)
  bare_formed n s f = record { low = f.low; high = f.high; shape = same f.shape }
    where
      same : Shape form s → Shape form (bare s)
      same (init a b c d) = init a b c d
      same (proposal a b c d e) = proposal a b c d e
      same (vote a b c d e) = vote a b c d e

  module _ (key : List ℕ) (n : ℕ) (faulty : List ℕ) where
    -- `off` says of a site and a question that the site's stations on it do not jump: their none votes had two values before them
    abbrev HadBoth : (ℕ → ℕ → Type 0) → List Statement → Statement → Type 0
    HadBoth off l s = member s.station faulty ≡ false → off s.station s.question → s.kind ≡ kind_v → s.value ≡ none → Split n l s.question s.round

    pub record LogInv (off : ℕ → ℕ → Type 0) (f : ℕ → Module) (l : List Entry) : Type 0 where
      -- each site's module is as it was made but for its last pair
      pub mods : (i : ℕ) → 1 ≤ i → i ≤ n → OfGroup key n i (f i)
      pub bound : All (λ s. NotAbove (f s.station) s) (reads form l)
      pub formed : All (Formed form n) (reads form l)
      pub sites : All (AtSite form) l
      pub distinct : Distinct (reads form l)
      pub just : All (λ s. member s.station faulty ≡ false → Just n (reads form l) s) (reads form l)
      pub split : All (HadBoth off (reads form l)) (reads form l)

    pub start : (off : ℕ → ℕ → Type 0) → least_stations ≤ n → n ≤ most_stations form → LogInv off (λ i. (making form key n i).made) []
    unfolding reads making pick
    start off low top =
        record { mods = λ i lo hi. made i lo hi; bound = tt; formed = tt; sites = tt; distinct = tt; just = tt; split = tt }
      where
        made : (i : ℕ) → 1 ≤ i → i ≤ n → OfGroup key n i (making form key n i).made
        made i lo hi =
            rw (le-leb 2 n low, le-leb n (most_stations form) top, le-leb 1 i lo, le-leb i n hi)
            (record { same_key = refl; same_n = refl; same_site = refl })

    -- a call that codes no statement and leaves its module as it was, whatever else it codes
    pub unchanged : (before off : ℕ → ℕ → Type 0) → ((i q : ℕ) → off i q → before i q) → (f g : ℕ → Module) (es l : List Entry) → reads form es ≡ [] → All (AtSite form) es → ((i : ℕ) → f i ≡ g i)
        → LogInv before f l → LogInv off g (es ++ l)
    unchanged before off earlier f g es l none_there at e I =
        let same : reads form l ≡ reads form (es ++ l) = sym (reads_append form es l ∙ ap (λ (x : List Statement). x ++ reads form l) none_there) in
        record {
          mods = λ i lo hi. subst (λ (m : Module). OfGroup key n i m) (e i) (I.mods i lo hi);
          bound = subst (λ (x : List Statement). All (λ s. NotAbove (g s.station) s) x) same (all_map (λ s b. subst (λ (m : Module). NotAbove m s) (e s.station) b) (reads form l) I.bound);
          formed = subst (λ (x : List Statement). All (Formed form n) x) same I.formed;
          sites = all_append (AtSite form) es l at I.sites;
          distinct = subst Distinct same I.distinct;
          just = subst (λ (x : List Statement). All (λ s. member s.station faulty ≡ false → Just n x s) x) same I.just;
          split = subst (λ (x : List Statement). All (HadBoth off x) x) same (all_map (λ s h a b. h a (earlier s.station s.question b)) (reads form l) I.split);
        }

    module _ (before off : ℕ → ℕ → Type 0) (earlier : (i q : ℕ) → off i q → before i q) (f g : ℕ → Module) (es l : List Entry) (j : ℕ) (s : Statement) (one : reads form es ≡ bare s ∷ []) (at : All (AtSite form) es) (top : n ≤ most_stations form) (lo : 1 ≤ j) (hi : j ≤ n) (I : LogInv before f l) (p : Proper form n s) (mine : s.station ≡ j)
        (high : above (last_for (f j) s.question) s.question (step s) ≡ true) (now : g j ≡ advanced (f j) s.question (step s)) (others : (i : ℕ) → (i ≡ j → ⊥) → g i ≡ f i)
        (sj : member j faulty ≡ false → Just n (reads form l) s)
        (ss : member j faulty ≡ false → off j s.question → s.kind ≡ kind_v → s.value ≡ none → Split n (reads form l) s.question s.round) where
      shape_s : Formed form n s
      shape_s = formed_out form n s p.formed

      bare_step : step (bare s) ≡ step s
      unfolding step
      bare_step = refl

      -- what is not above the last pair of its site's module stays so
      below_on : (t : Statement) → NotAbove (f t.station) t → NotAbove (g t.station) t
      below_on t low = go (eqb t.station j) refl
        where
          go : (b : Bool) → eqb t.station j ≡ b → NotAbove (g t.station) t
          go true e =
              let x : t.station ≡ j = eqb-true t.station j e in
              subst (λ (m : Module). NotAbove m t) (sym (ap g x ∙ now))
              (stays_below (f j) s.question (step s) t.question (step t) high (subst (λ (i : ℕ). NotAbove (f i) t) x low))
          go false e = subst (λ (m : Module). NotAbove m t) (sym (others t.station (eqb-false t.station j e))) low

      now_below : NotAbove (g j) (bare s)
      now_below = subst (λ (m : Module). NotAbove m (bare s)) (sym now) (rw bare_step (coded_below (f j) s.question (step s)))

      under : (t : Statement) → NotAbove (f t.station) t → OtherPair (bare s) t
      under t b x y z =
          let w : above (last_for (f j) s.question) s.question (step s) ≡ false = sym (λ i. above (last_for (f ((x ∙ mine) i)) (y i)) (y i) ((z ∙ bare_step) i)) ∙ b in
          never _ w high

      mods_on : (i : ℕ) → 1 ≤ i → i ≤ n → OfGroup key n i (g i)
      mods_on i a b = go (eqb i j) refl
        where
          go : (c : Bool) → eqb i j ≡ c → OfGroup key n i (g i)
          go true e =
              let x : i ≡ j = eqb-true i j e in
              let M = I.mods j lo hi in
              subst (λ (z : ℕ). OfGroup key n z (g z)) (sym x) (subst (λ (m : Module). OfGroup key n j m) (sym now)
              (record { same_key = M.same_key; same_n = M.same_n; same_site = M.same_site }))
          go false e = subst (λ (m : Module). OfGroup key n i m) (sym (others i (eqb-false i j e))) (I.mods i a b)

      abbrev l2 : List Statement
      l2 = bare s ∷ reads form l

      reads_on : reads form (es ++ l) ≡ l2
      reads_on = reads_append form es l ∙ ap (λ (x : List Statement). x ++ reads form l) one

      pub log_add : LogInv off g (es ++ l)
      log_add =
          record {
            mods = mods_on;
            bound = subst (λ (x : List Statement). All (λ t. NotAbove (g t.station) t) x) (sym reads_on)
                (subst (λ (i : ℕ). NotAbove (g i) (bare s)) (sym mine) now_below, all_map below_on (reads form l) I.bound);
            formed = subst (λ (x : List Statement). All (Formed form n) x) (sym reads_on) (bare_formed n s shape_s, I.formed);
            sites = all_append (AtSite form) es l at I.sites;
            distinct = subst Distinct (sym reads_on) (all_map under (reads form l) I.bound, I.distinct);
            just = subst (λ (x : List Statement). All (λ t. member t.station faulty ≡ false → Just n x t) x) (sym reads_on) (
              (λ h. just_more n (bare s) (reads form l) (bare s) (bare_just n (reads form l) s (sj (ap (λ (i : ℕ). member i faulty) (sym mine) ∙ h)))),
              all_map (λ t k h. just_more n (bare s) (reads form l) t (k h)) (reads form l) I.just,
            );
            split = subst (λ (x : List Statement). All (HadBoth off x) x) (sym reads_on) (
              (λ h o a b. split_more n (bare s) (reads form l) (ss (ap (λ (i : ℕ). member i faulty) (sym mine) ∙ h) (subst (λ (i : ℕ). off i s.question) mine o) a b)),
              all_map (λ t k h o a b. split_more n (bare s) (reads form l) (k h (earlier t.station t.question o) a b)) (reads form l) I.split,
            );
          }
