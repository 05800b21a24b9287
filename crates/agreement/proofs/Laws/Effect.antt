-- What an action does to its site's module and to the log: no statement and nothing to the module, or one statement of the site's own, above the module's
-- last pair.
use Rattle.std.specs.Prelude.{◌≡◌, Bool, ◌&&◌, List, [], ◌∷◌, length, drop}
use Rattle.std.proofs.Math.Path.{refl}
use Rattle.std.proofs.Common.{◌∙◌, ap, arith, eqb-true, ltb-true}
use Rattle.std.proofs.Math.Bool.{true, false}
use Prim.Native.Nat.{ℕ, ◌<◌}
use Rattle.std.proofs.Math.Dec.{eqb, ltb}
use Rattle.std.proofs.lemmas.Bool.{eqb-false}
use Rattle.laws.specs.Pick.{pick}
use Rattle.laws.specs.Bools.{never, both}
use Rattle.laws.specs.Refusals.{Test, test, first_failed, all_passed}
use Rattle.format.specs.Form.{Form, fields_at, statement_words}
use Rattle.format.specs.Numbers.{out_of_range}
use Rattle.format.specs.Statement.{Statement, statement, covered, step, well_formed, formed}
use Rattle.format.proofs.Laws.Layout.{formed_well}
use Rattle.format.proofs.Laws.Shape.{Shape, init, proposal, vote, formed_out, formed_in}
use Rattle.modules.specs.declared.Module.{Module}
use Rattle.modules.specs.Counter.{above, last_for, advanced, module_fits}
use Rattle.sealed.specs.Sealed.{is_toss, by_plain, by_coin, with_value, signed, coding_tests, coding, coding_plain, coding_coin}
use Rattle.station.specs.declared.Station.{Station}
use Rattle.station.specs.Machine.{Outcome, refused, keeps, sends}
use Rattle.station.specs.Words.{Lengths}
use Rattle.format.specs.Bundle.{bundle_of, all_written}
use Rattle.station.specs.Calls.{returned, opening, giving, opening_outcome, giving_outcome, no_station}
use Rattle.format.proofs.Laws.ReadBack.{Proper}
use Rattle.format.proofs.Laws.Covered.{covered_front, covered_alone}
use Rattle.station.proofs.Laws.Views.{Opens, no_opening, begins, opens_view, Gives, refuses, holds_on, shuts, goes_on, enters}
use Rattle.station.specs.Returns.{unrefused, wrote}
use Rattle.station.proofs.Laws.Returns.{wrote_unrefused, sent_wrote}
use Rattle.agreement.proofs.Laws.Ground.{Ground}
use Rattle.agreement.specs.Demand.{Action, opens, gives, codes, tosses, view, Entry, act, bundle_coded, statement_coded, coded_in, as_returned}

refused_silent : (k : ℕ) → unrefused k ≡ false → wrote k ≡ false
refused_silent k e = go (wrote k) refl
  where
    go : (b : Bool) → wrote k ≡ b → wrote k ≡ false
    go true x = never (unrefused k) e (wrote_unrefused k x)
    go false x = x

module _ (form : Form) where
  abbrev pub entry : ℕ → Statement → Entry
  entry i s = record { at = i; words = covered form s }

  module _ (G : Ground form) where
    open G use {mac, eight, key, n}

    -- what a module codes at a call of site i
    abbrev pub coded_at : Module → ℕ → Action → List Entry
    coded_at m i a = coded_in form i (view a) (act form mac key n m a)

    pub data Effect (m : Module) (i : ℕ) (a : Action) : Type 0 where
      silent : coded_at m i a ≡ [] → (act form mac key n m a).after ≡ m → Effect m i a
      speaks : (s : Statement) → Proper form m.n s → s.station ≡ m.station → above (last_for m s.question) s.question (step s) ≡ true
          → coded_at m i a ≡ entry i s ∷ [] → (act form mac key n m a).after ≡ advanced m s.question (step s) → Effect m i a

    -- what an outcome of opening or giving leaves in the log, and in the module
    abbrev pub log_of : ℕ → Outcome → List Entry
    log_of i (refused k) = []
    log_of i (keeps k u) = []
    log_of i (sends k s c u) = entry i s ∷ []

    abbrev pub after_of : Module → Outcome → Module
    after_of m (refused k) = m
    after_of m (keeps k u) = m
    after_of m (sends k s c u) = advanced m s.question (step s)

    abbrev pub Numbered : Outcome → Type 0
    Numbered (refused k) = wrote k ≡ false
    Numbered (keeps k u) = wrote k ≡ false
    Numbered (sends k s c u) = wrote k ≡ true

    pub logs_is : (i : ℕ) (m : Module) (t : Station) (out : List ℕ) (o : Outcome) → Numbered o → bundle_coded form i (returned form m t out o) ≡ log_of i o
    unfolding pick returned bundle_of
    logs_is i m t out (refused k) e = rw e
    logs_is i m t out (keeps k u) e = rw e
    logs_is i m t out (sends k s c u) e =
        rw e (λ j. record { at = i; words = covered_front form s (all_written form c) (drop (length (bundle_of form s c)) out) j } ∷ [])

    after_is : (m : Module) (t : Station) (out : List ℕ) (o : Outcome) → (returned form m t out o).after ≡ after_of m o
    unfolding returned
    after_is m t out (refused k) = refl
    after_is m t out (keeps k u) = refl
    after_is m t out (sends k s c u) = refl

    -- opening
    module _ (m : Module) (i q v j : ℕ) (out : List ℕ) where
      open_numbered : (o : Outcome) → Opens form mac m q v j out o → Numbered o
      open_numbered _ (no_opening {k} w) = refused_silent k w
      open_numbered _ (begins room r p a) = refl

      pub open_coded : coded_at m i (opens q v j out) ≡ log_of i (opening_outcome form mac m q v j out)
      unfolding act opening
      open_coded = logs_is i m (no_station form) out (opening_outcome form mac m q v j out) (open_numbered (opening_outcome form mac m q v j out) (opens_view form mac m q v j out))

      pub open_after : (act form mac key n m (opens q v j out)).after ≡ after_of m (opening_outcome form mac m q v j out)
      unfolding act opening
      open_after = after_is m (no_station form) out (opening_outcome form mac m q v j out)

    -- giving
    module _ (m : Module) (i k : ℕ) (t : Station) (ws : List ℕ) (coin : ℕ) (out : List ℕ) (L : Lengths form t) where
      pub give_numbered : (o : Outcome) → Gives form mac m t ws coin out o → Numbered o
      give_numbered _ (refuses {k} w) = refused_silent k w
      give_numbered _ (holds_on A few) = refl
      give_numbered _ (shuts A size c) = refl
      give_numbered _ (goes_on A size c a w) = ap wrote w ∙ sent_wrote _
      give_numbered _ (enters J a) = refl

      pub give_after : (act form mac key n m (gives k t ws coin out)).after ≡ after_of m (giving_outcome form mac m t ws coin out)
      unfolding act giving
      give_after = after_is m t out (giving_outcome form mac m t ws coin out)

    -- ---- coding, plain and with the coin: the statement s, by the refusal found
    pub data Coding (m : Module) (s : Statement) (ws : List ℕ) (i refusal : ℕ) : Type 0 where
      not_coded : (refusal ≡ 0 → ⊥) → statement_coded form i (as_returned form (coding form (mac m.key) m s ws refusal)) ≡ [] → (coding form (mac m.key) m s ws refusal).after ≡ m
          → Coding m s ws i refusal
      is_coded : refusal ≡ 0 → statement_coded form i (as_returned form (coding form (mac m.key) m s ws refusal)) ≡ entry i (signed form (mac m.key) s) ∷ []
          → (coding form (mac m.key) m s ws refusal).after ≡ advanced m s.question (step s) → Coding m s ws i refusal

    coding_view : (m : Module) (s : Statement) (ws : List ℕ) (i refusal : ℕ) → Coding m s ws i refusal
    unfolding pick
    coding_view m s ws i refusal = go (eqb refusal 0) refl
      where
        go : (b : Bool) → eqb refusal 0 ≡ b → Coding m s ws i refusal
        go true e = is_coded (eqb-true _ _ e) (rw (e, covered_alone form (signed form (mac m.key) s))) (rw e)
        go false e = not_coded (eqb-false _ _ e) (rw (e, e)) (rw e)

    -- what the tests of coding show of the words
    pub record Codable (m : Module) (ws : List ℕ) (way : Bool) : Type 0 where
      pub formed : well_formed form m.n (statement form ws 0) ≡ true
      pub mine : (statement form ws 0).station ≡ m.station
      pub later : above (last_for m (statement form ws 0).question) (statement form ws 0).question (step (statement form ws 0)) ≡ true
      pub fitting : way ≡ true

    codable : (m : Module) (ws : List ℕ) (way : Bool) (first : Test) → 0 < first.number → first_failed (first ∷ coding_tests form m ws way) ≡ 0 → (first.ok ≡ true) × Codable m ws way
    codable m ws way first low e =
        let p = all_passed (first ∷ coding_tests form m ws way) (low, (omega arith, (omega arith, (omega arith, tt)))) e in
        let a = both (eqb (length ws) (statement_words form) && formed form m.n (fields_at form ws 0)) way p.1.0 in
        let b = both (eqb (length ws) (statement_words form)) _ a.0 in
        (p.0, record { formed = formed_well form m.n ws 0 b.1; mine = eqb-true _ _ p.1.1.0; later = p.1.1.1.0; fitting = a.1 })

    -- the statement with its code
    signed_proper : (m : Module) (s : Statement) → well_formed form m.n s ≡ true → Proper form m.n (signed form (mac m.key) s)
    unfolding well_formed
    signed_proper m s f = record { formed = f; eight = eight m.key (covered form s) }

    pub plain_effect : (m : Module) (i : ℕ) (ws : List ℕ) → Effect m i (codes ws)
    unfolding act coding_plain step
    plain_effect m i ws = go (coding_view m (statement form ws 0) ws i _)
      where
        refusal : ℕ
        refusal = first_failed (test (module_fits form m) out_of_range ∷ coding_tests form m ws (by_plain (statement form ws 0).kind (statement form ws 0).flag))

        go : Coding m (statement form ws 0) ws i refusal → Effect m i (codes ws)
        go (not_coded z l a) = silent l a
        go (is_coded z l a) =
            let c = (codable m ws (by_plain (statement form ws 0).kind (statement form ws 0).flag) (test (module_fits form m) out_of_range) (omega arith) z).1 in
            speaks (signed form (mac m.key) (statement form ws 0)) (signed_proper m (statement form ws 0) c.formed) c.mine c.later l a

    pub toss_effect : (m : Module) (i : ℕ) (ws : List ℕ) (coin : ℕ) → Effect m i (tosses ws coin)
    unfolding act coding_coin step
    toss_effect m i ws coin = go (coding_view m (with_value coin (statement form ws 0)) ws i _)
      where
        refusal : ℕ
        refusal = first_failed (test (module_fits form m && ltb coin 2) out_of_range ∷ coding_tests form m ws (by_coin (statement form ws 0).kind (statement form ws 0).flag))

        tossed : (s : Statement) → Shape form s → is_toss s ≡ true → coin < 2 → Shape form (with_value coin s)
        tossed s (init a b c d) t low = absurd (omega (arith, eqb-true s.kind 1 (both (eqb s.kind 1) _ t).0))
        tossed s (proposal a b c d e) t low = proposal a b c low e
        tossed s (vote a b c d e) t low = absurd (omega (arith, eqb-true s.kind 1 (both (eqb s.kind 1) _ t).0))

        go : Coding m (with_value coin (statement form ws 0)) ws i refusal → Effect m i (tosses ws coin)
        go (not_coded z l a) = silent l a
        go (is_coded z l a) =
            let c = codable m ws (by_coin (statement form ws 0).kind (statement form ws 0).flag) (test (module_fits form m && ltb coin 2) out_of_range) (omega arith) z in
            let f = formed_out form m.n (statement form ws 0) c.1.formed in
            let low : coin < 2 = ltb-true coin 2 (both (module_fits form m) _ c.0).1 in
            let w : well_formed form m.n (with_value coin (statement form ws 0)) ≡ true
            = formed_in form m.n (with_value coin (statement form ws 0)) (record { low = f.low; high = f.high; shape = tossed (statement form ws 0) f.shape c.1.fitting low }) in
            speaks (signed form (mac m.key) (with_value coin (statement form ws 0))) (signed_proper m (with_value coin (statement form ws 0)) w) c.1.mine c.1.later l a
