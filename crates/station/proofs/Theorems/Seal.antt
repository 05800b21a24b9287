-- A station codes by the module's two ways: the main statement of what it writes is what coding plain, or for an R-GET coding with the coin, codes and
-- leaves behind. And the word count of what is written is its length.
use Prim.Native.Nat.{ℕ, suc, ◌+◌, ◌≤◌, ◌<◌}
use Rattle.std.specs.Prelude.{Bool, ◌&&◌, ◌||◌, ◌≡◌, ltb, leb, drop}
use Rattle.std.proofs.Math.Bool.{true, false}
use mathlib.Core.List.{List, [], ◌++◌, append_assoc}
use Rattle.std.proofs.Math.Path.{refl, sym, ap}
use Rattle.std.proofs.Common.{◌∙◌, arith, length-append, take_at, le-leb}
use Rattle.std.proofs.Math.Dec.{eqb}
use Rattle.std.proofs.Math.ListN.{length, take}
use Rattle.laws.specs.Pick.{pick}
use Rattle.laws.specs.Bools.{never, join}
use Rattle.laws.specs.All.{All, all_append}
use Rattle.laws.specs.Over.{over}
use Rattle.format.specs.Form.{present_form}
use Rattle.format.specs.Numbers.{kind_init, kind_p, none, d_get, r_get, least_stations, code_words}
use Rattle.format.specs.Statement.{Statement, step}
use Rattle.format.proofs.Laws.Shape.{init}
use Rattle.format.proofs.Laws.ReadBack.{Proper, length_written, statement_drop, statement_back}
use Rattle.modules.specs.declared.Module.{Module}
use Rattle.modules.specs.Counter.{above, last_for, advanced}
use Rattle.modules.specs.Present.{module_fits}
use Rattle.sealed.specs.Sealed.{is_toss}
use Rattle.sealed.proofs.Theorems.Ways.{with_code, coded_as, own_plain, own_coin}
use Rattle.sealed.specs.Present.{signed, coding_plain, coding_coin}
use Rattle.station.specs.declared.Stage.{Stage}
use Rattle.station.specs.declared.Stage.TheVariants.{Gathering, Proposing, Voting}
use Rattle.station.specs.declared.Station.{Station}
use Rattle.station.specs.Machine.{State, Outcome, Next, next, proposing, carried, follows, copied_value}
use Rattle.format.specs.Present.{bundle_words, most_stations, covered_words, place_of, statement_words, size_fits, statement, covered, written, main_of, certificate_of, all_written, bundle_of}
use Rattle.station.specs.Returns.{unrefused, wrote}
use Rattle.station.proofs.Laws.Returns.{wrote_unrefused, sent_wrote}
use Rattle.station.specs.Demand.{message}
use Rattle.station.proofs.Laws.ReadBack.{length_all}
use Rattle.station.proofs.Laws.Views.{InRange, after, sent_statement, jump_statement, Gives, refuses, holds_on, shuts, goes_on, enters, gives_view, init_statement, Opens, no_opening, begins, opens_view, lasting_then}
use Rattle.station.proofs.Laws.Fits.{own_proper, next_ready, sent_proper, jump_proper}
use Rattle.station.specs.Present.{returned, opening, giving, opening_outcome, giving_outcome, no_station, Lengths, BySeal}

pub range_fits : (m : Module) → InRange present_form m → module_fits m ≡ true
range_fits m r =
    join (size_fits m.n) _ (join (leb least_stations m.n) _ (le-leb _ _ r.at_least) (le-leb _ _ r.at_most))
    (join (leb 1 m.station) _ (le-leb _ _ r.low) (le-leb _ _ r.high))

-- ---- a bundle written over the lent words
module _ (n : ℕ) (s : Statement) (c : List Statement) (out : List ℕ) (p : Proper present_form n s) where
  -- behind the head stands the main statement
  main_first : drop (place_of 0) (over (bundle_of s c) out) ≡ written s ++ (all_written c ++ drop (length (bundle_of s c)) out)
  unfolding Rattle.format.specs.Bundle.bundle_of
  main_first = append_assoc (written s) (all_written c) _

  pub main_words : take statement_words (drop (place_of 0) (over (bundle_of s c) out)) ≡ written s
  main_words = ap (take statement_words) main_first ∙ take_at (written s) _ statement_words (length_written present_form n s p)

  pub main_back : n ≤ most_stations → statement (over (bundle_of s c) out) (place_of 0) ≡ s
  main_back top =
      statement_drop present_form (over (bundle_of s c) out) 1 ∙ ap (λ (l : List ℕ). statement l 0) main_first ∙ statement_back present_form n s _ top p

  -- its covered words, with others behind them
  pub main_front : (x : List ℕ) → take covered_words (drop (place_of 0) (over (bundle_of s c) out)) ++ x ≡ written (with_code x s)
  unfolding Rattle.format.specs.Bundle.bundle_of
  main_front x = refl

  -- the count is the length of what is written
  pub bundle_counted : All (Proper present_form n) c → length (take (bundle_words (length c)) (over (bundle_of s c) out)) ≡ bundle_words (length c)
  unfolding Rattle.format.specs.Bundle.bundle_of
  bundle_counted a =
      let l : length (bundle_of s c) ≡ bundle_words (length c)
      = ap suc (length-append (written s) (all_written c)) ∙ omega (arith, length_written present_form n s p, length_all present_form n c a) in
      ap length (take_at (bundle_of s c) (drop (length (bundle_of s c)) out) (bundle_words (length c)) l) ∙ l

module _ (mac : List ℕ → List ℕ → List ℕ) (m : Module) (r : InRange present_form m) (s : Statement) (c : List Statement) (out : List ℕ) (p : Proper present_form m.n s)
    (own : s.station ≡ m.station) (code : s.code ≡ mac m.key (covered s)) (later : above (last_for m s.question) s.question (step s) ≡ true) where
  -- what is coded with any eight words behind words 0 and 1
  coded_is : (x : List ℕ) → coded_as (mac m.key) m (with_code x s) ≡ record { number = 0; after = advanced m s.question (step s); lent = take statement_words (drop (place_of 0) (over (bundle_of s c) out)) }
  unfolding step
  coded_is x =
      let e : written (signed (mac m.key) (with_code x s)) ≡ take statement_words (drop 1 (over (bundle_of s c) out))
      = ap (λ (l : List ℕ). written (with_code l s)) (sym code) ∙ sym (main_words m.n s c out p) in
      λ i. record { number = 0; after = advanced m s.question (step s); lent = e i }

  proper_with : (x : List ℕ) → length x ≡ code_words → Proper present_form m.n (with_code x s)
  unfolding Rattle.format.specs.Statement.well_formed
  proper_with x e = record { formed = p.formed; eight = e }

  later_with : (x : List ℕ) → above (last_for m s.question) s.question (step (with_code x s)) ≡ true
  unfolding step
  later_with x = later

  pub by_seal : (number count : ℕ) (t : Station) (coin : ℕ) → (is_toss s ≡ true → (s.value ≡ coin) × (s.value < 2))
      → BySeal mac m coin (record { number = number; count = count; station = t; after = advanced m s.question (step s); lent = over (bundle_of s c) out })
  by_seal number count t coin toss =
      record {
        plain = λ h x e.
            ap (coding_plain mac m) (main_front m.n s c out p x)
            ∙ own_plain mac m (with_code x s) (range_fits m r) (proper_with x e) own (later_with x) (ap is_toss (sym (main_back m.n s c out p r.at_most)) ∙ h) ∙ coded_is x;
        tossed = λ h x e.
            let k : is_toss s ≡ true = ap is_toss (sym (main_back m.n s c out p r.at_most)) ∙ h in
            ap (λ (l : List ℕ). coding_coin mac m l coin) (main_front m.n s c out p x)
            ∙ ap (coding_coin mac m (written (with_code x s))) (sym (toss k).0)
            ∙ own_coin mac m (with_code x s) (range_fits m r) (proper_with x e) own (later_with x) k (toss k).1 ∙ coded_is x;
      }

-- an R-GET follows none votes alone, and its value is the call's coin
toss_coin : (n : ℕ) (g : Stage) (k : State) (coin : ℕ) → (eqb (follows n g k coin).kind kind_p && eqb (follows n g k coin).flag r_get) ≡ true → (follows n g k coin).value ≡ coin
unfolding follows pick
toss_coin n Gathering k coin e = never false refl e
toss_coin n (Proposing r f) k coin e = never false refl e
toss_coin n (Voting r) k coin e = go (ltb (carried k.held) none) e
  where
    by_votes : Next
    by_votes = next kind_p (carried k.held) d_get (r.0 + 1) k.for_value [] (proposing (r.0 + 1) d_get)

    by_coin : Next
    by_coin = next kind_p coin r_get (r.0 + 1) k.held [] (proposing (r.0 + 1) r_get)

    go : (b : Bool) → (eqb (pick b by_votes by_coin).kind kind_p && eqb (pick b by_votes by_coin).flag r_get) ≡ true → (pick b by_votes by_coin).value ≡ coin
    go true e = never false refl e
    go false e = refl

-- and so is that of an R-GET that a jump writes
copied_toss : (m : Statement) (coin : ℕ) → (eqb m.kind kind_p && eqb m.flag r_get) ≡ true → copied_value m coin ≡ coin
unfolding pick
copied_toss m coin e = rw e

module _ (mac : List ℕ → List ℕ → List ℕ) (eight : (key ws : List ℕ) → length (mac key ws) ≡ code_words) (m : Module) where
  pub opening_sealed : (question v jump : ℕ) (out : List ℕ) → wrote (opening mac m question v jump out).number ≡ true → (coin : ℕ) → BySeal mac m coin (opening mac m question v jump out)
  unfolding Rattle.station.specs.Calls.opening Rattle.station.specs.Calls.returned
  opening_sealed question v jump out u coin = go (opening_outcome mac m question v jump out) (opens_view present_form mac m question v jump out) u
    where
      go : (o : Outcome) → Opens present_form mac m question v jump out o → wrote (returned m no_station out o).number ≡ true → BySeal mac m coin (returned m no_station out o)
      go _ (no_opening {k} e) u = never (unrefused k) e (wrote_unrefused k u)
      go _ (begins room r p a) u =
          by_seal mac m r (init_statement present_form mac m question v out) [] out
          (own_proper present_form mac eight m question kind_init v d_get 0 r (init refl refl p refl)) refl refl a _ _ _ coin (λ e. never false refl e)

  pub giving_sealed : (t : Station) (ws : List ℕ) (coin : ℕ) (out : List ℕ) → Lengths t → wrote (giving mac m t ws coin out).number ≡ true
      → BySeal mac m coin (giving mac m t ws coin out)
  unfolding Rattle.station.specs.Calls.giving Rattle.station.specs.Calls.returned
  giving_sealed t ws coin out L u = go (giving_outcome mac m t ws coin out) (gives_view present_form mac m t ws coin out L) u
    where
      go : (o : Outcome) → Gives present_form mac m t ws coin out o → wrote (returned m t out o).number ≡ true → BySeal mac m coin (returned m t out o)
      go _ (refuses {k} e) u = never (unrefused k) e (wrote_unrefused k u)
      go _ (holds_on A few) u = never false refl u
      go _ (shuts A size c) u = never false refl u
      go _ (goes_on A size c later k) u =
          by_seal mac m A.cleared.range (sent_statement present_form mac m t ws coin out) _ out (sent_proper present_form mac eight m t ws coin out L A size c) refl refl later _ _ _ coin
          (λ e. let v = toss_coin m.n t.stage (after present_form mac m t ws coin out) coin e in (v, omega (arith, v, A.cleared.coin_bit)))
      go _ (enters J later) u =
          by_seal mac m J.cleared.range (jump_statement present_form mac m t ws coin out) _ out (jump_proper present_form mac eight m t ws coin out J) refl refl later _ _ _ coin
          (λ e. let v = copied_toss (main_of ws) coin e in (v, omega (arith, v, J.cleared.coin_bit)))

  -- ---- the word count
  pub opening_counted : (question v jump : ℕ) (out : List ℕ) → length (message (opening mac m question v jump out)) ≡ (opening mac m question v jump out).count
  unfolding Rattle.station.specs.Calls.opening Rattle.station.specs.Calls.returned
  opening_counted question v jump out = go (opening_outcome mac m question v jump out) (opens_view present_form mac m question v jump out)
    where
      go : (o : Outcome) → Opens present_form mac m question v jump out o → length (message (returned m no_station out o)) ≡ (returned m no_station out o).count
      go _ (no_opening e) = refl
      go _ (begins room r p a) =
          bundle_counted m.n (init_statement present_form mac m question v out) [] out (own_proper present_form mac eight m question kind_init v d_get 0 r (init refl refl p refl)) tt

  pub giving_counted : (t : Station) (ws : List ℕ) (coin : ℕ) (out : List ℕ) → Lengths t → length (message (giving mac m t ws coin out)) ≡ (giving mac m t ws coin out).count
  unfolding Rattle.station.specs.Calls.giving Rattle.station.specs.Calls.returned
  giving_counted t ws coin out L = go (giving_outcome mac m t ws coin out) (gives_view present_form mac m t ws coin out L)
    where
      go : (o : Outcome) → Gives present_form mac m t ws coin out o → length (message (returned m t out o)) ≡ (returned m t out o).count
      go _ (refuses e) = refl
      go _ (holds_on A few) = refl
      go _ (shuts A size c) = refl
      go _ (goes_on A size c later k) =
          let x = follows m.n t.stage (after present_form mac m t ws coin out) coin in
          let R = next_ready present_form mac eight m t ws coin out L A size c in
          bundle_counted m.n (sent_statement present_form mac m t ws coin out) (x.first ++ x.second) out (sent_proper present_form mac eight m t ws coin out L A size c)
          (all_append (Proper present_form m.n) x.first x.second R.proper R.more_proper)
      go _ (enters J later) =
          bundle_counted m.n (jump_statement present_form mac m t ws coin out) (certificate_of ws) out (jump_proper present_form mac eight m t ws coin out J) J.fitting.certificate

  -- ---- where nothing is written nothing is counted
  pub opening_silent : (question v jump : ℕ) (out : List ℕ) → wrote (opening mac m question v jump out).number ≡ false → (opening mac m question v jump out).count ≡ 0
  unfolding Rattle.station.specs.Calls.opening Rattle.station.specs.Calls.returned
  opening_silent question v jump out = go (opening_outcome mac m question v jump out) (opens_view present_form mac m question v jump out)
    where
      go : (o : Outcome) → Opens present_form mac m question v jump out o → wrote (returned m no_station out o).number ≡ false → (returned m no_station out o).count ≡ 0
      go _ (no_opening e) u = refl
      go _ (begins room r p a) u = never true u refl

  pub giving_silent : (t : Station) (ws : List ℕ) (coin : ℕ) (out : List ℕ) → Lengths t → wrote (giving mac m t ws coin out).number ≡ false → (giving mac m t ws coin out).count ≡ 0
  unfolding Rattle.station.specs.Calls.giving Rattle.station.specs.Calls.returned
  giving_silent t ws coin out L = go (giving_outcome mac m t ws coin out) (gives_view present_form mac m t ws coin out L)
    where
      go : (o : Outcome) → Gives present_form mac m t ws coin out o → wrote (returned m t out o).number ≡ false → (returned m t out o).count ≡ 0
      go _ (refuses e) u = refl
      go _ (holds_on A few) u = refl
      go _ (shuts A size c) u = refl
      go _ (goes_on {k} A size c later e) u = never (wrote k) u (ap wrote e ∙ sent_wrote (ltb t.lasting.decision none || eqb (lasting_then present_form mac m t ws coin out).decision none))
      go _ (enters J later) u = never true u refl
