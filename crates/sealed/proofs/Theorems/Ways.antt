-- The seal: what each of the two ways to code leaves in the lent words, and that a statement of the module's own station, well-formed and above its
-- last pair, is coded by the way that is for it.
use Rattle.std.specs.Prelude.{ℕ, ◌≤◌, ◌<◌, Bool, true, false, ◌&&◌, ◌≡◌, refl, leb, length, get_or}
use Rattle.std.proofs.Math.Bool.{not}
use mathlib.Core.List.{List, [], ◌∷◌, append-nil}
use Rattle.std.proofs.Common.{sym, ◌∙◌}
use Rattle.std.proofs.Math.Path.{ap}
use native.Mathlib.Omega.{arith}
use Rattle.std.proofs.Math.Dec.{eqb, ltb}
use borrow.Author.Tests.{eqb-true, eqb-false, eq-eqb, ltb-true, lt-ltb, leb-true, not-true}
use Rattle.laws.specs.Pick.{pick}
use Rattle.laws.specs.Bools.{both, join}
use Rattle.laws.specs.Refusals.{test, first_failed, all_passed, none_failed}
use Rattle.format.specs.Form.{present_form}
use Rattle.format.specs.Numbers.{kind_p, r_get, least_stations, out_of_range}
use Rattle.format.specs.Words.{fields_of}
use Rattle.format.specs.Statement.{Statement, step}
use Rattle.format.proofs.Laws.Layout.{formed_well}
use Rattle.format.proofs.Laws.Shape.{Shape, init, proposal, vote, formed_out, formed_in}
use Rattle.format.proofs.Laws.ReadBack.{Proper, word_back, formed_back, length_written, statement_back}
use Rattle.format.specs.Present.{statement_words, most_stations, size_fits, formed, statement, word_0, written, well_formed}
use Rattle.modules.specs.declared.Module.{Module}
use Rattle.modules.specs.Counter.{above, last_for, advanced, no_module}
use Rattle.modules.specs.Present.{module_fits}
use Rattle.sealed.specs.Sealed.{Coded, is_toss, by_plain, by_coin, tossed}
use Rattle.sealed.specs.Present.{signed, coding, coding_tests, coding_plain, coding_coin}

-- a statement with other words where its code stands
abbrev pub with_code : List ℕ → Statement → Statement
with_code c s =
    record { kind = s.kind; value = s.value; flag = s.flag; station = s.station; round = s.round; question = s.question; code = c }

-- coded: 0, the module one pair on, and the statement with its code in the lent words
abbrev pub coded_as : (List ℕ → List ℕ) → Module → Statement → Coded
coded_as code m s = record { number = 0; after = advanced m s.question (step s); lent = written (signed code s) }

-- the module that a refused making returns is in no range: every call that takes it refuses it
pub no_module_fits : module_fits no_module ≡ false
no_module_fits = refl

-- ---- what a coding that is answered 0 has shown
record Passed (m : Module) (ws : List ℕ) (way : Bool) : Type 0 where
  top : m.n ≤ most_stations
  well : well_formed m.n (statement ws 0) ≡ true
  right_way : way ≡ true

range_top : (m : Module) → module_fits m ≡ true → m.n ≤ most_stations
range_top m h = leb-true m.n most_stations (both (leb least_stations m.n) _ (both (size_fits m.n) _ h).0).1

passed : (code : List ℕ → List ℕ) (m : Module) (s : Statement) (ws : List ℕ) (range way : Bool) → (range ≡ true → module_fits m ≡ true)
    → (coding code m s ws (first_failed (test range out_of_range ∷ coding_tests m ws way))).number ≡ 0
    → (first_failed (test range out_of_range ∷ coding_tests m ws way) ≡ 0) × Passed m ws way
unfolding pick
passed code m s ws range way fit h = go (eqb tests 0) refl h
  where
    tests : ℕ
    tests = first_failed (test range out_of_range ∷ coding_tests m ws way)

    go : (b : Bool) → eqb tests 0 ≡ b → (pick {A = Coded} b (coded_as code m s) (record { number = tests; after = m; lent = ws })).number ≡ 0 → (tests ≡ 0) × Passed m ws way
    go true e z =
        let p = all_passed (test range out_of_range ∷ coding_tests m ws way) (omega arith, (omega arith, (omega arith, (omega arith, tt)))) (eqb-true _ _ e) in
        let w = both (eqb (length ws) statement_words && formed m.n (fields_of (get_or ws 0 0))) way p.1.0 in (
          eqb-true _ _ e,
          record {
            top = range_top m (fit p.0);
            well = formed_well present_form m.n ws 0 (both (eqb (length ws) statement_words) _ w.0).1;
            right_way = w.1;
          },
        )
    go false e z = absurd (eqb-false _ _ e z)

-- the lent words of a coding that was answered 0
lent_then : (code : List ℕ → List ℕ) (m : Module) (s : Statement) (ws : List ℕ) (k : ℕ) → k ≡ 0 → (coding code m s ws k).lent ≡ written (signed code s)
unfolding pick
lent_then code m s ws k e = rw e

-- an R-GET is well-formed with either coin
toss_well : (n : ℕ) (s : Statement) (coin : ℕ) → well_formed n s ≡ true → is_toss s ≡ true → coin < 2 → well_formed n (tossed coin s) ≡ true
toss_well n s coin h t c =
    let f = formed_out present_form n s h in
    formed_in present_form n (tossed coin s) (record { low = f.low; high = f.high; shape = go f.shape })
  where
    kind_is : s.kind ≡ kind_p
    kind_is = eqb-true s.kind kind_p (both (eqb s.kind kind_p) _ t).0

    go : Shape present_form s → Shape present_form (tossed coin s)
    go (init k r v g) = absurd (omega (arith, kind_is))
    go (proposal k l r v g) = proposal k l r c g
    go (vote k l r v g) = absurd (omega (arith, kind_is))

module _ (mac : List ℕ → List ℕ → List ℕ) (m : Module) where
  -- "The plain way takes every other statement and refuses an R-GET": what it has coded is none
  pub plain_no_toss : (ws : List ℕ) → (coding_plain mac m ws).number ≡ 0 → is_toss (statement (coding_plain mac m ws).lent 0) ≡ false
  unfolding Rattle.sealed.specs.Sealed.coding_plain
  plain_no_toss ws h =
      let s = statement ws 0 in
      let p = passed (mac m.key) m s ws (module_fits m) (by_plain s.kind s.flag) (λ e. e) h in
      let b = word_back present_form m.n s p.1.top p.1.well in
      ap (λ (l : List ℕ). is_toss (statement l 0)) (lent_then (mac m.key) m s ws _ p.0)
      ∙ (λ i. eqb (b.kind i) kind_p && eqb (b.flag i) r_get)
      ∙ not-true (is_toss s) p.1.right_way

  -- "The coin way is only for a P flagged R-GET: it puts the coin in as the value": what it has coded is one, with the coin
  pub coin_toss : (ws : List ℕ) (coin : ℕ) → (coding_coin mac m ws coin).number ≡ 0
      → (is_toss (statement (coding_coin mac m ws coin).lent 0) ≡ true) × ((statement (coding_coin mac m ws coin).lent 0).value ≡ coin)
  unfolding Rattle.sealed.specs.Sealed.coding_coin
  coin_toss ws coin h =
      let s = statement ws 0 in
      let p = passed (mac m.key) m (tossed coin s) ws (module_fits m && ltb coin 2) (by_coin s.kind s.flag) (λ e. (both (module_fits m) _ e).0) h in
      let q = all_passed (test (module_fits m && ltb coin 2) out_of_range ∷ coding_tests m ws (by_coin s.kind s.flag)) (omega arith, (omega arith, (omega arith, (omega arith, tt)))) p.0 in
      let c = ltb-true coin 2 (both (module_fits m) _ q.0).1 in
      let b = word_back present_form m.n (tossed coin s) p.1.top (toss_well m.n s coin p.1.well p.1.right_way c) in
      let l = lent_then (mac m.key) m (tossed coin s) ws _ p.0 in (
        ap (λ (l : List ℕ). is_toss (statement l 0)) l ∙ (λ i. eqb (b.kind i) kind_p && eqb (b.flag i) r_get) ∙ p.1.right_way,
        ap (λ (l : List ℕ). (statement l 0).value) l ∙ b.value,
      )

  -- ---- a statement of the module's own station
  module _ (s : Statement) (fit : module_fits m ≡ true) (p : Proper present_form m.n s) (own : s.station ≡ m.station)
      (later : above (last_for m s.question) s.question (step s) ≡ true) where
    top : m.n ≤ most_stations
    top = range_top m fit

    back : statement (written s) 0 ≡ s
    back = ap (λ (l : List ℕ). statement l 0) (sym (append-nil (written s))) ∙ statement_back present_form m.n s [] top p

    tested : (range : Bool) (way : Statement → Bool) → range ≡ true → way s ≡ true
        → first_failed (test range out_of_range ∷ coding_tests m (written s) (way (statement (written s) 0))) ≡ 0
    tested range way r w =
        none_failed (test range out_of_range ∷ coding_tests m (written s) (way (statement (written s) 0))) (
          r,
          (
            join (eqb (length (written s)) statement_words && formed m.n (fields_of (word_0 s))) (way (statement (written s) 0))
                (join (eqb (length (written s)) statement_words) _ (eq-eqb _ _ (length_written present_form m.n s p)) (formed_back present_form m.n s top p.formed)) (ap way back ∙ w),
            (
              eq-eqb _ _ (ap (λ (x : Statement). x.station) back ∙ own),
              (ap (λ (x : Statement). above (last_for m x.question) x.question (step x)) back ∙ later, tt),
            ),
          ),
        )

    coded : (x : Statement) (k : ℕ) → k ≡ 0 → coding (mac m.key) m x (written s) k ≡ coded_as (mac m.key) m x
    unfolding pick
    coded x k e = rw e

    pub own_plain : is_toss s ≡ false → coding_plain mac m (written s) ≡ coded_as (mac m.key) m s
    unfolding Rattle.sealed.specs.Sealed.coding_plain
    own_plain t =
        coded (statement (written s) 0) _ (tested (module_fits m) (λ x. by_plain x.kind x.flag) fit (ap not t)) ∙ ap (coded_as (mac m.key) m) back

    pub own_coin : is_toss s ≡ true → s.value < 2 → coding_coin mac m (written s) s.value ≡ coded_as (mac m.key) m s
    unfolding Rattle.sealed.specs.Sealed.coding_coin
    own_coin t v =
        coded (tossed s.value (statement (written s) 0)) _
        (tested (module_fits m && ltb s.value 2) (λ x. by_coin x.kind x.flag) (join (module_fits m) _ fit (lt-ltb s.value 2 v)) t)
        ∙ ap (λ (x : Statement). coded_as (mac m.key) m (tossed s.value x)) back
