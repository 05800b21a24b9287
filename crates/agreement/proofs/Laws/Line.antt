-- Words whose codes came from the log were coded; and what is known of a sound site's station, carried from its state to its words and back.
use Rattle.std.specs.Prelude.{◌≡◌, Bool, ◌&&◌, ◌||◌, length}
use Rattle.std.proofs.Math.Path.{refl, ap, subst}
use Rattle.std.proofs.Common.{sym, ◌∙◌}
use Rattle.std.proofs.Math.Bool.{true, false}
use mathlib.Core.List.Memᴰ
use mathlib.Core.List.{List, [], ◌∷◌, ◌++◌}
use Prim.Native.Nat.{ℕ, zero, suc, ◌+◌, ◌*◌, ◌≤◌, ◌<◌}
use native.Mathlib.Omega.{arith}
use Rattle.std.proofs.Math.Dec.{eqb}
use Rattle.std.proofs.Math.ListN.{get_or}
use borrow.Author.Tests.{eq-eqb}
use Rattle.laws.specs.Pick.{pick}
use Rattle.laws.specs.Bools.{never, both}
use Rattle.laws.specs.All.{All}
use Rattle.laws.specs.Count.{count}
use Rattle.format.specs.Form.{Form, most_stations, covered_words, with_round, round_at, fields_at, statement_words, place_of}
use Rattle.format.proofs.Form.{with_round_length}
use Rattle.format.specs.Numbers.{none}
use Rattle.format.specs.Group.{quorum}
use Rattle.format.specs.Words.{station_of}
use Rattle.format.specs.Statement.{Statement, statement, statements, covered_at, covered, same_words, verifies, well_formed, formed}
use Rattle.format.specs.Bundle.{all_formed}
use Rattle.format.proofs.Laws.Layout.{covered_formed, same_out, covered_taken}
use Rattle.format.proofs.Laws.Shape.{formed_out}
use Rattle.format.proofs.Laws.Covered.{covered_bare}
use Rattle.station.specs.declared.Station.{Station}
use Rattle.station.specs.Machine.{State}
use Rattle.station.specs.Words as W
use Rattle.station.specs.Words.{state_of, Lengths}
use Rattle.station.proofs.Laws.Sane.{Sane, state_back}
use Rattle.station.proofs.Theorems.Written.{lengths_of}
use Rattle.agreement.specs.Maths.Votes.{votes}
use Rattle.agreement.proofs.Maths.Log.{In}
use Rattle.agreement.proofs.Maths.Just.{Coded}
use Rattle.agreement.proofs.Maths.Standing.{Enough, Open, Standing, standing_more}
use Rattle.agreement.specs.Demand.{Entry, is_statement, logged, CodesCame}

module _ (form : Form) where
  -- the statements of a log: what other words were coded is left out
  unfoldable pub reads : List Entry → List Statement
  reads [] = []
  reads (e ∷ l) = pick (is_statement form e) (statement form e.words 0 ∷ reads l) (reads l)

  pub reads_append : (a b : List Entry) → reads (a ++ b) ≡ reads a ++ reads b
  unfolding reads pick
  reads_append [] b = refl
  reads_append (e ∷ a) b = go (is_statement form e) (reads_append a b)
    where
      go : (x : Bool) → reads (a ++ b) ≡ reads a ++ reads b
          → pick x (statement form e.words 0 ∷ reads (a ++ b)) (reads (a ++ b)) ≡ pick x (statement form e.words 0 ∷ reads a) (reads a) ++ reads b
      go true h = ap (λ (l : List Statement). statement form e.words 0 ∷ l) h
      go false h = h

  -- a statement's entry is of the site that it names, and its words are those that the statement's code covers
  abbrev pub AtSite : Entry → Type 0
  AtSite e = is_statement form e ≡ true → (e.at ≡ (statement form e.words 0).station) × (covered form (statement form e.words 0) ≡ e.words)

  -- ---- words whose codes came from the log
  in_reads : (l : List Entry) (i w q r : ℕ) → logged l i (w ∷ q ∷ with_round form r []) ≡ true → In (statement form (w ∷ q ∷ with_round form r []) 0) (reads l)
  unfolding reads pick
  in_reads [] i w q r h = never false refl h
  in_reads (e ∷ l) i w q r h = go (eqb e.at i && same_words e.words (w ∷ q ∷ with_round form r [])) refl h (in_reads l i w q r)
    where
      go : (b : Bool) → (eqb e.at i && same_words e.words (w ∷ q ∷ with_round form r [])) ≡ b → (b || logged l i (w ∷ q ∷ with_round form r [])) ≡ true
          → (logged l i (w ∷ q ∷ with_round form r []) ≡ true → In (statement form (w ∷ q ∷ with_round form r []) 0) (reads l))
          → In (statement form (w ∷ q ∷ with_round form r []) 0) (pick (is_statement form e) (statement form e.words 0 ∷ reads l) (reads l))
      go true x y ih =
          let s : e.words ≡ w ∷ q ∷ with_round form r [] = same_out e.words (w ∷ q ∷ with_round form r []) (both (eqb e.at i) _ x).1 in
          let z : eqb (suc (suc (length (with_round form r [])))) (covered_words form) ≡ true = eq-eqb (suc (suc (length (with_round form r [])))) (covered_words form) (omega (arith, with_round_length form r [])) in
          rw (s, z) (Memᴰ.head refl)
      go false x y ih = further (is_statement form e) (ih y)
        where
          further : (b : Bool) → In (statement form (w ∷ q ∷ with_round form r []) 0) (reads l)
              → In (statement form (w ∷ q ∷ with_round form r []) 0) (pick b (statement form e.words 0 ∷ reads l) (reads l))
          further true h = Memᴰ.tail h
          further false h = h

  -- the words that the code of the statement at a place covers stand there
  pub covered_there : (n : ℕ) (ws : List ℕ) (at : ℕ) → at + covered_words form ≤ length ws → formed form n (fields_at form ws at) ≡ true → covered form (statement form ws at) ≡ covered_at form ws at
  covered_there n ws at room f = covered_formed form n ws at f ∙ sym (covered_taken form ws at room)

  module _ (mac : List ℕ → List ℕ → List ℕ) (key : List ℕ) (n : ℕ) (l : List Entry) (ws : List ℕ) (came : CodesCame form mac key n l ws) where
    -- the code of the statement at a place came from the module of its station
    one_logged : (k : ℕ) → place_of form k + statement_words form ≤ length ws → formed form n (fields_at form ws (place_of form k)) ≡ true → well_formed form n (statement form ws (place_of form k)) ≡ true
        → verifies form (mac key) (statement form ws (place_of form k)) ≡ true
        → logged l (station_of (get_or ws (place_of form k) 0)) (get_or ws (place_of form k) 0 ∷ get_or ws (place_of form k + 1) 0 ∷ with_round form (round_at form ws (place_of form k)) []) ≡ true
    unfolding verifies
    one_logged k room f w v =
        let c : covered form (statement form ws (1 + k * statement_words form)) ≡ get_or ws (1 + k * statement_words form) 0 ∷ get_or ws (1 + k * statement_words form + 1) 0 ∷ with_round form (round_at form ws (1 + k * statement_words form)) [] = covered_formed form n ws (1 + k * statement_words form) f in
        let two : covered_at form ws (1 + k * statement_words form) ≡ get_or ws (1 + k * statement_words form) 0 ∷ get_or ws (1 + k * statement_words form + 1) 0 ∷ with_round form (round_at form ws (1 + k * statement_words form)) [] = covered_taken form ws (1 + k * statement_words form) (omega arith) in
        rw two at (came k room (rw (two, ← c) v))

    -- what holds of each well-formed statement whose code came holds of all in a row
    module _ (P : Statement → Type 0) (one : (k : ℕ) → well_formed form n (statement form ws (place_of form k)) ≡ true
        → logged l (station_of (get_or ws (place_of form k) 0)) (get_or ws (place_of form k) 0 ∷ get_or ws (place_of form k + 1) 0 ∷ with_round form (round_at form ws (place_of form k)) []) ≡ true → P (statement form ws (place_of form k))) where
      pub each_came : (k j : ℕ) → place_of form (j + k) ≤ length ws → all_formed form n ws (place_of form j) k ≡ true → All (λ s. well_formed form n s ≡ true) (statements form ws (place_of form j) k)
          → All (λ s. verifies form (mac key) s ≡ true) (statements form ws (place_of form j) k) → All P (statements form ws (place_of form j) k)
      unfolding statements all_formed
      each_came zero j room f w v = tt
      each_came (suc k) j room f w v =
          let a = both (formed form n (fields_at form ws (1 + j * statement_words form))) _ f in
          let e : 1 + j * statement_words form + statement_words form ≡ 1 + suc j * statement_words form = omega arith in (
            one j w.0 (one_logged j (omega arith) a.0 w.0 v.0),
            subst (λ (z : ℕ). All P (statements form ws z k)) (sym e)
                (each_came k (suc j) (omega arith) (subst (λ (z : ℕ). all_formed form n ws z k ≡ true) e a.1) (subst (λ (z : ℕ). All (λ s. well_formed form n s ≡ true) (statements form ws z k)) e w.1)
                (subst (λ (z : ℕ). All (λ s. verifies form (mac key) s ≡ true) (statements form ws z k)) e v.1)),
          )

    one_came : (k : ℕ) → well_formed form n (statement form ws (place_of form k)) ≡ true
        → logged l (station_of (get_or ws (place_of form k) 0)) (get_or ws (place_of form k) 0 ∷ get_or ws (place_of form k + 1) 0 ∷ with_round form (round_at form ws (place_of form k)) []) ≡ true → Coded n (reads l) (statement form ws (place_of form k))
    one_came k w h =
        let r = formed_out form n (statement form ws (1 + k * statement_words form)) w in
        record {
          mem = subst (λ (s : Statement). In s (reads l)) (covered_bare form ws (1 + k * statement_words form))
              (in_reads l (station_of (get_or ws (1 + k * statement_words form) 0)) (get_or ws (1 + k * statement_words form) 0) (get_or ws (1 + k * statement_words form + 1) 0) (round_at form ws (1 + k * statement_words form)) h);
          low = r.low;
          high = r.high;
        }

    pub all_came : (k j : ℕ) → place_of form (j + k) ≤ length ws → all_formed form n ws (place_of form j) k ≡ true → All (λ s. well_formed form n s ≡ true) (statements form ws (place_of form j) k)
        → All (λ s. verifies form (mac key) s ≡ true) (statements form ws (place_of form j) k) → All (Coded n (reads l)) (statements form ws (place_of form j) k)
    all_came = each_came (Coded n (reads l)) one_came

    -- all statements of a bundle
    pub whole_came : (k : ℕ) → place_of form k ≤ length ws → all_formed form n ws 1 k ≡ true → All (λ s. well_formed form n s ≡ true) (statements form ws 1 k)
        → All (λ s. verifies form (mac key) s ≡ true) (statements form ws 1 k) → All (Coded n (reads l)) (statements form ws 1 k)
    whole_came k room f w v =
        let e : 1 + 0 * statement_words form ≡ 1 = omega arith in
        rw e at (all_came k 0 (omega arith) (rw e f) (rw e w) (rw e v))

  -- ---- a sound site's station: its words stand for a state of which all is known
  pub record Line (n : ℕ) (l : List Statement) (i : ℕ) (t : Station) (took : List Statement) : Type 0 where
    pub lengths : Lengths form t
    pub standing : Standing form n l i (state_of form t) took

  pub line_more : (n : ℕ) (u : Statement) (l : List Statement) (i : ℕ) (t : Station) (took : List Statement) → Line n l i t took → Line n (u ∷ l) i t took
  line_more n u l i t took L = record { lengths = L.lengths; standing = standing_more form n u l i (state_of form t) took L.standing }

  -- what is said of the state, said of the words
  module _ (n : ℕ) (l : List Statement) (i : ℕ) (t : Station) (took : List Statement) (L : Line n l i t took) where
    pub line_asked : All (λ s. s.question ≡ t.identity.question) took
    unfolding state_of
    line_asked = L.standing.asked

    pub line_low : t.lasting.decision ≤ none
    unfolding state_of
    line_low = L.standing.low

    pub line_named : (v : ℕ) → v < none → t.lasting.decision ≡ v → Enough n took t.identity.question v
    unfolding state_of
    line_named = L.standing.named

    pub line_names : (v r : ℕ) → v < none → quorum n ≤ count (votes took t.identity.question r v) n → t.lasting.decision < none
    unfolding state_of
    line_names = L.standing.names

    pub line_open : t.closed ≡ false → Open form n l i (state_of form t) took
    unfolding state_of
    line_open = L.standing.while_open

  -- and back: a state as a station
  pub open_line : (n site : ℕ) (l : List Statement) (u : State) (took : List Statement) → n ≤ most_stations form → 1 ≤ site → site ≤ n → Sane form n site u → Standing form n l site u took
      → Line n l site (W.as_station form n site u) took
  open_line n site l u took top lo hi S K =
      record {
        lengths = lengths_of form n site u top S;
        standing = subst (λ (x : State). Standing form n l site x took) (sym (state_back form n site u top lo hi S)) K;
      }
