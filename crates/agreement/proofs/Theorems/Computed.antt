-- What demand 3 asks of a list of calls, as tests that the checker can compute: where `given`, `few`, `off` and `decides` are true, `Given`, `FewFaulty`,
-- `JumpOff` and `Decides` hold.
use Rattle.std.specs.Prelude.{ℕ, zero, suc, ◌-◌, ◌/◌, ◌≤◌, ◌<◌, Bool, true, false, not, ◌&&◌, ◌||◌, ◌≡◌, refl, eqb, leb, length, get_or}
use mathlib.Core.List.{List, [], ◌∷◌}
use Rattle.std.proofs.Common.{sym, ◌∙◌, subst, arith, eqb-true, eq-eqb, leb-true}
use Rattle.std.specs.Int.Count.{ones}
use Rattle.std.proofs.lemmas.Bool.{eqb-false}
use Rattle.laws.specs.Pick.{pick}
use Rattle.laws.specs.Bools.{never, both}
use Rattle.laws.specs.Count.{count, one_if}
use Rattle.laws.specs.Refusals.{first_failed}
use Rattle.format.specs.Numbers.{none}
use Rattle.format.specs.Group.{quorum, backing, most_faulty}
use Rattle.format.specs.Words as Format
use Rattle.format.specs.Words.{fields_of, word_of, step_of}
use Rattle.format.specs.Statement.{same_words, step}
use Rattle.format.specs.Lists.{some, every, number_of, those, leading}
use Rattle.format.proofs.Laws.Layout.{same_out}
use Rattle.format.specs.Present.{place_of, statement_words, covered_at, code_at}
use Rattle.rules.specs.Rules.{wanted}
use Rattle.rules.specs.Test.{in_order, holds, d_get_group, first_group, second_group, has_second, early_toss, rest_holds, spread, groups_hold, rule}
use Rattle.modules.specs.Counter.{above}
use Rattle.modules.specs.Present.{making}
use Rattle.station.specs.declared.Stage.{Stage}
use Rattle.station.specs.declared.Stage.TheVariants.{Gathering, Proposing, Voting}
use Rattle.station.specs.declared.Station.{Station}
use Rattle.station.specs.Machine.{kind_in, round_in, proposing, voting, insert, first_value, vote_value, decided, carried, follows, ended, taken, conflict, kept_for_value, kept_for_none, with_setting}
use Rattle.station.specs.Words.{set_of}
use Rattle.station.specs.Fit.{zeros}
use Rattle.station.specs.Calls.{Returned}
use Rattle.station.specs.Returns.{unrefused}
use Rattle.station.specs.Present.{kept_words, slots_words, no_station, Lengths}
use Rattle.agreement.specs.Maths.Votes.{votes}
use Rattle.agreement.specs.Demand.{Call, site, action, View, starting, going_on, apart, view, Entry, Lineage, Found, nothing, found, member, logged, BringsOff}
use Rattle.agreement.specs.Present.{answer, log, lineage, Presents, Sound, JumpOff, FewFaulty, CodesCame, Behaves, Brings, Given, Decides}

-- ---- two stations compared: their numbers in one list, and their three arrays
abbrev flag_in : Stage → ℕ
flag_in Gathering = 0
flag_in (Proposing r f) = f
flag_in (Voting r) = 0

abbrev stage_at : ℕ → ℕ → ℕ → Stage
stage_at k r f = pick (eqb k 0) Gathering (pick (eqb k 1) (proposing r f) (voting r))

abbrev front : Station → List ℕ
front t =
    t.identity.n ∷ t.identity.station ∷ t.identity.question ∷ t.lasting.decision ∷ t.held.heard ∷ one_if t.closed
    ∷ kind_in t.stage ∷ round_in t.stage ∷ flag_in t.stage ∷ one_if t.lasting.jump ∷ []

-- the station of such lists
abbrev made_of : List ℕ → List ℕ → List ℕ → List ℕ → Station
made_of f slots first second =
    record {
      identity = record { n = get_or f 0 0; station = get_or f 1 0; question = get_or f 2 0 };
      stage = stage_at (get_or f 6 0) (get_or f 7 0) (get_or f 8 0);
      closed = eqb (get_or f 5 0) 1;
      lasting = record { jump = eqb (get_or f 9 0) 1; decision = get_or f 3 0 };
      held = record { heard = get_or f 4 0; slots = slots };
      groups = record { value = first; none = second };
    }

stage_again : (g : Stage) → stage_at (kind_in g) (round_in g) (flag_in g) ≡ g
unfolding pick
stage_again Gathering = refl
stage_again (Proposing r f) = refl
stage_again (Voting r) = refl

truth_again : (b : Bool) → eqb (one_if b) 1 ≡ b
truth_again true = refl
truth_again false = refl

made_again : (t : Station) → made_of (front t) t.held.slots t.groups.value t.groups.none ≡ t
made_again t =
    λ i. record { identity = t.identity; stage = stage_again t.stage i; closed = truth_again t.closed i; lasting = with_setting (truth_again t.lasting.jump i) t.lasting; held = t.held; groups = t.groups }

abbrev pub same_station : Station → Station → Bool
same_station a b =
    same_words (front a) (front b) && same_words a.held.slots b.held.slots
    && (same_words a.groups.value b.groups.value && same_words a.groups.none b.groups.none)

station_out : (a b : Station) → same_station a b ≡ true → a ≡ b
station_out a b e =
    let h = both (same_words (front a) (front b) && same_words a.held.slots b.held.slots) _ e in
    let f = both (same_words (front a) (front b)) _ h.0 in
    let g = both (same_words a.groups.value b.groups.value) _ h.1 in
    sym (made_again a)
    ∙ (λ i. made_of (same_out _ _ f.0 i) (same_out _ _ f.1 i) (same_out _ _ g.0 i) (same_out _ _ g.1 i))
    ∙ made_again b

-- ---- tests and what they tell
implied : (a b : Bool) → (not a || b) ≡ true → a ≡ true → b ≡ true
implied true b h p = h
implied false b h p = never false refl p

allowed : (a b : Bool) → (b || not a) ≡ true → a ≡ true → b ≡ true
allowed a true h p = refl
allowed true false h p = h
allowed false false h p = never false refl p

denied : (a : Bool) → not a ≡ true → a ≡ true → ⊥
denied true h p = never false refl h
denied false h p = never false refl p

ordered : (a b c d : ℕ) → (leb a b && leb c d) ≡ true → (a ≤ b) × (c ≤ d)
ordered a b c d e = let h = both (leb a b) _ e in (leb-true a b h.0, leb-true c d h.1)

-- a test of all numbers below a bound
unfoldable pub below : (ℕ → Bool) → ℕ → Bool
below f zero = true
below f (suc k) = f k && below f k

pub below_out : (f : ℕ → Bool) (b k : ℕ) → below f b ≡ true → k < b → f k ≡ true
unfolding below
below_out f zero k e h = absurd (omega arith)
below_out f (suc b) k e h = go (eqb k b) refl (below_out f b k (both (f b) (below f b) e).1)
  where
    go : (c : Bool) → eqb k b ≡ c → (k < b → f k ≡ true) → f k ≡ true
    go true p ih = subst (λ (z : ℕ). f z ≡ true) (sym (eqb-true k b p)) (both (f b) (below f b) e).0
    go false p ih = ih (omega (arith, eqb-false k b p))

abbrev lengths : Station → Bool
lengths t = eqb (length t.held.slots) slots_words && eqb (length t.groups.value) kept_words && eqb (length t.groups.none) kept_words

lengths_out : (t : Station) → lengths t ≡ true → Lengths t
lengths_out t e =
    let h = both (eqb (length t.held.slots) slots_words && eqb (length t.groups.value) kept_words) _ e in
    let f = both (eqb (length t.held.slots) slots_words) _ h.0 in
    record { slots = eqb-true _ _ f.0; for_value = eqb-true _ _ f.1; for_none = eqb-true _ _ h.1 }

-- a station is there, and its history
abbrev pub there : Found → Bool
there nothing = false
there (found l) = true

abbrev pub line_of : Found → Lineage
line_of nothing = record { present = no_station; took = [] }
line_of (found l) = l

pub there_out : (f : Found) → there f ≡ true → f ≡ found (line_of f)
there_out nothing e = never false refl e
there_out (found l) e = refl

module _ (mac : List ℕ → List ℕ → List ℕ) (key : List ℕ) (n : ℕ) where
  -- what the last call of a list returned
  abbrev pub last : List Call → Returned
  last [] = record { number = 0; count = 0; station = no_station; after = (making key n 0).made; lent = [] }
  last (c ∷ cs) = answer mac key n cs c

  -- what each call answered, the newest first
  abbrev pub numbers : List Call → List ℕ
  numbers [] = []
  numbers (c ∷ cs) = (answer mac key n cs c).number ∷ numbers cs

  -- the history of station k of site i, and the station as the last call on it returned it
  abbrev pub line : List Call → ℕ → ℕ → Lineage
  line cs i k = line_of (lineage mac key n cs i k)

  abbrev pub present : List Call → ℕ → ℕ → Station
  present cs i k = (line cs i k).present

  -- ---- the premises on what calls bring
  -- statement k behind the head does not verify, or was coded
  abbrev came : List Entry → List ℕ → ℕ → Bool
  came l ws k =
      not (same_words (code_at ws (place_of k)) (mac key (covered_at ws (place_of k))))
      || logged l (Format.station_of (get_or ws (place_of k) 0)) (covered_at ws (place_of k))

  came_out : (l : List Entry) (ws : List ℕ) → below (came l ws) ((length ws - 1) / statement_words) ≡ true → CodesCame mac key n l ws
  came_out l ws e k long verified =
      implied (same_words (code_at ws (place_of k)) (mac key (covered_at ws (place_of k)))) _
      (below_out (came l ws) ((length ws - 1) / statement_words) k e (omega arith)) verified

  abbrev brings : List Call → View → Bool
  brings cs (starting q j) = true
  brings cs (going_on k t ws) = lengths t && below (came (log mac key n cs) ws) ((length ws - 1) / statement_words)
  brings cs apart = true

  brings_out : (cs : List Call) (v : View) → brings cs v ≡ true → Brings mac key n cs v
  brings_out cs (starting q j) e = tt
  brings_out cs (going_on k t ws) e = let h = both (lengths t) _ e in (lengths_out t h.0, came_out (log mac key n cs) ws h.1)
  brings_out cs apart e = tt

  unfoldable pub given : List Call → Bool
  given [] = true
  given (c ∷ cs) = given cs && (brings cs (view (action c)) && (leb 1 (site c) && leb (site c) n))

  pub given_out : (cs : List Call) → given cs ≡ true → Given mac key n cs
  unfolding given Rattle.agreement.specs.Demand.Given
  given_out [] e = tt
  given_out (c ∷ cs) e =
      let h = both (given cs) _ e in
      let f = both (brings cs (view (action c))) _ h.1 in
      (ordered _ _ _ _ f.1, (brings_out cs (view (action c)) f.0, given_out cs h.0))

  -- ---- the premise on faulty sites
  abbrev presents : Found → Station → Bool
  presents nothing t = false
  presents (found l) t = same_station l.present t

  presents_out : (cs : List Call) (i k : ℕ) (t : Station) (f : Found) → lineage mac key n cs i k ≡ f → presents f t ≡ true → Presents mac key n cs i k t
  presents_out cs i k t nothing z e = never false refl e
  presents_out cs i k t (found l) z e = record { line = l; is = z; now = station_out l.present t e }

  abbrev behaves : List Call → ℕ → View → ℕ → Bool
  behaves cs i (starting q j) number = true
  behaves cs i (going_on k t ws) number = not (unrefused number) || presents (lineage mac key n cs i k) t
  behaves cs i apart number = not (eqb number 0)

  behaves_out : (cs : List Call) (i : ℕ) (v : View) (number : ℕ) → behaves cs i v number ≡ true → Behaves mac key n cs i v number
  behaves_out cs i (starting q j) number e = tt
  behaves_out cs i (going_on k t ws) number e = λ u. presents_out cs i k t _ refl (implied (unrefused number) _ e u)
  behaves_out cs i apart number e = λ z. denied (eqb number 0) e (eq-eqb number 0 z)

  unfoldable pub sound : List Call → ℕ → Bool
  sound [] i = true
  sound (c ∷ cs) i = sound cs i && (not (eqb (site c) i) || behaves cs i (view (action c)) (answer mac key n cs c).number)

  pub sound_out : (cs : List Call) (i : ℕ) → sound cs i ≡ true → Sound mac key n i cs
  unfolding sound Rattle.agreement.specs.Demand.Sound
  sound_out [] i e = tt
  sound_out (c ∷ cs) i e =
      let h = both (sound cs i) _ e in
      ((λ z. behaves_out cs i (view (action c)) _ (implied (eqb (site c) i) _ h.1 (eq-eqb (site c) i z))), sound_out cs i h.0)

  -- all sites are sound but those of a list that is short enough
  abbrev but : List ℕ → List Call → ℕ → Bool
  but faulty cs k = member (suc k) faulty || sound cs (suc k)

  abbrev pub few : List ℕ → List Call → Bool
  few faulty cs = below (but faulty cs) n && leb (length faulty) (most_faulty n)

  pub others_out : (faulty : List ℕ) (cs : List Call) → few faulty cs ≡ true → (i : ℕ) → 1 ≤ i → i ≤ n → member i faulty ≡ false → Sound mac key n i cs
  others_out faulty cs e zero a b z = absurd (omega arith)
  others_out faulty cs e (suc i) a b z =
      sound_out cs (suc i) (rw z at (below_out (but faulty cs) n i (both (below (but faulty cs) n) _ e).0 (omega arith)))

  pub few_out : (faulty : List ℕ) (cs : List Call) → few faulty cs ≡ true → FewFaulty mac key n cs
  few_out faulty cs e = record { faulty = faulty; few = leb-true _ _ (both (below (but faulty cs) n) _ e).1; others = others_out faulty cs e }

  -- ---- the premise on settings: each opening on the question, at the sites that a test takes, brings 0 or is refused
  abbrev brings_off : ℕ → View → Bool
  brings_off question (starting q jump) = not (eqb q question) || eqb jump 0
  brings_off question (going_on k t ws) = true
  brings_off question apart = true

  brings_off_out : (question : ℕ) (v : View) → brings_off question v ≡ true → BringsOff question v
  brings_off_out question (starting q jump) e = λ z. eqb-true jump 0 (implied (eqb q question) _ e (eq-eqb q question z))
  brings_off_out question (going_on k t ws) e = tt
  brings_off_out question apart e = tt

  unfoldable pub off : (ℕ → Bool) → ℕ → List Call → Bool
  off at question [] = true
  off at question (c ∷ cs) =
      off at question cs && (not (at (site c)) || (brings_off question (view (action c)) || not (unrefused (answer mac key n cs c).number)))

  pub off_out : (at : ℕ → Bool) (question : ℕ) (cs : List Call) → off at question cs ≡ true → (i : ℕ) → at i ≡ true → JumpOff mac key n i question cs
  unfolding off Rattle.agreement.specs.Demand.JumpOff
  off_out at question [] e i a = tt
  off_out at question (c ∷ cs) e i a =
      let h = both (off at question cs) _ e in (
        (λ here done. brings_off_out question (view (action c))
            (allowed (unrefused (answer mac key n cs c).number) _ (implied (at (site c)) _ h.1 (subst (λ (j : ℕ). at j ≡ true) (sym here) a)) done)),
        off_out at question cs h.0 i a,
      )

  -- ---- a decision, in a round
  abbrev pub decides : List Call → ℕ → ℕ → ℕ → ℕ → ℕ → Bool
  decides cs i k question v round = there (lineage mac key n cs i k) && leb (quorum n) (count (votes (line cs i k).took question round v) n)

  unfoldable pub decides_out : (cs : List Call) (i k question v round : ℕ) → v < none → decides cs i k question v round ≡ true → Decides mac key n cs i k question v
  decides_out cs i k question v round b e =
      let h = both (there (lineage mac key n cs i k)) _ e in
      record { line = line cs i k; is = there_out (lineage mac key n cs i k) h.0; bit = b; round = round; enough = leb-true _ _ h.1 }

  -- a station that decides is there
  pub decides_there : (cs : List Call) (i k question v : ℕ) → Decides mac key n cs i k question v → lineage mac key n cs i k ≡ found (line cs i k)
  decides_there cs i k question v d = there_out (lineage mac key n cs i k) (subst (λ (f : Found). there f ≡ true) (sym d.is) refl)

-- ---- all that the tests compute by
unfoldable pub computes : Unit {0}
unfolding pick count first_failed ones backing fields_of word_of Rattle.format.specs.Statement.formed step_of Rattle.format.specs.Statement.statements same_words Rattle.format.specs.Statement.verifies Rattle.format.specs.Statement.well_formed step Rattle.format.specs.Bundle.laid_out Rattle.format.specs.Bundle.all_formed Rattle.format.specs.Bundle.bundle_fits wanted some in_order holds d_get_group first_group second_group has_second early_toss rest_holds spread groups_hold rule every Rattle.certificate.specs.Check.check_by above Rattle.modules.specs.Counter.making Rattle.sealed.specs.Sealed.coding_plain Rattle.sealed.specs.Sealed.coding_coin insert number_of first_value those vote_value decided carried follows ended taken conflict Rattle.station.specs.Words.held_in leading kept_for_value kept_for_none Rattle.station.specs.Words.state_of set_of Rattle.station.specs.Words.slot_of Rattle.station.specs.Words.slots_of Rattle.format.specs.Bundle.all_written Rattle.station.specs.Words.as_station Rattle.format.specs.Bundle.bundle_of zeros Rattle.station.specs.Fit.slots_fit Rattle.station.specs.Fit.fits Rattle.station.specs.Calls.returned Rattle.station.specs.Calls.opening Rattle.station.specs.Calls.giving Rattle.station.specs.Calls.no_station Rattle.agreement.specs.Demand.act Rattle.agreement.specs.Demand.modules Rattle.agreement.specs.Demand.log Rattle.agreement.specs.Demand.openings Rattle.agreement.specs.Demand.lineage below given sound off
computes = tt
