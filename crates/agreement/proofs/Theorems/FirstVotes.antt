-- A valid vote of round 1 for a value names enough sites that proposed it: by its INITs, whose codes came.
use Rattle.std.specs.Prelude.{◌≡◌, refl, Bool, true, false, ◌&&◌, ◌||◌, List, [], ◌∷◌, ℕ, suc, ◌+◌, ◌≤◌, ◌<◌, eqb, length, get_or}
use Rattle.std.proofs.Common.{ap, ◌∙◌, subst, arith, eqb-true, eq-eqb}
use mathlib.Core.List.Memᴰ
use Rattle.laws.specs.Bools.{both, join, left, right}
use Rattle.laws.specs.All.{All, all_map, all_two, all_right}
use Rattle.laws.specs.Count.{count}
use Rattle.format.specs.Form.{present_form}
use Rattle.format.specs.Numbers.{kind_init, kind_v, none}
use Rattle.format.specs.Group.{backing}
use Rattle.format.specs.Words.{kind_of, value_of, station_of}
use Rattle.format.specs.Statement.{Statement, same_words}
use Rattle.hmac.specs.Code.{hmac_code}
use Rattle.format.specs.Bundle.{count_in}
use Rattle.format.proofs.Laws.Layout.{all_well, same_out}
use Rattle.format.proofs.Laws.Shape.{formed_out}
use Rattle.format.specs.Present.{covered_words, place_of, statement, well_formed, main_of, certificate_of}
use Rattle.rules.specs.declared.Which.TheVariants.{Any}
use Rattle.rules.specs.Rules.{wanted, matches, inits, Backed, rule_1, rule_2, rule_3, rule_4, rule_5, rule_6, rule_7}
use Rattle.certificate.proofs.Theorems.Exact.{found_valid}
use Rattle.certificate.specs.Present.{check_by, checked, Valid}
use Rattle.agreement.proofs.Maths.Log.{In, some_in}
use Rattle.agreement.proofs.Maths.Just.{rising_count}
use Rattle.agreement.specs.Demand.{Entry, logged}
use Rattle.agreement.proofs.Laws.Line.{each_came}
use Rattle.agreement.specs.Present.{proposed, log, CodesCame}
use Rattle.agreement.specs.FirstVotes.{is_init, names_proposer, FirstVotes}

-- ---- an INIT whose code came was proposed
init_proposed : (l : List Entry) (i w q : ℕ) → kind_of w ≡ kind_init → logged l i (w ∷ q ∷ []) ≡ true → proposed l q (value_of w) i ≡ true
init_proposed [] i w q k h = h
init_proposed (e ∷ l) i w q k h = go (eqb e.at i && same_words e.words (w ∷ q ∷ [])) refl h (init_proposed l i w q k)
  where
    here : List ℕ → Bool
    here ws = eqb (length ws) covered_words && eqb e.at i && eqb (kind_of (get_or ws 0 0)) kind_init && eqb (value_of (get_or ws 0 0)) (value_of w) && eqb (get_or ws 1 0) q

    these : eqb e.at i ≡ true → here (w ∷ q ∷ []) ≡ true
    these at =
        join (eqb e.at i && eqb (kind_of w) kind_init && eqb (value_of w) (value_of w)) _
        (join (eqb e.at i && eqb (kind_of w) kind_init) _ (join (eqb e.at i) _ at (eq-eqb _ _ k)) (eq-eqb (value_of w) (value_of w) refl)) (eq-eqb q q refl)

    go : (b : Bool) → (eqb e.at i && same_words e.words (w ∷ q ∷ [])) ≡ b → (b || logged l i (w ∷ q ∷ [])) ≡ true
        → (logged l i (w ∷ q ∷ []) ≡ true → proposed l q (value_of w) i ≡ true) → (here e.words || proposed l q (value_of w) i) ≡ true
    go true x y ih =
        let z = both (eqb e.at i) _ x in
        left (here e.words) _ (ap here (same_out e.words (w ∷ q ∷ []) z.1) ∙ these z.0)
    go false x y ih = right (here e.words) _ (ih y)

-- ---- the INITs behind the proposals are counted by their stations
asked_init : (n v : ℕ) (s : Statement) → matches (inits n v) s ≡ true → (s.kind ≡ kind_init) × (s.value ≡ v)
unfolding wanted
asked_init n v s h =
    let x = both (eqb s.kind kind_init && eqb s.round 0 && eqb s.value v) _ h in
    let y = both (eqb s.kind kind_init && eqb s.round 0) _ x.0 in
    (eqb-true _ _ (both (eqb s.kind kind_init) _ y.0).0, eqb-true _ _ y.1)

abbrev Counted : ℕ → ℕ → (ℕ → Bool) → Statement → Type 0
Counted n v f s = ((1 ≤ s.station) × (s.station ≤ n)) × (s.kind ≡ kind_init → s.value ≡ v → f s.station ≡ true)

vote_counts : (n : ℕ) (m : Statement) (c : List Statement) (f : ℕ → Bool) → m.kind ≡ kind_v → m.round ≡ 1 → m.value < none → All (Counted n m.value f) c → Backed n m c
    → backing n m.value ≤ count f n
vote_counts n m c f k r low a (rule_1 x) = absurd (omega arith)
vote_counts n m c f k r low a (rule_2 x y z h) = absurd (omega arith)
vote_counts n m c f k r low a (rule_3 x y z h) = absurd (omega arith)
vote_counts n m c f k r low a (rule_4 x y z h) = absurd (omega arith)
vote_counts n m _ f k r low a (rule_5 {c} {d} x y h i s o) =
    let g = i r in
    omega (
      arith,
      g.size,
      rising_count n d f g.rising
          (all_map (λ s p. let w = asked_init n m.value s p.1 in (p.0.0, p.0.1 w.0 w.1)) d
          (all_two (Counted n m.value f) (λ s. matches (inits n m.value) s ≡ true) d (all_right (Counted n m.value f) c d a) g.each)),
    )
vote_counts n m c f k r low a (rule_6 x y z h b) = absurd (omega arith)
vote_counts n m _ f k r low a (rule_7 x y z h b s) = absurd (omega arith)

members : (c : List Statement) → All (λ s. In s c) c
members [] = tt
members (s ∷ c) = (Memᴰ.head refl, all_map (λ t m. Memᴰ.tail m) c (members c))

-- ---- the theorem
module _ (mac : List ℕ → List ℕ → List ℕ) (key : List ℕ) (n : ℕ) (l : List Entry) (ws : List ℕ) (came : CodesCame mac key n l ws) (ok : Valid (mac key) n ws) where
  abbrev Was : Statement → Type 0
  Was s = ((1 ≤ s.station) × (s.station ≤ n)) × (s.kind ≡ kind_init → proposed l s.question s.value s.station ≡ true)

  was : (k : ℕ) → well_formed n (statement ws (place_of k)) ≡ true
      → logged l (station_of (get_or ws (place_of k) 0)) (get_or ws (place_of k) 0 ∷ get_or ws (place_of k + 1) 0 ∷ []) ≡ true → Was (statement ws (place_of k))
  was k w h =
      let r = formed_out present_form n (statement ws (place_of k)) w in
      ((r.low, r.high), λ e. init_proposed l (station_of (get_or ws (place_of k) 0)) (get_or ws (place_of k) 0) (get_or ws (place_of k + 1) 0) e h)

  all_was : Was (main_of ws) × All Was (certificate_of ws)
  unfolding Rattle.format.specs.Statement.statements
  all_was =
      each_came present_form mac key n l ws came Was was (suc (count_in ws)) 0 (omega (arith, ok.bundle.size)) ok.bundle.fields (all_well present_form n ws 1 (suc (count_in ws)) ok.bundle.fields) ok.codes

  abbrev both_ways : ℕ → Bool
  both_ways i = names_proposer ws (main_of ws).value i && proposed l (main_of ws).question (main_of ws).value i

  counts : (s : Statement) → Was s × (In s (certificate_of ws) × (s.question ≡ (main_of ws).question)) → Counted n (main_of ws).value both_ways s
  counts s p = (
    p.0.0,
    λ k v.
        join (names_proposer ws (main_of ws).value s.station) _
        (some_in (is_init (main_of ws).value s.station) s (certificate_of ws) p.1.0
        (join (eqb s.kind kind_init && eqb s.value (main_of ws).value) _ (join (eqb s.kind kind_init) _ (eq-eqb _ _ k) (eq-eqb _ _ v)) (eq-eqb s.station s.station refl)))
        (rw (v, p.1.1) at (p.0.1 k)),
  )

  all_counted : All (Counted n (main_of ws).value both_ways) (certificate_of ws)
  all_counted =
      all_map counts (certificate_of ws)
      (all_two Was (λ s. In s (certificate_of ws) × (s.question ≡ (main_of ws).question)) (certificate_of ws) all_was.1
      (all_two (λ s. In s (certificate_of ws)) (λ s. s.question ≡ (main_of ws).question) (certificate_of ws) (members (certificate_of ws)) ok.question))

  vote_named : (main_of ws).kind ≡ kind_v → (main_of ws).round ≡ 1 → (main_of ws).value < none → backing n (main_of ws).value ≤ count both_ways n
  vote_named k r low = vote_counts n (main_of ws) (certificate_of ws) both_ways k r low all_counted ok.backed

pub first_votes_by : (mac : List ℕ → List ℕ → List ℕ) → FirstVotes mac
first_votes_by mac key n cs ws question v came F =
    subst (λ (w : ℕ). backing n w ≤ count (λ i. names_proposer ws w i && proposed (log mac key n cs) question w i) n) F.value
    (subst (λ (q : ℕ). backing n (main_of ws).value ≤ count (λ i. names_proposer ws (main_of ws).value i && proposed (log mac key n cs) q (main_of ws).value i) n) F.asked
    (vote_named mac key n (log mac key n cs) ws came (found_valid present_form (mac key) n ws F.valid) F.kind F.round (omega (arith, F.value, F.bit))))

-- for HMAC-SHA-256, where valid is what the public check answers 0 to
pub first_votes : FirstVotes hmac_code
first_votes = first_votes_by hmac_code

pub checked_valid : (key : List ℕ) (n : ℕ) (ws : List ℕ) → checked key n ws ≡ 0 → check_by (hmac_code key) n Any ws ≡ 0
unfolding Rattle.certificate.specs.Check.checked Rattle.certificate.specs.Check.judged
checked_valid key n ws h = h
