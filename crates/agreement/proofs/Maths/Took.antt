-- What a station took: counts of votes, and how they lie with the statements that it holds.
use Rattle.std.specs.Prelude.{◌≡◌, Bool, ◌&&◌, ◌||◌, List, [], ◌∷◌, ℕ, zero, suc, ◌+◌, ◌*◌, ◌≤◌, ◌<◌, eqb, length}
use Rattle.std.proofs.Math.Path.{refl}
use Rattle.std.proofs.Common.{◌∙◌, ap, subst, arith, eqb-true, eq-eqb, ne_eqb}
use Rattle.std.proofs.Math.Bool.{true, false}
use Rattle.laws.specs.Pick.{pick}
use Rattle.laws.specs.Bools.{never, both, join, right}
use Rattle.laws.specs.All.{All, all_map, all_two}
use Rattle.laws.specs.Count.{count, one_if}
use Rattle.format.specs.Numbers.{kind_v, none}
use Rattle.format.specs.Statement.{Statement, step}
use Rattle.format.specs.Lists.{some, every, number_of}
use Rattle.rules.specs.Rules as R
use Rattle.station.specs.Machine.{has_value, vote_value, decided}
use Rattle.certificate.proofs.Theorems.Exact.{every_out}
use Rattle.station.proofs.Laws.Pieces.{SomeWith, find_some}
use Rattle.station.proofs.Laws.Keep.{steps_v}
use Rattle.agreement.proofs.Maths.Counting.{count_mono}
use Rattle.agreement.proofs.Maths.Log.{In, some_in}
use Rattle.agreement.proofs.Maths.Just.{rising_count}
use Rattle.agreement.specs.Maths.Votes.{is_vote, votes}

-- what the test that `votes` counts by says
pub record Vote (q r v i : ℕ) (s : Statement) : Type 0 where
  pub kind : s.kind ≡ kind_v
  pub question : s.question ≡ q
  pub round : s.round ≡ r
  pub value : s.value ≡ v
  pub station : s.station ≡ i

pub vote_out : (q r v i : ℕ) (s : Statement) → is_vote q r v i s ≡ true → Vote q r v i s
vote_out q r v i s h =
    let a = both (eqb s.kind kind_v && eqb s.question q && eqb s.round r && eqb s.value v) _ h in
    let b = both (eqb s.kind kind_v && eqb s.question q && eqb s.round r) _ a.0 in
    let c = both (eqb s.kind kind_v && eqb s.question q) _ b.0 in
    let d = both (eqb s.kind kind_v) _ c.0 in
    record { kind = eqb-true _ _ d.0; question = eqb-true _ _ d.1; round = eqb-true _ _ c.1; value = eqb-true _ _ b.1; station = eqb-true _ _ a.1 }

pub vote_in : (q r v i : ℕ) (s : Statement) → Vote q r v i s → is_vote q r v i s ≡ true
vote_in q r v i s w =
    join (eqb s.kind kind_v && eqb s.question q && eqb s.round r && eqb s.value v) _
    (join (eqb s.kind kind_v && eqb s.question q && eqb s.round r) _
    (join (eqb s.kind kind_v && eqb s.question q) _ (join (eqb s.kind kind_v) _ (eq-eqb _ _ w.kind) (eq-eqb _ _ w.question)) (eq-eqb _ _ w.round))
    (eq-eqb _ _ w.value)) (eq-eqb _ _ w.station)

-- a list of statements has at most its length of stations
pub one_more : (a : ℕ) (f : ℕ → Bool) (n : ℕ) → count (λ i. eqb a i || f i) n ≤ suc (count f n)
unfolding count
one_more a f zero = omega arith
one_more a f (suc n) = go (eqb a (suc n)) refl (f (suc n)) (one_more a f n)
  where
    -- below a the test is f alone
    low : (k : ℕ) → k < a → count (λ i. eqb a i || f i) k ≡ count f k
    low zero h = refl
    low (suc k) h = rw (ne_eqb a (suc k) (λ e. omega arith)) (ap (λ (z : ℕ). one_if (f (suc k)) + z) (low k (omega arith)))

    go : (x : Bool) → eqb a (suc n) ≡ x → (y : Bool) → count (λ i. eqb a i || f i) n ≤ suc (count f n)
        → one_if (x || y) + count (λ i. eqb a i || f i) n ≤ suc (one_if y + count f n)
    go true e true ih = let z : a ≡ suc n = eqb-true a (suc n) e in omega (arith, low n (omega arith))
    go true e false ih = let z : a ≡ suc n = eqb-true a (suc n) e in omega (arith, low n (omega arith))
    go false e true ih = omega arith
    go false e false ih = omega arith

pub none_there : (n : ℕ) → count (λ i. false) n ≡ 0
unfolding count
none_there zero = refl
none_there (suc n) = let z = none_there n in omega arith

pub count_held : (p : Statement → Bool) (h : List Statement) (n : ℕ) → count (λ i. some (λ s. p s && eqb s.station i) h) n ≤ number_of p h
unfolding some number_of pick
count_held p [] n = omega (arith, none_there n)
count_held p (s ∷ h) n = go (p s) (count_held p h n)
  where
    go : (b : Bool) → count (λ i. some (λ s. p s && eqb s.station i) h) n ≤ number_of p h
        → count (λ i. (b && eqb s.station i) || some (λ s. p s && eqb s.station i) h) n ≤ pick b (suc (number_of p h)) (number_of p h)
    go true ih = omega (arith, one_more s.station (λ i. some (λ s. p s && eqb s.station i) h) n)
    go false ih = ih

pub number_few : (p : Statement → Bool) (h : List Statement) → number_of p h ≤ length h
unfolding number_of pick
number_few p [] = omega arith
number_few p (s ∷ h) = go (p s) (number_few p h)
  where
    go : (b : Bool) → number_of p h ≤ length h → pick b (suc (number_of p h)) (number_of p h) ≤ suc (length h)
    go true e = omega arith
    go false e = omega arith

-- as many as all: every one
pub all_counted : (p : Statement → Bool) (h : List Statement) → length h ≤ number_of p h → every p h ≡ true
unfolding number_of every pick
all_counted p [] e = refl
all_counted p (s ∷ h) e = go (p s) e (all_counted p h)
  where
    go : (b : Bool) → suc (length h) ≤ pick b (suc (number_of p h)) (number_of p h) → (length h ≤ number_of p h → every p h ≡ true) → (b && every p h) ≡ true
    go true e ih = ih (omega arith)
    go false e ih = absurd (omega (arith, number_few p h))

-- ---- the statements taken and those held
-- each taken statement of step σ is held
abbrev pub NowHeld : ℕ → List Statement → List Statement → Type 0
NowHeld σ held took = All (λ s. step s ≡ σ → some (λ h. has_value s.value h && eqb h.station s.station) held ≡ true) took

vote_step : (q r v i : ℕ) (s : Statement) → Vote q r v i s → step s ≡ 2 * r + 1
unfolding step
vote_step q r v i s w = steps_v s.kind s.round w.kind ∙ ap (λ (x : ℕ). 2 * x + 1) w.round

module _ (q r v : ℕ) where
  -- the votes of the present step are those held
  pub votes_held : (held took : List Statement) (n : ℕ) → NowHeld (2 * r + 1) held took → count (votes took q r v) n ≤ number_of (has_value v) held
  votes_held held took n a =
      omega (arith, count_held (has_value v) held n, count_mono (votes took q r v) (λ i. some (λ s. has_value v s && eqb s.station i) held) (λ i. in_held i took a) n)
    where
      in_held : (i : ℕ) (took : List Statement) → NowHeld (2 * r + 1) held took → votes took q r v i ≡ true → some (λ s. has_value v s && eqb s.station i) held ≡ true
      in_held i took a e = go (find_some (λ s. step s ≡ 2 * r + 1 → some (λ h. has_value s.value h && eqb h.station s.station) held ≡ true) (is_vote q r v i) took a e)
        where
          go : SomeWith (λ s. step s ≡ 2 * r + 1 → some (λ h. has_value s.value h && eqb h.station s.station) held ≡ true) (is_vote q r v i)
              → some (λ s. has_value v s && eqb s.station i) held ≡ true
          go f =
              let w = vote_out q r v i f.one f.passes in
              subst (λ (x : ℕ). some (λ h. has_value v h && eqb h.station x) held ≡ true) w.station
              (subst (λ (x : ℕ). some (λ h. has_value x h && eqb h.station f.one.station) held ≡ true) w.value (f.has (vote_step q r v i f.one w)))

  -- a statement of another step is no vote of the round
  pub other_step : (m : Statement) (took : List Statement) → (step m ≡ 2 * r + 1 → ⊥) → (i : ℕ) → votes (m ∷ took) q r v i ≡ true → votes took q r v i ≡ true
  unfolding some
  other_step m took ne i e = go (is_vote q r v i m) refl e
    where
      go : (b : Bool) → is_vote q r v i m ≡ b → (b || votes took q r v i) ≡ true → votes took q r v i ≡ true
      go true x y = absurd (ne (vote_step q r v i m (vote_out q r v i m x)))
      go false x y = y

  pub enough_before : (n k : ℕ) (m : Statement) (took : List Statement) → (step m ≡ 2 * r + 1 → ⊥) → k ≤ count (votes (m ∷ took) q r v) n → k ≤ count (votes took q r v) n
  enough_before n k m took ne e = omega (arith, count_mono (votes (m ∷ took) q r v) (votes took q r v) (other_step m took ne) n)

  pub enough_after : (n k : ℕ) (m : Statement) (took : List Statement) → k ≤ count (votes took q r v) n → k ≤ count (votes (m ∷ took) q r v) n
  unfolding some
  enough_after n k m took e = omega (arith, count_mono (votes took q r v) (votes (m ∷ took) q r v) (λ i h. right (is_vote q r v i m) _ h) n)

  -- q held votes for v are enough
  pub held_enough : (n : ℕ) (held took : List Statement) → R.Rising 0 held
      → All (λ s. ((1 ≤ s.station) × (s.station ≤ n)) × (In s took × ((s.kind ≡ kind_v) × ((s.question ≡ q) × (s.round ≡ r))))) held
      → every (has_value v) held ≡ true → length held ≤ count (votes took q r v) n
  held_enough n held took rise a e =
      rising_count n held (votes took q r v) rise
      (all_map (λ s p. (
        p.0.0,
        some_in (is_vote q r v s.station) s took p.0.1.0
            (vote_in q r v s.station s (record { kind = p.0.1.1.0; question = p.0.1.1.1.0; round = p.0.1.1.1.1; value = eqb-true _ _ p.1; station = refl })),
      )) held
      (all_two (λ s. ((1 ≤ s.station) × (s.station ≤ n)) × (In s took × ((s.kind ≡ kind_v) × ((s.question ≡ q) × (s.round ≡ r))))) (λ s. has_value v s ≡ true) held a (every_out (has_value v) held e)))

-- ---- what votes decide
pub decided_every : (h : List Statement) (v : ℕ) → decided h ≡ v → v < none → every (has_value v) h ≡ true
unfolding decided vote_value pick
decided_every h v = go (every (has_value 0) h) refl (every (has_value 1) h) refl
  where
    go : (a : Bool) → every (has_value 0) h ≡ a → (b : Bool) → every (has_value 1) h ≡ b → pick a 0 (pick b 1 none) ≡ v → v < none → every (has_value v) h ≡ true
    go true x b y e low = subst (λ (z : ℕ). every (has_value z) h ≡ true) e x
    go false x true y e low = subst (λ (z : ℕ). every (has_value z) h ≡ true) e y
    go false x false y e low = absurd (omega arith)

pub every_decided : (h : List Statement) (v : ℕ) → v < none → every (has_value v) h ≡ true → decided h < none
unfolding decided vote_value pick
every_decided h v low e = go (every (has_value 0) h) refl (every (has_value 1) h) refl
  where
    go : (a : Bool) → every (has_value 0) h ≡ a → (b : Bool) → every (has_value 1) h ≡ b → pick a 0 (pick b 1 none) < none
    go true x b y = omega arith
    go false x true y = omega arith
    go false x false y = two v low e x y
      where
        two : (v : ℕ) → v < none → every (has_value v) h ≡ true → every (has_value 0) h ≡ false → every (has_value 1) h ≡ false → none < none
        two zero low e x y = never _ x e
        two (suc zero) low e x y = never _ y e
        two (suc (suc v)) low e x y = absurd (omega arith)
