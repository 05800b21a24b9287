-- Lists of statements at the end of a step: counts, parts, and what all or some of them have.
use Rattle.std.specs.Prelude.{ℕ, zero, suc, ◌+◌, ◌≤◌, ◌<◌, Bool, true, false, ◌&&◌, ◌||◌, List, [], ◌∷◌, ◌≡◌, refl, eqb, length, take}
use Rattle.std.proofs.Common.{ap, arith, eqb-true, eq-eqb}
use Rattle.std.proofs.lemmas.Bool.{eqb-false}
use Rattle.laws.specs.Pick.{pick}
use Rattle.laws.specs.Bools.{never, join, left, right}
use Rattle.laws.specs.All.{All}
use Rattle.format.specs.Statement.{Statement}
use Rattle.format.specs.Lists.{some, every, number_of, those, leading}
use Rattle.rules.specs.declared.Which.{Which}
use Rattle.rules.specs.Rules.{which, wanted, matches, Rising}
use Rattle.station.specs.Machine.{has_value}
use Rattle.station.proofs.Laws.Slots.{rising_from}

-- ---- a statement that a group asks for
pub asked_for : (size kind round : ℕ) (value flag : Which) (s : Statement) → s.kind ≡ kind → s.round ≡ round → which value s.value ≡ true → which flag s.flag ≡ true
    → matches (record { size = size; kind = kind; round = record { 0 = round }; value = value; flag = flag }) s ≡ true
unfolding wanted
asked_for size kind round value flag s k r v f =
    join (eqb s.kind kind && eqb s.round round && which value s.value) _
    (join (eqb s.kind kind && eqb s.round round) _ (join (eqb s.kind kind) _ (eq-eqb _ _ k) (eq-eqb _ _ r)) v) f

-- ---- those that a test takes
pub those_length : (p : Statement → Bool) (h : List Statement) → length (those p h) ≡ number_of p h
unfolding those number_of pick
those_length p [] = refl
those_length p (s ∷ h) = go (p s) (those_length p h)
  where
    go : (b : Bool) → length (those p h) ≡ number_of p h → length (pick b (s ∷ those p h) (those p h)) ≡ pick b (suc (number_of p h)) (number_of p h)
    go true e = ap suc e
    go false e = e

pub those_all : (P : Statement → Type 0) (p : Statement → Bool) (h : List Statement) → All P h → All (λ s. P s × (p s ≡ true)) (those p h)
unfolding those pick
those_all P p [] a = tt
those_all P p (s ∷ h) a = go (p s) refl (those_all P p h a.1)
  where
    go : (b : Bool) → p s ≡ b → All (λ s. P s × (p s ≡ true)) (those p h) → All (λ s. P s × (p s ≡ true)) (pick b (s ∷ those p h) (those p h))
    go true e r = ((a.0, e), r)
    go false e r = r

pub those_rising : (p : Statement → Bool) (a : ℕ) (h : List Statement) → Rising a h → Rising a (those p h)
unfolding those pick
those_rising p a [] r = tt
those_rising p a (s ∷ h) r = go (p s) (those_rising p s.station h r.1)
  where
    go : (b : Bool) → Rising s.station (those p h) → Rising a (pick b (s ∷ those p h) (those p h))
    go true k = (r.0, k)
    go false k = rising_from s.station a (those p h) (omega (arith, r.0)) k

pub take_rising : (k a : ℕ) (h : List Statement) → Rising a h → Rising a (take k h)
take_rising zero a h r = tt
take_rising (suc k) a [] r = tt
take_rising (suc k) a (s ∷ h) r = (r.0, take_rising k s.station h r.1)

-- ---- values 0 and 1
pub zeros_ones : (h : List Statement) → All (λ s. s.value < 2) h → number_of (has_value 0) h + number_of (has_value 1) h ≡ length h
unfolding number_of pick
zeros_ones [] a = refl
zeros_ones (s ∷ h) a = go (eqb s.value 0) refl (eqb s.value 1) refl (zeros_ones h a.1)
  where
    go : (b : Bool) → eqb s.value 0 ≡ b → (c : Bool) → eqb s.value 1 ≡ c → number_of (has_value 0) h + number_of (has_value 1) h ≡ length h
        → pick b (suc (number_of (has_value 0) h)) (number_of (has_value 0) h) + pick c (suc (number_of (has_value 1) h)) (number_of (has_value 1) h) ≡ suc (length h)
    go true e true f ih = absurd (omega (arith, eqb-true s.value 0 e, eqb-true s.value 1 f))
    go true e false f ih = omega arith
    go false e true f ih = omega arith
    go false e false f ih = absurd (omega (arith, a.0, eqb-false s.value 0 e, eqb-false s.value 1 f))

-- not all pass: one does not
pub some_other : (p q : Statement → Bool) (h : List Statement) → All (λ s. p s ≡ false → q s ≡ true) h → every p h ≡ false → some q h ≡ true
unfolding every some
some_other p q [] a e = never true e refl
some_other p q (s ∷ h) a e = go (p s) refl e (some_other p q h a.1)
  where
    go : (b : Bool) → p s ≡ b → (b && every p h) ≡ false → (every p h ≡ false → some q h ≡ true) → (q s || some q h) ≡ true
    go true x y ih = right (q s) _ (ih y)
    go false x y ih = left (q s) _ (a.0 x)

-- none passes: all do not
pub none_some : (p : Statement → Bool) (h : List Statement) → some p h ≡ false → All (λ s. p s ≡ false) h
unfolding some
none_some p [] e = tt
none_some p (s ∷ h) e = go (p s) refl e (none_some p h)
  where
    go : (b : Bool) → p s ≡ b → (b || some p h) ≡ false → (some p h ≡ false → All (λ s. p s ≡ false) h) → (p s ≡ false) × All (λ s. p s ≡ false) h
    go true x y ih = never true y refl
    go false x y ih = (x, ih y)

-- one that passes
pub record SomeWith (P : Statement → Type 0) (p : Statement → Bool) : Type 0 where
  pub one : Statement
  pub has : P one
  pub passes : p one ≡ true

pub find_some : (P : Statement → Type 0) (p : Statement → Bool) (h : List Statement) → All P h → some p h ≡ true → SomeWith P p
unfolding some
find_some P p [] a e = never false refl e
find_some P p (s ∷ h) a e = go (p s) refl e (find_some P p h a.1)
  where
    go : (b : Bool) → p s ≡ b → (b || some p h) ≡ true → (some p h ≡ true → SomeWith P p) → SomeWith P p
    go true x y ih = record { one = s; has = a.0; passes = x }
    go false x y ih = ih y

-- some pass a test where all that pass another do
pub some_weaker : (p q : Statement → Bool) (h : List Statement) → All (λ s. p s ≡ true → q s ≡ true) h → some p h ≡ true → some q h ≡ true
unfolding some
some_weaker p q [] a e = e
some_weaker p q (s ∷ h) a e = go (p s) refl e (some_weaker p q h a.1)
  where
    go : (b : Bool) → p s ≡ b → (b || some p h) ≡ true → (some p h ≡ true → some q h ≡ true) → (q s || some q h) ≡ true
    go true x y ih = left (q s) _ (a.0 x)
    go false x y ih = right (q s) _ (ih y)

-- where all do and there is one
pub some_all : (p : Statement → Bool) (h : List Statement) → 1 ≤ length h → All (λ s. p s ≡ true) h → some p h ≡ true
unfolding some
some_all p [] l a = absurd (omega arith)
some_all p (s ∷ h) l a = left (p s) _ a.0

-- the leading value is one that a test knows of each that leads
pub leading_is : (p : Statement → Bool) (v : ℕ) (h : List Statement) → All (λ s. p s ≡ true → s.value ≡ v) h → some p h ≡ true → leading p h ≡ v
unfolding some leading pick
leading_is p v [] a e = never false refl e
leading_is p v (s ∷ h) a e = go (p s) refl e (leading_is p v h a.1)
  where
    go : (b : Bool) → p s ≡ b → (b || some p h) ≡ true → (some p h ≡ true → leading p h ≡ v) → pick b s.value (leading p h) ≡ v
    go true x y ih = a.0 x
    go false x y ih = ih y
