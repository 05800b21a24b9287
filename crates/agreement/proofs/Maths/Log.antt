-- Statements that were coded: who coded what, and that no station coded two of one step.
use Rattle.std.specs.Prelude.{◌≡◌, refl, Bool, true, false, ◌&&◌, ◌||◌, ◌⊎◌, ℕ, ◌≤◌, eqb}
use Rattle.std.proofs.Common.{sym, ◌∙◌, inl, inr, eqb-true, eq-eqb}
use mathlib.Core.List.Memᴰ
use mathlib.Core.List.{List, [], ◌∷◌, Memᴰ}
use Rattle.laws.specs.Bools.{never, both, left, right}
use Rattle.laws.specs.All.{All}
use Rattle.laws.specs.Count.{count}
use Rattle.format.specs.Words.{step_of}
use Rattle.format.specs.Statement.{Statement, step}
use Rattle.format.specs.Lists.{some}

abbrev pub In : Statement → List Statement → Type 0
In s l = Memᴰ s l

pub record SomeIn (p : Statement → Bool) (l : List Statement) : Type 0 where
  pub one : Statement
  pub mem : In one l
  pub passes : p one ≡ true

pub some_out : (p : Statement → Bool) (l : List Statement) → some p l ≡ true → SomeIn p l
unfolding some
some_out p [] h = never false refl h
some_out p (s ∷ l) h = go (p s) refl h (some_out p l)
  where
    go : (b : Bool) → p s ≡ b → (b || some p l) ≡ true → (some p l ≡ true → SomeIn p l) → SomeIn p (s ∷ l)
    go true e k ih = record { one = s; mem = Memᴰ.head refl; passes = e }
    go false e k ih = let f = ih k in record { one = f.one; mem = Memᴰ.tail f.mem; passes = f.passes }

pub some_in : (p : Statement → Bool) (s : Statement) (l : List Statement) → In s l → p s ≡ true → some p l ≡ true
unfolding some
some_in p s [] m h = absurd (Memᴰ.not-nil m)
some_in p s (t ∷ l) m h = go (Memᴰ.cases_cons m) (λ k. some_in p s l k h)
  where
    go : (s ≡ t) ⊎ In s l → (In s l → some p l ≡ true) → (p t || some p l) ≡ true
    go (inl e) ih = left (p t) (some p l) (rw e at h)
    go (inr k) ih = right (p t) (some p l) (ih k)

-- station i coded a statement of kind kd, question q, round r and value v
abbrev pub is : ℕ → ℕ → ℕ → ℕ → ℕ → Statement → Bool
is kd q r v i s = eqb s.station i && (eqb s.kind kd && (eqb s.question q && (eqb s.round r && eqb s.value v)))

unfoldable pub has : List Statement → ℕ → ℕ → ℕ → ℕ → ℕ → Bool
has l kd q r v i = some (is kd q r v i) l

pub record Has (l : List Statement) (kd q r v i : ℕ) : Type 0 where
  pub one : Statement
  pub mem : In one l
  pub station≡ : one.station ≡ i
  pub kind≡ : one.kind ≡ kd
  pub question≡ : one.question ≡ q
  pub round≡ : one.round ≡ r
  pub value≡ : one.value ≡ v

pub has_out : (l : List Statement) (kd q r v i : ℕ) → has l kd q r v i ≡ true → Has l kd q r v i
unfolding has
has_out l kd q r v i h =
    let f = some_out (is kd q r v i) l h in
    let s = f.one in
    let a = both _ _ f.passes in
    let b = both _ _ a.1 in
    let c = both _ _ b.1 in
    let d = both _ _ c.1 in
    record { one = s; mem = f.mem; station≡ = eqb-true _ _ a.0; kind≡ = eqb-true _ _ b.0; question≡ = eqb-true _ _ c.0; round≡ = eqb-true _ _ d.0; value≡ = eqb-true _ _ d.1 }

eqb_same : (x : ℕ) → eqb x x ≡ true
eqb_same x = eq-eqb x x refl

pub has_in : (s : Statement) (l : List Statement) → In s l → has l s.kind s.question s.round s.value s.station ≡ true
unfolding has
has_in s l m = some_in (is s.kind s.question s.round s.value s.station) s l m (simp eqb_same)

pub has_at : (s : Statement) (l : List Statement) {kd q r v : ℕ} → In s l → s.kind ≡ kd → s.question ≡ q → s.round ≡ r → s.value ≡ v → has l kd q r v s.station ≡ true
has_at s l m a b c d = rw (a, b, c, d) at (has_in s l m)

-- k stations of 1..n coded such a statement
abbrev pub Supp : ℕ → List Statement → ℕ → ℕ → ℕ → ℕ → ℕ → Type 0
Supp n l kd q r v k = k ≤ count (has l kd q r v) n

-- no two statements of one station are of one question and step
abbrev pub OtherPair : Statement → Statement → Type 0
OtherPair s t = t.station ≡ s.station → t.question ≡ s.question → step t ≡ step s → ⊥

abbrev pub Distinct : List Statement → Type 0
Distinct [] = Unit
Distinct (s ∷ l) = All (OtherPair s) l × Distinct l

pub all_at : {A : Type 0} (P : A → Type 0) (l : List A) → All P l → (s : A) → Memᴰ s l → P s
all_at P [] h s m = absurd (Memᴰ.not-nil m)
all_at P (t ∷ l) h s m = go (Memᴰ.cases_cons m) (all_at P l h.1 s)
  where
    go : (s ≡ t) ⊎ Memᴰ s l → (Memᴰ s l → P s) → P s
    go (inl e) ih = rw e h.0
    go (inr k) ih = ih k

-- non-equivocation
pub one_each : (l : List Statement) → Distinct l → (s t : Statement) → In s l → In t l → s.station ≡ t.station → s.question ≡ t.question → step s ≡ step t → s ≡ t
one_each [] h s t a b p q r = absurd (Memᴰ.not-nil a)
one_each (u ∷ l) h s t a b p q r = go (Memᴰ.cases_cons a) (Memᴰ.cases_cons b) (λ x y. one_each l h.1 s t x y p q r)
  where
    go : (s ≡ u) ⊎ In s l → (t ≡ u) ⊎ In t l → (In s l → In t l → s ≡ t) → s ≡ t
    go (inl e) (inl f) ih = cc
    go (inl e) (inr y) ih = absurd (all_at (OtherPair u) l h.0 t y (cc) (cc) (cc))
    go (inr x) (inl f) ih = absurd (all_at (OtherPair u) l h.0 s x (cc) (cc) (cc))
    go (inr x) (inr y) ih = ih x y

same_pair : (s t : Statement) → s.kind ≡ t.kind → s.round ≡ t.round → step s ≡ step t
unfolding step
same_pair s t k r = λ i. step_of (k i) (r i)

pub has_one : (l : List Statement) → Distinct l → (kd q r v w i : ℕ) → Has l kd q r v i → Has l kd q r w i → v ≡ w
has_one l h kd q r v w i x y =
    let e : x.one ≡ y.one
    = one_each l h x.one y.one x.mem y.mem (cc) (cc) (same_pair x.one y.one (x.kind≡ ∙ sym y.kind≡) (x.round≡ ∙ sym y.round≡)) in
    cc
