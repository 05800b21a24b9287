-- A statement among those held: what a list has with it.
use Rattle.std.specs.Prelude.{ℕ, suc, ◌≤◌, ◌<◌, Bool, ◌&&◌, ◌||◌, ◌≡◌, length}
use Rattle.std.proofs.Math.Bool.{true, false}
use mathlib.Core.List.{List, [], ◌∷◌}
use Rattle.std.proofs.Math.Path.{refl, ap}
use Rattle.std.proofs.Common.{◌∙◌, arith}
use Rattle.std.proofs.Math.Dec.{eqb, ltb}
use borrow.Author.Tests.{eqb-false, ltb-true, ltb-false, le-ltb}
use Rattle.laws.specs.Pick.{pick}
use Rattle.laws.specs.Bools.{never}
use Rattle.laws.specs.All.{All}
use Rattle.format.specs.Statement.{Statement}
use Rattle.rules.specs.Rules.{Rising}
use Rattle.format.specs.Numbers.{d_get}
use Rattle.format.specs.Lists.{some, every, leading}
use Rattle.station.specs.declared.Stage.{Stage}
use Rattle.station.specs.declared.Stage.TheVariants.{Gathering, Proposing, Voting}
use Rattle.station.specs.Machine.{insert, held_of, has_value, conflict}

pub insert_all : (P : Statement → Type 0) (m : Statement) (h : List Statement) → P m → All P h → All P (insert m h)
unfolding insert pick
insert_all P m [] p a = (p, tt)
insert_all P m (s ∷ h) p a = go (ltb m.station s.station) (insert_all P m h p a.1)
  where
    go : (b : Bool) → All P (insert m h) → All P (pick b (m ∷ s ∷ h) (s ∷ insert m h))
    go true r = (p, a)
    go false r = (a.0, r)

pub insert_length : (m : Statement) (h : List Statement) → length (insert m h) ≡ suc (length h)
unfolding insert pick
insert_length m [] = refl
insert_length m (s ∷ h) = go (ltb m.station s.station) (insert_length m h)
  where
    go : (b : Bool) → length (insert m h) ≡ suc (length h) → length (pick b (m ∷ s ∷ h) (s ∷ insert m h)) ≡ suc (suc (length h))
    go true e = refl
    go false e = ap suc e

pub insert_rising : (m : Statement) (a : ℕ) (h : List Statement) → a < m.station → held_of m.station h ≡ false → Rising a h → Rising a (insert m h)
unfolding insert pick some
insert_rising m a [] low e r = (low, tt)
insert_rising m a (s ∷ h) low e r = go (ltb m.station s.station) refl (eqb s.station m.station) refl e (insert_rising m s.station h)
  where
    go : (b : Bool) → ltb m.station s.station ≡ b → (c : Bool) → eqb s.station m.station ≡ c → (c || held_of m.station h) ≡ false
        → (s.station < m.station → held_of m.station h ≡ false → Rising s.station h → Rising s.station (insert m h))
        → Rising a (pick b (m ∷ s ∷ h) (s ∷ insert m h))
    go true x c y z ih = (low, (ltb-true _ _ x, r.1))
    go false x true y z ih = never true z refl
    go false x false y z ih =
        (r.0, ih (omega (arith, ltb-false m.station s.station x, eqb-false s.station m.station y)) z r.1)

pub some_insert : (p : Statement → Bool) (m : Statement) (h : List Statement) → some p (insert m h) ≡ (p m || some p h)
unfolding insert pick some
some_insert p m [] = refl
some_insert p m (s ∷ h) = go (ltb m.station s.station) (some_insert p m h)
  where
    swap : (x y z : Bool) → (x || (y || z)) ≡ (y || (x || z))
    swap true true z = refl
    swap true false z = refl
    swap false true z = refl
    swap false false z = refl

    go : (b : Bool) → some p (insert m h) ≡ (p m || some p h) → some p (pick b (m ∷ s ∷ h) (s ∷ insert m h)) ≡ (p m || (p s || some p h))
    go true e = refl
    go false e = ap (λ (z : Bool). p s || z) e ∙ swap (p s) (p m) (some p h)

pub every_insert : (p : Statement → Bool) (m : Statement) (h : List Statement) → every p (insert m h) ≡ (p m && every p h)
unfolding insert pick every
every_insert p m [] = refl
every_insert p m (s ∷ h) = go (ltb m.station s.station) (every_insert p m h)
  where
    swap : (x y z : Bool) → (x && (y && z)) ≡ (y && (x && z))
    swap true true z = refl
    swap true false z = refl
    swap false true z = refl
    swap false false z = refl

    go : (b : Bool) → every p (insert m h) ≡ (p m && every p h) → every p (pick b (m ∷ s ∷ h) (s ∷ insert m h)) ≡ (p m && (p s && every p h))
    go true e = refl
    go false e = ap (λ (z : Bool). p s && z) e ∙ swap (p s) (p m) (every p h)

-- the value of the lowest-numbered supplier, with a new statement: the new one's where it is the lowest, else as before
module _ (p : Statement → Bool) (m : Statement) where
  abbrev lower : Statement → Bool
  lower s = p s && ltb s.station m.station

  -- none of a rising list from above m is lower than m
  none_lower : (a : ℕ) (h : List Statement) → m.station ≤ a → Rising a h → some lower h ≡ false
  unfolding some
  none_lower a [] e r = refl
  none_lower a (s ∷ h) e r =
      rw (le-ltb s.station m.station (omega (arith, r.0))) (go (p s) (none_lower s.station h (omega (arith, r.0)) r.1))
    where
      go : (b : Bool) → some lower h ≡ false → ((b && false) || some lower h) ≡ false
      go true k = k
      go false k = k

  pub leading_new : (h : List Statement) → held_of m.station h ≡ false → p m ≡ true → some lower h ≡ false → leading p (insert m h) ≡ m.value
  unfolding insert leading pick some
  leading_new [] n e f = rw e
  leading_new (s ∷ h) n e f = go (ltb m.station s.station) refl (p s) refl (ltb s.station m.station) refl (eqb s.station m.station) refl n f (λ u v. leading_new h u e v)
    where
      go : (b : Bool) → ltb m.station s.station ≡ b → (c : Bool) → p s ≡ c → (d : Bool) → ltb s.station m.station ≡ d
          → (q : Bool) → eqb s.station m.station ≡ q → (q || held_of m.station h) ≡ false → ((c && d) || some lower h) ≡ false
          → (held_of m.station h ≡ false → some lower h ≡ false → leading p (insert m h) ≡ m.value)
          → leading p (pick b (m ∷ s ∷ h) (s ∷ insert m h)) ≡ m.value
      go true x c y d w q o u z ih = rw e
      go false x c y d w true o u z ih = never true u refl
      go false x false y d w false o u z ih = rw y (ih u z)
      go false x true y true w false o u z ih = never true z refl
      go false x true y false w false o u z ih =
          absurd (eqb-false s.station m.station o (omega (arith, ltb-false m.station s.station x, ltb-false s.station m.station w)))

  pub leading_other : (h : List Statement) → p m ≡ false → leading p (insert m h) ≡ leading p h
  unfolding insert leading pick
  leading_other [] e = rw e
  leading_other (s ∷ h) e = go (ltb m.station s.station) (leading_other h e)
    where
      go : (b : Bool) → leading p (insert m h) ≡ leading p h → leading p (pick b (m ∷ s ∷ h) (s ∷ insert m h)) ≡ leading p (s ∷ h)
      go true ih = rw e
      go false ih = ap (λ (z : ℕ). pick (p s) s.value z) ih

  pub leading_old : (a : ℕ) (h : List Statement) → Rising a h → some lower h ≡ true → leading p (insert m h) ≡ leading p h
  unfolding insert leading pick some
  leading_old a [] r f = never false refl f
  leading_old a (s ∷ h) r f = go (ltb m.station s.station) refl (p s) refl f (leading_old s.station h r.1)
    where
      go : (b : Bool) → ltb m.station s.station ≡ b → (c : Bool) → p s ≡ c → ((c && ltb s.station m.station) || some lower h) ≡ true
          → (some lower h ≡ true → leading p (insert m h) ≡ leading p h) → leading p (pick b (m ∷ s ∷ h) (s ∷ insert m h)) ≡ leading p (s ∷ h)
      go true x c y z ih =
          let l : m.station < s.station = ltb-true _ _ x in
          never (some lower (s ∷ h)) (none_lower m.station (s ∷ h) (omega arith) (l, r.1)) f
      go false x true y z ih = rw y
      go false x false y z ih = rw y (ih z)

  -- where a lower one supplies, one of them does
  pub lower_some : (h : List Statement) → some lower h ≡ true → some p h ≡ true
  unfolding some
  lower_some [] f = f
  lower_some (s ∷ h) f = go (p s) f (lower_some h)
    where
      go : (c : Bool) → ((c && ltb s.station m.station) || some lower h) ≡ true → (some lower h ≡ true → some p h ≡ true) → (c || some p h) ≡ true
      go true z ih = refl
      go false z ih = ih z

pub conflict_insert : (g : Stage) (m : Statement) (h : List Statement) → conflict g (insert m h) ≡ conflict g (m ∷ h)
unfolding conflict some
conflict_insert Gathering m h = refl
conflict_insert (Proposing r f) m h =
    rw (some_insert (λ s. eqb s.flag d_get && has_value 0 s) m h, some_insert (λ s. eqb s.flag d_get && has_value 1 s) m h)
conflict_insert (Voting r) m h = rw (some_insert (has_value 0) m h, some_insert (has_value 1) m h)
