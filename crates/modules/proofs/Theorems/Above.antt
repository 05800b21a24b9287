-- What it is for a pair to be above the last; that a pair once coded is above it never again, and that every pair is above that of a made module.
use Rattle.std.specs.Prelude.{ℕ, ◌<◌, Bool, true, false, not, ◌&&◌, ◌||◌, List, ◌≡◌, refl, eqb, ltb}
use Rattle.std.proofs.Common.{◌∙◌, arith, eqb-true, eq-eqb, ltb-true, lt-ltb}
use Rattle.laws.specs.Pick.{pick}
use Rattle.laws.specs.Bools.{never, both, join, left, right, is_false}
use Rattle.format.specs.Form.{Form, size_fits}
use Rattle.format.specs.Numbers.{out_of_range}
use Rattle.format.specs.Words.{of_group}
use Rattle.modules.specs.declared.Last.{Last}
use Rattle.modules.specs.declared.Module.{Module}
use Rattle.modules.specs.Counter.{above, pair, advanced, last_for, Made, fresh, no_module, making}

-- a pair above another, which was coded: a later question, or the same and a later step
pub data Above (l : Last) (q s : ℕ) : Type 0 where
  first : l.coded ≡ false → Above l q s
  later_question : l.question < q → Above l q s
  later_step : l.question ≡ q → l.step.0 < s → Above l q s

pub above_out : (l : Last) (q s : ℕ) → above l q s ≡ true → Above l q s
unfolding above
above_out l q s h = go l.coded (ltb l.question q) refl refl h
  where
    go : (a b : Bool) → l.coded ≡ a → ltb l.question q ≡ b → (not a || (b || (eqb l.question q && ltb l.step.0 s))) ≡ true → Above l q s
    go false b e f h = first e
    go true true e f h = later_question (ltb-true _ _ f)
    go true false e f h = let p = both (eqb l.question q) _ h in later_step (eqb-true _ _ p.0) (ltb-true _ _ p.1)

pub above_in : (l : Last) (q s : ℕ) → Above l q s → above l q s ≡ true
unfolding above
above_in l q s (first e) = rw e
above_in l q s (later_question h) = right (not l.coded) _ (left (ltb l.question q) _ (lt-ltb _ _ h))
above_in l q s (later_step e h) = right (not l.coded) _ (right (ltb l.question q) _ (join (eqb l.question q) _ (eq-eqb _ _ e) (lt-ltb _ _ h)))

-- what has been coded is not above itself: the same pair is never coded twice
pub not_again : (q s : ℕ) → above (pair q s) q s ≡ false
unfolding above
not_again q s = go (ltb q q) (ltb s s) refl refl
  where
    go : (a b : Bool) → ltb q q ≡ a → ltb s s ≡ b → (a || (eqb q q && b)) ≡ false
    go true b e f = absurd (omega (arith, ltb-true q q e))
    go false true e f = absurd (omega (arith, ltb-true s s f))
    go false false e f = z (eqb q q)
      where
        z : (c : Bool) → (c && false) ≡ false
        z true = refl
        z false = refl

-- once a module has coded a pair, that pair is not above its last
pub coded_below : (m : Module) (q s : ℕ) → above (last_for (advanced m q s) q) q s ≡ false
coded_below m q s = not_again q s

-- nor does any pair come to be above its last that was not before
pub stays_below : (m : Module) (q s q' s' : ℕ) → above (last_for m q) q s ≡ true → above (last_for m q') q' s' ≡ false → above (last_for (advanced m q s) q') q' s' ≡ false
stays_below m q s q' s' up low = is_false _ (λ e. never _ low (above_in (last_for m q') q' s' (go (above_out (last_for m q) q s up) (above_out (pair q s) q' s' e))))
  where
    go : Above (last_for m q) q s → Above (pair q s) q' s' → Above (last_for m q') q' s'
    go (first x) b = first x
    go (later_question x) (first y) = never true y refl
    go (later_question x) (later_question y) = later_question (omega arith)
    go (later_question x) (later_step y z) = later_question (omega arith)
    go (later_step x w) (first y) = never true y refl
    go (later_step x w) (later_question y) = later_question (omega arith)
    go (later_step x w) (later_step y z) = later_step (x ∙ y) (omega arith)

-- "each made once and with nothing coded": every pair is above the last of a made module
pub made_above : (form : Form) (key : List ℕ) (n site q s : ℕ) → above (last_for (making form key n site).made q) q s ≡ true
unfolding making above pick
made_above form key n site q s = go (size_fits form n && of_group n site)
  where
    go : (b : Bool)
        → above (last_for (pick {A = Made} b (record { number = 0; made = fresh key n site }) (record { number = out_of_range; made = no_module })).made q) q s ≡ true
    go true = refl
    go false = refl
