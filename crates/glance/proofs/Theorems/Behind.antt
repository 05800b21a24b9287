-- Behind a fault of 3, 4 or 5 neither the groups nor what is between them matter: a glance at the rest has the walk's answer, `behind_fault`.
use Prim.Native.Nat.{ℕ, zero, suc, ◌+◌}
use Rattle.std.specs.Prelude.{Bool, ◌||◌, List, ◌≡◌}
use Rattle.std.proofs.Math.Bool.{true, false}
use Rattle.std.proofs.Math.Path.{refl, sym}
use Rattle.std.proofs.Common.{ap, ◌∙◌}
use native.Mathlib.Omega.{arith}
use Rattle.laws.specs.Pick.{pick}
use Rattle.laws.specs.Bools.{never}
use Rattle.laws.specs.Refusals.{first_failed}
use Rattle.format.specs.Numbers.{malformed}
use Rattle.format.specs.declared.Fields.{Fields}
use Rattle.rules.specs.declared.Group.{Group}
use Rattle.walk.specs.declared.Findings.{Findings}
use Rattle.walk.specs.Walk.{walked, between, answer}
use Rattle.walk.proofs.Laws.Turns.{stopped}
use Rattle.glance.specs.Glance.{passed, passed_at, glanced}
use Rattle.glance.proofs.Glance.{stays, glance_is_walk}

-- 3 is answered whatever else was found, and 4 or 5 whatever was found of the rules
answer_3 : (f : Findings) → f.malformed ≡ true → answer f ≡ malformed
unfolding answer first_failed pick
answer_3 f h = rw h

same_answer : (f h : Findings) → f.malformed ≡ h.malformed → f.other ≡ h.other → f.wrong ≡ h.wrong → (h.other || h.wrong) ≡ true → answer f ≡ answer h
unfolding answer first_failed pick
same_answer f h m o w fault = go h.malformed h.other h.wrong refl refl refl
  where
    go : (b c d : Bool) → h.malformed ≡ b → h.other ≡ c → h.wrong ≡ d → answer f ≡ answer h
    go true c d p q r = answer_3 f (m ∙ p) ∙ sym (answer_3 h p)
    go false true d p q r = rw (m, o, p, q)
    go false false true p q r = rw (m, o, w, p, q, r)
    go false false false p q r = never false refl (rw (q, r) at fault)

module _ (n question : ℕ) (ws : List ℕ) where
  glance_stopped : (f : Findings) (k : ℕ) → f.malformed ≡ true → glanced n question ws f k ≡ f
  unfolding glanced pick
  glance_stopped f zero h = refl
  glance_stopped f (suc k) h = rw h

  -- a glance at a and then b statements is one at both
  glance_on : (a b : ℕ) (f : Findings) → glanced n question ws (glanced n question ws f a) b ≡ glanced n question ws f (a + b)
  unfolding glanced pick
  glance_on zero b f =
      let z : 0 + b ≡ b = omega arith in
      rw z
  glance_on (suc a) b f =
      let z : suc a + b ≡ suc (a + b) = omega arith in
      rw z (go f.malformed refl (glance_on a b (passed_at n question ws f)))
    where
      go : (m : Bool) → f.malformed ≡ m
          → glanced n question ws (glanced n question ws (passed_at n question ws f) a) b ≡ glanced n question ws (passed_at n question ws f) (a + b)
          → glanced n question ws (pick m f (glanced n question ws (passed_at n question ws f) a)) b ≡ pick m f (glanced n question ws (passed_at n question ws f) (a + b))
      go true e ih = glance_stopped f b e
      go false e ih = ih

  still_there : (k : ℕ) (f : Findings) → (f.other || f.wrong) ≡ true → ((glanced n question ws f k).other || (glanced n question ws f k).wrong) ≡ true
  unfolding glanced pick
  still_there zero f h = h
  still_there (suc k) f h = go f.malformed (still_there k (passed_at n question ws f) (stays n question ws f h))
    where
      go : (m : Bool) → ((glanced n question ws (passed_at n question ws f) k).other || (glanced n question ws (passed_at n question ws f) k).wrong) ≡ true
          → ((pick m f (glanced n question ws (passed_at n question ws f) k)).other || (pick m f (glanced n question ws (passed_at n question ws f) k)).wrong) ≡ true
      go true ih = h
      go false ih = ih

  -- what was found of the rules does not matter to the answer
  glance_alike : (k : ℕ) (f h : Findings) → f.place ≡ h.place → f.malformed ≡ h.malformed → f.other ≡ h.other → f.wrong ≡ h.wrong → (h.other || h.wrong) ≡ true
      → answer (glanced n question ws f k) ≡ answer (glanced n question ws h k)
  unfolding glanced pick passed
  glance_alike zero f h p m o w fault = same_answer f h m o w fault
  glance_alike (suc k) f h p m o w fault =
      go f.malformed h.malformed m (glance_alike k (passed_at n question ws f) (passed_at n question ws h) (ap (λ x. x + 1) p) (rw p) (rw (o, p)) w (stays n question ws h fault))
    where
      go : (b c : Bool) → b ≡ c → answer (glanced n question ws (passed_at n question ws f) k) ≡ answer (glanced n question ws (passed_at n question ws h) k)
          → answer (pick b f (glanced n question ws (passed_at n question ws f) k)) ≡ answer (pick c h (glanced n question ws (passed_at n question ws h) k))
      go true true e ih = same_answer f h m o w fault
      go false false e ih = ih
      go true false e ih = never true e refl
      go false true e ih = never true (sym e) refl

module _ (code : List ℕ → List ℕ) (n : ℕ) (g : Group) (question : ℕ) (ws : List ℕ) (f : Findings) (k : ℕ) where
  -- held against any group
  pub glance_behind : (f.malformed || f.other || f.wrong) ≡ true → glanced n question ws f k ≡ walked code n g question ws f k
  glance_behind = go f.malformed refl
    where
      go : (b : Bool) → f.malformed ≡ b → (b || f.other || f.wrong) ≡ true → glanced n question ws f k ≡ walked code n g question ws f k
      go true e fault = glance_stopped n question ws f k e ∙ sym (stopped code n g question ws f k e)
      go false e fault = glance_is_walk code n g question ws k f fault

-- the theorem: a statements held against one group and b behind them against another
module _ (code : List ℕ → List ℕ) (n : ℕ) (one two : Group) (question : ℕ) (ws : List ℕ) (m : Fields) (whole : Bool) (rest : ℕ) (f : Findings) (a b : ℕ) where
  behind_3 : f.malformed ≡ true
      → answer (walked code n two question ws (between m whole rest two (walked code n one question ws f a)) b) ≡ answer (glanced n question ws f (a + b))
  unfolding between
  behind_3 h =
      rw (stopped code n one question ws f a h, glance_stopped n question ws f (a + b) h, stopped code n two question ws (between m whole rest two f) b h)
      (answer_3 (between m whole rest two f) h ∙ sym (answer_3 f h))

  behind_4_5 : (f.other || f.wrong) ≡ true
      → answer (walked code n two question ws (between m whole rest two (walked code n one question ws f a)) b) ≡ answer (glanced n question ws f (a + b))
  unfolding between
  behind_4_5 h =
      let y : Findings = glanced n question ws f a in
      let z : Findings = between m whole rest two y in
      let i : (y.other || y.wrong) ≡ true = still_there n question ws a f h in
      rw (← glance_is_walk code n one question ws a f h, ← glance_is_walk code n two question ws b z i, ← glance_on n question ws a b f)
      (glance_alike n question ws b z y refl refl refl refl i)

  pub behind_fault : (f.malformed || f.other || f.wrong) ≡ true
      → answer (walked code n two question ws (between m whole rest two (walked code n one question ws f a)) b) ≡ answer (glanced n question ws f (a + b))
  behind_fault = go f.malformed refl
    where
      go : (t : Bool) → f.malformed ≡ t → (t || f.other || f.wrong) ≡ true
          → answer (walked code n two question ws (between m whole rest two (walked code n one question ws f a)) b) ≡ answer (glanced n question ws f (a + b))
      go true e h = behind_3 e
      go false e h = behind_4_5 h
