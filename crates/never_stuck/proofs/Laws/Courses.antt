-- Every list of calls: what is known of a sound site's stations is kept by each kind of call. An opening and a giving are in OpeningStep and GivingStep; a coding on the
-- site's module is refused.
use Rattle.std.proofs.Math.Path.{◌≡◌, refl, subst}
use Rattle.std.proofs.Common.{sym, arith}
use Rattle.std.specs.Prelude.{Bool, ℕ, ◌≤◌}
use Rattle.std.proofs.Math.Bool.{true, false}
use mathlib.Core.List.{List, [], ◌∷◌}
use Rattle.std.proofs.Math.Dec.{eqb}
use borrow.Author.Tests.{eqb-true, eqb-false}
use Rattle.format.specs.Form.{present_form}
use Rattle.format.specs.Statement.{Statement}
use Rattle.modules.specs.declared.Module.{Module}
use Rattle.sealed.specs.Sealed as Sealed
use Rattle.sealed.proofs.Theorems.Rises.{Did, coded, refused, plain_rises, coin_rises}
use Rattle.agreement.proofs.Laws.Ground.{Ground}
use Rattle.agreement.proofs.Laws.Lists.{module_other, module_same, lineage_other}
use Rattle.agreement.proofs.Theorems.Theorem.{inv, AllSound}
use Rattle.agreement.specs.Demand.{opens, gives, codes, tosses, Call, call, site, member}
use Rattle.agreement.specs.Present.{modules, answer, lineage, Given}
use Rattle.never_stuck.proofs.Laws.Course.{Course, still}
use Rattle.never_stuck.proofs.Laws.OpeningStep.{open_course}
use Rattle.never_stuck.proofs.Laws.GivingStep.{give_course}

module _ (G : Ground present_form) where
  open G use {mac, key, n}

  -- a coding that is refused leaves the module
  not_coded : (m : Module) (ws : List ℕ) (s : Statement) (x : Sealed.Coded) → Did m ws s x → (x.number ≡ 0 → ⊥) → x.after ≡ m
  not_coded m ws s x (coded a b c) d = absurd (d a)
  not_coded m ws s x (refused a b c) d = b

  -- a coding at the site is refused, one elsewhere changes nothing there
  apart_course : (c : Call) (cs : List Call) (i : ℕ) → ((k : ℕ) → lineage mac key n (c ∷ cs) i k ≡ lineage mac key n cs i k) → (site c ≡ i → (answer mac key n cs c).after ≡ modules mac key n cs (site c))
      → Course G cs i → Course G (c ∷ cs) i
  apart_course c cs i same f w = still G c cs i same (by (eqb i (site c)) refl) w
    where
      by : (b : Bool) → eqb i (site c) ≡ b → modules mac key n (c ∷ cs) i ≡ modules mac key n cs i
      by true e = sym (module_same present_form mac key n c cs (f (sym (eqb-true i (site c) e))) i)
      by false e = module_other present_form mac key n c cs i (eqb-false i (site c) e)

  elsewhere : (c : Call) (cs : List Call) (i : ℕ) → (i ≡ site c → ⊥) → Course G cs i → Course G (c ∷ cs) i
  elsewhere c cs i ne w = still G c cs i (λ k. lineage_other present_form mac key n c cs i k ne) (module_other present_form mac key n c cs i ne) w

  pub course : (faulty : List ℕ) (cs : List Call) → Given mac key n cs → AllSound present_form G faulty cs → (i : ℕ) → 1 ≤ i → i ≤ n → member i faulty ≡ false
      → Course G cs i
  unfolding Rattle.agreement.specs.Demand.Given Rattle.agreement.specs.Demand.Sound Rattle.agreement.specs.Demand.lineage Rattle.agreement.specs.Demand.act
  course faulty [] g s i lo hi h = record { up = λ k line e. absurd (let z : ◌≡◌ {A = ℕ} 0 1 = cc in omega arith); unique = λ k o a b e f z. absurd (let z : ◌≡◌ {A = ℕ} 0 1 = cc in omega arith) }
  course faulty (call j (opens q v setting out) ∷ cs) g s i lo hi h = by (eqb i j) refl (course faulty cs g.1.1 (λ x a b c. (s x a b c).1) i lo hi h)
    where
      by : (b : Bool) → eqb i j ≡ b → Course G cs i → Course G (call j (opens q v setting out) ∷ cs) i
      by true e w =
          let z : i ≡ j = eqb-true i j e in
          subst (λ (y : ℕ). Course G (call y (opens q v setting out) ∷ cs) i) z
          (open_course G faulty cs i
          (record { low = lo; high = hi; sound = h; before = inv present_form G faulty cs g.1.1 (λ x a b c. (s x a b c).1); course_of = w }) q v setting out
          (inv present_form G faulty (call i (opens q v setting out) ∷ cs) ((lo, hi), g.1) (subst (λ (y : ℕ). AllSound present_form G faulty (call y (opens q v setting out) ∷ cs)) (sym z) s)))
      by false e w = elsewhere (call j (opens q v setting out)) cs i (eqb-false i j e) w
  course faulty (call j (gives o t ws coin out) ∷ cs) g s i lo hi h = by (eqb i j) refl (course faulty cs g.1.1 (λ x a b c. (s x a b c).1) i lo hi h)
    where
      by : (b : Bool) → eqb i j ≡ b → Course G cs i → Course G (call j (gives o t ws coin out) ∷ cs) i
      by true e w =
          let z : i ≡ j = eqb-true i j e in
          let s' : AllSound present_form G faulty (call i (gives o t ws coin out) ∷ cs) = subst (λ (y : ℕ). AllSound present_form G faulty (call y (gives o t ws coin out) ∷ cs)) (sym z) s in
          subst (λ (y : ℕ). Course G (call y (gives o t ws coin out) ∷ cs) i) z
          (give_course G faulty cs i
          (record { low = lo; high = hi; sound = h; before = inv present_form G faulty cs g.1.1 (λ x a b c. (s x a b c).1); course_of = w }) o t ws coin out g.1.0.0 g.1.0.1 (λ u. (s' i lo hi h).0 refl u)
          (inv present_form G faulty (call i (gives o t ws coin out) ∷ cs) ((lo, hi), g.1) s'))
      by false e w = elsewhere (call j (gives o t ws coin out)) cs i (eqb-false i j e) w
  course faulty (call j (codes ws) ∷ cs) g s i lo hi h =
      apart_course (call j (codes ws)) cs i (λ k. refl) (λ z. not_coded (modules mac key n cs j) ws _ _ (plain_rises mac (modules mac key n cs j) ws) (λ y. (s i lo hi h).0 z y))
      (course faulty cs g.1.1 (λ x a b c. (s x a b c).1) i lo hi h)
  course faulty (call j (tosses ws coin) ∷ cs) g s i lo hi h =
      apart_course (call j (tosses ws coin)) cs i (λ k. refl) (λ z. not_coded (modules mac key n cs j) ws _ _ (coin_rises mac (modules mac key n cs j) ws coin) (λ y. (s i lo hi h).0 z y))
      (course faulty cs g.1.1 (λ x a b c. (s x a b c).1) i lo hi h)
