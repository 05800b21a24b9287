-- A result that is Ok where a test holds, else one error: what an Ok or an error that was returned tells of the test.
use Rattle.std.specs.Prelude.{Bool, true, false, ◌≡◌, refl, Result, Ok, Err}
use Rattle.std.specs.Result.{is_ok}
use Rattle.std.proofs.Common.{ap}
use Rattle.std.proofs.lemmas.Bool.{false≢true, true≢false}
use Rattle.laws.specs.Pick.{pick}

abbrev value_or : {A E : Type 0} → A → Result A E → A
value_or d (Ok x) = x
value_or d (Err e) = d

abbrev error_or : {A E : Type 0} → E → Result A E → E
error_or d (Ok x) = d
error_or d (Err e) = e

pub same_ok : {A E : Type 0} (x y : A) → ◌≡◌ {A = Result A E} (Ok x) (Ok y) → x ≡ y
same_ok x y p = ap (value_or x) p

pub was_ok : {A E : Type 0} (b : Bool) (x y : A) (e : E) → pick b (Ok x) (Err e) ≡ Ok y → (b ≡ true) × (x ≡ y)
unfolding pick
was_ok true x y e p = (refl, ap (value_or x) p)
was_ok false x y e p = absurd (false≢true (ap is_ok p))

pub was_err : {A E : Type 0} (b : Bool) (x : A) (e f : E) → pick b (Ok x) (Err e) ≡ Err f → (b ≡ false) × (e ≡ f)
unfolding pick
was_err true x e f p = absurd (true≢false (ap is_ok p))
was_err false x e f p = (refl, ap (error_or e) p)
