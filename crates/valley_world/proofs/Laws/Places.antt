-- Replacing what stands at a number's place in a list.
use Rattle.std.specs.Prelude.{ℕ, suc, zero, ◌-◌, ◌≤◌, ◌<◌, List, ◌≡◌, refl, set, length}
use Rattle.std.proofs.Common.{sym, arith, ne_eqb}
use Rattle.std.proofs.Math.Seq.{set_out}
use Rattle.laws.specs.Pick.{pick}
use Rattle.valley_world.specs.Valley.{put_number}

pub put_inside : {A : Type 0} (l : List A) (s : ℕ) (a : A) → 1 ≤ s → set l (s - 1) a ≡ put_number l s a
unfolding pick
put_inside l s a h =
    let some : (s ≡ 0 → ⊥) = λ e. omega arith in
    rw (ne_eqb s 0 some)

pub put_outside : {A : Type 0} (l : List A) (s : ℕ) (a : A) → (1 ≤ s → length l < s) → l ≡ put_number l s a
unfolding pick
put_outside l zero a h = refl
put_outside l (suc s) a h =
    let out : length l ≤ suc s - 1 = omega (arith, h (omega arith)) in
    let some : (suc s ≡ 0 → ⊥) = λ e. omega arith in
    rw (ne_eqb (suc s) 0 some) (sym (set_out l (suc s - 1) a out))
