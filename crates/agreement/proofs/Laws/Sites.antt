-- Lists of sites: how many of a group are in one, and a list with one site taken out.
use Rattle.std.specs.Prelude.{◌≡◌, refl, Bool, true, false, ◌||◌, List, [], ◌∷◌, ℕ, suc, ◌≤◌, eqb, length}
use Rattle.std.proofs.Common.{sym, ◌∙◌, arith, eqb-true, eq-eqb, ne_eqb}
use Rattle.std.proofs.lemmas.Bool.{eqb-false}
use Rattle.laws.specs.Pick.{pick}
use Rattle.laws.specs.Bools.{never, left, right}
use Rattle.laws.specs.Count.{count}
use Rattle.agreement.proofs.Maths.Counting.{count_mono}
use Rattle.agreement.proofs.Maths.Took.{one_more, none_there}
use Rattle.agreement.specs.Demand.{member}

-- a group has no more sites in a list than the list is long
pub member_few : (l : List ℕ) (n : ℕ) → count (λ i. member i l) n ≤ length l
member_few [] n = omega (arith, none_there n)
member_few (j ∷ l) n =
    omega (arith, member_few l n, one_more j (λ i. member i l) n, count_mono (λ i. member i (j ∷ l)) (λ i. eqb j i || member i l) (λ i h. turned i h) n)
  where
    turned : (i : ℕ) → (eqb i j || member i l) ≡ true → (eqb j i || member i l) ≡ true
    turned i h = go (eqb i j) refl h
      where
        go : (b : Bool) → eqb i j ≡ b → (b || member i l) ≡ true → (eqb j i || member i l) ≡ true
        go true e x = left (eqb j i) _ (eq-eqb j i (sym (eqb-true i j e)))
        go false e x = right (eqb j i) _ x

-- a site taken out of a list
pub without : ℕ → List ℕ → List ℕ
without i [] = []
without i (j ∷ l) = pick (eqb j i) (without i l) (j ∷ without i l)

pub without_few : (i : ℕ) (l : List ℕ) → length (without i l) ≤ length l
unfolding without pick
without_few i [] = omega arith
without_few i (j ∷ l) = go (eqb j i) (without_few i l)
  where
    go : (b : Bool) → length (without i l) ≤ length l → length (pick b (without i l) (j ∷ without i l)) ≤ suc (length l)
    go true e = omega arith
    go false e = omega arith

pub without_self : (i : ℕ) (l : List ℕ) → member i (without i l) ≡ false
unfolding without pick
without_self i [] = refl
without_self i (j ∷ l) = go (eqb j i) refl (without_self i l)
  where
    go : (b : Bool) → eqb j i ≡ b → member i (without i l) ≡ false → member i (pick b (without i l) (j ∷ without i l)) ≡ false
    go true e h = h
    go false e h = rw (ne_eqb i j (λ z. eqb-false j i e (sym z))) h

-- who is in the list and not the one taken out is in it still
pub without_other : (i x : ℕ) (l : List ℕ) → (x ≡ i → ⊥) → member x (without i l) ≡ false → member x l ≡ false
unfolding without pick
without_other i x [] ne h = refl
without_other i x (j ∷ l) ne h = go (eqb j i) refl h (without_other i x l ne)
  where
    go : (b : Bool) → eqb j i ≡ b → member x (pick b (without i l) (j ∷ without i l)) ≡ false → (member x (without i l) ≡ false → member x l ≡ false) → (eqb x j || member x l) ≡ false
    go true e h ih = rw (ne_eqb x j (λ z. ne (z ∙ eqb-true j i e))) (ih h)
    go false e h ih = split (eqb x j) refl h
      where
        split : (c : Bool) → eqb x j ≡ c → (c || member x (without i l)) ≡ false → (c || member x l) ≡ false
        split true y z = z
        split false y z = ih z

pub without_more : (i x : ℕ) (l : List ℕ) → member x l ≡ false → member x (without i l) ≡ false
unfolding without pick
without_more i x [] h = refl
without_more i x (j ∷ l) h = go (eqb j i) (eqb x j) refl h (without_more i x l)
  where
    go : (b c : Bool) → eqb x j ≡ c → (c || member x l) ≡ false → (member x l ≡ false → member x (without i l) ≡ false) → member x (pick b (without i l) (j ∷ without i l)) ≡ false
    go b true e h ih = never true h refl
    go true false e h ih = ih h
    go false false e h ih = rw e (ih h)
