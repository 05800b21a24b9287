-- Counting stations: tests that take more, lists of distinct stations.
use Rattle.std.specs.Prelude.{◌≡◌, refl, Bool, true, false, not, ◌&&◌, List, [], ◌∷◌, ℕ, zero, suc, ◌+◌, ◌≤◌, ◌<◌, eqb, length}
use Rattle.std.proofs.Common.{arith, eqb-true, eq-eqb, ne_eqb}
use Rattle.std.proofs.lemmas.Bool.{eqb-false}
use Rattle.laws.specs.Bools.{never}
use Rattle.laws.specs.All.{All, all_map, all_two}
use Rattle.laws.specs.Count.{one_if, count}

-- a test that takes all that another takes counts no less
pub count_mono : (f g : ℕ → Bool) → ((i : ℕ) → f i ≡ true → g i ≡ true) → (n : ℕ) → count f n ≤ count g n
unfolding count
count_mono f g m zero = omega arith
count_mono f g m (suc n) = go (f (suc n)) (g (suc n)) (m (suc n)) (count_mono f g m n)
  where
    go : (x y : Bool) → (x ≡ true → y ≡ true) → count f n ≤ count g n → one_if x + count f n ≤ one_if y + count g n
    go true true k h = omega arith
    go true false k h = never false refl (k refl)
    go false true k h = omega arith
    go false false k h = omega arith

-- without x
abbrev pub but : (ℕ → Bool) → ℕ → ℕ → Bool
but f x i = f i && not (eqb i x)

but_below : (f : ℕ → Bool) (x n : ℕ) → n < x → count (but f x) n ≡ count f n
unfolding count
but_below f x zero h = refl
but_below f x (suc n) h = rw (ne_eqb (suc n) x (λ e. omega arith)) (go (f (suc n)) (but_below f x n (omega arith)))
  where
    go : (y : Bool) → count (but f x) n ≡ count f n → one_if (y && true) + count (but f x) n ≡ one_if y + count f n
    go true e = omega arith
    go false e = omega arith

-- taking out one of the counted takes one off the count
pub count_but : (f : ℕ → Bool) (x n : ℕ) → f x ≡ true → 1 ≤ x → x ≤ n → count f n ≡ suc (count (but f x) n)
unfolding count
count_but f x zero h p t = absurd (omega arith)
count_but f x (suc n) h p t = go (eqb (suc n) x) refl (λ k. count_but f x n h p k)
  where
    top : suc n ≡ x → one_if (f (suc n)) + count f n ≡ suc (one_if (but f x (suc n)) + count (but f x) n)
    top e = let k : f (suc n) ≡ true = rw e h in rw (but_below f x n (omega arith), eq-eqb (suc n) x e, k) (omega arith)

    low : (y : Bool) → count f n ≡ suc (count (but f x) n) → one_if y + count f n ≡ suc (one_if (y && true) + count (but f x) n)
    low true e = omega arith
    low false e = omega arith

    go : (y : Bool) → eqb (suc n) x ≡ y → (x ≤ n → count f n ≡ suc (count (but f x) n)) → one_if (f (suc n)) + count f n ≡ suc (one_if (but f x (suc n)) + count (but f x) n)
    go true e ih = top (eqb-true _ _ e)
    go false e ih = rw e (low (f (suc n)) (ih (omega (arith, eqb-false (suc n) x e))))

module _ {A : Type 0} (key : A → ℕ) where
  -- no two of the list have one key
  abbrev pub Dist : List A → Type 0
  Dist [] = Unit
  Dist (x ∷ xs) = All (λ y. key y ≡ key x → ⊥) xs × Dist xs

  -- keys rise from above lo
  abbrev pub Rise : ℕ → List A → Type 0
  Rise lo [] = Unit
  Rise lo (x ∷ xs) = (lo < key x) × Rise (key x) xs

  pub rise_above : (lo : ℕ) (xs : List A) → Rise lo xs → All (λ y. lo < key y) xs
  rise_above lo [] r = tt
  rise_above lo (x ∷ xs) r = (r.0, all_map (λ y h. omega arith) xs (rise_above (key x) xs r.1))

  pub rise_dist : (lo : ℕ) (xs : List A) → Rise lo xs → Dist xs
  rise_dist lo [] r = tt
  rise_dist lo (x ∷ xs) r = (all_map (λ y h e. omega arith) xs (rise_above (key x) xs r.1), rise_dist (key x) xs r.1)

  abbrev pub Fits : (ℕ → Bool) → ℕ → A → Type 0
  Fits f n y = (1 ≤ key y) × (key y ≤ n) × (f (key y) ≡ true)

  -- a list of distinct stations, all taken by f, is no longer than f's count
  pub dist_count : (n : ℕ) (xs : List A) (f : ℕ → Bool) → Dist xs → All (Fits f n) xs → length xs ≤ count f n
  dist_count n [] f d h = omega arith
  dist_count n (x ∷ xs) f d h = omega (arith, count_but f (key x) n h.0.2 h.0.0 h.0.1, dist_count n xs (but f (key x)) d.1 (all_map step xs (all_two (λ y. key y ≡ key x → ⊥) (Fits f n) xs d.0 h.1)))
    where
      step : (y : A) → (key y ≡ key x → ⊥) × Fits f n y → Fits (but f (key x)) n y
      step y k = (k.1.0, k.1.1, rw (k.1.2, ne_eqb (key y) (key x) k.0) refl)
