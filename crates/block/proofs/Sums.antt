-- The sums of a block's end, one more with each turn.
use Rattle.std.proofs.Common.{◌≡◌, ℕ, zero, suc, ◌+◌, ◌<◌, ◌≤◌, List, [], ◌∷◌, ◌++◌, length, get_or, take, drop, set, sym, refl, ap, ◌∙◌, add-one, arith, get_or-drop, take-suc, take-suc-set, take_all, length-set, drop-drop, drop-set-lt}
use native.Mathlib.Numerals.{unary_clauses}
use Rattle.compression.specs.Compression.{plus, summed}
use Rattle.compression.proofs.Laws.Shape.{summed_length}

summed_at : (s t : List ℕ) (i : ℕ) → i < length s → i < length t → get_or (summed s t) i 0 ≡ plus (get_or s i 0) (get_or t i 0)
unfolding summed
summed_at [] t i p q = absurd (omega arith)
summed_at (x ∷ s) [] i p q = absurd (omega arith)
summed_at (x ∷ s) (y ∷ t) zero p q = refl
summed_at (x ∷ s) (y ∷ t) (suc i) p q = summed_at s t i (omega arith) (omega arith)

here : (l : List ℕ) (i : ℕ) → get_or (drop i l) 0 0 ≡ get_or l i 0
here l i = let e : get_or (drop i l) 0 0 ≡ get_or l (i + 0) 0 = get_or-drop i l 0 0 in simp unary_clauses at e

-- what is kept from turn to turn: the words before `i` are summed, the others are as they were
abbrev pub Summed : List ℕ → List ℕ → List ℕ → ℕ → Type 0
Summed s t w i = (length w ≡ 8) × ((take i w ≡ take i (summed s t)) × (drop i w ≡ drop i t))

pub turn : (s t w : List ℕ) (i v : ℕ) → length s ≡ 8 → length t ≡ 8 → i < 8 → v ≡ plus (get_or s i 0) (get_or w i 0) → Summed s t w i → Summed s t (set w i v) (i + 1)
turn s t w i v p q h v_is inv =
    let n : i < length w = omega (arith, inv.0) in
    let m : length (summed s t) ≡ length s = summed_length s t (omega arith) in
    let same : get_or w i 0 ≡ get_or t i 0 = sym (here w i) ∙ ap (λ (l : List ℕ). get_or l 0 0) inv.1.1 ∙ here t i in
    let sum : v ≡ get_or (summed s t) i 0 = v_is ∙ ap (plus (get_or s i 0)) same ∙ sym (summed_at s t i (omega arith) (omega arith)) in
    let front : take (suc i) (set w i v) ≡ take (suc i) (summed s t)
    = take-suc-set w i v n ∙ (λ k. inv.1.0 k ++ (sum k ∷ [])) ∙ sym (take-suc (summed s t) i 0 (omega arith)) in
    let back : drop (i + 1) (set w i v) ≡ drop (i + 1) t
    = drop-set-lt (i + 1) w i v (omega arith) ∙ sym (drop-drop 1 i w) ∙ ap (drop 1) inv.1.1 ∙ drop-drop 1 i t in
    (length-set w i v ∙ inv.0, (rw add-one front, back))

-- after the last turn all are summed
pub whole : (s t w : List ℕ) (i : ℕ) → length s ≡ 8 → length t ≡ 8 → 8 ≤ i → Summed s t w i → w ≡ summed s t
whole s t w i p q h inv =
    let m : length (summed s t) ≡ length s = summed_length s t (omega arith) in
    sym (take_all i w (omega (arith, inv.0))) ∙ inv.1.0 ∙ take_all i (summed s t) (omega arith)
