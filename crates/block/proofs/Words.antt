-- A word that a turn adds to the schedule is one step of `extended`.
use Rattle.std.proofs.Common.{◌≡◌, ℕ, zero, suc, ◌+◌, ◌-◌, ◌<◌, ◌≤◌, List, [], ◌∷◌, ◌++◌, length, get_or, take, set, sym, refl, ap, ◌∙◌, arith, length-append, length-take-le, take_all, get_or-take, take-suc-set}
use lib.ListN.{get_or-append}
use Rattle.compression.specs.Compression.{plus, σ0, σ1, next, extended}

module _ (w : List ℕ) (i v : ℕ) (high : i < 48) (long : length w ≡ 64) where
  next_is : next (take (i + 16) w) ≡ plus (plus (plus (σ1 (get_or w (i + 14) 0)) (get_or w (i + 9) 0)) (σ0 (get_or w (i + 1) 0))) (get_or w i 0)
  unfolding next
  next_is =
      let h : i + 16 ≤ length w = omega arith in
      let e : i + 16 - 2 ≡ i + 14 = omega arith in
      let f : i + 16 - 7 ≡ i + 9 = omega arith in
      let g : i + 16 - 15 ≡ i + 1 = omega arith in
      let k : i + 16 - 16 ≡ i = omega arith in
      let a : i + 14 < i + 16 = omega arith in
      let b : i + 9 < i + 16 = omega arith in
      let c : i + 1 < i + 16 = omega arith in
      let d : i < i + 16 = omega arith in
      rw (length-take-le (i + 16) w, e, f, g, k, get_or-take (i + 16) w (i + 14) 0, get_or-take (i + 16) w (i + 9) 0, get_or-take (i + 16) w (i + 1) 0, get_or-take (i + 16) w i 0)

  more : (m : ℕ) (ws : List ℕ) → extended (suc m) ws ≡ extended m (ws ++ (next ws ∷ []))
  unfolding extended
  more m ws = refl

  pub grow : v ≡ plus (plus (plus (σ1 (get_or w (i + 14) 0)) (get_or w (i + 9) 0)) (σ0 (get_or w (i + 1) 0))) (get_or w i 0)
      → extended (48 - (i + 1)) (take (i + 1 + 16) (set w (i + 16) v)) ≡ extended (48 - i) (take (i + 16) w)
  grow e =
      let h : i + 16 < length w = omega arith in
      let e1 : 48 - i ≡ suc (48 - (i + 1)) = omega arith in
      let e2 : i + 1 + 16 ≡ suc (i + 16) = omega arith in
      let e3 : take (i + 1 + 16) (set w (i + 16) v) ≡ take (i + 16) w ++ (v ∷ []) = rw (e2, take-suc-set w (i + 16) v) in
      cc (more (48 - (i + 1)) (take (i + 16) w), next_is, e1, e3)

pub full : (w : List ℕ) (i : ℕ) → 48 ≤ i → i ≤ 48 → length w ≡ 64 → extended (48 - i) (take (i + 16) w) ≡ w
unfolding extended
full w i p q long =
    let e : i ≡ 48 = omega arith in
    let h : length w ≤ 64 = omega arith in
    rw (e, take_all 64 w)

-- the words that are there already stay
kept : (n : ℕ) (ws : List ℕ) (j : ℕ) → j < length ws → get_or (extended n ws) j 0 ≡ get_or ws j 0
unfolding extended
kept zero ws j h = refl
kept (suc n) ws j h =
    let l : length (ws ++ (next ws ∷ [])) ≡ length ws + 1 = length-append ws (next ws ∷ []) in
    kept n (ws ++ (next ws ∷ [])) j (omega arith) ∙ get_or-append ws (next ws ∷ []) 0 j h

-- so the word that a round uses is the whole schedule's
pub word_of : (w r : List ℕ) (i : ℕ) → i < 48 → length w ≡ 64 → extended (48 - i) (take (i + 16) w) ≡ r → get_or w i 0 ≡ get_or r i 0
word_of w r i p long e =
    let l : length (take (i + 16) w) ≡ i + 16 = length-take-le (i + 16) w (omega arith) in
    let d : i < i + 16 = omega arith in
    sym (get_or-take (i + 16) w i 0 d) ∙ sym (kept (48 - i) (take (i + 16) w) i (omega arith)) ∙ ap (λ (l : List ℕ). get_or l i 0) e
