-- What follows from the definitions of specs/Over.antt.
use Rattle.std.specs.Prelude.{ℕ, suc, ◌+◌, ◌-◌, ◌≤◌, ◌<◌, List, [], ◌∷◌, ◌++◌, ◌≡◌, length, take, drop, get_or, set}
use Rattle.std.proofs.Common.{append_assoc, append-nil, sym, ap, ◌∙◌, zero-add, add-one, arith, length-append, length-drop, drop_of_length-le, get_or-append-add, get_or-drop, drop-drop, drop-cons, take_at, drop_at, take_all}
use Rattle.std.proofs.Math.ListN.{get_or-append}
use Rattle.std.proofs.Math.Seq.{paste, append_snoc, take-length}
use Rattle.std.proofs.lemmas.List.{set_at}
use borrow.Rule.Slice.PartMut.{put_mid}
use Rattle.laws.specs.Over.{over}

-- ---- word by word
-- in front: the words that are written
pub over_front : (ws out : List ℕ) (k : ℕ) → k < length ws → get_or (over ws out) k 0 ≡ get_or ws k 0
over_front ws out k h = get_or-append ws _ 0 k h

-- "words behind the bundle are untouched"
pub over_behind : (ws out : List ℕ) (k : ℕ) → length ws ≤ k → get_or (over ws out) k 0 ≡ get_or out k 0
over_behind ws out k h =
    let e : length ws + (k - length ws) ≡ k = omega arith in
    ap (λ (j : ℕ). get_or (over ws out) j 0) (sym e)
    ∙ get_or-append-add ws _ (k - length ws) 0
    ∙ get_or-drop (length ws) out (k - length ws) 0
    ∙ ap (λ (j : ℕ). get_or out j 0) e

pub length_over : (ws out : List ℕ) → length ws ≤ length out → length (over ws out) ≡ length out
length_over ws out h = simp (length-append, length-drop) (omega arith)

-- ---- a word more
-- a store at the end of what is written
pub over_snoc : (p : List ℕ) (w : ℕ) (out : List ℕ) (i : ℕ) → length p ≡ i → i < length out → set (over p out) i w ≡ over (p ++ (w ∷ [])) out
over_snoc p w out i e h =
    let d : drop (length p) out ≡ get_or out i 0 ∷ drop (suc i) out = ap (λ (k : ℕ). drop k out) e ∙ drop-cons out i 0 h in
    let l : length (p ++ (w ∷ [])) ≡ suc i = length-append p (w ∷ []) ∙ add-one (length p) ∙ ap suc e in
    rw (d, l, set_at p (get_or out i 0) (drop (suc i) out) w i e) (sym (append_snoc p w (drop (suc i) out)))

-- ---- a part more
-- words put in at the front
pub paste_front : (ws out : List ℕ) → paste out 0 ws (length ws) ≡ over ws out
paste_front ws out = rw (take-length ws, zero-add (length ws))

-- words put in after those that end at `at`
pub paste_behind : (p ws out : List ℕ) (at : ℕ) → length p ≡ at → paste (over p out) at ws (length ws) ≡ over (p ++ ws) out
paste_behind p ws out at e =
    let d : drop (at + length ws) (p ++ drop (length p) out) ≡ drop (length p + length ws) out
    = sym (drop-drop (length ws) at (p ++ drop (length p) out))
    ∙ ap (drop (length ws)) (drop_at p (drop (length p) out) at e)
    ∙ drop-drop (length ws) (length p) out in
    rw (take_at p (drop (length p) out) at e, take-length ws, d, length-append p ws)

-- a part from `at` on, written and put back, after words that end at `at`
part_behind : (p ws out : List ℕ) (at : ℕ) → length p ≡ at → take at (over p out) ++ over ws (drop at (over p out)) ≡ over (p ++ ws) out
part_behind p ws out at e =
    rw (take_at p (drop (length p) out) at e, drop_at p (drop (length p) out) at e, drop-drop, length-append)
    (sym (append_assoc p ws (drop (length p + length ws) out)))

-- what a part `&mut xs[at..]` that was lent leaves in the whole, where the callee wrote ws over its front
pub put_behind : (p ws out xs ys : List ℕ) (at k : ℕ) → xs ≡ over p out → length p ≡ at → k ≡ length xs - at → ys ≡ over ws (take k (drop at xs))
    → put_mid at k xs ys ≡ over (p ++ ws) out
put_behind p ws out xs ys at k x e kk y =
    let l : length (drop at xs) ≤ k = rw length-drop (omega arith) in
    let t : take k (drop at xs) ≡ drop at xs = take_all k (drop at xs) l in
    let d : drop k (drop at xs) ≡ [] = drop_of_length-le (drop at xs) l in
    rw (d, append-nil ys, y, t, x) (part_behind p ws out at e)
