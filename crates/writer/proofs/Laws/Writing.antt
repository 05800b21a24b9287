-- Laws of writing: a loop that writes word by word, a segment that is lent from the middle on, and the words of the set's slots one by one.
use Prim.Native.Nat.{ℕ, zero, suc, ◌+◌, ◌*◌, ◌-◌, ◌/◌, ◌%◌, ◌^◌, ◌≤◌, ◌<◌}
use Rattle.std.specs.Prelude.{◌≡◌, Bool, not, ◌&&◌, ltb, leb, length, take, drop, set, get_or, replicate}
use Rattle.std.proofs.Math.Path.{refl}
use Rattle.std.proofs.Common.{sym, ap, ◌∙◌, length-append, length-set, length-drop, get_or-drop, pow_pos, take-suc, eqb-true, ltb-true, leb-true, mod-lt, mod-eq_of_lt, add-zero, zero-add, add-one, one-add}
use Rattle.std.proofs.Math.Bool.{true, false}
use mathlib.Core.List.{List, [], ◌∷◌, ◌++◌, append_assoc, append-nil}
use Rattle.std.specs.Int.Count.{ones, ones-ones}
use Rattle.std.proofs.lemmas.Nat.{ones_cat, mod-pow-add}
use Rattle.std.proofs.Math.Seq.{paste, take-length}
use borrow.Rule.Slice.PartMut.{put_mid}
use Rattle.std.proofs.lemmas.Bool.{eqb-false}
use native.Mathlib.Omega.{arith}
use Rattle.laws.specs.Pick.{pick, here, skip}
use Rattle.laws.specs.Bools.{both, never}
use Rattle.laws.specs.Sets.{bit}
use Rattle.laws.specs.Over.{over}
use Rattle.laws.proofs.Over.{over_snoc, put_behind, paste_behind}
use Rattle.std.proofs.lemmas.Slice.{put_mid-paste}
use Rattle.format.specs.Group.{quorum}
use Rattle.format.specs.Numbers.{code_words, head_mark, mark_bit}
use Rattle.format.specs.Present.{bundle_words, most_statements, output_words, place_of, statement_words}
use Rattle.station.specs.Present.{sites}
use Rattle.writer.specs.Written.{segment, held_words, main_words, words_of, writable, lent_after, count_after, with_word, copyable, copy_after, copy_count}

-- ---- a segment of a list
pub length_part : (n at : ℕ) (l : List ℕ) → length (segment n at l) ≡ n
unfolding segment
length_part zero at l = refl
length_part (suc n) at l = length-append (segment n at l) _ ∙ add-one (length (segment n at l)) ∙ ap suc (length_part n at l)

pub part_begin : (at : ℕ) (l out : List ℕ) → out ≡ over (segment 0 at l) out
unfolding segment
part_begin at l out = refl

pub part_turn : (i at : ℕ) (l out : List ℕ) → i < length out → set (over (segment i at l) out) i (get_or l (at + i) 0) ≡ over (segment (i + 1) at l) out
unfolding segment
part_turn i at l out h = rw (add-one i) (over_snoc (segment i at l) (get_or l (at + i) 0) out i (length_part i at l) h)

-- where the list has them all, it is a part of the list
part_of : (n at : ℕ) (l : List ℕ) → at + n ≤ length l → segment n at l ≡ take n (drop at l)
unfolding segment
part_of zero at l h = refl
part_of (suc n) at l h =
    let few : n < length (drop at l) = rw length-drop (omega arith) in
    ap (λ (x : List ℕ). x ++ (get_or l (at + n) 0 ∷ [])) (part_of n at l (omega arith))
    ∙ ap (λ (w : ℕ). take n (drop at l) ++ (w ∷ [])) (sym (get_or-drop at l n 0))
    ∙ sym (take-suc (drop at l) n 0 few)

-- the part of the list that a copy reads
pub part_read : (n at : ℕ) (l ys : List ℕ) → at + n ≤ length l → ys ≡ take (at + n - at) (drop at l) → ys ≡ segment n at l
part_read n at l ys h y =
    let e : at + n - at ≡ n = omega arith in
    (rw e at y) ∙ sym (part_of n at l h)

-- a part copied behind those that end at `at`
pub part_put : (p ws out xs ys : List ℕ) (at n : ℕ) → xs ≡ over p out → length p ≡ at → ys ≡ ws → length ws ≡ n → put_mid at (at + n - at) xs ys ≡ over (p ++ ws) out
part_put p ws out xs ys at n x e y l =
    let k : length ws ≡ at + n - at = omega arith in
    put_mid-paste at (at + n - at) xs ys ws (length ws) y k refl ∙ ap (λ (z : List ℕ). paste z at ws (length ws)) x ∙ paste_behind p ws out at e

-- a whole list
part_front : (l : List ℕ) (k : ℕ) → k ≤ length l → segment k 0 l ≡ take k l
unfolding segment
part_front l zero h = refl
part_front l (suc k) h = ap (λ (x : List ℕ). x ++ (get_or l (0 + k) 0 ∷ [])) (part_front l k (omega arith)) ∙ rw (zero-add k) (sym (take-suc l k 0 (omega arith)))

-- the front of a list, copied to the front
pub front_copied : (n : ℕ) (l out ys : List ℕ) → n ≤ length l → ys ≡ take n l → ys ++ drop n out ≡ over (segment n 0 l) out
front_copied n l out ys h y =
    ap (λ (x : List ℕ). x ++ drop n out) (y ∙ sym (part_front l n h)) ∙ ap (λ (k : ℕ). segment n 0 l ++ drop k out) (sym (length_part n 0 l))

part_all : (l : List ℕ) → segment (length l) 0 l ≡ l
part_all l = part_front l (length l) (omega arith) ∙ take-length l

-- ---- the slots of a set
module _ (h : ℕ) (slots : List ℕ) where
  -- one slot more, at the end
  held_snoc : (k i : ℕ) → held_words h slots i (suc k) ≡ held_words h slots i k ++ pick (bit h (i + k)) (segment statement_words ((i + k) * statement_words) slots) []
  unfolding held_words pick
  held_snoc zero i = rw (add-zero i) (go (bit h i))
    where
      go : (b : Bool) → pick b (segment statement_words (i * statement_words) slots ++ []) [] ≡ [] ++ pick b (segment statement_words (i * statement_words) slots) []
      go true = append-nil _
      go false = refl
  held_snoc (suc k) i =
      let e : i + suc k ≡ suc i + k = omega arith in
      rw e (go (bit h i) (held_snoc k (suc i)))
    where
      go : (b : Bool) → held_words h slots (suc i) (suc k) ≡ held_words h slots (suc i) k ++ pick (bit h (suc i + k)) (segment statement_words ((suc i + k) * statement_words) slots) []
          → pick b (segment statement_words (i * statement_words) slots ++ held_words h slots (suc i) (suc k)) (held_words h slots (suc i) (suc k))
          ≡ pick b (segment statement_words (i * statement_words) slots ++ held_words h slots (suc i) k) (held_words h slots (suc i) k) ++ pick (bit h (suc i + k)) (segment statement_words ((suc i + k) * statement_words) slots) []
      go true ih = rw ih (sym (append_assoc (segment 10 (i * 10) slots) (held_words h slots (suc i) k) _))
      go false ih = ih

  pub held_in_turn : (k : ℕ) → bit h k ≡ true → held_words h slots 0 (k + 1) ≡ held_words h slots 0 k ++ segment statement_words (k * statement_words) slots
  held_in_turn k e =
      let z : 0 + k ≡ k = omega arith in
      rw (add-one k) ((rw z at (held_snoc k 0)) ∙ ap (λ (x : List ℕ). held_words h slots 0 k ++ x) (sym (here (bit h k) _ _ e)))

  pub held_out_turn : (k : ℕ) → bit h k ≡ false → held_words h slots 0 (k + 1) ≡ held_words h slots 0 k
  held_out_turn k e =
      let z : 0 + k ≡ k = omega arith in
      rw (add-one k)
      ((rw z at (held_snoc k 0)) ∙ ap (λ (x : List ℕ). held_words h slots 0 k ++ x) (sym (skip (bit h k) _ [] [] e refl)) ∙ append-nil (held_words h slots 0 k))

  pub held_longer : (k at : ℕ) → bit h k ≡ true → at ≡ length (held_words h slots 0 k) → at + statement_words ≡ length (held_words h slots 0 (k + 1))
  held_longer k at e l =
      sym (ap length (held_in_turn k e) ∙ length-append (held_words h slots 0 k) (segment 10 (k * 10) slots) ∙ omega (arith, length_part 10 (k * 10) slots))

  pub held_begin : (out : List ℕ) → (0 ≡ length (held_words h slots 0 0)) × (out ≡ over (held_words h slots 0 0) out)
  unfolding held_words
  held_begin out = (refl, refl)

-- ---- as many statements as the set has numbers
digit_more : (h k : ℕ) → ones (h % 2 ^ suc k) ≡ ones (h / 2 ^ k % 2) + ones (h % 2 ^ k)
digit_more h k =
    let m : h % 2 ^ (1 + k) ≡ (h / 2 ^ k % 2) * 2 ^ k + h % 2 ^ k = mod-pow-add h 1 k in
    let e : h % 2 ^ suc k ≡ (h / 2 ^ k % 2) * 2 ^ k + h % 2 ^ k = rw (one-add k) at m in
    ap ones e ∙ ones_cat k (h / 2 ^ k % 2) (h % 2 ^ k) (mod-lt h (pow_pos k))

slot_ones : (h k : ℕ) (l : List ℕ) (b : Bool) → bit h k ≡ b → length (pick (bit h k) (segment statement_words (k * statement_words) l) []) ≡ ones (h / 2 ^ k % 2) * statement_words
slot_ones h k l true e =
    let d : h / 2 ^ k % 2 ≡ 1 = eqb-true (h / 2 ^ k % 2) 1 e in
    ap length (sym (here (bit h k) (segment 10 (k * 10) l) [] e)) ∙ length_part 10 (k * 10) l ∙ rw d (omega (arith, ones-ones 1))
slot_ones h k l false e =
    let d : h / 2 ^ k % 2 ≡ 0 = omega (arith, eqb-false (h / 2 ^ k % 2) 1 e) in
    ap length (sym (skip (bit h k) (segment 10 (k * 10) l) [] [] e refl)) ∙ rw d (omega (arith, ones-ones 0))

held_ones : (h : ℕ) (l : List ℕ) (k : ℕ) → length (held_words h l 0 k) ≡ ones (h % 2 ^ k) * statement_words
unfolding held_words
held_ones h l zero =
    let z : h % 2 ^ 0 ≡ 0 = omega (arith, mod-lt h (pow_pos 0)) in
    rw z (omega (arith, ones-ones 0))
held_ones h l (suc k) =
    let z : 0 + k ≡ k = omega arith in
    ap length (rw z at (held_snoc h l k 0))
    ∙ length-append (held_words h l 0 k) (pick (bit h k) (segment 10 (k * 10) l) [])
    ∙ omega (arith, held_ones h l k, slot_ones h k l (bit h k) refl, digit_more h k)

pub held_length : (h : ℕ) (l : List ℕ) → h < 2 ^ sites → length (held_words h l 0 sites) ≡ ones h * statement_words
held_length h l low = held_ones h l sites ∙ ap (λ (x : ℕ). ones x * 10) (mod-eq_of_lt low)

-- ---- the main statement
pub main_begin : (count w0 question : ℕ) (out : List ℕ) → place_of 1 ≤ length out
    → set (set (set out 0 (head_mark * 2 ^ mark_bit + count)) 1 w0) 2 question ≡ over ((head_mark * 2 ^ mark_bit + count) ∷ w0 ∷ question ∷ []) out
main_begin count w0 question out h =
    let head : ℕ = 3 * 2 ^ 30 + count in
    ap (λ (x : List ℕ). set (set x 1 w0) 2 question) (over_snoc [] head out 0 refl (omega arith))
    ∙ ap (λ (x : List ℕ). set x 2 question) (over_snoc (head ∷ []) w0 out 1 refl (omega arith))
    ∙ over_snoc (head ∷ w0 ∷ []) question out 2 refl (omega arith)

pub main_done : (count w0 question : ℕ) (out ys : List ℕ) (k : ℕ) → place_of 1 ≤ length out
    → k ≡ length (set (set (set out 0 (head_mark * 2 ^ mark_bit + count)) 1 w0) 2 question) - 3
    → ys ≡ over (segment code_words 0 (replicate code_words 0)) (take k (drop 3 (set (set (set out 0 (head_mark * 2 ^ mark_bit + count)) 1 w0) 2 question)))
    → put_mid 3 k (set (set (set out 0 (head_mark * 2 ^ mark_bit + count)) 1 w0) 2 question) ys ≡ over (main_words count w0 question) out
unfolding main_words segment
main_done count w0 question out ys k h kk y =
    put_behind ((3 * 2 ^ 30 + count) ∷ w0 ∷ question ∷ []) (replicate 8 0) out (set (set (set out 0 (3 * 2 ^ 30 + count)) 1 w0) 2 question) ys 3 k
    (main_begin count w0 question out h) refl kk y

-- three words stored, and zeros behind them
pub main_put : (count w0 question : ℕ) (out ys : List ℕ) → place_of 1 ≤ length out → ys ≡ replicate code_words 0
    → put_mid 3 code_words (set (set (set out 0 (head_mark * 2 ^ mark_bit + count)) 1 w0) 2 question) ys ≡ over (main_words count w0 question) out
unfolding main_words
main_put count w0 question out ys h y =
    part_put ((head_mark * 2 ^ mark_bit + count) ∷ w0 ∷ question ∷ []) (replicate code_words 0) out
    (set (set (set out 0 (head_mark * 2 ^ mark_bit + count)) 1 w0) 2 question) ys 3 code_words (main_begin count w0 question out h) refl y refl

pub length_main : (count w0 question : ℕ) → length (main_words count w0 question) ≡ place_of 1
unfolding main_words
length_main count w0 question = refl

-- ---- three parts, each behind the one before
pub parts_done : (p h g out xs ys zs : List ℕ) (at n m : ℕ) → xs ≡ over p out → length p ≡ place_of 1 → place_of 1 + length h ≡ at → at ≤ length out
    → n ≡ length xs - place_of 1 → ys ≡ over h (take n (drop (place_of 1) xs))
    → m ≡ length (put_mid (place_of 1) n xs ys) - at → zs ≡ over g (take m (drop at (put_mid (place_of 1) n xs ys)))
    → put_mid at m (put_mid (place_of 1) n xs ys) zs ≡ over (p ++ h ++ g) out
parts_done p h g out xs ys zs at n m x lp lh room nn y mm z =
    put_behind (p ++ h) g out (put_mid 11 n xs ys) zs at m
    (put_behind p h out xs ys 11 n x lp nn y)
    (length-append p h ∙ omega arith) mm z

-- ---- what a branch by the opposite of a call's result found
pub not_is_true : (r b : Bool) → r ≡ b → not r ≡ true → b ≡ false
not_is_true true b e n = never false refl n
not_is_true false b e n = sym e

pub not_is_false : (r b : Bool) → r ≡ b → not r ≡ false → b ≡ true
not_is_false true b e n = sym e
not_is_false false b e n = never true n refl

-- ---- whether a bundle can be written, and what the call then leaves
pub writable_out : (lent h count k : ℕ) → writable lent h count k ≡ true → (output_words ≤ lent) × (h < 2 ^ sites) × (k ≤ quorum sites) × (count + k ≤ most_statements)
unfolding writable
writable_out lent h count k e =
    let a = both (leb 331 lent && ltb h (2 ^ sites) && leb k 16) _ e in
    let b = both (leb 331 lent && ltb h (2 ^ sites)) _ a.0 in
    let d = both (leb 331 lent) _ b.0 in
    (leb-true 331 lent d.0, ltb-true h (2 ^ sites) d.1, leb-true k 16 b.1, leb-true (count + k) 32 a.1)

module _ (w0 question : ℕ) (slots : List ℕ) (h : ℕ) (group : List ℕ) (k : ℕ) (out : List ℕ) (count : ℕ) (n : count ≡ ones h) where
  pub not_written : writable (length out) h count k ≡ false
      → (0 ≡ count_after (length out) h k) × (out ≡ lent_after w0 question slots h group k out)
  unfolding count_after lent_after
  not_written e =
      let f : writable (length out) h (ones h) k ≡ false = rw n at e in
      (skip _ _ _ _ f refl, skip _ _ _ _ f refl)

  pub is_written : writable (length out) h count k ≡ true
      → (bundle_words (count + k) ≡ count_after (length out) h k)
      × (over (words_of w0 question slots h group k) out ≡ lent_after w0 question slots h group k out)
  unfolding count_after lent_after
  is_written e =
      let f : writable (length out) h (ones h) k ≡ true = rw n at e in
      (ap (λ (x : ℕ). bundle_words (x + k)) n ∙ here _ _ _ f, here _ _ _ f)

-- ---- a given bundle, copied
set_front : (ws r : List ℕ) (i w : ℕ) → i < length ws → set (ws ++ r) i w ≡ set ws i w ++ r
set_front [] r i w h = absurd (omega arith)
set_front (x ∷ ws) r zero w h = refl
set_front (x ∷ ws) r (suc i) w h = ap (λ (l : List ℕ). x ∷ l) (set_front ws r i w (omega arith))

pub copied : (w0 : ℕ) (ws out xs : List ℕ) → (leb (place_of 1) (length ws) && leb (length ws) (length out)) ≡ true → xs ≡ over (segment (length ws) 0 ws) out
    → (length ws ≡ copy_count (length ws) (length out)) × (set xs 1 w0 ≡ copy_after w0 ws out)
unfolding copy_count copy_after copyable pick with_word
copied w0 ws out xs fit e =
    let long : 11 ≤ length ws = leb-true 11 (length ws) (both (leb 11 (length ws)) _ fit).0 in
    let all : xs ≡ ws ++ drop (length ws) out = e ∙ ap (λ (l : List ℕ). l ++ drop (length l) out) (part_all ws) in
    let put : set xs 1 w0 ≡ set ws 1 w0 ++ drop (length (set ws 1 w0)) out
    = ap (λ (l : List ℕ). set l 1 w0) all ∙ set_front ws (drop (length ws) out) 1 w0 (omega arith) ∙ ap (λ (k : ℕ). set ws 1 w0 ++ drop k out) (sym (length-set ws 1 w0)) in
    (rw fit, rw fit put)

pub not_copied : (w0 : ℕ) (ws out : List ℕ) → (leb (place_of 1) (length ws) && leb (length ws) (length out)) ≡ false
    → (0 ≡ copy_count (length ws) (length out)) × (out ≡ copy_after w0 ws out)
unfolding copy_count copy_after copyable pick
not_copied w0 ws out fit = (rw fit, rw fit)
