-- The parts of the law: the set, the slots and the groups of a station with one bundle more, each by itself.
use Rattle.std.specs.Prelude.{ℕ, zero, suc, ◌+◌, ◌-◌, ◌*◌, ◌^◌, ◌≤◌, ◌<◌, Bool, ◌&&◌, ◌||◌, ◌≡◌, length, get_or, take, drop}
use Rattle.std.proofs.Math.Bool.{true, false, not}
use mathlib.Core.List.{List, [], ◌∷◌, ◌++◌, append_assoc}
use Rattle.std.proofs.Math.Path.{refl, sym}
use Rattle.std.proofs.Common.{ap, ◌∙◌, arith, length-drop, take-append-drop, drop_at, take_at, drop-drop, length-take-le}
use Rattle.std.proofs.Math.Decide.{dec_lt}
use Rattle.std.proofs.Math.Dec.{eqb, ltb}
use Rattle.std.proofs.Math.Pow.{pow_pos, pow-lt}
use Rattle.std.proofs.Math.Seq.{paste}
use Rattle.std.proofs.lemmas.List.{drop-append-le, take-append-le}
use Rattle.std.proofs.lemmas.List.Edits.{drop-paste}
use borrow.Author.Tests.{eqb-true, eqb-false, eq-eqb, ne_eqb, lt-ltb, le-ltb, ltb-true, ltb-false}
use Rattle.laws.specs.Pick.{pick}
use Rattle.laws.specs.Bools.{never, both, join}
use Rattle.format.specs.Form.{present_form}
use Rattle.format.specs.Group.{quorum}
use Rattle.format.specs.Words.{fields_of}
use Rattle.format.specs.Statement.{Statement}
use Rattle.format.specs.Lists.{some, those}
use Rattle.format.proofs.Laws.Parts.{parts_take, parts_length}
use Rattle.format.specs.Present.{place_of, statement_words, formed, statements, written, all_formed, all_written}
use Rattle.laws.specs.Least.{least, least_fits}
use Rattle.rules.specs.Rules.{Rising}
use Rattle.station.specs.Machine.{insert, held_of, takes}
use Rattle.station.specs.Words.{set_of}
use Rattle.station.specs.Present.{slot_of, group_words, sites, slots_words, kept_words}
use Rattle.laws.specs.Below.{Below}
use Rattle.keeping.proofs.Laws.Back.{all_back}
use Rattle.keeping.specs.Kept.{words_kept, group_from}

-- ---- the set
pub set_insert : (m : Statement) (h : List Statement) → set_of (insert m h) ≡ set_of h + 2 ^ (m.station - 1)
unfolding set_of insert pick
set_insert m [] = refl
set_insert m (s ∷ h) = go (ltb m.station s.station) (set_insert m h)
  where
    go : (b : Bool) → set_of (insert m h) ≡ set_of h + 2 ^ (m.station - 1)
        → set_of (pick b (m ∷ s ∷ h) (s ∷ insert m h)) ≡ set_of h + 2 ^ (s.station - 1) + 2 ^ (m.station - 1)
    go true ih = refl
    go false ih = omega arith

-- ---- the slots
pub slot_insert : (m : Statement) (i : ℕ) (h : List Statement) → held_of m.station h ≡ false → slot_of (insert m h) i ≡ pick (eqb m.station i) (written m) (slot_of h i)
unfolding Rattle.station.specs.Words.slot_of insert some pick
slot_insert m i [] e = refl
slot_insert m i (s ∷ h) e = go (ltb m.station s.station) (eqb s.station m.station) refl e (slot_insert m i h)
  where
    -- two tests of which at most one holds
    swap : (x y : Bool) (a b c : List ℕ) → ((x && y) ≡ true → ⊥) → pick x a (pick y b c) ≡ pick y b (pick x a c)
    swap true true a b c n = absurd (n refl)
    swap true false a b c n = refl
    swap false true a b c n = refl
    swap false false a b c n = refl

    go : (b c : Bool) → eqb s.station m.station ≡ c → (c || held_of m.station h) ≡ false
        → (held_of m.station h ≡ false → slot_of (insert m h) i ≡ pick (eqb m.station i) (written m) (slot_of h i))
        → slot_of (pick b (m ∷ s ∷ h) (s ∷ insert m h)) i ≡ pick (eqb m.station i) (written m) (pick (eqb s.station i) (written s) (slot_of h i))
    go b true x u ih = never true u refl
    go true false x u ih = refl
    go false false x u ih =
        ap (pick (eqb s.station i) (written s)) (ih u)
        ∙ swap (eqb s.station i) (eqb m.station i) (written s) (written m) (slot_of h i)
        (λ z. let b = both (eqb s.station i) _ z in eqb-false s.station m.station x (omega (arith, eqb-true s.station i b.0, eqb-true m.station i b.1)))

-- ten words of a list that lie in its front do not depend on what is behind the front
front_part : (a x y : List ℕ) (k : ℕ) → k + statement_words ≤ length a → take statement_words (drop k (a ++ x)) ≡ take statement_words (drop k (a ++ y))
front_part a x y k h =
    let l : statement_words ≤ length (drop k a) = rw length-drop (omega arith) in
    let one : (z : List ℕ) → take statement_words (drop k (a ++ z)) ≡ take statement_words (drop k a)
    = λ z. ap (take statement_words) (drop-append-le k a z (omega arith)) ∙ take-append-le statement_words (drop k a) z l in
    one x ∙ sym (one y)

-- slot j of the slots with ten words put into slot i
pub put_slot : (d w : List ℕ) (i j : ℕ) → length d ≡ slots_words → statement_words ≤ length w → i < sites → j < sites
    → take statement_words (drop (j * statement_words) (paste d (i * statement_words) w statement_words)) ≡ pick (eqb i j) (take statement_words w) (take statement_words (drop (j * statement_words) d))
unfolding pick
put_slot d w i j long ten p q = go (eqb i j) refl
  where
    front : length (take (i * statement_words) d) ≡ i * statement_words
    front = length-take-le (i * statement_words) d (omega arith)

    together : paste d (i * statement_words) w statement_words ≡ take (i * statement_words) d ++ (take statement_words w ++ drop (i * statement_words + statement_words) d)
    together = append_assoc (take (i * statement_words) d) (take statement_words w) (drop (i * statement_words + statement_words) d)

    same : take statement_words (drop (i * statement_words) (paste d (i * statement_words) w statement_words)) ≡ take statement_words w
    same =
        ap (λ (l : List ℕ). take statement_words (drop (i * statement_words) l)) together
        ∙ ap (take statement_words) (drop_at (take (i * statement_words) d) (take statement_words w ++ drop (i * statement_words + statement_words) d) (i * statement_words) front)
        ∙ take_at (take statement_words w) (drop (i * statement_words + statement_words) d) statement_words (length-take-le statement_words w ten)

    before : j < i → take statement_words (drop (j * statement_words) (paste d (i * statement_words) w statement_words)) ≡ take statement_words (drop (j * statement_words) d)
    before l =
        ap (λ (x : List ℕ). take statement_words (drop (j * statement_words) x)) together
        ∙ front_part (take (i * statement_words) d) (take statement_words w ++ drop (i * statement_words + statement_words) d) (drop (i * statement_words) d) (j * statement_words) (omega (arith, front))
        ∙ ap (λ (x : List ℕ). take statement_words (drop (j * statement_words) x)) (take-append-drop (i * statement_words) d)

    behind : i < j → take statement_words (drop (j * statement_words) (paste d (i * statement_words) w statement_words)) ≡ take statement_words (drop (j * statement_words) d)
    behind l =
        let r : ℕ = j * statement_words - (i * statement_words + statement_words) in
        let e : j * statement_words ≡ i * statement_words + statement_words + (j * statement_words - (i * statement_words + statement_words)) = omega arith in
        let at : (x : List ℕ) → drop (j * statement_words) x ≡ drop r (drop (i * statement_words + statement_words) x) = λ x. ap (λ (k : ℕ). drop k x) e ∙ sym (drop-drop r (i * statement_words + statement_words) x) in
        ap (take statement_words) (at (paste d (i * statement_words) w statement_words) ∙ ap (drop r) (drop-paste d (i * statement_words) w statement_words (omega arith) ten) ∙ sym (at d))

    go : (b : Bool) → eqb i j ≡ b → take statement_words (drop (j * statement_words) (paste d (i * statement_words) w statement_words)) ≡ pick b (take statement_words w) (take statement_words (drop (j * statement_words) d))
    go true e = let z : j ≡ i = sym (eqb-true i j e) in rw z same
    go false e = apart (ltb j i) refl
      where
        apart : (c : Bool) → ltb j i ≡ c → take statement_words (drop (j * statement_words) (paste d (i * statement_words) w statement_words)) ≡ take statement_words (drop (j * statement_words) d)
        apart true x = before (ltb-true j i x)
        apart false x = behind (omega (arith, ltb-false j i x, eqb-false i j e))

-- ---- the groups
formed_few : (n : ℕ) (ws : List ℕ) (k c at : ℕ) → k ≤ c → all_formed n ws at c ≡ true → all_formed n ws at k ≡ true
unfolding Rattle.format.specs.Bundle.all_formed
formed_few n ws zero c at l h = refl
formed_few n ws (suc k) zero at l h = absurd (omega arith)
formed_few n ws (suc k) (suc c) at l h =
    let b = both (formed n (fields_of (get_or ws at 0))) _ h in
    join (formed n (fields_of (get_or ws at 0))) _ b.0 (formed_few n ws k c (at + statement_words) (omega arith) b.1)

least_ten : (a b : ℕ) → least (a * statement_words) (b * statement_words) ≡ least a b * statement_words
unfolding least pick
least_ten a b = go (ltb (a * statement_words) (b * statement_words)) refl (ltb a b) refl
  where
    go : (x : Bool) → ltb (a * statement_words) (b * statement_words) ≡ x → (y : Bool) → ltb a b ≡ y → pick x (a * statement_words) (b * statement_words) ≡ pick y a b * statement_words
    go true e true f = refl
    go true e false f = absurd (omega (arith, ltb-true (a * statement_words) (b * statement_words) e, ltb-false a b f))
    go false e true f = absurd (omega (arith, ltb-false (a * statement_words) (b * statement_words) e, ltb-true a b f))
    go false e false f = refl

least_room : (a b : ℕ) → a ≤ b → least a b ≡ a
unfolding least pick
least_room a b l = go (ltb a b) refl
  where
    go : (x : Bool) → ltb a b ≡ x → pick x a b ≡ a
    go true e = refl
    go false e = omega (arith, ltb-false a b e)

-- the words kept of a bundle with c certificate statements are those of the first q of them
pub group_kept : (n q c : ℕ) (ws : List ℕ) → Below ws → q ≤ quorum sites → length ws ≡ place_of 1 + c * statement_words → all_formed n ws (place_of 1) c ≡ true
    → group_from q ws ≡ group_words (take q (statements ws (place_of 1) c))
unfolding group_from words_kept
group_kept n q c ws low few long f =
    let in_c : least q c ≤ c = least_fits q c in
    let l : length ws - place_of 1 ≡ c * statement_words = omega arith in
    let e : least (least (q * statement_words) kept_words) (length ws - place_of 1) ≡ least q c * statement_words
    = rw (least_room (q * statement_words) kept_words (omega arith), l) (least_ten q c) in
    let w : all_written (statements ws (place_of 1) (least q c)) ≡ take (least q c * statement_words) (drop (place_of 1) ws)
    = all_back n ws low (least q c) (place_of 1) (omega arith) (formed_few n ws (least q c) c (place_of 1) in_c f) in
    rw (e, parts_take present_form ws (place_of 1) q c, parts_length present_form ws (place_of 1) (least q c), w)

-- ---- whose certificate is kept: that of the lowest-numbered station of those that supply it
module _ (p : Statement → Bool) (m : Statement) (low : 1 ≤ m.station) where
  -- the set of the first statement that the test takes is that of m's station
  abbrev first_is : List Statement → Bool
  first_is l = eqb (set_of (take 1 (those p l))) (0 + 2 ^ (m.station - 1))

  other : (s : Statement) → 1 ≤ s.station → (s.station ≡ m.station → ⊥) → eqb (0 + 2 ^ (s.station - 1)) (0 + 2 ^ (m.station - 1)) ≡ false
  other s l ne = ne_eqb (0 + 2 ^ (s.station - 1)) (0 + 2 ^ (m.station - 1)) (λ e. go (dec_lt (s.station - 1) (m.station - 1)) e)
    where
      go : Dec (s.station - 1 < m.station - 1) → 0 + 2 ^ (s.station - 1) ≡ 0 + 2 ^ (m.station - 1) → ⊥
      go (yes h) e = omega (arith, pow-lt h)
      go (no h) e = let b : m.station - 1 < s.station - 1 = omega (arith, ne, h, l, low) in omega (arith, pow-lt b)

  -- behind m's station there is none of m's, and none that is lower
  first_above : (a : ℕ) (l : List Statement) → Rising a l → m.station ≤ a → first_is l ≡ false
  unfolding those pick set_of
  first_above a [] r h = ne_eqb 0 (0 + 2 ^ (m.station - 1)) (λ e. omega (arith, pow_pos (m.station - 1)))
  first_above a (s ∷ l) r h = go (p s) (first_above s.station l r.1 (omega (arith, r.0)))
    where
      go : (b : Bool) → first_is l ≡ false → eqb (set_of (take 1 (pick b (s ∷ those p l) (those p l)))) (0 + 2 ^ (m.station - 1)) ≡ false
      go true ih = other s (omega (arith, r.0, low)) (λ e. omega (arith, r.0))
      go false ih = ih

  abbrev lower : List Statement → Bool
  lower l = some (λ s. p s && ltb s.station m.station) l

  lower_above : (a : ℕ) (l : List Statement) → Rising a l → m.station ≤ a → lower l ≡ false
  unfolding some
  lower_above a [] r h = refl
  lower_above a (s ∷ l) r h =
      let n : ltb s.station m.station ≡ false = le-ltb s.station m.station (omega (arith, r.0)) in
      rw n (go (p s) (lower_above s.station l r.1 (omega (arith, r.0))))
    where
      go : (b : Bool) → lower l ≡ false → ((b && false) || lower l) ≡ false
      go true ih = ih
      go false ih = ih

  pub first_inserted : (a : ℕ) (h : List Statement) → Rising a h → held_of m.station h ≡ false → first_is (insert m h) ≡ takes p h m
  unfolding insert those pick set_of some
  first_inserted a [] r e = go (p m)
    where
      go : (b : Bool) → eqb (set_of (take 1 (pick b (m ∷ []) []))) (0 + 2 ^ (m.station - 1)) ≡ (b && true)
      go true = eq-eqb (0 + 2 ^ (m.station - 1)) (0 + 2 ^ (m.station - 1)) refl
      go false = ne_eqb 0 (0 + 2 ^ (m.station - 1)) (λ e. omega (arith, pow_pos (m.station - 1)))
  first_inserted a (s ∷ h) r e =
      go (eqb s.station m.station) refl e (ltb m.station s.station) refl (first_inserted s.station h r.1)
    where
      before : (b : Bool) → m.station < s.station → eqb (set_of (take 1 (pick b (m ∷ those p (s ∷ h)) (those p (s ∷ h))))) (0 + 2 ^ (m.station - 1)) ≡ (b && not (lower (s ∷ h)))
      before true l =
          let n : lower (s ∷ h) ≡ false = lower_above m.station (s ∷ h) (l, r.1) (omega arith) in
          eq-eqb (0 + 2 ^ (m.station - 1)) (0 + 2 ^ (m.station - 1)) refl ∙ sym (ap not n)
      before false l = first_above m.station (s ∷ h) (l, r.1) (omega arith)

      none_taken : (b : Bool) → false ≡ (b && false)
      none_taken true = refl
      none_taken false = refl

      behind : (b : Bool) → s.station < m.station → 1 ≤ s.station → first_is (insert m h) ≡ takes p h m
          → eqb (set_of (take 1 (pick b (s ∷ those p (insert m h)) (those p (insert m h))))) (0 + 2 ^ (m.station - 1))
          ≡ (p m && not ((b && ltb s.station m.station) || lower h))
      behind true l one ih =
          let n : ltb s.station m.station ≡ true = lt-ltb s.station m.station l in
          other s one (λ z. omega arith) ∙ none_taken (p m) ∙ sym (ap (λ (t : Bool). p m && not (t || lower h)) n)
      behind false l one ih = ih

      go : (c : Bool) → eqb s.station m.station ≡ c → (c || held_of m.station h) ≡ false → (d : Bool) → ltb m.station s.station ≡ d
          → (held_of m.station h ≡ false → first_is (insert m h) ≡ takes p h m)
          → first_is (pick d (m ∷ s ∷ h) (s ∷ insert m h)) ≡ takes p (s ∷ h) m
      go true x u d y ih = never true u refl
      go false x u true y ih = before (p m) (ltb-true m.station s.station y)
      go false x u false y ih =
          behind (p s) (omega (arith, eqb-false s.station m.station x, ltb-false m.station s.station y)) (omega (arith, r.0)) (ih u)
