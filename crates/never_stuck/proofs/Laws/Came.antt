-- A bundle of statements that were coded meets the premise on codes: the other way about from words whose codes came.
use Rattle.std.specs.Prelude.{◌≡◌, refl, Bool, true, false, ◌&&◌, ◌||◌, ◌⊎◌, List, [], ◌∷◌, ◌++◌, ℕ, zero, suc, ◌+◌, ◌*◌, ◌<◌, eqb, get_or}
use Rattle.std.proofs.Common.{sym, ◌∙◌, ap, subst, inl, inr, arith, eq-eqb}
use mathlib.Core.List.Memᴰ
use Rattle.laws.specs.Pick.{pick}
use Rattle.laws.specs.Bools.{both, join, left, right}
use Rattle.laws.specs.All.{All}
use Rattle.format.specs.Form.{present_form}
use Rattle.format.specs.Words.{fields_of, station_of}
use Rattle.format.specs.Statement.{Statement, same_words}
use Rattle.format.specs.Bundle.{count_in}
use Rattle.format.specs.Present.{statement_words, place_of, formed, statement, statements, covered, covered_at, all_formed}
use Rattle.certificate.specs.Present.{IsBundle}
use Rattle.station.proofs.Theorems.Written.{same_self}
use Rattle.agreement.proofs.Maths.Log.{In}
use Rattle.agreement.proofs.Maths.Just.{bare, Coded}
use Rattle.agreement.proofs.Laws.Line.{reads, AtSite, covered_there}
use Rattle.agreement.specs.Demand.{Entry, logged}
use Rattle.agreement.specs.Present.{is_statement, CodesCame}

-- a statement of the log was logged at its station, with the words that its code covers
logged_in : (l : List Entry) → All (AtSite present_form) l → (u : Statement) → In u (reads present_form l) → logged l u.station (covered u) ≡ true
unfolding reads pick
logged_in [] h u m = absurd (Memᴰ.not-nil m)
logged_in (e ∷ l) h u m = by_kind (is_statement e) refl m (logged_in l h.1 u)
  where
    here : Bool
    here = eqb e.at u.station && same_words e.words (covered u)

    go : is_statement e ≡ true → (u ≡ statement e.words 0) ⊎ In u (reads present_form l) → (In u (reads present_form l) → logged l u.station (covered u) ≡ true) → (here || logged l u.station (covered u)) ≡ true
    go is (inl y) ih =
        let w : e.words ≡ covered u = sym (ap covered y ∙ (h.0 is).1) in
        left here _
        (join (eqb e.at u.station) _ (eq-eqb e.at u.station ((h.0 is).0 ∙ ap (λ (s : Statement). s.station) (sym y)))
        (subst (λ (z : List ℕ). same_words e.words z ≡ true) w (same_self e.words)))
    go is (inr y) ih = right here _ (ih y)

    by_kind : (b : Bool) → is_statement e ≡ b → In u (pick b (statement e.words 0 ∷ reads present_form l) (reads present_form l)) → (In u (reads present_form l) → logged l u.station (covered u) ≡ true)
        → (here || logged l u.station (covered u)) ≡ true
    by_kind true is m ih = go is (Memᴰ.cases_cons m) ih
    by_kind false is m ih = right here _ (ih m)

-- what is known of each statement of a bundle is known of the one at place k
nth : (P : Statement → Type 0) (ws : List ℕ) (c k at : ℕ) → All P (statements ws at c) → k < c → P (statement ws (at + k * statement_words))
unfolding Rattle.format.specs.Statement.statements
nth P ws zero k at a h = absurd (omega arith)
nth P ws (suc c) zero at a h = let e : at ≡ at + 0 * statement_words = omega arith in subst (λ (z : ℕ). P (statement ws z)) e a.0
nth P ws (suc c) (suc k) at a h = let e : (at + statement_words) + k * statement_words ≡ at + suc k * statement_words = omega arith in subst (λ (z : ℕ). P (statement ws z)) e (nth P ws c k (at + statement_words) a.1 (omega arith))

nth_formed : (n : ℕ) (ws : List ℕ) (c k at : ℕ) → all_formed n ws at c ≡ true → k < c → formed n (fields_of (get_or ws (at + k * statement_words) 0)) ≡ true
unfolding Rattle.format.specs.Bundle.all_formed
nth_formed n ws zero k at a h = absurd (omega arith)
nth_formed n ws (suc c) zero at a h =
    let e : at ≡ at + 0 * statement_words = omega arith in
    subst (λ (z : ℕ). formed n (fields_of (get_or ws z 0)) ≡ true) e (both (formed n (fields_of (get_or ws at 0))) _ a).0
nth_formed n ws (suc c) (suc k) at a h =
    let e : (at + statement_words) + k * statement_words ≡ at + suc k * statement_words = omega arith in
    subst (λ (z : ℕ). formed n (fields_of (get_or ws z 0)) ≡ true) e (nth_formed n ws c k (at + statement_words) (both (formed n (fields_of (get_or ws at 0))) _ a).1 (omega arith))

pub codes_came : (mac : List ℕ → List ℕ → List ℕ) (key : List ℕ) (n : ℕ) (l : List Entry) (ws : List ℕ) → All (AtSite present_form) l → IsBundle n ws
    → All (Coded n (reads present_form l)) (statements ws (place_of 0) (suc (count_in ws))) → CodesCame mac key n l ws
codes_came mac key n l ws sites B a k room v =
    let c : Coded n (reads present_form l) (statement ws (place_of k)) = nth (Coded n (reads present_form l)) ws (suc (count_in ws)) k 1 a (omega (arith, B.size)) in
    let f : formed n (fields_of (get_or ws (place_of k) 0)) ≡ true = nth_formed n ws (suc (count_in ws)) k 1 B.fields (omega (arith, B.size)) in
    subst (λ (z : List ℕ). logged l (station_of (get_or ws (place_of k) 0)) z ≡ true) (covered_there present_form n ws (place_of k) (omega arith) f) (logged_in l sites (bare (statement ws (place_of k))) c.mem)

-- what came stays so: the log only grows
logged_more : (a l : List Entry) (i : ℕ) (ws : List ℕ) → logged l i ws ≡ true → logged (a ++ l) i ws ≡ true
logged_more [] l i ws h = h
logged_more (e ∷ a) l i ws h = right (eqb e.at i && same_words e.words ws) _ (logged_more a l i ws h)

pub came_more : (mac : List ℕ → List ℕ → List ℕ) (key : List ℕ) (n : ℕ) (a l : List Entry) (ws : List ℕ) → CodesCame mac key n l ws → CodesCame mac key n (a ++ l) ws
came_more mac key n a l ws c k room v = logged_more a l (station_of (get_or ws (place_of k) 0)) (covered_at ws (place_of k)) (c k room v)
