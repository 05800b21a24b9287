-- What one turn of each loop adds, what its end leaves, and what the tests before it tell: each over plain numbers and lists.
use Rattle.std.specs.Prelude.{ℕ, suc, ◌+◌, ◌-◌, ◌*◌, ◌≤◌, ◌<◌, Bool, true, false, not, ◌&&◌, List, ◌++◌, ◌≡◌, refl, leb, ltb, min, length, get_or, take, drop, set, replicate}
use Rattle.std.proofs.Common.{sym, ap, ◌∙◌, add-one, arith, length-drop, get_or-drop, leb-true, ltb-true, ltb-false}
use Rattle.std.proofs.Math.Seq.{paste, paste-suc}
use Rattle.std.proofs.lemmas.Bool.{not-false}
use Rattle.laws.specs.Pick.{pick}
use Rattle.laws.specs.Bools.{both}
use Rattle.laws.specs.Fill.{put}
use Rattle.laws.specs.Least.{least, least_fits}
use Rattle.format.specs.Lists.{some}
use Rattle.format.specs.Present.{most_stations, place_of, statement_words}
use Rattle.station.specs.Present.{kept_words, slots_words, sites}
use Rattle.keeping.specs.Kept.{words_kept}

pub has_main : (s have : ℕ) → not (leb 1 s && leb s most_stations && leb (place_of 1) have) ≡ false → (1 ≤ s) × (s ≤ most_stations) × (place_of 1 ≤ have)
has_main s have e =
    let a = both (leb 1 s && leb s sites) _ (not-false _ e) in
    let b = both (leb 1 s) _ a.0 in
    (leb-true _ _ b.0, leb-true _ _ b.1, leb-true _ _ a.1)

-- one word more of the main statement
pub main_turn : (slots : List ℕ) (at : ℕ) (ws : List ℕ) (i : ℕ) → length slots ≡ slots_words → at + statement_words ≤ slots_words → place_of 1 ≤ length ws → i < statement_words
    → set (paste slots at (drop 1 ws) i) (at + i) (get_or ws (1 + i) 0) ≡ paste slots at (drop 1 ws) (i + 1)
main_turn slots at ws i long room some few =
    let l : i < length (drop 1 ws) = rw length-drop (omega arith) in
    let s : set (paste slots at (drop 1 ws) i) (at + i) (get_or (drop 1 ws) i 0) ≡ paste slots at (drop 1 ws) (suc i)
    = paste-suc slots at (drop 1 ws) i 0 (omega arith) l in
    ap (set (paste slots at (drop 1 ws) i) (at + i)) (sym (get_or-drop 1 ws i 0)) ∙ s ∙ ap (paste slots at (drop 1 ws)) (sym (add-one i))

-- how many certificate words there are to keep
least_low : (a b : ℕ) → least a b ≤ a
unfolding least pick
least_low a b = go (ltb a b) refl
  where
    go : (t : Bool) → ltb a b ≡ t → pick t a b ≤ a
    go true e = omega arith
    go false e = omega (arith, ltb-false a b e)

-- the smaller of two numbers, as std has it and as the definition does
pub min_least : (a b : ℕ) → min a b ≡ least a b
unfolding least pick
min_least a b = go (ltb a b) refl
  where
    go : (t : Bool) → ltb a b ≡ t → min a b ≡ pick t a b
    go true e = omega (arith, ltb-true a b e)
    go false e = omega (arith, ltb-false a b e)

pub kept_room : (q have : ℕ) → (words_kept q have ≤ kept_words) × (words_kept q have ≤ have - place_of 1)
unfolding words_kept
kept_room q have = (omega (arith, least_low (least (q * statement_words) kept_words) (have - place_of 1), least_fits (q * statement_words) kept_words), least_fits (least (q * statement_words) kept_words) (have - place_of 1))

pub none_kept : (q have : ℕ) → have < place_of 1 → 0 ≡ words_kept q have
none_kept q have h = omega (arith, (kept_room q have).1)

-- one certificate word more
pub group_turn : (ws b : List ℕ) (count i : ℕ) → i < count → count ≤ kept_words → count ≤ length ws - place_of 1 → b ≡ take i (drop (place_of 1) ws) ++ replicate (kept_words - i) 0
    → set b i (get_or ws (place_of 1 + i) 0) ≡ take (i + 1) (drop (place_of 1) ws) ++ replicate (kept_words - (i + 1)) 0
group_turn ws b count i h few room e =
    let l : i < length (drop (place_of 1) ws) = rw length-drop (omega arith) in
    put kept_words (drop (place_of 1) ws) b i (get_or ws (place_of 1 + i) 0) l (omega arith) e (sym (get_or-drop (place_of 1) ws i 0))
