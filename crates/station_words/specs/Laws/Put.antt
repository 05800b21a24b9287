-- Words put into a list from a place on: turn by turn, at the front, behind what is at the front, over the whole.
use Rattle.std.specs.Prelude.{ℕ, ◌+◌, ◌≤◌, ◌<◌, List, ◌++◌, ◌≡◌, length, get_or, set}
use Rattle.std.proofs.Common.{append-nil, ap, ◌∙◌, add-one, arith, length-append}
use Rattle.std.proofs.Math.Seq.{paste, paste-zero, paste-suc, drop-length}
use Rattle.laws.specs.Over.{over}
use Rattle.laws.proofs.Over.{paste_front, paste_behind}
use Rattle.station_words.specs.Words.{slots_at, value_at, none_at, jump_at}
use Rattle.station.specs.Present.{slots_words, kept_words}

unfoldable pub put_at : List ℕ → ℕ → List ℕ → List ℕ
put_at out at ws = paste out at ws (length ws)

-- ---- the loop that puts word by word
unfoldable pub put_so_far : List ℕ → ℕ → List ℕ → ℕ → List ℕ
put_so_far out at ws i = paste out at ws i

pub put_begin : (out : List ℕ) (at : ℕ) (ws : List ℕ) → out ≡ put_so_far out at ws 0
unfolding put_so_far
put_begin out at ws = paste-zero out at ws

pub put_turn : (out : List ℕ) (at : ℕ) (ws xs : List ℕ) (i : ℕ) → at + length ws ≤ length out → i < length ws → xs ≡ put_so_far out at ws i
    → set xs (at + i) (get_or ws i 0) ≡ put_so_far out at ws (i + 1)
unfolding put_so_far
put_turn out at ws xs i room inside xs_is = rw (xs_is, paste-suc out at ws i 0 (omega arith) inside, add-one)

pub put_end : (out : List ℕ) (at : ℕ) (ws xs : List ℕ) (i : ℕ) → xs ≡ put_so_far out at ws i → i ≡ length ws → xs ≡ put_at out at ws
unfolding put_so_far put_at
put_end out at ws xs i xs_is e = xs_is ∙ rw e

-- ---- where it is put
pub put_first : (ws out : List ℕ) → put_at out 0 ws ≡ over ws out
unfolding put_at
put_first ws out = paste_front ws out

pub put_behind : (p ws out : List ℕ) (at : ℕ) → length p ≡ at → put_at (over p out) at ws ≡ over (p ++ ws) out
unfolding put_at
put_behind p ws out at e = paste_behind p ws out at e

pub put_whole : (ws out : List ℕ) → length ws ≡ length out → put_at out 0 ws ≡ ws
put_whole ws out e = put_first ws out ∙ rw (e, drop-length out) (append-nil ws)

-- five parts, each behind the one before
pub record Parts (a b c d e : List ℕ) : Type 0 where
  pub head : length a ≡ slots_at
  pub slots : length b ≡ slots_words
  pub value : length c ≡ kept_words
  pub none : length d ≡ kept_words
  pub jump : length e ≡ 1

pub put_five : (a b c d e out v w x y z : List ℕ) → Parts a b c d e → v ≡ put_at out 0 a → w ≡ put_at v slots_at b → x ≡ put_at w value_at c → y ≡ put_at x none_at d
    → z ≡ put_at y jump_at e → z ≡ over (a ++ b ++ c ++ d ++ e) out
put_five a b c d e out v w x y z P ev ew ex ey ez =
    let la : length a ≡ slots_at = P.head in
    let lb : length (a ++ b) ≡ value_at = length-append a b ∙ omega (arith, P.head, P.slots) in
    let lc : length (a ++ b ++ c) ≡ none_at = length-append (a ++ b) c ∙ omega (arith, lb, P.value) in
    let ld : length (a ++ b ++ c ++ d) ≡ jump_at = length-append (a ++ b ++ c) d ∙ omega (arith, lc, P.none) in
    let hv : v ≡ over a out = ev ∙ put_first a out in
    let hw : w ≡ over (a ++ b) out = ew ∙ ap (λ (l : List ℕ). put_at l slots_at b) hv ∙ put_behind a b out slots_at la in
    let hx : x ≡ over (a ++ b ++ c) out = ex ∙ ap (λ (l : List ℕ). put_at l value_at c) hw ∙ put_behind (a ++ b) c out value_at lb in
    let hy : y ≡ over (a ++ b ++ c ++ d) out = ey ∙ ap (λ (l : List ℕ). put_at l none_at d) hx ∙ put_behind (a ++ b ++ c) d out none_at lc in
    ez ∙ ap (λ (l : List ℕ). put_at l jump_at e) hy ∙ put_behind (a ++ b ++ c ++ d) e out jump_at ld
