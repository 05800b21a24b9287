-- As many words as are kept are copied over zeros; where there is no certificate, none are.
use Rattle.std.proofs.Common.{ℕ, ◌≡◌, ◌+◌, ◌-◌, ◌<◌, ◌++◌, List, sym, ap, arith, length, take, drop, replicate}
use Rattle.std.proofs.lemmas.List.{drop-replicate}
use Rattle.format.specs.Present.{place_of}
use Rattle.station.specs.Present.{kept_words}
use Rattle.keeping.specs.Kept.{words_kept, group_from}
use Rattle.keeping.proofs.Laws.Turns.{none_kept}
use Rattle.keeping.proofs.group_from.Goals as goal

no_words : (q : ℕ) (ws : List ℕ) → length ws < place_of 1 → replicate kept_words 0 ≡ group_from q ws
unfolding group_from
no_words q ws h = let e : words_kept q (length ws) ≡ 0 = sym (none_kept q (length ws) h) in rw e

group_put : (q : ℕ) (ws ys : List ℕ) (count : ℕ) → count ≡ words_kept q (length ws) → ys ≡ take (place_of 1 + count - place_of 1) (drop (place_of 1) ws)
    → ys ++ drop count (replicate kept_words 0) ≡ group_from q ws
unfolding group_from
group_put q ws ys count e y =
    let n : place_of 1 + count - place_of 1 ≡ count = omega arith in
    rw (y, n, drop-replicate {X = ℕ} count kept_words 0) (ap (λ (k : ℕ). take k (drop (place_of 1) ws) ++ replicate (kept_words - k) 0) e)

pub returns-then-ws-lt-CERTIFICATE_AT : goal.returns-then-ws-lt-CERTIFICATE_AT
returns-then-ws-lt-CERTIFICATE_AT c = no_words c.args.q c.args.ws.now c.if-ws-lt-CERTIFICATE_AT.true

pub returns : goal.returns
returns c = group_put c.args.q c.args.ws.now _ _ c.words_kept-count.ensures.value c.copy_from_slice.ensures.after
