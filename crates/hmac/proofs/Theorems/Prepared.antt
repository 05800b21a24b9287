-- The code from a prepared key is HMAC of the key and the words' bytes, for every key and every list of words.
use Rattle.std.specs.Prelude.{◌≡◌, List, ℕ}
use Rattle.std.proofs.Common.{sym, ap, ◌∙◌}
use Rattle.sha256.specs.Sha256.{words, bytes}
use Rattle.sha256.proofs.Laws.Words.{words_bytes}
use Rattle.hmac.specs.Hmac.{hmac, prepared, closed, code_from}
use Rattle.hmac.proofs.Laws.Keys.{closed_is, hmac_from, closed_below, outer_below}

-- the law: the code's words are those of HMAC of the words' bytes
pub code_is_hmac : (k ws : List ℕ) → code_from (prepared k) ws ≡ words (hmac k (bytes ws))
unfolding code_from
code_is_hmac k ws =
    let i : List ℕ = closed (prepared k).inner ws in
    let e : hmac k (bytes ws) ≡ bytes (closed (prepared k).outer i) = rw (← hmac_from k (bytes ws), closed_is) in
    sym (ap words e ∙ words_bytes (closed (prepared k).outer i) (closed_below (prepared k).outer i (outer_below k)))
