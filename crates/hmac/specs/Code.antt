-- The code of words: HMAC-SHA-256 over their bytes, as eight words.
use Rattle.std.specs.Prelude.{ℕ, List, ◌++◌, ◌≡◌, length}
use Rattle.sha256.specs.Sha256.{words, bytes, sha256}
use Rattle.sha256.proofs.Laws.Shape.{words_length, sha256_length}
use Rattle.hmac.specs.Hmac.{masked, ipad, opad, key_block, hmac}

-- "HMAC-SHA-256 under the 32-byte group key ... Top byte first throughout": by a key, the code of words
unfoldable pub hmac_code : List ℕ → List ℕ → List ℕ
hmac_code key ws = words (hmac key (bytes ws))

pub hmac_eight : (key ws : List ℕ) → length (hmac_code key ws) ≡ 8
unfolding hmac_code hmac
hmac_eight key ws = words_length 8 (hmac key (bytes ws)) (sha256_length (masked opad (key_block key) ++ sha256 (masked ipad (key_block key) ++ bytes ws)))
