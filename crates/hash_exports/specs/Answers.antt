-- What C is handed: a number, and bytes, words or states, which are zeros at a refusal.
use Rattle.std.specs.Prelude.{ℕ, List, replicate, Result, Ok, Err}
use Rattle.sha256.specs.Sha256.{error_number}
use Rattle.sha256.specs.declared.HashError.{HashError}
use Rattle.hmac.specs.declared.Prepared.{Prepared}

-- 0, or the refusal's number
abbrev pub number_in : {A : Type 0} → Result A HashError → ℕ
number_in (Ok x) = 0
number_in (Err e) = error_number e

abbrev pub bytes_in : Result (List ℕ) HashError → List ℕ
bytes_in (Ok bytes) = bytes
bytes_in (Err e) = replicate 32 0

abbrev pub words_in : Result (List ℕ) HashError → List ℕ
words_in (Ok words) = words
words_in (Err e) = replicate 8 0

abbrev pub states_in : Result Prepared HashError → Prepared
states_in (Ok key) = key
states_in (Err e) = record { inner = replicate 8 0; outer = replicate 8 0 }
