-- What demand 3's laws stand on: a code of eight words, its key, and a size that a group may have in the form.
use Rattle.std.specs.Prelude.{◌≡◌, List, ℕ, ◌≤◌, length}
use Rattle.format.specs.Form.{Form, most_stations}
use Rattle.format.specs.Numbers.{code_words, least_stations}

pub record Ground (form : Form) : Type 0 where
  pub mac : List ℕ → List ℕ → List ℕ
  pub eight : (key ws : List ℕ) → length (mac key ws) ≡ code_words
  pub key : List ℕ
  pub n : ℕ
  pub low : least_stations ≤ n
  pub top : n ≤ most_stations form
