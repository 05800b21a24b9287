-- What a statement's words say depends on the words from its place on, in each form.
use Rattle.std.specs.Prelude.{ℕ, ◌+◌, List, ◌≡◌, get_or, take, drop}
use Rattle.std.proofs.Common.{sym, ◌∙◌, add-zero, drop-drop, get_or-drop}
use Rattle.std.proofs.Math.Path.{ap}
use Rattle.format.specs.Form.{Form, first_form, wide_form, round_at, fields_at}
use Rattle.format.specs.Numbers.{code_words}
use Rattle.format.specs.Words.{fields_of, round_of, wide_fields}
use Rattle.format.specs.Statement.{code_at}

pub round_drop : (form : Form) (ws : List ℕ) (at : ℕ) → round_at form ws at ≡ round_at form (drop at ws) 0
round_drop first_form ws at = ap round_of (sym (get_or-drop at ws 0 0 ∙ ap (λ (k : ℕ). get_or ws k 0) (add-zero at)))
round_drop wide_form ws at = sym (get_or-drop at ws 2 0)

pub code_drop : (form : Form) (ws : List ℕ) (at : ℕ) → code_at form ws at ≡ code_at form (drop at ws) 0
code_drop first_form ws at = ap (take code_words) (sym (drop-drop 2 at ws))
code_drop wide_form ws at = ap (take code_words) (sym (drop-drop 3 at ws))

pub fields_drop : (form : Form) (ws : List ℕ) (at : ℕ) → fields_at form ws at ≡ fields_at form (drop at ws) 0
fields_drop first_form ws at = ap fields_of (sym (get_or-drop at ws 0 0 ∙ ap (λ (k : ℕ). get_or ws k 0) (add-zero at)))
fields_drop wide_form ws at =
    let w : get_or ws at 0 ≡ get_or (drop at ws) 0 0 = sym (get_or-drop at ws 0 0 ∙ ap (λ (k : ℕ). get_or ws k 0) (add-zero at)) in
    let r : get_or ws (at + 2) 0 ≡ get_or (drop at ws) 2 0 = sym (get_or-drop at ws 2 0) in
    λ i. wide_fields (w i) (r i)
