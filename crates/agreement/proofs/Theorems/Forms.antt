-- Demand 3 in both forms: one theorem, two instances, with the documents' numbers. (The words of each form: `first_sizes`, `wide_sizes` in format.)
use Rattle.std.specs.Prelude.{ℕ, ◌≤◌, List}
use Rattle.hmac.specs.Code.{hmac_code}
use Rattle.format.specs.Form.{first_form, wide_form}
use Rattle.agreement.specs.Demand.{Call, FewFaulty, Given, Claim, Demand3}
use Rattle.agreement.proofs.Theorems.Theorem.{demand_3}

-- document 01: "A group has n stations, 2 to 31"; ten words a statement, rounds to 65,535
pub of_first_form : (key : List ℕ) (n : ℕ) → 2 ≤ n → n ≤ 31 → (cs : List Call) → Given first_form hmac_code key n cs → FewFaulty first_form hmac_code key n cs
    → Claim first_form hmac_code key n cs
of_first_form = demand_3 first_form

-- Job 10 of document 02: the same groups; eleven words a statement, rounds to 4,294,967,295
pub of_wide_form : (key : List ℕ) (n : ℕ) → 2 ≤ n → n ≤ 31 → (cs : List Call) → Given wide_form hmac_code key n cs → FewFaulty wide_form hmac_code key n cs
    → Claim wide_form hmac_code key n cs
of_wide_form = demand_3 wide_form

-- each is the whole of demand 3 in its form: no premise is stronger than there, and nothing less is claimed
pub first_form_whole : Demand3 first_form hmac_code
first_form_whole = of_first_form

pub wide_form_whole : Demand3 wide_form hmac_code
wide_form_whole = of_wide_form
