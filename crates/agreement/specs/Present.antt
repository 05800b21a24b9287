-- The list of calls and demand 3 in the form that the functions read and write: the names that the lists and theorems at that form cite.
use Rattle.std.specs.Prelude.{ℕ, Bool, List}
use Rattle.format.specs.Form.{present_form}
use Rattle.format.specs.Statement.{Statement}
use Rattle.modules.specs.declared.Module.{Module}
use Rattle.station.specs.declared.Station.{Station}
use Rattle.station.specs.Calls.{Returned}
use Rattle.agreement.specs.Demand.{Call, View, Entry, Found}

abbrev pub is_statement : Entry → Bool
is_statement = Rattle.agreement.specs.Demand.is_statement present_form

abbrev pub written_main : Returned → List Statement
written_main = Rattle.agreement.specs.Demand.written_main present_form

abbrev pub given_main : Returned → List ℕ → List Statement
given_main = Rattle.agreement.specs.Demand.given_main present_form

abbrev pub started : Returned → Found
started = Rattle.agreement.specs.Demand.started present_form

abbrev pub gave : Returned → List ℕ → Found → Found
gave = Rattle.agreement.specs.Demand.gave present_form

abbrev pub went : View → Bool → Returned → ℕ → ℕ → Found → Found
went = Rattle.agreement.specs.Demand.went present_form

abbrev pub proposed : List Entry → ℕ → ℕ → ℕ → Bool
proposed = Rattle.agreement.specs.Demand.proposed present_form

abbrev pub coded_in : ℕ → View → Returned → List Entry
coded_in = Rattle.agreement.specs.Demand.coded_in present_form

abbrev pub modules : (List ℕ → List ℕ → List ℕ) → List ℕ → ℕ → List Call → ℕ → Module
modules = Rattle.agreement.specs.Demand.modules present_form

abbrev pub answer : (List ℕ → List ℕ → List ℕ) → List ℕ → ℕ → List Call → Call → Returned
answer = Rattle.agreement.specs.Demand.answer present_form

abbrev pub log : (List ℕ → List ℕ → List ℕ) → List ℕ → ℕ → List Call → List Entry
log = Rattle.agreement.specs.Demand.log present_form

abbrev pub unrefused_at : (List ℕ → List ℕ → List ℕ) → List ℕ → ℕ → List Call → Call → ℕ → Bool
unrefused_at = Rattle.agreement.specs.Demand.unrefused_at present_form

abbrev pub openings : (List ℕ → List ℕ → List ℕ) → List ℕ → ℕ → List Call → ℕ → ℕ
openings = Rattle.agreement.specs.Demand.openings present_form

abbrev pub lineage : (List ℕ → List ℕ → List ℕ) → List ℕ → ℕ → List Call → ℕ → ℕ → Found
lineage = Rattle.agreement.specs.Demand.lineage present_form

abbrev pub Presents : (List ℕ → List ℕ → List ℕ) → List ℕ → ℕ → List Call → ℕ → ℕ → Station → Type 0
Presents = Rattle.agreement.specs.Demand.Presents present_form

abbrev pub Behaves : (List ℕ → List ℕ → List ℕ) → List ℕ → ℕ → List Call → ℕ → View → ℕ → Type 0
Behaves = Rattle.agreement.specs.Demand.Behaves present_form

abbrev pub Sound : (List ℕ → List ℕ → List ℕ) → List ℕ → ℕ → ℕ → List Call → Type 0
Sound = Rattle.agreement.specs.Demand.Sound present_form

abbrev pub JumpOff : (List ℕ → List ℕ → List ℕ) → List ℕ → ℕ → ℕ → ℕ → List Call → Type 0
JumpOff = Rattle.agreement.specs.Demand.JumpOff present_form

abbrev pub AllOff : (List ℕ → List ℕ → List ℕ) → List ℕ → ℕ → List Call → ℕ → Type 0
AllOff = Rattle.agreement.specs.Demand.AllOff present_form

abbrev pub FewFaulty : (List ℕ → List ℕ → List ℕ) → List ℕ → ℕ → List Call → Type 0
FewFaulty = Rattle.agreement.specs.Demand.FewFaulty present_form

abbrev pub CodesCame : (List ℕ → List ℕ → List ℕ) → List ℕ → ℕ → List Entry → List ℕ → Type 0
CodesCame = Rattle.agreement.specs.Demand.CodesCame present_form

abbrev pub Brings : (List ℕ → List ℕ → List ℕ) → List ℕ → ℕ → List Call → View → Type 0
Brings = Rattle.agreement.specs.Demand.Brings present_form

abbrev pub Given : (List ℕ → List ℕ → List ℕ) → List ℕ → ℕ → List Call → Type 0
Given = Rattle.agreement.specs.Demand.Given present_form

abbrev pub Decides : (List ℕ → List ℕ → List ℕ) → List ℕ → ℕ → List Call → ℕ → ℕ → ℕ → ℕ → Type 0
Decides = Rattle.agreement.specs.Demand.Decides present_form

abbrev pub Claim : (List ℕ → List ℕ → List ℕ) → List ℕ → ℕ → List Call → Type 1
Claim = Rattle.agreement.specs.Demand.Claim present_form
