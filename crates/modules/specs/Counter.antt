-- The sealed module: the last pair that it coded, and making (document 01, "The sealed module").
use Rattle.std.specs.Prelude.{ℕ, Bool, true, false, not, ◌&&◌, ◌||◌, List, eqb, ltb, replicate}
use Rattle.laws.specs.Pick.{pick}
use Rattle.format.specs.Form.{Form, size_fits}
use Rattle.format.specs.Numbers.{out_of_range}
use Rattle.format.specs.Words.{of_group}
use Rattle.modules.specs.declared.Last.{Last}
use Rattle.modules.specs.declared.Module.{Module}

abbrev pub no_pair : Last
no_pair = record { coded = false; question = 0; step = record { 0 = 0 } }  -- "the last (question, step) that it coded, or none"

abbrev pub pair : ℕ → ℕ → Last
pair question step = record { coded = true; question = question; step = record { 0 = step } }

-- "whose pair is greater than the last, question compared first"
unfoldable pub above : Last → ℕ → ℕ → Bool
above last question step =
    not last.coded || (ltb last.question question || (eqb last.question question && ltb last.step.0 step))

-- the last pair that a question is held against, and the module once it has coded a pair: all other definitions and calls read and change the
-- last pair through these two, so that a module with several counters changes them alone
abbrev pub last_for : Module → ℕ → Last
last_for m question = m.last

abbrev pub advanced : Module → ℕ → ℕ → Module
advanced m question step = record { key = m.key; n = m.n; station = m.station; last = pair question step }

-- ---- making
pub record Made : Type 0 where
  pub number : ℕ
  pub made : Module

abbrev pub fresh : List ℕ → ℕ → ℕ → Module
fresh key n site = record { key = key; n = n; station = site; last = no_pair }

abbrev pub no_module : Module
no_module = fresh (replicate 32 0) 0 0  -- a refused making returns the all-zero module, which every call refuses by 1 or 2

module _ (form : Form) where
  -- a module whose n and station number are in range: 2 is returned for any other
  abbrev pub module_fits : Module → Bool
  module_fits m = size_fits form m.n && of_group m.n m.station

  -- "Making a module tests 2."
  unfoldable pub making : List ℕ → ℕ → ℕ → Made
  making key n site =
      pick (size_fits form n && of_group n site) (record { number = 0; made = fresh key n site }) (record { number = out_of_range; made = no_module })
