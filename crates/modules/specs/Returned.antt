-- What making returns, as the paper's number and module.
use Rattle.std.specs.Prelude.{Result, Ok, Err}
use Rattle.format.specs.Returns.{refusal_number}
use Rattle.format.specs.declared.Refusal.{Refusal}
use Rattle.modules.specs.declared.Module.{Module}
use Rattle.modules.specs.Counter.{Made, no_module}

-- 0 and the module; or the refusal's number and the all-zero module
abbrev pub made_of : Result Module Refusal → Made
made_of (Ok m) = record { number = 0; made = m }
made_of (Err r) = record { number = refusal_number r; made = no_module }
