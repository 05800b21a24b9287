-- What a giving leaves in the log is what its outcome leaves there.
use Rattle.std.specs.Prelude.{◌≡◌, List, ℕ}
use Rattle.format.specs.Form.{Form}
use Rattle.modules.specs.declared.Module.{Module}
use Rattle.station.specs.declared.Station.{Station}
use Rattle.station.specs.Words.{Lengths}
use Rattle.station.specs.Calls.{giving, giving_outcome}
use Rattle.station.proofs.Laws.Views.{gives_view}
use Rattle.agreement.proofs.Laws.Ground.{Ground}
use Rattle.agreement.proofs.Laws.Effect.{coded_at, log_of, logs_is, give_numbered}
use Rattle.agreement.specs.Demand.{gives, act}

module _ (form : Form) where
  module _ (G : Ground form) where
    open G use {mac}

    module _ (m : Module) (i k : ℕ) (t : Station) (ws : List ℕ) (coin : ℕ) (out : List ℕ) (L : Lengths form t) where
      pub give_coded : coded_at form G m i (gives k t ws coin out) ≡ log_of form G i (giving_outcome form mac m t ws coin out)
      unfolding act giving
      give_coded =
          logs_is form G i m t out (giving_outcome form mac m t ws coin out)
          (give_numbered form G m i k t ws coin out L (giving_outcome form mac m t ws coin out) (gives_view form mac m t ws coin out L))
