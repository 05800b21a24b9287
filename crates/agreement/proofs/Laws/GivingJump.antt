-- A jump at a sound site: what is known of the station that it returns.
use Rattle.std.specs.Prelude.{◌≡◌, List, ◌∷◌, ℕ, length}
use Rattle.format.specs.Form.{Form}
use Rattle.format.specs.Numbers.{code_words}
use Rattle.format.specs.Statement.{Statement}
use Rattle.format.specs.Bundle.{main_of, certificate_of}
use Rattle.modules.specs.declared.Module.{Module}
use Rattle.station.specs.declared.Stage.{Stage}
use Rattle.station.specs.declared.Station.{Station}
use Rattle.station.specs.Machine.{began, stage_of}
use Rattle.station.specs.Words as W
use Rattle.station.proofs.Laws.Views.{Jumping, jump_statement}
use Rattle.agreement.proofs.Maths.Just.{bare}
use Rattle.agreement.proofs.Laws.Giving.{sane, entered}
use Rattle.agreement.proofs.Laws.Line.{reads, Line, open_line}
use Rattle.agreement.specs.Demand.{Entry, CodesCame}

module _ (form : Form) where
  module _ (mac : List ℕ → List ℕ → List ℕ) (eight : (key ws : List ℕ) → length (mac key ws) ≡ code_words) (m : Module) (t : Station) (ws : List ℕ) (coin : ℕ) (out : List ℕ)
      (l : List Entry) (took : List Statement) (L : Line form m.n (reads form l) m.station t took) (J : Jumping form mac m t ws coin out) (came : CodesCame form mac m.key m.n l ws) where
    abbrev g : Stage
    g = stage_of (main_of form ws)

    abbrev u : Statement
    u = jump_statement form mac m t ws coin out

    pub jump_line : Line form m.n (bare u ∷ reads form l) m.station (W.as_station form m.n m.station (began m.n t.identity.question t.lasting g u (certificate_of form ws))) (u ∷ took)
    jump_line =
        open_line form m.n m.station (bare u ∷ reads form l) (began m.n t.identity.question t.lasting g u (certificate_of form ws)) (u ∷ took)
        J.cleared.range.at_most J.cleared.range.low J.cleared.range.high (sane form mac eight m t ws coin out l took L J came) (entered form mac eight m t ws coin out l took L J came)
