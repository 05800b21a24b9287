-- A giving at a sound site to a station of its own, by its outcome: what is known of the station's state, carried to the station returned.
use Rattle.std.specs.Prelude.{◌≡◌, false, List, ◌∷◌, ◌++◌, ℕ, suc, ◌<◌, length}
use Rattle.std.proofs.Math.Path.{refl}
use Rattle.std.proofs.Common.{arith}
use Rattle.laws.specs.All.{All}
use Rattle.format.specs.Form.{Form, last_round}
use Rattle.format.specs.Numbers.{kind_v, none, code_words}
use Rattle.format.specs.Group.{quorum}
use Rattle.format.specs.Statement.{Statement, statements, step}
use Rattle.format.specs.Bundle.{count_in, main_of, certificate_of}
use Rattle.format.proofs.Laws.Layout.{all_well}
use Rattle.modules.specs.declared.Module.{Module}
use Rattle.station.specs.declared.Stage.{Stage}
use Rattle.station.specs.declared.Station.{Station}
use Rattle.station.specs.Machine.{State, closes, follows, Next, began, shut, stage_of, stage_step}
use Rattle.station.specs.Words as W
use Rattle.station.specs.Words.{state_of}
use Rattle.station.proofs.Laws.Sane.{Sane}
use Rattle.station.proofs.Laws.Views.{Accepted, Jumping, jump_statement, after, lasting_then, sent_statement}
use Rattle.station.proofs.Laws.Fits.{sent_proper, jump_fitting, jump_sane}
use Rattle.station.proofs.Theorems.Written.{shut_lengths}
use Rattle.agreement.proofs.Maths.Safe.{Just, Split}
use Rattle.agreement.proofs.Maths.Just.{bare, Coded, backed_just}
use Rattle.agreement.proofs.Maths.Standing.{Open, Standing}
use Rattle.agreement.proofs.Maths.Entering.{entered_standing}
use Rattle.agreement.proofs.Maths.Taking as T
use Rattle.agreement.proofs.Laws.Line.{reads, whole_came, Line, open_line}
use Rattle.agreement.specs.Demand.{Entry, CodesCame}

module _ (form : Form) where
  module _ (mac : List ℕ → List ℕ → List ℕ) (eight : (key ws : List ℕ) → length (mac key ws) ≡ code_words) (m : Module) (t : Station) (ws : List ℕ) (coin : ℕ) (out : List ℕ)
      (l : List Entry) (took : List Statement) (L : Line form m.n (reads form l) m.station t took) (A : Accepted form mac m t ws coin out) (came : CodesCame form mac m.key m.n l ws) where
    abbrev n : ℕ
    n = m.n

    abbrev k : State
    k = after form mac m t ws coin out

    all_coded : Coded n (reads form l) (main_of form ws) × All (Coded n (reads form l)) (certificate_of form ws)
    unfolding statements
    all_coded =
        whole_came form mac m.key n l ws came (suc (count_in ws)) (omega (arith, A.cleared.bundle.size)) A.cleared.bundle.fields (all_well form n ws 1 (suc (count_in ws)) A.cleared.bundle.fields) A.cleared.codes

    is_open : (state_of form t).closed ≡ false
    unfolding state_of
    is_open = A.cleared.still_open

    -- the certificate of what follows was coded
    pub parts_coded : All (Coded n (reads form l)) (follows n t.stage k coin).first × All (Coded n (reads form l)) (follows n t.stage k coin).second
    parts_coded =
        T.parts_coded form n m.station (reads form l) (state_of form t) took L.standing is_open (main_of form ws) (certificate_of form ws) A.fitting A.new A.calm all_coded.0 all_coded.1 coin t.stage

    pub kept_line : length k.held < quorum n → Line form n (reads form l) m.station (W.as_station form n m.station k) (main_of form ws ∷ took)
    kept_line few =
        let K =
        T.kept_standing form n m.station (reads form l) (state_of form t) took L.standing is_open (main_of form ws) (certificate_of form ws) A.fitting A.new A.calm all_coded.0 all_coded.1 few in
        open_line form n m.station (reads form l) k (main_of form ws ∷ took) A.cleared.range.at_most A.cleared.range.low A.cleared.range.high (K.while_open is_open).sane K

    module _ (size : length k.held ≡ quorum n) where
      pub shut_line : Line form n (reads form l) m.station
          (W.as_station form n m.station (shut k (lasting_then form mac m t ws coin out))) (main_of form ws ∷ took)
      unfolding W.as_station state_of
      shut_line =
          let v = shut k (lasting_then form mac m t ws coin out) in
          record {
            lengths = shut_lengths form n m.station v refl refl refl;
            standing = T.shut_standing form n m.station (reads form l) (state_of form t) took L.standing is_open (main_of form ws) (certificate_of form ws) A.fitting A.new A.calm all_coded.0 all_coded.1 size
                (state_of form (W.as_station form n m.station v)) refl refl refl;
          }

      module _ (more : closes (last_round form) t.stage ≡ false) where
        abbrev s : Statement
        s = sent_statement form mac m t ws coin out

        abbrev x : Next
        x = follows n t.stage k coin

        more_state : closes (last_round form) (state_of form t).stage ≡ false
        unfolding state_of
        more_state = more

        pub sent_just : Just n (reads form l) s
        unfolding state_of
        sent_just =
            T.sent_just form n m.station (reads form l) (state_of form t) took L.standing is_open (main_of form ws) (certificate_of form ws) A.fitting A.new A.calm all_coded.0 all_coded.1 size
            coin A.cleared.coin_bit more_state A.cleared.range.at_least s (sent_proper form mac eight m t ws coin out L.lengths A size more) refl A.cleared.range.low A.cleared.range.high refl refl refl refl refl

        pub sent_split : s.kind ≡ kind_v → s.value ≡ none → Split n (reads form l) s.question s.round
        unfolding state_of
        sent_split =
            T.sent_split form n m.station (reads form l) (state_of form t) took L.standing is_open (main_of form ws) (certificate_of form ws) A.fitting A.new A.calm all_coded.0 all_coded.1 size
            coin A.cleared.coin_bit more_state A.cleared.range.at_least s (sent_proper form mac eight m t ws coin out L.lengths A size more) refl A.cleared.range.low A.cleared.range.high refl refl refl refl refl

        pub sent_line : Line form n (bare s ∷ reads form l) m.station (W.as_station form n m.station (began n t.identity.question (lasting_then form mac m t ws coin out) x.stage s (x.first ++ x.second)))
            (s ∷ (main_of form ws ∷ took))
        unfolding state_of
        sent_line =
            let K =
            T.sent_standing form n m.station (reads form l) (state_of form t) took L.standing is_open (main_of form ws) (certificate_of form ws) A.fitting A.new A.calm all_coded.0 all_coded.1 size
            coin A.cleared.coin_bit more_state A.cleared.range.at_least s (sent_proper form mac eight m t ws coin out L.lengths A size more) refl A.cleared.range.low A.cleared.range.high refl refl refl refl refl in
            open_line form n m.station (bare s ∷ reads form l) (began n t.identity.question (lasting_then form mac m t ws coin out) x.stage s (x.first ++ x.second)) (s ∷ (main_of form ws ∷ took))
            A.cleared.range.at_most A.cleared.range.low A.cleared.range.high (K.while_open refl).sane K

  -- ---- a jump: the own statement is justified by the given certificate, and it alone is taken
  module _ (mac : List ℕ → List ℕ → List ℕ) (eight : (key ws : List ℕ) → length (mac key ws) ≡ code_words) (m : Module) (t : Station) (ws : List ℕ) (coin : ℕ) (out : List ℕ)
      (l : List Entry) (took : List Statement) (L : Line form m.n (reads form l) m.station t took) (J : Jumping form mac m t ws coin out) (came : CodesCame form mac m.key m.n l ws) where
    abbrev g : Stage
    g = stage_of (main_of form ws)

    abbrev u : Statement
    u = jump_statement form mac m t ws coin out

    pub given_coded : All (Coded m.n (reads form l)) (certificate_of form ws)
    unfolding statements
    given_coded =
        (whole_came form mac m.key m.n l ws came (suc (count_in ws)) (omega (arith, J.cleared.bundle.size)) J.cleared.bundle.fields (all_well form m.n ws 1 (suc (count_in ws)) J.cleared.bundle.fields) J.cleared.codes).1

    K : Standing form m.n (reads form l) m.station (state_of form t) took
    K = L.standing

    still_open : (state_of form t).closed ≡ false
    unfolding state_of
    still_open = J.cleared.still_open

    O : Open form m.n (reads form l) m.station (state_of form t) took
    O = K.while_open still_open

    u_step : step u ≡ stage_step g
    u_step = (jump_fitting form mac eight m t ws coin out J).in_step

    up : stage_step (state_of form t).stage < stage_step g
    unfolding state_of
    up = omega (arith, J.ahead, J.fitting.in_step)

    pub sane : Sane form m.n m.station (began m.n t.identity.question t.lasting g u (certificate_of form ws))
    sane = jump_sane form mac eight m t ws coin out J L.lengths

    pub entered : Standing form m.n (bare u ∷ reads form l) m.station (began m.n t.identity.question t.lasting g u (certificate_of form ws)) (u ∷ took)
    unfolding state_of
    entered =
        let F = jump_fitting form mac eight m t ws coin out J in
        entered_standing form m.n m.station t.identity.question t.lasting (reads form l) g u (certificate_of form ws) took J.cleared.range.at_least J.cleared.range.low J.cleared.range.high refl u_step
        (stage_step t.stage) up O.upto K.facts K.asked given_coded F.alike F.backed K.low K.named K.names sane

    pub jump_just : Just m.n (reads form l) u
    unfolding state_of
    jump_just =
        let F = jump_fitting form mac eight m t ws coin out J in
        backed_just m.n (reads form l) u (certificate_of form ws) given_coded F.alike F.backed
