-- What is known of a sound site's station, as a state: all that it took was coded and is justified, and its decision is what its votes say.
use Rattle.std.specs.Prelude.{◌≡◌, false, List, ◌∷◌, ℕ, ◌≤◌, ◌<◌}
use Rattle.laws.specs.All.{All, all_map}
use Rattle.laws.specs.Count.{count}
use Rattle.format.specs.Form.{Form}
use Rattle.format.specs.Numbers.{none}
use Rattle.format.specs.Group.{quorum}
use Rattle.format.specs.Statement.{Statement, step}
use Rattle.station.specs.Machine.{State, stage_step}
use Rattle.station.proofs.Laws.Sane.{Sane}
use Rattle.station.proofs.Laws.End.{EarlyDGet}
use Rattle.agreement.specs.Maths.Votes.{votes}
use Rattle.agreement.proofs.Maths.Log.{In}
use Rattle.agreement.proofs.Maths.Safe.{Just}
use Rattle.agreement.proofs.Maths.Just.{Coded, just_more, coded_more}
use Rattle.agreement.proofs.Maths.Took.{NowHeld}

pub record Enough (n : ℕ) (took : List Statement) (question v : ℕ) : Type 0 where
  pub round : ℕ
  pub enough : quorum n ≤ count (votes took question round v) n

module _ (form : Form) (n : ℕ) where
  -- while it is open: what it holds is what it took in its step, and the groups that it keeps were coded
  pub record Open (l : List Statement) (site : ℕ) (u : State) (took : List Statement) : Type 0 where
    pub sane : Sane form n site u
    pub given : EarlyDGet u.held
    pub among : All (λ s. In s took) u.held
    pub for_value_coded : All (Coded n l) u.for_value
    pub for_none_coded : All (Coded n l) u.for_none
    pub upto : All (λ s. step s ≤ stage_step u.stage) took
    pub now_held : NowHeld (stage_step u.stage) u.held took

  pub record Standing (l : List Statement) (site : ℕ) (u : State) (took : List Statement) : Type 0 where
    pub facts : All (λ s. Coded n l s × Just n l s) took
    pub asked : All (λ s. s.question ≡ u.question) took
    pub low : u.lasting.decision ≤ none
    pub named : (v : ℕ) → v < none → u.lasting.decision ≡ v → Enough n took u.question v
    pub names : (v r : ℕ) → v < none → quorum n ≤ count (votes took u.question r v) n → u.lasting.decision < none
    pub while_open : u.closed ≡ false → Open l site u took

  -- it stays so as the log grows
  pub standing_more : (s : Statement) (l : List Statement) (site : ℕ) (u : State) (took : List Statement) → Standing l site u took → Standing (s ∷ l) site u took
  standing_more s l site u took K =
      record {
        facts = all_map (λ x p. (coded_more n s l x p.0, just_more n s l x p.1)) took K.facts;
        asked = K.asked;
        low = K.low;
        named = K.named;
        names = K.names;
        while_open = λ e. let o = K.while_open e in
            record {
              sane = o.sane;
              given = o.given;
              among = o.among;
              for_value_coded = all_map (coded_more n s l) u.for_value o.for_value_coded;
              for_none_coded = all_map (coded_more n s l) u.for_none o.for_none_coded;
              upto = o.upto;
              now_held = o.now_held;
            };
      }
