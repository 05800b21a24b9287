-- A sound site before a call: what is known of it, and its module with the group's key, its size and the site's number written out. A call that is refused changes
-- nothing there.
use Rattle.std.specs.Prelude.{◌≡◌, refl, false, List, ◌∷◌, ℕ, ◌≤◌}
use Rattle.std.proofs.Math.Path.{sym, ap}
use Rattle.std.proofs.Common.{◌∙◌}
use Rattle.format.specs.Form.{present_form}
use Rattle.modules.specs.declared.Module.{Module}
use Rattle.station.specs.declared.Station.{Station}
use Rattle.station.specs.Machine as Mach
use Rattle.station.specs.Calls.{Returned}
use Rattle.station.specs.Returns.{unrefused}
use Rattle.station.specs.Demand.{OfGroup}
use Rattle.station.specs.Present.{returned}
use Rattle.agreement.proofs.Laws.Ground.{Ground}
use Rattle.agreement.proofs.Laws.Lists.{module_now, lineage_refused}
use Rattle.agreement.proofs.Laws.Run.{Inv}
use Rattle.agreement.specs.Demand.{Action, Call, call, member}
use Rattle.agreement.specs.Present.{modules, answer}
use Rattle.never_stuck.proofs.Laws.Course.{Course, still}

module _ (G : Ground present_form) where
  open G use {mac, key, n}

  -- what is known of a sound site after the calls cs
  pub record SoundSite (faulty : List ℕ) (cs : List Call) (i : ℕ) : Type 0 where
    pub low : 1 ≤ i
    pub high : i ≤ n
    pub sound : member i faulty ≡ false
    pub before : Inv present_form G faulty cs
    pub course_of : Course G cs i

  -- ---- its module, with the group's key and size and the site's number written out
  module _ (cs : List Call) (i : ℕ) where
    abbrev pub module_of : Module
    module_of = record { key = key; n = n; station = i; last = (modules mac key n cs i).last }

    pub in_group : OfGroup key n i module_of
    in_group = record { same_key = refl; same_n = refl; same_site = refl }

  module _ (faulty : List ℕ) (cs : List Call) (i : ℕ) (site : SoundSite faulty cs i) where
    open site use {low, high, before, course_of}

    as_shown : OfGroup key n i (modules mac key n cs i)
    as_shown = before.logs.mods i low high

    pub module_is : modules mac key n cs i ≡ module_of cs i
    module_is = λ z. record { key = as_shown.same_key z; n = as_shown.same_n z; station = as_shown.same_site z; last = (modules mac key n cs i).last }

    -- a call that is refused changes nothing
    pub refused_course : (a : Action) (t : Station) (out : List ℕ) (k : ℕ) → unrefused k ≡ false → answer mac key n cs (call i a) ≡ returned (module_of cs i) t out (Mach.refused k)
        → Course G (call i a ∷ cs) i
    unfolding Rattle.station.specs.Calls.returned
    refused_course a t out k z e =
        still G (call i a) cs i (λ o. lineage_refused present_form mac key n (call i a) cs i o (ap (λ (r : Returned). unrefused r.number) e ∙ z))
        (module_now present_form mac key n (call i a) cs ∙ ap (λ (r : Returned). r.after) e ∙ sym module_is) course_of
