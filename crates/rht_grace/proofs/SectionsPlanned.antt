-- On which word the pieces work: entering and leaving a read section on the caller's own section word. What they add is 1.
use Rattle.std.proofs.Common.{◌≡◌, ℕ, refl, sym, ap, subst, arith}
use Rattle.rht_words.specs.declared.geometry.Geometry.{Geometry}
use Rattle.rht_words.specs.declared.op.Op.TheVariants.{Add}
use Rattle.rht_words.specs.Places.{Section, place_of}
use Rattle.rht_words.specs.Planned.{IsPlannedIn}
use Rattle.rht_words.proofs.PlannedWords.{planned-at}
use Rattle.rht_grace.specs.Sections.{turning, enter_plan, leave_plan, IsSectionOf, IsEnterIn, IsLeaveIn}
use Rattle.rht_grace.specs.declared.sections.Enter.{Enter}
use Rattle.rht_grace.specs.declared.sections.Leave.{Leave}

module _ (g : Geometry) (caller : ℕ) where
  planned_turning : (section : ℕ) → IsSectionOf caller section → IsPlannedIn g (turning section)
  planned_turning section within =
      subst (λ c. IsPlannedIn g (turning c)) (sym within.own)
      (planned-at g (turning caller) (Section caller) within.within tt refl (omega arith))

  pub planned_enter : (m : Enter) → IsEnterIn caller m → IsPlannedIn g (enter_plan m)
  planned_enter m within = planned_turning m.caller within

  pub planned_leave : (m : Leave) → IsLeaveIn caller m → IsPlannedIn g (leave_plan m)
  planned_leave m within = planned_turning m.caller within

  -- and it is the caller's own word to which they add
  pub enter-own : (m : Enter) → IsEnterIn caller m → enter_plan m ≡ Add (place_of g (Section caller)) 1
  enter-own m within = ap turning within.own

  pub leave-own : (m : Leave) → IsLeaveIn caller m → leave_plan m ≡ Add (place_of g (Section caller)) 1
  leave-own m within = ap turning within.own
