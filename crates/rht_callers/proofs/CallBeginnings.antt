-- How a call begins, and that who is in no call plans no operation.
-- These go by cases on calls and machines, so that nothing above them has to.
use Rattle.std.proofs.Common.{◌≡◌, ℕ, Bool, true, refl, ap, subst}
use Rattle.std.specs.Prelude.{Option, Some, None, option_map}
use Rattle.rht_words.specs.declared.env.Env.{Env}
use Rattle.rht_model.specs.declared.history.Call.{Call}
use Rattle.rht_model.specs.declared.history.Call.TheVariants.{Bind, Find, Release, Rebind, All, Walk, Work, Tidy, Count}
use Rattle.rht_model.specs.declared.history.Cursor.{Cursor}
use Rattle.rht_find.specs.Find.{find_new}
use Rattle.rht_bind.specs.Bind.{bind_from}
use Rattle.rht_release.specs.All.{all_new}
use Rattle.rht_callers.specs.declared.local.Local.{Local}
use Rattle.rht_callers.specs.declared.local.Doing.{Doing}
use Rattle.rht_callers.specs.declared.local.Doing.TheVariants.{Idle, Finding, Binding, Releasing, Rebinding, Listing, Working, Counting, Tidying, Walking}
use Rattle.rht_callers.specs.Locals.{room_for_nodes, does_nothing, is_idle, machine_from, tidying_of, doing_plan, soft, plan_of}
use Rattle.rht_release.specs.Release.{release_new}
use Rattle.rht_release.specs.Rebind.{rebind_from}
use Rattle.rht_move.specs.Work.{work_new}
use Rattle.rht_grace.specs.Batch.{BatchModel}
use Rattle.rht_grace.specs.Tidy.{tidy_new}
use Rattle.rht_walk.specs.Walk.{walk_new}

module _ (M : Type 0) where
  -- A call begins as a look-up, a bind, a listing, a release, a rebind, a resizing, a reading of the count, a
  -- tidying of its caller's batch, or a walk. What is so of these is so of whatever begins.
  module _ (env : Env) (c : ℕ) (batch : Option BatchModel) (start : ℕ) (So : Call → Doing M → Type 0)
      (find : (port : ℕ) → So (Find port) (Finding (find_new env c port)))
      (bind : (port owner : ℕ) (once : Bool) → So (Bind port owner once) (Binding (bind_from env c port owner once start)))
      (list : (port : ℕ) → So (All port) (Listing (all_new env c port (room_for_nodes env))))
      (release : (port owner : ℕ) → So (Release port owner) (Releasing (release_new env c port owner)))
      (rebind : (port owner new : ℕ) → So (Rebind port owner new) (Rebinding (rebind_from env c port owner new start)))
      (work : So Work (Working (work_new env c)))
      (count : So Count (Counting (record { env = env })))
      (tidy : (own : BatchModel) → batch ≡ Some own → So Tidy (Tidying (tidy_new env.geometry own)))
      (walk : (from : Option Cursor) (limit : ℕ)
      → So (Walk from limit) (Walking (walk_new env c from limit (room_for_nodes env))))
    where
      abbrev BeginsSo : Call → Option (Doing M) → Type 0
      BeginsSo call None = Unit {0}
      BeginsSo call (Some machine) = So call machine

      tidying-so : (has : Option BatchModel) → batch ≡ has → BeginsSo Tidy (tidying_of env has)
      tidying-so None is = tt
      tidying-so (Some own) is = tidy own is

      machine-so : (call : Call) → BeginsSo call (machine_from env c batch call start)
      machine-so (Find port) = find port
      machine-so (Bind port owner once) = bind port owner once
      machine-so (All port) = list port
      machine-so (Release port owner) = release port owner
      machine-so (Rebind port owner new) = rebind port owner new
      machine-so Work = work
      machine-so Tidy = tidying-so batch refl
      machine-so Count = count
      machine-so (Walk from limit) = walk from limit

      pub begins_so : (call : Call) (machine : Doing M) → machine_from env c batch call start ≡ Some machine
          → So call machine
      begins_so call machine is = subst (BeginsSo call) is (machine-so call)

  -- who is in no call plans none
  nothing_plans : (doing : Doing M) → does_nothing doing ≡ true → doing_plan doing ≡ None
  nothing_plans Idle idle = refl
  nothing_plans _ idle = absurd (cc)

  pub idle_plans : (local : Local M) → is_idle local ≡ true → plan_of local ≡ None
  idle_plans local idle = ap (option_map (soft local.held)) (nothing_plans local.doing idle)
