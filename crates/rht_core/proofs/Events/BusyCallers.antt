-- A caller in a call: it plans an operation, one that begins with a call is in it, and it leaves the call exactly where its
-- operation has given the call a reply.
use Rattle.std.proofs.Common.{◌≡◌, ℕ, true, false, refl, subst}
use Rattle.std.specs.Prelude.{Option, Some, None, MatchOption, option_map}
use Rattle.rht_words.specs.declared.env.Env.{Env}
use Rattle.rht_words.specs.declared.op.Op.{Op}
use Rattle.rht_words.specs.declared.machine.Next.{Next}
use Rattle.rht_words.specs.declared.machine.Next.TheVariants.{Go, Done}
use Rattle.rht_model.specs.declared.history.Call.{Call}
use Rattle.rht_model.specs.declared.history.Reply.{Reply}
use Rattle.rht_find.specs.Find.{find_after}
use Rattle.rht_bind.specs.Bind.{bind_after}
use Rattle.rht_release.specs.All.{all_after}
use Rattle.rht_release.specs.Release.{release_after}
use Rattle.rht_release.specs.Rebind.{rebind_after}
use Rattle.rht_move.specs.Work.{work_after}
use Rattle.rht_grace.specs.Batch.{BatchModel}
use Rattle.rht_callers.specs.PortCounts.{count_after}
use Rattle.rht_callers.specs.declared.local.Local.{Local}
use Rattle.rht_callers.specs.declared.local.Doing.{Doing}
use Rattle.rht_callers.specs.declared.local.Doing.TheVariants.{Idle, Finding, Binding, Releasing, Rebinding, Listing, Working, Counting, Tidying, Walking}
use Rattle.rht_callers.specs.Locals.{does_nothing, is_idle, machine_from, doing_plan, soft, plan_of, doing_next, doing_after, local_after, without_node}
use Rattle.rht_grace.specs.Tidy.{tidy_after}
use Rattle.rht_walk.specs.Walk.{walk_after}
use Rattle.rht_callers.proofs.CallBeginnings.{begins_so}

module _ (M : Type 0) where
  -- who is in a call plans an operation
  doing_plans : (doing : Doing M) → does_nothing doing ≡ false → doing_plan doing ≡ None → ⊥
  doing_plans Idle busy none = absurd (cc)
  doing_plans _ busy none = absurd (cc)

  pub busy_plans : (local : Local M) → is_idle local ≡ false → plan_of local ≡ None → ⊥
  busy_plans local busy none = go (doing_plan local.doing) refl none
    where
      go : (planned : Option Op) → doing_plan local.doing ≡ planned → option_map (soft local.held) planned ≡ None → ⊥
      go None is none = doing_plans local.doing busy is
      go (Some op) is none = absurd (cc)

  -- who begins is in a call
  pub begun_busy : (env : Env) (c : ℕ) (batch : Option BatchModel) (start : ℕ) (call : Call) (machine : Doing M) → machine_from env c batch call start ≡ Some machine
      → does_nothing machine ≡ false
  begun_busy env c batch start =
      begins_so M env c batch start (λ call machine. does_nothing machine ≡ false) (λ port. refl) (λ port owner once. refl)
      (λ port. refl) (λ port owner. refl) (λ port owner new. refl) refl refl (λ own has. refl) (λ from limit. refl)

  -- it goes on without a reply, or has one and is idle
  abbrev pub Ends : Doing M × Option Reply → Type 0
  Ends next = MatchOption next.1 (does_nothing next.0 ≡ false) (λ reply. does_nothing next.0 ≡ true)

  next_ends : {A : Type 0} (doing : A → Doing M) → ((m : A) → does_nothing (doing m) ≡ false)
      → (next : A × Next Reply) → Ends (doing_next doing next)
  next_ends doing busy (m, Go) = busy m
  next_ends doing busy (m, Done reply) = refl

  doing_ends : (mix : ℕ → ℕ → ℕ → ℕ) (doing : Doing M) (old : ℕ) → does_nothing doing ≡ false
      → Ends (doing_after mix doing old)
  doing_ends mix Idle old busy = absurd (cc)
  doing_ends mix (Finding m) old busy = next_ends Finding (λ n. refl) (find_after mix m old)
  doing_ends mix (Binding m) old busy = next_ends Binding (λ n. refl) (bind_after mix m old)
  doing_ends mix (Listing m) old busy = next_ends Listing (λ n. refl) (all_after mix m old)
  doing_ends mix (Releasing m) old busy =
      let next = release_after mix m old in next_ends Releasing (λ n. refl) (next.0, without_node next.1)
  doing_ends mix (Rebinding m) old busy =
      let next = rebind_after mix m old in next_ends Rebinding (λ n. refl) (next.0, without_node next.1)
  doing_ends mix (Working m) old busy = next_ends Working (λ n. refl) (work_after mix m old)
  doing_ends mix (Tidying m) old busy = next_ends Tidying (λ n. refl) (tidy_after m old)
  doing_ends mix (Walking m) old busy = next_ends Walking (λ n. refl) (walk_after m old)
  doing_ends mix (Counting m) old busy = next_ends Counting (λ n. refl) (count_after m old)

  -- an operation that gives no reply leaves its caller in the call
  pub goes_on : (mix : ℕ → ℕ → ℕ → ℕ) (local : Local M) (old : ℕ) → is_idle local ≡ false
      → (local_after mix local old).1 ≡ None → is_idle (local_after mix local old).0 ≡ false
  goes_on mix local old busy none =
      let next = doing_after mix local.doing old in
      subst (λ r. MatchOption r (does_nothing next.0 ≡ false) (λ reply. does_nothing next.0 ≡ true)) none
      (doing_ends mix local.doing old busy)

  -- and one that gives a reply ends it
  pub ends : (mix : ℕ → ℕ → ℕ → ℕ) (local : Local M) (old : ℕ) (reply : Reply) → is_idle local ≡ false
      → (local_after mix local old).1 ≡ Some reply → is_idle (local_after mix local old).0 ≡ true
  ends mix local old reply busy some =
      let next = doing_after mix local.doing old in
      subst (λ r. MatchOption r (does_nothing next.0 ≡ false) (λ answer. does_nothing next.0 ≡ true)) some
      (doing_ends mix local.doing old busy)
