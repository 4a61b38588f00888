-- In every run of a table in the plain ways callers begin and plan as if there were no starts and no holds: each start is read as 0, and
-- by the invariant no caller holds its section.
use Rattle.std.proofs.Common.{◌≡◌, ℕ, Bool, true, false, List, refl, ap, ◌∙◌}
use Rattle.std.specs.Prelude.{◌&&◌, nat_lt, if◌then◌else◌, Option, Some, None, option_map}
use Rattle.rht_words.specs.declared.op.Op.{Op}
use Rattle.rht_words.specs.declared.env.Env.{Env}
use Rattle.rht_words.specs.Ports.{word_of}
use Rattle.rht_words.specs.Settled.{plain_ways}
use Rattle.rht_words.proofs.WordsBegun.{start_in-plain}
use Rattle.rht_model.specs.declared.history.Call.{Call}
use Rattle.rht_model.specs.declared.history.Call.TheVariants.{Find, Bind, All, Release, Rebind, Work, Tidy, Walk, Count}
use Rattle.rht_arena.specs.NewNode.{new_node_from}
use Rattle.rht_grace.specs.Batch.{BatchModel}
use Rattle.rht_bind.specs.declared.bind.BindAt.TheVariants as bind_states
use Rattle.rht_release.specs.declared.rebind.RebindAt.TheVariants as rebind_states
use Rattle.rht_callers.specs.declared.local.Doing.{Doing}
use Rattle.rht_callers.specs.declared.local.Doing.TheVariants.{Binding, Rebinding}
use Rattle.rht_callers.specs.Locals.{is_idle, may_hold, machine_from, machine_of, soft, doing_plan}
use Rattle.rht_core.specs.declared.event.Event.{Event}
use Rattle.rht_core.specs.Runs.{local_of, run_of, IsAdmitted}
use Rattle.rht_core.specs.PlainRuns.{PlainRuns}
use Rattle.rht_core.proofs.Machines.HeldSteps.{soft-none}
use Rattle.rht_core.proofs.Events.InvariantRuns.{has_inv}

module _ {M : Type 0} (env : Env) (plain : env.ways ≡ plain_ways) where
  -- a search from any start is the one from word 0
  machine-plain : (c : ℕ) (batch : Option BatchModel) (call : Call) (start : ℕ)
      → ◌≡◌ {A = Option (Doing M)} (machine_from env c batch call start) (machine_of env c batch call)
  machine-plain c batch (Find port) start = refl
  machine-plain c batch (Bind port owner once) start =
      ap
      (λ word. Some (Binding (record {
        env = env;
        caller = c;
        port = port;
        owner = owner;
        once = once;
        at = bind_states.Filling (new_node_from env.geometry (word_of port) owner word);
      })))
      (start_in-plain env start plain)
  machine-plain c batch (All port) start = refl
  machine-plain c batch (Release port owner) start = refl
  machine-plain c batch (Rebind port owner new) start =
      ap
      (λ word. Some (Rebinding (record {
        env = env;
        caller = c;
        port = port;
        owner = owner;
        new_owner = new;
        at = rebind_states.Filling (new_node_from env.geometry (word_of port) new word);
      })))
      (start_in-plain env start plain)
  machine-plain c batch Work start = refl
  machine-plain c batch Tidy start = refl
  machine-plain c batch (Walk from limit) start = refl
  machine-plain c batch Count start = refl

and-true : (b : Bool) → (b && true) ≡ b
and-true true = refl
and-true false = refl

-- who holds no section makes the operation that is planned
softened-none : (planned : Option Op) → option_map (soft false) planned ≡ planned
softened-none None = refl
softened-none (Some op) = ap Some (soft-none op)

module _ (M : Type 0) (mix : ℕ → ℕ → ℕ → ℕ) where
  pub plain_runs : PlainRuns M mix
  plain_runs env events admitted plain =
      let core = (run_of {M = M} mix env events).core in
      let has = has_inv env mix M events admitted in
      let rests = has.inv.rests in
      let ways : core.env.ways ≡ plain_ways = ap (λ (e : Env). e.ways) has.inv.same_env ∙ plain in
      record {
        begins = λ c call start.
            let local = local_of core c in
            let machine = machine_from core.env c local.batch call start in
            ap (λ held. if nat_lt c core.enrolled && (is_idle local && may_hold held call) then machine else None) (rests c)
            ∙ ap (λ idle. if nat_lt c core.enrolled && idle then machine else None) (and-true (is_idle local))
            ∙ ap (λ m. if nat_lt c core.enrolled && is_idle local then m else None)
            (machine-plain core.env ways c local.batch call start);
        plans = λ c.
            let local = local_of core c in
            ap (λ held. option_map (soft held) (doing_plan local.doing)) (rests c) ∙ softened-none (doing_plan local.doing);
      }
