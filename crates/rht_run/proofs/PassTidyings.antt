-- What a tidying makes of its pass's batch.
-- Each operation of the pass makes of its caller what the machine's table says, for the word that it found. So while the tidying goes on, its
-- operations are those of the machine that begins with the batch before the call, and that goes on from the present state. Where the call has
-- ended they are a run of that machine, of which all is so that is shown of it.
use Rattle.std.proofs.Common.{◌≡◌, ℕ, true, List, [], ◌∷◌, ◌++◌, map, refl, sym, ◌∙◌, ap, subst}
use Rattle.std.specs.Prelude.{Option, Some, None, MatchOption}
use Rattle.rht_words.specs.declared.env.Env.{Env}
use Rattle.rht_words.specs.declared.geometry.Geometry.{Geometry}
use Rattle.rht_words.specs.declared.machine.Next.TheVariants.{Go, Done}
use Rattle.rht_model.specs.declared.history.Call.{Call}
use Rattle.rht_model.specs.declared.history.Call.TheVariants.{Tidy}
use Rattle.rht_model.specs.declared.history.Reply.{Reply}
use Rattle.rht_grace.specs.Batch.{BatchModel, IsBatch}
use Rattle.rht_grace.specs.Tidy.{TidyModel, tidy_new, plan_at, after_at, moved}
use Rattle.rht_callers.specs.declared.local.Local.{Local}
use Rattle.rht_callers.specs.declared.local.Doing.{Doing}
use Rattle.rht_callers.specs.declared.local.Doing.TheVariants.{Tidying}
use Rattle.rht_callers.specs.Batches.{IsBatchIn, IsSoundBatch, batch_room, batch_given, batch_after}
use Rattle.rht_callers.specs.Locals.{is_idle, doing_next, doing_after, local_after}
use Rattle.rht_callers.proofs.BatchesOfCallers.{idle-batch}
use Rattle.rht_core.specs.Runs.{View}
use Rattle.rht_core.specs.Tidied.{batch_or}
use Rattle.rht_core.specs.Traces.{Did, performed_of}
use Rattle.rht_core.proofs.Events.BatchesInRuns.{all_in_range}
use Rattle.rht_core.proofs.Machines.TidyRanges.{Came}
use Rattle.rht_core.proofs.Tracing.TidiedBatches.{RunsOn, runs_on, ends_rightly}
use Rattle.rht_run.specs.declared.pass.Pass.{Pass}
use Rattle.rht_run.specs.declared.table.Table.{Table}
use Rattle.rht_run.specs.Rule.{local_then}
use Rattle.rht_run.specs.Passes.{IsPassOf, IsCalling, HasGone}
use Rattle.rht_run.specs.Tidying.{TidiesBatch}
use Rattle.rht_run.proofs.Performed.{of_run, own_batch}

-- the batch is one of this table, and its nodes differ
abbrev pub IsOwn : Geometry → BatchModel → Type 0
IsOwn g own = IsBatch own × (own.geometry ≡ g)

module _ {M : Type 0} (mix : ℕ → ℕ → ℕ → ℕ) (g : Geometry) (own : BatchModel) where
  -- a tidying goes on, and its operations so far are those of the machine that began with this batch
  pub record IsTidying (doing : Doing M) : Type 0 where
    pub machine : TidyModel
    pub doing_is : doing ≡ Tidying machine
    pub same : machine.geometry ≡ g
    pub steps : List Did
    pub runs : RunsOn g own steps (machine.batch, machine.at, Go)

  -- it goes on so behind an operation, or has done what it answers
  abbrev pub TidiesOn : Doing M × Option Reply → Option BatchModel → Type 0
  TidiesOn next batch =
      MatchOption next.1 (IsTidying next.0) (λ reply. IsOwn g own → TidiesBatch reply own (batch_or g batch))

  -- one operation
  pub tidying-on : (local : Local M) → IsTidying local.doing → (old : ℕ)
      → TidiesOn (doing_after mix local.doing old) (batch_after mix local.doing local.batch old)
  tidying-on local is old =
      subst (λ next. TidiesOn next (batch_after mix local.doing local.batch old)) (sym goes_so)
      (subst (TidiesOn (doing_next {M = M} Tidying (moved m came))) (sym batch_so)
      (come_so came (runs_on g own m.batch m.at is.steps did refl is.runs)))
    where
      m : TidyModel
      m = is.machine

      did : Did
      did = record { index = 0; op = plan_at g m.batch m.at; old = old }

      came : Came
      came = after_at g m.batch m.at old

      goes_so : doing_after mix local.doing old ≡ doing_next {M = M} Tidying (moved m came)
      goes_so =
          ap (λ d. doing_after mix d old) is.doing_is
          ∙ ap (λ h. doing_next {M = M} Tidying (moved m (after_at h m.batch m.at old))) is.same

      batch_so : batch_after mix local.doing local.batch old ≡ batch_given (moved m came) local.batch
      batch_so =
          ap (λ d. batch_after mix d local.batch old) is.doing_is
          ∙ ap (λ h. batch_given (moved m (after_at h m.batch m.at old)) local.batch) is.same

      come_so : (next : Came) → RunsOn g own (is.steps ++ did ∷ []) next
          → TidiesOn (doing_next {M = M} Tidying (moved m next)) (batch_given (moved m next) local.batch)
      come_so (batch, state, Go) runs = record {
        machine = record m { batch = batch; at = state };
        doing_is = refl;
        same = is.same;
        steps = is.steps ++ did ∷ [];
        runs = runs;
      }
      come_so (batch, state, Done reply) runs =
          λ sound. record {
            steps = map performed_of (is.steps ++ did ∷ []);
            ends = ends_rightly g own sound.0 sound.1 (is.steps ++ did ∷ []) batch state reply runs;
          }

  -- an operation of a pass
  pub gone-on : (t : Table M) (begins : Option Call) (before : Pass M) (reply : Option Reply) (after : Pass M)
      → IsTidying (local_then t.env before.number begins before.local).doing → HasGone mix t begins before reply after
      → MatchOption reply (IsTidying after.local.doing) (λ answer. IsOwn g own → TidiesBatch answer own (batch_or g after.local.batch))
  gone-on t begins before reply after is gone =
      let local = local_then t.env before.number begins before.local in
      let local_is : after.local ≡ (local_after mix local gone.old).0 = ap (λ (v : View M). v.local) gone.seen in
      subst
      (λ r. MatchOption r (IsTidying after.local.doing) (λ answer. IsOwn g own → TidiesBatch answer own (batch_or g after.local.batch)))
      (sym gone.replied)
      (subst
      (λ (l : Local M). MatchOption (local_after mix local gone.old).1 (IsTidying l.doing)
      (λ answer. IsOwn g own → TidiesBatch answer own (batch_or g l.batch)))
      (sym local_is) (tidying-on local is gone.old))

-- ---- a pass that begins to tidy

-- a batch that is there and sound is the pass's own
sound-own : (env : Env) (batch : Option BatchModel) → IsSoundBatch batch → IsBatchIn env batch
    → IsOwn env.geometry (batch_or env.geometry batch)
sound-own env None sound inside = absurd sound
sound-own env (Some batch) sound inside = (sound, inside)

module _ {M : Type 0} (mix : ℕ → ℕ → ℕ → ℕ) (t : Table M) (p : Pass M) where
  abbrev pub own_of : BatchModel
  own_of = batch_or t.env.geometry p.local.batch

  pub is_own : IsPassOf mix t p → is_idle p.local ≡ true → IsOwn t.env.geometry own_of
  is_own is idle =
      sound-own t.env p.local.batch
      (idle-batch M IsSoundBatch p.local idle
      (of_run mix t p is (λ e c local book. IsSoundBatch (batch_room local.doing local.batch))
      (λ e events c admitted. (all_in_range M mix e events admitted).batches c)))
      (own_batch mix t p is idle)

  -- the machine begins with its batch
  pub begins-tidying : IsPassOf mix t p → is_idle p.local ≡ true
      → IsTidying mix t.env.geometry own_of (local_then t.env p.number (Some Tidy) p.local).doing
  begins-tidying is idle = go p.local.batch refl (own_batch mix t p is idle)
    where
      g : Geometry
      g = t.env.geometry

      go : (batch : Option BatchModel) → p.local.batch ≡ batch → IsBatchIn t.env batch
          → IsTidying mix g own_of (local_then t.env p.number (Some Tidy) p.local).doing
      go None none inside = absurd inside
      go (Some own) some inside = record {
        machine = tidy_new g own;
        doing_is = ap (λ batch. (local_then t.env p.number (Some Tidy) (record p.local { batch = batch })).doing) some;
        same = refl;
        steps = [];
        runs = subst (λ b. RunsOn g (batch_or g b) [] ((tidy_new g own).batch, (tidy_new g own).at, Go)) (sym some) (λ olds. refl);
      }

-- ---- the call

-- the pass is in the tidying, and its operations so far are those of the machine that began with its batch
pub record IsTidyingPass {M : Type 0} (mix : ℕ → ℕ → ℕ → ℕ) (t : Table M) (steps : ℕ) (before now : Pass M) : Type 0 where
  pub calling : IsCalling mix t Tidy steps before now
  pub tidying : IsTidying mix t.env.geometry (batch_or t.env.geometry before.local.batch) now.local.doing
