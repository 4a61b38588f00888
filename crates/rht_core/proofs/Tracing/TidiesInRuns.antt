-- In every run a tidying that has ended gave back just the nodes that were due, where it cleared, or none where they wait. It leaves its
-- caller the batch that it is to leave. Its operations are those of the machine that begins with the batch before.
-- Of each caller it is kept, event by event, what its tidying has given back beside the batch before the call began, and that the machine
-- which begins with that batch goes on from the present state. That batch is sound, by the invariant.
-- And a caller in no call has the batch that was there behind its last call, for no event of another caller touches it.
use Rattle.std.proofs.Common.{◌≡◌, ◌↔◌, ℕ, suc, ◌+◌, ◌/◌, ◌<◌, ◌≤◌, ◌++◌, ◌∷◌, List, [], length, take, drop, get_or, map, true, false, Option, Some, None, refl, sym, ap, ◌∙◌, subst, inl, inr, append_assoc, drop-cons, length-append, arith}
use Rattle.rht_core.specs.Jobs.{call_of}
use Rattle.rht_callers.specs.Locals.{soft, may_hold}
use Rattle.rht_core.proofs.Machines.HeldSteps.{none_over, soft-none}
use Rattle.std.specs.Int.{bit_at}
use Rattle.std.specs.List.{AllByRecursion, slice_get}
use Rattle.std.proofs.lemmas.List.{append-nil}
use Rattle.rht_words.specs.declared.env.Env.{Env}
use Rattle.rht_words.specs.declared.machine.Next.TheVariants.{Go, Done}
use Rattle.rht_words.specs.Operations.{old_of}
use Rattle.rht_words.proofs.EachElement.{AllByRecursion-append, AllByRecursion-weaker, slice_get-push_last}
use Rattle.rht_model.specs.declared.history.Call.{Call}
use Rattle.rht_model.specs.declared.history.Call.TheVariants.{Tidy}
use Rattle.rht_model.specs.declared.history.Reply.{Reply}
use Rattle.rht_model.specs.declared.history.Reply.TheVariants.{Clear, Pending}
use Rattle.rht_model.specs.Endings.{Ending, ended_with}
use Rattle.rht_arena.specs.Laws.{map_bit}
use Rattle.rht_grace.specs.Batch.{BatchModel}
use Rattle.rht_grace.specs.Tidy.{TidyModel, tidy_new, plan_at, after_at, moved}
use Rattle.rht_grace.specs.declared.tidy.TidyAt.TheVariants as at
use Rattle.rht_callers.specs.declared.local.Local.{Local}
use Rattle.rht_callers.specs.declared.local.Doing.{Doing}
use Rattle.rht_callers.specs.declared.local.Doing.TheVariants.{Tidying}
use Rattle.rht_callers.specs.Batches.{batch_room, batch_given, batch_after, nodes_left}
use Rattle.rht_callers.proofs.BatchesOfCallers.{idle-batch}
use Rattle.rht_callers.specs.Locals.{does_nothing, is_idle, machine_from, doing_next, doing_after, local_after, ending_of, IsDoingOf}
use Rattle.rht_callers.proofs.CallBeginnings.{begins_so}
use Rattle.rht_core.specs.declared.event.Event.{Event}
use Rattle.rht_core.specs.declared.event.Event.TheVariants.{Begin, Step}
use Rattle.rht_core.specs.Laws.{view_begun}
use Rattle.rht_core.specs.Jobs.{tidies, job_of, job_plan}
use Rattle.rht_core.specs.Runs.{Core, World, View, run_of, local_of, view_of, finished_with, book_after, IsAdmitted}
use Rattle.rht_core.specs.Lookups.{TidiesSoon}
use Rattle.rht_core.specs.Tidied.{GivesNode, TidiesRightly, HasTidied, Tidied, Rests, batch_or, batch_before}
use Rattle.rht_core.specs.Tidyings.{IsTidyingIn}
use Rattle.rht_core.specs.Traces.{Did, Past, Trace, performed_of, traced_of, trace_begun, trace_did, behind_call, behind_steps}
use Rattle.rht_core.proofs.Events.BatchesInRuns.{AreSound, sound_before}
use Rattle.rht_core.proofs.Events.BusyCallers.{begun_busy, goes_on, ends}
use Rattle.rht_core.proofs.Events.OwnBatches.{is_tidying}
use Rattle.rht_core.proofs.Events.SoundRuns.{runs-in}
use Rattle.rht_core.proofs.Machines.JobSteps.{JobIn, JobKnows}
use Rattle.rht_core.proofs.Machines.TidyRanges.{Came, waiting_low}
use Rattle.rht_core.proofs.Machines.TidySteps.{OwnsNodes}
use Rattle.rht_core.proofs.Undoing.GoingBack.{clear_where}
use Rattle.rht_core.proofs.Tracing.BatchesAtEvents.{stays-other, own_of, of-core, batch-next, batch-behind, made-busy}
use Rattle.rht_core.proofs.Tracing.TidiedBatches.{HasCome, ComesTo, EndsSo, RunsOn, comes, runs_on, ends_rightly, is_soon, begins_so as tidy_begins}
use Rattle.rht_core.proofs.Tracing.TracedCallers.{IsMade, IsKeptTraced, traced_callers_keep}
use Rattle.rht_core.proofs.Tracing.TracedRuns.{world-traced_of}
use Rattle.rht_core.proofs.Tracing.TracesAtEvents.{behind_steps-push}
use Rattle.rht_ghost.proofs.Theory.Ghosts.{Free, Taken}
use Rattle.rht_ghost.proofs.Theory.Steps.{mem}
use Rattle.rht_grace.specs.TidyLaws.{due_of, left_of, EndsRightly, tidy_bound}
use Rattle.rht_words.specs.Members.{In}
use Rattle.rht_words.specs.Places.{NodeMap, word_at}
use Rattle.rht_words.proofs.Members.{in-middle}

module _ (M : Type 0) (mix : ℕ → ℕ → ℕ → ℕ) (env : Env) where
  module _ (events : List Event) (c : ℕ) (sound : AreSound env mix M events c) where
    abbrev batch_at : ℕ → BatchModel
    batch_at index = batch_before M mix env events c index

    -- what a tidying in progress has done, and what one has that has come so far
    abbrev IsOn : BatchModel → TidyModel → List Did → Type 0
    IsOn own m steps = HasCome env.geometry own m.batch m.at steps × RunsOn env.geometry own steps (m.batch, m.at, Go)

    abbrev ComesOn : BatchModel → List Did → Came → Type 0
    ComesOn own steps came = ComesTo env.geometry own steps came × RunsOn env.geometry own steps came

    -- ---- what is kept

    record EndedSo (past : Past) : Type 0 where
      tidied : HasTidied M mix env events c past
      soon : length past.steps ≤ tidy_bound env.geometry

    abbrev PastTidied : Past → Type 0
    PastTidied past = past.done.call ≡ Tidy → EndedSo past

    record Keeps (view : View M) (trace : Trace) : Type 0 where
      past : AllByRecursion PastTidied trace.past
      asked : view.book.call ≡ Some Tidy → (m : TidyModel) × (view.local.doing ≡ Tidying m)
      now : (m : TidyModel) → view.local.doing ≡ Tidying m → IsOn (batch_at trace.begin) m trace.steps
      called : is_idle view.local ≡ false → (call : Call) × (view.book.call ≡ Some call)
      rested : is_idle view.local ≡ true → (i : ℕ) (last : Past) → slice_get trace.past i ≡ Some last → length trace.past ≡ i + 1
          → batch_at (behind_call last) ≡ own_of M mix env view.local

    abbrev KeepsSoFar : List Event → ℕ → View M → Trace → Type 0
    KeepsSoFar so_far caller view trace = caller ≡ c → (rest : List Event) → events ≡ so_far ++ rest → Keeps view trace

    -- ---- a call begins

    begun-asked : (batch : Option BatchModel) (start : ℕ) (call : Call) (machine : Doing M) → machine_from env c batch call start ≡ Some machine
        → Some call ≡ Some Tidy → (m : TidyModel) × (machine ≡ Tidying m)
    begun-asked batch start =
        begins_so M env c batch start (λ call machine. Some call ≡ Some Tidy → (m : TidyModel) × (machine ≡ Tidying m))
        (λ port is. absurd (cc)) (λ port owner once is. absurd (cc)) (λ port is. absurd (cc)) (λ port owner is. absurd (cc))
        (λ port owner new is. absurd (cc)) (λ is. absurd (cc)) (λ is. absurd (cc))
        (λ own has is. (tidy_new env.geometry own, refl)) (λ from limit is. absurd (cc))

    begun-come : (batch : Option BatchModel) (start : ℕ) (call : Call) (machine : Doing M) → machine_from env c batch call start ≡ Some machine
        → (m : TidyModel) → machine ≡ Tidying m
        → IsOn (batch_or env.geometry batch) m []
    begun-come batch start =
        begins_so M env c batch start
        (λ call machine. (m : TidyModel) → machine ≡ Tidying m → IsOn (batch_or env.geometry batch) m [])
        (λ port m is. absurd (cc)) (λ port owner once m is. absurd (cc)) (λ port m is. absurd (cc)) (λ port owner m is. absurd (cc))
        (λ port owner new m is. absurd (cc)) (λ m is. absurd (cc)) (λ m is. absurd (cc))
        (λ own has m is.
        let here : tidy_new env.geometry own ≡ m = cc in
        subst (λ (n : TidyModel). IsOn (batch_or env.geometry batch) n []) here
        (subst (λ b. IsOn b (tidy_new env.geometry own) []) (sym (ap (batch_or env.geometry) has))
        (tidy_begins env.geometry own, λ olds. refl)))
        (λ from limit m is. absurd (cc))

    begin-keeps : (so_far rest : List Event) (call : Call) (start : ℕ) (machine : Doing M) (index : ℕ) (view : View M) (trace : Trace)
        → events ≡ so_far ++ rest → index ≡ length so_far → view_of (traced_of {M = M} mix env so_far).world c ≡ view
        → is_idle view.local ≡ true → machine_from env c view.local.batch call start ≡ Some machine → Keeps view trace
        → Keeps (view_begun call machine view) (trace_begun index trace)
    begin-keeps so_far rest call start machine index view trace all at now idle is keeps =
        let run = ap (λ (w : World M). w.core) (world-traced_of M mix env so_far) in
        let stays = runs-in M mix env so_far in
        let here : local_of (run_of {M = M} mix env so_far).core c ≡ view.local =
        ap (λ (core : Core M). local_of core c) (sym run) ∙ ap (λ (v : View M). v.local) now in
        let own : batch_at index ≡ batch_or env.geometry view.local.batch =
        batch-next M mix env events c so_far rest all index at ∙ of-core M mix env c (run_of {M = M} mix env so_far).core view.local stays.same_env here
        ∙ ap (batch_or env.geometry) (idle-batch M (λ batch. batch_room view.local.doing view.local.batch ≡ batch) view.local idle refl) in
        record {
          past = keeps.past;
          asked = begun-asked view.local.batch start call machine is;
          now = λ m tidies_now.
              subst (λ b. IsOn b m []) (sym own) (begun-come view.local.batch start call machine is m tidies_now);
          called = λ busy. (call, refl);
          rested = λ idle_now i last place long. absurd (let busy = begun_busy M env c view.local.batch start call machine is in cc);
        }

    -- ---- an operation

    module _ (so_far rest : List Event) (all : events ≡ so_far ++ Step c ∷ rest) (did : Did) (view : View M) (trace : Trace)
        (made : IsMade M mix env so_far c view.local did) (keeps : Keeps view trace) where
      abbrev steps : List Did
      steps = trace.steps ++ did ∷ []

      abbrev next : Local M × Option Reply
      next = local_after mix view.local did.old

      behind-is : batch_at (did.index + 1) ≡ own_of M mix env next.0
      behind-is = batch-behind M mix env events c so_far rest all did view.local made

      -- it is in a call
      busy : is_idle view.local ≡ false
      busy = made-busy M mix env events c so_far rest all did view.local made

      -- what a tidying comes to
      module _ (m : TidyModel) (same : view.local.doing ≡ Tidying m) where
        abbrev came : Came
        came = after_at env.geometry m.batch m.at did.old

        geometry_is : m.geometry ≡ env.geometry
        geometry_is = subst (IsDoingOf env) same made.table.doing

        goes_so : doing_after mix view.local.doing did.old ≡ doing_next Tidying (moved m came)
        goes_so =
            ap (λ d. doing_after mix d did.old) same
            ∙ ap (λ g. doing_next {M = M} Tidying (moved m (after_at g m.batch m.at did.old))) geometry_is

        batch_so : batch_after mix view.local.doing view.local.batch did.old ≡ batch_given (moved m came) view.local.batch
        batch_so =
            ap (λ d. batch_after mix d view.local.batch did.old) same
            ∙ ap (λ g. batch_given (moved m (after_at g m.batch m.at did.old)) view.local.batch) geometry_is

        job_is : made.known.step.job ≡ tidies m.batch m.at
        job_is = let both = sym made.known.step.is ∙ ap (λ (local : Local M). job_of local.doing) made.known.here ∙ ap job_of same in cc

        within : IsTidyingIn env.geometry m.batch m.at
        within = subst (JobIn env mix c) job_is made.known.step.within

        owns : OwnsNodes env mix c (nodes_left m.batch m.at) made.known.ghost
        owns =
            let knows = subst (λ job. JobKnows env mix c job (mem env mix made.known.core.words) made.known.ghost) job_is made.known.step.knows in
            knows.fits

        plan_is : did.op ≡ plan_at env.geometry m.batch m.at
        plan_is =
            let over = (local_of made.known.core c).held in
            let may = subst (λ job. may_hold over (call_of job) ≡ true) job_is made.known.step.may in
            made.known.step.plan ∙ ap (λ o. soft o (job_plan env c made.known.step.job)) (none_over over may)
            ∙ soft-none (job_plan env c made.known.step.job) ∙ ap (job_plan env c) job_is

        -- the node that it gives back was taken
        was_taken : (index : ℕ) → m.at ≡ at.Giving index
            → (get_or m.batch.waiting index 0 < env.geometry.nodes) × (bit_at did.old (map_bit (get_or m.batch.waiting index 0)) ≡ 0)
        was_taken index is =
            let n = get_or m.batch.waiting index 0 in
            let here_in = subst (IsTidyingIn env.geometry m.batch) is within in
            let low = waiting_low env.geometry m.batch (at.Giving index) index here_in in
            let mine : made.known.ghost.node n ≡ Taken c =
            (subst (λ state. OwnsNodes env mix c (nodes_left m.batch state) made.known.ghost) is owns).out n
            (subst (λ nodes. In n (m.batch.fresh ++ nodes)) (sym (drop-cons m.batch.waiting index 0 here_in.at_in))
            (in-middle n m.batch.fresh (drop (suc index) m.batch.waiting))) in
            let word : did.old ≡ word_at env.geometry made.known.core.words (NodeMap (n / 64)) =
            made.known.found
            ∙ ap (old_of made.known.core.words) (plan_is ∙ ap (plan_at env.geometry m.batch) is) in (
              low,
              ap (λ w. bit_at w (map_bit n)) word
                  ∙ clear_where _ (map_bit n) (λ set.
                  let free : made.known.ghost.node n ≡ Free = (made.known.inv.whole.arena.bits n low).0 set in
                  let both : Taken c ≡ Free = sym mine ∙ free in cc),
            )

        came_so : ComesOn (batch_at trace.begin) steps came
        came_so =
            let now = keeps.now m same in (
              comes env.geometry (batch_at trace.begin) m.batch m.at trace.steps did within.at_in plan_is was_taken now.0,
              runs_on env.geometry (batch_at trace.begin) m.batch m.at trace.steps did plan_is now.1,
            )

      -- ---- what is kept then

      abbrev Kept : Local M → Option Reply → Type 0
      Kept local reply =
          Keeps (record { local = local; book = book_after (ending_of local reply) view.book })
          (trace_did view.book.call did (ending_of local reply) trace)

      left_come : (m : TidyModel) (came : Came) → ComesOn (batch_at trace.begin) steps came
          → (doing_next {M = M} Tidying (moved m came)).1 ≡ None
          → (other : TidyModel) → (doing_next {M = M} Tidying (moved m came)).0 ≡ Tidying other
          → IsOn (batch_at trace.begin) other steps
      left_come m (batch, state, Go) come none other is =
          let here : record m { batch = batch; at = state } ≡ other = cc in
          subst (λ (n : TidyModel). IsOn (batch_at trace.begin) n steps) here come
      left_come m (batch, state, Done reply) come none other is = absurd (cc)

      left_tidies : (m : TidyModel) (came : Came) → (doing_next {M = M} Tidying (moved m came)).1 ≡ None
          → (other : TidyModel) × ((doing_next {M = M} Tidying (moved m came)).0 ≡ Tidying other)
      left_tidies m (batch, state, Go) none = (record m { batch = batch; at = state }, refl)
      left_tidies m (batch, state, Done reply) none = absurd (cc)

      keep_go : next.1 ≡ None → Kept next.0 None
      keep_go none = record {
        past = keeps.past;
        asked = λ is.
            let was = keeps.asked is in
            let ends_none = sym (ap (λ d. d.1) (goes_so was.0 was.1)) ∙ none in
            let other = left_tidies was.0 (came was.0 was.1) ends_none in
            (other.0, ap (λ d. d.0) (goes_so was.0 was.1) ∙ other.1);
        now = λ other is. elim (is_tidying M view.local.doing) [
          | inl was ↦
              left_come was.0 (came was.0 was.1) (came_so was.0 was.1) (sym (ap (λ d. d.1) (goes_so was.0 was.1)) ∙ none) other
              (sym (ap (λ d. d.0) (goes_so was.0 was.1)) ∙ is)
          | inr none_before ↦ absurd (stays-other M mix env view.local.doing did.old none_before other is)
        ];
        called = λ still. keeps.called busy;
        rested = λ idle_now i last place long. absurd (let still = goes_on M mix view.local did.old busy none in cc);
      }

      -- a call that began at this event and had these operations
      abbrev EndsAs : ℕ → Reply → BatchModel → List Did → Type 0
      EndsAs begin reply after did = EndsRightly (batch_at begin) (record { reply = reply; batch = after }) (map performed_of did)

      -- what has ended with this reply, and leaves this batch
      record HasEnded (after : BatchModel) (reply : Reply) : Type 0 where
        so : EndsSo env.geometry (batch_at trace.begin) after reply steps
        ends : EndsAs trace.begin reply after steps
        soon : length steps ≤ tidy_bound env.geometry

      ended_so : (m : TidyModel) (came : Came) (reply : Reply) → ComesOn (batch_at trace.begin) steps came
          → (doing_next {M = M} Tidying (moved m came)).1 ≡ Some reply
          → HasEnded came.0 reply
          × (batch_or env.geometry (batch_room (doing_next {M = M} Tidying (moved m came)).0 (batch_given (moved m came) view.local.batch)) ≡ came.0)
      ended_so m (batch, state, Go) reply come is = absurd (cc)
      ended_so m (batch, state, Done given) reply come is =
          let same : given ≡ reply = cc in
          let own = batch_at trace.begin in
          let right = sound trace.begin in (
            subst (HasEnded batch) same
                (record {
                  so = come.0;
                  ends = ends_rightly env.geometry own right.0 right.1 steps batch state given come.1;
                  soon = is_soon env.geometry own right.0 right.1 steps (batch, state, Done given) come.1;
                }),
            refl,
          )

      rightly : (reply : Reply) (after : BatchModel) (past : Past) → past.done.reply ≡ reply → past.begin ≡ trace.begin → past.steps ≡ steps
          → EndsSo env.geometry (batch_at trace.begin) after reply steps → batch_at (behind_call past) ≡ after
          → TidiesRightly env.geometry (batch_at past.begin) (batch_at (behind_call past)) past
      rightly (Clear count) after past replied began are so behind = record {
        cleared = λ many is.
            let same : count ≡ many = let both = sym replied ∙ is in cc in (
              sym same ∙ so.many ∙ ap (λ i. length (due_of (batch_at i).fresh (batch_at i).waiting)) (sym began),
              ap (λ b. b.waiting) behind ∙ so.none_waits,
              ap (λ b. b.fresh) behind ∙ so.fresh ∙ ap (λ i. left_of (batch_at i).fresh (batch_at i).waiting) (sym began),
              λ node. subst (λ i. In node (due_of (batch_at i).fresh (batch_at i).waiting) ↔ GivesNode env.geometry past.steps node) (sym began)
                  (subst (λ s. In node (due_of (batch_at trace.begin).fresh (batch_at trace.begin).waiting) ↔ GivesNode env.geometry s node) (sym are)
                  (so.gave node)),
            );
        waits = λ caller section is. absurd (let both = sym replied ∙ is in cc);
      }
      rightly (Pending caller section) after past replied began are so behind = record {
        cleared = λ many is. absurd (let both = sym replied ∙ is in cc);
        waits = λ other word is. (
          ap (λ b. b.waiting) behind ∙ so.waiting ∙ ap (λ i. due_of (batch_at i).fresh (batch_at i).waiting) (sym began),
          ap (λ b. b.fresh) behind ∙ so.fresh ∙ ap (λ i. left_of (batch_at i).fresh (batch_at i).waiting) (sym began),
          λ node gives. so.gave node (subst (λ s. GivesNode env.geometry s node) are gives),
        );
      }
      rightly reply after past replied began are so behind = absurd so

      entry_so : (reply : Reply) (call : Call) (past : Past) → next.1 ≡ Some reply → view.book.call ≡ Some call → past.done.call ≡ call
          → past.done.reply ≡ reply → past.begin ≡ trace.begin → past.steps ≡ steps → PastTidied past
      entry_so reply call past ends_with is called replied began are asked =
          let was = keeps.asked (is ∙ ap Some (sym called ∙ asked)) in
          let m = was.0 in
          let after = (came m was.1).0 in
          let ended = ended_so m (came m was.1) reply (came_so m was.1) (sym (ap (λ d. d.1) (goes_so m was.1)) ∙ ends_with) in
          let behind : batch_at (behind_call past) ≡ after =
          ap batch_at (ap (λ s. behind_steps (past.begin + 1) s) are ∙ behind_steps-push (past.begin + 1) trace.steps did)
          ∙ behind-is
          ∙ ap (λ (d : Doing M). batch_or env.geometry (batch_room d (batch_after mix view.local.doing view.local.batch did.old))) (ap (λ d. d.0) (goes_so m was.1))
          ∙ ap (λ b. batch_or env.geometry (batch_room (doing_next {M = M} Tidying (moved m (came m was.1))).0 b)) (batch_so m was.1)
          ∙ ended.1 in
          record {
            tidied = record {
              rightly = rightly reply after past replied began are ended.0.so behind;
              ends =
                  subst (λ i. EndsAs i past.done.reply (batch_at (behind_call past)) past.steps) (sym began)
                  (subst (EndsAs trace.begin past.done.reply (batch_at (behind_call past))) (sym are)
                  (subst (λ r. EndsAs trace.begin r (batch_at (behind_call past)) steps) (sym replied)
                  (subst (λ b. EndsAs trace.begin reply b steps) (sym behind) ended.0.ends)));
            };
            soon = subst (λ (s : List Did). length s ≤ tidy_bound env.geometry) (sym are) ended.0.soon;
          }

      -- the calls that have ended then, where the call in progress was this one, and ended so
      abbrev past_then : Ending → Option Call → List Past
      past_then ending call =
          trace.past ++ map (λ done. record { done = done; begin = trace.begin; steps = steps }) (finished_with call ending)

      keep_end : (reply : Reply) → next.1 ≡ Some reply → Kept next.0 (Some reply)
      keep_end reply ends_with = record {
        past = AllByRecursion-append PastTidied trace.past _ keeps.past (entries view.book.call refl);
        asked = λ is. absurd (cc);
        now = λ m is. absurd (idle_not m is);
        called = λ still. absurd (let idle_now = ends M mix view.local did.old reply busy ends_with in cc);
        rested = λ idle_now. rested_then (keeps.called busy);
      }
        where
          idle_not : (m : TidyModel) → next.0.doing ≡ Tidying m → ⊥
          idle_not m is =
              let idle = ends M mix view.local did.old reply busy ends_with in
              let tidying : does_nothing {M = M} (Tidying m) ≡ true = ap does_nothing (sym is) ∙ idle in cc

          ending : Ending
          ending = record {
            answer = record { reply = reply; owners = next.0.owners.items };
            pairs = next.0.pairs.items;
          }

          -- the last one ended at this operation, behind which the batch is the caller's
          rested_then : (call : Call) × (view.book.call ≡ Some call) → (i : ℕ) (last : Past)
              → slice_get (past_then ending view.book.call) i ≡ Some last → length (past_then ending view.book.call) ≡ i + 1
              → batch_at (behind_call last) ≡ own_of M mix env next.0
          rested_then (call, is) i last place long =
              let past : Past = record { done = ended_with call ending; begin = trace.begin; steps = steps } in
              let count : length (past_then ending (Some call)) ≡ i + 1 =
              subst (λ made_of. length (past_then ending made_of) ≡ i + 1) is long in
              let where_is : length trace.past ≡ i = (let both = length-append trace.past (past ∷ []) in omega (arith, both, count)) in
              let there : slice_get (past_then ending (Some call)) i ≡ Some last =
              subst (λ made_of. slice_get (past_then ending made_of) i ≡ Some last) is place in
              let here_is : slice_get (past_then ending (Some call)) i ≡ Some past =
              ap (slice_get (past_then ending (Some call))) (sym where_is) ∙ slice_get-push_last trace.past past in
              let same : last ≡ past = (let both = sym there ∙ here_is in cc) in
              ap (λ (p : Past). batch_at (behind_call p)) same
              ∙ ap batch_at (behind_steps-push (trace.begin + 1) trace.steps did)
              ∙ behind-is

          entries : (call : Option Call) → view.book.call ≡ call
              → AllByRecursion PastTidied (map (λ done. record { done = done; begin = trace.begin; steps = steps }) (finished_with call ending))
          entries None is = tt
          entries (Some call) is =
              (entry_so reply call (record { done = ended_with call ending; begin = trace.begin; steps = steps }) ends_with is refl refl refl refl, tt)

      step-keeps : Kept next.0 next.1
      step-keeps = go next.1 refl
        where
          go : (reply : Option Reply) → next.1 ≡ reply → Kept next.0 next.1
          go None is = subst (Kept next.0) (sym is) (keep_go is)
          go (Some reply) is = subst (Kept next.0) (sym is) (keep_end reply is)

    -- ---- so in every run

    next_event : (so_far : List Event) (event : Event) (rest : List Event) → events ≡ (so_far ++ event ∷ []) ++ rest
        → events ≡ so_far ++ event ∷ rest
    next_event so_far event rest all = all ∙ append_assoc so_far (event ∷ []) rest

    keeps_so : IsKeptTraced M mix env KeepsSoFar
    keeps_so = record {
      opens = λ k mine rest all. record {
        past = tt;
        asked = λ is. absurd (cc);
        now = λ m is. absurd (cc);
        called = λ busy. absurd (cc);
        rested = λ idle_now i last place long. absurd (omega (arith, long));
      };
      stays = λ so_far event k view trace section keeps mine rest all. keeps mine (event ∷ rest) (next_event so_far event rest all);
      begins = λ so_far k call start machine index view trace at now idle is keeps mine rest all.
          let next = next_event so_far (Begin k call start) rest all in
          begin-keeps so_far (Begin k call start ∷ rest) call start machine index view trace next at
          (subst (λ d. view_of (traced_of {M = M} mix env so_far).world d ≡ view) mine now) idle
          (subst (λ d. machine_from env d view.local.batch call start ≡ Some machine) mine is) (keeps mine (Begin k call start ∷ rest) next);
      steps = λ so_far k did view trace made keeps mine rest all.
          let next = next_event so_far (Step k) rest all in
          step-keeps so_far rest (next ∙ ap (λ d. so_far ++ Step d ∷ rest) mine) did view trace
          (subst (λ d. IsMade M mix env so_far d view.local did) mine made) (keeps mine (Step k ∷ rest) next);
    }

  kept_so : (events : List Event) (c : ℕ) (admitted : IsAdmitted events)
      → let r = traced_of {M = M} mix env events in Keeps events c (sound_before env mix M events c admitted) (view_of r.world c) (r.traces c)
  kept_so events c admitted =
      let sound = sound_before env mix M events c admitted in
      traced_callers_keep M mix env (KeepsSoFar events c sound) (keeps_so events c sound) events c admitted refl [] (sym (append-nil events))

pub tidied : (M : Type 0) (mix : ℕ → ℕ → ℕ → ℕ) → Tidied M mix
tidied M mix env events c admitted =
    let sound = sound_before env mix M events c admitted in
    AllByRecursion-weaker (PastTidied M mix env events c sound) (λ past. past.done.call ≡ Tidy → HasTidied M mix env events c past)
    (λ past so asked. (so asked).tidied) _ (kept_so M mix env events c admitted).past

pub tidies_soon : (M : Type 0) (mix : ℕ → ℕ → ℕ → ℕ) → TidiesSoon M mix
tidies_soon M mix env events c admitted =
    let sound = sound_before env mix M events c admitted in
    let kept = kept_so M mix env events c admitted in
    let trace = (traced_of {M = M} mix env events).traces c in
    record {
      past =
          AllByRecursion-weaker (PastTidied M mix env events c sound) (λ past. past.done.call ≡ Tidy → length past.steps ≤ tidy_bound env.geometry)
          (λ past so asked. (so asked).soon) _ kept.past;
      now = λ call is asked.
          let was = kept.asked (is ∙ ap Some asked) in
          let right = sound trace.begin in
          is_soon env.geometry (batch_before M mix env events c trace.begin) right.0 right.1 trace.steps (was.0.batch, was.0.at, Go)
          (kept.now was.0 was.1).1;
    }

pub rests : (M : Type 0) (mix : ℕ → ℕ → ℕ → ℕ) → Rests M mix
rests M mix env events c admitted idle i last place long =
    let sound = sound_before env mix M events c admitted in
    let kept = kept_so M mix env events c admitted in
    let world = world-traced_of M mix env events in
    let here : (view_of (traced_of {M = M} mix env events).world c).local ≡ local_of (run_of {M = M} mix env events).core c =
    ap (λ (w : World M). (view_of w c).local) world in
    of-core M mix env c (run_of {M = M} mix env events).core (view_of (traced_of {M = M} mix env events).world c).local
    (runs-in M mix env events).same_env (sym here)
    ∙ sym (kept.rested (ap is_idle here ∙ idle) i last place long)
