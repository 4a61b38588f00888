-- What is so of each caller's batch. Its nodes are those that the caller's calls took out of lists and haven't given back. None of them
-- stands there twice, nor is it the one that the call in progress has taken out.
-- A call that begins keeps it, and so does each operation, of the caller or of another one. It speaks of the ghost, so it goes with the
-- invariant event by event.
use Rattle.std.specs.Prelude.{IfSome, option_map}
use Rattle.std.proofs.Common.{◌≡◌, ◌≢◌, ◌⊎◌, ℕ, ◌+◌, ◌<◌, List, [], ◌∷◌, ◌++◌, length, true, false, arith, Option, Some, None, refl, sym, ap, ◌∙◌, subst, inl, inr}
use Rattle.rht_words.specs.declared.op.Op.{Op}
use Rattle.rht_words.specs.declared.env.Env.{Env}
use Rattle.rht_words.specs.declared.geometry.Geometry.{Geometry}
use Rattle.rht_words.specs.Members.{In, NotIn, IsDistinct}
use Rattle.rht_words.specs.Operations.{old_of, applied}
use Rattle.rht_words.specs.declared.machine.Next.{Next}
use Rattle.rht_words.specs.declared.machine.Next.TheVariants.{Go, Done}
use Rattle.rht_words.proofs.Members.{not_in_from, one_if}
use Rattle.rht_model.specs.declared.history.Call.{Call}
use Rattle.rht_model.specs.declared.history.Call.TheVariants.{Tidy}
use Rattle.rht_model.specs.declared.history.Reply.{Reply}
use Rattle.rht_model.specs.Answers.{Answer}
use Rattle.rht_model.specs.Replies.{takes_out}
use Rattle.rht_model.specs.Endings.{Ending, plain_ending}
use Rattle.rht_grace.specs.Batch.{BatchModel}
use Rattle.rht_grace.specs.Tidy.{TidyModel, IsTidyAtIn, after_at, moved}
use Rattle.rht_callers.specs.declared.local.Local.{Local}
use Rattle.rht_callers.specs.declared.local.Doing.{Doing}
use Rattle.rht_callers.specs.declared.local.Doing.TheVariants.{Tidying}
use Rattle.rht_callers.specs.Batches.{nodes_in, nodes_held, IsBatchIn, IsSoundBatch, CanPut, with_out, out_of, batch_room, batch_beside, batch_given, batch_after}
use Rattle.rht_callers.specs.Locals.{does_nothing, is_idle, machine_from, begin_with, doing_next, doing_after, local_after, IsDoingOf}
use Rattle.rht_callers.proofs.CallBeginnings.{begins_so}
use Rattle.rht_callers.proofs.BatchesOfCallers.{idle-batch, begun-batch, begun-sound, batch_after-out, batch_after-sound, IsSoundBatch-out}
use Rattle.rht_core.specs.Jobs.{Job, tidies, tidying, tidied, call_of, job_of, job_next, job_after, told, held_of, held_next}
use Rattle.rht_core.specs.Laws.{IsDoingIn}
use Rattle.rht_core.specs.Tidyings.{IsTidyingOf}
use Rattle.rht_core.proofs.Machines.JobSteps.{JobNext}
use Rattle.rht_core.proofs.Machines.TidyRanges.{Came, tidy_at_in}
use Rattle.rht_core.proofs.Events.TidiedNodes.{given_of, given_next, given-none, returned-none, left_now, given_now, same_nodes}
use Rattle.rht_core.specs.Runs.{Core, local_of, beginning_in}
use Rattle.rht_core.proofs.Machines.TidySteps.{OwnsNodes}
use Rattle.rht_core.proofs.Events.HandedOut.{out_in}
use Rattle.rht_core.proofs.Events.StepsOfCallers.{StepOf, begun_owns, others_outs}
use Rattle.rht_core.proofs.Events.JobsOfCallers.{first_job-machine, first_unknown, same_call, left-job, nothing-job, is_no_job, doing_after-reply}
use Rattle.rht_core.proofs.Events.RangesInRuns.{AllIn}
use Rattle.rht_core.proofs.Events.SoundRuns.{made_in}
use Rattle.rht_core.proofs.Events.SaidOfNodes.{outs_with, many_of, SaysTaken, AnsweredWith, left-says, ended_says, longer, first-says, outs-idle, untaken-idle}
use Rattle.rht_core.proofs.Events.TakenOut.{taken_with, taken_of, first_untaken, taken_known, taken_then, untaken-bound, hands_out, goes_none}
use Rattle.rht_core.proofs.Events.BusyCallers.{ends}
use Rattle.rht_core.proofs.Events.Worlds.{beginning-some}
use Rattle.rht_core.proofs.Returning.GoneBack.{owners_stay}
use Rattle.rht_ghost.proofs.Theory.Ghosts.{Ghost, Taken}
use Rattle.rht_ghost.proofs.Theory.Wholes.{outs, Whole}
use Rattle.rht_ghost.proofs.Theory.Answering.{outs_of, IsReplied, IsReplied-same, known_so}
use Rattle.rht_ghost.proofs.Theory.Steps.{Move, ReturnsNode, with_returned, mem, ghost_after}

-- those with a node that is put in
nodes_in-out : (batch : Option BatchModel) (removed : Option ℕ) (n : ℕ) → In n (nodes_in (with_out batch removed))
    → In n (nodes_in batch) ⊎ (removed ≡ Some n)
nodes_in-out None removed n i = absurd i
nodes_in-out (Some batch) None n i = inl i
nodes_in-out (Some batch) (Some node) n i = go batch.fresh i
  where
    go : (fresh : List ℕ) → In n ((fresh ++ node ∷ []) ++ batch.waiting)
        → In n (fresh ++ batch.waiting) ⊎ (Some node ≡ Some n)
    go [] (inl e) = inr (ap Some (sym e))
    go [] (inr there) = inl there
    go (m ∷ fresh) (inl e) = inl (inl e)
    go (m ∷ fresh) (inr there) = elim (go fresh there) [ inl i ↦ inl (inr i) | inr is ↦ inr is ]

-- a node that is none of these may be put in
can_put : (batch : Option BatchModel) (removed : Option ℕ) (env : Env) → IsBatchIn env batch
    → ((n : ℕ) → removed ≡ Some n → (n < env.geometry.nodes) × NotIn n (nodes_in batch)) → CanPut batch removed
can_put None removed env is may = tt
can_put (Some batch) None env is may = tt
can_put (Some batch) (Some node) env is may =
    let this = may node refl in (subst (λ (g : Geometry). node < g.nodes) (sym is) this.0, this.1)

-- no node stands twice in a sound batch
sound-distinct : (batch : Option BatchModel) → IsSoundBatch batch → IsDistinct (nodes_in batch)
sound-distinct None sound = absurd sound
sound-distinct (Some batch) sound = sound.distinct

-- where no node is handed out there is none to be put in
put-none : (batch : Option BatchModel) → CanPut batch None
put-none None = tt
put-none (Some batch) = tt

-- a caller is at a tidying, or isn't
pub is_tidying : (L : Type 0) (doing : Doing L) → ((m : TidyModel) × (doing ≡ Tidying m)) ⊎ ((m : TidyModel) → doing ≡ Tidying m → ⊥)
is_tidying L (Tidying m) = inl (m, refl)
is_tidying L _ = inr (λ m is. cc)

-- who isn't tidying has its batch
pub with_caller : (L : Type 0) (doing : Doing L) (batch : Option BatchModel) → ((m : TidyModel) → doing ≡ Tidying m → ⊥)
    → batch_room doing batch ≡ batch
with_caller L (Tidying m) batch not = absurd (not m refl)
with_caller L _ batch not = refl

-- and all its nodes
held-caller : (L : Type 0) (doing : Doing L) (batch : Option BatchModel) → ((m : TidyModel) → doing ≡ Tidying m → ⊥)
    → nodes_held doing batch ≡ nodes_in (batch_room doing batch)
held-caller L (Tidying m) batch not = absurd (not m refl)
held-caller L _ batch not = refl

pub held-idle : (L : Type 0) (doing : Doing L) (batch : Option BatchModel) → does_nothing doing ≡ true
    → nodes_held doing batch ≡ nodes_in (batch_room doing batch)
held-idle L doing batch idle = held-caller L doing batch (λ m is. let busy : does_nothing {M = L} (Tidying m) ≡ true = ap does_nothing (sym is) ∙ idle in cc)

-- who does a tidying is at one
pub tidying-of : (L : Type 0) (doing : Doing L) (job : Job) → job_of doing ≡ Some job → call_of job ≡ Tidy → (m : TidyModel) × (doing ≡ Tidying m)
tidying-of L (Tidying m) job is asked = (m, refl)
tidying-of L doing job is asked = absurd (cc)

-- ---- an operation's move

-- a move that gives none back counts none
unreturned : (move : Move) (many : ℕ) → ((n : ℕ) → move ≡ ReturnsNode n → ⊥) → with_returned move many ≡ many
unreturned (ReturnsNode n) many not = absurd (not n refl)
unreturned _ many not = refl

module _ (env : Env) (mix : ℕ → ℕ → ℕ → ℕ) (L : Type 0) where
  -- a caller's batch, and the nodes that it still has
  abbrev pub batch_of : Local L → Option BatchModel
  batch_of local = batch_room local.doing local.batch

  abbrev pub held_by : Local L → List ℕ
  held_by local = nodes_held local.doing local.batch

  -- They were taken out by its calls, none stands there twice, and none is the one that the call in progress has taken out. There are as
  -- many of them as its calls have taken out and not given back, but for that one.
  -- And the answer of the call in progress, once it is known, is one of its kind, and says whether it has taken one out.
  pub record BatchRight (G : Ghost) (c : ℕ) (local : Local L) : Type 0 where
    pub out : (n : ℕ) → In n (held_by local) → G.node n ≡ Taken c
    pub sound : IsSoundBatch (batch_of local)
    pub apart : (n : ℕ) → taken_with (job_of local.doing) ≡ Some n → NotIn n (nodes_in (batch_of local))
    pub many : outs env mix G c ≡ length (held_by local) + outs_with (job_of local.doing)
    pub answered : AnsweredWith (job_of local.doing)

  -- ---- a call begins

  -- who is in no call has these nodes
  pub idle-owns : (G : Ghost) (c : ℕ) (local : Local L) → is_idle local ≡ true → BatchRight G c local
      → OwnsNodes env mix c (nodes_in local.batch) G
  idle-owns G c local idle right =
      let held = idle-batch L (λ batch. held_by local ≡ nodes_in batch) local idle (held-idle L local.doing local.batch idle) in
      let none = outs-idle local.doing idle in
      let many = right.many in
      let same = ap length held in
      record {
        out = λ n there. right.out n (subst (In n) (sym held) there);
        distinct = sound-distinct local.batch (idle-batch L IsSoundBatch local idle right.sound);
        many = omega (arith, none, many, same);
      }

  -- and so has who has begun, or its tidying
  begun-owns : (G : Ghost) (c : ℕ) (batch : Option BatchModel) (start : ℕ) (call : Call) (machine : Doing L) → machine_from env c batch call start ≡ Some machine
      → OwnsNodes env mix c (nodes_in batch) G → OwnsNodes env mix c (nodes_held machine (batch_beside machine batch)) G
  begun-owns G c batch start =
      begins_so L env c batch start
      (λ call machine. OwnsNodes env mix c (nodes_in batch) G → OwnsNodes env mix c (nodes_held machine (batch_beside machine batch)) G)
      (λ port is. is) (λ port owner once is. is) (λ port is. is) (λ port owner is. is) (λ port owner new is. is)
      (λ is. is) (λ is. is)
      (λ own has is. begun_owns env mix L c own G (subst (λ b. OwnsNodes env mix c (nodes_in b) G) has is)) (λ from limit is. is)

  pub begun-right : (core : Core L) (G : Ghost) (c : ℕ) (call : Call) (start : ℕ) (machine : Doing L) → AllIn L mix env core
      → beginning_in core c call start ≡ Some machine → BatchRight G c (local_of core c)
      → BatchRight G c (begin_with (local_of core c) machine)
  begun-right core G c call start machine all is right =
      let local = local_of core c in
      let can = beginning-some core.env core.enrolled core.locals c call start machine is in
      let made = made_in L mix env core c call start machine all.stays can in
      let first = first_job-machine env c local.batch start call machine made in
      let owns = begun-owns G c local.batch start call machine made (idle-owns G c local can.idle right) in
      record {
        out = owns.out;
        sound =
            let sound = idle-batch L IsSoundBatch local can.idle right.sound in
            begun-batch L IsSoundBatch env c local.batch start call machine made sound
            (λ own has. begun-sound own (subst IsSoundBatch has sound));
        apart = λ n taken.
            let none : taken_with (job_of machine) ≡ None =
            ap taken_with first.does ∙ first_untaken env call first.job first.first in
            absurd (let both : None ≡ Some n = sym none ∙ taken in cc);
        many =
            let none : outs_with (job_of machine) ≡ 0 = ap outs_with first.does ∙ ap outs_of (first_unknown env call first.job first.first) in
            let many = owns.many in
            omega (arith, none, many);
        answered =
            subst AnsweredWith (sym first.does) (
              subst (λ (answer : Option Answer). IfSome answer (IsReplied (call_of first.job))) (sym (first_unknown env call first.job first.first)) tt,
              first-says env call first.job first.first,
            );
      }

  -- ---- the answer of a call, and the node that it hands out

  module _ (core : Core L) (G : Ghost) (c : ℕ) (op : Op) (of : StepOf env mix L core G c op) (right : BatchRight G c (local_of core c)) where
    abbrev then : Job × Next Ending
    then = job_after mix env of.job (old_of core.words op)

    said : AnsweredWith (Some of.job)
    said = subst AnsweredWith of.is right.answered

    replied_then : IfSome (held_next then).answer (IsReplied (call_of of.job))
    replied_then =
        known_so env.config.kind c (call_of of.job) (IsReplied (call_of of.job)) (IsReplied-same (call_of of.job)) _ _ _ _
        (held_of of.job).answer (held_next then).answer of.step.says
        (λ answer unknown known. (of.step.right answer unknown known).replied) said.0

    -- a call that ends hands out a node exactly where its reply says that it has taken one out
    pub out_said : IsDoingOf env (local_of core c).doing → (reply : Reply)
        → (doing_after mix (local_of core c).doing (old_of core.words op)).1 ≡ Some reply
        → one_if (takes_out reply) ≡ many_of (out_of mix (local_of core c).doing (old_of core.words op))
    out_said table reply is =
        go then refl (doing_after-reply mix env (local_of core c).doing of.job (old_of core.words op) table of.is)
      where
        go : (next : Job × Next Ending) → then ≡ next
            → (doing_after mix (local_of core c).doing (old_of core.words op)).1 ≡ option_map (λ (e : Ending). e.answer.reply) (told then).1
            → one_if (takes_out reply) ≡ many_of (out_of mix (local_of core c).doing (old_of core.words op))
        go (after, Go) same replied =
            let none : ◌≡◌ {A = Option Reply} (Some reply) None =
            sym is ∙ replied ∙ ap (λ n. option_map (λ (e : Ending). e.answer.reply) (told n).1) same in
            absurd (cc)
        go (after, Done ending) same replied =
            let both : ◌≡◌ {A = Option Reply} (Some reply) (Some ending.answer.reply) =
            sym is ∙ replied ∙ ap (λ n. option_map (λ (e : Ending). e.answer.reply) (told n).1) same in
            let one : reply ≡ ending.answer.reply = cc in
            ap (λ r. one_if (takes_out r)) one
            ∙ ended_says mix env (local_of core c).doing of.job (old_of core.words op) ending of.is said.1 (ap (λ n. (told n).1) same)
            (subst (λ (n : Job × Next Ending). IfSome (held_next n).answer (IsReplied (call_of of.job))) same replied_then)

  -- ---- an operation

  module _ (core : Core L) (G : Ghost) (all : AllIn L mix env core) (whole : Whole env mix (mem env mix core.words) G) (c : ℕ) (op : Op)
      (of : StepOf env mix L core G c op) (right : BatchRight G c (local_of core c)) where
    abbrev local : Local L
    local = local_of core c

    abbrev old : ℕ
    old = old_of core.words op

    abbrev G' : Ghost
    G' = ghost_after env mix c of.step.move G

    abbrev next_job : Job × Next Ending
    next_job = job_after mix env of.job old

    -- the node that it hands out was taken out by it, and isn't in its batch
    handed : (n : ℕ) → out_of mix local.doing old ≡ Some n → (G.node n ≡ Taken c) × NotIn n (nodes_in (batch_of local))
    handed n is =
        let taken = hands_out mix local.doing old n is in
        let by_job : taken_of of.job ≡ Some n = sym (ap taken_with of.is) ∙ taken in
        (taken_known env mix c (mem env mix core.words) G whole n of.job of.knows by_job, right.apart n taken)

    beside_in : batch_room local.doing local.batch ≡ local.batch → IsBatchIn env local.batch
    beside_in beside = subst (IsBatchIn env) beside (all.locals c).batch

    puts : (batch_room local.doing local.batch ≡ local.batch) → CanPut local.batch (out_of mix local.doing old)
    puts beside =
        can_put local.batch (out_of mix local.doing old) env (beside_in beside)
        (λ n is. (out_in mix env c local.doing old n (all.locals c).doing is, subst (λ batch. NotIn n (nodes_in batch)) beside (handed n is).1))

    left_is : job_of (doing_after mix local.doing old).0 ≡ (told next_job).0
    left_is = left-job mix env local.doing of.job old (all.stays.locals_of c).doing of.is

    -- ---- the answer

    says : AnsweredWith (Some of.job)
    says = said core G c op of right

    replied_now : IfSome (held_next next_job).answer (IsReplied (call_of of.job))
    replied_now = replied_then core G c op of right

    answered_now : AnsweredWith (told next_job).0
    answered_now = go next_job (same_call mix env of.job old) replied_now (left-says mix env of.job old says.1)
      where
        go : (next : Job × Next Ending) → call_of next.0 ≡ call_of of.job → IfSome (held_next next).answer (IsReplied (call_of of.job))
            → SaysTaken next.0 → AnsweredWith (told next).0
        go (after, Go) same replied taken = (subst (λ call. IfSome (held_of after).answer (IsReplied call)) (sym same) replied, taken)
        go (after, Done ending) same replied taken = tt

    -- the call has a node, or hands it out
    hands_or_has : outs_of (held_next next_job).answer ≡ many_of (out_of mix local.doing old) + outs_with (told next_job).0
    hands_or_has = go next_job refl (doing_after-reply mix env local.doing of.job old (all.stays.locals_of c).doing of.is)
      where
        go : (next : Job × Next Ending) → next_job ≡ next
            → (doing_after mix local.doing old).1 ≡ option_map (λ (e : Ending). e.answer.reply) (told next_job).1
            → outs_of (held_next next).answer ≡ many_of (out_of mix local.doing old) + outs_with (told next).0
        go (after, Go) same replied =
            let none = ap many_of (goes_none mix local.doing old (replied ∙ ap (λ n. option_map (λ (e : Ending). e.answer.reply) (told n).1) same)) in
            omega (arith, none)
        go (after, Done ending) same replied =
            let ended = ended_says mix env local.doing of.job old ending of.is says.1 (ap (λ n. (told n).1) same)
            (subst (λ (n : Job × Next Ending). IfSome (held_next n).answer (IsReplied (call_of of.job))) same replied_now) in
            omega (arith, ended)

    -- ---- a call that isn't a tidying

    module _ (not : (m : TidyModel) → local.doing ≡ Tidying m → ⊥) where
      other_call : call_of of.job ≡ Tidy → ⊥
      other_call asked = let m = tidying-of L local.doing of.job of.is asked in not m.0 m.1

      none_returned : (n : ℕ) → of.step.move ≡ ReturnsNode n → ⊥
      none_returned n is = other_call (of.step.returning n is)

      -- and is none behind its operation
      not_then : (m : TidyModel) → (doing_after mix local.doing old).0 ≡ Tidying m → ⊥
      not_then m is = go next_job (same_call mix env of.job old) (sym (ap job_of is) ∙ left_is)
        where
          go : (next : Job × Next Ending) → call_of next.0 ≡ call_of of.job → Some (tidies m.batch m.at) ≡ (told next).0 → ⊥
          go (after, Go) same left = other_call (sym same ∙ sym (let here : tidies m.batch m.at ≡ after = cc in ap call_of here))
          go (after, Done ending) same left = cc

      beside : batch_room local.doing local.batch ≡ local.batch
      beside = with_caller L local.doing local.batch not

      held_is : held_by local ≡ nodes_in (batch_of local)
      held_is = held-caller L local.doing local.batch not

      out_now : (n : ℕ) → G.node n ≡ Taken c → G'.node n ≡ Taken c
      out_now n is =
          (owners_stay env mix c (mem env mix core.words) _ G whole of.step.move of.step.ready of.step.made none_returned).out n c is

      after_is : batch_room (doing_after mix local.doing old).0 (batch_after mix local.doing local.batch old)
          ≡ with_out local.batch (out_of mix local.doing old)
      after_is = batch_after-out L mix local.doing local.batch old not

      held_then : nodes_held (doing_after mix local.doing old).0 (batch_after mix local.doing local.batch old)
          ≡ nodes_in (with_out local.batch (out_of mix local.doing old))
      held_then =
          held-caller L (doing_after mix local.doing old).0 (batch_after mix local.doing local.batch old) not_then
          ∙ ap nodes_in after_is

      abbrev Lacks : ℕ → Option BatchModel → Type 0
      Lacks n batch = NotIn n (nodes_in batch)

      lacks_now : (n : ℕ) → (doing_after mix local.doing old).1 ≡ None
          → taken_with (told next_job).0 ≡ Some n
          → Lacks n (batch_room (doing_after mix local.doing old).0 (batch_after mix local.doing local.batch old))
      lacks_now n goes taken =
          subst (Lacks n) (sym (after_is ∙ ap (with_out local.batch) (goes_none mix local.doing old goes) ∙ none-out local.batch ∙ sym beside))
          (elim (taken_then env mix c (mem env mix core.words) G whole n of.job of.knows old taken) [
            | inl was ↦ right.apart n (ap taken_with of.is ∙ was)
            | inr now ↦ not_in_from n (nodes_in (batch_of local))
                (λ there. untaken-bound env mix c (mem env mix core.words) G whole now.port (G.bound now.port) refl n now.bound
                (right.out n (subst (In n) (sym held_is) there)))
          ])
        where
          none-out : (batch : Option BatchModel) → with_out batch None ≡ batch
          none-out None = refl
          none-out (Some batch) = refl

      -- it has taken out what its answer says, and given back none
      outs_now : outs env mix G' c + outs_of (held_of of.job).answer ≡ outs env mix G c + outs_of (held_next next_job).answer
      outs_now = sym (unreturned of.step.move _ none_returned) ∙ of.step.outs

      many_now : outs env mix G' c
          ≡ length (nodes_held (doing_after mix local.doing old).0 (batch_after mix local.doing local.batch old)) + outs_with (told next_job).0
      many_now =
          let was = right.many ∙ ap (λ job. length (held_by local) + outs_with job) of.is in
          let same = ap length (held_is ∙ ap nodes_in beside) in
          let more = longer env local.batch (out_of mix local.doing old) (beside_in beside) in
          let after = ap length held_then in
          let step = outs_now in
          let hands = hands_or_has in
          omega (arith, was, same, more, after, step, hands)

      -- what has a node is still in the call
      goes_on : (n : ℕ) → taken_with (job_of (doing_after mix local.doing old).0) ≡ Some n → (doing_after mix local.doing old).1 ≡ None
      goes_on n taken = go (doing_after mix local.doing old).1 refl
        where
          busy : is_idle local ≡ false
          busy = nothing-job local.doing ∙ ap is_no_job of.is

          go : (reply : Option Reply) → (doing_after mix local.doing old).1 ≡ reply → (doing_after mix local.doing old).1 ≡ None
          go None is = is
          go (Some reply) is =
              let none = untaken-idle (doing_after mix local.doing old).0 (ends L mix local old reply busy is) in
              absurd (let both : None ≡ Some n = sym none ∙ taken in cc)

      other-right : BatchRight G' c (local_after mix local old).0
      other-right = record {
        out = λ n there. elim (nodes_in-out local.batch (out_of mix local.doing old) n (subst (In n) held_then there)) [
          | inl was ↦ out_now n (right.out n (subst (In n) (sym (held_is ∙ ap nodes_in beside)) was))
          | inr put ↦ out_now n (handed n put).0
        ];
        sound =
            subst IsSoundBatch (sym after_is)
            (IsSoundBatch-out local.batch (out_of mix local.doing old) (puts beside) (subst IsSoundBatch beside right.sound));
        apart = λ n taken. lacks_now n (goes_on n taken) (sym (ap taken_with left_is) ∙ taken);
        many = let same = ap outs_with left_is in omega (arith, many_now, same);
        answered = subst AnsweredWith (sym left_is) answered_now;
      }

      other-given : outs env mix G' c + given_next next_job + outs_of (held_of of.job).answer
          ≡ outs env mix G c + given_of of.job + outs_of (held_next next_job).answer
      other-given =
          let none = given-none of.job other_call in
          let left = go next_job (same_call mix env of.job old) replied_now in
          let same = outs_now in
          omega (arith, none, left, same)
        where
          go : (next : Job × Next Ending) → call_of next.0 ≡ call_of of.job → IfSome (held_next next).answer (IsReplied (call_of of.job))
              → given_next next ≡ 0
          go (after, Go) same replied = given-none after (λ asked. other_call (sym same ∙ asked))
          go (after, Done ending) same replied = returned-none (call_of of.job) ending.answer.reply other_call replied.reply

    -- ---- a tidying

    module _ (m : TidyModel) (same : local.doing ≡ Tidying m) where
      within : IsTidyingOf env m
      within = subst (IsDoingIn env c) same (all.locals c).doing

      job_is : of.job ≡ tidies m.batch m.at
      job_is = let both = sym of.is ∙ ap job_of same in cc

      abbrev came : Came
      came = after_at env.geometry m.batch m.at old

      came_knows : JobNext env mix c (job_next tidying plain_ending (tidied came)) (mem env mix (applied core.words op)) G'
      came_knows = subst (λ job. JobNext env mix c (job_after mix env job old) (mem env mix (applied core.words op)) G') job_is of.step.knows

      -- what it has behind its operation
      left-owns : (next : Came) → JobNext env mix c (job_next tidying plain_ending (tidied next)) (mem env mix (applied core.words op)) G'
          → OwnsNodes env mix c (left_now next) G'
      left-owns (batch, state, Go) knows = knows.fits
      left-owns (batch, state, Done reply) knows = knows.leaves

      left_held : (next : Came) (batch : Option BatchModel)
          → nodes_held (doing_next {M = L} Tidying (moved m next)).0 (batch_given (moved m next) batch) ≡ left_now next
      left_held (batch, state, Go) own = refl
      left_held (batch, state, Done reply) own = refl

      held_after : nodes_held (doing_after mix local.doing old).0 (batch_after mix local.doing local.batch old) ≡ left_now came
      held_after =
          ap (λ d. nodes_held (doing_after mix d old).0 (batch_after mix d local.batch old)) same
          ∙ left_held (after_at m.geometry m.batch m.at old) local.batch
          ∙ ap (λ g. left_now (after_at g m.batch m.at old)) within.same_geometry

      owns_after : OwnsNodes env mix c (left_now came) G'
      owns_after = left-owns came came_knows

      told_is : told next_job ≡ told (job_next tidying plain_ending (tidied came))
      told_is = ap (λ job. told (job_after mix env job old)) job_is

      untaken : (next : Came) → taken_with (told (job_next tidying plain_ending (tidied next))).0 ≡ None
      untaken (batch, state, Go) = refl
      untaken (batch, state, Done reply) = refl

      no_outs : (next : Came) → outs_with (told (job_next tidying plain_ending (tidied next))).0 ≡ 0
      no_outs (batch, state, Go) = refl
      no_outs (batch, state, Done reply) = refl

      none_out : out_of mix local.doing old ≡ None
      none_out = ap (λ d. out_of mix d old) same

      tidied-right : BatchRight G' c (local_after mix local old).0
      tidied-right = record {
        out = λ n there. owns_after.out n (subst (In n) held_after there);
        sound =
            batch_after-sound L mix local.doing local.batch old
            (λ other is.
            let one : m ≡ other = let both = sym same ∙ is in cc in
            subst (λ (n : TidyModel). (n.batch.geometry ≡ n.geometry) × IsTidyAtIn n.batch n.at) one (
              within.at_in.same_geometry ∙ sym within.same_geometry,
              tidy_at_in env.geometry m.batch m.at within.at_in (subst (λ d. IsSoundBatch (batch_room d local.batch)) same right.sound),
            ))
            (subst (CanPut local.batch) (sym none_out) (put-none local.batch)) right.sound;
        apart = λ n taken.
            let none = ap taken_with (left_is ∙ ap (λ t. t.0) told_is) ∙ untaken came in
            absurd (let both : None ≡ Some n = sym none ∙ taken in cc);
        many =
            let many = owns_after.many in
            let held = ap length held_after in
            let none = ap outs_with (left_is ∙ ap (λ t. t.0) told_is) ∙ no_outs came in
            omega (arith, many, held, none);
        answered = subst AnsweredWith (sym left_is) answered_now;
      }

      given_is : (next : Came) → given_next (job_next tidying plain_ending (tidied next)) ≡ given_now next
      given_is (batch, state, Go) = refl
      given_is (batch, state, Done reply) = refl

      answer_none : outs_of (held_next next_job).answer ≡ 0
      answer_none =
          let hands = hands_or_has in
          let none = ap many_of none_out in
          let left = ap outs_with (ap (λ t. t.0) told_is) ∙ no_outs came in
          omega (arith, hands, none, left)

      tidied-given : outs env mix G' c + given_next next_job + outs_of (held_of of.job).answer
          ≡ outs env mix G c + given_of of.job + outs_of (held_next next_job).answer
      tidied-given =
          let had = right.many ∙ ap (λ d. length (nodes_held d local.batch) + outs_with (job_of d)) same in
          let has = owns_after.many in
          let both = same_nodes env.geometry m.batch m.at old within.at_in.at_in in
          let before = ap given_of job_is in
          let after = ap (λ job. given_next (job_after mix env job old)) job_is ∙ given_is came in
          let none = ap (λ job. outs_of (held_of job).answer) job_is in
          let silent = answer_none in
          omega (arith, had, has, both, before, after, none, silent)

    -- ---- any call

    by_doing : {A : Type 0} → (((m : TidyModel) → local.doing ≡ Tidying m → ⊥) → A) → ((m : TidyModel) → local.doing ≡ Tidying m → A) → A
    by_doing {A} other tidies_so = elim (is_tidying L local.doing) [ inl m ↦ tidies_so m.0 m.1 | inr not ↦ other not ]

    pub put_by : CanPut local.batch (out_of mix local.doing old)
    put_by =
        by_doing (λ not. puts (with_caller L local.doing local.batch not))
        (λ m same. subst (CanPut local.batch) (sym (none_out m same)) (put-none local.batch))

    pub stepped-right : BatchRight G' c (local_after mix local old).0
    stepped-right = by_doing other-right tidied-right

    -- it has taken out what its answer says, and what it has given back is out no more
    pub stepped-given : outs env mix G' c + given_next next_job + outs_of (held_of of.job).answer
        ≡ outs env mix G c + given_of of.job + outs_of (held_next next_job).answer
    stepped-given = by_doing other-given tidied-given

  -- another caller's nodes stay its
  pub others-right : (core : Core L) (G : Ghost) (c : ℕ) (op : Op) (of : StepOf env mix L core G c op) (k : ℕ) (other : Local L) → k ≢ c
      → BatchRight G k other → BatchRight (ghost_after env mix c of.step.move G) k other
  others-right core G c op of k other ne right = record {
    out = λ n there. elim (of.step.made.stale.owners.out n k (right.out n there)) [
      | inl stays ↦ stays
      | inr back ↦ absurd (ne (let both : Taken k ≡ Taken c = sym (right.out n there) ∙ back.was in cc))
    ];
    sound = right.sound;
    apart = right.apart;
    many = others_outs env mix L k (mem env mix core.words) _ G _ (of.step.made.others k ne) ∙ right.many;
    answered = right.answered;
  }
