-- In every run each caller works at the call of its book, and its calls have taken as many nodes out of lists, and given back, as its book
-- says.
-- This goes with the invariant event by event, since it speaks of the ghost.
use Rattle.std.proofs.Common.{◌≡◌, ℕ, ◌+◌, List, ◌++◌, true, Option, Some, None, refl, sym, ap, ◌∙◌, subst, inl, inr, arith}
use Rattle.std.specs.Prelude.{count_by, sum_by, option_map}
use Rattle.std.proofs.lemmas.Bool.{cases_eq}
use Rattle.std.proofs.lemmas.List.Sums.{sum_by_push}
use Rattle.rht_words.specs.declared.op.Op.{Op}
use Rattle.rht_words.specs.declared.env.Env.{Env}
use Rattle.rht_words.specs.declared.machine.Next.{Next}
use Rattle.rht_words.specs.declared.machine.Next.TheVariants.{Go, Done}
use Rattle.rht_words.specs.Operations.{old_of}
use Rattle.rht_words.proofs.Members.{one_if, count_below-none}
use Rattle.rht_model.specs.declared.finished.Finished.{Finished}
use Rattle.rht_model.specs.declared.history.Call.{Call}
use Rattle.rht_model.specs.declared.history.Reply.{Reply}
use Rattle.rht_model.specs.Endings.{Ending, ended_with}
use Rattle.rht_core.specs.declared.book.Book.{Book}
use Rattle.rht_core.specs.declared.event.Event.{Event}
use Rattle.rht_core.specs.declared.event.Event.TheVariants.{Enroll, Begin}
use Rattle.rht_core.specs.declared.event.Event.TheVariants as events
use Rattle.rht_callers.specs.declared.local.Doing.{Doing}
use Rattle.rht_callers.specs.declared.local.Local.{Local}
use Rattle.rht_core.specs.Counts.{takes_out, returned_by}
use Rattle.rht_core.specs.Jobs.{Job, call_of, job_after, job_of, told, held_of, held_next}
use Rattle.rht_callers.specs.Locals.{is_idle, machine_from, local_after, ending_of}
use Rattle.rht_core.specs.Runs.{World, View, view_of, local_of, beginning_in, planned_in, book_begun, book_after, finished_with, world_step, run_of, opening, IsAdmitted, IsAdmittedEvent}
use Rattle.rht_core.specs.Laws.{view_begun, view_stepped}
use Rattle.rht_ghost.proofs.Theory.Ghosts.{Ghost, is_taken_by, Free}
use Rattle.rht_ghost.proofs.Theory.Wholes.{outs}
use Rattle.rht_ghost.proofs.Theory.Answering.{outs_of}
use Rattle.rht_core.proofs.Events.Worlds.{run_keeps_admitted, beginning-some, planned-some, begin_none, begin_self, begin_other, step_none, step_self, step_other}
use Rattle.rht_core.proofs.Events.SoundRuns.{has_place, made_in}
use Rattle.rht_core.proofs.Events.RangesInRuns.{AllIn, event-all, opens-all}
use Rattle.rht_core.proofs.Events.JobsOfCallers.{first_job-machine, first_unknown, same_call, left-job, nothing-job, is_no_job, doing_after-reply}
use Rattle.rht_core.proofs.Events.Invariants.{Inv, StepOuts, kept, step_of}
use Rattle.rht_core.proofs.Events.TidiedNodes.{given_of, given_next, first_given}
use Rattle.rht_core.proofs.Events.InvariantRuns.{opening_ghost, opening_inv, idle_at_opening}

-- how many of a caller's calls that have ended took a node out of a list
abbrev pub ended_outs : Book → ℕ
ended_outs book = count_by (λ (done : Finished). takes_out done.reply) book.finished

-- and how many they gave back
abbrev pub ended_given : Book → ℕ
ended_given book = sum_by (λ (done : Finished). returned_by done.reply) book.finished

-- the book has the call of the job, and so many nodes have been taken out and not given back by those that have ended and by that one
abbrev pub BookSays : Option Job → Book → ℕ → Type 0
BookSays None book many = (book.call ≡ None) × (many + ended_given book ≡ ended_outs book)
BookSays (Some job) book many = (book.call ≡ Some (call_of job))
    × (many + ended_given book + given_of job ≡ ended_outs book + outs_of (held_of job).answer)

module _ (env : Env) (mix : ℕ → ℕ → ℕ → ℕ) (L : Type 0) where
  -- what a caller's view says of what its calls have taken out
  abbrev ViewSays : View L → ℕ → Type 0
  ViewSays view many = BookSays (job_of view.local.doing) view.book many

  -- the invariant, with some ghost, all that is in range, and what the books say of the ghost
  pub record HasBooks (w : World L) : Type 0 where
    pub ghost : Ghost
    pub inv : Inv env mix L w.core ghost
    pub all : AllIn L mix env w.core
    pub says : (c : ℕ) → ViewSays (view_of w c) (outs env mix ghost c)

  -- ---- a call begins

  pub idle-says : (view : View L) (many : ℕ) → is_idle view.local ≡ true → ViewSays view many
      → many + ended_given view.book ≡ ended_outs view.book
  idle-says view many idle says = go (job_of view.local.doing) (sym (nothing-job view.local.doing)
      ∙ idle) says
    where
      go : (job : Option Job) → is_no_job job ≡ true → BookSays job view.book many
          → many + ended_given view.book ≡ ended_outs view.book
      go None none says = says.1
      go (Some job) none says = absurd (cc)

  begun-says : (c : ℕ) (call : Call) (start : ℕ) (machine : Doing L) (view : View L) (many : ℕ)
      → machine_from env c view.local.batch call start ≡ Some machine
      → is_idle view.local ≡ true → ViewSays view many → ViewSays (view_begun call machine view) many
  begun-says c call start machine view many is idle says =
      let first = first_job-machine env c view.local.batch start call machine is in
      let so_far = idle-says view many idle says in
      let none : outs_of (held_of first.job).answer ≡ 0 = ap outs_of
      (first_unknown env call first.job first.first) in
      let given : given_of first.job ≡ 0 = first_given env call first.job first.first in
      subst (λ (job : Option Job). BookSays job (book_begun call view.book) many) (sym first.does)
      (ap Some (sym first.asked), omega (arith, so_far, none, given))

  -- ---- an operation

  after-says : (job : Job) (book : Book) (next : Job × Next Ending) (local : Local L)
      (reply : Option Reply) (many more : ℕ)
      → reply ≡ option_map (λ (e : Ending). e.answer.reply) (told next).1 → call_of next.0 ≡ call_of job
      → BookSays (Some job) book many
      → more + given_next next + outs_of (held_of job).answer ≡ many + given_of job + outs_of (held_next next).answer
      → BookSays (told next).0 (book_after (ending_of local reply) book) more
  after-says job book (after, Go) local reply many more replied same says outs =
      let so_far = says.1 in
      subst (λ (r : Option Reply). BookSays (Some after) (book_after (ending_of local r) book) more)
      (sym replied)
      (says.0 ∙ ap Some (sym same), omega (arith, so_far, outs))
  after-says job book (after, Done ending) local reply many more replied same says outs =
      subst (λ (r : Option Reply). BookSays None (book_after (ending_of local r) book) more) (sym replied)
      (refl, ended)
    where
      -- how the call is kept in the book
      kept_as : Ending
      kept_as = record {
        answer = record { reply = ending.answer.reply; owners = local.owners.items };
        pairs = local.pairs.items;
      }

      finished : (call : Option Call) → call ≡ Some (call_of job)
          → count_by (λ (done : Finished). takes_out done.reply) (book.finished ++ finished_with call kept_as)
          ≡ ended_outs book + one_if (takes_out ending.answer.reply)
      finished call is = rw is (sum_by_push (λ (done : Finished). one_if (takes_out done.reply))
          book.finished (ended_with (call_of job) kept_as))

      given : (call : Option Call) → call ≡ Some (call_of job)
          → sum_by (λ (done : Finished). returned_by done.reply) (book.finished ++ finished_with call kept_as)
          ≡ ended_given book + returned_by ending.answer.reply
      given call is = rw is (sum_by_push (λ (done : Finished). returned_by done.reply) book.finished (ended_with (call_of job) kept_as))

      ended : more + sum_by (λ (done : Finished). returned_by done.reply) (book.finished ++ finished_with book.call kept_as)
          ≡ count_by (λ (done : Finished). takes_out done.reply) (book.finished ++ finished_with book.call kept_as)
      ended =
          let all = finished book.call says.0 in
          let back = given book.call says.0 in
          let so_far = says.1 in
          omega (arith, so_far, outs, all, back)

  stepped-says : (w : World L) (G G' : Ghost) (c : ℕ) (op : Op) → planned_in w.core c ≡ Some op
      → AllIn L mix env w.core
      → Inv env mix L w.core G → StepOuts env mix L w.core G G' c
      → ViewSays (view_of w c) (outs env mix G c)
      → ViewSays (view_stepped mix (old_of w.core.words op) (view_of w c)) (outs env mix G' c)
  stepped-says w G G' c op is all inv kept says =
      let old = old_of w.core.words op in
      let local = local_of w.core c in
      let of = step_of env mix L w.core G c op all inv is in
      let next = local_after mix local old in
      let r = job_after mix env of.job old in
      let table = (all.stays.locals_of c).doing in
      let left : job_of next.0.doing ≡ (told r).0 = left-job mix env local.doing of.job old table of.is in
      let says_job = subst (λ (job : Option Job). BookSays job (w.books c) (outs env mix G c)) of.is says in
      subst (λ (job : Option Job). BookSays job (book_after (ending_of next.0 next.1) (w.books c))
      (outs env mix G' c)) (sym left)
      (after-says of.job (w.books c) r next.0 next.1 (outs env mix G c) (outs env mix G' c)
      (doing_after-reply mix env local.doing of.job old table of.is) (same_call mix env of.job old)
      says_job (kept.mine op of.job is of.is))

  -- ---- one event

  event-says : (w : World L) (event : Event) → IsAdmittedEvent event → (has : HasBooks w)
      → (k : ℕ) → let after = kept env mix L w.core has.ghost event has.all has.inv in
      ViewSays (view_of (world_step mix w event) k) (outs env mix after.ghost k)
  event-says w Enroll may has k =
      let after = kept env mix L w.core has.ghost Enroll has.all has.inv in
      subst (ViewSays (view_of w k)) (sym (after.outs_kept k)) (has.says k)
  event-says w (Begin c call start) may has k =
      let after = kept env mix L w.core has.ghost (Begin c call start) has.all has.inv in
      subst (ViewSays (view_of (world_step mix w (Begin c call start)) k)) (sym (after.outs_kept k))
      (elim (cases_eq k c) [
        | inl e ↦ subst (λ d. ViewSays (view_of (world_step mix w (Begin c call start)) d)
            (outs env mix has.ghost d)) (sym e) (go (beginning_in w.core c call start) refl)
        | inr ne ↦ subst (λ (v : View L). ViewSays v (outs env mix has.ghost k))
            (sym (begin_other L mix w c call start k ne)) (has.says k)
      ])
    where
      go : (machine : Option (Doing L)) → beginning_in w.core c call start ≡ machine
          → ViewSays (view_of (world_step mix w (Begin c call start)) c) (outs env mix has.ghost c)
      go None is = subst (λ (v : World L). ViewSays (view_of v c) (outs env mix has.ghost c))
          (sym (begin_none L mix w c call start is)) (has.says c)
      go (Some machine) is =
          let can = beginning-some w.core.env w.core.enrolled w.core.locals c call start machine is in
          let place = has_place L mix env w.core c has.all.stays can.below in
          subst (λ (v : View L). ViewSays v (outs env mix has.ghost c))
          (sym (begin_self L mix w c call start machine is place))
          (begun-says c call start machine (view_of w c) (outs env mix has.ghost c)
          (made_in L mix env w.core c call start machine has.all.stays can)
          can.idle (has.says c))
  event-says w (events.Step c) may has k =
      let after = kept env mix L w.core has.ghost (events.Step c) has.all has.inv in
      elim (cases_eq k c) [
        | inl e ↦ subst (λ d. ViewSays (view_of (world_step mix w (events.Step c)) d)
            (outs env mix after.ghost d)) (sym e) (go (planned_in w.core c) refl)
        | inr ne ↦
            subst (ViewSays (view_of (world_step mix w (events.Step c)) k))
            (sym (after.outs_kept.others k ne))
            (subst (λ (v : View L). ViewSays v (outs env mix has.ghost k))
            (sym (step_other L mix w c k ne)) (has.says k))
      ]
    where
      go : (plan : Option Op) → planned_in w.core c ≡ plan
          → let after = kept env mix L w.core has.ghost (events.Step c) has.all has.inv in
          ViewSays (view_of (world_step mix w (events.Step c)) c) (outs env mix after.ghost c)
      go None is =
          let after = kept env mix L w.core has.ghost (events.Step c) has.all has.inv in
          subst (ViewSays (view_of (world_step mix w (events.Step c)) c)) (sym (after.outs_kept.none is))
          (subst (λ (v : World L). ViewSays (view_of v c) (outs env mix has.ghost c))
          (sym (step_none L mix w c is)) (has.says c))
      go (Some op) is =
          let after = kept env mix L w.core has.ghost (events.Step c) has.all has.inv in
          let can = planned-some w.core.env w.core.enrolled w.core.locals c op is in
          let place = has_place L mix env w.core c has.all.stays can.below in
          subst (λ (v : View L). ViewSays v (outs env mix after.ghost c))
          (sym (step_self L mix w c op is place))
          (stepped-says w has.ghost after.ghost c op is has.all has.inv after.outs_kept (has.says c))

  -- at opening nobody has called
  opening-says : (c : ℕ) → ViewSays (view_of (opening env) c) (outs env mix (opening_ghost env) c)
  opening-says c =
      rw (idle_at_opening env mix L c) (
        refl,
        (let none = count_below-none (λ n. is_taken_by c Free) env.geometry.nodes (λ n l. refl) in omega (arith, none)),
      )

  pub has_books : (events : List Event) → IsAdmitted events → HasBooks (run_of mix env events)
  has_books events admitted =
      run_keeps_admitted L mix HasBooks
      (λ w event may has.
      let k = kept env mix L w.core has.ghost event has.all has.inv in
      record {
        ghost = k.ghost;
        inv = k.inv;
        all = event-all L mix env w event may has.all;
        says =
            event-says w event may has;
      })
      (opening env) events admitted
      (record {
        ghost = opening_ghost env;
        inv = opening_inv env mix L;
        all = opens-all L mix env;
        says =
            opening-says;
      })
