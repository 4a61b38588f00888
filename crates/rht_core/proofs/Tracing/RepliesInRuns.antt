-- In every run each call that has ended has a reply of its kind, with the lists that come with that; what a caller works at
-- is the call of its book; and its rooms have the lists of its last finished call. Jobs keep it: an operation that tells the
-- answer of its call tells one of its kind, which is known from then on.
use Rattle.std.proofs.Common.{◌≡◌, ℕ, Bool, true, false, List, [], ◌∷◌, ◌++◌, map, Option, sym, refl, subst}
use Rattle.std.specs.Prelude.{IfSome}
use Rattle.std.specs.List.{AllByRecursion}
use Rattle.rht_words.specs.declared.env.Env.{Env}
use Rattle.rht_words.specs.declared.machine.Next.{Next}
use Rattle.rht_words.specs.declared.machine.Next.TheVariants.{Go, Done}
use Rattle.rht_model.specs.declared.history.Call.{Call}
use Rattle.rht_model.specs.declared.history.Call.TheVariants.{Walk}
use Rattle.rht_model.specs.declared.history.Cursor.{Cursor}
use Rattle.rht_model.specs.declared.history.Reply.{Reply}
use Rattle.rht_model.specs.declared.history.Reply.TheVariants.{Walked}
use Rattle.rht_model.specs.Answers.{Answer}
use Rattle.rht_model.specs.Endings.{Ending, ended_with}
use Rattle.rht_core.specs.declared.event.Event.{Event}
use Rattle.rht_core.specs.declared.book.Book.{Book}
use Rattle.rht_callers.specs.declared.local.Doing.{Doing}
use Rattle.rht_callers.specs.declared.local.Doing.TheVariants.{Idle, Counting, Tidying}
use Rattle.rht_core.specs.Jobs.{Job, call_of, job_after, job_of, held_of, held_next}
use Rattle.rht_core.specs.Runs.{World, IsAdmitted, view_of, local_of}
use Rattle.rht_core.specs.Traces.{Did, Past, Traced, traced_of}
use Rattle.rht_core.specs.Replies.{IsReplyTo, ArePairsWith, IsRightlyAnswered, IsBookOf, AnswersIn}
use Rattle.rht_core.specs.Laws.{IsDoingIn, IsLocalIn, Replies}
use Rattle.rht_ghost.proofs.Theory.Answering.{IsReplied, IsReplied-same, known_so}
use Rattle.rht_core.proofs.Events.JobsOfCallers.{HasItsPairs, GoesSo, goes_so, first_unknown}
use Rattle.rht_core.proofs.Events.RangesInRuns.{runs-all}
use Rattle.rht_core.proofs.Tracing.TracedJobs.{Performs, LeadsOn, IsEndedSo, IsAtJob, IsKeeping, jobs_keep}
use Rattle.rht_core.proofs.Tracing.TracesInRuns.{remembers}

-- a call that ends so is answered
abbrev pub EndsRight : Call → Ending → Type 0
EndsRight call ending = IsRightlyAnswered (ended_with call ending)

-- only a walk is answered with pairs
abbrev is_walk : Call → Bool
is_walk (Walk from limit) = true
is_walk _ = false

never_walked : (call : Call) (len : ℕ) (next : Option Cursor) → is_walk call ≡ false → IsReplyTo call (Walked len next) → ⊥
never_walked (Walk from limit) len next other replied = absurd (cc)
never_walked _ len next other replied = replied

without_pairs : (call : Call) (reply : Reply) (pairs : List (ℕ × ℕ)) → is_walk call ≡ false → IsReplyTo call reply → pairs ≡ []
    → ArePairsWith reply pairs
without_pairs call (Walked len next) pairs other replied none = absurd (never_walked call len next other replied)
without_pairs call _ pairs other replied none = none

-- so the pairs with which a call ends are those of its reply
right_pairs : (call : Call) (ending : Ending) → IsReplyTo call ending.answer.reply → HasItsPairs call ending
    → ArePairsWith ending.answer.reply ending.pairs
right_pairs (Walk from limit) ending replied pairs = pairs
right_pairs call ending replied pairs = without_pairs call ending.answer.reply ending.pairs refl replied pairs

module _ (M : Type 0) (mix : ℕ → ℕ → ℕ → ℕ) (env : Env) where
  -- the answer of the job's call, once it is known, is one of its kind
  abbrev pub Holds : Job → List Did → Type 0
  Holds job steps = IfSome (held_of job).answer (IsReplied (call_of job))

  abbrev pub Answered : Call → Ending → List Did → Type 0
  Answered call ending steps = EndsRight call ending

  -- an operation leaves it so, or tells one that is
  answer-right : (job : Job) (did : Did) → Performs mix env job did
      → IfSome (held_of job).answer (IsReplied (call_of job))
      → IfSome (held_next (job_after mix env job did.old)).answer (IsReplied (call_of job))
  answer-right job did performs holds =
      let step = performs.step in
      known_so env.config.kind performs.caller (call_of job) (IsReplied (call_of job))
      (IsReplied-same (call_of job)) _ _ _ _
      (held_of job).answer (held_next (job_after mix env job did.old)).answer step.says
      (λ answer unknown known. (step.right answer unknown known).replied) holds

  leads-right : (job : Job) (all : List Did) (next : Job × Next Ending) → GoesSo (call_of job) next
      → IfSome (held_next next).answer (IsReplied (call_of job))
      → LeadsOn M mix env Holds Answered job all next
  leads-right job all (after, Go) so right =
      subst (λ call. IfSome (held_of after).answer (IsReplied call)) (sym so.same) right
  leads-right job all (after, Done ending) so right = record {
    reply = right.reply;
    owners = right.owners;
    pairs = right_pairs (call_of job) ending right.reply so.alone;
  }

  pub runs-right : (events : List Event) (c : ℕ) → IsAdmitted events
      → let r : Traced M = traced_of mix env events in
      IsKeeping M mix env Holds Answered (view_of r.world c) (r.traces c)
  runs-right =
      jobs_keep M mix env Holds Answered
      record {
        begins = λ call job is.
            subst (λ (answer : Option Answer). IfSome answer (IsReplied (call_of job)))
            (sym (first_unknown env call job is)) tt;
        goes = λ job steps did performs holds.
            leads-right job (steps ++ did ∷ []) (job_after mix env job did.old) (goes_so mix env job did.old)
            (answer-right job did performs holds);
      }

  -- what a caller works at is the call of its book
  book-of : (c : ℕ) (doing : Doing M) (book : Book) (steps : List Did) → IsDoingIn env c doing
      → IsAtJob M mix env Holds Answered (job_of doing) book steps
      → IsBookOf env c doing book
  book-of c Idle book steps within at = at
  book-of c (Tidying m) book steps within at = record { same_geometry = within.same_geometry; call = at.call }
  book-of c (Counting m) book steps within at = record { same_env = within; call = at.call }
  book-of c _ book steps within at =
      record { same_env = within.same_env; same_caller = within.same_caller; call = at.call }

  -- the calls of a trace are those of its book
  all-answered : (calls : List Past) → AllByRecursion (IsEndedSo M mix env Holds Answered) calls
      → AllByRecursion IsRightlyAnswered (map (λ past. past.done) calls)
  all-answered [] all = tt
  all-answered (past ∷ calls) all =
      (record { reply = all.0.reply; owners = all.0.owners; pairs = all.0.pairs }, all-answered calls all.1)

pub replies : (M : Type 0) (mix : ℕ → ℕ → ℕ → ℕ) → Replies M mix
replies M mix env events admitted c =
    let r : Traced M = traced_of mix env events in
    let is = remembers M mix env events admitted in
    let kept = runs-right M mix env events c admitted in
    let within : IsLocalIn env c (local_of r.world.core c) =
    subst (λ (w : World M). IsLocalIn env c (local_of w.core c)) (sym is.world)
    ((runs-all M mix env events admitted).locals c) in
    subst (λ (w : World M). AnswersIn env c (local_of w.core c) (w.books c)) is.world
    record {
      finished = subst (AllByRecursion IsRightlyAnswered) (is.traces c).past
          (all-answered M mix env (r.traces c).past kept.past);
      progress =
          book-of M mix env c (local_of r.world.core c).doing (r.world.books c) (r.traces c).steps
          within.doing kept.now;
      lists = kept.lists;
    }
