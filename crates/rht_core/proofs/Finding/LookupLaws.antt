-- The laws of look-ups: their bound, that they load no slot's shape twice, and that each answered what was so at a moment of its call.
use Rattle.std.proofs.Common.{◌≡◌, ◌≢◌, ℕ, ◌+◌, ◌≤◌, List, [], ◌∷◌, length, Option, Some, None, refl, sym, ap, inl, inr, arith}
use Rattle.rht_words.specs.declared.env.Env.{Env}
use Rattle.rht_words.proofs.EachElement.{AllByRecursion-weaker}
use Rattle.rht_model.specs.declared.history.Call.{Call}
use Rattle.rht_model.specs.declared.history.Call.TheVariants.{Find}
use Rattle.rht_model.specs.declared.history.Reply.{Reply}
use Rattle.rht_model.specs.declared.history.Reply.TheVariants.{Bound, Released, Found, Missing}
use Rattle.rht_model.specs.Answers.{Answer, find_reply}
use Rattle.rht_model.specs.Histories.{without_kick}
use Rattle.rht_find.specs.FindBound.{find_bound}
use Rattle.rht_find.proofs.FindBounds.{within_bound}
use Rattle.rht_core.specs.declared.event.Event.{Event}
use Rattle.rht_core.specs.Jobs.{Job, finds}
use Rattle.rht_core.specs.Lookups.{IsShort, AnswersMoment, IsFoundThroughout, Bounded, MeetsEachOnce, MeetsFewTables, TakesEffect, FindsWhatStays}
use Rattle.rht_core.specs.Runs.{IsAdmitted}
use Rattle.rht_core.specs.RunHistories.{bindings_behind}
use Rattle.rht_core.specs.Traces.{Past, Traced, traced_of}
use Rattle.rht_core.proofs.Finding.LookSteps.{spent_most}
use Rattle.rht_core.proofs.Finding.ShapesOnce.{met-once}
use Rattle.rht_core.proofs.Finding.LookupsAtEvents.{AreLooking, JobLooks, SaysOf, PastLooks}
use Rattle.rht_core.proofs.Finding.LookupsInRuns.{has_looks}
use Rattle.rht_core.proofs.Tracing.TracedJobs.{IsAtJob}
use Rattle.rht_core.proofs.Tracing.RepliesInRuns.{Holds, Answered, runs-right}

-- the answer of a look-up looks the same whether `work` has something to do or not
pub plain_reply : (reply : Reply) (owners : List ℕ) → find_reply owners ≡ without_kick reply → reply ≡ find_reply owners
plain_reply (Bound kick) [] is = absurd (cc)
plain_reply (Bound kick) (first ∷ others) is = absurd (cc)
plain_reply (Released kick) [] is = absurd (cc)
plain_reply (Released kick) (first ∷ others) is = absurd (cc)
plain_reply _ owners is = sym is

-- the reply of an answer, where there is one
abbrev pub reply_in : Option Answer → Reply
reply_in None = Missing
reply_in (Some answer) = answer.reply

-- where there is an owner it is found
found_one : (owners : List ℕ) (reply : Reply) → owners ≢ [] → reply ≡ find_reply owners → (owner : ℕ) × (reply ≡ Found owner)
found_one [] reply some is = absurd (some refl)
found_one (first ∷ others) reply some is = (first, is)

below_bound : (made bound : ℕ) → made + 1 ≤ bound → made ≤ bound
below_bound made bound few = omega (arith, few)

module _ (L : Type 0) (mix : ℕ → ℕ → ℕ → ℕ) (env : Env) (events : List Event) (c : ℕ) (admitted : IsAdmitted events) where
  abbrev r : Traced L
  r = traced_of mix env events

  abbrev looking : AreLooking L mix env events r
  looking = has_looks L mix env events admitted

  -- ---- the bound

  past_short : (past : Past) → PastLooks L mix env events c past → IsShort env past.done.call past.steps
  past_short past looked port is = (looked port is).short

  now_short : (job : Option Job) (call : Call)
      → IsAtJob L mix env (Holds L mix env) (Answered L mix env) job (r.world.books c) (r.traces c).steps
      → JobLooks L mix env events r.world.core looking.placed (looking.readers c).chains c (r.traces c).begin (r.traces c).steps job
      → (r.world.books c).call ≡ Some call → IsShort env call (r.traces c).steps
  now_short None call at_job looks asked port is = absurd (let none = at_job.call in cc)
  now_short (Some (finds other state)) call at_job looks asked port is =
      let made = length (r.traces c).steps in
      let most = spent_most env c mix other (looking.readers c).chains ((r.traces c).begin + 1)
      (SaysOf L mix env events c other (r.traces c).begin) r.world.core.words looking.placed.ghost looking.placed.places
      looking.placed.inv.whole made state looks.means looks.spent in
      below_bound made (find_bound env) (within_bound env made most)
  now_short (Some _) call at_job looks asked port is = absurd (let same = at_job.call in cc)

  -- ---- the tables to which it comes

  past_once : (past : Past) → PastLooks L mix env events c past → MeetsEachOnce env past.done.call past.steps
  past_once past looked port slot is within = (looked port is).once slot within

  now_once : (job : Option Job) (call : Call)
      → IsAtJob L mix env (Holds L mix env) (Answered L mix env) job (r.world.books c) (r.traces c).steps
      → JobLooks L mix env events r.world.core looking.placed (looking.readers c).chains c (r.traces c).begin (r.traces c).steps job
      → (r.world.books c).call ≡ Some call → MeetsEachOnce env call (r.traces c).steps
  now_once None call at_job looks asked port slot is within = absurd (let none = at_job.call in cc)
  now_once (Some (finds other state)) call at_job looks asked port slot is within =
      met-once env c looking.placed.ghost state (r.traces c).steps looks.met slot within
  now_once (Some _) call at_job looks asked port slot is within = absurd (let same = at_job.call in cc)

  -- ---- its answer

  moment : (past : Past) → PastLooks L mix env events c past → (port : ℕ) → past.done.call ≡ Find port
      → AnswersMoment L mix env events past port
  moment past looked port is =
      let had = looked port is in
      let owners = bindings_behind L mix env events (had.at + 1) port in
      record {
        at = had.at;
        begun = had.begun;
        before = had.before;
        reply = elim had.said [
          | inl legal ↦ elim legal.legal [
            | inl answered ↦ plain_reply past.done.reply owners (ap reply_in answered)
            | inr refused ↦ absurd refused.0
          ]
          | inr not_about ↦ absurd (cc)
        ];
      }

  throughout : (past : Past) → PastLooks L mix env events c past → IsFoundThroughout L mix env events past
  throughout past looked port is bound =
      let answer = moment past looked port is in
      found_one (bindings_behind L mix env events (answer.at + 1) port) past.done.reply
      (bound answer.at answer.begun answer.before) answer.reply

pub bounded : (L : Type 0) (mix : ℕ → ℕ → ℕ → ℕ) → Bounded L mix
bounded L mix env events c admitted =
    let looks = (looking L mix env events c admitted).looks c in
    record {
      past = AllByRecursion-weaker _ _ (past_short L mix env events c admitted) _ looks.past;
      now = λ call asked. now_short L mix env events c admitted _ call (runs-right L mix env events c admitted).now looks.now asked;
    }

pub meets_few : (L : Type 0) (mix : ℕ → ℕ → ℕ → ℕ) → MeetsFewTables L mix
meets_few L mix env events c admitted =
    let looks = (looking L mix env events c admitted).looks c in
    record {
      past = AllByRecursion-weaker _ _ (past_once L mix env events c admitted) _ looks.past;
      now = λ call asked. now_once L mix env events c admitted _ call (runs-right L mix env events c admitted).now looks.now asked;
    }

pub takes_effect : (L : Type 0) (mix : ℕ → ℕ → ℕ → ℕ) → TakesEffect L mix
takes_effect L mix env events c admitted =
    AllByRecursion-weaker _ _ (moment L mix env events c admitted) _ ((looking L mix env events c admitted).looks c).past

pub finds_what_stays : (L : Type 0) (mix : ℕ → ℕ → ℕ → ℕ) → FindsWhatStays L mix
finds_what_stays L mix env events c admitted =
    AllByRecursion-weaker _ _ (throughout L mix env events c admitted) _ ((looking L mix env events c admitted).looks c).past
