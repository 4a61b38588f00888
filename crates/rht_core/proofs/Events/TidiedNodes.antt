-- How many nodes a call has given back. A tidying gives back those that wait, one behind the other. Those that it has given back and those
-- that it has still are as many as it had at its beginning. No other call gives any back.
use Rattle.std.specs.Prelude.{IfSome, nat_lt, if◌then◌else◌}
use Rattle.std.proofs.Common.{◌≡◌, ℕ, zero, suc, ◌+◌, ◌≤◌, ◌++◌, ◌==◌, List, length, length-append, length-drop, drop, get_or, Option, Some, None, refl, ap, ◌∙◌, subst, arith}
use Rattle.std.proofs.lemmas.List.{append-nil}
use Rattle.rht_words.specs.declared.env.Env.{Env}
use Rattle.rht_words.specs.declared.geometry.Geometry.{Geometry}
use Rattle.rht_words.specs.declared.machine.Next.{Next}
use Rattle.rht_words.specs.declared.machine.Next.TheVariants.{Go, Done}
use Rattle.rht_model.specs.declared.history.Call.{Call}
use Rattle.rht_model.specs.declared.history.Call.TheVariants.{Tidy}
use Rattle.rht_model.specs.declared.history.Reply.{Reply}
use Rattle.rht_model.specs.declared.history.Reply.TheVariants.{Clear, Pending}
use Rattle.rht_model.specs.Endings.{Ending}
use Rattle.rht_model.specs.Replies.{IsReplyTo}
use Rattle.rht_grace.specs.Batch.{BatchModel, with_word, first_odd}
use Rattle.rht_grace.specs.Tidy.{after_at, giving, asking, asked_at, begun}
use Rattle.rht_grace.specs.declared.tidy.TidyAt.{TidyAt}
use Rattle.rht_grace.specs.declared.tidy.TidyAt.TheVariants as tidy_at
use Rattle.rht_grace.proofs.TidyRuns.{begun-some, begun-none}
use Rattle.rht_callers.specs.Batches.{nodes_left}
use Rattle.rht_core.specs.Counts.{returned_by}
use Rattle.rht_core.specs.Jobs.{Job, finds, binds, lists, releases, rebinds, works, tidies, walks, counts, call_of, first_job, IsFirstJob}
use Rattle.rht_core.specs.Tidyings.{IsTidyPlace}
use Rattle.rht_core.proofs.Machines.TidyRanges.{Came, giving-so, asking-so}
use Rattle.rht_core.proofs.Events.JobsOfCallers.{first_tidy-so, first-of}
use Rattle.rht_ghost.proofs.Theory.Steps.{by_test}

-- a tidying that gives back has given back those before its place
abbrev pub given_at : TidyAt → ℕ
given_at (tidy_at.Keeping caller) = 0
given_at (tidy_at.Asking caller) = 0
given_at (tidy_at.Giving index) = index

-- and a call in progress
abbrev pub given_of : Job → ℕ
given_of (finds port state) = 0
given_of (binds port owner once state) = 0
given_of (lists port room state) = 0
given_of (releases port owner state) = 0
given_of (rebinds port owner new state) = 0
given_of (works state) = 0
given_of (tidies batch state) = given_at state
given_of (walks from limit room state) = 0
given_of counts = 0

-- behind an operation, by its reply where it has ended
abbrev pub given_next : Job × Next Ending → ℕ
given_next (job, Go) = given_of job
given_next (job, Done ending) = returned_by ending.answer.reply

-- none at its beginning
asked-none : (found : Option ℕ) → given_at (asked_at found) ≡ 0
asked-none None = refl
asked-none (Some caller) = refl

begun_none : (batch : BatchModel) → given_at (begun batch).1 ≡ 0
begun_none batch = go (length batch.waiting) refl
  where
    go : (count : ℕ) → length batch.waiting ≡ count → given_at (begun batch).1 ≡ 0
    go zero none = ap (λ (b : BatchModel × TidyAt). given_at b.1) (begun-none batch none)
    go (suc count) some =
        ap (λ (b : BatchModel × TidyAt). given_at b.1) (begun-some batch (omega (arith, some))) ∙ asked-none (first_odd batch.kept 0)

first-given : (env : Env) (call : Call) (batch : Option BatchModel) (start : ℕ) → IfSome (first_job env batch call start) (λ job. given_of job ≡ 0)
first-given env Tidy batch start = first_tidy-so (λ job. given_of job ≡ 0) batch begun_none
first-given env _ batch start = refl

pub first_given : (env : Env) (call : Call) (job : Job) → IsFirstJob env call job → given_of job ≡ 0
first_given env call job is = first-of (λ j. given_of j ≡ 0) env call job (first-given env call) is

-- no other call gives any back
pub given-none : (job : Job) → (call_of job ≡ Tidy → ⊥) → given_of job ≡ 0
given-none (tidies batch state) not = absurd (not refl)
given-none _ not = refl

clear-for : (call : Call) (n : ℕ) → IsReplyTo call (Clear n) → call ≡ Tidy
clear-for Tidy n is = refl
clear-for _ n is = absurd is

pub returned-none : (call : Call) (reply : Reply) → (call ≡ Tidy → ⊥) → IsReplyTo call reply → returned_by reply ≡ 0
returned-none call (Clear n) not is = absurd (not (clear-for call n is))
returned-none call _ not is = refl

-- ---- a tidying

-- what it has behind an operation, and what it has given back
abbrev pub left_now : Came → List ℕ
left_now (batch, state, Go) = nodes_left batch state
left_now (batch, state, Done reply) = batch.fresh ++ batch.waiting

abbrev pub given_now : Came → ℕ
given_now (batch, state, Go) = given_at state
given_now (batch, state, Done reply) = returned_by reply

-- so many they are together
abbrev IsSame : ℕ → Came → Type 0
IsSame many came = length (left_now came) + given_now came ≡ many

all_of : (batch : BatchModel) → length (batch.fresh ++ batch.waiting) ≡ length batch.fresh + length batch.waiting
all_of batch = length-append batch.fresh batch.waiting

giving_same : (batch : BatchModel) (index : ℕ) → index ≤ length batch.waiting
    → IsSame (length (batch.fresh ++ batch.waiting)) (giving batch index)
giving_same batch index low =
    giving-so (IsSame (length (batch.fresh ++ batch.waiting))) batch index
    (λ below.
    let left = length-append batch.fresh (drop index batch.waiting) in
    let rest = length-drop index batch.waiting in
    let whole = all_of batch in
    omega (arith, left, rest, whole, low))
    (λ past.
    let left = ap length (append-nil batch.fresh) in
    let whole = all_of batch in
    omega (arith, left, whole))

asking_same : (batch : BatchModel) (from : ℕ) → IsSame (length (batch.fresh ++ batch.waiting)) (asking batch from)
asking_same batch from =
    asking-so (IsSame (length (batch.fresh ++ batch.waiting))) batch from (λ caller there odd. omega arith) (λ some. omega arith)
    (λ none.
    let left = ap length (append-nil batch.fresh) in
    let whole = all_of batch in
    omega (arith, left, whole))

pub same_nodes : (g : Geometry) (batch : BatchModel) (state : TidyAt) (old : ℕ) → IsTidyPlace g batch state
    → IsSame (length (nodes_left batch state) + given_at state) (after_at g batch state old)
same_nodes g batch (tidy_at.Keeping caller) old at_in =
    let next = with_word batch caller old in
    subst (λ many. IsSame many (after_at g batch (tidy_at.Keeping caller) old)) (omega arith)
    (by_test (λ t. IsSame (length (batch.fresh ++ batch.waiting)) (if t then (next, tidy_at.Keeping (caller + 1), Go) else asking next 0))
    (nat_lt (caller + 1) g.callers) (λ low. omega arith) (λ past. asking_same next 0))
same_nodes g batch (tidy_at.Asking caller) old at_in =
    let next = with_word batch caller 0 in
    subst (λ many. IsSame many (after_at g batch (tidy_at.Asking caller) old)) (omega arith)
    (by_test (λ t. IsSame (length (batch.fresh ++ batch.waiting))
    (if t then (batch, tidy_at.Asking caller, Done (Pending caller old)) else asking next (caller + 1)))
    (old == get_or batch.kept caller 0) (λ kept. omega arith) (λ other. asking_same next (caller + 1)))
same_nodes g batch (tidy_at.Giving index) old at_in =
    let left = length-append batch.fresh (drop index batch.waiting) in
    let rest = length-drop index batch.waiting in
    let whole = all_of batch in
    subst (λ many. IsSame many (giving batch (index + 1))) (omega (arith, left, rest, whole, at_in))
    (giving_same batch (index + 1) (omega (arith, at_in)))
