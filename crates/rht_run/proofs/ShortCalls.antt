-- Why a tidying and a walk that a pass makes end, whatever other callers do.
-- In the run that the pass is in the traces remember the operations of its call, and by the laws no tidying and no walk of a run has more
-- of them than its bound.
use Rattle.std.proofs.Common.{◌≡◌, ℕ, ◌≤◌, List, length, refl, ap, ◌∙◌, subst, arith}
use Rattle.std.proofs.lemmas.Nat.{mul-le}
use Rattle.std.specs.Prelude.{Option, Some}
use Rattle.rht_words.specs.declared.env.Env.{Env}
use Rattle.rht_words.specs.Shapes.{unpacked, size_of}
use Rattle.rht_words.proofs.ShapeSizes.{IsSizeUpTo-size_of}
use Rattle.rht_grace.specs.TidyLaws.{tidy_bound}
use Rattle.rht_walk.specs.WalkLaws.{bucket_bound, walk_bound}
use Rattle.rht_model.specs.declared.history.Call.{Call}
use Rattle.rht_model.specs.declared.history.Call.TheVariants.{Tidy, Walk}
use Rattle.rht_model.specs.declared.history.Cursor.{Cursor}
use Rattle.rht_core.specs.declared.event.Event.{Event}
use Rattle.rht_core.specs.declared.book.Book.{Book}
use Rattle.rht_core.specs.Lookups.{EachCall, IsShortTidying, IsShortWalk, shape_found}
use Rattle.rht_core.specs.Runs.{World, run_of, IsAdmitted}
use Rattle.rht_core.specs.Traces.{Did, traced_of}
use Rattle.rht_core.proofs.Tracing.TracesInRuns.{remembers}
use Rattle.rht_core.proofs.Tracing.TidiesInRuns.{tidies_soon}
use Rattle.rht_core.proofs.Tracing.WalksInRuns.{walks_soon}
use Rattle.rht_run.specs.declared.table.Table.{Table}
use Rattle.rht_run.specs.Passes.{EndsWithin}
use Rattle.rht_run.proofs.Performed.{of_run}

-- a walk makes no more operations than in a table of 2^18 buckets
walk_bound-most : (env : Env) (shape : ℕ) → walk_bound env.geometry (size_of (unpacked shape)) ≤ walk_bound env.geometry 262144
walk_bound-most env shape =
    let bound = bucket_bound env.geometry in
    let most = mul-le (size_of (unpacked shape)) bound 262144 bound (IsSizeUpTo-size_of (unpacked shape)).greatest (omega arith) in
    omega (arith, most)

module _ (M : Type 0) (mix : ℕ → ℕ → ℕ → ℕ) where
  -- what is so of each call of a run by its operations is so of the one that a caller is in; its book counts them
  in_progress : (So : Env → Call → List Did → Type 0)
      → ((env : Env) (events : List Event) (c : ℕ) → IsAdmitted events
      → EachCall M mix (So env) (traced_of mix env events) c)
      → (env : Env) (events : List Event) (c : ℕ) (call : Call) → IsAdmitted events
      → let w : World M = run_of mix env events in
      (w.books c).call ≡ Some call → (steps : List Did) × (length steps ≡ (w.books c).steps) × So env call steps
  in_progress So law env events c call admitted asked =
      let traced = remembers M mix env events admitted in
      let same = ap (λ (w : World M). (w.books c).call) traced.world ∙ asked in (
        ((traced_of {M = M} mix env events).traces c).steps,
        (traced.traces c).steps ∙ ap (λ (w : World M). (w.books c).steps) traced.world,
        (law env events c admitted).now call same,
      )

  tidying_now : (env : Env) (events : List Event) (c : ℕ) → IsAdmitted events
      → let w : World M = run_of mix env events in
      (w.books c).call ≡ Some Tidy → (w.books c).steps ≤ tidy_bound env.geometry
  tidying_now env events c admitted asked =
      let now = in_progress IsShortTidying (tidies_soon M mix) env events c Tidy admitted asked in
      subst (λ n. n ≤ tidy_bound env.geometry) now.1 (now.2 refl)

  walk_now : (from : Option Cursor) (limit : ℕ) (env : Env) (events : List Event) (c : ℕ) → IsAdmitted events
      → let w : World M = run_of mix env events in
      (w.books c).call ≡ Some (Walk from limit) → (w.books c).steps ≤ walk_bound env.geometry 262144
  walk_now from limit env events c admitted asked =
      let now = in_progress IsShortWalk (walks_soon M mix) env events c (Walk from limit) admitted asked in
      let few = now.2 from limit refl in
      let most = walk_bound-most env (shape_found now.0) in
      subst (λ n. n ≤ walk_bound env.geometry 262144) now.1 (omega (arith, few, most))

module _ {M : Type 0} (mix : ℕ → ℕ → ℕ → ℕ) (t : Table M) where
  -- so they are short in each run that a pass is in
  ends_within : (call : Call) (most : Env → ℕ)
      → ((env : Env) (events : List Event) (c : ℕ) → IsAdmitted events
      → let w : World M = run_of mix env events in (w.books c).call ≡ Some call → (w.books c).steps ≤ most env)
      → EndsWithin mix t call (most t.env)
  ends_within call most short steps before now is =
      subst (λ n. n ≤ most t.env) (ap (λ (b : Book). b.steps) is.book)
      (of_run mix t now is.pass (λ env c local book. book.call ≡ Some call → book.steps ≤ most env)
      (λ env events c admitted. short env events c admitted) (ap (λ (b : Book). b.call) is.book))

  pub tidying_ends : EndsWithin mix t Tidy (tidy_bound t.env.geometry)
  tidying_ends = ends_within Tidy (λ env. tidy_bound env.geometry) (tidying_now M mix)

  pub walk_ends : (from : Option Cursor) (limit : ℕ) → EndsWithin mix t (Walk from limit) (walk_bound t.env.geometry 262144)
  walk_ends from limit = ends_within (Walk from limit) (λ env. walk_bound env.geometry 262144) (walk_now M mix from limit)
