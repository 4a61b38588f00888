-- A tidying, operation by operation. What comes after a state goes on or has ended; so the operations of a call are that state's own,
-- and those of what comes after it.
use Rattle.std.proofs.Common.{◌≡◌, ℕ, ◌<◌, List, [], ◌∷◌, length, refl, sym, subst, arith}
use Rattle.std.proofs.lemmas.Bool.{eq-eqb, ne_eqb}
use Rattle.rht_words.specs.declared.machine.Next.{Next}
use Rattle.rht_words.specs.declared.machine.Next.TheVariants.{Go, Done}
use Rattle.rht_words.specs.declared.geometry.Geometry.{Geometry}
use Rattle.rht_words.specs.Machines.{Performed, Ran, ran, went_on}
use Rattle.rht_model.specs.declared.history.Reply.{Reply}
use Rattle.rht_grace.specs.Batch.{BatchModel, turned, first_odd}
use Rattle.rht_grace.specs.Tidy.{TidyModel, plan_at, tidy_plan, after_at, moved, tidy_after, asked_at, begun}
use Rattle.rht_grace.specs.TidyLaws.{Tidied, with_batch}
use Rattle.rht_grace.specs.declared.tidy.TidyAt.{TidyAt}
use Rattle.rht_grace.specs.declared.tidy.TidyAt.TheVariants as at

-- what comes after a state: the batch, the next state, and whether it has ended
abbrev pub Came : Type 0
Came = BatchModel × TidyAt × Next Reply

-- an operation, and those behind it
abbrev pub stepped : Performed → Ran Tidied → Ran Tidied
stepped step rest = record { steps = step ∷ rest.steps; next = rest.next }

module _ (g : Geometry) where
  abbrev pub state : BatchModel → TidyAt → TidyModel
  state batch at = record { geometry = g; batch = batch; at = at }

  abbrev pub run_at : BatchModel → TidyAt → List ℕ → Ran Tidied
  run_at batch at olds = ran tidy_plan (λ m word. with_batch (tidy_after m word)) (state batch at) olds

  abbrev pub goes_on : Came → List ℕ → Ran Tidied
  goes_on (batch, at, Go) olds = run_at batch at olds
  goes_on (batch, at, Done reply) olds =
      record { steps = []; next = Done (record { reply = reply; batch = batch }) }

  abbrev pub did : BatchModel → TidyAt → ℕ → Performed
  did batch at old = record { op = plan_at g batch at; old = old }

  run-step : (batch : BatchModel) (at : TidyAt) (old : ℕ) (olds : List ℕ)
      → run_at batch at (old ∷ olds) ≡ stepped (did batch at old) (goes_on (after_at g batch at old) olds)
  run-step batch at old olds = go (after_at g batch at old)
    where
      go : (came : Came)
          → went_on (did batch at old) (with_batch (moved (state batch at) came)).1
          (ran tidy_plan (λ m word. with_batch (tidy_after m word)) (with_batch (moved (state batch at) came)).0 olds)
          ≡ stepped (did batch at old) (goes_on came olds)
      go (after, next, Go) = refl
      go (after, next, Done reply) = refl

  -- what holds of the operation and those behind it holds of the run
  pub by_step : (Claim : Ran Tidied → Type 0) (batch : BatchModel) (at : TidyAt) (old : ℕ) (olds : List ℕ)
      → Claim (stepped (did batch at old) (goes_on (after_at g batch at old) olds))
      → Claim (run_at batch at (old ∷ olds))
  by_step Claim batch at old olds holds = subst Claim (sym (run-step batch at old olds)) holds

-- a run that goes on hasn't ended
pub not_ended : (end : Tidied) → ◌≡◌ {A = Next Tidied} Go (Done end) → ⊥
not_ended end is = cc

pub same_end : (end other : Tidied) → ◌≡◌ {A = Next Tidied} (Done end) (Done other) → end ≡ other
same_end end other is = cc

-- where some nodes wait nothing is kept first
pub begun-some : (batch : BatchModel) → 0 < length batch.waiting
    → begun batch ≡ (batch, asked_at (first_odd batch.kept 0))
begun-some batch some = rw (ne_eqb (length batch.waiting) 0 (λ none. absurd (omega (arith, some, none)))) refl

-- and where none waits it begins with the fresh ones
pub begun-none : (batch : BatchModel) → length batch.waiting ≡ 0 → begun batch ≡ (turned batch, at.Keeping 0)
begun-none batch none = rw (eq-eqb (length batch.waiting) 0 none) refl
