-- A table that is given back gives each of its pages back, and then its slot.
use Rattle.std.proofs.Common.{◌≡◌, ℕ, ◌+◌, ◌*◌, ◌/◌, ◌≤◌, List, [], ◌∷◌, inl, inr, refl, ap, arith}
use Rattle.std.proofs.lemmas.Bool.{cases_lt, cond_both, ltb-false}
use Rattle.std.specs.Prelude.{nat_lt}
use Rattle.std.specs.List.{Any}
use Rattle.rht_words.specs.declared.machine.Next.{Next}
use Rattle.rht_words.specs.declared.machine.Next.TheVariants.{Done}
use Rattle.rht_words.specs.declared.geometry.Geometry.{Geometry}
use Rattle.rht_words.specs.Machines.{Performed, Ran, ran}
use Rattle.rht_arena.specs.GiveRun.{GiveRunModel, give_run_plan, give_run_after}
use Rattle.rht_arena.specs.RunLaws.{IsOfRun, GivesPage}
use Rattle.rht_arena.proofs.RunsGiven.{giving, gives_page}
use Rattle.rht_arena.proofs.NodesInTurn.{Any-behind}
use Rattle.rht_nest.specs.Tables.{run_first, run_pages}
use Rattle.rht_nest.specs.Unmake.{UnmakeModel, unmake_plan, unmake_after, run_given}
use Rattle.rht_nest.specs.MakeLaws.{EndsWithSlot, GivesTableBack}
use Rattle.rht_nest.specs.declared.unmake.UnmakeAt.{UnmakeAt}
use Rattle.rht_nest.specs.declared.unmake.UnmakeAt.TheVariants as at

module _ (g : Geometry) (slot : ℕ) where
  -- the giving back of a table, in a state
  abbrev unmaking : UnmakeAt → UnmakeModel
  unmaking state = record { geometry = g; slot = slot; at = state }

  -- what comes of it
  abbrev from : UnmakeAt → List ℕ → Ran (Unit {0})
  from state olds = ran unmake_plan unmake_after (unmaking state) olds

  -- the slot is given back last
  slot_last : (olds : List ℕ) (state : UnmakeAt) → (from state olds).next ≡ Done tt
      → EndsWithSlot g slot (from state olds).steps
  slot_last [] state done = absurd (cc)
  slot_last (old ∷ olds) (at.Giving give) done =
      let step : Performed = record { op = give_run_plan give; old = old } in
      let next = run_given (give_run_after give old).0 (give_run_after give old).1 in
      let later = slot_last olds next done in
      record { before = step ∷ later.before; old = later.old; are = ap (λ steps. step ∷ steps) later.are }
  slot_last (old ∷ olds) at.SlotBack done = record { before = []; old = old; are = refl }

  module _ (first pages page : ℕ) (of_run : IsOfRun first pages page) where
    -- By induction over the words that the operations find: the page's word is this one or one behind it.
    gives : (olds : List ℕ) (index : ℕ) → 64 * index ≤ page
        → (from (at.Giving (giving g first pages index)) olds).next ≡ Done tt
        → Any (GivesPage g page) (from (at.Giving (giving g first pages index)) olds).steps
    gives [] index low done = absurd (cc)
    gives (old ∷ olds) index low done =
        let step : Performed = record { op = give_run_plan (giving g first pages index); old = old } in
        cond_both {A = GiveRunModel × Next (Unit {0})} (nat_lt (64 * (index + 1)) (first + pages)) _ _
        (λ next. (from (run_given next.0 next.1) olds).next ≡ Done tt
        → Any (GivesPage g page) (step ∷ (from (run_given next.0 next.1) olds).steps))
        (λ more later. elim (cases_lt page (64 * (index + 1))) [
          | inl here ↦
              (0, step, omega arith, refl, gives_page g first pages page of_run index old (omega (arith, here, low)))
          | inr behind ↦
              Any-behind (GivesPage g page) step (from (at.Giving (giving g first pages (index + 1))) olds).steps
              (gives olds (index + 1) behind later)
        ])
        (λ f last.
        let end : first + pages ≤ 64 * (index + 1) = ltb-false (64 * (index + 1)) (first + pages) f in
        let word : page / 64 ≡ index = omega (arith, of_run.below, end, low) in
        (0, step, omega arith, refl, gives_page g first pages page of_run index old word))
        done

pub gives_table_back : GivesTableBack
gives_table_back g slot shape olds done = record {
  pages_given = λ page of_run.
      gives g slot (run_first g shape) (run_pages g shape) page of_run olds (run_first g shape / 64)
      (omega (arith, of_run.from)) done;
  slot_given = slot_last g slot olds _ done;
}
