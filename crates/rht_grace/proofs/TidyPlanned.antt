-- On which words a tidying works: section words, and the words of the map of nodes. Whatever words it finds, its batch stays sound and
-- its state names callers and nodes that are there.
use Rattle.std.proofs.Common.{◌≡◌, ℕ, zero, suc, ◌+◌, ◌<◌, List, [], ◌∷◌, length, get_or, Bool, true, false, ◌==◌, Option, Some, None, refl, sym, ap, subst, inl, inr, arith}
use Rattle.std.specs.Prelude.{nat_lt, if◌then◌else◌}
use Rattle.std.specs.List.{AllByRecursion}
use Rattle.std.proofs.lemmas.Bool.{ltb-true}
use Rattle.std.proofs.lemmas.List.{nil_from_length}
use Rattle.rht_words.specs.declared.geometry.Geometry.{Geometry}
use Rattle.rht_words.specs.declared.machine.Next.TheVariants.{Go, Done}
use Rattle.rht_words.specs.Places.{Section}
use Rattle.rht_words.specs.Planned.{IsPlannedIn}
use Rattle.rht_words.proofs.PlannedWords.{planned_load}
use Rattle.rht_model.specs.declared.history.Reply.TheVariants.{Clear, Pending}
use Rattle.rht_arena.proofs.NodesPlanned.{planned_give}
use Rattle.rht_grace.specs.Batch.{BatchModel, IsBatch, turned, with_word, cleared, first_odd}
use Rattle.rht_grace.specs.Tidy.{load_of, plan_at, after_at, giving, ask, asking, keeping, asked_at, begun, IsTidyAtIn}
use Rattle.rht_grace.specs.TidyLaws.{IsTidyStep, TidiesWithin}
use Rattle.rht_grace.specs.declared.tidy.TidyAt.{TidyAt}
use Rattle.rht_grace.specs.declared.tidy.TidyAt.TheVariants as at
use Rattle.rht_grace.proofs.BatchNodes.{IsBatch-cleared, IsBatch-with_word, IsBatch-turned, waiting-node, waiting-most}
use Rattle.rht_grace.proofs.OddWords.{first_odd-Some}
use Rattle.rht_grace.proofs.TidyRuns.{Came, run_at, goes_on, did, by_step, begun-some, begun-none}

module _ (g : Geometry) where
  -- a tidying of a sound batch of this table, in a state that names what is there
  pub record IsSound (batch : BatchModel) (at : TidyAt) : Type 0 where
    pub sound : IsBatch batch
    pub same : batch.geometry ≡ g
    pub at_in : IsTidyAtIn batch at

  abbrev pub CameSound : Came → Type 0
  CameSound (batch, at, next) = IsSound batch at

  -- ---- on which words

  planned_section : (caller : ℕ) → caller < g.callers → IsPlannedIn g (load_of caller)
  planned_section caller there =
      let within = g.within.callers_within in planned_load g (Section caller) (omega (arith, there, within.1)) tt

  loads_step : (caller old : ℕ) → caller < g.callers → IsTidyStep g (record { op = load_of caller; old = old })
  loads_step caller old there = record {
    either = inl (record { caller = caller; there = there; loads = refl });
    planned = planned_section caller there;
  }

  -- each operation is one of the two, and on one of the table's words
  pub tidy_step : (batch : BatchModel) (at : TidyAt) (old : ℕ) → IsSound batch at → IsTidyStep g (did g batch at old)
  tidy_step batch (at.Keeping caller) old in_range =
      let callers = ap (λ (h : Geometry). h.callers) in_range.same in
      loads_step caller old (omega (arith, in_range.at_in, callers))
  tidy_step batch (at.Asking caller) old in_range =
      let callers = ap (λ (h : Geometry). h.callers) in_range.same in
      loads_step caller old (omega (arith, in_range.at_in, callers))
  tidy_step batch (at.Giving index) old in_range =
      let nodes = ap (λ (h : Geometry). h.nodes) in_range.same in
      let below = waiting-node batch in_range.sound index in
      let there : get_or batch.waiting index 0 < g.nodes = omega (arith, below, nodes) in
      record {
        either = inr (record { node = get_or batch.waiting index 0; there = there; gives = refl });
        planned = planned_give g (record { geometry = g; node = get_or batch.waiting index 0 })
            (record { geometry_same = refl; node_in = there });
      }

  pub planned_tidy : (batch : BatchModel) (at : TidyAt) → IsSound batch at → IsPlannedIn g (plan_at g batch at)
  planned_tidy batch at in_range = let step = tidy_step batch at 0 in_range in step.planned

  -- ---- what stays

  module _ (batch : BatchModel) (sound : IsBatch batch) (same : batch.geometry ≡ g) where
    some_callers : 0 < batch.geometry.callers
    some_callers = let within = batch.geometry.within.callers_within in omega (arith, within.0)

    at_place : (index : ℕ) → index < length batch.waiting → IsSound batch (at.Giving index)
    at_place index low =
        let most = waiting-most batch sound in
        record { sound = sound; same = same; at_in = (low, omega (arith, low, most)) }

    giving_by : (index : ℕ) (more : Bool) → nat_lt index (length batch.waiting) ≡ more
        → CameSound (if more then (batch, at.Giving index, Go) else (cleared batch, at.Keeping 0, Done (Clear (length batch.waiting))))
    giving_by index true low = at_place index (ltb-true index (length batch.waiting) low)
    giving_by index false past =
        record { sound = IsBatch-cleared batch sound; same = same; at_in = some_callers }

    giving_stays : (index : ℕ) → CameSound (giving batch index)
    giving_stays index = giving_by index (nat_lt index (length batch.waiting)) refl

    at_caller : (from caller : ℕ) → first_odd batch.kept from ≡ Some caller → IsSound batch (at.Asking caller)
    at_caller from caller found =
        let first = first_odd-Some batch.kept from caller found in
        record { sound = sound; same = same; at_in = omega (arith, first.there, sound.callers) }

    ask_stays : (from : ℕ) (found : Option ℕ) → first_odd batch.kept from ≡ found → CameSound (ask batch found)
    ask_stays from (Some caller) found = at_caller from caller found
    ask_stays from None found = giving_stays 0

    asking_stays : (from : ℕ) → CameSound (asking batch from)
    asking_stays from = ask_stays from (first_odd batch.kept from) refl

    keeping_by : (caller : ℕ) (more : Bool) → nat_lt caller g.callers ≡ more
        → CameSound (if more then (batch, at.Keeping caller, Go) else asking batch 0)
    keeping_by caller true low =
        let callers = ap (λ (h : Geometry). h.callers) same in
        let high = ltb-true caller g.callers low in
        record { sound = sound; same = same; at_in = omega (arith, high, callers) }
    keeping_by caller false past = asking_stays 0

    keeping_stays : (caller : ℕ) → CameSound (keeping g batch caller)
    keeping_stays caller = keeping_by caller (nat_lt caller g.callers) refl

  asked_by : (batch : BatchModel) (caller word : ℕ) (kept : Bool) → IsSound batch (at.Asking caller)
      → CameSound (if kept then (batch, at.Asking caller, Done (Pending caller word)) else asking (with_word batch caller 0) (caller + 1))
  asked_by batch caller word true in_range = in_range
  asked_by batch caller word false in_range =
      asking_stays (with_word batch caller 0) (IsBatch-with_word batch in_range.sound caller 0) in_range.same (caller + 1)

  -- whatever word it finds
  pub tidy_stays : (batch : BatchModel) (at : TidyAt) (word : ℕ) → IsSound batch at → CameSound (after_at g batch at word)
  tidy_stays batch (at.Keeping caller) word in_range =
      keeping_stays (with_word batch caller word) (IsBatch-with_word batch in_range.sound caller word) in_range.same
      (caller + 1)
  tidy_stays batch (at.Asking caller) word in_range =
      asked_by batch caller word (word == get_or batch.kept caller 0) in_range
  tidy_stays batch (at.Giving index) word in_range = giving_stays batch in_range.sound in_range.same (index + 1)

  begun_at : (batch : BatchModel) (found : Option ℕ) → IsBatch batch → batch.geometry ≡ g
      → first_odd batch.kept 0 ≡ found
      → 0 < length batch.waiting
      → IsSound batch (asked_at found)
  begun_at batch (Some caller) sound same found some = at_caller batch sound same 0 caller found
  begun_at batch None sound same found some = at_place batch sound same 0 some

  -- and where it begins
  pub begun_sound : (batch : BatchModel) → IsBatch batch → batch.geometry ≡ g → IsSound (begun batch).0 (begun batch).1
  begun_sound batch sound same = go (length batch.waiting) refl
    where
      go : (count : ℕ) → length batch.waiting ≡ count → IsSound (begun batch).0 (begun batch).1
      go zero none =
          let turned_sound = IsBatch-turned batch sound (nil_from_length batch.waiting none) in
          subst (λ (b : BatchModel × TidyAt). IsSound b.0 b.1) (sym (begun-none batch none))
          (record { sound = turned_sound; same = same; at_in = some_callers (turned batch) turned_sound same })
      go (suc count) some =
          subst (λ (b : BatchModel × TidyAt). IsSound b.0 b.1) (sym (begun-some batch (omega (arith, some))))
          (begun_at batch (first_odd batch.kept 0) sound same refl (omega (arith, some)))

  -- ---- a call

  AllWithin-steps : (olds : List ℕ) (batch : BatchModel) (at : TidyAt) → IsSound batch at
      → AllByRecursion (IsTidyStep g) (run_at g batch at olds).steps
  AllWithin-steps [] batch at in_range = tt
  AllWithin-steps (old ∷ olds) batch at in_range =
      by_step g (λ run. AllByRecursion (IsTidyStep g) run.steps) batch at old olds (
        tidy_step batch at old in_range,
        go (after_at g batch at old) (λ b a sound. AllWithin-steps olds b a sound) (tidy_stays batch at old in_range),
      )
    where
      go : (came : Came)
          → ((b : BatchModel) (a : TidyAt) → IsSound b a → AllByRecursion (IsTidyStep g) (run_at g b a olds).steps)
          → CameSound came
          → AllByRecursion (IsTidyStep g) (goes_on g came olds).steps
      go (b, a, Go) rest sound = rest b a sound
      go (b, a, Done reply) rest sound = tt

pub tidies_within : TidiesWithin
tidies_within batch olds sound =
    let g = batch.geometry in
    let begins = begun_sound g batch sound refl in
    AllWithin-steps g olds (begun batch).0 (begun batch).1 begins
