-- A keeping of section words loads that of each caller in order, and stores it in the slot's word for that caller, with two operations
-- for each.
use Rattle.std.proofs.Common.{◌≡◌, ℕ, ◌+◌, ◌-◌, ◌*◌, ◌<◌, ◌≤◌, List, [], ◌∷◌, length, inl, inr, refl, sym, ap, subst, arith}
use Rattle.std.specs.Prelude.{nat_lt}
use Rattle.std.specs.List.{AllByRecursion}
use Rattle.std.proofs.lemmas.Bool.{cond_both, ltb-true, ltb-false}
use Rattle.rht_words.specs.declared.geometry.Geometry.{Geometry}
use Rattle.rht_words.specs.declared.machine.Next.{Next}
use Rattle.rht_words.specs.declared.machine.Next.TheVariants.{Done}
use Rattle.rht_words.specs.Machines.{Performed, Ran, ran, went_on}
use Rattle.rht_words.specs.Places.{Section, Slot, LoadedSection}
use Rattle.rht_words.specs.Planned.{IsWord, IsPlannedIn}
use Rattle.rht_words.proofs.PlannedWords.{planned-at, planned_load}
use Rattle.rht_reclaim.specs.KeepSections.{KeepSectionsModel, keep_sections_new, keep_sections_plan, keep_sections_plan_at, keep_sections_after, keep_sections_after_at, IsKeepSectionsAtIn, IsKeepSectionsIn}
use Rattle.rht_reclaim.specs.KeepLaws.{Found, kept_steps, KeepsSections, KeepsSoon, IsKeepStep, KeepsWithin}
use Rattle.rht_reclaim.specs.GiveTableLaws.{did}
use Rattle.rht_reclaim.specs.declared.keep_sections.KeepSectionsAt.{KeepSectionsAt}
use Rattle.rht_reclaim.specs.declared.keep_sections.KeepSectionsAt.TheVariants as at
use Rattle.rht_reclaim.proofs.Descents.{Drops, few_steps, ends_soon, all_steps}

-- ---- where it stays, and on which words it works

module _ (g : Geometry) where
  pub keep_sections_stays_at : (at : KeepSectionsAt) (old : ℕ) → IsWord old → IsKeepSectionsAtIn g at
      → IsKeepSectionsAtIn g (keep_sections_after_at g at old).0
  keep_sections_stays_at (at.Section caller) old told here = record { caller_in = here; word_in = told }
  keep_sections_stays_at (at.Word caller word) old told here =
      cond_both {A = KeepSectionsAt × Next (Unit {0})} (nat_lt (caller + 1) g.callers) _ _
      (λ next. IsKeepSectionsAtIn g next.0) (λ t. ltb-true (caller + 1) g.callers t) (λ f. here)

  pub keep_sections_stays : (m : KeepSectionsModel) (old : ℕ) → IsKeepSectionsIn g m → IsWord old
      → IsKeepSectionsIn g (keep_sections_after m old).0
  keep_sections_stays m old within told =
      subst
      (λ (h : Geometry). IsKeepSectionsIn g (record m { at = (keep_sections_after_at h m.at old).0 }))
      (sym within.geometry_same)
      (record {
        geometry_same = within.geometry_same;
        slot_in = within.slot_in;
        at_in = keep_sections_stays_at m.at old told within.at_in;
      })

  planned_keep_sections_at : (slot : ℕ) (at : KeepSectionsAt) → slot < 8 → IsKeepSectionsAtIn g at
      → IsPlannedIn g (keep_sections_plan_at g slot at)
  planned_keep_sections_at slot (at.Section caller) slot_in here =
      let few = g.within.callers_within in planned_load g (Section caller) (omega (arith, here, few)) tt
  planned_keep_sections_at slot (at.Word caller word) slot_in here =
      let few = g.within.callers_within in
      let low = here.caller_in in
      planned-at g _ (Slot slot (LoadedSection caller)) (slot_in, omega (arith, low, few)) tt refl here.word_in

  -- what it performs is on words of the table
  pub planned_keep_sections : (m : KeepSectionsModel) → IsKeepSectionsIn g m → IsPlannedIn g (keep_sections_plan m)
  planned_keep_sections m within =
      subst (λ (h : Geometry). IsPlannedIn g (keep_sections_plan_at h m.slot m.at)) (sym within.geometry_same)
      (planned_keep_sections_at m.slot m.at within.slot_in within.at_in)

  module _ (slot : ℕ) where
    abbrev from : KeepSectionsAt → List ℕ → Ran (Unit {0})
    from state olds =
        ran keep_sections_plan keep_sections_after (record { geometry = g; slot = slot; at = state }) olds

    -- ---- what it does

    -- the same from this caller on
    record KeptFrom (caller : ℕ) (steps : List Performed) : Type 0 where
      founds : List Found
      each : length founds + caller ≡ g.callers
      are : steps ≡ kept_steps g slot caller founds

    kept_then : (caller word before : ℕ) (rest : List Performed) → KeptFrom (caller + 1) rest
        → KeptFrom caller (did (keep_sections_plan_at g slot (at.Section caller)) word ∷ did (keep_sections_plan_at g slot (at.Word caller word)) before ∷ rest)
    kept_then caller word before rest later =
        let each = later.each in
        record {
          founds = record { word = word; before = before } ∷ later.founds;
          each = omega (arith, each);
          are =
              ap
              (λ steps.
              did (keep_sections_plan_at g slot (at.Section caller)) word
              ∷ did (keep_sections_plan_at g slot (at.Word caller word)) before
              ∷ steps)
              later.are;
        }

    -- By induction over the words that the operations find, two at a time.
    kept : (olds : List ℕ) (caller : ℕ) → caller < g.callers → (from (at.Section caller) olds).next ≡ Done tt
        → KeptFrom caller (from (at.Section caller) olds).steps
    kept [] caller low done = absurd (cc)
    kept (word ∷ []) caller low done = absurd (cc)
    kept (word ∷ before ∷ olds) caller low done =
        let load = did (keep_sections_plan_at g slot (at.Section caller)) word in
        let store = did (keep_sections_plan_at g slot (at.Word caller word)) before in
        cond_both {A = KeepSectionsAt × Next (Unit {0})} (nat_lt (caller + 1) g.callers) _ _
        (λ next. (went_on store next.1 (from next.0 olds)).next ≡ Done tt
        → KeptFrom caller (load ∷ (went_on store next.1 (from next.0 olds)).steps))
        (λ t later.
        kept_then caller word before (from (at.Section (caller + 1)) olds).steps
        (kept olds (caller + 1) (ltb-true (caller + 1) g.callers t) later))
        (λ f last.
        let past : g.callers ≤ caller + 1 = ltb-false (caller + 1) g.callers f in
        kept_then caller word before []
        (record { founds = []; each = omega (arith, past, low); are = refl }))
        done

    -- ---- where it works

    step_in : (at : KeepSectionsAt) (old : ℕ) → slot < 8 → IsKeepSectionsAtIn g at
        → IsKeepStep g slot (did (keep_sections_plan_at g slot at) old)
    step_in (at.Section caller) old slot_in here = record {
      of_caller = record { caller = caller; word = 0; there = here; either = inl refl };
      planned = planned_keep_sections_at slot (at.Section caller) slot_in here;
    }
    step_in (at.Word caller word) old slot_in here = record {
      of_caller = record { caller = caller; word = word; there = here.caller_in; either = inr refl };
      planned = planned_keep_sections_at slot (at.Word caller word) slot_in here;
    }

    all_within : (olds : List ℕ) (at : KeepSectionsAt) → slot < 8 → AllByRecursion IsWord olds → IsKeepSectionsAtIn g at
        → AllByRecursion (IsKeepStep g slot) (from at olds).steps
    all_within [] at slot_in told here = tt
    all_within (old ∷ olds) at slot_in told here =
        all_steps (IsKeepStep g slot) (did (keep_sections_plan_at g slot at) old) (keep_sections_after_at g at old).1
        (from (keep_sections_after_at g at old).0 olds) (step_in at old slot_in here)
        (all_within olds (keep_sections_after_at g at old).0 slot_in told.1
        (keep_sections_stays_at at old told.0 here))

-- ---- how long it takes

-- so many operations are left: two for each caller behind this one, and those of this one
abbrev left_at : Geometry → KeepSectionsAt → ℕ
left_at g (at.Section caller) = 2 * (g.callers - (caller + 1)) + 2
left_at g (at.Word caller word) = 2 * (g.callers - (caller + 1)) + 1

abbrev left : KeepSectionsModel → ℕ
left m = left_at m.geometry m.at

drops : (m : KeepSectionsModel) (old : ℕ)
    → Drops keep_sections_plan keep_sections_after left (left m) (keep_sections_after m old)
drops m old = go m.at
  where
    go : (state : KeepSectionsAt)
        → Drops keep_sections_plan keep_sections_after left (left_at m.geometry state) (record m { at = (keep_sections_after_at m.geometry state old).0 }, (keep_sections_after_at m.geometry state old).1)
    go (at.Section caller) = omega arith
    go (at.Word caller word) =
        cond_both {A = KeepSectionsAt × Next (Unit {0})} (nat_lt (caller + 1) m.geometry.callers) _ _
        (λ next. Drops keep_sections_plan keep_sections_after left (left_at m.geometry (at.Word caller word)) (record m { at = next.0 }, next.1))
        (λ t. let more = ltb-true (caller + 1) m.geometry.callers t in omega (arith, more)) (λ f. omega arith)

pub keeps_soon : KeepsSoon
keeps_soon g slot olds =
    let some = g.within.callers_within in
    let few = few_steps keep_sections_plan keep_sections_after left drops (keep_sections_new g slot) olds in
    record {
      few = omega (arith, few, some);
      ends = λ enough.
          ends_soon keep_sections_plan keep_sections_after left drops (keep_sections_new g slot) olds
          (omega (arith, enough, some));
    }

-- ---- the laws

pub keeps_sections : KeepsSections
keeps_sections g slot olds done =
    let some = g.within.callers_within in
    let all = kept g slot olds 0 (omega (arith, some)) done in
    let each = all.each in
    record { founds = all.founds; each = omega (arith, each); are = all.are }

pub keeps_within : KeepsWithin
keeps_within g slot olds slot_in told =
    let some = g.within.callers_within in all_within g slot olds (at.Section 0) slot_in told (omega (arith, some))
