-- What a resizing has done so far that keeps section words in the slot of a table: it retired that, and since then it did nothing but keep the
-- words, in order. So each word that it stores there is the one that it has just loaded, and in the end it has kept them all.
use Rattle.std.proofs.Common.{◌≡◌, ℕ, ◌+◌, List, [], ◌∷◌, ◌++◌, length, length-append, map, append_assoc, refl, sym, ap, ◌∙◌, subst, arith}
use Rattle.std.specs.Prelude.{nat_lt}
use Rattle.std.proofs.lemmas.Bool.{cond_both}
use Rattle.std.proofs.lemmas.List.{map-append}
use Rattle.rht_words.specs.declared.geometry.Geometry.{Geometry}
use Rattle.rht_words.specs.declared.machine.Next.{Next}
use Rattle.rht_words.specs.declared.machine.Next.TheVariants.{Go, Done}
use Rattle.rht_words.specs.declared.op.Op.{Op}
use Rattle.rht_words.specs.declared.op.Op.TheVariants.{Store}
use Rattle.rht_words.specs.Machines.{Performed, Ran}
use Rattle.rht_words.specs.Operations.{op_place, word_after}
use Rattle.rht_words.specs.Places.{Section, Slot, LoadedSection, place_of}
use Rattle.rht_reclaim.specs.KeepSections.{section_load, word_store, KeepSectionsModel, keep_sections_new, keep_sections_plan, keep_sections_plan_at, keep_sections_after, keep_sections_after_at, IsKeepSectionsIn, IsKeepSectionsAtIn}
use Rattle.rht_reclaim.specs.KeepLaws.{Found, SectionsKept, kept_steps}
use Rattle.rht_reclaim.specs.GiveTableLaws.{did as performed}
use Rattle.rht_reclaim.specs.declared.keep_sections.KeepSectionsAt.{KeepSectionsAt}
use Rattle.rht_reclaim.specs.declared.keep_sections.KeepSectionsAt.TheVariants as keeps
use Rattle.rht_reclaim.proofs.KeepsSections.{keeps_sections}
use Rattle.rht_core.specs.Traces.{Did, performed_of}
use Rattle.rht_core.specs.Seen.{LoadsWord}
use Rattle.rht_core.specs.Attached.{RetiresSlot, ChangesKept, HasWorkLock, KeepsWordOf}
use Rattle.rht_core.proofs.Reasons.PartsOfRuns.{IsPart, part-begins, part-goes, part-ended}

module _ (g : Geometry) where
  -- the last operation loaded this section word of this caller
  pub record LoadsLast (caller word : ℕ) (since : List Did) : Type 0 where
    pub before : List Did
    pub load : Did
    pub split : since ≡ before ++ load ∷ []
    pub loads : LoadsWord g (Section caller) load
    pub found : load.old ≡ word

  abbrev pub HasLoadedLast : KeepSectionsAt → List Did → Type 0
  HasLoadedLast (keeps.Section caller) since = Unit {0}
  HasLoadedLast (keeps.Word caller word) since = LoadsLast caller word since

  -- the words of all callers before this one, and then this one's is loaded
  abbrev pub KeptSoFar : ℕ → KeepSectionsAt → List Performed → Type 0
  KeptSoFar slot (keeps.Section caller) steps =
      (founds : List Found) × (length founds ≡ caller) × (steps ≡ kept_steps g slot 0 founds)
  KeptSoFar slot (keeps.Word caller word) steps =
      (founds : List Found) × (length founds ≡ caller)
      × (steps ≡ kept_steps g slot 0 founds ++ performed (section_load g caller) word ∷ [])

  -- one more
  kept_steps-push : (slot from word before : ℕ) (founds : List Found)
      → kept_steps g slot from (founds ++ record { word = word; before = before } ∷ [])
      ≡ kept_steps g slot from founds ++ performed (section_load g (from + length founds)) word
      ∷ performed (word_store g slot (from + length founds) word) before ∷ []
  kept_steps-push slot from word before [] =
      ap (λ caller. performed (section_load g caller) word ∷ performed (word_store g slot caller word) before ∷ [])
      (let same : from ≡ from + 0 = omega arith in same)
  kept_steps-push slot from word before (found ∷ founds) =
      ap (λ rest. performed (section_load g from) found.word ∷ performed (word_store g slot from found.word) found.before ∷ rest)
      (kept_steps-push slot (from + 1) word before founds
      ∙ ap (λ caller. kept_steps g slot (from + 1) founds ++ performed (section_load g caller) word
      ∷ performed (word_store g slot caller word) before ∷ [])
      (let same : from + 1 + length founds ≡ from + length (found ∷ founds) = omega arith in same))

  kept-next : (slot old : ℕ) (state : KeepSectionsAt) (h : Geometry) (steps : List Performed) → KeptSoFar slot state steps
      → (keep_sections_after_at h state old).1 ≡ Go
      → KeptSoFar slot (keep_sections_after_at h state old).0 (steps ++ performed (keep_sections_plan_at g slot state) old ∷ [])
  kept-next slot old (keeps.Section caller) h steps kept goes =
      (kept.0, kept.1, ap (λ l. l ++ performed (section_load g caller) old ∷ []) kept.2)
  kept-next slot old (keeps.Word caller word) h steps kept goes =
      cond_both (nat_lt (caller + 1) h.callers) (keeps.Section (caller + 1), Go) (keeps.Word caller word, Done tt)
      (λ (next : KeepSectionsAt × Next (Unit {0})). next.1 ≡ Go → KeptSoFar slot next.0 (steps ++ performed (word_store g slot caller word) old ∷ []))
      (λ t go. (
        kept.0 ++ record { word = word; before = old } ∷ [],
        length-append kept.0 (record { word = word; before = old } ∷ []) ∙ ap (λ n. n + 1) kept.1,
        ap (λ l. l ++ performed (word_store g slot caller word) old ∷ []) kept.2
            ∙ append_assoc (kept_steps g slot 0 kept.0) (performed (section_load g caller) word ∷ []) (performed (word_store g slot caller word) old ∷ [])
            ∙ ap (λ k. kept_steps g slot 0 kept.0 ++ performed (section_load g k) word ∷ performed (word_store g slot k word) old ∷ [])
            (let long = kept.1 in let same : caller ≡ 0 + length kept.0 = omega (arith, long) in same)
            ∙ sym (kept_steps-push slot 0 word old kept.0),
      )) (λ f ends. absurd (cc)) goes

  -- it retired the slot's table, and keeps section words since
  pub record KeepsSoFar (keep : KeepSectionsModel) (steps : List Did) : Type 0 where
    pub sooner : List Did
    pub at : Did
    pub since : List Did
    pub split : steps ≡ sooner ++ at ∷ since
    pub retires : RetiresSlot g keep.slot at
    pub part : IsPart keep_sections_plan keep_sections_after (keep_sections_new g keep.slot) (map performed_of since) keep
    pub last : HasLoadedLast keep.at since
    pub kept : KeptSoFar keep.slot keep.at (map performed_of since)

  -- it begins behind the retiring
  pub keeps-begin : (slot : ℕ) (steps : List Did) (did : Did) → RetiresSlot g slot did
      → KeepsSoFar (keep_sections_new g slot) (steps ++ did ∷ [])
  keeps-begin slot steps did retires = record {
    sooner = steps;
    at = did;
    since = [];
    split = refl;
    retires = retires;
    part = part-begins keep_sections_plan keep_sections_after (keep_sections_new g slot);
    last = tt;
    kept = ([], refl, refl);
  }

  module _ (keep : KeepSectionsModel) (within : IsKeepSectionsIn g keep) (steps : List Did) (did : Did)
      (is : did.op ≡ keep_sections_plan keep) (so_far : KeepsSoFar keep steps) where
    abbrev since : List Did
    since = so_far.since ++ did ∷ []

    split_on : steps ++ did ∷ [] ≡ so_far.sooner ++ so_far.at ∷ since
    split_on = ap (λ l. l ++ did ∷ []) so_far.split ∙ append_assoc so_far.sooner (so_far.at ∷ so_far.since) (did ∷ [])

    -- the operations since, with this one
    abbrev by : Op → Performed
    by op = record { op = op; old = did.old }

    are : map performed_of so_far.since ++ by (keep_sections_plan keep) ∷ [] ≡ map performed_of since
    are =
        ap (λ op. map performed_of so_far.since ++ by op ∷ []) (sym is)
        ∙ sym (map-append performed_of so_far.since (did ∷ []))

    last_on : (h : Geometry) (state : KeepSectionsAt) → IsKeepSectionsAtIn g state → did.op ≡ keep_sections_plan_at h keep.slot state
        → (keep_sections_after_at h state did.old).1 ≡ Go → HasLoadedLast (keep_sections_after_at h state did.old).0 since
    last_on h (keeps.Section caller) low plans goes =
        let most = g.within.callers_within in
        record {
          before = so_far.since;
          load = did;
          split = refl;
          loads = record { there = omega (arith, low, most); loads = plans };
          found = refl;
        }
    last_on h (keeps.Word caller word) low plans goes =
        cond_both (nat_lt (caller + 1) h.callers) (keeps.Section (caller + 1), Go) (keeps.Word caller word, Done tt)
        (λ (next : KeepSectionsAt × Next (Unit {0})). next.1 ≡ Go → HasLoadedLast next.0 since) (λ t go. tt) (λ f ends. absurd (cc)) goes

    -- it goes on
    pub keeps-go : (keep_sections_after keep did.old).1 ≡ Go → KeepsSoFar (keep_sections_after keep did.old).0 (steps ++ did ∷ [])
    keeps-go goes = record {
      sooner = so_far.sooner;
      at = so_far.at;
      since = since;
      split = split_on;
      retires = so_far.retires;
      part =
          subst (λ l. IsPart keep_sections_plan keep_sections_after (keep_sections_new g keep.slot) l (keep_sections_after keep did.old).0) are
          (part-goes keep_sections_plan keep_sections_after (keep_sections_new g keep.slot) (map performed_of so_far.since) keep did.old goes
          so_far.part);
      last = last_on keep.geometry keep.at within.at_in is goes;
      kept =
          subst (KeptSoFar keep.slot (keep_sections_after keep did.old).0.at)
          (ap (λ h. map performed_of so_far.since ++ performed (keep_sections_plan_at h keep.slot keep.at) did.old ∷ []) (sym within.geometry_same) ∙ are)
          (kept-next keep.slot did.old keep.at keep.geometry (map performed_of so_far.since) so_far.kept goes);
    }

    -- and once it has ended the word of each caller is kept
    pub keeps-end : (keep_sections_after keep did.old).1 ≡ Done tt → SectionsKept g keep.slot (map performed_of since)
    keeps-end ends =
        let whole =
        part-ended keep_sections_plan keep_sections_after (keep_sections_new g keep.slot) (map performed_of so_far.since) keep did.old ends
        so_far.part in
        subst (SectionsKept g keep.slot) (ap (λ (r : Ran (Unit {0})). r.steps) whole.is ∙ are)
        (keeps_sections g keep.slot whole.all (ap (λ (r : Ran (Unit {0})). r.next) whole.is))

    -- ---- a word that it stores

    abbrev Keeps : ℕ → ℕ → Type 0
    Keeps slot caller = HasWorkLock g steps → KeepsWordOf g slot caller steps did

    kept_at : (h : Geometry) (slot caller : ℕ) → ChangesKept g slot caller did → (state : KeepSectionsAt) → IsKeepSectionsAtIn g state
        → did.op ≡ keep_sections_plan_at h keep.slot state → HasLoadedLast state so_far.since → Keeps slot caller
    kept_at h slot caller changed (keeps.Section k) low plans last lock = absurd (changed.other (ap (word_after did.old) plans))
    kept_at h slot caller changed (keeps.Word k word) low plans last lock =
        let places : place_of g (Slot keep.slot (LoadedSection k)) ≡ place_of g (Slot slot (LoadedSection caller)) =
        ap op_place (sym plans) ∙ changed.there in
        let most = g.within.callers_within in
        let few = low.caller_in in
        let less = changed.caller_in in
        let one : keep.slot ≡ slot = omega (arith, places, most, few, less) in
        let same : k ≡ caller = omega (arith, places, one) in
        record {
          lock = lock;
          sooner = so_far.sooner;
          at = so_far.at;
          since = last.before;
          load = last.load;
          split = so_far.split ∙ ap (λ l. so_far.sooner ++ so_far.at ∷ l) last.split;
          retires = subst (λ s. RetiresSlot g s so_far.at) one so_far.retires;
          loads = subst (λ d. LoadsWord g (Section d) last.load) same last.loads;
          stores = plans ∙ ap (λ (x : ℕ × ℕ × ℕ). Store (place_of g (Slot x.0 (LoadedSection x.1))) x.2)
              (λ i. (one i, same i, sym last.found i));
        }

    -- is the one that it has just loaded
    pub keeps-word : (slot caller : ℕ) → ChangesKept g slot caller did → Keeps slot caller
    keeps-word slot caller changed lock = kept_at keep.geometry slot caller changed keep.at within.at_in is so_far.last lock
