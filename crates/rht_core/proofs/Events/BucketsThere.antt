-- The word of a bucket that a table has stays where it is while a section stays open that comes to the table, as the words before each event
-- have it, and is that of no other bucket of the table. The table's seed stays in its slot as long.
use Rattle.std.proofs.Common.{◌≡◌, ℕ, zero, suc, ◌+◌, ◌-◌, ◌<◌, List, ◌++◌, length, take, get_or, refl, sym, ap, ◌∙◌, subst, inl, inr, arith}
use Rattle.std.specs.Prelude.{Some}
use Rattle.std.specs.Option.{option_map}
use Rattle.std.proofs.Math.Seq.{take-append_seam}
use Rattle.std.proofs.lemmas.Bool.{cases_lt}
use Rattle.std.proofs.lemmas.List.{take_all}
use Rattle.std.proofs.lemmas.Option.{slice_get-get_or}
use Rattle.rht_words.specs.declared.env.Env.{Env}
use Rattle.rht_words.specs.declared.geometry.Geometry.{Geometry}
use Rattle.rht_words.specs.Places.{Section, Slot, SeedWord, word_at}
use Rattle.rht_words.specs.Shapes.{unpacked, size_of}
use Rattle.rht_words.proofs.EachElement.{AllByRecursion-cut, AllByRecursion-get_or}
use Rattle.rht_core.specs.declared.event.Event.{Event}
use Rattle.rht_core.specs.declared.event.Event.TheVariants.{Enroll}
use Rattle.rht_core.specs.Runs.{Core, World, world_step, run_of, IsAdmitted, IsAdmittedEvent}
use Rattle.rht_core.specs.Seen.{words_before}
use Rattle.rht_stands.specs.StandsFor.{bucket_in}
use Rattle.rht_ghost.proofs.Theory.Ghosts.{Ghost, IsSince}
use Rattle.rht_ghost.proofs.Theory.Wholes.{place_at, index-place_at, Whole, IsThere, there-attached}
use Rattle.rht_ghost.proofs.Theory.Entries.{one_bucket}
use Rattle.rht_ghost.proofs.Theory.Passed.{less-grown}
use Rattle.rht_ghost.proofs.Theory.Reliance.{since-low}
use Rattle.rht_ghost.proofs.Theory.PlacesRead.{placed_in_words}
use Rattle.rht_ghost.proofs.Theory.WaysRead.{place_of_bucket}
use Rattle.rht_ghost.proofs.Theory.Steps.{mem}
use Rattle.rht_core.proofs.Events.Worlds.{run_of-next}
use Rattle.rht_core.proofs.Events.RangesInRuns.{AllIn, event-all, runs-all}
use Rattle.rht_core.proofs.Events.Invariants.{Inv, kept}
use Rattle.rht_core.proofs.Events.UnturnedSections.{section_at, IsUnturned, unturned-first, event_leaves, since_odd, right_then, from_stays}
use Rattle.rht_core.proofs.Events.SectionsInRuns.{AreRight, section_parity}

-- By the words before each event from this one on, while the caller's section word stays, the bucket with this number in a table of this shape
-- has its word at this place, and no other one has.
pub record StaysAt (g : Geometry) (words_at : ℕ → List ℕ) (c shape number place from : ℕ) : Type 0 where
  pub there : (i : ℕ) → IsUnturned g words_at c from i → bucket_in g (words_at i) shape number ≡ Some place
  pub only : (i other : ℕ) → IsUnturned g words_at c from i → other < size_of (unpacked shape)
      → bucket_in g (words_at i) shape other ≡ Some place → other ≡ number

-- and this is the seed in the slot
abbrev pub SeedStays : Geometry → (ℕ → List ℕ) → ℕ → ℕ → ℕ → ℕ → Type 0
SeedStays g words_at c slot seed from = (i : ℕ) → IsUnturned g words_at c from i → word_at g (words_at i) (Slot slot SeedWord) ≡ seed

module _ (env : Env) (mix : ℕ → ℕ → ℕ → ℕ) where
  -- so it is of each bucket that a table has to which the caller's section comes, and of the table's seed
  abbrev pub BucketsStay : (ℕ → List ℕ) → ℕ → Ghost → ℕ → Type 0
  BucketsStay words_at c G from =
      (τ number j : ℕ) → IsThere G τ → IsSince (G.from c) τ → number < size_of (unpacked (G.table τ).shape)
      → (G.table τ).place number ≡ Some j
      → StaysAt env.geometry words_at c (G.table τ).shape number (place_at env mix j) from
      × SeedStays env.geometry words_at c (G.table τ).slot (G.table τ).seed from

  -- ---- a bucket in the words

  module _ (M : List ℕ) (G : Ghost) (whole : Whole env mix (mem env mix M) G) (τ number j : ℕ) (is_there : IsThere G τ)
      (below : number < size_of (unpacked (G.table τ).shape)) (here : (G.table τ).place number ≡ Some j) where
    abbrev shape : ℕ
    shape = (G.table τ).shape

    in_words : (other : ℕ) → other < size_of (unpacked shape)
        → bucket_in env.geometry M shape other ≡ option_map (place_at env mix) ((G.table τ).place other)
    in_words other m = placed_in_words env mix (mem env mix M) G whole τ other is_there m

    there_now : bucket_in env.geometry M shape number ≡ Some (place_at env mix j)
    there_now = in_words number below ∙ ap (option_map (place_at env mix)) here

    only_now : (other : ℕ) → other < size_of (unpacked shape)
        → bucket_in env.geometry M shape other ≡ Some (place_at env mix j) → other ≡ number
    only_now other m is =
        let at = place_of_bucket env mix (mem env mix M) G whole τ other is_there m (place_at env mix j)
        (sym (in_words other m) ∙ is) in
        one_bucket env mix (G.table τ) G.page τ (whole.tables.each τ is_there).placed other number j m below
        (at.here ∙ ap Some (index-place_at env mix j)) here

  -- ---- a run

  module _ (L : Type 0) (c : ℕ) (low : c < 16) where
    module _ (τ slot seed shape number j : ℕ) where
      -- By the invariant this table is there, and the caller's section comes to it. It has this slot, seed and shape, and has this word for the
      -- bucket with this number.
      record HasBucket (core : Core L) : Type 0 where
        ghost : Ghost
        inv : Inv env mix L core ghost
        all : AllIn L mix env core
        right : AreRight env mix L core
        there : IsThere ghost τ
        since : IsSince (ghost.from c) τ
        slot_is : (ghost.table τ).slot ≡ slot
        seed_is : (ghost.table τ).seed ≡ seed
        shape_is : (ghost.table τ).shape ≡ shape
        here : (ghost.table τ).place number ≡ Some j

      -- each event leaves it so that leaves the caller's section word
      event-has : (w : World L) (event : Event) → IsAdmittedEvent event
          → word_at env.geometry (world_step mix w event).core.words (Section c) ≡ word_at env.geometry w.core.words (Section c)
          → HasBucket w.core → HasBucket (world_step mix w event).core
      event-has w event may same has =
          let after = kept env mix L w.core has.ghost event has.all has.inv in
          let stay = (event_leaves env mix L w has.ghost event has.all has.inv).stay in
          let grow = stay.grow in
          let from = since-low env mix stay c τ has.since in
          let attached = there-attached env mix has.inv.whole.tables τ has.there in
          let stays = grow.tables τ attached in
          record {
            ghost = after.ghost;
            inv = after.inv;
            all = event-all L mix env w event may has.all;
            right = right_then env mix L w has.ghost event may has.all has.inv has.right;
            there = grow.there τ from (less-grown env mix attached grow.attached) (λ l. has.there);
            since = subst (λ first. IsSince first τ)
                (sym (from_stays env mix L w has.ghost event may has.all has.inv has.right c low
                (since_odd env mix L w.core has.ghost has.inv has.right c low τ has.since) same)) has.since;
            slot_is = stays.slot ∙ has.slot_is;
            seed_is = stays.seed ∙ has.seed_is;
            shape_is = stays.shape ∙ has.shape_is;
            here = grow.places τ number j attached from has.here;
          }

      has-seed : (core : Core L) → HasBucket core → word_at env.geometry core.words (Slot slot SeedWord) ≡ seed
      has-seed core has =
          ap (λ s. word_at env.geometry core.words (Slot s SeedWord)) (sym has.slot_is)
          ∙ (has.inv.whole.tables.each τ has.there).seed_is ∙ has.seed_is

      module _ (core : Core L) (has : HasBucket core) (below : number < size_of (unpacked shape)) where
        has-there : bucket_in env.geometry core.words shape number ≡ Some (place_at env mix j)
        has-there =
            subst (λ s. bucket_in env.geometry core.words s number ≡ Some (place_at env mix j)) has.shape_is
            (there_now core.words has.ghost has.inv.whole τ number j has.there
            (subst (λ s. number < size_of (unpacked s)) (sym has.shape_is) below) has.here)

        has-only : (other : ℕ) → other < size_of (unpacked shape)
            → bucket_in env.geometry core.words shape other ≡ Some (place_at env mix j) → other ≡ number
        has-only other m is =
            only_now core.words has.ghost has.inv.whole τ number j has.there
            (subst (λ s. number < size_of (unpacked s)) (sym has.shape_is) below) has.here other (subst (λ s. other < size_of (unpacked s)) (sym has.shape_is) m)
            (subst (λ s. bucket_in env.geometry core.words s other ≡ Some (place_at env mix j)) (sym has.shape_is) is)

    -- so the buckets that tables have behind the first events of a run stay where they are
    pub buckets-stay : (past rest : List Event) (G : Ghost) → Inv env mix L (run_of mix env past).core G
        → IsAdmitted (past ++ rest)
        → BucketsStay (words_before L mix env (past ++ rest)) c G (length past)
    buckets-stay past rest G inv admitted τ number j l since below here = (
      record {
        there = λ i calm. has-there τ slot seed shape number j (behind i).core (has_at i calm) below;
        only = λ i other calm m is. has-only τ slot seed shape number j (behind i).core (has_at i calm) below other m is;
      },
      λ i calm. has-seed τ slot seed shape number j (behind i).core (has_at i calm),
    )
      where
        shape : ℕ
        shape = (G.table τ).shape

        slot : ℕ
        slot = (G.table τ).slot

        seed : ℕ
        seed = (G.table τ).seed

        all : List Event
        all = past ++ rest

        behind : ℕ → World L
        behind i = run_of mix env (take i all)

        Has : World L → Type 0
        Has w = HasBucket τ slot seed shape number j w.core

        Calm : ℕ → Type 0
        Calm i = IsUnturned env.geometry (words_before L mix env all) c (length past) i

        past_admitted : IsAdmitted past
        past_admitted = (AllByRecursion-cut IsAdmittedEvent past rest admitted).0

        first : Has (run_of mix env past)
        first = record {
          ghost = G;
          inv = inv;
          all = runs-all L mix env past past_admitted;
          right = section_parity env mix L past past_admitted;
          there = l;
          since = since;
          slot_is = refl;
          seed_is = refl;
          shape_is = refl;
          here = here;
        }

        -- by induction over the events behind the first ones
        has_behind : (n : ℕ) → Calm (length past + n) → Has (behind (length past + n))
        has_behind zero calm =
            let start : take (length past + 0) all ≡ past =
            ap (λ k. take k all) (omega arith) ∙ take-append_seam past rest in
            subst (λ (events : List Event). Has (run_of mix env events)) (sym start) first
        has_behind (suc n) calm =
            let i = length past + n in
            let before = has_behind n
            (unturned-first env.geometry (words_before L mix env all) c (length past) i (length past + suc n) calm (omega arith)
            (omega arith)) in
            elim (cases_lt i (length all)) [
              | inl low ↦
                  let event = get_or all i Enroll in
                  let there = slice_get-get_or all i Enroll low in
                  let next = run_of-next L mix env all i event there in
                  let may = AllByRecursion-get_or IsAdmittedEvent all i Enroll tt admitted in
                  let more : length past + suc n ≡ suc i = omega arith in
                  let at_next : suc i ≡ i + 1 = omega arith in
                  let same = ap (λ (w : World L). word_at env.geometry w.core.words (Section c)) (sym next)
                  ∙ ap (section_at env.geometry (words_before L mix env all) c) at_next
                  ∙ calm.same (i + 1) (omega arith) (omega arith) ∙ sym (calm.same i (omega arith) (omega arith)) in
                  subst Has (sym (ap behind more ∙ next))
                  (event-has τ slot seed shape number j (behind i) event may same before)
              | inr high ↦
                  subst (λ (events : List Event). Has (run_of mix env events))
                  (take_all i all high ∙ sym (take_all (length past + suc n) all (omega (arith, high)))) before
            ]

        has_at : (i : ℕ) → Calm i → Has (behind i)
        has_at i calm =
            let from = calm.later in
            let same : length past + (i - length past) ≡ i = omega (arith, from) in
            subst (λ k. Has (behind k)) same
            (has_behind (i - length past) (subst Calm (sym same) calm))
