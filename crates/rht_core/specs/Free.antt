-- What is so of what is free, in every run: a free page is blank, and no future that a caller could load leads to a free slot.
-- Who takes a page for a table, or a slot, counts on this.
use Rattle.std.specs.Prelude.{◌≡◌, ℕ, ◌+◌, ◌*◌, ◌<◌, Some, List}
use Rattle.rht_words.specs.declared.env.Env.{Env}
use Rattle.rht_words.specs.Links.{slot_of}
use Rattle.rht_words.specs.Places.{Slot, FutureWord, PageWord, word_at}
use Rattle.rht_core.specs.declared.event.Event.{Event}
use Rattle.rht_core.specs.Reach.{TableIn, PageAt, CouldReach, IsReading, IsFreeThing}
use Rattle.rht_core.specs.Runs.{Core, run_of, IsAdmitted}
use Rattle.rht_core.specs.Standings.{standing}

module _ (M : Type 0) (mix : ℕ → ℕ → ℕ → ℕ) where
  -- in every run each word of a free page is 0, whether the page was a table's before or never one
  abbrev pub AreFreePagesBlank : Type 0
  AreFreePagesBlank =
      (env : Env) (events : List Event) (page index : ℕ) → IsAdmitted events
      → page < env.geometry.pages → index < 64
      → let core : Core M = (run_of mix env events).core in
      IsFreeThing env.geometry core.words (PageAt page)
      → word_at env.geometry core.words (PageWord (64 * page + index)) ≡ 0

  -- and in every run no future of a table that a caller in its section could reach leads to a free slot, so that it could load
  -- none such
  abbrev pub AreFreeSlotsUnled : Type 0
  AreFreeSlotsUnled =
      (env : Env) (events : List Event) (c front slot : ℕ) → IsAdmitted events
      → c < env.geometry.callers
      → let core : Core M = (run_of mix env events).core in
      IsReading env.geometry core.words c
      → CouldReach env.geometry core.words (standing core c) (TableIn front)
      → slot_of (word_at env.geometry core.words (Slot front FutureWord)) ≡ Some slot
      → ¬ IsFreeThing env.geometry core.words (TableIn slot)
