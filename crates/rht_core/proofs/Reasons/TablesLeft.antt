-- A resizing retires no table but that from which it has gone on: it knows that each other one before the current one is retired already. And it
-- keeps section words in the slot of one that is being retired only in the state in which it does so.
use Rattle.std.proofs.Common.{◌≡◌, ℕ, ◌<◌, ◌≤◌, Bool, true, false, cond, List, Option, Some, None, refl, sym, ap, ◌∙◌, subst, arith}
use Rattle.std.specs.Prelude.{nat_lt}
use Rattle.std.proofs.lemmas.Bool.{ltb-true}
use Rattle.std.proofs.lemmas.Bool.Decides.{nat_tests}
use Rattle.rht_words.specs.declared.env.Env.{Env}
use Rattle.rht_words.specs.declared.op.Op.TheVariants.{Store}
use Rattle.rht_words.specs.Operations.{op_place}
use Rattle.rht_words.specs.Places.{Slot, StateWord, LoadedSection, place_of}
use Rattle.rht_words.proofs.Memory.{Memory}
use Rattle.rht_reclaim.specs.KeepSections.{KeepSectionsModel}
use Rattle.rht_reclaim.specs.ReturnHeld.{is_first_word}
use Rattle.rht_reclaim.specs.declared.keep_sections.KeepSectionsAt.{KeepSectionsAt}
use Rattle.rht_reclaim.specs.declared.keep_sections.KeepSectionsAt.TheVariants as keeps
use Rattle.rht_reclaim.specs.declared.give_table.GiveTableAt.{GiveTableAt}
use Rattle.rht_reclaim.specs.declared.give_table.GiveTableAt.TheVariants as gives
use Rattle.rht_reclaim.specs.declared.return_tables.ReturnTablesAt.{ReturnTablesAt}
use Rattle.rht_reclaim.specs.declared.return_tables.ReturnTablesAt.TheVariants as returns
use Rattle.rht_move.specs.declared.rehash.Rehash.{Rehash}
use Rattle.rht_move.specs.declared.work.WorkAt.{WorkAt}
use Rattle.rht_move.specs.declared.work.WorkAt.TheVariants as working
use Rattle.rht_move.proofs.WorkKnowledge.{known_at_work, known_unlocking, known_giving, known_returning, known_keeping}
use Rattle.rht_core.specs.Jobs.{Job, works, job_plan, held_of}
use Rattle.rht_core.specs.Traces.{Did}
use Rattle.rht_core.specs.Attached.{HasGoneOn}
use Rattle.rht_ghost.proofs.Theory.Ghosts.{Ghost, Live, Retiring, unretired, has_table, table_of_slot, index_at}
use Rattle.rht_ghost.proofs.Theory.Wholes.{Whole, AreRetired}
use Rattle.rht_ghost.proofs.Theory.Departures.{CanRetire}
use Rattle.rht_ghost.proofs.Theory.Knowns.{KnownPlace, GivesBack, InRun, Works}
use Rattle.rht_ghost.proofs.Theory.Knowledge.{WorkMeans}
use Rattle.rht_ghost.proofs.Theory.Steps.{by_test}
use Rattle.rht_core.proofs.Machines.JobSteps.{JobKnows}
use Rattle.rht_core.proofs.Reasons.CausesInRuns.{JobSaw}
use Rattle.rht_core.proofs.Reasons.OwnTables.{moving_works}

module _ (env : Env) (mix : ℕ → ℕ → ℕ → ℕ) (c : ℕ) (M : Memory) (G : Ghost) (did : Did) (slot τ : ℕ)
    (unretired_is : unretired (G.slot slot) ≡ Some τ) (before : τ < G.current) (place value : ℕ) (stores : did.op ≡ Store place value) where
  -- of the tables before the current one it is this that isn't retired
  one_left : (other : Option ℕ) → AreRetired G other → other ≡ Some slot
  one_left other retired = retired slot τ unretired_is before

  none_left : AreRetired G None → ⊥
  none_left retired = let same = one_left None retired in cc

  this_left : (s : ℕ) → AreRetired G (Some s) → s ≡ slot
  this_left s retired = let named = one_left (Some s) retired in cc

  -- nor are they while a bucket is unlocked
  unlocking-left : (rehash : Rehash) (place_known : KnownPlace) (stop : Bool)
      → WorkMeans env mix c M G (known_unlocking rehash place_known stop) → ⊥
  unlocking-left rehash place_known true means = none_left means.works.1
  unlocking-left rehash place_known false means = none_left means.works.1

  -- nor while a retired table is given back
  giving-left : (s : ℕ) (state : GiveTableAt) → WorkMeans env mix c M G (known_giving s state) → ⊥
  giving-left s (gives.Run give) means =
      by_test (λ t. WorkMeans env mix c M G (cond t (GivesBack s (InRun give.first give.pages)) Works) → ⊥) (is_first_word give)
      (λ t m. none_left m.works.1) (λ f m. none_left m.works.1) means
  giving-left s gives.Shape means = none_left means.works.1
  giving-left s _ means = none_left means.works.1

  returning-left : (state : ReturnTablesAt) → WorkMeans env mix c M G (known_returning state) → ⊥
  returning-left (returns.Giving give) means = giving-left give.slot give.at means
  returning-left _ means = none_left means.works.1

  keeping-left : (s : ℕ) (state : KeepSectionsAt) → WorkMeans env mix c M G (known_keeping s state) → s ≡ slot
  keeping-left s (keeps.Section caller) means = this_left s means.works.1
  keeping-left s (keeps.Word caller word) means = this_left s means.works.1

  -- it retires that table, or keeps section words in its slot
  data LeftAt : WorkAt → Type 0 where
    retiring : (root : ℕ) (again : Bool) → root ≡ slot → LeftAt (working.Retiring root again)
    keeping : (keep : KeepSectionsModel) (again : Bool) → keep.slot ≡ slot → LeftAt (working.KeepingSections keep again)

  work-left : (state : WorkAt) → did.op ≡ job_plan env c (works state) → WorkMeans env mix c M G (known_at_work state) → LeftAt state
  work-left working.WorkLock is means = absurd (let both = sym is ∙ stores in cc)
  work-left working.Opening is means = absurd (let both = sym is ∙ stores in cc)
  work-left (working.Closing ending) is means = absurd (let both = sym is ∙ stores in cc)
  work-left (working.Unlocking rehash number unlock stop) is means = absurd (unlocking-left rehash _ stop means)
  work-left (working.NewFuture rehash) is means = absurd (let both = sym is ∙ stores in cc)
  work-left (working.Retiring root again) is means = retiring root again (this_left root means.works.1)
  work-left (working.Returning returns) is means = absurd (returning-left returns.at means)
  work-left (working.KeepingSections keep again) is means = keeping keep again (keeping-left keep.slot keep.at means)
  work-left _ is means = absurd (none_left means.works.1)

-- ---- a table that is retired

module _ (env : Env) (mix : ℕ → ℕ → ℕ → ℕ) (c : ℕ) (M : Memory) (G : Ghost) (did : Did) (slot : ℕ) (can : CanRetire env mix c slot G)
    (stores : did.op ≡ Store (place_of env.geometry (Slot slot StateWord)) 2) where
  -- the job retires it
  pub data RetiresNow : Job → Type 0 where
    by_retiring : (root : ℕ) (again : Bool) → root ≡ slot → RetiresNow (works (working.Retiring root again))

  pub retiring_is : (job : Job) → RetiresNow job → (root : ℕ) × (again : Bool) × (job ≡ works (working.Retiring root again)) × (root ≡ slot)
  retiring_is job (by_retiring root again same) = (root, again, refl, same)

  -- a table that isn't retired yet isn't being retired
  not_keeping : (s τ : ℕ) → s ≡ slot → G.slot s ≡ Retiring τ → ⊥
  not_keeping s τ same is = let both : Retiring τ ≡ Live (index_at G slot) = sym is ∙ ap G.slot same ∙ can.live in cc

  no_keeping : (s : ℕ) (state : KeepSectionsAt) → s ≡ slot → WorkMeans env mix c M G (known_keeping s state) → ⊥
  no_keeping s (keeps.Section caller) same means = not_keeping s means.more.table same means.more.retiring
  no_keeping s (keeps.Word caller word) same means = not_keeping s means.more.keeping.table same means.more.keeping.retiring

  work-retires : (state : WorkAt) → WorkMeans env mix c M G (known_at_work state)
      → LeftAt env mix c M G did slot (index_at G slot) (ap unretired can.live) (let left = can.left_behind in omega (arith, left)) _ 2 stores state
      → RetiresNow (works state)
  work-retires state means (retiring root again same) = by_retiring root again same
  work-retires state means (keeping keep again same) = absurd (no_keeping keep.slot keep.at same means)

  pub retires_now : (job : Job) → did.op ≡ job_plan env c job → (held_of job).moving ≡ true → JobKnows env mix c job M G → RetiresNow job
  retires_now (works state) is moves knows =
      work-retires state knows.knowing.means.work
      (work-left env mix c M G did slot (index_at G slot) (ap unretired can.live) (let left = can.left_behind in omega (arith, left)) _ 2 stores
      state is knows.knowing.means.work)
  retires_now job is moves knows = absurd (let same = moving_works job moves in cc)

  -- from which it has gone on
  pub gone_on : (own : ℕ) (words_at : ℕ → List ℕ) (steps : List Did) (job : Job) → RetiresNow job → JobSaw env own words_at mix job steps
      → HasGoneOn env.geometry slot steps
  gone_on own words_at steps job (by_retiring root again same) saw = subst (λ s. HasGoneOn env.geometry s steps) same saw.1

-- ---- a word that is kept

-- a table that is being retired comes before the current one
retiring-before : (env : Env) (mix : ℕ → ℕ → ℕ → ℕ) (M : Memory) (G : Ghost) → Whole env mix M G → (slot τ : ℕ) → G.slot slot ≡ Retiring τ
    → τ < G.current
retiring-before env mix M G whole slot τ is =
    by_test (λ t. τ < G.current) (nat_lt τ G.current) (λ t. ltb-true τ G.current t) (λ f. absurd (behind f))
  where
    behind : nat_lt τ G.current ≡ false → ⊥
    behind f =
        let of = whole.tables.slots slot (ap has_table is) in
        let index : index_at G slot ≡ τ = ap table_of_slot is in
        let low : G.current ≤ index_at G slot = grind (arith, nat_tests, f, index) in
        let live = whole.tables.force (index_at G slot) low of.attached in
        let both : Retiring τ ≡ Live (index_at G slot) = sym is ∙ ap G.slot (sym of.slot) ∙ live in
        cc

-- the job keeps section words
pub data KeepsNow : Job → Type 0 where
  by_keeping : (keep : KeepSectionsModel) (again : Bool) → KeepsNow (works (working.KeepingSections keep again))

module _ (env : Env) (mix : ℕ → ℕ → ℕ → ℕ) (c : ℕ) (M : Memory) (G : Ghost) (whole : Whole env mix M G) (did : Did) (slot caller word τ : ℕ)
    (low : caller < 16) (is_retiring : G.slot slot ≡ Retiring τ)
    (stores : did.op ≡ Store (place_of env.geometry (Slot slot (LoadedSection caller))) word) where
  work-keeps : (state : WorkAt) → did.op ≡ job_plan env c (works state)
      → LeftAt env mix c M G did slot τ (ap unretired is_retiring) (retiring-before env mix M G whole slot τ is_retiring) _ word stores state
      → KeepsNow (works state)
  work-keeps state is (retiring root again same) =
      let at : place_of env.geometry (Slot root StateWord) ≡ place_of env.geometry (Slot slot (LoadedSection caller)) =
      ap op_place (sym is ∙ stores) in
      absurd (omega (arith, at, low))
  work-keeps state is (keeping keep again same) = by_keeping keep again

  pub keeps_now : (job : Job) → did.op ≡ job_plan env c job → (held_of job).moving ≡ true → JobKnows env mix c job M G → KeepsNow job
  keeps_now (works state) is moves knows =
      work-keeps state is
      (work-left env mix c M G did slot τ (ap unretired is_retiring) (retiring-before env mix M G whole slot τ is_retiring) _ word stores state
      is knows.knowing.means.work)
  keeps_now job is moves knows = absurd (let same = moving_works job moves in cc)
