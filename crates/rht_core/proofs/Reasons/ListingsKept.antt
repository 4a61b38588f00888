-- In every run a listing lists exactly the owners that its own operations loaded, in their order.
--
-- While a listing goes on its room has the owners that it has loaded so far. An operation of it that loads no owner leaves
-- the room: those on the way to the port are on words of slots and of pages, and on the keys and the chain links of nodes;
-- then come the links of the list, and the unlocking, which is a store. And where it loads an owner the room isn't full: it
-- has no more owners than the port's list has nodes before this one (`kept`, in `AllSteps` of `rht_release`).
use Rattle.std.proofs.Common.{◌≡◌, ℕ, ◌+◌, ◌-◌, ◌<◌, Bool, true, false, cond, List, [], ◌∷◌, ◌++◌, refl, sym, ap, ◌∙◌, subst, arith, Option}
use Rattle.std.specs.Prelude.{IfSome}
use Rattle.std.proofs.lemmas.List.{append-nil, append_assoc}
use Rattle.rht_words.specs.declared.op.Op.{Op}
use Rattle.rht_words.specs.declared.op.Op.TheVariants.{Load}
use Rattle.rht_words.specs.declared.env.Env.{Env}
use Rattle.rht_words.specs.declared.geometry.Geometry.{Geometry}
use Rattle.rht_words.specs.declared.machine.Next.{Next}
use Rattle.rht_words.specs.declared.machine.Next.TheVariants.{Go, Done}
use Rattle.rht_words.specs.Operations.{old_of}
use Rattle.rht_words.specs.Ports.{owner_of}
use Rattle.rht_words.specs.Places.{Address, CurrentTable, Slot, ShapeWord, SeedWord, FutureWord, Node, ChainLink, KeyWord, OwnerWord, ListLink, PageWord, IsAddress, IsBucketPlace, pages_at, place_of, word_at}
use Rattle.rht_words.proofs.PlacesApart.{address_at-place_of}
use Rattle.rht_model.specs.declared.history.Call.{Call}
use Rattle.rht_model.specs.declared.history.Call.TheVariants.{Bind, Find, All, Release, Rebind, Walk, Work, Tidy, Count}
use Rattle.rht_model.specs.Endings.{Ending}
use Rattle.rht_model.specs.Rooms.{Kept, with_kept}
use Rattle.rht_nest.specs.Locate.{locate_plan_at, IsLocateAtIn}
use Rattle.rht_nest.specs.declared.locate.LocateAt.{LocateAt}
use Rattle.rht_nest.specs.declared.locate.LocateAt.TheVariants as locating
use Rattle.rht_chain.specs.Lock.{lock_plan_at}
use Rattle.rht_chain.specs.declared.lock.LockAt.{LockAt}
use Rattle.rht_chain.specs.declared.lock.LockAt.TheVariants as locking
use Rattle.rht_chain.specs.LockedWalk.{LockedWalkModel, walk_plan_at, IsWalkAtIn}
use Rattle.rht_chain.specs.declared.locked_walk.LockedWalkAt.{LockedWalkAt}
use Rattle.rht_chain.specs.declared.locked_walk.LockedWalkAt.TheVariants as walking
use Rattle.rht_chain.specs.Probe.{probe_plan_at, IsProbeAtIn}
use Rattle.rht_chain.specs.declared.probe.ProbeAt.{ProbeAt}
use Rattle.rht_chain.specs.declared.probe.ProbeAt.TheVariants as probing
use Rattle.rht_release.specs.Seek.{SeekModel, seek_plan, seek_plan_at, IsSeekAtIn, IsSeekIn}
use Rattle.rht_release.specs.declared.seek.SeekAt.{SeekAt}
use Rattle.rht_release.specs.declared.seek.SeekAt.TheVariants as seeking
use Rattle.rht_release.specs.All.{after_at, room_after}
use Rattle.rht_release.specs.declared.all.AllAt.{AllAt}
use Rattle.rht_release.specs.declared.all.AllAt.TheVariants as listing
use Rattle.rht_release.specs.declared.found_port.FoundPort.{FoundPort}
use Rattle.rht_nest.specs.Place.{PlaceModel, place_plan, IsPlaceIn}
use Rattle.rht_grace.specs.Batch.{BatchModel}
use Rattle.rht_core.specs.Jobs.{Job, finds, binds, lists, releases, rebinds, works, tidies, walks, counts, call_of, first_job, job_next, job_after, listing_ending, IsFirstJob}
use Rattle.rht_core.specs.Traces.{Did}
use Rattle.rht_core.specs.ListedOwners.{is_owner_word, loads_owner, owner_loaded, owners_loaded, ListedOwners}
use Rattle.rht_ghost.proofs.Theory.Steps.{mem}
use Rattle.rht_release.proofs.AllSteps.{AllKnows, kept}
use Rattle.rht_core.proofs.Events.JobsOfCallers.{first_tidy-so, each_goes, same_call, first-of}
use Rattle.rht_core.proofs.Tracing.TracedJobs.{hard, Performs, LeadsOn, jobs_keep}

-- ---- one operation more

module _ (g : Geometry) where
  owners_loaded-push : (steps : List Did) (did : Did)
      → owners_loaded g (steps ++ did ∷ []) ≡ owners_loaded g steps ++ owner_loaded g did
  owners_loaded-push [] did = append-nil (owner_loaded g did)
  owners_loaded-push (first ∷ steps) did =
      ap (λ rest. owner_loaded g first ++ rest) (owners_loaded-push steps did)
      ∙ sym (append_assoc (owner_loaded g first) (owners_loaded g steps) (owner_loaded g did))

  -- one that loads no owner
  pub still_loaded : (steps : List Did) (did : Did) (owners : List ℕ) → loads_owner g did.op ≡ false
      → owners ≡ owners_loaded g steps → owners ≡ owners_loaded g (steps ++ did ∷ [])
  still_loaded steps did owners none are =
      let nothing : owner_loaded g did ≡ [] = ap (λ t. cond t (owner_of did.old ∷ []) []) none in
      are ∙ sym (append-nil (owners_loaded g steps))
      ∙ ap (λ more. owners_loaded g steps ++ more) (sym nothing)
      ∙ sym (owners_loaded-push steps did)

  -- and one that loads one
  pub one_loaded : (steps : List Did) (did : Did) (owners : List ℕ) → loads_owner g did.op ≡ true
      → owners ≡ owners_loaded g steps
      → owners ++ owner_of did.old ∷ [] ≡ owners_loaded g (steps ++ did ∷ [])
  one_loaded steps did owners loads are =
      let one : owner_loaded g did ≡ owner_of did.old ∷ [] = ap (λ t. cond t (owner_of did.old ∷ []) []) loads in
      ap (λ before. before ++ owner_of did.old ∷ []) are
      ∙ ap (λ more. owners_loaded g steps ++ more) (sym one)
      ∙ sym (owners_loaded-push steps did)

  -- ---- which operations load no owner

  -- a load of another word of the table
  pub at_other : (address : Address) → IsAddress g address → is_owner_word address ≡ false
      → loads_owner g (Load (place_of g address)) ≡ false
  at_other address there other = ap is_owner_word (address_at-place_of g address there) ∙ other

  -- and of the word of a bucket
  pub at_bucket : (place : ℕ) → IsBucketPlace g place → loads_owner g (Load place) ≡ false
  at_bucket place there =
      let index = place - pages_at g in
      let is : pages_at g + index ≡ place = omega (arith, there.0) in
      subst (λ p. loads_owner g (Load p) ≡ false) is
      (at_other (PageWord index) (omega (arith, there.0, there.1)) refl)

  lock_loads_none : (place : ℕ) (at : LockAt) → IsBucketPlace g place
      → loads_owner g (lock_plan_at place at) ≡ false
  lock_loads_none place locking.Word there = at_bucket place there
  lock_loads_none place (locking.Exchange word) there = refl

  walk_loads_none : (at : LockedWalkAt) (walk : LockedWalkModel) → IsWalkAtIn g walk.before at
      → loads_owner g (walk_plan_at g at) ≡ false
  walk_loads_none (walking.Key node) walk here = at_other (Node node KeyWord) here.0 refl
  walk_loads_none (walking.ChainLink node) walk here = at_other (Node node ChainLink) here.0 refl

  probe_loads_none : (at : ProbeAt) → IsProbeAtIn g at → loads_owner g (probe_plan_at at) ≡ false
  probe_loads_none (probing.Locking lock) here = lock_loads_none lock.place lock.at here.place_in
  probe_loads_none (probing.Walking bucket walk) here =
      let within = here.walk_in in
      subst (λ (h : Geometry). loads_owner g (walk_plan_at h walk.at) ≡ false) (sym within.geometry_same)
      (walk_loads_none walk.at walk within.at_in)

  pub place_loads_none : (place : PlaceModel) → IsPlaceIn g place → loads_owner g (place_plan place) ≡ false
  place_loads_none place within =
      subst (λ (h : Geometry). loads_owner g (place_plan (record place { geometry = h })) ≡ false) (sym within.geometry_same)
      (at_other (PageWord place.entry) within.entry_in refl)

  locate_loads_none : (table : ℕ) (at : LocateAt) → table < 8 → IsLocateAtIn g at
      → loads_owner g (locate_plan_at g table at) ≡ false
  locate_loads_none table locating.Shape low here = at_other (Slot table ShapeWord) (low, tt) refl
  locate_loads_none table (locating.Seed shape) low here = at_other (Slot table SeedWord) (low, tt) refl
  locate_loads_none table (locating.Early shape place) low here = at_other (Slot table FutureWord) (low, tt) refl
  locate_loads_none table (locating.Entry shape early place) low here = place_loads_none place here.nested_in.place_in

  seek_at_loads_none : (at : SeekAt) → IsSeekAtIn g at → loads_owner g (seek_plan_at g at) ≡ false
  seek_at_loads_none seeking.CurrentTable here = at_other CurrentTable tt refl
  seek_at_loads_none (seeking.Locating locate) here =
      subst (λ (h : Geometry). loads_owner g (locate_plan_at h locate.table locate.at) ≡ false)
      (sym here.geometry_same) (locate_loads_none locate.table locate.at here.table_in here.at_in)
  seek_at_loads_none (seeking.Probing table shape probe) here = probe_loads_none probe.at here.probe_in.at_in
  seek_at_loads_none (seeking.Future table bucket) here =
      at_other (Slot table FutureWord) (here.table_in, tt) refl
  seek_at_loads_none (seeking.Leaving table unlock future) here = refl

  -- the way to the port
  seek_loads_none : (seek : SeekModel) → IsSeekIn g seek → loads_owner g (seek_plan seek) ≡ false
  seek_loads_none seek within =
      subst (λ (h : Geometry). loads_owner g (seek_plan_at h seek.at) ≡ false) (sym within.geometry_same)
      (seek_at_loads_none seek.at within.at_in)

-- ---- a listing

module _ (mix : ℕ → ℕ → ℕ → ℕ) (env : Env) where
  abbrev g : Geometry
  g = env.geometry

  -- the room of a listing has the owners that it has loaded
  abbrev Keeps : Job → List Did → Type 0
  Keeps (finds port state) steps = Unit {0}
  Keeps (binds port owner once state) steps = Unit {0}
  Keeps (lists port room state) steps = room.items ≡ owners_loaded g steps
  Keeps (releases port owner state) steps = Unit {0}
  Keeps (rebinds port owner new state) steps = Unit {0}
  Keeps (works state) steps = Unit {0}
  Keeps (tidies batch state) steps = Unit {0}
  Keeps (walks from limit room state) steps = Unit {0}
  Keeps counts steps = Unit {0}

  -- and so has its answer
  abbrev Ended : Call → Ending → List Did → Type 0
  Ended call ending steps = (port : ℕ) → call ≡ All port → ending.answer.owners ≡ owners_loaded g steps

  module _ (port : ℕ) (room : Kept ℕ) (steps : List Did) (did : Did) (loaded : room.items ≡ owners_loaded g steps)
    where
      -- an operation that loads no owner leaves the room
      leaves : (op : Op) → did.op ≡ op → loads_owner g op ≡ false
          → room.items ≡ owners_loaded g (steps ++ did ∷ [])
      leaves op is none =
          still_loaded g steps did room.items (subst (λ o. loads_owner g o ≡ false) (sym is) none) loaded

      -- and there is room for an owner that it loads
      keeps_one : (found : FoundPort) (node : ℕ) → Performs mix env (lists port room (listing.Owner found node)) did
          → (with_kept room (owner_of did.old)).items ≡ owners_loaded g (steps ++ did ∷ [])
      keeps_one found node performs =
          let words = performs.words in
          let knows = performs.knows in
          let place : did.op ≡ Load (place_of g (Node node OwnerWord)) = (hard mix env refl performs) in
          let old : did.old ≡ word_at g words (Node node OwnerWord) =
          performs.found ∙ ap (old_of words) place in
          let known : AllKnows env mix performs.caller port room (listing.Owner found node) (mem env mix words)
          performs.ghost = record { knowing = knows.knowing; fits = knows.fits } in
          let roomy =
          kept env mix performs.caller port room performs.within.roomy words performs.ghost performs.all
          performs.whole found node known in
          let loads : loads_owner g did.op ≡ true =
          ap (loads_owner g) place
          ∙ ap is_owner_word (address_at-place_of g (Node node OwnerWord) performs.within.at_in.node_in) in
          subst (λ word. (with_kept room (owner_of word)).items ≡ room.items ++ owner_of word ∷ []) (sym old)
          (ap (λ (after : Kept ℕ). after.items) roomy)
          ∙ one_loaded g steps did room.items loads loaded

      listing_keeps : (state : AllAt) → Performs mix env (lists port room state) did
          → (room_after state room did.old).items ≡ owners_loaded g (steps ++ did ∷ [])
      listing_keeps listing.Opening performs = leaves _ (hard mix env refl performs) refl
      listing_keeps (listing.Seeking seek) performs =
          leaves (seek_plan seek) (hard mix env refl performs) (seek_loads_none g seek performs.within.at_in)
      listing_keeps (listing.Owner found node) performs = keeps_one found node performs
      listing_keeps (listing.ListLink found node) performs =
          leaves (Load (place_of g (Node node ListLink))) (hard mix env refl performs)
          (at_other g (Node node ListLink) performs.within.at_in.node_in refl)
      listing_keeps (listing.Unlocking table unlock) performs = leaves _ (hard mix env refl performs) refl
      listing_keeps listing.Closing performs = leaves _ (hard mix env refl performs) refl

  -- ---- jobs

  -- at its beginning a listing has loaded none, and its room is empty
  first-keeps : (call : Call) (batch : Option BatchModel) (start : ℕ) → IfSome (first_job env batch call start) (λ job. Keeps job [])
  first-keeps (All port) batch start = refl
  first-keeps Tidy batch start = first_tidy-so (λ job. Keeps job []) batch (λ own. tt)
  first-keeps _ batch start = tt

  begins : (call : Call) (job : Job) → IsFirstJob env call job → Keeps job []
  begins call job is = first-of (λ j. Keeps j []) env call job (first-keeps call) is

  module _ (M : Type 0) where
    abbrev Leads : Job → List Did → Job × Next Ending → Type 0
    Leads = LeadsOn M mix env Keeps Ended

    -- a listing
    listing_leads : (port : ℕ) (room after : Kept ℕ) (state : AllAt) (all : List Did) (r : AllAt × Next (Unit {0}))
        → after.items ≡ owners_loaded g all
        → Leads (lists port room state) all (job_next (lists port after) (listing_ending after) r)
    listing_leads port room after state all (next, Go) loaded = loaded
    listing_leads port room after state all (next, Done done) loaded = λ p is. loaded

    -- and any other call
    abbrev is_listing : Call → Bool
    is_listing (Bind port owner once) = false
    is_listing (Find port) = false
    is_listing (All port) = true
    is_listing (Release port owner) = false
    is_listing (Rebind port owner new) = false
    is_listing (Walk from limit) = false
    is_listing Work = false
    is_listing Tidy = false
    is_listing Count = false

    other-keeps : (job : Job) (all : List Did) → is_listing (call_of job) ≡ false → Keeps job all
    other-keeps (lists port room state) all other = absurd (cc)
    other-keeps _ all other = tt

    other-ends : (call : Call) (ending : Ending) (all : List Did) → is_listing call ≡ false → Ended call ending all
    other-ends call ending all other = λ p is. absurd (let both : false ≡ true = sym other ∙ ap is_listing is in cc)

    -- each operation of a job
    leads : (job : Job) (steps : List Did) (did : Did) → Performs mix env job did → Keeps job steps
        → Leads job (steps ++ did ∷ []) (job_after mix env job did.old)
    leads (lists port room state) steps did performs loaded =
        listing_leads port room (room_after state room did.old) state (steps ++ did ∷ [])
        (after_at mix env port state did.old) (listing_keeps port room steps did loaded state performs)
    leads job steps did performs loaded =
        let all = steps ++ did ∷ [] in
        each_goes (λ after. Keeps after all) (λ ending. Ended (call_of job) ending all) (call_of job) (job_after mix env job did.old)
        (same_call mix env job did.old) (λ other same. other-keeps other all (ap is_listing same))
        (λ ending. other-ends (call_of job) ending all refl)

pub listed_owners : (M : Type 0) (mix : ℕ → ℕ → ℕ → ℕ) → ListedOwners M mix
listed_owners M mix env events c admitted =
    (jobs_keep M mix env (Keeps mix env) (Ended mix env)
    (record { begins = begins mix env; goes = leads mix env M })
    events c admitted).past
