-- Of a bind alone what it makes is of interest: the full table that it has found, the making of a table, and the table that it has made.
-- What is true of these before an operation leads to what is true behind it.
use Rattle.std.proofs.Common.{◌≡◌, ℕ, ◌*◌, ◌==◌, Bool, true, min, nat_le, nat_eq, refl}
use Rattle.std.specs.Prelude.{Option, Some, None}
use Rattle.std.proofs.lemmas.Bool.{cond_both}
use Rattle.rht_words.specs.declared.env.Env.{Env}
use Rattle.rht_words.specs.declared.config.Kind.{Kind}
use Rattle.rht_words.specs.declared.config.Kind.TheVariants.{Single, Listed}
use Rattle.rht_words.specs.declared.machine.Next.{Next}
use Rattle.rht_words.specs.declared.machine.Next.TheVariants.{Go, Done}
use Rattle.rht_words.specs.declared.machine.Start.{Start}
use Rattle.rht_words.specs.declared.machine.Start.TheVariants as starts
use Rattle.rht_words.specs.Links.{slot_of}
use Rattle.rht_words.specs.Shapes.{unpacked, size_of}
use Rattle.rht_policy.specs.Thresholds.{is_above_75, is_above_100, is_above_max}
use Rattle.rht_model.specs.declared.history.Reply.{Reply}
use Rattle.rht_arena.specs.NewNode.{NewNodeModel, new_node_after}
use Rattle.rht_nest.specs.Grow.{GrowModel, grow_after}
use Rattle.rht_nest.specs.Locate.{LocateModel, locate_after}
use Rattle.rht_nest.specs.Make.{MakeModel, make_new, make_after}
use Rattle.rht_nest.specs.Place.{PlaceModel, entered}
use Rattle.rht_nest.specs.Unmake.{UnmakeModel, unmake_after}
use Rattle.rht_nest.specs.declared.locate.Located.{Located}
use Rattle.rht_nest.specs.declared.locate.LocatedBucket.{LocatedBucket}
use Rattle.rht_nest.specs.declared.locate.LocatedBucket.TheVariants as buckets
use Rattle.rht_chain.specs.Probe.{ProbeModel, probe_after}
use Rattle.rht_chain.specs.Relink.{RelinkModel, relink_after}
use Rattle.rht_chain.specs.declared.locked.Then.{Then}
use Rattle.rht_chain.specs.declared.locked.Then.TheVariants.{Table, Answer}
use Rattle.rht_chain.specs.declared.probe.Probed.{Probed}
use Rattle.rht_bind.specs.Bind.{after_at, filled, located, at_bucket, behind_page, grown, bound_already, found_or_future, probed, replaced, future_or_count, checked_count, published, unlocked, IsBindAtIn}
use Rattle.rht_bind.specs.Growing.{size_grown, want_or_busy, made, ended_attempt, behind_attempt, refused_or_found, has_attached, checked_attach, unmade, IsMakingIn}
use Rattle.rht_bind.specs.declared.bind.Attempt.{Attempt}
use Rattle.rht_bind.specs.declared.bind.Claimed.{Claimed}
use Rattle.rht_bind.specs.declared.bind.FoundList.{FoundList}
use Rattle.rht_bind.specs.declared.bind.growth.Growing.{Growing}
use Rattle.rht_bind.specs.declared.bind.growth.Refusal.{Refusal}
use Rattle.rht_bind.specs.Endings.{closed}
use Rattle.rht_bind.specs.declared.bind.ending.Ending.{Ending}
use Rattle.rht_bind.specs.declared.bind.ending.Ending.TheVariants as endings
use Rattle.rht_bind.specs.declared.bind.BindAt.{BindAt}
use Rattle.rht_bind.specs.declared.bind.BindAt.TheVariants as at
use Rattle.rht_core.proofs.Counting.MakingWorks.{MakeGoes}

-- this is true of the shape of the full table, of what it makes, and of the slot and the shape of what it attaches
abbrev pub BindMakes : (ℕ → Type 0) → (MakeModel → Type 0) → (ℕ → ℕ → Type 0) → BindAt → Type 0
BindMakes Full Makes Has (at.UnlockingFull growing unlock) = Full growing.shape
BindMakes Full Makes Has (at.Root growing) = Full growing.shape
BindMakes Full Makes Has (at.GrowthCount growing root) = Full growing.shape
BindMakes Full Makes Has (at.Making growing size make) = Makes make
BindMakes Full Makes Has (at.Attaching growing slot shape) = Has slot shape
BindMakes Full Makes Has _ = Unit {0}

module _ (env : Env) (Full : ℕ → Type 0) (Makes : MakeModel → Type 0) (Has : ℕ → ℕ → Type 0) where
  abbrev Now : BindAt → Type 0
  Now state = BindMakes Full Makes Has state

  -- ---- of most states there is nothing to say

  filled-goes : (new : NewNodeModel) (next : Next (Option ℕ)) → Now (filled new next).0
  filled-goes new Go = tt
  filled-goes new (Done None) = tt
  filled-goes new (Done (Some node)) = tt

  bucket-goes : (port : ℕ) (attempt : Attempt) (table shape : ℕ) (bucket : LocatedBucket)
      → Now (at_bucket env port attempt table shape bucket)
  bucket-goes port attempt table shape (buckets.At place) = tt
  bucket-goes port attempt table shape (buckets.Missing place (Some next)) = tt
  bucket-goes port attempt table shape (buckets.Missing place None) = tt

  located-goes : (port : ℕ) (attempt : Attempt) (locate : LocateModel) (next : Next Located)
      → Now (located env port attempt locate next)
  located-goes port attempt locate Go = tt
  located-goes port attempt locate (Done there) = bucket-goes port attempt locate.table there.shape there.bucket

  page-goes : (port : ℕ) (attempt : Attempt) (table shape : ℕ) (start : Start PlaceModel ℕ)
      → Now (behind_page env port attempt table shape start)
  page-goes port attempt table shape (starts.Running next) = tt
  page-goes port attempt table shape (starts.Done place) = tt

  grown-goes : (port : ℕ) (attempt : Attempt) (table shape : ℕ) (place : PlaceModel) (grow : GrowModel) (next : Next (Option ℕ))
      → Now (grown env port attempt table shape place grow next)
  grown-goes port attempt table shape place grow Go = tt
  grown-goes port attempt table shape place grow (Done None) = tt
  grown-goes port attempt table shape place grow (Done (Some page)) = page-goes port attempt table shape (entered place page)

  bound-goes : (kind : Kind) (claimed : Claimed) (first : ℕ) (before : Option ℕ) → Now (bound_already kind claimed first before)
  bound-goes Single claimed first before = tt
  bound-goes Listed claimed first before = tt

  seen-goes : (kind : Kind) (claimed : Claimed) (found before : Option ℕ) (length : ℕ)
      → Now (found_or_future kind claimed found before length)
  seen-goes kind claimed None before length = tt
  seen-goes kind claimed (Some first) before length = bound-goes kind claimed first before

  probed-goes : (kind : Kind) (attempt : Attempt) (table shape : ℕ) (probe : ProbeModel) (next : Next Probed)
      → Now (probed kind attempt table shape probe next)
  probed-goes kind attempt table shape probe Go = tt
  probed-goes kind attempt table shape probe (Done end) =
      seen-goes kind (record { attempt = attempt; table = table; shape = shape; bucket = end.bucket }) end.seen.found end.seen.before
      end.seen.length

  replaced-goes : (list : FoundList) (relink : RelinkModel) (next : Next (Unit {0})) → Now (replaced list relink next)
  replaced-goes list relink Go = tt
  replaced-goes list relink (Done done) = tt

  published-goes : (node table : ℕ) (kick : Bool) (relink : RelinkModel) (next : Next (Unit {0}))
      → Now (published node table kick relink next)
  published-goes node table kick relink Go = tt
  published-goes node table kick relink (Done done) = tt

  unlocked-goes : (attempt : Attempt) (next : Then Reply) → Now (unlocked env attempt next)
  unlocked-goes attempt (Table table) = tt
  unlocked-goes attempt (Answer reply) = tt

  behind-goes : (attempt : Attempt) (answer : Option Reply) → Now (behind_attempt attempt answer)
  behind-goes attempt None = tt
  behind-goes attempt (Some reply) = tt

  refused-goes : (once : Bool) (growing : Growing) (refusal : Refusal) (future : Option ℕ)
      → Now (refused_or_found once growing refusal future)
  refused-goes once growing refusal None = tt
  refused-goes once growing refusal (Some table) = behind-goes growing.attempt (ended_attempt once table)

  unmade-goes : (attempt : Attempt) (answer : Option Reply) (unmake : UnmakeModel) (next : Next (Unit {0}))
      → Now (unmade attempt answer unmake next)
  unmade-goes attempt answer unmake Go = tt
  unmade-goes attempt answer unmake (Done done) = behind-goes attempt answer

  attach-goes : (once : Bool) (growing : Growing) (slot shape found : ℕ) → Now (checked_attach env once growing slot shape found)
  attach-goes once growing slot shape found =
      cond_both (found == 0) _ _ Now (λ t. behind-goes (has_attached growing.attempt) (ended_attempt once slot)) (λ f. tt)

  closed-goes : (ending : Ending) → Now (closed env ending).0
  closed-goes (endings.Bound kick) = tt
  closed-goes (endings.Answered node reply) = tt
  closed-goes (endings.Anew attempt) = tt

  -- ---- a table that is found full, and one that is made

  future-goes : (claimed : Claimed) (length : ℕ) (future : Option ℕ) → Full claimed.shape → Now (future_or_count claimed length future)
  future-goes claimed length None full = cond_both (nat_le 16 length) _ _ Now (λ t. full) (λ f. tt)
  future-goes claimed length (Some table) full = tt

  count-goes : (claimed : Claimed) (count : ℕ) → Full claimed.shape → Now (checked_count env claimed count)
  count-goes claimed count full =
      cond_both (is_above_max (min count 65536) env.config.max) _ _ Now (λ t. tt)
      (λ f.
      cond_both (is_above_100 (min count 65536) (size_of (unpacked claimed.shape)) env.config.max) _ _ Now (λ t. full)
      (λ f. tt))

  want-goes : (growing : Growing) (root count : ℕ)
      → (is_above_75 (min count 65536) (size_grown growing) env.config.max ≡ true
      → Makes (make_new env.geometry (2 * size_grown growing) env.config.seed true))
      → Makes (make_new env.geometry (size_grown growing) env.config.seed true) → Now (want_or_busy env growing root count)
  want-goes growing root count grows renews =
      cond_both (is_above_75 (min count 65536) (size_grown growing) env.config.max) _ _ Now grows
      (λ f. cond_both (nat_eq root growing.table) _ _ Now (λ t. renews) (λ f. tt))

  made-goes : (growing : Growing) (size : ℕ) (next : MakeModel × Next (Option (ℕ × ℕ))) → MakeGoes Makes Has next
      → Now (made growing size next.0 next.1)
  made-goes growing size (make, Go) goes = goes
  made-goes growing size (make, Done None) goes = tt
  made-goes growing size (make, Done (Some (slot, shape))) goes = goes

  -- what leads there: the table in which it is, where that is found full; a size that it wants by the full one; and an operation of the making
  pub record BindLeads (FullWas : ℕ → Type 0) (MakesWas : MakeModel → Type 0) (state : BindAt) (old : ℕ) : Type 0 where
    pub future : (claimed : Claimed) (length : ℕ) → state ≡ at.Future claimed length → Full claimed.shape
    pub count : (claimed : Claimed) → state ≡ at.Count claimed → Full claimed.shape
    pub stays : (shape : ℕ) → FullWas shape → Full shape
    pub grows : (shape : ℕ) → FullWas shape → is_above_75 (min old 65536) (size_of (unpacked shape)) env.config.max ≡ true
        → Makes (make_new env.geometry (2 * size_of (unpacked shape)) env.config.seed true)
    pub renews : (shape : ℕ) → FullWas shape → Makes (make_new env.geometry (size_of (unpacked shape)) env.config.seed true)
    pub makes : (growing : Growing) (size : ℕ) (make : MakeModel) → state ≡ at.Making growing size make → IsMakingIn env growing make
        → MakesWas make → MakeGoes Makes Has (make_after make old)

  pub bind-leads : (mix : ℕ → ℕ → ℕ → ℕ) (FullWas : ℕ → Type 0) (MakesWas : MakeModel → Type 0) (HasWas : ℕ → ℕ → Type 0)
      (port : ℕ) (once : Bool) (state : BindAt) (old : ℕ) → IsBindAtIn env state → BindMakes FullWas MakesWas HasWas state
      → BindLeads FullWas MakesWas state old → Now (after_at mix env port once state old).0
  bind-leads mix FullWas MakesWas HasWas port once (at.Filling new) old within now leads = filled-goes (new_node_after new old).0 (new_node_after new old).1
  bind-leads mix FullWas MakesWas HasWas port once (at.Locating attempt locate) old within now leads =
      located-goes port attempt (locate_after mix port locate old).0 (locate_after mix port locate old).1
  bind-leads mix FullWas MakesWas HasWas port once (at.Entering attempt table shape place grow) old within now leads =
      grown-goes port attempt table shape place (grow_after grow old).0 (grow_after grow old).1
  bind-leads mix FullWas MakesWas HasWas port once (at.Probing attempt table shape probe) old within now leads =
      probed-goes env.config.kind attempt table shape (probe_after probe old).0 (probe_after probe old).1
  bind-leads mix FullWas MakesWas HasWas port once (at.Replacing list relink) old within now leads =
      replaced-goes list (relink_after relink).0 (relink_after relink).1
  bind-leads mix FullWas MakesWas HasWas port once (at.Future claimed length) old within now leads =
      future-goes claimed length (slot_of old) (leads.future claimed length refl)
  bind-leads mix FullWas MakesWas HasWas port once (at.Count claimed) old within now leads = count-goes claimed old (leads.count claimed refl)
  bind-leads mix FullWas MakesWas HasWas port once (at.Publish node table relink kick) old within now leads =
      published-goes node table kick (relink_after relink).0 (relink_after relink).1
  bind-leads mix FullWas MakesWas HasWas port once (at.Unlocking attempt table unlock next) old within now leads = unlocked-goes attempt next
  bind-leads mix FullWas MakesWas HasWas port once (at.UnlockingFull growing unlock) old within now leads = leads.stays growing.shape now
  bind-leads mix FullWas MakesWas HasWas port once (at.Root growing) old within now leads = leads.stays growing.shape now
  bind-leads mix FullWas MakesWas HasWas port once (at.GrowthCount growing root) old within now leads =
      want-goes growing root old (leads.grows growing.shape now) (leads.renews growing.shape now)
  bind-leads mix FullWas MakesWas HasWas port once (at.Making growing size make) old within now leads =
      made-goes growing size (make_after make old) (leads.makes growing size make refl within now)
  bind-leads mix FullWas MakesWas HasWas port once (at.FutureAgain growing refusal) old within now leads = refused-goes once growing refusal (slot_of old)
  bind-leads mix FullWas MakesWas HasWas port once (at.Attaching growing slot shape) old within now leads = attach-goes once growing slot shape old
  bind-leads mix FullWas MakesWas HasWas port once (at.Unmaking attempt unmake answer) old within now leads =
      unmade-goes attempt answer (unmake_after unmake old).0 (unmake_after unmake old).1
  bind-leads mix FullWas MakesWas HasWas port once (at.Closing ending) old within now leads = closed-goes ending
  bind-leads mix FullWas MakesWas HasWas port once _ old within now leads = tt
