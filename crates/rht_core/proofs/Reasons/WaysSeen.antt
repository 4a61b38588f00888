-- What a bind sees on the way to its bucket: that it has come to the table, and where the bucket is missing
-- and no table is behind, the entry at which the way ends; and while it takes a page to enter there, each
-- page before the one at which it stands as taken.
use Rattle.std.proofs.Common.{◌≡◌, ℕ, Bool, ◌<◌, List, [], ◌∷◌, ◌++◌, refl, sym, ap, ◌∙◌, subst, inr, arith}
use Rattle.std.specs.Prelude.{Option, Some, None}
use Rattle.std.proofs.lemmas.Bool.{cond_both}
use Rattle.rht_words.specs.declared.op.Op.TheVariants.{Load}
use Rattle.rht_words.specs.declared.env.Env.{Env}
use Rattle.rht_words.specs.declared.geometry.Geometry.{Geometry}
use Rattle.rht_words.specs.declared.machine.Next.{Next}
use Rattle.rht_words.specs.declared.machine.Next.TheVariants.{Go, Done}
use Rattle.rht_words.specs.Operations.{old_of}
use Rattle.rht_words.specs.Places.{Slot, FutureWord, PageWord, place_of}
use Rattle.rht_words.proofs.PlacesApart.{parts_in_order}
use Rattle.rht_words.specs.Links.{page_of, slot_of}
use Rattle.rht_arena.specs.TakeRun.{first_run}
use Rattle.rht_nest.specs.Tables.{is_nested}
use Rattle.rht_words.specs.declared.machine.Start.{Start}
use Rattle.rht_words.specs.declared.machine.Start.TheVariants as starts
use Rattle.rht_nest.specs.Grow.{GrowModel}
use Rattle.rht_nest.specs.declared.grow.GrowAt.{GrowAt}
use Rattle.rht_nest.specs.declared.grow.GrowAt.TheVariants as grows
use Rattle.rht_nest.specs.Place.{PlaceModel, place_plan, entered, went_behind, entry_seen}
use Rattle.rht_nest.specs.Locate.{LocateModel, locate_plan_at, locate_after, locate_after_at, entry_followed, IsLocateAtIn}
use Rattle.rht_nest.specs.declared.locate.LocateAt.{LocateAt}
use Rattle.rht_nest.specs.declared.locate.LocateAt.TheVariants as locates
use Rattle.rht_nest.specs.declared.locate.Located.{Located}
use Rattle.rht_nest.specs.declared.locate.LocatedBucket.{LocatedBucket}
use Rattle.rht_nest.specs.declared.locate.LocatedBucket.TheVariants as buckets
use Rattle.rht_bind.specs.declared.bind.Attempt.{Attempt}
use Rattle.rht_bind.specs.Bind.{located, at_bucket, behind_page, grown}
use Rattle.rht_bind.specs.declared.bind.BindAt.TheVariants as at
use Rattle.rht_core.specs.Jobs.{binds}
use Rattle.rht_bind.specs.declared.bind.BindAt.{BindAt}
use Rattle.rht_core.specs.Traces.{Did}
use Rattle.rht_ghost.proofs.Theory.Ghosts.{Ghost}
use Rattle.rht_ghost.proofs.Theory.Wholes.{Whole}
use Rattle.rht_ghost.proofs.Theory.Knowledge.{TableMeans}
use Rattle.rht_ghost.proofs.Theory.Knowns.{OnWay}
use Rattle.rht_ghost.proofs.Pieces.Locates.{known_locate}
use Rattle.rht_core.proofs.Reasons.PagesMissed.{SawGrowing, SawGrown, SeesMissing, begins-missing, missing-early, misses-page}
use Rattle.rht_core.proofs.Tracing.UnturnedSteps.{UnturnedTo}
use Rattle.rht_core.proofs.Tracing.TracedJobs.{hard, Performs, StandsIn}
use Rattle.rht_core.proofs.Reasons.QuietSteps.{unturned-behind}
use Rattle.rht_core.proofs.Events.BucketsThere.{BucketsStay}
use Rattle.rht_core.proofs.Reasons.UnboundSeen.{SeesNoFuture, unbound-early}
use Rattle.rht_core.proofs.Reasons.TablesWalked.{elsewhere, WalkedSeeing, WalkedSeeing-push_in, LoadedNoKey, LoadedEarly, WalkedAt, CameBeyond, WalkedNext, TellsNone, same_table, locate-walked}
use Rattle.rht_core.proofs.Reasons.KeyLoads.{no_key-behind}
use Rattle.rht_core.proofs.Reasons.ChainsCounted.{HasCounted-none}
use Rattle.rht_ghost.proofs.Theory.Steps.{mem}
use Rattle.rht_core.proofs.Reasons.BindsSeen.{SawAt}
use Rattle.rht_core.proofs.Reasons.NamedFutures.{no_slot, future_few}

module _ (env : Env) (words_at : ℕ → List ℕ) (mix : ℕ → ℕ → ℕ → ℕ) (port caller : ℕ) where
  abbrev Sees : BindAt → List Did → Type 0
  Sees = SawAt env words_at mix port caller

  -- what an operation tells that loads the future of a table as none
  abbrev SeesNone : ℕ → ℕ → Did → Type 0
  SeesNone = SeesNoFuture env.geometry words_at mix caller port

  -- where the future of the table is loaded and names none, it is 0, and the port is bound nowhere or its bucket there
  early-told : (words : List ℕ) (G : Ghost) → Whole env mix (mem env mix words) G
      → (m : LocateModel) (did : Did) → words ≡ words_at did.index → BucketsStay env mix words_at caller G did.index
      → m.table < 8
      → m.geometry ≡ env.geometry → did.old ≡ old_of words did.op → (state : LocateAt)
      → did.op ≡ locate_plan_at m.geometry m.table state
      → TableMeans env mix caller G (known_locate port m.table state)
      → TellsNone env.geometry SeesNone m.table state did
  early-told words G whole m did now stay within same found (locates.Early shape place) plan means = λ none.
      let loads : did.op ≡ Load (place_of env.geometry (Slot m.table FutureWord)) =
      plan ∙ ap (λ (h : Geometry). Load (place_of h (Slot m.table FutureWord))) same in
      let word : did.old ≡ mem env mix words (Slot m.table FutureWord) = found ∙ ap (old_of words) loads in
      let few = future_few env mix words G m.table whole means.shaped.passing.at in
      record {
        none = record {
          word = record { there = (within, tt); loads = loads };
          found = no_slot did.old (omega (arith, word, few)) none;
        };
        unbound = unbound-early env mix words G whole caller words_at did.index port m.table shape place None means now stay
            (sym (ap slot_of word) ∙ none);
      }
  early-told words G whole m did now stay within same found _ plan means = tt

  -- what the operations behind the load of a table's shape see before that of an entry, where the future was
  -- this
  abbrev SeesEntry : ℕ → ℕ → Option ℕ → List Did → Type 0
  SeesEntry table shape early behind = LoadedEarly env.geometry (SeesNone table shape) early behind

  -- and with the load of an entry that leads to no page
  abbrev SeesMissed : ℕ → ℕ → List Did → Type 0
  SeesMissed table shape behind =
      SeesMissing env words_at mix port table shape
      (SawGrowing env.geometry (grows.Taking (first_run env.geometry 1))) behind

  -- where the bucket is missing and no table was behind, the entry that was loaded leads to no page
  abbrev MissedAt : ℕ → ℕ → LocatedBucket → List Did → Type 0
  MissedAt table shape (buckets.At place) steps = Unit {0}
  MissedAt table shape (buckets.Missing place (Some next)) steps = Unit {0}
  MissedAt table shape (buckets.Missing place None) steps =
      WalkedSeeing env.geometry table shape (SeesMissed table shape) steps

  abbrev MissedNext : ℕ → LocateModel × Next Located → List Did → Type 0
  MissedNext table (m, Go) steps = Unit {0}
  MissedNext table (m, Done there) steps = MissedAt table there.shape there.bucket steps

  module _ (few : caller < 16) (words : List ℕ) (G : Ghost) (whole : Whole env mix (mem env mix words) G) (m : LocateModel)
      (steps : List Did) (did : Did) (now : words ≡ words_at did.index) (calm : UnturnedTo env.geometry words_at caller steps did.index)
      (found : did.old ≡ old_of words did.op) where
    -- the load of an entry that leads to none
    load_missed : (shape : ℕ) (place : PlaceModel) → place.geometry ≡ env.geometry → did.op ≡ place_plan place
        → page_of place.geometry.pages did.old ≡ None
        → TableMeans env mix caller G (OnWay port m.table shape place None)
        → WalkedSeeing env.geometry m.table shape (SeesEntry m.table shape None) steps
        → MissedAt m.table shape (buckets.Missing place None) (steps ++ did ∷ [])
    load_missed shape place same plan none on walked =
        let there = place_of env.geometry (PageWord place.entry) in
        let loads : did.op ≡ Load there =
        plan ∙ ap (λ (h : Geometry). Load (place_of h (PageWord place.entry))) same in
        let word : did.old ≡ mem env mix words (PageWord place.entry) = found ∙ ap (old_of words) loads in
        let leads : page_of env.geometry.pages (mem env mix words (PageWord place.entry)) ≡ None =
        sym (ap (page_of env.geometry.pages) word) ∙ ap (λ (h : Geometry). page_of h.pages did.old) (sym same)
        ∙ none in
        let order = parts_in_order env.geometry in
        let missing =
        misses-page env words_at mix words G whole port m.table shape place did on now same loads leads in
        WalkedSeeing-push_in env.geometry m.table shape (SeesEntry m.table shape None) (SeesMissed m.table shape)
        steps did
        (elsewhere env.geometry did there loads
        (λ first. absurd (omega (arith, first, order.page_map, order.nodes, order.pages)))
        (λ table below same. absurd (omega (arith, below, same, order.page_map, order.nodes, order.pages))))
        (λ behind lie seen. begins-missing env words_at mix caller port m.table shape place.entry behind did lie.quiet
        (unturned-behind env.geometry words_at caller few steps behind did.index lie calm)
        (ap is_nested (sym on.shaped.shape_is) ∙ on.to.nested)
        missing
        (no_key-behind env.geometry did there loads (omega arith)) seen) walked

    entry-missed : (shape : ℕ) (early : Option ℕ) (place : PlaceModel) → place.geometry ≡ env.geometry
        → did.op ≡ place_plan place → TableMeans env mix caller G (OnWay port m.table shape place early)
        → WalkedSeeing env.geometry m.table shape (SeesEntry m.table shape early) steps
        → (page : Option ℕ) → page_of place.geometry.pages did.old ≡ page
        → let next = entry_seen place page in
        MissedNext m.table (entry_followed m shape early next.0 next.1) (steps ++ did ∷ [])
    entry-missed shape None place same plan on walked None is = load_missed shape place same plan is on walked
    entry-missed shape (Some next) place same plan on walked None is = tt
    entry-missed shape early place same plan on walked (Some page) is = go (entered place page)
      where
        go : (start : Start PlaceModel ℕ) → let next = went_behind place start in
            MissedNext m.table (entry_followed m shape early next.0 next.1) (steps ++ did ∷ [])
        go (starts.Running next) = tt
        go (starts.Done there) = tt

    located-missed : (state : LocateAt) → IsLocateAtIn env.geometry state
        → did.op ≡ locate_plan_at m.geometry m.table state
        → TableMeans env mix caller G (known_locate port m.table state)
        → WalkedAt env.geometry SeesNone m.table state steps
        → MissedNext m.table (locate_after_at mix port m state did.old) (steps ++ did ∷ [])
    located-missed locates.Shape within plan means walked = tt
    located-missed (locates.Seed shape) within plan means walked =
        cond_both (is_nested shape) _ _
        (λ next. MissedNext m.table next (steps ++ did ∷ [])) (λ t. tt) (λ f. tt)
    located-missed (locates.Early shape place) within plan means walked = tt
    located-missed (locates.Entry shape early place) within plan means walked =
        entry-missed shape early place within.nested_in.place_in.geometry_same plan means walked.0
        (page_of place.geometry.pages did.old) refl

  -- once a bucket was looked for none of its nodes was counted; where it is missing the bind has come to the
  -- table behind, if there was one
  bucket-saw : (attempt : Attempt) (table shape : ℕ) (bucket : LocatedBucket) (steps : List Did)
      → WalkedSeeing env.geometry table shape (LoadedNoKey env.geometry) steps
      → CameBeyond env.geometry bucket steps
      → MissedAt table shape bucket steps → Sees (at_bucket env port attempt table shape bucket) steps
  bucket-saw attempt table shape (buckets.At place) steps walked came missed = record {
    walked = walked.walked;
    saw = HasCounted-none env.geometry words_at mix port table shape caller place walked.walked.last.behind walked.saw;
  }
  bucket-saw attempt table shape (buckets.Missing place (Some next)) steps walked came missed = came
  bucket-saw attempt table shape (buckets.Missing place None) steps walked came missed = missed

  found-saw : (attempt : Attempt) (table : ℕ) (next : LocateModel × Next Located) (steps : List Did)
      → next.0.table ≡ table → WalkedNext env.geometry SeesNone table next steps
      → MissedNext table next steps
      → Sees (located env port attempt next.0 next.1) steps
  found-saw attempt table (after, Go) steps same walked missed =
      subst (λ t. WalkedAt env.geometry SeesNone t after.at steps) (sym same) walked
  found-saw attempt table (after, Done there) steps same walked missed =
      subst (λ t. Sees (at_bucket env port attempt t there.shape there.bucket) steps) (sym same)
      (bucket-saw attempt table there.shape there.bucket steps walked.0 walked.1 missed)

  pub locating-saw : (owner : ℕ) (once : Bool) (attempt : Attempt) (locate : LocateModel) (steps : List Did)
      (did : Did)
      → (does : Performs mix env (binds port owner once (at.Locating attempt locate)) did) → does.caller ≡ caller
      → StandsIn mix env words_at (binds port owner once (at.Locating attempt locate)) steps did does
      → Sees (at.Locating attempt locate) steps
      → let next = locate_after mix port locate did.old in
      Sees (located env port attempt next.0 next.1) (steps ++ did ∷ [])
  locating-saw owner once attempt locate steps did does own now saw =
      let all = steps ++ did ∷ [] in
      let few = subst (λ k. k < 16) own does.few in
      let calm = subst (λ k. UnturnedTo env.geometry words_at k steps did.index) own now.unturned in
      let stay = subst (λ k. BucketsStay env mix words_at k does.ghost did.index) own now.stay in
      let means = subst (λ k. TableMeans env mix k does.ghost (known_locate port locate.table locate.at)) own
      does.knows.knowing.means.table in
      let within = does.within.at_in.locate_in in
      found-saw attempt locate.table (locate_after mix port locate did.old) all
      (same_table env.geometry mix port locate locate.at did.old)
      (locate-walked env.geometry SeesNone mix port locate locate.at steps did within.at_in
      within.table_in
      (hard mix env refl does)
      (early-told does.words does.ghost does.whole locate did now.now stay within.table_in within.geometry_same does.found
      locate.at (hard mix env refl does) means)
      saw)
      (located-missed few does.words does.ghost does.whole locate steps did now.now calm does.found locate.at within.at_in
      (hard mix env refl does) means saw)

  -- ---- a page is entered

  -- behind the page it looks at the next entry, or in the bucket
  entered-saw : (attempt : Attempt) (table shape : ℕ) (start : Start PlaceModel ℕ) (all : List Did)
      → WalkedSeeing env.geometry table shape (SeesEntry table shape None) all
      → Sees (behind_page env port attempt table shape start) all
  entered-saw attempt table shape (starts.Running next) all seeing = (seeing, tt)
  entered-saw attempt table shape (starts.Done place) all seeing =
      bucket-saw attempt table shape (buckets.At place) all
      (record { walked = seeing.walked; saw = seeing.saw.0 }) tt tt

  -- where no page was free each was seen taken
  pub grown-saw : (attempt : Attempt) (table shape : ℕ) (place : PlaceModel) (grow : GrowModel)
      (r : GrowAt × Next (Option ℕ)) (all : List Did)
      → WalkedSeeing env.geometry table shape
      (SeesMissing env words_at mix port table shape (SawGrown env.geometry r)) all
      → Sees (grown env port attempt table shape place (record grow { at = r.0 }) r.1) all
  grown-saw attempt table shape place grow (state, Go) all seeing = seeing
  grown-saw attempt table shape place grow (state, Done None) all seeing =
      inr (record { table = table; shape = shape; walked = seeing.walked.last; size_is = refl; saw = seeing.saw.seen })
  grown-saw attempt table shape place grow (state, Done (Some page)) all seeing =
      entered-saw attempt table shape (entered place page) all
      (record {
        walked = seeing.walked;
        saw = missing-early env words_at mix caller port table shape
            (SawGrown env.geometry (state, Done (Some page))) seeing.walked.last.behind seeing.saw;
      })
