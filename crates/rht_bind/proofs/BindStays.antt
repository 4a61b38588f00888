-- Whatever words it is told, a bind stays in its table: a case a state.
-- Slots, links, shapes and the node map are read totally, so what they name is there or is none.
use Rattle.std.proofs.Common.{◌≡◌, ℕ, ◌<◌, ◌≤◌, refl, sym, subst, arith}
use Rattle.std.specs.Prelude.{Bool, true, false, Option, Some, None, min, nat_le, nat_eq, ◌*◌, ◌==◌}
use Rattle.std.proofs.lemmas.Bool.{cond_both}
use Rattle.rht_words.specs.declared.env.Env.{Env}
use Rattle.rht_words.specs.declared.config.Kind.{Kind}
use Rattle.rht_words.specs.declared.config.Kind.TheVariants as kinds
use Rattle.rht_words.specs.declared.geometry.Geometry.{Geometry}
use Rattle.rht_words.specs.declared.machine.Next.{Next}
use Rattle.rht_words.specs.declared.machine.Next.TheVariants.{Go, Done}
use Rattle.rht_words.specs.declared.machine.Start.{Start}
use Rattle.rht_words.specs.declared.machine.Start.TheVariants as starts
use Rattle.rht_words.specs.Links.{slot_of, link_of}
use Rattle.rht_words.specs.Places.{IsBucketPlace}
use Rattle.rht_words.specs.Planned.{IsWord}
use Rattle.rht_words.specs.Shapes.{size_of, unpacked}
use Rattle.rht_words.proofs.LinksRead.{slot_of-in, IsSlotOrNone}
use Rattle.rht_words.proofs.PlannedWords.{link_of-fits}
use Rattle.rht_policy.specs.Thresholds.{is_above_75, is_above_100, is_above_max}
use Rattle.rht_nest.specs.Locate.{LocateModel, locate_after, IsLocatedBucketIn}
use Rattle.rht_nest.specs.declared.locate.Located.{Located}
use Rattle.rht_nest.specs.declared.locate.LocatedBucket.{LocatedBucket}
use Rattle.rht_nest.specs.declared.locate.LocatedBucket.TheVariants as buckets
use Rattle.rht_nest.specs.Place.{PlaceModel, entry_place, entered, IsPlaceIn, IsEnteredIn}
use Rattle.rht_nest.specs.Grow.{GrowModel, grow_after}
use Rattle.rht_nest.proofs.Places.{entered_in}
use Rattle.rht_nest.proofs.Grows.{GrowIsIn, begins_page, grow_stays}
use Rattle.rht_nest.proofs.Locates.{LocateStays, locate_stays}
use Rattle.rht_nest.specs.Make.{MakeModel, make_after, IsMadeIn, made_shape}
use Rattle.rht_nest.specs.Unmake.{UnmakeModel, unmake_after, IsUnmakeIn}
use Rattle.rht_nest.proofs.MakesStay.{MakeIsIn, make_stays, unmake_begins, unmake_stays}
use Rattle.rht_arena.specs.NewNode.{NewNodeModel, new_node_after}
use Rattle.rht_arena.proofs.NewNodesStay.{NewNodeIsIn, new_node_stays}
use Rattle.rht_chain.specs.LockedWalk.{IsNodeOrNone}
use Rattle.rht_chain.specs.Locked.{IsThenIn}
use Rattle.rht_chain.specs.Probe.{ProbeModel, probe_after}
use Rattle.rht_chain.specs.declared.probe.Probed.{Probed}
use Rattle.rht_chain.specs.Relink.{RelinkModel, relink_after, IsRelinkIn}
use Rattle.rht_chain.specs.declared.locked.Then.{Then}
use Rattle.rht_chain.specs.declared.locked.Then.TheVariants.{Table, Answer}
use Rattle.rht_chain.proofs.PiecesStay.{ProbeIsIn, probe_stays, relink_begins, relink_stays}
use Rattle.rht_model.specs.declared.history.Reply.{Reply}
use Rattle.rht_bind.specs.Bind.{after_at, filled, probing, at_bucket, located, behind_page, grown, bound_already, found_or_future, probed, replacing, replaced, unlocking, future_or_count, checked_count, kicks, publishing, published, unlocked, IsClaimedIn, IsListIn, IsReplacingIn, IsBindAtIn}
use Rattle.rht_bind.specs.Endings.{closed, IsEndingIn}
use Rattle.rht_bind.specs.Growing.{unlocking_full, making, size_grown, want_or_busy, made, ended_attempt, behind_attempt, refused_or_found, has_attached, checked_attach, unmade, IsGrowingIn, IsWantingIn, IsAttachingIn}
use Rattle.rht_bind.specs.declared.bind.Attempt.{Attempt}
use Rattle.rht_bind.specs.declared.bind.ending.Ending.{Ending}
use Rattle.rht_bind.specs.declared.bind.ending.Ending.TheVariants as endings
use Rattle.rht_bind.specs.declared.bind.growth.Full.{Full}
use Rattle.rht_bind.specs.declared.bind.growth.Full.TheVariants as full
use Rattle.rht_bind.specs.declared.bind.growth.Growing.{Growing}
use Rattle.rht_bind.specs.declared.bind.growth.Refusal.{Refusal}
use Rattle.rht_bind.specs.declared.bind.Claimed.{Claimed}
use Rattle.rht_bind.specs.declared.bind.FoundList.{FoundList}
use Rattle.rht_bind.specs.declared.bind.BindAt.{BindAt}
use Rattle.rht_bind.specs.declared.bind.BindAt.TheVariants as at

module _ (mix : ℕ → ℕ → ℕ → ℕ) (env : Env) (port : ℕ) (once : Bool) where
  abbrev g : Geometry
  g = env.geometry

  filled-in : (new : NewNodeModel) (next : Next (Option ℕ)) → NewNodeIsIn g (new, next)
      → IsBindAtIn env (filled new next).0
  filled-in new Go stays = stays.new_in
  filled-in new (Done None) stays = stays.new_in
  filled-in new (Done (Some node)) stays = stays.node_in

  probing-in : (attempt : Attempt) (table shape place : ℕ) → attempt.node < g.nodes → table < 8 → IsWord shape
      → IsBucketPlace g place → IsBindAtIn env (probing env port attempt table shape place)
  probing-in attempt table shape place node_in table_in shape_in place_in = record {
    node_in = node_in;
    table_in = table_in;
    shape_in = shape_in;
    probe_in = record { geometry_same = refl; at_in = record { place_in = place_in; even = tt; word_in = tt } };
  }

  -- an entry is one of the pages' words
  entry_place-in : (place : PlaceModel) → IsPlaceIn g place → IsBucketPlace g (entry_place place)
  entry_place-in place within =
      let below = within.entry_in in
      subst (λ (h : Geometry). IsBucketPlace g (entry_place (record place { geometry = h }))) (sym within.geometry_same)
      (omega arith, omega (arith, below))

  bucket-in : (attempt : Attempt) (table shape : ℕ) (bucket : LocatedBucket) → attempt.node < g.nodes → table < 8
      → IsWord shape → IsLocatedBucketIn g bucket → IsBindAtIn env (at_bucket env port attempt table shape bucket)
  bucket-in attempt table shape (buckets.At place) node_in table_in shape_in bucket_in =
      probing-in attempt table shape place node_in table_in shape_in bucket_in
  bucket-in attempt table shape (buckets.Missing place (Some next)) node_in table_in shape_in bucket_in = record {
    node_in = node_in;
    locate_in = record { geometry_same = refl; table_in = bucket_in.early_in; at_in = tt };
  }
  bucket-in attempt table shape (buckets.Missing place None) node_in table_in shape_in bucket_in = record {
    node_in = node_in;
    table_in = table_in;
    shape_in = shape_in;
    place_in = bucket_in.place_in;
    grow_in = record {
      geometry_same = refl;
      entry_in = entry_place-in place bucket_in.place_in;
      at_in = begins_page g;
    };
  }

  located-in : (attempt : Attempt) (locate : LocateModel) (next : Next Located) → attempt.node < g.nodes
      → LocateStays g (locate, next) → IsBindAtIn env (located env port attempt locate next)
  located-in attempt locate Go node_in stays = record { node_in = node_in; locate_in = stays.locate_in }
  located-in attempt locate (Done there) node_in stays =
      bucket-in attempt locate.table there.shape there.bucket node_in stays.locate_in.table_in stays.end_in.shape_in
      stays.end_in.bucket_in

  behind_page-in : (attempt : Attempt) (table shape : ℕ) (way : Start PlaceModel ℕ) → attempt.node < g.nodes
      → table < 8 → IsWord shape → IsEnteredIn g way
      → IsBindAtIn env (behind_page env port attempt table shape way)
  behind_page-in attempt table shape (starts.Running next) node_in table_in shape_in way_in = record {
    node_in = node_in;
    locate_in = record {
      geometry_same = refl;
      table_in = table_in;
      at_in = record { nested_in = record { shape_in = shape_in; place_in = way_in }; early_in = tt };
    };
  }
  behind_page-in attempt table shape (starts.Done place) node_in table_in shape_in way_in =
      probing-in attempt table shape place node_in table_in shape_in way_in

  grown-in : (attempt : Attempt) (table shape : ℕ) (place : PlaceModel) (grow : GrowModel) (next : Next (Option ℕ))
      → attempt.node < g.nodes → table < 8 → IsWord shape → IsPlaceIn g place → GrowIsIn g (grow, next)
      → IsBindAtIn env (grown env port attempt table shape place grow next)
  grown-in attempt table shape place grow Go node_in table_in shape_in place_in stays = record {
    node_in = node_in;
    table_in = table_in;
    shape_in = shape_in;
    place_in = place_in;
    grow_in = stays.grow_in;
  }
  grown-in attempt table shape place grow (Done None) node_in table_in shape_in place_in stays = node_in
  grown-in attempt table shape place grow (Done (Some page)) node_in table_in shape_in place_in stays =
      behind_page-in attempt table shape (entered place page) node_in table_in shape_in
      (entered_in g place page place_in stays.page_in)

  bound-in : (kind : Kind) (claimed : Claimed) (first : ℕ) (before : Option ℕ) → IsClaimedIn g claimed
      → first < g.nodes
      → IsNodeOrNone g before → IsBindAtIn env (bound_already kind claimed first before)
  bound-in kinds.Single claimed first before claimed_in first_in before_in =
      record { claimed_in = claimed_in; found_in = first_in }
  bound-in kinds.Listed claimed first before claimed_in first_in before_in =
      record { claimed_in = claimed_in; first_in = first_in; before_in = before_in }

  seen-in : (kind : Kind) (claimed : Claimed) (found before : Option ℕ) (length : ℕ) → IsClaimedIn g claimed
      → IsNodeOrNone g found → IsNodeOrNone g before
      → IsBindAtIn env (found_or_future kind claimed found before length)
  seen-in kind claimed None before length claimed_in found_in before_in = claimed_in
  seen-in kind claimed (Some first) before length claimed_in found_in before_in =
      bound-in kind claimed first before claimed_in found_in before_in

  probed-in : (kind : Kind) (attempt : Attempt) (table shape : ℕ) (probe : ProbeModel) (next : Next Probed)
      → attempt.node < g.nodes → table < 8
      → IsWord shape → ProbeIsIn g (probe, next) → IsBindAtIn env (probed kind attempt table shape probe next)
  probed-in kind attempt table shape probe Go node_in table_in shape_in stays =
      record { node_in = node_in; table_in = table_in; shape_in = shape_in; probe_in = stays.probe_in }
  probed-in kind attempt table shape probe (Done end) node_in table_in shape_in stays =
      let bucket_in = stays.end_in.bucket_in in
      seen-in kind (record { attempt = attempt; table = table; shape = shape; bucket = end.bucket })
      end.seen.found end.seen.before end.seen.length
      record { node_in = node_in; table_in = table_in; shape_in = shape_in; bucket_in = bucket_in }
      stays.end_in.seen_in.found_in stays.end_in.seen_in.before_in

  replacing-in : (list : FoundList) → IsListIn g list → IsBindAtIn env (replacing env list)
  replacing-in list within =
      let bucket = list.claimed.bucket in
      let bucket_in = within.claimed_in.bucket_in in
      record {
        list_in = within;
        relink_in =
            relink_begins g bucket.place bucket.word list.before (link_of list.claimed.attempt.node)
            bucket_in.place_in
            bucket_in.word_in within.before_in (link_of-fits g list.claimed.attempt.node within.claimed_in.node_in);
      }

  replaced-in : (list : FoundList) (relink : RelinkModel) (next : Next (Unit {0}))
      → IsReplacingIn g list relink
      → IsBindAtIn env (replaced list relink next)
  replaced-in list relink Go within = within
  replaced-in list relink (Done done) within = tt

  unlocking-in : (claimed : Claimed) (next : Then Reply) → IsClaimedIn g claimed → IsThenIn next
      → IsBindAtIn env (unlocking claimed next)
  unlocking-in claimed next within then_in = record {
    node_in = within.node_in;
    table_in = within.table_in;
    unlock_in = record { place_in = within.bucket_in.place_in; word_in = within.bucket_in.word_in };
    then_in = then_in;
  }

  full-in : (claimed : Claimed) (why : Full) → IsClaimedIn g claimed → IsBindAtIn env (unlocking_full claimed why)
  full-in claimed why within = record {
    growing_in = record { node_in = within.node_in; table_in = within.table_in; shape_in = within.shape_in };
    unlock_in = record { place_in = within.bucket_in.place_in; word_in = within.bucket_in.word_in };
  }

  future-in : (claimed : Claimed) (length : ℕ) (future : Option ℕ) → IsClaimedIn g claimed → IsSlotOrNone future
      → IsBindAtIn env (future_or_count claimed length future)
  future-in claimed length None within future_in =
      cond_both (nat_le 16 length) _ _ (IsBindAtIn env) (λ t. full-in claimed full.Chain within) (λ f. within)
  future-in claimed length (Some table) within future_in = unlocking-in claimed (Table table) within future_in

  count-in : (claimed : Claimed) (count : ℕ) → IsClaimedIn g claimed → IsBindAtIn env (checked_count env claimed count)
  count-in claimed count within =
      cond_both (is_above_max (min count 65536) env.config.max) _ _ (IsBindAtIn env) (λ t. unlocking-in claimed _ within tt)
      (λ f.
      cond_both (is_above_100 (min count 65536) (size_of (unpacked claimed.shape)) env.config.max) _ _ (IsBindAtIn env)
      (λ t. full-in claimed full.Table within) (λ f. within))

  publishing-in : (claimed : Claimed) (kick : Bool) → IsClaimedIn g claimed
      → IsBindAtIn env (publishing env claimed kick)
  publishing-in claimed kick within = record {
    node_in = within.node_in;
    table_in = within.table_in;
    relink_in =
        relink_begins g claimed.bucket.place claimed.bucket.word None (link_of claimed.attempt.node)
        within.bucket_in.place_in within.bucket_in.word_in tt (link_of-fits g claimed.attempt.node within.node_in);
  }

  published-in : (node table : ℕ) (kick : Bool) (relink : RelinkModel) (next : Next (Unit {0})) → node < g.nodes
      → table < 8 → IsRelinkIn g relink → IsBindAtIn env (published node table kick relink next)
  published-in node table kick relink Go node_in table_in relink_in =
      record { node_in = node_in; table_in = table_in; relink_in = relink_in }
  published-in node table kick relink (Done done) node_in table_in relink_in = tt

  unlocked-in : (attempt : Attempt) (next : Then Reply) → attempt.node < g.nodes → IsThenIn next
      → IsBindAtIn env (unlocked env attempt next)
  unlocked-in attempt (Table table) node_in then_in = record {
    node_in = node_in;
    locate_in = record { geometry_same = refl; table_in = then_in; at_in = tt };
  }
  unlocked-in attempt (Answer reply) node_in then_in = node_in

  -- ---- a further table

  making-in : (growing : Growing) (size : ℕ) → IsGrowingIn g growing → IsBindAtIn env (making env growing size)
  making-in growing size within = record {
    growing_in = within;
    seed_same = refl;
    make_in = record { geometry_same = refl; least = omega arith; greatest = omega arith; at_in = omega arith };
  }

  want-in : (growing : Growing) (root count : ℕ) → IsWantingIn g growing root
      → IsBindAtIn env (want_or_busy env growing root count)
  want-in growing root count within =
      cond_both (is_above_75 (min count 65536) (size_grown growing) env.config.max) _ _ (IsBindAtIn env)
      (λ t. making-in growing (2 * size_grown growing) within.growing_in)
      (λ f.
      cond_both (nat_eq root growing.table) _ _ (IsBindAtIn env)
      (λ t. making-in growing (size_grown growing) within.growing_in)
      (λ f. record { growing_in = within.growing_in; refusal_in = within.root_in }))

  -- the shape of a table that was made is a word, nested or not
  packed_word : (nested : Bool) (exponent page : ℕ) → exponent ≤ 17 → page ≤ 4096 → IsWord (made_shape exponent nested page)
  packed_word false exponent page few low = omega (arith, few, low)
  packed_word true exponent page few low = omega (arith, few, low)

  made_word : (exponent slot shape : ℕ) (allowed : Bool) → exponent ≤ 17 → IsMadeIn g exponent allowed slot shape → IsWord shape
  made_word exponent slot shape allowed few is =
      let pages_few = g.within.pages_within in
      rw is.shape_is (packed_word is.nested exponent is.page few (omega (arith, is.run_in.within, pages_few)))

  made-in : (growing : Growing) (size exponent : ℕ) (allowed : Bool) (make : MakeModel) (next : Next (Option (ℕ × ℕ)))
      → exponent ≤ 17 → IsGrowingIn g growing → make.seed ≡ env.config.seed → MakeIsIn g exponent allowed (make, next)
      → IsBindAtIn env (made growing size make next)
  made-in growing size exponent allowed make Go few within seed stays =
      record { growing_in = within; seed_same = seed; make_in = stays.make_in }
  made-in growing size exponent allowed make (Done None) few within seed stays = record { growing_in = within; refusal_in = tt }
  made-in growing size exponent allowed make (Done (Some table)) few within seed stays = record {
    growing_in = within;
    slot_in = stays.made_in.slot_in;
    shape_in = made_word exponent table.0 table.1 allowed few stays.made_in;
  }

  behind-in : (attempt : Attempt) (answer : Option Reply) → attempt.node < g.nodes
      → IsBindAtIn env (behind_attempt attempt answer)
  behind-in attempt None node_in = node_in
  behind-in attempt (Some reply) node_in = node_in

  refused-in : (growing : Growing) (refusal : Refusal) (future : Option ℕ) → IsGrowingIn g growing
      → IsBindAtIn env (refused_or_found once growing refusal future)
  refused-in growing refusal None within = within.node_in
  refused-in growing refusal (Some table) within =
      behind-in growing.attempt (ended_attempt once table) within.node_in

  attach-in : (growing : Growing) (slot shape found : ℕ) → IsAttachingIn g growing slot shape
      → IsBindAtIn env (checked_attach env once growing slot shape found)
  attach-in growing slot shape found within =
      cond_both (found == 0) _ _ (IsBindAtIn env)
      (λ t. behind-in (has_attached growing.attempt) (ended_attempt once slot) within.growing_in.node_in)
      (λ f. record { node_in = within.growing_in.node_in; unmake_in = unmake_begins g slot shape within.slot_in })

  unmade-in : (attempt : Attempt) (answer : Option Reply) (unmake : UnmakeModel) (next : Next (Unit {0}))
      → attempt.node < g.nodes → IsUnmakeIn g unmake → IsBindAtIn env (unmade attempt answer unmake next)
  unmade-in attempt answer unmake Go node_in unmake_in = record { node_in = node_in; unmake_in = unmake_in }
  unmade-in attempt answer unmake (Done done) node_in unmake_in = behind-in attempt answer node_in

  closed-in : (ending : Ending) → IsEndingIn g ending → IsBindAtIn env (closed env ending).0
  closed-in (endings.Bound kick) within = tt
  closed-in (endings.Answered node reply) within = record { geometry_same = refl; node_in = within }
  closed-in (endings.Anew attempt) within = within

  pub bind_stays : (state : BindAt) (word : ℕ) → IsBindAtIn env state → IsWord word
      → IsBindAtIn env (after_at mix env port once state word).0
  bind_stays (at.Filling new) word within told =
      filled-in (new_node_after new word).0 (new_node_after new word).1 (new_node_stays g new word within)
  bind_stays (at.Opening attempt) word within told = within
  bind_stays (at.CurrentTable attempt) word within told = record {
    node_in = within;
    locate_in = record { geometry_same = refl; table_in = omega arith; at_in = tt };
  }
  bind_stays (at.Locating attempt locate) word within told =
      located-in attempt (locate_after mix port locate word).0 (locate_after mix port locate word).1 within.node_in
      (locate_stays mix port g locate word within.locate_in told)
  bind_stays (at.Entering attempt table shape place grow) word within told =
      grown-in attempt table shape place (grow_after grow word).0 (grow_after grow word).1 within.node_in within.table_in
      within.shape_in within.place_in (grow_stays g grow word within.grow_in told)
  bind_stays (at.Probing attempt table shape probe) word within told =
      probed-in env.config.kind attempt table shape (probe_after probe word).0 (probe_after probe word).1
      within.node_in
      within.table_in within.shape_in (probe_stays g probe word within.probe_in told)
  bind_stays (at.FoundOwner claimed found) word within told = unlocking-in claimed _ within.claimed_in tt
  bind_stays (at.ListLink list) word within told = within
  bind_stays (at.ChainLink list) word within told = record { list_in = within; link_in = told }
  bind_stays (at.LinkBehind list link) word within told = replacing-in list within.list_in
  bind_stays (at.Replacing list relink) word within told =
      replaced-in list (relink_after relink).0 (relink_after relink).1
      record { list_in = within.list_in; relink_in = relink_stays g relink within.relink_in }
  bind_stays (at.Future claimed length) word within told =
      future-in claimed length (slot_of word) within (slot_of-in word)
  bind_stays (at.Count claimed) word within told = count-in claimed word within
  bind_stays (at.Link claimed) word within told = within
  bind_stays (at.Raise claimed) word within told = publishing-in claimed (kicks env claimed word) within
  bind_stays (at.Publish node table relink kick) word within told =
      published-in node table kick (relink_after relink).0 (relink_after relink).1 within.node_in within.table_in
      (relink_stays g relink within.relink_in)
  bind_stays (at.Unlocking attempt table unlock next) word within told =
      unlocked-in attempt next within.node_in within.then_in
  bind_stays (at.UnlockingFull growing unlock) word within told = within.growing_in
  bind_stays (at.Root growing) word within told = record { growing_in = within; root_in = omega arith }
  bind_stays (at.GrowthCount growing root) word within told = want-in growing root word within
  bind_stays (at.Making growing size make) word within told =
      made-in growing size make.exponent make.nested (make_after make word).0 (make_after make word).1 within.make_in.greatest
      within.growing_in within.seed_same (make_stays g make word within.make_in told)
  bind_stays (at.FutureAgain growing refusal) word within told =
      refused-in growing refusal (slot_of word) within.growing_in
  bind_stays (at.Attaching growing slot shape) word within told = attach-in growing slot shape word within
  bind_stays (at.Unmaking attempt unmake answer) word within told =
      unmade-in attempt answer (unmake_after unmake word).0 (unmake_after unmake word).1 within.node_in
      (unmake_stays g unmake word within.unmake_in)
  bind_stays (at.Closing ending) word within told = closed-in ending within
  bind_stays (at.Giving give reply) word within told = within
