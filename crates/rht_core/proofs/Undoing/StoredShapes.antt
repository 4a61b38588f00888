-- A bind that attaches a table has stored the shape of that table last, of all shapes that it has stored in its slot: from the store of
-- the shape on the making stores other words alone, and behind it comes the exchange that attaches the table.
use Rattle.std.proofs.Common.{◌≡◌, ◌≢◌, ℕ, ◌+◌, ◌==◌, Bool, true, false, List, [], ◌∷◌, ◌++◌, Option, Some, None, min, nat_le, nat_lt, nat_eq, refl, sym, ap, ◌∙◌, arith}
use Rattle.std.proofs.lemmas.Bool.{cond_both}
use Rattle.std.proofs.lemmas.List.{append_assoc}
use Rattle.rht_words.specs.declared.op.Op.TheVariants.{Store}
use Rattle.rht_words.specs.declared.env.Env.{Env}
use Rattle.rht_words.specs.declared.config.Kind.{Kind}
use Rattle.rht_words.specs.declared.config.Kind.TheVariants.{Single, Listed}
use Rattle.rht_words.specs.declared.geometry.Geometry.{Geometry}
use Rattle.rht_words.specs.declared.machine.Next.{Next}
use Rattle.rht_words.specs.declared.machine.Start.{Start}
use Rattle.rht_words.specs.declared.machine.Start.TheVariants as starts
use Rattle.rht_words.specs.declared.machine.Next.TheVariants.{Go, Done}
use Rattle.rht_words.specs.declared.machine.Start.{Start}
use Rattle.rht_words.specs.declared.machine.Start.TheVariants as starts
use Rattle.rht_words.specs.Links.{slot_of}
use Rattle.rht_words.specs.Shapes.{unpacked, size_of}
use Rattle.rht_words.specs.Places.{Slot, ShapeWord, place_of}
use Rattle.rht_words.proofs.EachElement.{AllByRecursion-push}
use Rattle.rht_policy.specs.Thresholds.{is_above_75, is_above_100, is_above_max}
use Rattle.rht_model.specs.declared.history.Reply.{Reply}
use Rattle.rht_arena.specs.NewNode.{NewNodeModel, new_node_after}
use Rattle.rht_arena.specs.TakeRun.{TakeRunModel, take_run_new, take_run_after}
use Rattle.rht_nest.specs.Locate.{LocateModel, locate_after}
use Rattle.rht_nest.specs.declared.locate.Located.{Located}
use Rattle.rht_nest.specs.declared.locate.LocatedBucket.{LocatedBucket}
use Rattle.rht_nest.specs.declared.locate.LocatedBucket.TheVariants as buckets
use Rattle.rht_nest.specs.Place.{PlaceModel, entered}
use Rattle.rht_nest.specs.Grow.{GrowModel, grow_after}
use Rattle.rht_nest.specs.Make.{MakeModel, make_plan_at, make_after_at, may_nest, made_pages, made_shape, no_run, run_taken, run_started, top_taken, slot_seen}
use Rattle.rht_nest.specs.declared.make.MakeAt.{MakeAt}
use Rattle.rht_nest.specs.declared.make.MakeAt.TheVariants as makes
use Rattle.rht_nest.specs.Unmake.{UnmakeModel, unmake_after}
use Rattle.rht_chain.specs.Probe.{ProbeModel, probe_after}
use Rattle.rht_chain.specs.declared.probe.Probed.{Probed}
use Rattle.rht_chain.specs.Relink.{RelinkModel, relink_after}
use Rattle.rht_chain.specs.declared.locked.Then.{Then}
use Rattle.rht_chain.specs.declared.locked.Then.TheVariants.{Table, Answer}
use Rattle.rht_bind.specs.Bind.{plan_at, after_at, filled, at_bucket, behind_page, grown, located, bound_already, found_or_future, probed, replaced, future_or_count, checked_count, published, unlocked}
use Rattle.rht_bind.specs.Growing.{size_grown, want_or_busy, made, ended_attempt, behind_attempt, refused_or_found, has_attached, checked_attach, unmade}
use Rattle.rht_bind.specs.declared.bind.Attempt.{Attempt}
use Rattle.rht_bind.specs.declared.bind.Claimed.{Claimed}
use Rattle.rht_bind.specs.declared.bind.FoundList.{FoundList}
use Rattle.rht_bind.specs.declared.bind.growth.Growing.{Growing}
use Rattle.rht_bind.specs.declared.bind.growth.Refusal.{Refusal}
use Rattle.rht_bind.specs.Endings.{closed}
use Rattle.rht_bind.specs.declared.bind.ending.Ending.{Ending}
use Rattle.rht_bind.specs.declared.bind.ending.Ending.TheVariants as endings
use Rattle.rht_bind.specs.declared.bind.BindAt.{BindAt}
use Rattle.rht_bind.specs.declared.bind.BindAt.TheVariants as at
use Rattle.rht_core.specs.Traces.{Did}
use Rattle.rht_core.specs.Refused.{IsNoShapeStore, StoresLast}

module _ (env : Env) where
  abbrev g : Geometry
  g = env.geometry

  -- ---- what is stored last

  pub stores-now : (slot shape : ℕ) (steps : List Did) (did : Did) → did.op ≡ Store (place_of g (Slot slot ShapeWord)) shape
      → StoresLast g slot shape (steps ++ did ∷ [])
  stores-now slot shape steps did stores =
      record { before = steps; at = did; behind = []; split = refl; stores = stores; last = tt }

  pub stores-more : (slot shape : ℕ) (steps : List Did) (did : Did) → IsNoShapeStore g slot did → StoresLast g slot shape steps
      → StoresLast g slot shape (steps ++ did ∷ [])
  stores-more slot shape steps did none is = record {
    before = is.before;
    at = is.at;
    behind = is.behind ++ did ∷ [];
    split = ap (λ before. before ++ did ∷ []) is.split ∙ append_assoc is.before (is.at ∷ is.behind) (did ∷ []);
    stores = is.stores;
    last = AllByRecursion-push (IsNoShapeStore g slot) is.behind did is.last none;
  }

  -- what a making has stored in a state
  abbrev StoredIn : ℕ → MakeAt → List Did → Type 0
  StoredIn exponent (makes.Slot slot) steps = Unit {0}
  StoredIn exponent (makes.Taking slot take) steps = Unit {0}
  StoredIn exponent (makes.TakingTop slot take) steps = Unit {0}
  StoredIn exponent (makes.SlotBack slot) steps = Unit {0}
  StoredIn exponent (makes.NextSerial slot nested page) steps = Unit {0}
  StoredIn exponent (makes.Shape slot nested page serial) steps = Unit {0}
  StoredIn exponent (makes.Seed slot nested page serial) steps = StoresLast g slot (made_shape exponent nested page) steps
  StoredIn exponent (makes.Future slot nested page serial) steps = StoresLast g slot (made_shape exponent nested page) steps
  StoredIn exponent (makes.Serial slot nested page serial) steps = StoresLast g slot (made_shape exponent nested page) steps

  -- and a bind
  abbrev pub HasStored : BindAt → List Did → Type 0
  HasStored (at.Making growing size make) steps = StoredIn make.exponent make.at steps
  HasStored (at.Attaching growing slot shape) steps = StoresLast g slot shape steps
  HasStored (at.Filling new) steps = Unit {0}
  HasStored (at.Opening attempt) steps = Unit {0}
  HasStored (at.CurrentTable attempt) steps = Unit {0}
  HasStored (at.Locating attempt locate) steps = Unit {0}
  HasStored (at.Entering attempt table shape place grow) steps = Unit {0}
  HasStored (at.Probing attempt table shape probe) steps = Unit {0}
  HasStored (at.FoundOwner claimed found) steps = Unit {0}
  HasStored (at.ListLink list) steps = Unit {0}
  HasStored (at.ChainLink list) steps = Unit {0}
  HasStored (at.LinkBehind list link) steps = Unit {0}
  HasStored (at.Replacing list relink) steps = Unit {0}
  HasStored (at.Future claimed length) steps = Unit {0}
  HasStored (at.Count claimed) steps = Unit {0}
  HasStored (at.Link claimed) steps = Unit {0}
  HasStored (at.Raise claimed) steps = Unit {0}
  HasStored (at.Publish node table relink kick) steps = Unit {0}
  HasStored (at.Unlocking attempt table unlock next) steps = Unit {0}
  HasStored (at.UnlockingFull growing unlock) steps = Unit {0}
  HasStored (at.Root growing) steps = Unit {0}
  HasStored (at.GrowthCount growing root) steps = Unit {0}
  HasStored (at.FutureAgain growing refusal) steps = Unit {0}
  HasStored (at.Unmaking attempt unmake answer) steps = Unit {0}
  HasStored (at.Closing ending) steps = Unit {0}
  HasStored (at.Giving give reply) steps = Unit {0}

  -- ---- states that have nothing to say of it

  module _ (all : List Did) where
    filled-stored : (new : NewNodeModel) (next : Next (Option ℕ)) → HasStored (filled new next).0 all
    filled-stored new Go = tt
    filled-stored new (Done None) = tt
    filled-stored new (Done (Some node)) = tt

    bucket-stored : (port : ℕ) (attempt : Attempt) (table shape : ℕ) (bucket : LocatedBucket)
        → HasStored (at_bucket env port attempt table shape bucket) all
    bucket-stored port attempt table shape (buckets.At place) = tt
    bucket-stored port attempt table shape (buckets.Missing place (Some next)) = tt
    bucket-stored port attempt table shape (buckets.Missing place None) = tt

    page-stored : (port : ℕ) (attempt : Attempt) (table shape : ℕ) (start : Start PlaceModel ℕ)
        → HasStored (behind_page env port attempt table shape start) all
    page-stored port attempt table shape (starts.Running next) = tt
    page-stored port attempt table shape (starts.Done place) = tt

    grown-stored : (port : ℕ) (attempt : Attempt) (table shape : ℕ) (place : PlaceModel) (grow : GrowModel)
        (next : Next (Option ℕ)) → HasStored (grown env port attempt table shape place grow next) all
    grown-stored port attempt table shape place grow Go = tt
    grown-stored port attempt table shape place grow (Done None) = tt
    grown-stored port attempt table shape place grow (Done (Some page)) =
        page-stored port attempt table shape (entered place page)

    located-stored : (port : ℕ) (attempt : Attempt) (locate : LocateModel) (next : Next Located)
        → HasStored (located env port attempt locate next) all
    located-stored port attempt locate Go = tt
    located-stored port attempt locate (Done there) = bucket-stored port attempt locate.table there.shape there.bucket

    bound-stored : (kind : Kind) (claimed : Claimed) (first : ℕ) (before : Option ℕ)
        → HasStored (bound_already kind claimed first before) all
    bound-stored Single claimed first before = tt
    bound-stored Listed claimed first before = tt

    seen-stored : (kind : Kind) (claimed : Claimed) (found before : Option ℕ) (length : ℕ)
        → HasStored (found_or_future kind claimed found before length) all
    seen-stored kind claimed None before length = tt
    seen-stored kind claimed (Some first) before length = bound-stored kind claimed first before

    probed-stored : (kind : Kind) (attempt : Attempt) (table shape : ℕ) (probe : ProbeModel) (next : Next Probed)
        → HasStored (probed kind attempt table shape probe next) all
    probed-stored kind attempt table shape probe Go = tt
    probed-stored kind attempt table shape probe (Done end) =
        seen-stored kind (record { attempt = attempt; table = table; shape = shape; bucket = end.bucket }) end.seen.found
        end.seen.before end.seen.length

    replaced-stored : (list : FoundList) (relink : RelinkModel) (next : Next (Unit {0}))
        → HasStored (replaced list relink next) all
    replaced-stored list relink Go = tt
    replaced-stored list relink (Done done) = tt

    published-stored : (node table : ℕ) (kick : Bool) (relink : RelinkModel) (next : Next (Unit {0}))
        → HasStored (published node table kick relink next) all
    published-stored node table kick relink Go = tt
    published-stored node table kick relink (Done done) = tt

    future-stored : (claimed : Claimed) (length : ℕ) (future : Option ℕ) → HasStored (future_or_count claimed length future) all
    future-stored claimed length None =
        cond_both (nat_le 16 length) _ _ (λ state. HasStored state all) (λ t. tt) (λ f. tt)
    future-stored claimed length (Some table) = tt

    count-stored : (claimed : Claimed) (count : ℕ) → HasStored (checked_count env claimed count) all
    count-stored claimed count =
        cond_both (is_above_max (min count 65536) env.config.max) _ _ (λ state. HasStored state all) (λ t. tt)
        (λ f.
        cond_both (is_above_100 (min count 65536) (size_of (unpacked claimed.shape)) env.config.max) _ _
        (λ state. HasStored state all) (λ t. tt) (λ f. tt))

    unlocked-stored : (attempt : Attempt) (next : Then Reply) → HasStored (unlocked env attempt next) all
    unlocked-stored attempt (Table table) = tt
    unlocked-stored attempt (Answer reply) = tt

    want-stored : (growing : Growing) (root count : ℕ) → HasStored (want_or_busy env growing root count) all
    want-stored growing root count =
        cond_both (is_above_75 (min count 65536) (size_grown growing) env.config.max) _ _ (λ state. HasStored state all)
        (λ t. tt)
        (λ f. cond_both (nat_eq root growing.table) _ _ (λ state. HasStored state all) (λ t. tt) (λ f. tt))

    behind-stored : (attempt : Attempt) (answer : Option Reply) → HasStored (behind_attempt attempt answer) all
    behind-stored attempt None = tt
    behind-stored attempt (Some reply) = tt

    refused-stored : (once : Bool) (growing : Growing) (refusal : Refusal) (future : Option ℕ)
        → HasStored (refused_or_found once growing refusal future) all
    refused-stored once growing refusal None = tt
    refused-stored once growing refusal (Some table) = behind-stored growing.attempt (ended_attempt once table)

    unmade-stored : (attempt : Attempt) (answer : Option Reply) (unmake : UnmakeModel) (next : Next (Unit {0}))
        → HasStored (unmade attempt answer unmake next) all
    unmade-stored attempt answer unmake Go = tt
    unmade-stored attempt answer unmake (Done done) = behind-stored attempt answer

    attach-stored : (once : Bool) (growing : Growing) (slot shape found : ℕ)
        → HasStored (checked_attach env once growing slot shape found) all
    attach-stored once growing slot shape found =
        cond_both (found == 0) _ _ (λ state. HasStored state all)
        (λ t. behind-stored (has_attached growing.attempt) (ended_attempt once slot)) (λ f. tt)

    closed-stored : (ending : Ending) → HasStored (closed env ending).0 all
    closed-stored (endings.Bound kick) = tt
    closed-stored (endings.Answered node reply) = tt
    closed-stored (endings.Anew attempt) = tt

    -- of the making, up to the store of the shape
    no_run-stored : (h : Geometry) (exponent slot : ℕ) (nests : Bool) → StoredIn exponent (no_run h nests slot) all
    no_run-stored h exponent slot true = tt
    no_run-stored h exponent slot false = tt

    started-stored : (h : Geometry) (exponent slot : ℕ) (nests : Bool) (start : Start TakeRunModel (Option ℕ))
        → StoredIn exponent (run_started h nests slot start) all
    started-stored h exponent slot nests (starts.Running take) = tt
    started-stored h exponent slot nests (starts.Done None) = no_run-stored h exponent slot nests
    started-stored h exponent slot nests (starts.Done (Some page)) = tt

    taken-stored : (h : Geometry) (exponent slot : ℕ) (nests : Bool) (take : TakeRunModel) (next : Next (Option ℕ))
        → StoredIn exponent (run_taken h nests slot take next) all
    taken-stored h exponent slot nests take Go = tt
    taken-stored h exponent slot nests take (Done None) = no_run-stored h exponent slot nests
    taken-stored h exponent slot nests take (Done (Some page)) = tt

    top-stored : (exponent slot : ℕ) (take : TakeRunModel) (next : Next (Option ℕ))
        → StoredIn exponent (top_taken slot take next) all
    top-stored exponent slot take Go = tt
    top-stored exponent slot take (Done None) = tt
    top-stored exponent slot take (Done (Some page)) = tt

    abbrev MadeStored : Growing → ℕ → MakeModel → MakeAt × Next (Option (ℕ × ℕ)) → Type 0
    MadeStored growing size make r = HasStored (made growing size (record make { at = r.0 }) r.1) all

    slot-stored : (growing : Growing) (size : ℕ) (make : MakeModel) (slot found : ℕ)
        → MadeStored growing size make
        (slot_seen make.geometry make.exponent (may_nest make.exponent make.nested) slot found)
    slot-stored growing size make slot found =
        cond_both (found == 0) _ _ (MadeStored growing size make)
        (λ t.
        started-stored make.geometry make.exponent slot (may_nest make.exponent make.nested)
        (take_run_new make.geometry (made_pages make.exponent)))
        (λ f. cond_both (nat_lt (slot + 1) 8) _ _ (MadeStored growing size make) (λ t. tt) (λ f. tt))

  -- ---- an operation of the making

  -- a store of another word of the slot stores no shape
  other_word : (slot place value : ℕ) (did : Did) → did.op ≡ Store place value → place ≢ place_of g (Slot slot ShapeWord)
      → IsNoShapeStore g slot did
  other_word slot place value did is apart shape stores =
      apart (let same : Store place value ≡ Store (place_of g (Slot slot ShapeWord)) shape = sym is ∙ stores in cc)

  make-stored : (growing : Growing) (size : ℕ) (make : MakeModel) (state : MakeAt) (steps : List Did) (did : Did)
      → did.op ≡ make_plan_at make.geometry make.exponent make.seed state → StoredIn make.exponent state steps
      → MadeStored (steps ++ did ∷ []) growing size make (make_after_at make.geometry make.exponent make.nested state did.old)
  make-stored growing size make (makes.Slot slot) steps did is stored =
      slot-stored (steps ++ did ∷ []) growing size make slot did.old
  make-stored growing size make (makes.Taking slot take) steps did is stored =
      taken-stored (steps ++ did ∷ []) make.geometry make.exponent slot (may_nest make.exponent make.nested)
      (take_run_after take did.old).0 (take_run_after take did.old).1
  make-stored growing size make (makes.TakingTop slot take) steps did is stored =
      top-stored (steps ++ did ∷ []) make.exponent slot (take_run_after take did.old).0 (take_run_after take did.old).1
  make-stored growing size make (makes.SlotBack slot) steps did is stored = tt
  make-stored growing size make (makes.NextSerial slot nested page) steps did is stored = tt
  make-stored growing size make (makes.Shape slot nested page serial) steps did is stored =
      stores-now slot (made_shape make.exponent nested page) steps did is
  make-stored growing size make (makes.Seed slot nested page serial) steps did is stored =
      stores-more slot (made_shape make.exponent nested page) steps did
      (other_word slot _ _ did is (λ same. absurd (omega (arith, same)))) stored
  make-stored growing size make (makes.Future slot nested page serial) steps did is stored =
      stores-more slot (made_shape make.exponent nested page) steps did
      (other_word slot _ _ did is (λ same. absurd (omega (arith, same)))) stored
  make-stored growing size make (makes.Serial slot nested page serial) steps did is stored =
      stores-more slot (made_shape make.exponent nested page) steps did
      (other_word slot _ _ did is (λ same. absurd (omega (arith, same)))) stored

  -- ---- an operation of a bind

  pub bind-stored : (mix : ℕ → ℕ → ℕ → ℕ) (c port : ℕ) (once : Bool) (state : BindAt) (steps : List Did) (did : Did)
      → did.op ≡ plan_at env c state → HasStored state steps
      → HasStored (after_at mix env port once state did.old).0 (steps ++ did ∷ [])
  bind-stored mix c port once (at.Making growing size make) steps did is stored =
      make-stored growing size make make.at steps did is stored
  bind-stored mix c port once (at.Attaching growing slot shape) steps did is stored =
      attach-stored (steps ++ did ∷ []) once growing slot shape did.old
  bind-stored mix c port once (at.Filling new) steps did is stored =
      filled-stored (steps ++ did ∷ []) (new_node_after new did.old).0 (new_node_after new did.old).1
  bind-stored mix c port once (at.Locating attempt locate) steps did is stored =
      let r = locate_after mix port locate did.old in located-stored (steps ++ did ∷ []) port attempt r.0 r.1
  bind-stored mix c port once (at.Entering attempt table shape place grow) steps did is stored =
      let r = grow_after grow did.old in grown-stored (steps ++ did ∷ []) port attempt table shape place r.0 r.1
  bind-stored mix c port once (at.Probing attempt table shape probe) steps did is stored =
      let r = probe_after probe did.old in
      probed-stored (steps ++ did ∷ []) env.config.kind attempt table shape r.0 r.1
  bind-stored mix c port once (at.Replacing list relink) steps did is stored =
      replaced-stored (steps ++ did ∷ []) list (relink_after relink).0 (relink_after relink).1
  bind-stored mix c port once (at.Future claimed length) steps did is stored =
      future-stored (steps ++ did ∷ []) claimed length (slot_of did.old)
  bind-stored mix c port once (at.Count claimed) steps did is stored = count-stored (steps ++ did ∷ []) claimed did.old
  bind-stored mix c port once (at.Publish node table relink kick) steps did is stored =
      published-stored (steps ++ did ∷ []) node table kick (relink_after relink).0 (relink_after relink).1
  bind-stored mix c port once (at.Unlocking attempt table unlock next) steps did is stored =
      unlocked-stored (steps ++ did ∷ []) attempt next
  bind-stored mix c port once (at.GrowthCount growing root) steps did is stored =
      want-stored (steps ++ did ∷ []) growing root did.old
  bind-stored mix c port once (at.FutureAgain growing refusal) steps did is stored =
      refused-stored (steps ++ did ∷ []) once growing refusal (slot_of did.old)
  bind-stored mix c port once (at.Unmaking attempt unmake answer) steps did is stored =
      let r = unmake_after unmake did.old in unmade-stored (steps ++ did ∷ []) attempt answer r.0 r.1
  bind-stored mix c port once (at.Closing ending) steps did is stored = closed-stored (steps ++ did ∷ []) ending
  bind-stored mix c port once _ steps did is stored = tt
