-- What is known outlives a step of anybody else, and so does that there is nothing more.
use Rattle.std.proofs.Common.{◌≡◌, ℕ, ◌+◌, ◌<◌, ◌≤◌, List, Option, Some, None, Bool, sym, ◌∙◌, ap, subst, inl, inr, arith}
use Rattle.std.specs.Prelude.{IfSome}
use Rattle.rht_words.specs.declared.env.Env.{Env}
use Rattle.rht_nest.specs.Tables.{table_seed}
use Rattle.rht_words.specs.Places.{Slot, SlotWord, ShapeWord, SeedWord, FutureWord, SerialWord, IsSlotWord, KeyWord}
use Rattle.rht_words.specs.Shapes.{unpacked, size_of}
use Rattle.rht_words.specs.Held as held
use Rattle.rht_words.proofs.Memory.{Memory}
use Rattle.rht_words.specs.Members.{In}
use Rattle.rht_words.proofs.Members.{in-middle}
use Rattle.rht_nest.specs.Place.{PlaceModel}
use Rattle.rht_ghost.proofs.Theory.Ghosts.{Ghost, seat-used, slot_holder, has_table, index_at, table_of_slot}
use Rattle.rht_ghost.proofs.Theory.Wholes.{retired_stay, key_of, word_index, home, out-seated, Whole, IsAt, current-there}
use Rattle.rht_ghost.proofs.Theory.Passed.{place-table, IsSameTable, GrowsFrom, table_at-from, home-from, at-from}
use Rattle.rht_ghost.proofs.Theory.Knowns.{KnownAim, NoAim, Onward, From, Beyond, KnownRehash, KnownPlace, Follows, Nears, Faces, KnownEntry, InBucket, Bare, AtEntry, AtTail, Aims, Brings, Empties, LeavesBehind, HasBrought, HasKept, HasLoadedWord, Asks, Compares, GivesBack, HasBack, HasMade, HasPages, HasTaken, Known, KnownMaking, KnownWork, MakesNothing, NoWork, Rooted, TakesOut, Works, last_of}
use Rattle.rht_ghost.proofs.Theory.Knowledge.{AimMeans, IsWayIn, IsRooted, IsFollowed, IsNearing, IsFacing, IsLeftBehind, IsKeeping, IsLoaded, IsNext, IsInBucket, IsBare, IsAim, IsAiming, IsWorking, HasLock, HasOnly, ReadsFrom, ReadsFrom-later, HasSlot, IsBringing, IsBrought, IsEmptying, IsEntry, IsOutOf, IsRoot, IsTail, IsTakenOut, IsTarget, Knowing, MakingMeans, Means, TableMeans, WorkMeans, bucket_at}
use Rattle.rht_ghost.proofs.Theory.SectionFrames.{open-within}
use Rattle.rht_ghost.proofs.Theory.Reliance.{HoldingsStay, Rely, WordStays, WorkStays, members_used}
use Rattle.rht_ghost.proofs.Theory.WaysStay.{IsWayIn-from}
use Rattle.rht_ghost.proofs.Theory.GivingStays.{asking_stays, comparing_stays, GivingMeans-stay}
use Rattle.rht_ghost.proofs.Theory.KnowledgeStays.{BucketMeans-own, NodeMeans-stay, TableMeans-stay}

module _ (env : Env) (mix : ℕ → ℕ → ℕ → ℕ) where
  -- of a table that the caller makes: where its slots and pages stay
  module _ (c : ℕ) (M M' : Memory) (G G' : Ghost) (stay : HoldingsStay env mix c M G M' G') where
    HasSlot-stay : (slot : ℕ) → HasSlot env mix c G slot → HasSlot env mix c G' slot
    HasSlot-stay slot has = record { within = has.within; mine = stay.slots slot (ap slot_holder has.mine) ∙ has.mine }

    slot-word-stays : (slot : ℕ) (word : SlotWord) (known : Option ℕ) → HasSlot env mix c G slot → IsSlotWord word
        → IfSome known (λ value. M (Slot slot word) ≡ value) → IfSome known (λ value. M' (Slot slot word) ≡ value)
    slot-word-stays slot word None has within is = tt
    slot-word-stays slot word (Some value) has within is = stay.slot_words slot word has within ∙ is

    pub MakingMeans-stay : (known : KnownMaking) → MakingMeans env mix c M G known → MakingMeans env mix c M' G' known
    MakingMeans-stay MakesNothing means = tt
    MakingMeans-stay (HasPages pages) means = λ p i. stay.pages p (means p i)
    MakingMeans-stay (HasTaken known pages) means =
        let slot = known.slot in
        let has = means.slot.has in
        record {
          slot = record {
            has = HasSlot-stay slot has;
            shape = slot-word-stays slot ShapeWord known.shape has tt means.slot.shape;
            seed = slot-word-stays slot SeedWord known.seed has tt means.slot.seed;
            future = slot-word-stays slot FutureWord known.future has tt means.slot.future;
            serial = slot-word-stays slot SerialWord known.serial has tt means.slot.serial;
          };
          mine = λ p i. stay.pages p (means.mine p i);
        }
    MakingMeans-stay (HasMade slot shape) means = record {
      has = HasSlot-stay slot means.has;
      shape_is = stay.slot_words slot ShapeWord means.has tt ∙ means.shape_is;
      future_is = stay.slot_words slot FutureWord means.has tt ∙ means.future_is;
      seeded = stay.slot_words slot SeedWord means.has tt ∙ means.seeded
          ∙ ap (table_seed env.config.seed) (sym (stay.slot_words slot SerialWord means.has tt));
      kind = means.kind;
      fits = means.fits;
      run = λ p from below. stay.pages p (means.run p from below);
    }
    MakingMeans-stay (HasBack slot pages) means = record {
      within = means.within;
      back = stay.slots slot (ap slot_holder means.back) ∙ means.back;
      mine = λ p i. stay.pages p (means.mine p i);
    }

  -- what a caller that does the work needs of a step, its own or another's, so that it knows still what it knew
  pub record KeepsWork (c : ℕ) (M : Memory) (G : Ghost) (M' : Memory) (G' : Ghost) : Type 0 where
    pub low : ℕ
    pub current : low ≤ G.current
    pub grow : GrowsFrom env mix low G G'
    pub locks : (j : ℕ) → (G.bucket j).holder ≡ Some c → G'.bucket j ≡ G.bucket j
    pub keys : WordStays env mix KeyWord M G M'
    pub work : G.worker ≡ Some c → WorkStays env mix c M G M' G'

  -- of the work: where the current table stays, the caller's buckets, and the entry on its way
  module _ (c : ℕ) (M M' : Memory) (G G' : Ghost) (whole : Whole env mix M G) (keeps : KeepsWork c M G M' G')
      (works : G.worker ≡ Some c) where
    stays : WorkStays env mix c M G M' G'
    stays = keeps.work works

    -- what is said of the current table stays
    root-stays : IsSameTable (G.table G.current) (G'.table G'.current)
    root-stays = rw stays.current (keeps.grow.tables G.current whole.tables.current_in)

    root-place : (number j : ℕ) → (G.table G.current).place number ≡ Some j → (G'.table G'.current).place number ≡ Some j
    root-place number j is = rw stays.current (keeps.grow.places G.current number j whole.tables.current_in keeps.current is)

    within-stays : (number : ℕ) → number ≤ size_of (unpacked (G.table G.current).shape)
        → number ≤ size_of (unpacked (G'.table G'.current).shape)
    within-stays number = subst (λ w. number ≤ size_of (unpacked w)) (sym root-stays.shape)

    below-stays : (number : ℕ) → number < size_of (unpacked (G.table G.current).shape)
        → number < size_of (unpacked (G'.table G'.current).shape)
    below-stays number = subst (λ w. number < size_of (unpacked w)) (sym root-stays.shape)

    lock-stays : (place word : ℕ) → HasLock env mix c G place word → HasLock env mix c G' place word
    lock-stays place word holds =
        let same = keeps.locks (word_index env mix place) holds.holder in
        record {
          bucket = holds.bucket;
          holder = ap (λ b. b.holder) same ∙ holds.holder;
          plain = ap (λ b. b.plain) same ∙ holds.plain;
        }

    IsRoot-stay : (root : ℕ) → IsRoot env mix G root → IsRoot env mix G' root
    IsRoot-stay root is = root-stays.slot ∙ is

    IsFollowed-stay : (root future : ℕ) → IsFollowed env mix G root future → IsFollowed env mix G' root future
    IsFollowed-stay root future is = record {
      root_is = IsRoot-stay root is.root_is;
      future_is = ap (λ τ. (G'.table (τ + 1)).slot) stays.current
          ∙ (keeps.grow.tables (G.current + 1) is.more).slot ∙ is.future_is;
      more = omega (arith, is.more, stays.current, keeps.grow.attached);
    }

    IsEmptying-stay : (root : KnownRehash) (count : ℕ) → IsEmptying env mix G root count
        → IsEmptying env mix G' root count
    IsEmptying-stay root count is = record {
      followed = IsFollowed-stay root.root root.future is.followed;
      shape_is = root-stays.shape ∙ is.shape_is;
      within = within-stays count is.within;
      each = λ b j l at. elim (keeps.grow.placed G.current b j whole.tables.current_in keeps.current
          (ap (λ τ. (G'.table τ).place b) (sym stays.current) ∙ at)) [
            | inl was ↦
                let there = place-table env mix M G whole G.current b j (current-there env mix whole.tables)
                (omega (arith, l, is.within)) was in
                stays.emptied is.followed.more j there (is.each b j l was)
            | inr blank ↦ record {
              nodes = ap (λ b. b.nodes) blank;
              out = ap (λ b. b.out) blank;
              armed = ap (λ b. b.armed) blank;
            }
          ];
    }

    bucket-stays : (place word : ℕ) → HasLock env mix c G place word → bucket_at env mix G' place ≡ bucket_at env mix G place
    bucket-stays place word lock = keeps.locks (word_index env mix place) lock.holder

    known-shape_stays : (slot : ℕ) (shape : Option ℕ) (at : IsAt G slot)
        → IfSome shape (λ s. (G.table at.table).shape ≡ s) → IfSome shape (λ s. (G'.table at.table).shape ≡ s)
    known-shape_stays slot None at is = tt
    known-shape_stays slot (Some s) at is = (keeps.grow.tables at.table at.attached).shape ∙ is

    known-seed_stays : (slot : ℕ) (seed : Option ℕ) (at : IsAt G slot)
        → IfSome seed (λ s. (G.table at.table).seed ≡ s) → IfSome seed (λ s. (G'.table at.table).seed ≡ s)
    known-seed_stays slot None at is = tt
    known-seed_stays slot (Some s) at is = (keeps.grow.tables at.table at.attached).seed ∙ is

    AimMeans-stay : (aim : KnownAim) → AimMeans env mix G aim → AimMeans env mix G' aim
    AimMeans-stay NoAim is = tt
    AimMeans-stay Onward is = omega (arith, is, stays.current, keeps.grow.attached)
    AimMeans-stay (From slot) is = record {
      at = at-from env mix keeps.low G G' keeps.grow slot is.at (let low = keeps.current in omega (arith, low, is.from));
      from = omega (arith, is.from, stays.current);
    }
    AimMeans-stay (Beyond slot shape seed) is = record {
      at = at-from env mix keeps.low G G' keeps.grow slot is.at (let low = keeps.current in omega (arith, low, is.later));
      later = omega (arith, is.later, stays.current);
      shape_is = known-shape_stays slot shape is.at is.shape_is;
      flat = is.flat;
      seed_is = known-seed_stays slot seed is.at is.seed_is;
    }

    IsRooted-stay : (root : ℕ) (aim : KnownAim) → IsRooted env mix G root aim → IsRooted env mix G' root aim
    IsRooted-stay root aim is =
        record { root_is = IsRoot-stay root is.root_is; aim_is = AimMeans-stay aim is.aim_is }

    IsLeftBehind-stay : (slot : ℕ) → IsLeftBehind env mix G slot → IsLeftBehind env mix G' slot
    IsLeftBehind-stay slot is = record {
      table = is.table;
      live = stays.left slot (ap has_table is.live)
          (let index : index_at G slot ≡ is.table = ap table_of_slot is.live in omega (arith, index, is.before)) ∙ is.live;
      before = omega (arith, is.before, stays.current);
    }

    -- so do the words that it has kept, and the one that it has loaded
    IsKeeping-stay : (slot count : ℕ) → IsKeeping env mix M G slot count → IsKeeping env mix M' G' slot count
    IsKeeping-stay slot count is = record {
      within = is.within;
      table = is.table;
      retiring = stays.left slot (ap has_table is.retiring)
          (let index : index_at G slot ≡ is.table = ap table_of_slot is.retiring in omega (arith, index, is.before)) ∙ is.retiring;
      before = omega (arith, is.before, stays.current);
      kept = λ d l since.
          let was = stays.sections d is.table is.before since in
          stays.kept slot d is.within (open-within env mix M G whole.sections d is.table was.0) ∙ is.kept d l was.0
          ∙ sym was.1;
    }

    IsLoaded-stay : (slot count word : ℕ) → IsLoaded env mix M G slot count word → IsLoaded env mix M' G' slot count word
    unfolding IsKeeping-stay
    IsLoaded-stay slot count word is = record {
      keeping = IsKeeping-stay slot count is.keeping;
      loaded = λ since.
          let was = stays.sections count is.keeping.table is.keeping.before since in
          is.loaded was.0 ∙ sym was.1;
    }

    IsNearing-stay : (root : KnownRehash) (number : ℕ) (place : PlaceModel) → IsNearing env mix G root number place
        → IsNearing env mix G' root number place
    IsNearing-stay root number place is = record {
      empties = IsEmptying-stay root number is.empties;
      below = below-stays number is.below;
      to = subst (λ τ. IsWayIn env mix G' number τ place) (sym stays.current)
          (IsWayIn-from env mix keeps.low G G' keeps.grow number G.current place whole.tables.current_in keeps.current is.to);
    }

    IsFacing-stay : (root : KnownRehash) (number place : ℕ) → IsFacing env mix G root number place
        → IsFacing env mix G' root number place
    IsFacing-stay root number place is = record {
      empties = IsEmptying-stay root number is.empties;
      below = below-stays number is.below;
      bucket = is.bucket;
      here = root-place number (word_index env mix place) is.here;
    }

    IsNext-stay : (root : KnownRehash) (at : KnownPlace) → IsNext env mix c G root at → IsNext env mix c G' root at
    IsNext-stay root at is = record {
      empties = IsEmptying-stay root at.number is.empties;
      below = below-stays at.number is.below;
      lock = lock-stays at.place at.word is.lock;
      here = root-place at.number (word_index env mix at.place) is.here;
    }

    IsInBucket-stay : (root : KnownRehash) (at : KnownPlace) (aim : KnownAim) → IsInBucket env mix c G root at aim
        → IsInBucket env mix c G' root at aim
    IsInBucket-stay root at aim is = record {
      next = IsNext-stay root at is.next;
      out = ap (λ b. b.out) (bucket-stays at.place at.word is.next.lock) ∙ is.out;
      aim_is = AimMeans-stay aim is.aim_is;
    }

    IsBare-stay : (root : KnownRehash) (at : KnownPlace) → IsBare env mix c G root at → IsBare env mix c G' root at
    IsBare-stay root at is = record {
      bucket = IsInBucket-stay root at NoAim is.bucket;
      none = ap (λ b. b.nodes) (bucket-stays at.place at.word is.bucket.next.lock) ∙ is.none;
    }

    IsEntry-stay : (root : KnownRehash) (at : KnownPlace) (entry : KnownEntry) (aim : KnownAim)
        → IsEntry env mix c G root at entry aim → IsEntry env mix c G' root at entry aim
    IsEntry-stay root at entry aim is = record {
      bucket = IsInBucket-stay root at aim is.bucket;
      among = record {
        front = is.among.front;
        rear = is.among.rear;
        split = ap (λ b. b.nodes) (bucket-stays at.place at.word is.bucket.next.lock) ∙ is.among.split;
        last = is.among.last;
      };
    }

    IsTail-stay : (root : KnownRehash) (at : KnownPlace) (entry : KnownEntry) (aim : KnownAim)
        → IsTail env mix c G root at entry aim → IsTail env mix c G' root at entry aim
    unfolding IsEntry-stay
    IsTail-stay root at entry aim is =
        record { stands = IsEntry-stay root at entry aim is.stands; last = is.last }

    IsAim-stay : (entry place : ℕ) → key_of M' entry ≡ key_of M entry → IsAim env mix M G entry place
        → IsAim env mix M' G' entry place
    IsAim-stay entry place key is = record {
      bucket = is.bucket;
      table = is.table;
      later = omega (arith, is.later, stays.current);
      attached = omega (arith, is.attached, keeps.grow.attached);
      here = ap (λ k. home env mix G' k is.table) key
          ∙ home-from env mix keeps.low G G' keeps.grow (key_of M entry) is.table (word_index env mix place) is.attached
          (let low = keeps.current in omega (arith, low, is.later)) is.here;
    }

    IsTarget-stay : (entry place word : ℕ) → key_of M' entry ≡ key_of M entry → IsTarget env mix c M G entry place word
        → IsTarget env mix c M' G' entry place word
    IsTarget-stay entry place word key is =
        record { lock = lock-stays place word is.lock; aim = IsAim-stay entry place key is.aim }

    tail-key : (root : KnownRehash) (at : KnownPlace) (entry : KnownEntry) → IsTail env mix c G root at entry NoAim
        → key_of M' entry.node ≡ key_of M entry.node
    tail-key root at entry is =
        let among = is.stands.among in
        let j = word_index env mix at.place in
        let there : In entry.node (G.bucket j).nodes =
        rw among.split (in-middle entry.node among.front among.rear) in
        let used = (members_used env mix M G whole).member j entry.node there in
        keeps.keys entry.node used.0 used.1

    IsAiming-stay : (root : KnownRehash) (at : KnownPlace) (entry : KnownEntry) (place : ℕ)
        → IsAiming env mix c M G root at entry place → IsAiming env mix c M' G' root at entry place
    IsAiming-stay root at entry place is = record {
      tail = IsTail-stay root at entry NoAim is.tail;
      aim = IsAim-stay entry.node place (tail-key root at entry is.tail) is.aim;
    }

    IsBringing-stay : (root : KnownRehash) (at : KnownPlace) (entry : KnownEntry) (place word : ℕ)
        → IsBringing env mix c M G root at entry place word → IsBringing env mix c M' G' root at entry place word
    IsBringing-stay root at entry place word is = record {
      tail = IsTail-stay root at entry NoAim is.tail;
      target = IsTarget-stay entry.node place word (tail-key root at entry is.tail) is.target;
    }

    IsOutOf-stay : (root : KnownRehash) (at : KnownPlace) (entry : KnownEntry) → IsOutOf env mix c G root at entry
        → IsOutOf env mix c G' root at entry
    IsOutOf-stay root at entry is =
        let same = bucket-stays at.place at.word is.next.lock in
        record {
          next = IsNext-stay root at is.next;
          out = ap (λ b. b.out) same ∙ is.out;
          last = is.last ∙ sym (ap (λ b. last_of b.nodes) same);
        }

    out-key : (root : KnownRehash) (at : KnownPlace) (entry : KnownEntry) → IsOutOf env mix c G root at entry
        → key_of M' entry.node ≡ key_of M entry.node
    out-key root at entry is =
        let j = word_index env mix at.place in
        let out = whole.moving.out j entry.node is.out in
        let seat = out-seated env mix M G j entry.node out in
        keeps.keys entry.node out.among (seat-used (G.node entry.node) seat.0 seat.1)

    IsTakenOut-stay : (root : KnownRehash) (at : KnownPlace) (entry : KnownEntry) (place word : ℕ)
        → IsTakenOut env mix c M G root at entry place word → IsTakenOut env mix c M' G' root at entry place word
    IsTakenOut-stay root at entry place word is =
        let j = word_index env mix at.place in
        record {
          out = IsOutOf-stay root at entry is.out;
          leaving = stays.entries j entry.node is.out.out ∙ is.leaving;
          target = IsTarget-stay entry.node place word (out-key root at entry is.out) is.target;
          chain = stays.chains entry.node j is.leaving ∙ is.chain;
        }

    IsBrought-stay : (root : KnownRehash) (at : KnownPlace) (entry : KnownEntry) → IsBrought env mix c G root at entry
        → IsBrought env mix c G' root at entry
    IsBrought-stay root at entry is =
        let bucket = is.further.bucket in
        record {
          out = IsOutOf-stay root at entry is.out;
          further = record {
            bucket = bucket;
            first = stays.entries (word_index env mix at.place) entry.node is.out.out ∙ is.further.first;
            later = omega (
              arith,
              is.further.later,
              stays.current,
              table_at-from env mix keeps.low G G' keeps.grow bucket (let low = keeps.current in omega (arith, low, is.further.later)),
            );
          };
        }

  -- whatever it is
  module _ (c : ℕ) (M M' : Memory) (G G' : Ghost) (whole : Whole env mix M G) (keeps : KeepsWork c M G M' G') where
    still-working : {slot : Option ℕ} {More More' : Type 0} → IsWorking env mix c G slot More
        → (G.worker ≡ Some c → More → More') → IsWorking env mix c G' slot More'
    still-working {slot} means go =
        let works = means.works.0 in
        let stays = keeps.work works in
        record {
          works = (
            stays.worker,
            retired_stay G G' slot stays.current
                (λ s τ is l. keeps.grow.live s τ is (omega (arith, l, whole.tables.current_in))) means.works.1,
          );
          more = go works means.more;
        }

    pub WorkMeans-stay : (known : KnownWork) → WorkMeans env mix c M G known → WorkMeans env mix c M' G' known
    WorkMeans-stay NoWork means = tt
    WorkMeans-stay Works means = still-working means (λ works more. tt)
    WorkMeans-stay (Rooted root aim) means =
        still-working means (λ works. IsRooted-stay c M M' G G' whole keeps works root aim)
    WorkMeans-stay (Follows root future) means =
        still-working means (λ works. IsFollowed-stay c M M' G G' whole keeps works root future)
    WorkMeans-stay (Empties root count) means =
        still-working means (λ works. IsEmptying-stay c M M' G G' whole keeps works root count)
    WorkMeans-stay (LeavesBehind slot) means =
        still-working means (λ works. IsLeftBehind-stay c M M' G G' whole keeps works slot)
    WorkMeans-stay (Nears root number place) means =
        still-working means (λ works. IsNearing-stay c M M' G G' whole keeps works root number place)
    WorkMeans-stay (Faces root number place) means =
        still-working means (λ works. IsFacing-stay c M M' G G' whole keeps works root number place)
    WorkMeans-stay (InBucket root at aim) means =
        still-working means (λ works. IsInBucket-stay c M M' G G' whole keeps works root at aim)
    WorkMeans-stay (Bare root at) means =
        still-working means (λ works. IsBare-stay c M M' G G' whole keeps works root at)
    WorkMeans-stay (AtEntry root at entry aim) means =
        still-working means (λ works. IsEntry-stay c M M' G G' whole keeps works root at entry aim)
    WorkMeans-stay (AtTail root at entry aim) means =
        still-working means (λ works. IsTail-stay c M M' G G' whole keeps works root at entry aim)
    WorkMeans-stay (Aims root at entry place) means =
        still-working means (λ works. IsAiming-stay c M M' G G' whole keeps works root at entry place)
    WorkMeans-stay (Brings root at entry place word) means =
        still-working means (λ works. IsBringing-stay c M M' G G' whole keeps works root at entry place word)
    WorkMeans-stay (TakesOut root at entry place word) means =
        still-working means (λ works. IsTakenOut-stay c M M' G G' whole keeps works root at entry place word)
    WorkMeans-stay (HasBrought root at entry) means =
        still-working means (λ works. IsBrought-stay c M M' G G' whole keeps works root at entry)
    WorkMeans-stay (HasKept slot count) means =
        still-working means (λ works. IsKeeping-stay c M M' G G' whole keeps works slot count)
    WorkMeans-stay (HasLoadedWord slot count word) means =
        still-working means (λ works. IsLoaded-stay c M M' G G' whole keeps works slot count word)
    WorkMeans-stay (Asks slot count) means =
        still-working means (λ works. asking_stays env mix c M M' G G' whole (keeps.work works) slot count)
    WorkMeans-stay (Compares slot count kept) means =
        still-working means (λ works. comparing_stays env mix c M M' G G' whole (keeps.work works) slot count kept)
    WorkMeans-stay (GivesBack slot giving) means =
        still-working means (λ works. GivingMeans-stay env mix c M M' G G' whole (keeps.work works) slot giving)

  -- what is known outlives a step of anybody else, and so does that there is nothing more
  module _ (c : ℕ) (M M' : Memory) (G G' : Ghost) (whole : Whole env mix M G) (rely : Rely env mix c M G M' G') where
    pub Means-rely : (known : Known) → TableMeans env mix c G' known.table → Means env mix c M G known → Means env mix c M' G' known
    Means-rely known table means = record {
      node = NodeMeans-stay env mix c M M' G G' rely.nodes rely.words known.node means.node;
      table = table;
      bucket = BucketMeans-own env mix c M M' G G' (members_used env mix M G whole) rely.locks rely.lists rely.chains rely.keys
          rely.owners rely.taken rely.tables rely.unbound known.bucket
          (λ word all node has. (record { mine = rely.nodes node has; among = has.among }, rely.words node has word)) means.bucket;
      making = MakingMeans-stay c M M' G G' rely.holdings known.making means.making;
      work = WorkMeans-stay c M M' G G' whole
          (record {
            low = rely.tables.low;
            current = rely.tables.current;
            grow = rely.tables.grow;
            locks = rely.locks;
            keys = rely.keys;
            work = rely.work;
          }) known.work
          means.work;
    }

    pub Only-rely : (has lock second : Option ℕ) (raised : Bool) (slot : Option ℕ) (pages : List ℕ)
        (worker was now : Bool) → ReadsFrom now (G'.from c) G'.current
        → HasOnly env mix c G has lock second raised slot pages worker was
        → HasOnly env mix c G' has lock second raised slot pages worker now
    Only-rely has lock second raised slot pages worker was now reads only = record {
      nodes = λ n held. only.nodes n (rely.no_node n held);
      locks = λ j holds. only.locks j (rely.no_lock j holds);
      raising = rely.raised ∙ only.raising;
      slots = λ s held. only.slots s (rely.holdings.no_slot s held);
      pages_in = λ p held. only.pages_in p (rely.holdings.no_page p held);
      works = λ works. only.works (rely.no_work works);
      reads = reads;
    }

  -- so all that it knows does, where it has its section open, or not, as before
  pub Knowing-rely : {A : Type 0} → (c : ℕ) (M M' : Memory) (G G' : Ghost) (h : held.Held A)
      (known : Known) → Whole env mix M G → G'.from c ≡ G.from c
      → Rely env mix c M G M' G' → Knowing env mix c h known M G → Knowing env mix c h known M' G'
  Knowing-rely c M M' G G' h known whole from rely knows = record {
    only = Only-rely c M M' G G' whole rely h.node h.lock h.second h.raised h.slot h.pages h.worker h.section h.section
        (subst (λ f. ReadsFrom h.section f G'.current) (sym from)
        (ReadsFrom-later h.section (G.from c) G.current G'.current rely.tables.grow.current knows.only.reads)) knows.only;
    means = Means-rely c M M' G G' whole rely known (TableMeans-stay env mix c M M' G G' from rely.tables known.table knows.means.table)
        knows.means;
  }
