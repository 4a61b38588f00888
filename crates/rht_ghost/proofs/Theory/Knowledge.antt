-- What a caller knows in each state: what that means of the words and the ghost, and that it has nothing more.
-- It speaks of words and ghosts on which the caller holds the right, or which nobody changes.
use Rattle.std.proofs.Common.{◌≡◌, ◌≢◌, ◌⊎◌, refl, ℕ, ◌+◌, ◌*◌, ◌/◌, ◌%◌, ◌<◌, ◌≤◌, List, [], ◌∷◌, length, Option, Some, None, Bool, true, false, arith}
use Rattle.std.specs.Prelude.{IfSome}
use Rattle.rht_words.specs.declared.env.Env.{Env}
use Rattle.rht_words.specs.Places.{Section, Slot, ShapeWord, SeedWord, FutureWord, SerialWord, LoadedSection, Node, NodeWord, ChainLink, KeyWord, OwnerWord, ListLink, IsBucketPlace}
use Rattle.rht_words.specs.Shapes.{unpacked, size_of}
use Rattle.rht_words.specs.Ports.{owner_of}
use Rattle.rht_words.specs.Links.{head_of}
use Rattle.rht_words.specs.Held as held
use Rattle.rht_words.proofs.Memory.{Memory}
use Rattle.rht_words.specs.Members.{In}
use Rattle.rht_words.specs.declared.machine.Start.TheVariants as starts
use Rattle.rht_nest.specs.Tables.{is_nested, table_pages, table_seed}
use Rattle.rht_nest.specs.Place.{PlaceModel, nested_place, entered, is_deep}
use Rattle.rht_ghost.proofs.Theory.Ghosts.{has_entries, Bucket, NodeHeld, Leaving, Middle, PageHeld, PageOf, SlotHeld, Live, Retiring, Retired, Back, slot_holder, Ghost, is_taken_by, IsSince, IsOver}
use Rattle.rht_ghost.proofs.Theory.Wholes.{AreRetired, chain_of, list_of, key_of, place_at, word_index, hash_in, home, pages_of, MovesNone, moves_none, IsFurther, Whole, IsAt, AreThereFrom, there_behind}
use Rattle.rht_ghost.proofs.Theory.Passed.{NoKey, Passed}
use Rattle.rht_ghost.proofs.Theory.Knowns.{knows_plain, Armed, KnownAim, NoAim, Onward, From, Beyond, KnownRehash, KnownPlace, Follows, Nears, Faces, InBucket, Bare, Aims, LeavesBehind, AtEntry, AtHome, AtNode, AtTail, Brings, Collected, CollectedTo, Copied, CopiedTo, LinkBehind, Differing, Differs, Empties, FirstLink, Found, HasBrought, HasKept, HasLoadedWord, HasMade, HasPages, HasTaken, InList, InSlot, IsAmong, IsCollected, IsCollectedTo, IsLinkBehind, IsLeading, IsLeadingTo, IsOtherOwner, IsOwnersNode, IsPromoting, Known, KnownBucket, KnownEntry, KnownList, KnownMaking, KnownNode, KnownSlot, KnownTable, KnownWork, Leads, LeadsTo, Listing, Locks, LocksTakenOut, MakesNothing, Matching, Member, Missed, NoWork, Nowhere, OnWay, Passes, Promotes, Replaces, Rooted, Shaped, Stands, StandsAt, StandsInList, Succeeds, TakenOut, TakesOut, Unlocked, Unlocks, Works, last_of, list_link, Asks, Compares, KnownGiving, Over, InRun, AtTop, AtLeaf, ClearsLeaf, ClearsTop, GivesBack, HasBack}
use Rattle.rht_ghost.proofs.Theory.Ways.{first_page, entries_in, IsNestedShape}

-- the caller does the work, and each table before the current one that has a slot is retired, but for the one in this slot
abbrev pub DoesWork : ℕ → Ghost → Option ℕ → Type 0
DoesWork c G slot = (G.worker ≡ Some c) × AreRetired G slot

pub since-later : (from : Option ℕ) (τ σ : ℕ) → τ ≤ σ → IsSince from τ → IsSince from σ
since-later None τ σ more since = since
since-later (Some low) τ σ more since = omega (arith, since, more)

-- in its section a caller may come to the tables from the one on that was current when it was opened; a call that has opened none comes to
-- none, unless its caller holds one open over its calls
abbrev pub ReadsFrom : Bool → Option ℕ → ℕ → Type 0
ReadsFrom false None current = Unit {0}
ReadsFrom true None current = ⊥
ReadsFrom _ (Some low) current = low ≤ current

pub ReadsFrom-later : (section : Bool) (from : Option ℕ) (current later : ℕ) → current ≤ later → ReadsFrom section from current
    → ReadsFrom section from later
ReadsFrom-later false None current later more is = tt
ReadsFrom-later true None current later more is = is
ReadsFrom-later _ (Some low) current later more is = omega (arith, is, more)

-- a section is open, or none is
abbrev pub IsOpenAs : Bool → Option ℕ → Type 0
IsOpenAs false None = Unit {0}
IsOpenAs true (Some low) = Unit {0}
IsOpenAs _ _ = ⊥

-- out of it there is none
pub outside-none : (from : Option ℕ) → IsOpenAs false from → from ≡ None
outside-none None is = refl
outside-none (Some low) is = absurd is

-- what is open is so in a call that hasn't opened it, and in one that has
pub reads-turned : (was now : Bool) (from : Option ℕ) (current : ℕ) → IsOpenAs true from → ReadsFrom was from current
    → ReadsFrom now from current
reads-turned was now None current is reads = absurd is
reads-turned false false (Some low) current is reads = reads
reads-turned false true (Some low) current is reads = reads
reads-turned true false (Some low) current is reads = reads
reads-turned true true (Some low) current is reads = reads

-- in it there is one
pub inside-some : (from : Option ℕ) (current : ℕ) → ReadsFrom true from current → (first : ℕ) × (from ≡ Some first)
inside-some None current reads = absurd reads
inside-some (Some low) current reads = (low, refl)

-- and it comes to the current one
pub since-current : (from : Option ℕ) (current : ℕ) → ReadsFrom true from current → IsSince from current
since-current None current reads = reads
since-current (Some low) current reads = reads

module _ (env : Env) (mix : ℕ → ℕ → ℕ → ℕ) where
  -- ---- what it means

  -- the bucket whose word has this place
  abbrev pub bucket_at : Ghost → ℕ → Bucket
  bucket_at G place = G.bucket (word_index env mix place)

  pub record HasNode (c : ℕ) (G : Ghost) (node : ℕ) : Type 0 where
    pub mine : G.node node ≡ NodeHeld c
    pub among : node < env.geometry.nodes

  pub record NodeMeans (c : ℕ) (M : Memory) (G : Ghost) (known : KnownNode) : Type 0 where
    pub has : HasNode c G known.node
    pub chain : IfSome known.chain (λ value. M (Node known.node ChainLink) ≡ value)
    pub key : IfSome known.key (λ value. M (Node known.node KeyWord) ≡ value)
    pub owner : IfSome known.owner (λ value. M (Node known.node OwnerWord) ≡ value)
    pub list : IfSome known.list (λ value. M (Node known.node ListLink) ≡ value)

  -- a table has this slot, to which the caller's section comes
  pub record IsMet (c : ℕ) (G : Ghost) (slot : ℕ) : Type 0 where
    pub at : IsAt G slot
    pub since : IsSince (G.from c) at.table

  -- and none of those before it binds the port
  pub record IsPassing (c : ℕ) (G : Ghost) (port slot : ℕ) : Type 0 where
    pub at : IsAt G slot
    pub since : IsSince (G.from c) at.table
    pub passed : Passed env mix G port at.table

  pub record IsShaped (c : ℕ) (G : Ghost) (port slot shape : ℕ) : Type 0 where
    pub passing : IsPassing c G port slot
    pub shape_is : (G.table passing.at.table).shape ≡ shape

  -- behind the entry with which the way to the bucket with this number begins is a page of entries, and the way stands at one of these
  pub record IsSecondEntry (G : Ghost) (number τ shape : ℕ) (place : PlaceModel) : Type 0 where
    pub page : ℕ
    pub of : G.page page ≡ PageOf τ
    pub part_is : (G.table τ).part page ≡ Middle (number % entries_in shape)
    pub place_is : entered (nested_place env.geometry shape number) page ≡ starts.Running place

  -- the entries on the way to the bucket with this number in a table of this shape: the first, or the second one
  abbrev pub IsWay : Ghost → ℕ → ℕ → ℕ → PlaceModel → Type 0
  IsWay G number τ shape place =
      (place ≡ nested_place env.geometry shape number) ⊎ IsSecondEntry G number τ shape place

  -- the table right behind this one has this slot
  pub record IsRightBehind (G : Ghost) (τ next : ℕ) : Type 0 where
    pub attached : τ + 1 < G.attached
    pub slot_is : (G.table (τ + 1)).slot ≡ next

  abbrev pub next_at : (G : Ghost) (τ next : ℕ) → AreThereFrom G τ → IsRightBehind G τ next → IsAt G next
  next_at G τ next on behind = record {
    table = τ + 1;
    attached = behind.attached;
    slot_is = behind.slot_is;
    on = there_behind G τ on;
  }

  -- the table is nested, so that the way to the bucket with this number leads over entries, at one of which it stands
  pub record IsWayIn (G : Ghost) (number τ : ℕ) (place : PlaceModel) : Type 0 where
    pub nested : is_nested (G.table τ).shape ≡ true
    pub way : IsWay G number τ (G.table τ).shape place

  -- the same of the port's bucket
  abbrev pub IsWayTo : Ghost → ℕ → ℕ → PlaceModel → Type 0
  IsWayTo G port τ place = IsWayIn G (hash_in env mix G port τ) τ place

  -- none of the tables before binds the port, and the table behind may be known
  pub record IsOnWay (c : ℕ) (G : Ghost) (port slot shape : ℕ) (place : PlaceModel) (early : Option ℕ) : Type 0 where
    pub shaped : IsShaped c G port slot shape
    pub to : IsWayTo G port shaped.passing.at.table place
    pub behind : IfSome early (IsRightBehind G shaped.passing.at.table)

  pub record IsAtHome (c : ℕ) (G : Ghost) (port slot : ℕ) (shape : Option ℕ) (place : ℕ) : Type 0 where
    pub passing : IsPassing c G port slot
    pub shape_is : IfSome shape (λ s. (G.table passing.at.table).shape ≡ s)
    pub bucket : IsBucketPlace env.geometry place
    pub here : home env mix G port passing.at.table ≡ Some (word_index env mix place)

  abbrev pub TableMeans : ℕ → Ghost → KnownTable → Type 0
  TableMeans c G Nowhere = Unit {0}
  TableMeans c G (InSlot slot) = IsMet c G slot
  TableMeans c G (Passes port slot) = IsPassing c G port slot
  TableMeans c G (Shaped port slot shape) = IsShaped c G port slot shape
  TableMeans c G (OnWay port slot shape place early) = IsOnWay c G port slot shape place early
  TableMeans c G (AtHome port slot shape place) = IsAtHome c G port slot shape place

  -- the caller has locked the bucket, in which it may be armed, and out of which an entry may be on its way; or neither is so
  pub record HasLock (c : ℕ) (G : Ghost) (place word : ℕ) : Type 0 where
    pub bucket : IsBucketPlace env.geometry place
    pub holder : (bucket_at G place).holder ≡ Some c
    pub plain : (bucket_at G place).plain ≡ word

  pub record HoldsLock (c : ℕ) (G : Ghost) (place word : ℕ) : Type 0 where
    pub bucket : IsBucketPlace env.geometry place
    pub holder : (bucket_at G place).holder ≡ Some c
    pub plain : (bucket_at G place).plain ≡ word
    pub unarmed : (bucket_at G place).armed ≡ None
    pub still : (bucket_at G place).out ≡ None

  pub has_lock : (c : ℕ) (G : Ghost) (place word : ℕ) → HoldsLock c G place word → HasLock c G place word
  has_lock c G place word lock = record { bucket = lock.bucket; holder = lock.holder; plain = lock.plain }

  -- The caller has found in the port's bucket in this table that the port isn't bound there, nor in an earlier table, and that no table is
  -- behind it.
  pub record ArmedFor (G : Ghost) (c port τ j : ℕ) : Type 0 where
    pub passed : Passed env mix G port τ
    pub here : home env mix G port τ ≡ Some j
    pub of : G.page (j / 64) ≡ PageOf τ
    pub armed : (G.bucket j).armed ≡ Some c
    pub unbound : G.bound port ≡ []

  pub record IsArmed (c : ℕ) (G : Ghost) (place word port : ℕ) : Type 0 where
    pub lock : HasLock c G place word
    pub table : ℕ
    pub armed : ArmedFor G c port table (word_index env mix place)

  pub record IsStanding (c : ℕ) (M : Memory) (G : Ghost) (place word key node : ℕ) (before : Option ℕ) :
      Type 0 where
    pub lock : HoldsLock c G place word
    pub stands : StandsAt M (bucket_at G place).nodes key node before

  -- and as many keys were loaded as there are nodes before it; once its own key is loaded, one more
  pub record IsReaching (c : ℕ) (M : Memory) (G : Ghost) (place word key node : ℕ) (before : Option ℕ) (count : ℕ) :
      Type 0 where
    pub standing : IsStanding c M G place word key node before
    pub counted : count ≡ length standing.stands.front

  pub record IsDiffering (c : ℕ) (M : Memory) (G : Ghost) (place word key node : ℕ) (before : Option ℕ) (count : ℕ) :
      Type 0 where
    pub standing : IsStanding c M G place word key node before
    pub differs : key_of M node ≢ key
    pub counted : count ≡ length standing.stands.front + 1

  pub record IsMissed (c : ℕ) (M : Memory) (G : Ghost) (place word key : ℕ) : Type 0 where
    pub lock : HoldsLock c G place word
    pub none : NoKey M key (bucket_at G place).nodes

  pub record IsFound (c : ℕ) (M : Memory) (G : Ghost) (place word key node : ℕ) (before : Option ℕ) :
      Type 0 where
    pub standing : IsStanding c M G place word key node before
    pub key_is : key_of M node ≡ key

  pub record IsMember (c : ℕ) (M : Memory) (G : Ghost) (place word key node : ℕ) : Type 0 where
    pub lock : HoldsLock c G place word
    pub there : In node (bucket_at G place).nodes
    pub key_is : key_of M node ≡ key

  -- the node is one of those to which the port is bound whose first one the bucket has, and whose owner is this
  pub record IsListing (c : ℕ) (M : Memory) (G : Ghost) (place word key node owner : ℕ) : Type 0 where
    pub first : ℕ
    pub behind : List ℕ
    pub member : IsMember c M G place word key first
    pub bound_to : G.bound key ≡ first ∷ behind
    pub listed : In node (first ∷ behind)
    pub owner_is : owner_of (M (Node first OwnerWord)) ≡ owner

  -- the caller's own node leads on as the first one does
  pub record IsReplacing (c : ℕ) (M : Memory) (G : Ghost) (first node : ℕ) : Type 0 where
    pub has : HasNode c G node
    pub alike : chain_of M node ≡ chain_of M first

  -- the caller's own node has the link that is behind a node with this owner in the list
  pub record IsCopied (c : ℕ) (M : Memory) (G : Ghost) (nodes : List ℕ) (node : ℕ) (before : Option ℕ) (own owner : ℕ) :
      Type 0 where
    pub is : IsOwnersNode M nodes node before owner
    pub has : HasNode c G own
    pub list_is : list_of M own ≡ list_link is.stands.among.rear

  -- and that is the first one, behind which is this link in the chain
  pub record IsCopiedTo (c : ℕ) (M : Memory) (G : Ghost) (first : ℕ) (behind : List ℕ) (own link owner : ℕ) : Type 0 where
    pub owner_is : owner_of (M (Node first OwnerWord)) ≡ owner
    pub has : HasNode c G own
    pub list_is : list_of M own ≡ list_link behind
    pub link_is : chain_of M first ≡ link

  -- or the own node leads on as the first one does
  pub record IsSucceeding (c : ℕ) (M : Memory) (G : Ghost) (first : ℕ) (behind : List ℕ) (own owner : ℕ) : Type 0 where
    pub owner_is : owner_of (M (Node first OwnerWord)) ≡ owner
    pub list_is : list_of M own ≡ list_link behind
    pub replaces : IsReplacing c M G first own

  abbrev pub ListMeans : ℕ → Memory → Ghost → ℕ → List ℕ → KnownList → Type 0
  ListMeans c M G first behind (AtNode node before owner) = StandsInList M (first ∷ behind) node before owner
  ListMeans c M G first behind (Differing node owner) = IsOtherOwner M (first ∷ behind) node owner
  ListMeans c M G first behind (Matching node before owner) = IsOwnersNode M (first ∷ behind) node before
      owner
  ListMeans c M G first behind (LinkBehind node before link owner) = IsLinkBehind M (first ∷ behind) node before
      link owner
  ListMeans c M G first behind (Copied node before own owner) = IsCopied c M G (first ∷ behind) node before own
      owner
  ListMeans c M G first behind (Leads second owner) = IsLeading M first behind second owner
  ListMeans c M G first behind (LeadsTo second link owner) = IsLeadingTo M first behind second link owner
  ListMeans c M G first behind (Promotes second owner) = IsPromoting M first behind second owner
  ListMeans c M G first behind (FirstLink link) = chain_of M first ≡ link
  ListMeans c M G first behind (Replaces node) = IsReplacing c M G first node
  ListMeans c M G first behind (CopiedTo own link owner) = IsCopiedTo c M G first behind own link owner
  ListMeans c M G first behind (Succeeds own owner) = IsSucceeding c M G first behind own owner
  ListMeans c M G first behind (Collected node owners) = IsCollected M (first ∷ behind) node owners
  ListMeans c M G first behind (CollectedTo node owners) = IsCollectedTo M (first ∷ behind) node owners

  -- the first node that has the key was found, and the key's port is bound to it and to these behind it
  pub record IsInList (c : ℕ) (M : Memory) (G : Ghost) (place word key first : ℕ) (before : Option ℕ)
      (known : KnownList) : Type 0 where
    pub found : IsFound c M G place word key first before
    pub behind : List ℕ
    pub bound_to : G.bound key ≡ first ∷ behind
    pub means : ListMeans c M G first behind known

  -- the caller has taken the node out of a list
  pub record HasTakenOut (c : ℕ) (G : Ghost) (node : ℕ) : Type 0 where
    pub among : node < env.geometry.nodes
    pub taken : is_taken_by c (G.node node) ≡ true

  pub record LocksAndTook (c : ℕ) (G : Ghost) (place word node : ℕ) : Type 0 where
    pub lock : HoldsLock c G place word
    pub took : HasTakenOut c G node

  abbrev pub BucketMeans : ℕ → Memory → Ghost → KnownBucket → Type 0
  BucketMeans c M G Unlocked = Unit {0}
  BucketMeans c M G (Unlocks place word) = HasLock c G place word
  BucketMeans c M G (Armed place word port) = IsArmed c G place word port
  BucketMeans c M G (Locks place word) = HoldsLock c G place word
  BucketMeans c M G (Stands place word key node before count) = IsReaching c M G place word key node before count
  BucketMeans c M G (Differs place word key node before count) = IsDiffering c M G place word key node before count
  BucketMeans c M G (Missed place word key) = IsMissed c M G place word key
  BucketMeans c M G (Found place word key node before) = IsFound c M G place word key node before
  BucketMeans c M G (Member place word key node) = IsMember c M G place word key node
  BucketMeans c M G (Listing place word key node owner) = IsListing c M G place word key node owner
  BucketMeans c M G (InList place word key first before known) = IsInList c M G place word key first
      before known
  BucketMeans c M G (TakenOut node) = HasTakenOut c G node
  BucketMeans c M G (LocksTakenOut place word node) = LocksAndTook c G place word node

  -- of the caller's own node, what is known of a list speaks of such words alone
  abbrev pub SpeaksOfList : (NodeWord → Type 0) → KnownList → Type 0
  SpeaksOfList Such (AtNode node before owner) = Unit {0}
  SpeaksOfList Such (Differing node owner) = Unit {0}
  SpeaksOfList Such (Matching node before owner) = Unit {0}
  SpeaksOfList Such (LinkBehind node before link owner) = Unit {0}
  SpeaksOfList Such (Copied node before own owner) = Such ListLink
  SpeaksOfList Such (Leads second owner) = Unit {0}
  SpeaksOfList Such (LeadsTo second link owner) = Unit {0}
  SpeaksOfList Such (Promotes second owner) = Unit {0}
  SpeaksOfList Such (FirstLink link) = Unit {0}
  SpeaksOfList Such (Replaces node) = Such ChainLink
  SpeaksOfList Such (CopiedTo own link owner) = Such ListLink
  SpeaksOfList Such (Succeeds own owner) = Such ChainLink × Such ListLink
  SpeaksOfList Such (Collected node owners) = Unit {0}
  SpeaksOfList Such (CollectedTo node owners) = Unit {0}

  abbrev pub SpeaksOf : (NodeWord → Type 0) → KnownBucket → Type 0
  SpeaksOf Such Unlocked = Unit {0}
  SpeaksOf Such (Unlocks place word) = Unit {0}
  SpeaksOf Such (Armed place word port) = Unit {0}
  SpeaksOf Such (Locks place word) = Unit {0}
  SpeaksOf Such (Stands place word key node before count) = Unit {0}
  SpeaksOf Such (Differs place word key node before count) = Unit {0}
  SpeaksOf Such (Missed place word key) = Unit {0}
  SpeaksOf Such (Found place word key node before) = Unit {0}
  SpeaksOf Such (Member place word key node) = Unit {0}
  SpeaksOf Such (Listing place word key node owner) = Unit {0}
  SpeaksOf Such (InList place word key first before known) = SpeaksOfList Such known
  SpeaksOf Such (TakenOut node) = Unit {0}
  SpeaksOf Such (LocksTakenOut place word node) = Unit {0}

  -- it speaks of none
  abbrev pub IsPlain : KnownBucket → Type 0
  IsPlain known = SpeaksOf (λ word. ⊥) known

  -- it speaks of such alone where all words are such, and where it speaks of none
  speaks_of_list : (Such : NodeWord → Type 0) → ((word : NodeWord) → Such word) → (known : KnownList) → SpeaksOfList Such known
  speaks_of_list Such all (Copied node before own owner) = all ListLink
  speaks_of_list Such all (Replaces node) = all ChainLink
  speaks_of_list Such all (CopiedTo own link owner) = all ListLink
  speaks_of_list Such all (Succeeds own owner) = (all ChainLink, all ListLink)
  speaks_of_list Such all _ = tt

  pub speaks_of : (Such : NodeWord → Type 0) → ((word : NodeWord) → Such word) → (known : KnownBucket) → SpeaksOf Such known
  speaks_of Such all (InList place word key first before known) = speaks_of_list Such all known
  speaks_of Such all _ = tt

  plain_list-speaks : (Such : NodeWord → Type 0) (known : KnownList) → SpeaksOfList (λ word. ⊥) known → SpeaksOfList Such known
  plain_list-speaks Such (Copied node before own owner) plain = absurd plain
  plain_list-speaks Such (Replaces node) plain = absurd plain
  plain_list-speaks Such (CopiedTo own link owner) plain = absurd plain
  plain_list-speaks Such (Succeeds own owner) plain = absurd plain.0
  plain_list-speaks Such _ plain = tt

  pub plain-speaks : (Such : NodeWord → Type 0) (known : KnownBucket) → IsPlain known → SpeaksOf Such known
  plain-speaks Such (InList place word key first before known) plain = plain_list-speaks Such known plain
  plain-speaks Such _ plain = tt

  -- ---- tables that callers make

  pub record HasSlot (c : ℕ) (G : Ghost) (slot : ℕ) : Type 0 where
    pub within : slot < 8
    pub mine : G.slot slot ≡ SlotHeld c

  pub record SlotMeans (c : ℕ) (M : Memory) (G : Ghost) (known : KnownSlot) : Type 0 where
    pub has : HasSlot c G known.slot
    pub shape : IfSome known.shape (λ value. M (Slot known.slot ShapeWord) ≡ value)
    pub seed : IfSome known.seed (λ value. M (Slot known.slot SeedWord) ≡ value)
    pub future : IfSome known.future (λ value. M (Slot known.slot FutureWord) ≡ value)
    pub serial : IfSome known.serial (λ value. M (Slot known.slot SerialWord) ≡ value)

  abbrev pub ArePagesMine : ℕ → Ghost → List ℕ → Type 0
  ArePagesMine c G pages = (p : ℕ) → In p pages → G.page p ≡ PageHeld c

  pub record IsTaken (c : ℕ) (M : Memory) (G : Ghost) (known : KnownSlot) (pages : List ℕ) : Type 0 where
    pub slot : SlotMeans c M G known
    pub mine : ArePagesMine c G pages

  -- a flat table is made with the pages of all its buckets, and a nested one with its top page
  pub record IsFlatMade (shape : ℕ) : Type 0 where
    pub flat : (unpacked shape).nest ≡ 0
    pub many : table_pages (unpacked shape) ≡ pages_of env mix shape

  pub record IsNestedMade (shape : ℕ) : Type 0 where
    pub shaped : IsNestedShape shape
    pub one : table_pages (unpacked shape) ≡ 1

  -- the slot's words are those of such a table that nothing follows, with its seed, and the caller has all these pages
  pub record IsMade (c : ℕ) (M : Memory) (G : Ghost) (slot shape : ℕ) : Type 0 where
    pub has : HasSlot c G slot
    pub shape_is : M (Slot slot ShapeWord) ≡ shape
    pub future_is : M (Slot slot FutureWord) ≡ 0
    pub seeded : M (Slot slot SeedWord) ≡ table_seed env.config.seed (M (Slot slot SerialWord))
    pub kind : IsFlatMade shape ⊎ IsNestedMade shape
    pub fits : first_page shape + table_pages (unpacked shape) ≤ env.geometry.pages
    pub run : (p : ℕ) → first_page shape ≤ p → p < first_page shape + table_pages (unpacked shape)
        → G.page p ≡ PageHeld c

  -- the caller gives back what was a table's: the slot and these pages are its own
  pub record IsBack (c : ℕ) (G : Ghost) (slot : ℕ) (pages : List ℕ) : Type 0 where
    pub within : slot < 8
    pub back : G.slot slot ≡ Back c
    pub mine : ArePagesMine c G pages

  abbrev pub MakingMeans : ℕ → Memory → Ghost → KnownMaking → Type 0
  MakingMeans c M G MakesNothing = Unit {0}
  MakingMeans c M G (HasPages pages) = ArePagesMine c G pages
  MakingMeans c M G (HasTaken slot pages) = IsTaken c M G slot pages
  MakingMeans c M G (HasMade slot shape) = IsMade c M G slot shape
  MakingMeans c M G (HasBack slot pages) = IsBack c G slot pages

  -- ---- the work

  abbrev pub IsRoot : Ghost → ℕ → Type 0
  IsRoot G root = (G.table G.current).slot ≡ root

  -- a bucket of which every entry has been moved
  pub record IsEmptied (b : Bucket) : Type 0 where
    pub nodes : b.nodes ≡ []
    pub out : b.out ≡ None
    pub armed : b.armed ≡ None

  -- a table is behind the current one, and these are their slots
  pub record IsFollowed (G : Ghost) (root future : ℕ) : Type 0 where
    pub root_is : IsRoot G root
    pub future_is : (G.table (G.current + 1)).slot ≡ future
    pub more : G.current + 1 < G.attached

  -- and the buckets of the current one with smaller numbers are emptied
  pub record IsEmptying (G : Ghost) (root : KnownRehash) (count : ℕ) : Type 0 where
    pub followed : IsFollowed G root.root root.future
    pub shape_is : (G.table G.current).shape ≡ root.shape
    pub within : count ≤ size_of (unpacked (G.table G.current).shape)
    pub each : (b j : ℕ) → b < count → (G.table G.current).place b ≡ Some j → IsEmptied (G.bucket j)

  -- a table that isn't before the current one, or one behind it, which isn't nested where its shape is known
  pub record IsFrom (G : Ghost) (slot : ℕ) : Type 0 where
    pub at : IsAt G slot
    pub from : G.current ≤ at.table

  pub record IsBeyond (G : Ghost) (slot : ℕ) (shape seed : Option ℕ) : Type 0 where
    pub at : IsAt G slot
    pub later : G.current < at.table
    pub shape_is : IfSome shape (λ s. (G.table at.table).shape ≡ s)
    pub flat : IfSome shape (λ s. is_nested s ≡ false)
    pub seed_is : IfSome seed (λ s. (G.table at.table).seed ≡ s)

  abbrev pub AimMeans : Ghost → KnownAim → Type 0
  AimMeans G NoAim = Unit {0}
  AimMeans G Onward = G.current + 1 < G.attached
  AimMeans G (From slot) = IsFrom G slot
  AimMeans G (Beyond slot shape seed) = IsBeyond G slot shape seed

  pub record IsRooted (G : Ghost) (root : ℕ) (aim : KnownAim) : Type 0 where
    pub root_is : IsRoot G root
    pub aim_is : AimMeans G aim

  -- a table was left behind by the current one, and isn't retired yet
  pub record IsLeftBehind (G : Ghost) (slot : ℕ) : Type 0 where
    pub table : ℕ
    pub live : G.slot slot ≡ Live table
    pub before : table + 1 ≡ G.current

  -- the bucket of the current table that is to be emptied next, to which the way leads over entries, since that table is nested; and the
  -- entry at which it stands
  pub record IsNearing (G : Ghost) (root : KnownRehash) (number : ℕ) (place : PlaceModel) : Type 0 where
    pub empties : IsEmptying G root number
    pub below : number < size_of (unpacked (G.table G.current).shape)
    pub to : IsWayIn G number G.current place

  -- the place of the bucket of the current table that is to be emptied next
  pub record IsFacing (G : Ghost) (root : KnownRehash) (number place : ℕ) : Type 0 where
    pub empties : IsEmptying G root number
    pub below : number < size_of (unpacked (G.table G.current).shape)
    pub bucket : IsBucketPlace env.geometry place
    pub here : (G.table G.current).place number ≡ Some (word_index env mix place)

  -- and it is locked
  pub record IsNext (c : ℕ) (G : Ghost) (root : KnownRehash) (at : KnownPlace) : Type 0 where
    pub empties : IsEmptying G root at.number
    pub below : at.number < size_of (unpacked (G.table G.current).shape)
    pub lock : HasLock c G at.place at.word
    pub here : (G.table G.current).place at.number ≡ Some (word_index env mix at.place)

  -- and nothing is on its way out of it
  pub record IsInBucket (c : ℕ) (G : Ghost) (root : KnownRehash) (at : KnownPlace) (aim : KnownAim) : Type 0 where
    pub next : IsNext c G root at
    pub out : (bucket_at G at.place).out ≡ None
    pub aim_is : AimMeans G aim

  -- it has no entry
  pub record IsBare (c : ℕ) (G : Ghost) (root : KnownRehash) (at : KnownPlace) : Type 0 where
    pub bucket : IsInBucket c G root at NoAim
    pub none : (bucket_at G at.place).nodes ≡ []

  -- an entry is in it
  pub record IsEntry (c : ℕ) (G : Ghost) (root : KnownRehash) (at : KnownPlace) (entry : KnownEntry) (aim : KnownAim) :
      Type 0 where
    pub bucket : IsInBucket c G root at aim
    pub among : IsAmong (bucket_at G at.place).nodes entry.node entry.before

  -- and is the last one there
  pub record IsTail (c : ℕ) (G : Ghost) (root : KnownRehash) (at : KnownPlace) (entry : KnownEntry) (aim : KnownAim) :
      Type 0 where
    pub stands : IsEntry c G root at entry aim
    pub last : stands.among.rear ≡ []

  -- the place to which an entry goes, in a table behind the current one
  pub record IsAim (M : Memory) (G : Ghost) (entry place : ℕ) : Type 0 where
    pub bucket : IsBucketPlace env.geometry place
    pub table : ℕ
    pub later : G.current < table
    pub attached : table < G.attached
    pub here : home env mix G (key_of M entry) table ≡ Some (word_index env mix place)

  pub record IsAiming (c : ℕ) (M : Memory) (G : Ghost) (root : KnownRehash) (at : KnownPlace) (entry : KnownEntry)
      (place : ℕ) : Type 0 where
    pub tail : IsTail c G root at entry NoAim
    pub aim : IsAim M G entry.node place

  -- and it is locked
  pub record IsTarget (c : ℕ) (M : Memory) (G : Ghost) (entry place word : ℕ) : Type 0 where
    pub lock : HasLock c G place word
    pub aim : IsAim M G entry place

  pub record IsBringing (c : ℕ) (M : Memory) (G : Ghost) (root : KnownRehash) (at : KnownPlace) (entry : KnownEntry)
      (place word : ℕ) : Type 0 where
    pub tail : IsTail c G root at entry NoAim
    pub target : IsTarget c M G entry.node place word

  -- the entry is on its way out of the bucket, and was behind this one
  pub record IsOutOf (c : ℕ) (G : Ghost) (root : KnownRehash) (at : KnownPlace) (entry : KnownEntry) : Type 0 where
    pub next : IsNext c G root at
    pub out : (bucket_at G at.place).out ≡ Some entry.node
    pub last : entry.before ≡ last_of (bucket_at G at.place).nodes

  pub record IsTakenOut (c : ℕ) (M : Memory) (G : Ghost) (root : KnownRehash) (at : KnownPlace) (entry : KnownEntry)
      (place word : ℕ) : Type 0 where
    pub out : IsOutOf c G root at entry
    pub leaving : G.node entry.node ≡ Leaving (word_index env mix at.place)
    pub target : IsTarget c M G entry.node place word
    pub chain : chain_of M entry.node ≡ head_of place word

  pub record IsBrought (c : ℕ) (G : Ghost) (root : KnownRehash) (at : KnownPlace) (entry : KnownEntry) : Type 0 where
    pub out : IsOutOf c G root at entry
    pub further : IsFurther env mix G entry.node

  -- A table is being retired, and of each of so many callers the section word is kept in its slot, where the caller's section comes to
  -- the table.
  pub record IsKeeping (M : Memory) (G : Ghost) (slot count : ℕ) : Type 0 where
    pub within : slot < 8
    pub table : ℕ
    pub retiring : G.slot slot ≡ Retiring table
    pub before : table < G.current
    pub kept : (d : ℕ) → d < count → IsSince (G.from d) table → M (Slot slot (LoadedSection d)) ≡ M (Section d)

  -- and this is the word of the next caller, where that one's section comes to it
  pub record IsLoaded (M : Memory) (G : Ghost) (slot count word : ℕ) : Type 0 where
    pub keeping : IsKeeping M G slot count
    pub loaded : IsSince (G.from count) keeping.table → word ≡ M (Section count)

  -- ---- tables that it gives back

  -- a retired table has this slot, and no open section of a caller before this one comes to it
  pub record IsAsking (G : Ghost) (slot count : ℕ) : Type 0 where
    pub table : ℕ
    pub retired : G.slot slot ≡ Retired table
    pub before : (d : ℕ) → d < count → IsSince (G.from d) table → ⊥

  -- and this word was kept for that one
  pub record IsComparing (M : Memory) (G : Ghost) (slot count kept : ℕ) : Type 0 where
    pub asking : IsAsking G slot count
    pub among : count < 16
    pub kept_is : M (Slot slot (LoadedSection count)) ≡ kept

  -- no open section comes to it at all
  pub record IsOverAt (G : Ghost) (slot : ℕ) : Type 0 where
    pub table : ℕ
    pub retired : G.slot slot ≡ Retired table
    pub over : IsOver G table

  -- it is flat, and has so many pages from this one on
  pub record IsRunOver (G : Ghost) (slot first pages : ℕ) : Type 0 where
    pub going : IsOverAt G slot
    pub flat : is_nested (G.table going.table).shape ≡ false
    pub first_is : first_page (G.table going.table).shape ≡ first
    pub pages_are : pages_of env mix (G.table going.table).shape ≡ pages

  -- these entries of a page lead to no page
  abbrev pub AreBare : Ghost → ℕ → ℕ → ℕ → Type 0
  AreBare G τ page count = (i : ℕ) → i < count → (G.table τ).entry (64 * page + i) ≡ None

  -- it is nested, and has this shape; and the entries of its top page before this one lead to no page
  pub record IsTakenDown (G : Ghost) (slot shape top : ℕ) : Type 0 where
    pub going : IsOverAt G slot
    pub shape_is : (G.table going.table).shape ≡ shape
    pub nested : is_nested shape ≡ true
    pub bare : AreBare G going.table (first_page shape) top

  -- this one leads to a page of entries, of which those before this one lead to no page
  pub record IsAtLeaf (G : Ghost) (slot shape top page leaf : ℕ) : Type 0 where
    pub down : IsTakenDown G slot shape top
    pub deep : is_deep shape ≡ true
    pub leads : (G.table down.going.table).entry (64 * first_page shape + top) ≡ Some page
    pub bare : AreBare G down.going.table page leaf

  -- and that one leads to this page
  pub record IsClearingLeaf (G : Ghost) (slot shape top page leaf below : ℕ) : Type 0 where
    pub at : IsAtLeaf G slot shape top page leaf
    pub leads_on : (G.table at.down.going.table).entry (64 * page + leaf) ≡ Some below

  -- the entry of the top page leads to a page of which no entry leads to a page, if it has entries
  pub record IsClearingTop (G : Ghost) (slot shape top page : ℕ) : Type 0 where
    pub down : IsTakenDown G slot shape top
    pub leads : (G.table down.going.table).entry (64 * first_page shape + top) ≡ Some page
    pub bare : has_entries ((G.table down.going.table).part page) ≡ true → AreBare G down.going.table page 64

  abbrev pub GivingMeans : Ghost → ℕ → KnownGiving → Type 0
  GivingMeans G slot Over = IsOverAt G slot
  GivingMeans G slot (InRun first pages) = IsRunOver G slot first pages
  GivingMeans G slot (AtTop shape top) = IsTakenDown G slot shape top
  GivingMeans G slot (AtLeaf shape top page leaf) = IsAtLeaf G slot shape top page leaf
  GivingMeans G slot (ClearsLeaf shape top page leaf below) = IsClearingLeaf G slot shape top page leaf below
  GivingMeans G slot (ClearsTop shape top page) = IsClearingTop G slot shape top page

  -- what is known while the caller does the work
  pub record IsWorking (c : ℕ) (G : Ghost) (slot : Option ℕ) (More : Type 0) : Type 0 where
    pub works : DoesWork c G slot
    pub more : More

  abbrev pub WorkMeans : ℕ → Memory → Ghost → KnownWork → Type 0
  WorkMeans c M G NoWork = Unit {0}
  WorkMeans c M G Works = IsWorking c G None (Unit {0})
  WorkMeans c M G (Rooted root aim) = IsWorking c G None (IsRooted G root aim)
  WorkMeans c M G (Follows root future) = IsWorking c G None (IsFollowed G root future)
  WorkMeans c M G (Empties root count) = IsWorking c G None (IsEmptying G root count)
  WorkMeans c M G (LeavesBehind slot) = IsWorking c G (Some slot) (IsLeftBehind G slot)
  WorkMeans c M G (Nears root number place) = IsWorking c G None (IsNearing G root number place)
  WorkMeans c M G (Faces root number place) = IsWorking c G None (IsFacing G root number place)
  WorkMeans c M G (InBucket root at aim) = IsWorking c G None (IsInBucket c G root at aim)
  WorkMeans c M G (Bare root at) = IsWorking c G None (IsBare c G root at)
  WorkMeans c M G (AtEntry root at entry aim) = IsWorking c G None (IsEntry c G root at entry aim)
  WorkMeans c M G (AtTail root at entry aim) = IsWorking c G None (IsTail c G root at entry aim)
  WorkMeans c M G (Aims root at entry place) = IsWorking c G None (IsAiming c M G root at entry place)
  WorkMeans c M G (Brings root at entry place word) = IsWorking c G None (IsBringing c M G root at entry place word)
  WorkMeans c M G (TakesOut root at entry place word) = IsWorking c G None (IsTakenOut c M G root at entry place word)
  WorkMeans c M G (HasBrought root at entry) = IsWorking c G None (IsBrought c G root at entry)
  WorkMeans c M G (HasKept slot count) = IsWorking c G (Some slot) (IsKeeping M G slot count)
  WorkMeans c M G (HasLoadedWord slot count word) = IsWorking c G (Some slot) (IsLoaded M G slot count word)
  WorkMeans c M G (Asks slot count) = IsWorking c G None (IsAsking G slot count)
  WorkMeans c M G (Compares slot count kept) = IsWorking c G None (IsComparing M G slot count kept)
  WorkMeans c M G (GivesBack slot giving) = IsWorking c G None (GivingMeans G slot giving)

  pub record Means (c : ℕ) (M : Memory) (G : Ghost) (known : Known) : Type 0 where
    pub node : IfSome known.node (NodeMeans c M G)
    pub table : TableMeans c G known.table
    pub bucket : BucketMeans c M G known.bucket
    pub making : MakingMeans c M G known.making
    pub work : WorkMeans c M G known.work

  -- ---- what it has, and nothing more

  -- The caller has no other node than this, has locked no other bucket than these, and has raised the count where this says so. It has no
  -- other slot and pages than these, does the work only where this says so, and is in its section exactly where this does.
  pub record HasOnly (c : ℕ) (G : Ghost) (node lock second : Option ℕ) (raised : Bool) (slot : Option ℕ)
      (pages : List ℕ) (worker section : Bool) : Type 0 where
    pub nodes : (n : ℕ) → G.node n ≡ NodeHeld c → node ≡ Some n
    pub locks : (j : ℕ) → (G.bucket j).holder ≡ Some c
        → (lock ≡ Some (place_at env mix j)) ⊎ (second ≡ Some (place_at env mix j))
    pub raising : G.raised c ≡ raised
    pub slots : (s : ℕ) → slot_holder (G.slot s) ≡ Some c → slot ≡ Some s
    pub pages_in : (p : ℕ) → G.page p ≡ PageHeld c → In p pages
    pub works : G.worker ≡ Some c → worker ≡ true
    pub reads : ReadsFrom section (G.from c) G.current

  abbrev pub Only : {A : Type 0} → ℕ → Ghost → held.Held A → Type 0
  Only c G h = HasOnly c G h.node h.lock h.second h.raised h.slot h.pages h.worker h.section

  -- so one that doesn't do the work has no entry on its way
  pub idle_moves_none : (M : Memory) (G : Ghost) → Whole env mix M G → (c : ℕ) {has lock second : Option ℕ}
      {raised : Bool} {slot : Option ℕ} {pages : List ℕ} {section : Bool}
      → HasOnly c G has lock second raised slot pages false section → MovesNone env mix G c
  idle_moves_none M G whole c only =
      moves_none env mix M G whole c (λ works. let both = only.works works in cc)

  -- ---- a caller that has this and no more, and knows that

  pub record Knowing {A : Type 0} (c : ℕ) (h : held.Held A) (known : Known) (M : Memory) (G : Ghost) :
      Type 0 where
    pub only : Only c G h
    pub means : Means c M G known

  -- what is known of a call that makes no table and doesn't do the work
  pub plainly : {A : Type 0} {c : ℕ} {h : held.Held A} {node : Option KnownNode} {table : KnownTable} {bucket : KnownBucket}
      {M : Memory} {G : Ghost}
      → Only c G h → IfSome node (NodeMeans c M G) → TableMeans c G table → BucketMeans c M G bucket
      → Knowing c h (knows_plain node table bucket) M G
  plainly only node table bucket =
      record { only = only; means = record { node = node; table = table; bucket = bucket; making = tt; work = tt } }
