-- What may be known by a caller, of its node, of the way to a bucket, of a bucket that it has locked, of a table that it makes and of the work;
-- and what is said of rows of nodes.
use Rattle.std.proofs.Common.{◌≡◌, ◌≢◌, ℕ, List, [], ◌∷◌, ◌++◌, map, Option, Some, None}
use Rattle.rht_words.specs.Places.{Node, OwnerWord}
use Rattle.rht_words.specs.Ports.{owner_of}
use Rattle.rht_words.specs.Links.{link_of}
use Rattle.rht_words.proofs.Memory.{Memory}
use Rattle.rht_nest.specs.Place.{PlaceModel}
use Rattle.rht_ghost.proofs.Theory.Wholes.{chain_of}
use Rattle.rht_ghost.proofs.Theory.Passed.{NoKey}
use Rattle.rht_chain.specs.declared.locked.Then.{Then}
use Rattle.rht_chain.specs.declared.locked.Then.TheVariants.{Table, Answer}
use Rattle.rht_model.specs.declared.history.Reply.{Reply}

-- ---- what may be known

-- a node that the caller has, and those of its words that are known
pub record KnownNode : Type 0 where
  pub node : ℕ
  pub chain : Option ℕ
  pub key : Option ℕ
  pub owner : Option ℕ
  pub list : Option ℕ

-- Of the way to a port's bucket: nothing, or that none of the tables before the one in this slot binds the port; the table's
-- shape; that the way to the bucket leads over entries, at which of them it stands, and which table is behind, where one is known to be; and at
-- which place the port's bucket is, whether the shape is known or not.
-- Of a table, for whatever port: which slot it has.
pub data KnownTable : Type 0 where
  Nowhere : KnownTable
  InSlot : ℕ → KnownTable
  Passes : ℕ → ℕ → KnownTable
  Shaped : ℕ → ℕ → ℕ → KnownTable
  OnWay : ℕ → ℕ → ℕ → PlaceModel → Option ℕ → KnownTable
  AtHome : ℕ → ℕ → Option ℕ → ℕ → KnownTable

-- Of the list of a port whose first node was found. It stands at a node, behind another one or none, and no owner before it is
-- this one; nor is the node's; or the node's is, and then which link is behind it, and that the caller's own node has that link. The
-- first node has the owner, and which one is second; then which link is behind the first one in the chain; and that the second one leads
-- on as the first one does. Which link is behind the first one; and that the caller's own node leads on as that does. The same where the
-- first one has this owner, and the own node has the link behind it in the list: before its link in the chain is known, then which that
-- is, and that the own node leads on so. The owners of the nodes before this one, and those up to this one.
pub data KnownList : Type 0 where
  AtNode : ℕ → Option ℕ → ℕ → KnownList
  Differing : ℕ → ℕ → KnownList
  Matching : ℕ → Option ℕ → ℕ → KnownList
  LinkBehind : ℕ → Option ℕ → ℕ → ℕ → KnownList
  Copied : ℕ → Option ℕ → ℕ → ℕ → KnownList
  Leads : Option ℕ → ℕ → KnownList
  LeadsTo : Option ℕ → ℕ → ℕ → KnownList
  Promotes : ℕ → ℕ → KnownList
  FirstLink : ℕ → KnownList
  Replaces : ℕ → KnownList
  CopiedTo : ℕ → ℕ → ℕ → KnownList
  Succeeds : ℕ → ℕ → KnownList
  Collected : ℕ → List ℕ → KnownList
  CollectedTo : ℕ → List ℕ → KnownList

-- Of a bucket that it has locked, whose word was this before: nothing more, not even whether a bind is armed there; that none is; that the
-- caller is armed there for this port; at which node of it a walk for a key stands, before or
-- behind the load of the node's key, and how many keys it has loaded; that none of its nodes has the key; its first node that
-- has it; a node that has it; or one of
-- the nodes to which the key's port is bound, with the owner of the first of them; or what is known of the list of that port. A node that the caller has taken out, with or
-- without a bucket locked. Beside the node at which a walk stands is the one before it.
pub data KnownBucket : Type 0 where
  Unlocked : KnownBucket
  Unlocks : ℕ → ℕ → KnownBucket
  Armed : ℕ → ℕ → ℕ → KnownBucket
  Locks : ℕ → ℕ → KnownBucket
  Stands : ℕ → ℕ → ℕ → ℕ → Option ℕ → ℕ → KnownBucket
  Differs : ℕ → ℕ → ℕ → ℕ → Option ℕ → ℕ → KnownBucket
  Missed : ℕ → ℕ → ℕ → KnownBucket
  Found : ℕ → ℕ → ℕ → ℕ → Option ℕ → KnownBucket
  Member : ℕ → ℕ → ℕ → ℕ → KnownBucket
  Listing : ℕ → ℕ → ℕ → ℕ → ℕ → KnownBucket
  InList : ℕ → ℕ → ℕ → ℕ → Option ℕ → KnownList → KnownBucket
  TakenOut : ℕ → KnownBucket
  LocksTakenOut : ℕ → ℕ → ℕ → KnownBucket

-- a slot that the caller has, and those of its words that are known
pub record KnownSlot : Type 0 where
  pub slot : ℕ
  pub shape : Option ℕ
  pub seed : Option ℕ
  pub future : Option ℕ
  pub serial : Option ℕ

-- Of a table that the caller makes: nothing; pages that it has taken without a slot; the slot that it has taken and its pages; or the slot, with the shape of a table that can be
-- attached. Of one that it gives back: the slot, and the pages that it has still.
pub data KnownMaking : Type 0 where
  MakesNothing : KnownMaking
  HasPages : List ℕ → KnownMaking
  HasTaken : KnownSlot → List ℕ → KnownMaking
  HasMade : ℕ → ℕ → KnownMaking
  HasBack : ℕ → List ℕ → KnownMaking

-- Of the table to which the work brings entries: nothing; that there is one behind the current one; the slot of one that isn't
-- before the current one; or that of one behind it, and its shape and seed, where they are known.
pub data KnownAim : Type 0 where
  NoAim : KnownAim
  Onward : KnownAim
  From : ℕ → KnownAim
  Beyond : ℕ → Option ℕ → Option ℕ → KnownAim

-- a table whose entries are moved to those behind it: its slot, that of the next table, and its shape
pub record KnownRehash : Type 0 where
  pub root : ℕ
  pub future : ℕ
  pub shape : ℕ

-- the bucket of the current table that the work has locked: its number there, the place of its word, and what that was before
pub record KnownPlace : Type 0 where
  pub number : ℕ
  pub place : ℕ
  pub word : ℕ

-- an entry, and the one before it
pub record KnownEntry : Type 0 where
  pub node : ℕ
  pub before : Option ℕ

-- Of a retired table to which no open section comes: nothing more; that it is flat, from which page on it has pages, and how many. That it
-- is nested, its shape, and that the entries of its top page before this one lead to no page. That this entry leads to a page of entries,
-- of which those before this one lead to no page; to which page this one leads. And that the entry of the top page leads to a page behind
-- none of whose own entries there is a page.
pub data KnownGiving : Type 0 where
  Over : KnownGiving
  InRun : ℕ → ℕ → KnownGiving
  AtTop : ℕ → ℕ → KnownGiving
  AtLeaf : ℕ → ℕ → ℕ → ℕ → KnownGiving
  ClearsLeaf : ℕ → ℕ → ℕ → ℕ → ℕ → KnownGiving
  ClearsTop : ℕ → ℕ → ℕ → KnownGiving

-- Of the work that the caller does: none; that it does the work; the slot of the current table; that of the next one too; how many of the
-- current table's buckets are emptied; and that the table in a slot was left behind. Of the next bucket: that the way to it leads over
-- entries, and at which of them it stands; the place of its word; that it is locked; that it has no entry; that an entry is in it; and that
-- this is the last one. Of that one: the place to which it goes; that this is locked, and its word was this before; that the entry is out
-- of its bucket, and its link leads to the first node of that place; and that it is in a table behind the current one. And that the table in
-- a slot is being retired, and of how many callers the section word is kept there; and which one was loaded of the next caller.
-- Of a retired table in this slot: that no open section of the callers before this one comes to it; which word was kept there for this one;
-- and what is known of it once none comes to it.
pub data KnownWork : Type 0 where
  NoWork : KnownWork
  Works : KnownWork
  Rooted : ℕ → KnownAim → KnownWork
  Follows : ℕ → ℕ → KnownWork
  Empties : KnownRehash → ℕ → KnownWork
  LeavesBehind : ℕ → KnownWork
  Nears : KnownRehash → ℕ → PlaceModel → KnownWork
  Faces : KnownRehash → ℕ → ℕ → KnownWork
  InBucket : KnownRehash → KnownPlace → KnownAim → KnownWork
  Bare : KnownRehash → KnownPlace → KnownWork
  AtEntry : KnownRehash → KnownPlace → KnownEntry → KnownAim → KnownWork
  AtTail : KnownRehash → KnownPlace → KnownEntry → KnownAim → KnownWork
  Aims : KnownRehash → KnownPlace → KnownEntry → ℕ → KnownWork
  Brings : KnownRehash → KnownPlace → KnownEntry → ℕ → ℕ → KnownWork
  TakesOut : KnownRehash → KnownPlace → KnownEntry → ℕ → ℕ → KnownWork
  HasBrought : KnownRehash → KnownPlace → KnownEntry → KnownWork
  HasKept : ℕ → ℕ → KnownWork
  HasLoadedWord : ℕ → ℕ → ℕ → KnownWork
  Asks : ℕ → ℕ → KnownWork
  Compares : ℕ → ℕ → ℕ → KnownWork
  GivesBack : ℕ → KnownGiving → KnownWork

-- what a caller knows in a state
pub record Known : Type 0 where
  pub node : Option KnownNode
  pub table : KnownTable
  pub bucket : KnownBucket
  pub making : KnownMaking
  pub work : KnownWork

-- what a caller knows that makes no table and does no work
abbrev pub knows_plain : Option KnownNode → KnownTable → KnownBucket → Known
knows_plain node table bucket =
    record { node = node; table = table; bucket = bucket; making = MakesNothing; work = NoWork }

-- what a caller knows in no call
abbrev pub known_nothing : Known
known_nothing = knows_plain None Nowhere Unlocked

-- where the call goes on behind an unlocking, the port has been passed there
abbrev pub known_behind : ℕ → Then Reply → KnownTable
known_behind port (Table table) = Passes port table
known_behind port (Answer reply) = Nowhere

-- the last of these nodes
abbrev pub last_of : List ℕ → Option ℕ
last_of [] = None
last_of (node ∷ []) = Some node
last_of (node ∷ next ∷ nodes) = last_of (next ∷ nodes)

-- a node and the other nodes of a chain round it: no node before it has the key
pub record StandsAt (M : Memory) (nodes : List ℕ) (key node : ℕ) (before : Option ℕ) : Type 0 where
  pub front : List ℕ
  pub rear : List ℕ
  pub split : nodes ≡ front ++ node ∷ rear
  pub passed : NoKey M key front
  pub last : before ≡ last_of front

-- none of these nodes has the owner
abbrev pub NoOwner : Memory → ℕ → List ℕ → Type 0
NoOwner M owner [] = Unit {0}
NoOwner M owner (node ∷ nodes) = (owner_of (M (Node node OwnerWord)) ≢ owner) × NoOwner M owner nodes

-- the owners of these nodes
abbrev pub owners_of : Memory → List ℕ → List ℕ
owners_of M nodes = map (λ n. owner_of (M (Node n OwnerWord))) nodes

-- the list link that leads to the first of these nodes, and the first of them
abbrev pub list_link : List ℕ → ℕ
list_link [] = 0
list_link (node ∷ nodes) = link_of node

abbrev pub first_of_list : List ℕ → Option ℕ
first_of_list [] = None
first_of_list (node ∷ nodes) = Some node

-- a node of a list, behind this one or none
pub record IsAmong (nodes : List ℕ) (node : ℕ) (before : Option ℕ) : Type 0 where
  pub front : List ℕ
  pub rear : List ℕ
  pub split : nodes ≡ front ++ node ∷ rear
  pub last : before ≡ last_of front

-- no node before it has the owner
pub record StandsInList (M : Memory) (nodes : List ℕ) (node : ℕ) (before : Option ℕ) (owner : ℕ) : Type
    0 where
  pub among : IsAmong nodes node before
  pub none : NoOwner M owner among.front

pub record IsOtherOwner (M : Memory) (nodes : List ℕ) (node owner : ℕ) : Type 0 where
  pub before : Option ℕ
  pub stands : StandsInList M nodes node before owner
  pub differs : owner_of (M (Node node OwnerWord)) ≢ owner

pub record IsOwnersNode (M : Memory) (nodes : List ℕ) (node : ℕ) (before : Option ℕ) (owner : ℕ) : Type
    0 where
  pub stands : StandsInList M nodes node before owner
  pub owner_is : owner_of (M (Node node OwnerWord)) ≡ owner

pub record IsLinkBehind (M : Memory) (nodes : List ℕ) (node : ℕ) (before : Option ℕ) (link owner : ℕ) : Type 0 where
  pub is : IsOwnersNode M nodes node before owner
  pub link_is : list_link is.stands.among.rear ≡ link

pub record IsLeading (M : Memory) (first : ℕ) (behind : List ℕ) (second : Option ℕ) (owner : ℕ) : Type 0 where
  pub owner_is : owner_of (M (Node first OwnerWord)) ≡ owner
  pub second_is : second ≡ first_of_list behind

pub record IsLeadingTo (M : Memory) (first : ℕ) (behind : List ℕ) (second : Option ℕ) (link owner : ℕ) :
    Type 0 where
  pub leads : IsLeading M first behind second owner
  pub link_is : chain_of M first ≡ link

pub record IsPromoting (M : Memory) (first : ℕ) (behind : List ℕ) (second owner : ℕ) : Type 0 where
  pub leads : IsLeading M first behind (Some second) owner
  pub alike : chain_of M second ≡ chain_of M first

pub record IsCollected (M : Memory) (nodes : List ℕ) (node : ℕ) (owners : List ℕ) : Type 0 where
  pub before : Option ℕ
  pub among : IsAmong nodes node before
  pub owners_are : owners ≡ owners_of M among.front

pub record IsCollectedTo (M : Memory) (nodes : List ℕ) (node : ℕ) (owners : List ℕ) : Type 0 where
  pub before : Option ℕ
  pub among : IsAmong nodes node before
  pub owners_are : owners ≡ owners_of M (among.front ++ node ∷ [])
