-- What the count of ports counts, and what a table is like while nobody is in a call.
use Rattle.std.specs.Prelude.{◌≡◌, ◌≢◌, ℕ, ◌+◌, ◌*◌, ◌/◌, ◌%◌, ◌<◌, ◌≤◌, ◌⊎◌, Bool, true, Option, Some, List, [], ◌∷◌, ◌++◌, length, slice_index, sum_by, count_by}
use Rattle.std.specs.List.{AllByRecursion, flat_map, range_with_len}
use Rattle.std.specs.Int.{bit_at}
use Rattle.rht_words.specs.declared.env.Env.{Env}
use Rattle.rht_words.specs.declared.geometry.Geometry.{Geometry}
use Rattle.rht_words.specs.declared.config.Kind.TheVariants.{Single}
use Rattle.rht_words.specs.Members.{In, IsDistinct}
use Rattle.rht_words.specs.Places.{WorkLock, PortCount, Slot, StateWord, NodeMap, PageMap, PageWord, word_at}
use Rattle.rht_words.specs.Shapes.{unpacked, size_of}
use Rattle.rht_model.specs.declared.history.Call.{Call}
use Rattle.rht_model.specs.declared.history.Call.TheVariants.{Bind, Release}
use Rattle.rht_core.specs.declared.event.Event.{Event}
use Rattle.rht_callers.specs.Batches.{nodes_in, batch_room}
use Rattle.rht_callers.specs.Locals.{is_idle}
use Rattle.rht_core.specs.Runs.{Core, World, local_of, run_of, IsAdmitted}
use Rattle.rht_stands.specs.StandsFor.{in_force, shape_of, bucket_in, nodes_of, stands_for, AreAllBound}
use Rattle.rht_core.specs.TablePages.{IsPageOfTable}
use Rattle.rht_core.specs.Sections.{IsInNoSection}
use Rattle.rht_core.specs.Alone.{IsQuiet, bindings_at}
use Rattle.rht_core.specs.Traces.{Did, traced_of}
use Rattle.rht_core.specs.Causes.{IsRaise, IsLowering}
use Rattle.rht_core.specs.RunHistories.{bindings_behind}
use Rattle.rht_model.specs.declared.history.Reply.{Reply}
use Rattle.rht_model.specs.declared.history.Reply.TheVariants.{Bound, Exists, Found, Missing, Listed, Released, Absent, Rebound, TooBig, Again, Busy, NoTable, NoNode, Pending, Elsewhere, Walked, Moved, Idle, Clear}
use Rattle.rht_model.specs.declared.history.Reply.TheVariants as replies
pub use Rattle.rht_model.specs.Replies.{takes_out}

-- the node's bit is set
abbrev pub IsFree : Geometry → List ℕ → ℕ → Type 0
IsFree g words node = bit_at (word_at g words (NodeMap (node / 64))) (node % 64) ≡ 1

-- one of the three is so, and neither of the others
abbrev pub ExactlyOne : Type 0 → Type 0 → Type 0 → Type 0
ExactlyOne A B C = (A × ¬ B × ¬ C) ⊎ (B × ¬ A × ¬ C) ⊎ (C × ¬ A × ¬ B)

module _ (g : Geometry) (words : List ℕ) where
  -- the node is in a port's list
  abbrev pub IsListed : ℕ → Type 0
  IsListed node = (port : ℕ) × In node (nodes_of g words port)

  -- the node is free, in a port's list, or one of those that are out, and never two of these
  abbrev pub IsPlaced : List ℕ → ℕ → Type 0
  IsPlaced out node = ExactlyOne (IsFree g words node) (IsListed node) (In node out)

  -- so many different nodes are out, and each other one is free or in a port's list
  pub record AreOut (count : ℕ) : Type 0 where
    pub out : List ℕ
    pub distinct : IsDistinct out
    pub among : AllByRecursion (λ node. node < g.nodes) out
    pub many : length out ≡ count
    pub placed : (node : ℕ) → node < g.nodes → IsPlaced out node

  -- the table in this slot is in force, or the slot isn't free
  abbrev pub HasTable : ℕ → Type 0
  HasTable slot = In slot (in_force g words) ⊎ ((slot < 8) × (word_at g words (Slot slot StateWord) ≢ 0))

  -- at this place stands the word of a bucket of the table whose shape stands in this slot
  pub record IsBucketOfSlot (slot place : ℕ) : Type 0 where
    pub bucket : ℕ
    pub within : bucket < size_of (unpacked (shape_of g words slot))
    pub there : bucket_in g words (shape_of g words slot) bucket ≡ Some place

  -- the page's bit is set
  abbrev pub IsPageFree : ℕ → Type 0
  IsPageFree page = bit_at (word_at g words (PageMap (page / 64))) (page % 64) ≡ 1

  -- the page is one of the table whose shape stands in a slot
  abbrev pub IsPageOfSlot : ℕ → ℕ → Type 0
  IsPageOfSlot slot page = IsPageOfTable g words (shape_of g words slot) page

  -- the slot isn't free, and the page is one of its table's
  pub record IsPageInSlot (page : ℕ) : Type 0 where
    pub slot : ℕ
    pub slot_in : slot < 8
    pub taken : word_at g words (Slot slot StateWord) ≢ 0
    pub there : IsPageOfSlot slot page

  -- nobody does the work; each page is free, or one of the table in a slot that isn't; of a slot that isn't free no page is; and each
  -- such slot is retired, or has a table in force
  pub record AreNoneHeld : Type 0 where
    pub no_work : word_at g words WorkLock ≡ 0
    pub pages : (page : ℕ) → page < g.pages → IsPageFree page ⊎ IsPageInSlot page
    pub slots : (slot page : ℕ) → slot < 8 → word_at g words (Slot slot StateWord) ≢ 0
        → IsPageOfSlot slot page → ¬ IsPageFree page
    pub attached : (slot : ℕ) → slot < 8 → word_at g words (Slot slot StateWord) ≢ 0
        → (word_at g words (Slot slot StateWord) ≡ 2) ⊎ In slot (in_force g words)

  -- each word of a free page is 0, and no page is one of the tables in two slots that aren't free
  pub record ArePagesApart : Type 0 where
    pub blank : (page index : ℕ) → page < g.pages → index < 64 → IsPageFree page
        → word_at g words (PageWord (64 * page + index)) ≡ 0
    pub apart : (one other page : ℕ) → one < 8 → other < 8 → word_at g words (Slot one StateWord) ≢ 0
        → word_at g words (Slot other StateWord) ≢ 0 → IsPageOfSlot one page → IsPageOfSlot other page → one ≡ other

-- how many of this caller's calls that have ended did so, and of all callers'
abbrev pub taken_out_by : {M : Type 0} → World M → ℕ → ℕ
taken_out_by w c = count_by (λ done. takes_out done.reply) (w.books c).finished

abbrev pub taken_out : {M : Type 0} → World M → ℕ
taken_out w = sum_by (taken_out_by w) (range_with_len 0 w.core.env.geometry.callers)

-- how many nodes a call gave back that ended with this reply
abbrev pub returned_by : Reply → ℕ
returned_by (Bound kick) = 0
returned_by (Exists owner) = 0
returned_by (Found owner) = 0
returned_by Missing = 0
returned_by (Listed len) = 0
returned_by (Released kick) = 0
returned_by Absent = 0
returned_by Rebound = 0
returned_by (TooBig count) = 0
returned_by (Again table) = 0
returned_by (Busy root last) = 0
returned_by (NoTable size) = 0
returned_by NoNode = 0
returned_by (Pending caller section) = 0
returned_by Elsewhere = 0
returned_by (Walked len next) = 0
returned_by (Moved again) = 0
returned_by Idle = 0
returned_by (Clear returned) = returned
returned_by (replies.Counted count) = 0

-- how many this caller's calls gave back that have ended, and all callers'
abbrev pub given_back_by : {M : Type 0} → World M → ℕ → ℕ
given_back_by w c = sum_by (λ done. returned_by done.reply) (w.books c).finished

abbrev pub given_back : {M : Type 0} → World M → ℕ
given_back w = sum_by (given_back_by w) (range_with_len 0 w.core.env.geometry.callers)

-- the nodes in this caller's batch, wherever that lies, and those in anybody's
abbrev pub in_batch : {M : Type 0} → Core M → ℕ → List ℕ
in_batch core c = nodes_in (batch_room (local_of core c).doing (local_of core c).batch)

abbrev pub in_batches : {M : Type 0} → Env → Core M → List ℕ
in_batches env core = flat_map (in_batch core) (range_with_len 0 env.geometry.callers)

-- each node is free, in a port's list, or in a batch, and never two of these; and none is twice in batches
pub record AreBatched {M : Type 0} (env : Env) (core : Core M) : Type 0 where
  pub distinct : IsDistinct (in_batches env core)
  pub among : AllByRecursion (λ node. node < env.geometry.nodes) (in_batches env core)
  pub placed : (node : ℕ) → node < env.geometry.nodes → IsPlaced env.geometry core.words (in_batches env core) node

-- No bucket of a table in force, or in a slot that isn't free, is locked, and the word of each bucket of a retired one is 0; as
-- many nodes are out as were taken out and not given back, and no others, and they are those in the callers' batches; in a table
-- of one owner each no port's list has a second node; the count of ports is the number of those bound; no caller has the work
-- lock, a slot or pages, or is in a read section; each table that was left behind and wasn't given back is retired; free pages
-- are blank, and no two tables have a page in common
pub record IsAtRest {M : Type 0} (env : Env) (core : Core M) (taken given : ℕ) : Type 0 where
  pub unlocked : (slot place : ℕ) → HasTable env.geometry core.words slot → IsBucketOfSlot env.geometry core.words slot place
      → slice_index core.words place % 2 ≡ 0
  pub emptied : (slot place : ℕ) → slot < 8 → word_at env.geometry core.words (Slot slot StateWord) ≡ 2
      → IsBucketOfSlot env.geometry core.words slot place → slice_index core.words place ≡ 0
  pub out : ℕ
  pub still_out : out + given ≡ taken
  pub nodes : AreOut env.geometry core.words out
  pub batched : AreBatched env core
  pub single : env.config.kind ≡ Single → (port : ℕ) → length (nodes_of env.geometry core.words port) ≤ 1
  pub counted : AreAllBound (stands_for env.geometry core.words) (word_at env.geometry core.words PortCount)
  pub none_held : AreNoneHeld env.geometry core.words
  pub pages : ArePagesApart env.geometry core.words
  pub sections : (c : ℕ) → c < env.geometry.callers → IsInNoSection env.geometry core.words c

module _ (M : Type 0) (mix : ℕ → ℕ → ℕ → ℕ) where
  -- the operation gave a port its first owner
  abbrev pub GivesFirst : Env → List Event → Did → Type 0
  GivesFirst env events did =
      (port : ℕ) × (bindings_behind M mix env events did.index port ≡ []) × (bindings_behind M mix env events (did.index + 1) port ≢ [])

  -- or took a port's last one
  abbrev pub TakesLast : Env → List Event → Did → Type 0
  TakesLast env events did =
      (port : ℕ) × (bindings_behind M mix env events did.index port ≢ []) × (bindings_behind M mix env events (did.index + 1) port ≡ [])

  -- By these operations of a call the count is ahead: by one of them, of which this is so, and behind which none lowered the count or gave
  -- a port its first owner.
  pub record IsAhead (env : Env) (events : List Event) (Leads : Did → Type 0) (steps : List Did) : Type 0 where
    pub before : List Did
    pub at : Did
    pub behind : List Did
    pub split : steps ≡ before ++ at ∷ behind
    pub leads : Leads at
    pub still : AllByRecursion (λ did. ¬ (IsLowering env.geometry did ⊎ GivesFirst env events did)) behind

  -- so it is by those of a bind that has raised the count, and of a release that has taken a port's last owner
  abbrev pub IsBindAhead : Env → List Event → Option Call → List Did → Type 0
  IsBindAhead env events call steps =
      (port : ℕ) × (owner : ℕ) × (once : Bool) × (call ≡ Some (Bind port owner once)) × IsAhead env events (IsRaise env.geometry) steps

  abbrev pub IsReleaseAhead : Env → List Event → Option Call → List Did → Type 0
  IsReleaseAhead env events call steps =
      (port : ℕ) × (owner : ℕ) × (call ≡ Some (Release port owner)) × IsAhead env events (TakesLast env events) steps

  -- and by those of the call that this caller is in
  abbrev pub IsAheadBy : Env → List Event → ℕ → Type 0
  IsAheadBy env events c =
      let call = ((run_of {M = M} mix env events).books c).call in
      let steps = ((traced_of {M = M} mix env events).traces c).steps in
      IsBindAhead env events call steps ⊎ IsReleaseAhead env events call steps

  -- so it is by so many callers, and by no others
  pub record AreAhead (env : Env) (events : List Event) (count : ℕ) : Type 0 where
    pub callers : List ℕ
    pub distinct : IsDistinct callers
    pub among : AllByRecursion (λ c. c < env.geometry.callers) callers
    pub each : AllByRecursion (IsAheadBy env events) callers
    pub only : (c : ℕ) → c < env.geometry.callers → IsAheadBy env events c → In c callers
    pub many : length callers ≡ count

  -- the count of ports is the number of ports bound, and of the callers by which it is ahead; and it is at most the nodes
  pub record IsCounted (env : Env) (events : List Event) : Type 0 where
    pub bound : ℕ
    pub all_bound : AreAllBound (bindings_at M mix env events) bound
    pub ahead : ℕ
    pub are_ahead : AreAhead env events ahead
    pub counted : word_at env.geometry (run_of {M = M} mix env events).core.words PortCount ≡ bound + ahead
    pub few : word_at env.geometry (run_of {M = M} mix env events).core.words PortCount ≤ env.geometry.nodes

  -- in every run the count of ports counts
  abbrev pub Counted : Type 0
  Counted = (env : Env) (events : List Event) → IsAdmitted events → IsCounted env events

  -- in every run the table is at rest while nobody is in a call
  abbrev pub AtRest : Type 0
  AtRest =
      (env : Env) (events : List Event) → IsAdmitted events → IsQuiet M mix env events
      → let w : World M = run_of mix env events in IsAtRest env w.core (taken_out w) (given_back w)

  -- in every run, whoever else is in a call, a caller that is in none has as many nodes in its batch as its calls took out and didn't give back
  abbrev pub OwnBatches : Type 0
  OwnBatches =
      (env : Env) (events : List Event) (c : ℕ) → IsAdmitted events
      → let w : World M = run_of mix env events in
      is_idle (local_of w.core c) ≡ true → length (in_batch w.core c) + given_back_by w c ≡ taken_out_by w c
