-- What one operation of a caller makes of the words, the ghost, what its call holds, and what it knows.
use Rattle.std.proofs.Common.{◌≡◌, ◌≢◌, ◌⊎◌, ◌↔◌, ℕ, suc, ◌+◌, ◌*◌, ◌%◌, ◌<◌, ◌≤◌, List, [], ◌∷◌, map, Option, Some, None, Bool, true, false, refl, sym, ◌∙◌, ap, subst, inl, inr, arith}
use Rattle.std.specs.Int.{bit_at}
use Rattle.std.proofs.lemmas.Bool.{cases_eq}
use Rattle.std.proofs.lemmas.List.{set-get_or}
use Rattle.rht_words.specs.declared.env.Env.{Env}
use Rattle.rht_words.specs.declared.geometry.Geometry.{Geometry}
use Rattle.rht_words.specs.declared.op.Op.{Op}
use Rattle.rht_words.specs.declared.op.Op.TheVariants.{Store, Exchange, Add, Sub, Or}
use Rattle.rht_words.specs.Held as held
use Rattle.rht_words.specs.Links.{future_of, entry_of}
use Rattle.rht_words.specs.Maps.{bit_of}
use Rattle.rht_words.specs.Ports.{owner_of}
use Rattle.rht_words.specs.Operations.{op_place, old_of, word_after, applied}
use Rattle.rht_words.specs.Places.{CurrentTable, WorkLock, PortCount, NextSerial, Section, Slot, SlotWord, FutureWord, StateWord, LoadedSection, PageMap, PageWord, Node, NodeWord, ChainLink, OwnerWord, nodes_at, pages_at, place_of, word_at}
use Rattle.rht_words.specs.Members.{In}
use Rattle.rht_words.proofs.Members.{count_below-same, in-middle}
use Rattle.rht_words.proofs.Memory.{Memory}
use Rattle.rht_model.specs.declared.history.Call.{Call}
use Rattle.rht_model.specs.declared.history.Call.TheVariants.{Tidy}
use Rattle.rht_model.specs.Multimap.{Multimap, Agree}
use Rattle.rht_model.specs.Answers.{Answer, is_change}
use Rattle.rht_arena.specs.Laws.{map_place, map_bit, IsTaking}
use Rattle.rht_words.specs.TableWords.{IsTableWord}
use Rattle.rht_ghost.proofs.Theory.Ghosts.{put, put-same, put-other, put-all, Owner, Free, NodeHeld, First, Leaving, Taken, PageFree, PageHeld, SlotFree, SlotHeld, Ghost, is_taken_by, with_holder, with_armed, with_owner, with_raised, with_from, with_slot, has_bit, with_pages, made_table, with_table, IsSince, slot_holder, table_at}
use Rattle.rht_ghost.proofs.Theory.Wholes.{place_at, outs, Whole}
use Rattle.rht_ghost.proofs.Theory.Reliance.{bound_used}
use Rattle.rht_ghost.proofs.Theory.Frames.{Made, still}
use Rattle.rht_ghost.proofs.Theory.Answering.{outs_of, SaysStill-agree, KnowsEarly, KnowsEarly-agree, none_early, Says, IsRight, Tells, TellsOrRecalls, told-says, told-outs, told-right}
use Rattle.rht_ghost.proofs.Theory.Readiness.{linked, IsReady, IsRebinding, IsArming, ArePagesOf, IsAttaching, IsEntering, Change, changed, entered}
use Rattle.rht_ghost.proofs.Theory.Departures.{with_worker, published, retiring, retired, left, arrived, cut_off, withdrawn, taken_back, CanLeave, CanArrive, CanCut, CanPublish, CanRetire, CanKeep, CanSettle, CanWithdraw, CanTakeBack}

-- What an operation does beside what it finds: nothing that others see, a node taken or given back, a lock taken or dropped,
-- the count raised or lowered, a node linked for a port into a bucket, what a port is bound to changed, a node behind a port's
-- first one given its link in the chain, or found that no table is behind that of a locked bucket; a slot taken or given back, the pages
-- of these bits of a word of the map taken or given back, the table in a slot attached that has this shape, seed and serial, or behind an
-- entry a page entered. And what the work does: its lock taken or given back, that it begins to move entries, and the lock of a second bucket taken; an entry
-- taken out of its bucket, brought into another one, and cut off from the first; the next table made the current one, and the table in
-- a slot retired: first its state word says so, then this section word of this caller is kept in the slot, and at last the last one. An
-- entry of a retired table cleared that leads to this page, and the table in a slot taken back, with the pages of these bits of a word of
-- the map given back at once. And the read section of a caller opened or closed, and a node given back that a call of the caller had taken out
pub data Move : Type 0 where
  Quiet : Move
  TakesNode : ℕ → Move
  GivesNode : ℕ → Move
  TakesLock : ℕ → Move
  DropsLock : ℕ → Move
  Raises : Move
  Links : ℕ → ℕ → ℕ → Move
  Lowers : Move
  Rebinds : Change → Move
  LinksBehind : ℕ → Move
  Arms : ℕ → Move
  TakesSlot : ℕ → Move
  GivesSlot : ℕ → Move
  TakesPages : ℕ → ℕ → Move
  GivesPages : ℕ → ℕ → Move
  Attaches : ℕ → ℕ → ℕ → ℕ → Move
  Enters : ℕ → ℕ → Move
  TakesWork : Move
  GivesWork : Move
  BeginsMoving : Move
  TakesSecond : ℕ → Move
  Leaves : ℕ → ℕ → ℕ → List ℕ → Move
  Arrives : ℕ → ℕ → ℕ → Move
  CutsOff : ℕ → ℕ → Option ℕ → Move
  Publishes : Move
  Retires : ℕ → Move
  KeepsWord : ℕ → ℕ → ℕ → Move
  Settles : ℕ → ℕ → ℕ → Move
  Withdraws : ℕ → ℕ → Move
  TakesBack : ℕ → ℕ → ℕ → Move
  Opens : ℕ → Move
  Closes : ℕ → Move
  ReturnsNode : ℕ → Move

-- a test's two cases, with what the test says
pub by_test : (C : Bool → Type 0) (b : Bool) → ((b ≡ true) → C true) → ((b ≡ false) → C false) → C b
by_test C true t f = t refl
by_test C false t f = f refl

-- an operation that leaves its word leaves all words
pub unchanged : (words : List ℕ) (op : Op) → word_after (old_of words op) op ≡ old_of words op
    → applied words op ≡ words
unchanged words op same = rw same (set-get_or words (op_place op) 0)

-- what a call holds beside its answer
abbrev pub Holding : Type 0
Holding = held.Held Answer

-- what it holds, whatever is known of its answer, now and early
abbrev pub bare : Holding → Holding
bare h = record h { answer = None; early = None }

-- it holds the same
abbrev pub HoldsSame : Holding → Holding → Type 0
HoldsSame h h' = bare h' ≡ bare h

-- the same, and nothing is known early
abbrev pub HoldsNoneEarly : Holding → Holding → Type 0
HoldsNoneEarly h h' = h' ≡ record h { answer = h'.answer; early = None }

-- a call takes a node while its answer isn't known, and has one no more once it is
pub record HasNodeInTime (h h' : Holding) : Type 0 where
  pub taken : (node : ℕ) → h.node ≡ None → h'.node ≡ Some node → h'.answer ≡ None
  pub gone : (node : ℕ) → h.node ≡ Some node → h'.node ≡ None → h'.answer ≢ None

-- it has the node that it had, or none as before
pub still_has : {h h' : Holding} → h'.node ≡ h.node → HasNodeInTime h h'
still_has same = record {
  taken = λ node none some. absurd (cc);
  gone = λ node some none. absurd (cc);
}

-- its answer is known, and is a reply that says that bindings were changed
abbrev pub SaysChange : Option Answer → Type 0
SaysChange None = ⊥
SaysChange (Some answer) = is_change answer.reply ≡ true

-- the operation leaves each bit of the word that it found
abbrev pub LeavesBits : Op → ℕ → Type 0
LeavesBits op old = (bit : ℕ) → bit < 64 → bit_at (word_after old op) bit ≡ bit_at old bit

module _ (g : Geometry) where
  -- the operation is on a word of the node that the call has
  pub record IsOnOwnNode (op : Op) (h : Holding) : Type 0 where
    pub node : ℕ
    pub word : NodeWord
    pub has : h.node ≡ Some node
    pub place : op_place op ≡ place_of g (Node node word)

  -- the operation is on a word of the slot that the call has
  pub record IsOnOwnSlot (op : Op) (h : Holding) : Type 0 where
    pub slot : ℕ
    pub word : SlotWord
    pub within : slot < 8
    pub of_table : IsTableWord word
    pub has : h.slot ≡ Some slot
    pub place : op_place op ≡ place_of g (Slot slot word)

  -- the operation takes the next serial
  abbrev pub IsNextSerial : Op → Type 0
  IsNextSerial op = op ≡ Add (place_of g NextSerial) 1

  -- the operation is on a word that nobody else looks at, or takes the next serial
  abbrev pub IsAside : Op → Holding → Type 0
  IsAside op h = IsOnOwnNode op h ⊎ IsOnOwnSlot op h ⊎ IsNextSerial op

  -- what the operation is for each move, and how what the call holds changes
  pub record DoesQuiet (op : Op) (old : ℕ) (h h' : Holding) : Type 0 where
    pub holds : HoldsSame h h'
    pub leaves : LeavesBits op old ⊎ IsAside op h

  pub record DoesTakeNode (node : ℕ) (op : Op) (old : ℕ) (h h' : Holding) : Type 0 where
    pub taking : IsTaking g node old op
    pub none : h.node ≡ None
    pub holds : bare h' ≡ record (bare h) { node = Some node }

  pub record DoesGiveNode (node : ℕ) (op : Op) (h h' : Holding) : Type 0 where
    pub giving : op ≡ Or (map_place g node) (bit_of (map_bit node))
    pub has : h.node ≡ Some node
    pub holds : bare h' ≡ record (bare h) { node = None }

  pub record DoesTakeLock (place : ℕ) (op : Op) (old : ℕ) (h h' : Holding) : Type 0 where
    pub on : op_place op ≡ place
    pub even : old % 2 ≡ 0
    pub locks : word_after old op ≡ old + 1
    pub none : h.lock ≡ None
    pub holds : bare h' ≡ record (bare h) { lock = Some place }

  pub record DoesDropLock (place : ℕ) (op : Op) (old : ℕ) (h h' : Holding) : Type 0 where
    pub on : op_place op ≡ place
    pub even : word_after old op % 2 ≡ 0
    pub unlocks : old ≡ word_after old op + 1
    pub has : h.lock ≡ Some place
    pub holds : bare h' ≡ record (bare h) { lock = None }

  pub record DoesRaise (op : Op) (h h' : Holding) : Type 0 where
    pub adds : op ≡ Add (place_of g PortCount) 1
    pub low : h.raised ≡ false
    pub holds : bare h' ≡ record (bare h) { raised = true }

  pub record DoesLink (node place : ℕ) (op : Op) (h h' : Holding) : Type 0 where
    pub on : op_place op ≡ place
    pub has : h.node ≡ Some node
    pub lock : h.lock ≡ Some place
    pub raised : h.raised ≡ true
    pub holds : bare h' ≡ record (bare h) { node = None; lock = None; raised = false }

  pub record DoesLower (op : Op) (h h' : Holding) : Type 0 where
    pub subtracts : op ≡ Sub (place_of g PortCount) 1
    pub high : h.raised ≡ true
    pub holds : bare h' ≡ record (bare h) { raised = false }

  -- The store is on a word of a node or of a bucket; the call has the node that it had, or none. It has the lock that it had, and the
  -- store is on a node's word, or it has none, and the store is on the bucket's word, whose lock nobody holds behind it. Its answer is
  -- known from then on, and says that bindings were changed.
  pub record DoesRebind (raised : Bool) (place : ℕ) (holder : Option ℕ) (op : Op) (h h' : Holding) : Type 0 where
    pub behind_maps : nodes_at g ≤ op_place op
    pub lock : h.lock ≡ Some place
    pub left_lock :
        ((h'.lock ≡ h.lock) × (op_place op < pages_at g)) ⊎ ((h'.lock ≡ None) × (op_place op ≡ place) × (holder ≡ None))
    pub left_second : h'.second ≡ h.second
    pub left_section : h'.section ≡ h.section
    pub left_worker : h'.worker ≡ h.worker
    pub left_node : (h'.node ≡ h.node) ⊎ (h'.node ≡ None)
    pub raised_is : h'.raised ≡ raised
    pub changes : SaysChange h'.answer

  -- the call has a lock and no node of its own
  pub record DoesLinkBehind (node : ℕ) (op : Op) (h h' : Holding) : Type 0 where
    pub among : node < g.nodes
    pub on : op_place op ≡ place_of g (Node node ChainLink)
    pub locked : h.lock ≢ None
    pub none : h.node ≡ None
    pub holds : HoldsSame h h'

  pub record DoesTakeSlot (slot : ℕ) (op : Op) (old : ℕ) (h h' : Holding) : Type 0 where
    pub within : slot < 8
    pub taking : op ≡ Exchange (place_of g (Slot slot StateWord)) 0 1
    pub free : old ≡ 0
    pub none : h.slot ≡ None
    pub holds : bare h' ≡ record (bare h) { slot = Some slot }

  -- the pages of a slot are given back before it
  pub record DoesGiveSlot (slot : ℕ) (op : Op) (h h' : Holding) : Type 0 where
    pub within : slot < 8
    pub giving : op ≡ Store (place_of g (Slot slot StateWord)) 0
    pub has : h.slot ≡ Some slot
    pub empty : h.pages ≡ []
    pub holds : bare h' ≡ record (bare h) { slot = None }

  -- the operation clears these bits of a word of the map of pages, all of which it found set, and leaves the others
  pub record ClearsBits (index bits : ℕ) (op : Op) (old : ℕ) : Type 0 where
    pub on : op_place op ≡ place_of g (PageMap index)
    pub found : (bit : ℕ) → bit < 64 → bit_at bits bit ≡ 1 → bit_at old bit ≡ 1
    pub cleared : (bit : ℕ) → bit < 64 → bit_at bits bit ≡ 1 → bit_at (word_after old op) bit ≡ 0
    pub others : (bit : ℕ) → bit < 64 → bit_at bits bit ≢ 1 → bit_at (word_after old op) bit ≡ bit_at old bit

  pub record DoesTakePages (index bits : ℕ) (op : Op) (old : ℕ) (h h' : Holding) : Type 0 where
    pub clears : ClearsBits index bits op old
    pub pages : (p : ℕ) → In p h'.pages ↔ (In p h.pages ⊎ (has_bit index bits p ≡ true))
    pub holds : bare h' ≡ record (bare h) { pages = h'.pages }

  -- or sets them, and leaves the others
  pub record SetsBits (index bits : ℕ) (op : Op) (old : ℕ) : Type 0 where
    pub on : op_place op ≡ place_of g (PageMap index)
    pub set : (bit : ℕ) → bit < 64 → bit_at bits bit ≡ 1 → bit_at (word_after old op) bit ≡ 1
    pub others : (bit : ℕ) → bit < 64 → bit_at bits bit ≢ 1 → bit_at (word_after old op) bit ≡ bit_at old bit

  pub record DoesGivePages (index bits : ℕ) (op : Op) (old : ℕ) (h h' : Holding) : Type 0 where
    pub sets : SetsBits index bits op old
    pub had : (p : ℕ) → has_bit index bits p ≡ true → In p h.pages
    pub pages : (p : ℕ) → In p h'.pages ↔ (In p h.pages × (has_bit index bits p ≡ false))
    pub holds : bare h' ≡ record (bare h) { pages = h'.pages }

  -- the exchange of the future of a table, in whose slot this is, finds that nothing follows it
  pub record DoesAttach (slot : ℕ) (op : Op) (old : ℕ) (h h' : Holding) : Type 0 where
    pub last : ℕ
    pub within : last < 8
    pub attaching : op ≡ Exchange (place_of g (Slot last FutureWord)) 0 (future_of slot)
    pub found : old ≡ 0
    pub has : h.slot ≡ Some slot
    pub holds : bare h' ≡ record (bare h) { slot = None; pages = [] }

  -- the exchange of an entry finds that it leads to no page
  pub record DoesEnter (entry page : ℕ) (op : Op) (old : ℕ) (h h' : Holding) : Type 0 where
    pub entering : op ≡ Exchange (place_of g (PageWord entry)) 0 (entry_of page)
    pub found : old ≡ 0
    pub had : In page h.pages
    pub pages : (p : ℕ) → In p h'.pages ↔ (In p h.pages × (p ≢ page))
    pub holds : bare h' ≡ record (bare h) { pages = h'.pages }

  pub record DoesTakeWork (op : Op) (old : ℕ) (h h' : Holding) : Type 0 where
    pub taking : op ≡ Exchange (place_of g WorkLock) 0 1
    pub free : old ≡ 0
    pub idle : h.worker ≡ false
    pub holds : bare h' ≡ record (bare h) { worker = true }

  pub record DoesGiveWork (op : Op) (h h' : Holding) : Type 0 where
    pub giving : op ≡ Store (place_of g WorkLock) 0
    pub has : h.worker ≡ true
    pub holds : bare h' ≡ record (bare h) { worker = false; moving = false }

  -- an operation that leaves its word, from which on entries are silent
  pub record DoesBeginMoving (op : Op) (old : ℕ) (h h' : Holding) : Type 0 where
    pub leaves : word_after old op ≡ old
    pub has : h.worker ≡ true
    pub still : h.moving ≡ false
    pub holds : bare h' ≡ record (bare h) { moving = true }

  -- the lock of another bucket, beside that of a first one
  pub record DoesTakeSecond (place : ℕ) (op : Op) (old : ℕ) (h h' : Holding) : Type 0 where
    pub on : op_place op ≡ place
    pub even : old % 2 ≡ 0
    pub locks : word_after old op ≡ old + 1
    pub moves : h.moving ≡ true
    pub first : ℕ
    pub has : h.lock ≡ Some first
    pub none : h.second ≡ None
    pub holds : bare h' ≡ record (bare h) { second = Some place }

  pub record DoesLeave (entry : ℕ) (op : Op) (h h' : Holding) : Type 0 where
    pub on : op_place op ≡ place_of g (Node entry ChainLink)
    pub moves : h.moving ≡ true
    pub holds : HoldsSame h h'

  -- the store into the bucket that was locked second drops its lock
  pub record DoesArrive (place : ℕ) (op : Op) (h h' : Holding) : Type 0 where
    pub on : op_place op ≡ place
    pub moves : h.moving ≡ true
    pub has : h.second ≡ Some place
    pub holds : bare h' ≡ record (bare h) { second = None }

  -- a bucket is cut off in the link of the node before its last entry, or in its word
  abbrev pub cut_place : ℕ → Option ℕ → ℕ
  cut_place place None = place
  cut_place place (Some before) = place_of g (Node before ChainLink)

  pub record DoesCutOff (place : ℕ) (before : Option ℕ) (op : Op) (h h' : Holding) : Type 0 where
    pub on : op_place op ≡ cut_place place before
    pub moves : h.moving ≡ true
    pub lock : h.lock ≡ Some place
    pub holds : HoldsSame h h'

  pub record DoesPublish (op : Op) (h h' : Holding) : Type 0 where
    pub on : op_place op ≡ place_of g CurrentTable
    pub moves : h.moving ≡ true
    pub holds : HoldsSame h h'

  -- a section word is kept in a slot
  pub record DoesKeepWord (slot caller word : ℕ) (op : Op) (h h' : Holding) : Type 0 where
    pub within : slot < 8
    pub caller_in : caller < 16
    pub keeping : op ≡ Store (place_of g (Slot slot (LoadedSection caller))) word
    pub moves : h.moving ≡ true
    pub holds : HoldsSame h h'

  -- the store clears an entry that led to this page, which the call has from then on
  pub record DoesWithdraw (entry page : ℕ) (op : Op) (old : ℕ) (h h' : Holding) : Type 0 where
    pub within : entry < 64 * g.pages
    pub clearing : op ≡ Store (place_of g (PageWord entry)) 0
    pub found : old ≡ entry_of page
    pub works : h.worker ≡ true
    pub none : h.slot ≡ None
    pub pages : (p : ℕ) → In p h'.pages ↔ (In p h.pages ⊎ (p ≡ page))
    pub holds : bare h' ≡ record (bare h) { pages = h'.pages }

  -- the operation sets these bits of a word of the map of pages, and the call has the slot of a table from then on
  pub record DoesTakeBack (slot index bits : ℕ) (op : Op) (old : ℕ) (h h' : Holding) : Type 0 where
    pub within : slot < 8
    pub sets : SetsBits index bits op old
    pub works : h.worker ≡ true
    pub none : h.slot ≡ None
    pub empty : h.pages ≡ []
    pub holds : bare h' ≡ record (bare h) { slot = Some slot; pages = h'.pages }

  pub record DoesRetire (slot : ℕ) (op : Op) (h h' : Holding) : Type 0 where
    pub within : slot < 8
    pub retiring : op ≡ Store (place_of g (Slot slot StateWord)) 2
    pub moves : h.moving ≡ true
    pub holds : HoldsSame h h'

  -- an addition to a caller's section word, by which its section is opened, or closed
  pub record DoesOpen (caller : ℕ) (op : Op) (h h' : Holding) : Type 0 where
    pub within : caller < 16
    pub turns : op ≡ Add (place_of g (Section caller)) 1
    pub outside : h.section ≡ false
    pub holds : bare h' ≡ record (bare h) { section = true }

  pub record DoesClose (caller : ℕ) (op : Op) (h h' : Holding) : Type 0 where
    pub within : caller < 16
    pub turns : op ≡ Add (place_of g (Section caller)) 1
    pub inside : h.section ≡ true
    pub holds : bare h' ≡ record (bare h) { section = false }

  -- the node isn't one that the call has
  pub record DoesReturnNode (node : ℕ) (op : Op) (h h' : Holding) : Type 0 where
    pub among : node < g.nodes
    pub giving : op ≡ Or (map_place g node) (bit_of (map_bit node))
    pub holds : HoldsSame h h'

-- how many nodes of its calls the caller has given back by the move, beside these
abbrev pub with_returned : Move → ℕ → ℕ
with_returned (ReturnsNode n) many = many + 1
with_returned _ many = many

module _ (env : Env) (mix : ℕ → ℕ → ℕ → ℕ) where
  -- the ghost after a move of a caller
  abbrev pub ghost_after : ℕ → Move → Ghost → Ghost
  ghost_after c Quiet G = G
  ghost_after c (TakesNode n) G = with_owner G n (NodeHeld c)
  ghost_after c (GivesNode n) G = with_owner G n Free
  ghost_after c (TakesLock j) G = with_holder G j (Some c)
  ghost_after c (DropsLock j) G = with_holder G j None
  ghost_after c Raises G = with_raised G c true
  ghost_after c (Links n port j) G = linked G c j n port
  ghost_after c Lowers G = with_raised G c false
  ghost_after c (Rebinds change) G = changed G c change
  ghost_after c (LinksBehind n) G = G
  ghost_after c (Arms j) G = with_armed G j c
  ghost_after c (TakesSlot s) G = with_slot G s (SlotHeld c)
  ghost_after c (GivesSlot s) G = with_slot G s SlotFree
  ghost_after c (TakesPages index bits) G = with_pages G index bits (PageHeld c)
  ghost_after c (GivesPages index bits) G = with_pages G index bits PageFree
  ghost_after c (Attaches slot shape seed serial) G = with_table G (made_table slot shape seed serial)
  ghost_after c (Enters j p) G = entered G j p
  ghost_after c TakesWork G = with_worker G (Some c)
  ghost_after c GivesWork G = with_worker G None
  ghost_after c BeginsMoving G = G
  ghost_after c (TakesSecond i) G = with_holder G i (Some c)
  ghost_after c (Leaves j i entry nodes) G = left G j nodes entry
  ghost_after c (Arrives j i entry) G = arrived G i entry
  ghost_after c (CutsOff j entry before) G = cut_off G j before
  ghost_after c Publishes G = published G
  ghost_after c (Retires s) G = retiring G s
  ghost_after c (KeepsWord s d word) G = G
  ghost_after c (Settles s d word) G = retired G s
  ghost_after c (Withdraws j p) G = withdrawn G c j p
  ghost_after c (TakesBack s index bits) G = taken_back G c s index bits
  ghost_after c (Opens d) G = with_from G d (Some G.current)
  ghost_after c (Closes d) G = with_from G d None
  ghost_after c (ReturnsNode n) G = with_owner G n Free

  -- the words as a memory
  abbrev pub mem : List ℕ → Memory
  mem words = word_at env.geometry words

  -- the owners of each port, as the ghost has them
  abbrev pub owners_in : Memory → List ℕ → List ℕ
  owners_in M nodes = map (λ n. owner_of (M (Node n OwnerWord))) nodes

  abbrev pub owners : Memory → Ghost → Multimap
  owners M G port = owners_in M (G.bound port)

  -- What a move needs: to link a node, all that makes it ready, and to be armed, the lock of a bucket in the last table. To take a slot or
  -- pages, that they are free, to give them back, that the caller has them, to attach a table, that the caller has made it, and to enter a
  -- page, that the caller has it. To take the work, that nobody has it, and to do it, that the caller has it, with what the moves of entries and tables need.
  -- To lock a bucket, that the caller's section comes to its table.
  -- To open or close a section, that it is the caller's own. To give a node back, that a call of the caller took it out.
  abbrev pub ReadyFor : ℕ → Memory → Ghost → Move → Type 0
  ReadyFor c M G Quiet = Unit {0}
  ReadyFor c M G (TakesNode n) = G.node n ≡ Free
  ReadyFor c M G (GivesNode n) = G.node n ≡ NodeHeld c
  ReadyFor c M G (TakesLock j) = IsSince (G.from c) (table_at G j)
  ReadyFor c M G (DropsLock j) = Unit {0}
  ReadyFor c M G Raises = Unit {0}
  ReadyFor c M G (Links n port j) = IsReady env mix c n port j M G
  ReadyFor c M G Lowers = Unit {0}
  ReadyFor c M G (Rebinds change) = IsRebinding env mix change M G
  ReadyFor c M G (LinksBehind n) = Unit {0}
  ReadyFor c M G (Arms j) = IsArming env mix c j G
  ReadyFor c M G (TakesSlot s) = G.slot s ≡ SlotFree
  ReadyFor c M G (GivesSlot s) = slot_holder (G.slot s) ≡ Some c
  ReadyFor c M G (TakesPages index bits) = ArePagesOf env mix G index bits PageFree
  ReadyFor c M G (GivesPages index bits) = ArePagesOf env mix G index bits (PageHeld c)
  ReadyFor c M G (Attaches slot shape seed serial) = IsAttaching env mix c slot shape seed serial M G
  ReadyFor c M G (Enters j p) = IsEntering env mix c j p G
  ReadyFor c M G TakesWork = G.worker ≡ None
  ReadyFor c M G GivesWork = G.worker ≡ Some c
  ReadyFor c M G BeginsMoving = G.worker ≡ Some c
  ReadyFor c M G (TakesSecond i) = (G.worker ≡ Some c) × IsSince (G.from c) (table_at G i)
  ReadyFor c M G (Leaves j i entry nodes) = CanLeave env mix c j i entry nodes M G
  ReadyFor c M G (Arrives j i entry) = CanArrive env mix c j i entry M G
  ReadyFor c M G (CutsOff j entry before) = CanCut env mix c j entry before G
  ReadyFor c M G Publishes = CanPublish env mix c G
  ReadyFor c M G (Retires s) = CanRetire env mix c s G
  ReadyFor c M G (KeepsWord s d word) = CanKeep env mix c s G
  ReadyFor c M G (Settles s d word) = CanSettle env mix c s d word M G
  ReadyFor c M G (Withdraws j p) = CanWithdraw env mix c j p G
  ReadyFor c M G (TakesBack s index bits) = CanTakeBack env mix c s index bits G
  ReadyFor c M G (Opens d) = (d ≡ c) × (G.from c ≡ None)
  ReadyFor c M G (Closes d) = d ≡ c
  ReadyFor c M G (ReturnsNode n) = G.node n ≡ Taken c

  -- a move opens no other caller's section, and closes none
  pub other_sections : (c k : ℕ) (move : Move) (M : Memory) (G : Ghost) → ReadyFor c M G move → k ≢ c
      → (ghost_after c move G).from k ≡ G.from k
  other_sections c k (Opens d) M G ready other = put-other G.from d (Some G.current) k (λ e. other (e ∙ ready.0))
  other_sections c k (Closes d) M G mine other = put-other G.from d None k (λ e. other (e ∙ mine))
  other_sections c k _ M G ready other = refl

  -- a caller's section stays open or closed, with its first table, or is opened at the current one, or closed
  abbrev pub SectionTurns : ℕ → Ghost → Ghost → Type 0
  SectionTurns k G G' =
      (G'.from k ≡ G.from k) ⊎ ((G.from k ≡ None) × (G'.from k ≡ Some G'.current)) ⊎ (G'.from k ≡ None)

  pub section_turns : (c k : ℕ) (move : Move) (M : Memory) (G : Ghost) → ReadyFor c M G move
      → SectionTurns k G (ghost_after c move G)
  section_turns c k (Opens d) M G ready =
      let first = Some G.current in
      elim (cases_eq k d) [
        | inl e ↦ inr (inl (ap G.from (e ∙ ready.0) ∙ ready.1, ap (put G.from d first) e ∙ put-same G.from d first))
        | inr ne ↦ inl (put-other G.from d first k ne)
      ]
  section_turns c k (Closes d) M G ready = elim (cases_eq k d) [
    | inl e ↦ inr (inr (ap (put G.from d None) e ∙ put-same G.from d None))
    | inr ne ↦ inl (put-other G.from d None k ne)
  ]
  section_turns c k _ M G ready = inl refl

  -- which operation the move is, and how what the call holds changes by it
  abbrev pub Does : Move → Op → ℕ → Holding → Holding → Type 0
  Does Quiet op old h h' = DoesQuiet env.geometry op old h (bare h')
  Does (TakesNode n) op old h h' = DoesTakeNode env.geometry n op old h (bare h')
  Does (GivesNode n) op old h h' = DoesGiveNode env.geometry n op h (bare h')
  Does (TakesLock j) op old h h' = DoesTakeLock env.geometry (place_at env mix j) op old h (bare h')
  Does (DropsLock j) op old h h' = DoesDropLock env.geometry (place_at env mix j) op old h (bare h')
  Does Raises op old h h' = DoesRaise env.geometry op h (bare h')
  Does (Links n port j) op old h h' = DoesLink env.geometry n (place_at env mix j) op h (bare h')
  Does Lowers op old h h' = DoesLower env.geometry op h (bare h')
  Does (Rebinds change) op old h h' = DoesRebind env.geometry change.raised
      (place_at env mix change.place) change.bucket.holder op h h'
  Does (LinksBehind n) op old h h' = DoesLinkBehind env.geometry n op h (bare h')
  Does (Arms j) op old h h' = DoesQuiet env.geometry op old h (bare h')
  Does (TakesSlot s) op old h h' = DoesTakeSlot env.geometry s op old h (bare h')
  Does (GivesSlot s) op old h h' = DoesGiveSlot env.geometry s op h (bare h')
  Does (TakesPages index bits) op old h h' = DoesTakePages env.geometry index bits op old h (bare h')
  Does (GivesPages index bits) op old h h' = DoesGivePages env.geometry index bits op old h (bare h')
  Does (Attaches slot shape seed serial) op old h h' = DoesAttach env.geometry slot op old h (bare h')
  Does (Enters j p) op old h h' = DoesEnter env.geometry j p op old h (bare h')
  Does TakesWork op old h h' = DoesTakeWork env.geometry op old h (bare h')
  Does GivesWork op old h h' = DoesGiveWork env.geometry op h (bare h')
  Does BeginsMoving op old h h' = DoesBeginMoving env.geometry op old h (bare h')
  Does (TakesSecond i) op old h h' = DoesTakeSecond env.geometry (place_at env mix i) op old h (bare h')
  Does (Leaves j i entry nodes) op old h h' = DoesLeave env.geometry entry op h (bare h')
  Does (Arrives j i entry) op old h h' = DoesArrive env.geometry (place_at env mix i) op h (bare h')
  Does (CutsOff j entry before) op old h h' = DoesCutOff env.geometry (place_at env mix j) before op h (bare h')
  Does Publishes op old h h' = DoesPublish env.geometry op h (bare h')
  Does (Retires s) op old h h' = DoesRetire env.geometry s op h (bare h')
  Does (KeepsWord s d word) op old h h' = DoesKeepWord env.geometry s d word op h (bare h')
  Does (Settles s d word) op old h h' = DoesKeepWord env.geometry s d word op h (bare h')
  Does (Withdraws j p) op old h h' = DoesWithdraw env.geometry j p op old h (bare h')
  Does (TakesBack s index bits) op old h h' = DoesTakeBack env.geometry s index bits op old h (bare h')
  Does (Opens d) op old h h' = DoesOpen env.geometry d op h (bare h')
  Does (Closes d) op old h h' = DoesClose env.geometry d op h (bare h')
  Does (ReturnsNode n) op old h h' = DoesReturnNode env.geometry n op h (bare h')

  -- An operation of a caller in a call, which holds this before it and that after it, with what it knows afterwards.
  -- `early` is for a call that finds a page missing and answers as of its load of a future before, since which others may have bound the port:
  -- what it knows early was so at an event of the call, or the page is there (`There` says so before the operation, and `There'` after it).
  -- A tidying alone gives back nodes that were taken out.
  pub record StepWhere (There There' : Type 0) (c : ℕ) (call : Call) (words : List ℕ) (G : Ghost) (op : Op)
      (h h' : Holding) (Knows : Memory → Ghost → Type 0) : Type 0 where
    pub move : Move
    pub ready : ReadyFor c (mem words) G move
    pub made : Made env mix c (mem words) G (mem (applied words op)) (ghost_after c move G)
    pub does : Does move op (old_of words op) h h'
    pub says : Says env.config.kind c call h.early There (owners (mem words) G)
        (owners (mem (applied words op)) (ghost_after c move G)) h.answer h'.answer
    pub early : KnowsEarly env.config.kind c call There There' (owners (mem (applied words op)) (ghost_after c move G))
        h.early h'.early
    pub right : (answer : Answer) → h.answer ≡ None → h'.answer ≡ Some answer → IsRight call h.node answer
    pub in_time : HasNodeInTime h h'
    pub outs : with_returned move (outs env mix (ghost_after c move G) c + outs_of h.answer) ≡ outs env mix G c + outs_of h'.answer
    pub returning : (n : ℕ) → move ≡ ReturnsNode n → call ≡ Tidy
    pub knows : Knows (mem (applied words op)) (ghost_after c move G)

  -- an operation of a call that nowhere misses a page
  abbrev pub Step : ℕ → Call → List ℕ → Ghost → Op → Holding → Holding → (Memory → Ghost → Type 0) → Type 0
  Step c call words G op h h' Knows = StepWhere ⊥ ⊥ c call words G op h h' Knows

  -- the same step with more said of what the caller knows
  pub step-map : {There There' : Type 0} {c : ℕ} {call : Call} {words : List ℕ} {G : Ghost} {op : Op} {h h' : Holding}
      {Knows More : Memory → Ghost → Type 0}
      → ((M : Memory) (G' : Ghost) → Whole env mix M G' → Knows M G' → More M G')
      → StepWhere There There' c call words G op h h' Knows → StepWhere There There' c call words G op h h' More
  step-map {There} {There'} {c} {call} {words} {G} {op} more step = record {
    move = step.move;
    ready = step.ready;
    made = step.made;
    does = step.does;
    says = step.says;
    early = step.early;
    right = step.right;
    in_time = step.in_time;
    outs = step.outs;
    returning = step.returning;
    knows = more (mem (applied words op)) (ghost_after c step.move G) step.made.whole step.knows;
  }

  -- ---- what the words stand for

  -- the owners of nodes whose owner words stay
  pub owners_in-same : (M M' : Memory) (bound : List ℕ)
      → ((n : ℕ) → In n bound → M' (Node n OwnerWord) ≡ M (Node n OwnerWord)) → owners_in M' bound ≡ owners_in M bound
  owners_in-same M M' [] same = refl
  owners_in-same M M' (n ∷ bound) same =
      ap (λ w. owner_of w ∷ owners_in M' bound) (same n (inl refl))
      ∙ ap (λ rest. owner_of (M (Node n OwnerWord)) ∷ rest)
      (owners_in-same M M' bound (λ m i. same m (inr i)))

  -- the owner of a node to which a port is bound outlives anybody's operation
  pub owners_in-stay : (d : ℕ) (M M' : Memory) (G G' : Ghost) → Whole env mix M G → Made env mix d M G M' G'
      → (port : ℕ) (bound : List ℕ) → G.bound port ≡ bound → owners_in M' bound ≡ owners_in M bound
  owners_in-stay d M M' G G' whole made port bound b =
      let other : suc d ≢ d = λ e. absurd (omega arith) in
      owners_in-same M M' bound (λ n i.
      let is = bound_used env mix M G whole port bound b n i in (made.others (suc d) other).owners n is.0
      is.1)

  -- so an operation that leaves what a port is bound to leaves its owners
  pub owners-stay : (d : ℕ) (M M' : Memory) (G G' : Ghost) → Whole env mix M G → Made env mix d M G M' G'
      → (port : ℕ) → G'.bound port ≡ G.bound port → owners M' G' port ≡ owners M G port
  owners-stay d M M' G G' whole made port same =
      ap (owners_in M') same ∙ owners_in-stay d M M' G G' whole made port (G.bound port) refl

  -- ---- operations that change no bindings

  -- the move binds no port otherwise, and gives back no node that was taken out
  abbrev pub LinksNone : Move → Type 0
  LinksNone Quiet = Unit {0}
  LinksNone (TakesNode n) = Unit {0}
  LinksNone (GivesNode n) = Unit {0}
  LinksNone (TakesLock j) = Unit {0}
  LinksNone (DropsLock j) = Unit {0}
  LinksNone Raises = Unit {0}
  LinksNone (Links n port j) = ⊥
  LinksNone Lowers = Unit {0}
  LinksNone (Rebinds change) = ⊥
  LinksNone (LinksBehind n) = Unit {0}
  LinksNone (Arms j) = Unit {0}
  LinksNone (TakesSlot s) = Unit {0}
  LinksNone (GivesSlot s) = Unit {0}
  LinksNone (TakesPages index bits) = Unit {0}
  LinksNone (GivesPages index bits) = Unit {0}
  LinksNone (Attaches slot shape seed serial) = Unit {0}
  LinksNone (Enters j p) = Unit {0}
  LinksNone TakesWork = Unit {0}
  LinksNone GivesWork = Unit {0}
  LinksNone BeginsMoving = Unit {0}
  LinksNone (TakesSecond i) = Unit {0}
  LinksNone (Leaves j i entry nodes) = Unit {0}
  LinksNone (Arrives j i entry) = Unit {0}
  LinksNone (CutsOff j entry before) = Unit {0}
  LinksNone Publishes = Unit {0}
  LinksNone (Retires s) = Unit {0}
  LinksNone (KeepsWord s d word) = Unit {0}
  LinksNone (Settles s d word) = Unit {0}
  LinksNone (Withdraws j p) = Unit {0}
  LinksNone (TakesBack s index bits) = Unit {0}
  LinksNone (Opens d) = Unit {0}
  LinksNone (Closes d) = Unit {0}
  LinksNone (ReturnsNode n) = ⊥

  -- An operation of a caller that leaves bindings, whatever is known of its call's answer.
  pub record SilentStep (c : ℕ) (words : List ℕ) (G : Ghost) (op : Op) (h h' : Holding) (Knows : Memory
      → Ghost → Type 0)
      : Type 0 where
    pub move : Move
    pub ready : ReadyFor c (mem words) G move
    pub binds_none : LinksNone move
    pub made : Made env mix c (mem words) G (mem (applied words op)) (ghost_after c move G)
    pub does : Does move op (old_of words op) h h'
    pub agree : Agree (owners (mem (applied words op)) (ghost_after c move G)) (owners (mem words) G)
    pub outs : outs env mix (ghost_after c move G) c ≡ outs env mix G c
    pub knows : Knows (mem (applied words op)) (ghost_after c move G)

  -- a node that the caller hasn't taken out, and hasn't then
  pub reowned-outs : (c n : ℕ) (owner : Owner) (G : Ghost) → is_taken_by c (G.node n) ≡ false
      → is_taken_by c owner ≡ false
      → outs env mix (with_owner G n owner) c ≡ outs env mix G c
  reowned-outs c n owner G was now =
      count_below-same (λ m. is_taken_by c (G.node m)) (λ m. is_taken_by c (put G.node n owner m))
      env.geometry.nodes
      (λ m l. put-all (λ i o. is_taken_by c o ≡ is_taken_by c (G.node i)) G.node n owner (now
      ∙ sym was) (λ i ne. refl) m)

  none_returned : (move : Move) (many : ℕ) → LinksNone move → with_returned move many ≡ many
  none_returned (ReturnsNode n) many none = absurd none
  none_returned _ many none = refl

  -- where a move binds no port otherwise, each port is bound to what it was
  same_bound : (c : ℕ) (move : Move) (G : Ghost) (port : ℕ) → LinksNone move
      → (ghost_after c move G).bound port ≡ G.bound port
  same_bound c (Links n k j) G port none = absurd none
  same_bound c (Rebinds change) G port none = absurd none
  same_bound c _ G port none = refl

  -- nor does it take one out of a list
  same_outs : (c : ℕ) (move : Move) (M : Memory) (G : Ghost) → Whole env mix M G → LinksNone move → ReadyFor c M G move
      → outs env mix (ghost_after c move G) c ≡ outs env mix G c
  same_outs c (TakesNode n) M G whole none ready = reowned-outs c n (NodeHeld c) G (ap (is_taken_by c) ready) refl
  same_outs c (GivesNode n) M G whole none ready = reowned-outs c n Free G (ap (is_taken_by c) ready) refl
  same_outs c (Links n k j) M G whole none ready = absurd none
  same_outs c (Rebinds change) M G whole none ready = absurd none
  same_outs c (ReturnsNode n) M G whole none ready = absurd none
  same_outs c (Leaves j i entry nodes) M G whole none can =
      let there : In entry (G.bucket j).nodes = subst (In entry) (sym can.split) (in-middle entry nodes []) in
      reowned-outs c entry (Leaving j) G (ap (is_taken_by c) (whole.owned.member j entry there)) refl
  same_outs c (Arrives j i entry) M G whole none can =
      reowned-outs c entry (First i) G (ap (is_taken_by c) can.leaving) refl
  same_outs c _ M G whole none ready = refl

  pub silent : (c : ℕ) (words : List ℕ) (G : Ghost) (op : Op) (h h' : Holding) (Knows : Memory → Ghost
      → Type 0) (move : Move)
      → Whole env mix (mem words) G → ReadyFor c (mem words) G move → LinksNone move
      → Made env mix c (mem words) G (mem (applied words op)) (ghost_after c move G)
      → Does move op (old_of words op) h h' → Knows (mem (applied words op)) (ghost_after c move G)
      → SilentStep c words G op h h' Knows
  silent c words G op h h' Knows move whole ready none made does knows = record {
    move = move;
    ready = ready;
    binds_none = none;
    made = made;
    does = does;
    agree = λ port. owners-stay c (mem words) (mem (applied words op)) G (ghost_after c move G) whole
        made port (same_bound c move G port none);
    outs = same_outs c move (mem words) G whole none ready;
    knows = knows;
  }

  pub silent-map : {c : ℕ} {words : List ℕ} {G : Ghost} {op : Op} {h h' : Holding} {Knows More : Memory → Ghost → Type 0}
      → ((M : Memory) (G' : Ghost) → Whole env mix M G' → Knows M G' → More M G')
      → SilentStep c words G op h h' Knows → SilentStep c words G op h h' More
  silent-map {c} {words} {G} {op} more step = record {
    move = step.move;
    ready = step.ready;
    binds_none = step.binds_none;
    made = step.made;
    does = step.does;
    agree = step.agree;
    outs = step.outs;
    knows = more (mem (applied words op)) (ghost_after c step.move G) step.made.whole step.knows;
  }

  -- an operation that leaves its word, and what follows from the words as they are
  pub loads : (c : ℕ) (words : List ℕ) (G : Ghost) (op : Op) (h h' : Holding) (Knows : Memory → Ghost
      → Type 0)
      → Whole env mix (mem words) G → word_after (old_of words op) op ≡ old_of words op → HoldsSame h h'
      → Knows (mem words) G → SilentStep c words G op h h' Knows
  loads c words G op h h' Knows whole same holds knows = record {
    move = Quiet;
    ready = tt;
    binds_none = tt;
    made = rw (unchanged words op same) (still env mix c (mem words) G whole);
    does = record { holds = holds; leaves = inl (λ bit l. ap (λ word. bit_at word bit) same) };
    agree = rw (unchanged words op same) (λ port. refl);
    outs = refl;
    knows = rw (unchanged words op same) knows;
  }

  -- the same operation, with something else that is known after it
  pub with_knowledge : (c : ℕ) (words : List ℕ) (G : Ghost) (op : Op) (h h' : Holding)
      (Knows More : Memory → Ghost → Type 0)
      → (step : SilentStep c words G op h h' Knows) → More (mem (applied words op)) (ghost_after c step.move G)
      → SilentStep c words G op h h' More
  with_knowledge c words G op h h' Knows More step more =
      record {
        move = step.move;
        ready = step.ready;
        binds_none = step.binds_none;
        made = step.made;
        does = step.does;
        agree =
            step.agree;
        outs = step.outs;
        knows = more;
      }

  -- ---- with what is known of the answer

  abbrev pub with_known : Holding → Option Answer → Option Answer → Holding
  with_known h answer early = record h { answer = answer; early = early }

  -- and nothing is known of it early
  abbrev pub with_answer : Holding → Option Answer → Holding
  with_answer h answer = with_known h answer None

  does-answered : (move : Move) (op : Op) (old : ℕ) (h h' : Holding) (answer early : Option Answer)
      → LinksNone move
      → Does move op old h h'
      → Does move op old h (with_known h' answer early)
  does-answered (Links n port j) op old h h' answer early none does = absurd none
  does-answered (Rebinds change) op old h h' answer early none does = absurd none
  does-answered (ReturnsNode n) op old h h' answer early none does = absurd none
  does-answered _ op old h h' answer early none does = does

  -- an operation that leaves bindings is a step, with what it says of the answer on the bindings as they are, now and early
  pub answered_where : (There There' : Type 0) (c : ℕ) (call : Call) (words : List ℕ) (G : Ghost) (op : Op) (h h' : Holding)
      (answer early : Option Answer) (Knows : Memory → Ghost → Type 0)
      → TellsOrRecalls env.config.kind c call h.node h.early There (owners (mem words) G) h.answer answer
      → KnowsEarly env.config.kind c call There There' (owners (mem words) G) h.early early
      → HasNodeInTime h (with_known h' answer early)
      → SilentStep c words G op h h' Knows → StepWhere There There' c call words G op h (with_known h' answer early) Knows
  answered_where There There' c call words G op h h' answer early Knows tells knows in_time step =
      let kind = env.config.kind in
      let now = owners (mem words) G in
      let after = owners (mem (applied words op)) (ghost_after c step.move G) in
      record {
        move = step.move;
        ready = step.ready;
        made = step.made;
        does = does-answered step.move op (old_of words op) h h' answer early step.binds_none step.does;
        says = inl (record {
          agree = step.agree;
          said = SaysStill-agree kind c call h.early There now after h.answer answer step.agree
              (told-says kind c call h.node h.early There now h.answer answer tells);
        });
        early = KnowsEarly-agree kind c call There There' now after h.early early step.agree knows;
        right = told-right kind c call h.node h.early There now h.answer answer tells;
        in_time = in_time;
        outs = none_returned step.move _ step.binds_none
            ∙ ap (λ o. o + outs_of h.answer) step.outs
            ∙ ap (λ o. outs env mix G c + o)
            (sym (told-outs kind c call h.node h.early There now h.answer answer tells));
        returning = λ n is. absurd (subst LinksNone is step.binds_none);
        knows = step.knows;
      }

  -- the same where nothing is known early after it
  pub answered : {There There' : Type 0} {c : ℕ} {call : Call} {words : List ℕ} {G : Ghost} {op : Op} {h h' : Holding}
      {Knows : Memory → Ghost → Type 0} (answer : Option Answer)
      → Tells env.config.kind c call h.node (owners (mem words) G) h.answer answer
      → HasNodeInTime h (with_answer h' answer)
      → SilentStep c words G op h h' Knows → StepWhere There There' c call words G op h (with_answer h' answer) Knows
  answered {There} {There'} {c} {call} {words} {G} {op} {h} {h'} {Knows} answer tells in_time step =
      answered_where There There' c call words G op h h' answer None Knows (inl tells)
      (none_early env.config.kind c call There There' (owners (mem words) G) h.early None refl) in_time step

  -- the same with more said of what the caller knows
  pub answered-map : {There There' : Type 0} {c : ℕ} {call : Call} {words : List ℕ} {G : Ghost} {op : Op} {h h' : Holding}
      {Knows More : Memory → Ghost → Type 0} (answer : Option Answer)
      → Tells env.config.kind c call h.node (owners (mem words) G) h.answer answer
      → HasNodeInTime h (with_answer h' answer)
      → ((M : Memory) (G' : Ghost) → Whole env mix M G' → Knows M G' → More M G')
      → SilentStep c words G op h h' Knows → StepWhere There There' c call words G op h (with_answer h' answer) More
  answered-map answer tells in_time more step = answered answer tells in_time (silent-map more step)

  -- a load, after which nothing more is known of the answer, or it is told
  pub reads : {There There' : Type 0} {c : ℕ} {call : Call} {words : List ℕ} {G : Ghost} {op : Op} {h h' : Holding}
      {Knows : Memory → Ghost → Type 0}
      → Whole env mix (mem words) G → word_after (old_of words op) op ≡ old_of words op → HoldsNoneEarly h h'
      → Tells env.config.kind c call h.node (owners (mem words) G) h.answer h'.answer → Knows (mem words) G
      → StepWhere There There' c call words G op h h' Knows
  reads {There} {There'} {c} {call} {words} {G} {op} {h} {h'} {Knows} whole same holds tells knows =
      let none : h'.early ≡ None = ap (λ (x : Holding). x.early) holds in
      let too : HoldsSame h h' = ap bare holds in
      let step = answered_where There There' c call words G op h h' h'.answer h'.early Knows (inl tells)
      (none_early env.config.kind c call There There' (owners (mem words) G) h.early h'.early none)
      (still_has (ap (λ (x : Holding). x.node) holds)) (loads c words G op h h' Knows whole same too knows) in
      record {
        move = step.move;
        ready = step.ready;
        made = step.made;
        does = step.does;
        says = step.says;
        early = step.early;
        right = step.right;
        in_time = record { taken = step.in_time.taken; gone = step.in_time.gone };
        outs = step.outs;
        returning = step.returning;
        knows = step.knows;
      }
