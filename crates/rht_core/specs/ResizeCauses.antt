-- Why a bind that found the last table full, or no page for its bucket, was refused or has to be made again: what its operations
-- show of that. Every address that a row names is one of the table's words, since places alone don't tell it from a word that
-- isn't there. What a row joins of one table was all found in one read section: a slot may have another table behind that.
use Rattle.std.specs.Prelude.{◌≡◌, ◌≢◌, ℕ, Bool, true, false, nat_le, Some, ◌*◌, ◌+◌, ◌<◌, ◌≤◌, ◌⊎◌, List, [], ◌∷◌, ◌++◌, length, map, if◌then◌else◌}
use Rattle.std.specs.List.{AllByRecursion, Any}
use Rattle.rht_words.specs.declared.op.Op.{Op}
use Rattle.rht_words.specs.declared.op.Op.TheVariants.{Load, Exchange}
use Rattle.rht_words.specs.declared.env.Env.{Env}
use Rattle.rht_words.specs.declared.geometry.Geometry.{Geometry}
use Rattle.rht_words.specs.Links.{future_of}
use Rattle.rht_words.specs.Machines.{Performed}
use Rattle.rht_words.specs.Operations.{op_place}
use Rattle.rht_words.specs.Places.{Address, PortCount, Slot, SeedWord, FutureWord, StateWord, PageWord, Node, KeyWord, place_of, word_at}
use Rattle.rht_words.specs.Shapes.{unpacked, size_of}
use Rattle.rht_policy.specs.Mix.{bucket_of}
use Rattle.rht_policy.specs.Thresholds.{is_above_75, is_above_100}
use Rattle.rht_arena.specs.RunLaws.{TakesPage, GivesPage, SeesRunTaken}
use Rattle.rht_nest.specs.Place.{nested_place, missing_at}
use Rattle.rht_nest.specs.Tables.{is_nested}
use Rattle.rht_nest.specs.MakeLaws.{SeesSlotTaken, AreSlotsSeenTaken}
use Rattle.rht_core.specs.declared.event.Event.{Event}
use Rattle.rht_stands.specs.StandsFor.{page_word, bucket_in, bucket_nodes, stands_for, AreBound}
use Rattle.rht_core.specs.Traces.{Did, performed_of}
use Rattle.rht_core.specs.Due.{pages_due}
use Rattle.rht_core.specs.Seen.{LoadsWord, LoadsCurrent, TurnsNoSection, LastWalked, SawCount, words_before}

-- the operation loaded this word of the table, and found this value in it
pub record Loaded (g : Geometry) (address : Address) (value : ℕ) (did : Did) : Type 0 where
  pub word : LoadsWord g address did
  pub found : did.old ≡ value

-- an operation that tells what a word of the table was: a load of it, or an exchange
abbrev pub TellsWord : Geometry → Address → Op → Type 0
TellsWord g address op =
    (op ≡ Load (place_of g address)) ⊎ ((old : ℕ) × (new : ℕ) × (op ≡ Exchange (place_of g address) old new))

-- ---- futures

-- the operation attached the table of this slot behind that of another
pub record Attaches (g : Geometry) (table slot : ℕ) (did : Did) : Type 0 where
  pub table_in : table < 8
  pub slot_in : slot < 8
  pub exchanges : did.op ≡ Exchange (place_of g (Slot table FutureWord)) 0 (future_of slot)
  pub found : did.old ≡ 0

-- the operation attached a table
pub record AttachesSome (g : Geometry) (did : Did) : Type 0 where
  pub table : ℕ
  pub slot : ℕ
  pub attaches : Attaches g table slot did

-- the operation found that the table of this slot is the future of another
pub record FindsFuture (g : Geometry) (table slot : ℕ) (did : Did) : Type 0 where
  pub table_in : table < 8
  pub slot_in : slot < 8
  pub tells : TellsWord g (Slot table FutureWord) did.op
  pub found : did.old ≡ future_of slot

-- ---- what wants a further table

-- the operation loads the key of a node
pub record LoadsKey (g : Geometry) (node : ℕ) (did : Did) : Type 0 where
  pub node_in : node < g.nodes
  pub loads : did.op ≡ Load (place_of g (Node node KeyWord))

-- the operation loads the key of no node
abbrev pub IsNoKeyLoad : Geometry → Did → Type 0
IsNoKeyLoad g did = (node : ℕ) → LoadsKey g node did → ⊥

-- where these are the words before the event with each number
module _ (g : Geometry) (words_at : ℕ → List ℕ) (port : ℕ) where
  -- at the event of the operation the port has no owner
  abbrev pub IsUnboundAt : Did → Type 0
  IsUnboundAt did = stands_for g (words_at did.index) port ≡ []

  -- the operation loaded the future of the table in this slot as none, while the port had no owner
  pub record SawNoneBehind (table : ℕ) (did : Did) : Type 0 where
    pub none : Loaded g (Slot table FutureWord) 0 did
    pub unbound : IsUnboundAt did

  -- The operation counted a node in the bucket at this place: it loaded the node's key, which isn't the port's, at its event the node
  -- stood in the bucket behind so many others, and as many ports were bound as these are with it.
  pub record CountsNode (place number node : ℕ) (did : Did) : Type 0 where
    pub loads : LoadsKey g node did
    pub other : did.old ≢ port
    pub front : List ℕ
    pub rear : List ℕ
    pub stands : bucket_nodes g (words_at did.index) (Some place) ≡ front ++ node ∷ rear
    pub as_many : length front ≡ number
    pub bound : AreBound (stands_for g (words_at did.index)) (number + 1)

  -- the operations counted these nodes in the bucket, in their order, from the one with this number on, and loaded no other key
  abbrev pub AreCounted : ℕ → ℕ → List Did → List ℕ → Type 0
  AreCounted place number [] nodes = nodes ≡ []
  AreCounted place number (did ∷ steps) [] = IsNoKeyLoad g did × AreCounted place number steps []
  AreCounted place number (did ∷ steps) (node ∷ nodes) =
      (CountsNode place number node did × AreCounted place (number + 1) steps nodes)
      ⊎ (IsNoKeyLoad g did × AreCounted place number steps (node ∷ nodes))

-- and the table in this slot has this shape
module _ (g : Geometry) (words_at : ℕ → List ℕ) (mix : ℕ → ℕ → ℕ → ℕ) (port table shape : ℕ) where
  -- At the event of the operation the port's bucket in the table has this number, by the table's seed as it then is, and its word is
  -- at this place.
  pub record HasBucketAt (bucket place : ℕ) (did : Did) : Type 0 where
    pub bucket_is : bucket ≡ bucket_of mix port shape (word_at g (words_at did.index) (Slot table SeedWord))
    pub place_is : bucket_in g (words_at did.index) shape bucket ≡ Some place

  -- where the operation loads the key of a node, that is so at its event
  abbrev pub FindsBucketAt : ℕ → ℕ → Did → Type 0
  FindsBucketAt bucket place did = (node : ℕ) → LoadsKey g node did → HasBucketAt bucket place did

  -- Behind the load of the table's shape the call counted nodes, all in the port's bucket of the table: each stood there, as its key was
  -- loaded, which isn't the port's, behind as many others as were counted before. It loaded no other key. And this is so of how many they are.
  pub record SawChain (Many : ℕ → Type 0) (behind : List Did) : Type 0 where
    pub bucket : ℕ
    pub within : bucket < size_of (unpacked shape)
    pub place : ℕ
    pub bucket_is : AllByRecursion (FindsBucketAt bucket place) behind
    pub nodes : List ℕ
    pub counted : AreCounted g words_at port place 0 behind nodes
    pub many : Many (length nodes)

  -- they are 16 or more
  abbrev pub SawLongChain : List Did → Type 0
  SawLongChain = SawChain (λ many. 16 ≤ many)

  -- at the event of the operation the port's bucket in the table has its word at this place, and so many nodes
  pub record IsWhole (place count : ℕ) (did : Did) : Type 0 where
    pub bucket : ℕ
    pub has : HasBucketAt bucket place did
    pub many : length (bucket_nodes g (words_at did.index) (Some place)) ≡ count

  -- Or they are fewer. Then they were all nodes of the bucket at the event of one of the operations.
  pub record SawShortChain (behind : List Did) : Type 0 where
    pub chain : SawChain (λ many. many < 16) behind
    pub whole : Any (IsWhole chain.place (length chain.nodes)) behind

-- where these are the words before the event with each number
module _ (g : Geometry) (words_at : ℕ → List ℕ) where
  -- The operation loaded this entry of the nested table of this shape in this slot, and it leads to no page: by the words before the
  -- event the way to the port's bucket ends there. The bucket's number is by the table's seed as it then is.
  pub record MissesPage (mix : ℕ → ℕ → ℕ → ℕ) (port table shape entry : ℕ) (did : Did) : Type 0 where
    pub entry_in : entry < 64 * g.pages
    pub loads : did.op ≡ Load (place_of g (PageWord entry))
    pub bucket : ℕ
    pub bucket_is : bucket ≡ bucket_of mix port shape (word_at g (words_at did.index) (Slot table SeedWord))
    pub within : bucket < size_of (unpacked shape)
    pub ends : missing_at (page_word g (words_at did.index)) (nested_place g shape bucket) ≡ Some entry

-- a table of this shape with so many ports is to have one of this size behind it: of twice its size where they are more
-- than three quarters of its buckets, and of its own size where they aren't
abbrev pub wanted_size : Env → ℕ → ℕ → ℕ
wanted_size env shape count =
    let size = size_of (unpacked shape) in
    if is_above_75 count size env.config.max then 2 * size else size

-- an operation on the state of a slot found that the slot isn't free
abbrev pub FindsSlotsTaken : Geometry → Performed → Type 0
FindsSlotsTaken g step =
    (slot : ℕ) → slot < 8 → op_place step.op ≡ place_of g (Slot slot StateWord) → SeesSlotTaken g slot step

-- each slot was found not to be free, and no operation did anything else to the state of one
pub record AreSlotsTaken (g : Geometry) (steps : List Performed) : Type 0 where
  pub seen : AreSlotsSeenTaken g steps
  pub only : AllByRecursion (FindsSlotsTaken g) steps

-- the operation sees a page of the run taken, which none of these before it took
pub record SeesRunLost (g : Geometry) (pages first : ℕ) (before : List Performed) (step : Performed) : Type 0 where
  pub sees : SeesRunTaken g pages first step
  pub untaken : AllByRecursion (λ other. TakesPage g sees.page other → ⊥) before

-- Behind these operations each run from this one on is seen taken in its turn, by an operation of its own that finds a page taken
-- which none before it took.
abbrev pub AreRunsTaken : Geometry → ℕ → ℕ → List Performed → List Performed → Type 0
AreRunsTaken g pages next before [] = g.pages < next + pages
AreRunsTaken g pages next before (step ∷ steps) =
    let past = before ++ step ∷ [] in
    AreRunsTaken g pages next past steps
    ⊎ (SeesRunLost g pages next before step × AreRunsTaken g pages (next + pages) past steps)

-- where these are the words before the event with each number
module _ (g : Geometry) (words_at : ℕ → List ℕ) where
  -- A bind of this port is refused for want of a page on the way to the port's bucket: the last table that it walked is nested
  -- and of this size. Behind the load of its shape, in the same section, the bind loaded its future as none, while the port had
  -- no owner. Then, in that section still, it loaded an entry of it that leads to no page, at which the way to the port's bucket
  -- ends. Behind that load each page was seen taken in its turn, and not by an operation of the bind behind the load.
  pub record SawNoPage (mix : ℕ → ℕ → ℕ → ℕ) (port size : ℕ) (steps : List Did) : Type 0 where
    pub table : ℕ
    pub shape : ℕ
    pub walked : LastWalked g table shape steps
    pub nested : is_nested shape ≡ true
    pub size_is : size ≡ size_of (unpacked shape)
    pub before : List Did
    pub at : Did
    pub taking : List Did
    pub split : walked.behind ≡ before ++ at ∷ taking
    pub inside : AllByRecursion (TurnsNoSection g) before
    pub unbound : Any (SawNoneBehind g words_at port table) before
    pub entry : ℕ
    pub missing : MissesPage g words_at mix port table shape entry at
    pub taken : AreRunsTaken g 1 0 [] (map performed_of taking)

-- where one of these operations took the page, one behind it gave it back, which left its bit set
abbrev pub IsGivenBack : Geometry → ℕ → List Performed → Type 0
IsGivenBack g page [] = Unit {0}
IsGivenBack g page (step ∷ steps) = (TakesPage g page step → Any (GivesPage g page) steps) × IsGivenBack g page steps

-- Each run of so many pages was found taken in its turn, and by the operations behind that each page in its. What the first of
-- these had taken they gave back, so that no page counts as found taken which they had taken and still held.
pub record AreRunsThenPagesTaken (g : Geometry) (pages : ℕ) (steps : List Performed) : Type 0 where
  pub flat : List Performed
  pub nested : List Performed
  pub are : steps ≡ flat ++ nested
  pub runs : AreRunsTaken g pages 0 [] flat
  pub back : (page : ℕ) → page < g.pages → IsGivenBack g page flat
  pub tops : AreRunsTaken g 1 0 [] nested

-- no pages were to be had for a table that takes so many, or one where it may be nested
abbrev pub AreNoPages : Geometry → ℕ → Bool → List Performed → Type 0
AreNoPages g pages false steps = AreRunsTaken g pages 0 [] steps
AreNoPages g pages true steps = AreRunsThenPagesTaken g pages steps

-- no slot was to be had for a table of this size, or no pages, neither for a flat one nor, where it may be nested, for a nested
-- one: each was found taken, and not by these operations: none of them had taken it, or those that did gave it back before single
-- pages were looked for
abbrev pub SawNoRoom : Geometry → ℕ → Bool → List Did → Type 0
SawNoRoom g size nests steps =
    AreSlotsTaken g (map performed_of steps) ⊎ AreNoPages g (pages_due size) nests (map performed_of steps)

module _ (M : Type 0) (mix : ℕ → ℕ → ℕ → ℕ) (env : Env) (events : List Event) (c : ℕ) where
  -- a count was loaded that is above the size of a table of this shape, which may grow, while the port had no owner
  pub record SawManyPorts (port shape : ℕ) (did : Did) : Type 0 where
    pub count : ℕ
    pub saw : SawCount M mix env events c count did
    pub above : is_above_100 count (size_of (unpacked shape)) env.config.max ≡ true
    pub unbound : IsUnboundAt env.geometry (words_before M mix env events) port did

  -- the table that was walked last is full for this port: the port's bucket of it has 16 nodes or more, none with the port, or it has
  -- fewer buckets than there are ports and may grow
  abbrev pub SawCrowded : ℕ → ℕ → ℕ → List Did → Type 0
  SawCrowded port table shape behind =
      SawLongChain env.geometry (words_before M mix env events) mix port table shape behind ⊎ Any (SawManyPorts port shape) behind

  -- The table of this slot is the last one that the call walked, and is full for this port: some operations behind the load of
  -- its shape show that, and one comes behind these. One of them loaded the table's future as none, while the port had no owner.
  -- They lie in the section in which the shape was loaded.
  pub record WalkedFull (port table : ℕ) (steps : List Did) : Type 0 where
    pub shape : ℕ
    pub walked : LastWalked env.geometry table shape steps
    pub before : List Did
    pub at : Did
    pub rest : List Did
    pub split : walked.behind ≡ before ++ at ∷ rest
    pub inside : AllByRecursion (TurnsNoSection env.geometry) before
    pub crowded : SawCrowded port table shape before
    pub unbound : Any (SawNoneBehind env.geometry (words_before M mix env events) port table) before

  -- A bind of this port has to be made again for the table of this slot: the last table that it walked is full, and then it attached
  -- that table behind this one, or found it there.
  pub record HasFollowed (port slot : ℕ) (steps : List Did) : Type 0 where
    pub table : ℕ
    pub full : WalkedFull port table steps
    pub seen : Attaches env.geometry table slot full.at ⊎ FindsFuture env.geometry table slot full.at

  -- A bind of this port is refused while tables are moved: the last table that it walked is full and wasn't the current one, by a
  -- count of ports that it loaded that table isn't due to grow, and then it loaded its future as none.
  pub record SawBusy (port root last : ℕ) (steps : List Did) : Type 0 where
    pub full : WalkedFull port last steps
    pub other : root ≢ last
    pub current : Any (LoadsCurrent env.geometry root) full.before
    pub count : ℕ
    pub counted : Any (Loaded env.geometry PortCount count) full.before
    pub not_due : is_above_75 count (size_of (unpacked full.shape)) env.config.max ≡ false
    pub none : Loaded env.geometry (Slot last FutureWord) 0 full.at

  -- A bind of this port is refused for want of a table of this size: the last table that it walked is full, by a count of ports that
  -- it loaded a table of this size is to come behind it, of twice its own or since it is the current one; behind that load it saw no
  -- room for one, and then it loaded the last table's future as none.
  pub record SawNoTable (port size : ℕ) (steps : List Did) : Type 0 where
    pub table : ℕ
    pub full : WalkedFull port table steps
    pub sooner : List Did
    pub counting : Did
    pub making : List Did
    pub parts : full.before ≡ sooner ++ counting ∷ making
    pub count : ℕ
    pub counted : Loaded env.geometry PortCount count counting
    pub wanted : size ≡ wanted_size env full.shape count
    pub grows :
        (is_above_75 count (size_of (unpacked full.shape)) env.config.max ≡ true)
        ⊎ Any (LoadsCurrent env.geometry table) sooner
    pub room : SawNoRoom env.geometry size (nat_le 128 size) making
    pub none : Loaded env.geometry (Slot table FutureWord) 0 full.at
