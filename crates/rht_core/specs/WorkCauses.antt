-- Why a resizing was answered as it was: what its operations show of that.
-- Every address that a row names is one of the table's words, since places alone don't tell it from a word that isn't there.
-- What a row joins of tables was all found in one read section: a slot may have another table behind that.
use Rattle.std.specs.Prelude.{◌≡◌, ◌≢◌, ◌↔◌, ℕ, ◌<◌, ◌==◌, ◌⊎◌, Bool, true, false, List, [], ◌∷◌, ◌++◌, map, Option, Some, None}
use Rattle.std.specs.List.{AllByRecursion, Any}
use Rattle.rht_words.specs.declared.op.Op.TheVariants.{Store, Exchange}
use Rattle.rht_words.specs.declared.env.Env.{Env}
use Rattle.rht_words.specs.declared.geometry.Geometry.{Geometry}
use Rattle.rht_words.specs.Links.{table_of, slot_of, future_of}
use Rattle.rht_words.specs.Machines.{Performed}
use Rattle.rht_words.specs.Operations.{op_place}
use Rattle.rht_words.specs.Places.{CurrentTable, WorkLock, PortCount, Slot, ShapeWord, FutureWord, place_of, word_at}
use Rattle.rht_words.specs.Shapes.{unpacked, size_of}
use Rattle.rht_nest.specs.MakeLaws.{StoresInSlot}
use Rattle.rht_nest.specs.Tables.{is_nested}
use Rattle.rht_reclaim.specs.ReturnLaws.{AreSlotsSeen}
use Rattle.rht_move.specs.declared.work.choice.Choice.{Choice}
use Rattle.rht_move.specs.declared.work.choice.Choice.TheVariants as choices
use Rattle.rht_core.specs.Due.{due}
use Rattle.rht_core.specs.Seen.{LoadsWord, TurnsSection, TurnsNoSection, AnyInSection}
use Rattle.rht_core.specs.ResizeCauses.{Loaded, Attaches, SawNoRoom}
use Rattle.rht_core.specs.Traces.{Did, performed_of}

-- ---- the work lock

-- the operation tried to take the work lock
abbrev pub TriesWorkLock : Geometry → Did → Type 0
TriesWorkLock g did = did.op ≡ Exchange (place_of g WorkLock) 0 1

-- and found that somebody had it
pub record FindsWorkLocked (g : Geometry) (did : Did) : Type 0 where
  pub tries : TriesWorkLock g did
  pub taken : did.old ≢ 0

-- that was the one operation of the call
pub record SawElsewhere (g : Geometry) (steps : List Did) : Type 0 where
  pub did : Did
  pub only : steps ≡ did ∷ []
  pub finds : FindsWorkLocked g did

-- or took it
pub record TakesWorkLock (g : Geometry) (did : Did) : Type 0 where
  pub tries : TriesWorkLock g did
  pub free : did.old ≡ 0

-- ---- what was chosen

-- the operation loaded the future of the table of this slot, and found that of this one in it, or none
abbrev pub ReadsFuture : Geometry → ℕ → Option ℕ → Did → Type 0
ReadsFuture g table next did = Loaded g (Slot table FutureWord) did.old did × (slot_of did.old ≡ next)

-- the operations loaded one future after another from the table of this slot on, up to that of the last one, which has none
abbrev pub AreFuturesRead : Geometry → ℕ → ℕ → List Did → Type 0
AreFuturesRead g root last [] = ⊥
AreFuturesRead g root last (did ∷ []) = ReadsFuture g root None did × (root ≡ last)
AreFuturesRead g root last (did ∷ next ∷ dids) =
    (slot : ℕ) × ReadsFuture g root (Some slot) did × AreFuturesRead g slot last (next ∷ dids)

-- A resizing of this caller took the work lock. Then it went through the slots, and gave each retired table back whose readers it
-- found to have left (`AreSlotsSeen`). Behind that it opened the caller's own read section and loaded which table is the current
-- one. From there it looked for the last table, loaded that one's shape and the count of ports, and by these chose what is due.
pub record HasChosen (env : Env) (c : ℕ) (choice : Choice) (steps : List Did) : Type 0 where
  pub root : ℕ
  pub last : ℕ
  pub lock : Did
  pub sooner : List Did
  pub opening : Did
  pub current : Did
  pub futures : List Did
  pub shape : Did
  pub count : Did
  pub behind : List Did
  pub split : steps ≡ (lock ∷ sooner) ++ (opening ∷ current ∷ futures) ++ shape ∷ count ∷ behind
  pub took : TakesWorkLock env.geometry lock
  pub returned : AreSlotsSeen env.geometry 0 8 (map performed_of sooner)
  pub opens : TurnsSection env.geometry c opening
  pub current_read : Loaded env.geometry CurrentTable current.old current
  pub root_is : table_of current.old ≡ root
  pub futures_read : AreFuturesRead env.geometry root last futures
  pub shape_read : Loaded env.geometry (Slot last ShapeWord) shape.old shape
  pub count_read : Loaded env.geometry PortCount count.old count
  pub chosen : due env count.old shape.old (root == last) ≡ choice

-- ---- rows

-- A table of this size was due, for which each slot was found taken, or each run of pages in its turn, by a page that the call had not
-- taken, and the current table could not be moved instead: it was the last one, or the last one was nested.
pub record SawNoTableDue (env : Env) (c size : ℕ) (steps : List Did) : Type 0 where
  pub chose : HasChosen env c (choices.Attach size) steps
  pub stays : (chose.root ≡ chose.last) ⊎ (is_nested chose.shape.old ≡ true)
  pub room : SawNoRoom env.geometry size false chose.behind

-- no table was due, and behind this, in the same section, the current table was found to have no future
pub record SawNothingDue (env : Env) (c : ℕ) (steps : List Did) : Type 0 where
  pub chose : HasChosen env c choices.Nothing steps
  pub none : AnyInSection env.geometry (ReadsFuture env.geometry chose.root None) chose.behind

-- ---- what was moved

-- the operation made the table of this slot the current one
pub record StoresCurrent (g : Geometry) (table : ℕ) (did : Did) : Type 0 where
  pub table_in : table < 8
  pub stores : did.op ≡ Store (place_of g CurrentTable) table

-- A resizing made the table of this slot the current one, and these were its operations behind that.
pub record HasPublished (g : Geometry) (table : ℕ) (behind steps : List Did) : Type 0 where
  pub before : List Did
  pub at : Did
  pub split : steps ≡ before ++ at ∷ behind
  pub stored : StoresCurrent g table at

-- the last of the operations on the shape of this slot stored that of a flat table of this size
pub record IsSized (g : Geometry) (slot size : ℕ) (steps : List Performed) : Type 0 where
  pub before : List Performed
  pub at : Performed
  pub behind : List Performed
  pub split : steps ≡ before ++ at ∷ behind
  pub shape : ℕ
  pub stored : StoresInSlot g slot ShapeWord shape at
  pub sized : size_of (unpacked shape) ≡ size
  pub flat : is_nested shape ≡ false
  pub left : AllByRecursion (λ step. op_place step.op ≢ place_of g (Slot slot ShapeWord)) behind

-- the operations attached a flat table of this size behind the last one
pub record HasAttached (g : Geometry) (last size : ℕ) (steps : List Did) : Type 0 where
  pub slot : ℕ
  pub before : List Did
  pub at : Did
  pub behind : List Did
  pub split : steps ≡ before ++ at ∷ behind
  pub attached : Attaches g last slot at
  pub sized : IsSized g slot size (map performed_of before)

-- a table was due, and no flat one of its size was attached behind the last one; one that has to wait isn't attached
abbrev pub IsUnattached : Geometry → ℕ → Choice → List Did → Type 0
IsUnattached g last (choices.Attach size) steps = HasAttached g last size steps → ⊥
IsUnattached g last choices.Later steps = Unit {0}
IsUnattached g last choices.Nothing steps = ⊥

-- A resizing made the table the current one that it had loaded as the future of the one which was current, and then looked for a
-- further one behind that. All this it did in the section in which it chose. It says that there is more to do exactly where it
-- found one, or where a table that was due wasn't attached.
pub record SawPublished (env : Env) (c : ℕ) (again : Bool) (steps : List Did) : Type 0 where
  pub choice : Choice
  pub chose : HasChosen env c choice steps
  pub table : ℕ
  pub behind : List Did
  pub published : HasPublished env.geometry table behind chose.behind
  pub inside : AllByRecursion (TurnsNoSection env.geometry) published.before
  pub followed : Any (ReadsFuture env.geometry chose.root (Some table)) published.before
  pub looked : AnyInSection env.geometry (LoadsWord env.geometry (Slot table FutureWord)) behind
  pub again_right :
      (again ≡ true)
      ↔ (AnyInSection env.geometry (λ did. (next : ℕ) × ReadsFuture env.geometry table (Some next) did) behind
      ⊎ IsUnattached env.geometry chose.last choice chose.behind)

-- the operation stored a word, and not that of the current table
pub record StoresOther (g : Geometry) (did : Did) : Type 0 where
  pub place : ℕ
  pub value : ℕ
  pub stores : did.op ≡ Store place value
  pub other : place ≢ place_of g CurrentTable

-- the operation tried to attach the table of this slot behind that of another, which may have had a future by then
pub record TriesToAttach (g : Geometry) (table slot : ℕ) (did : Did) : Type 0 where
  pub table_in : table < 8
  pub slot_in : slot < 8
  pub exchanges : did.op ≡ Exchange (place_of g (Slot table FutureWord)) 0 (future_of slot)

-- the operations tried to attach a flat table of this size behind the last one
pub record HasTried (g : Geometry) (last size : ℕ) (steps : List Did) : Type 0 where
  pub slot : ℕ
  pub before : List Did
  pub at : Did
  pub behind : List Did
  pub split : steps ≡ before ++ at ∷ behind
  pub tries : TriesToAttach g last slot at
  pub sized : IsSized g slot size (map performed_of before)

-- Where a table was due, and the current one couldn't be moved without it, since it was the last one or the last one had this shape of
-- a nested one, the operations tried to attach one of its size behind the last one.
abbrev pub HasTriedIfNeeded : Geometry → ℕ → ℕ → ℕ → Choice → List Did → Type 0
HasTriedIfNeeded g root last shape choice steps =
    (size : ℕ) → choice ≡ choices.Attach size → (root ≡ last) ⊎ (is_nested shape ≡ true) → HasTried g last size steps

-- Behind its choice, in the same section, a resizing looked anew for the last table behind the current one, which was another
-- one. It loaded that this was nested; nothing is moved to such a table. There the current table was still the one that it had
-- chosen from. Where it couldn't do without the table that was due it had tried to attach that. Behind the load it closed its
-- caller's own read section, once. All its other operations behind the load stored words, and none of them that of the current
-- table. And it says that there is more to do. `words_at` gives the words before the event with each number.
pub record SawStopped (env : Env) (c : ℕ) (words_at : ℕ → List ℕ) (again : Bool) (steps : List Did) : Type 0 where
  pub more : again ≡ true
  pub choice : Choice
  pub chose : HasChosen env c choice steps
  pub tried : HasTriedIfNeeded env.geometry chose.root chose.last chose.shape.old choice chose.behind
  pub last : ℕ
  pub before : List Did
  pub futures : List Did
  pub shape : Did
  pub behind : List Did
  pub split : chose.behind ≡ (before ++ futures) ++ shape ∷ behind
  pub inside : AllByRecursion (TurnsNoSection env.geometry) before
  pub futures_read : AreFuturesRead env.geometry chose.root last futures
  pub apart : chose.root ≢ last
  pub shape_read : Loaded env.geometry (Slot last ShapeWord) shape.old shape
  pub nested : is_nested shape.old ≡ true
  pub current : table_of (word_at env.geometry (words_at shape.index) CurrentTable) ≡ chose.root
  pub front : List Did
  pub closing : Did
  pub rest : List Did
  pub behind_split : behind ≡ front ++ closing ∷ rest
  pub front_stores : AllByRecursion (StoresOther env.geometry) front
  pub closes : TurnsSection env.geometry c closing
  pub rest_stores : AllByRecursion (StoresOther env.geometry) rest

-- A resizing that moved made another table the current one, or stopped before a nested one.
abbrev pub SawMoved : Env → ℕ → (ℕ → List ℕ) → Bool → List Did → Type 0
SawMoved env c words_at again steps = SawPublished env c again steps ⊎ SawStopped env c words_at again steps
