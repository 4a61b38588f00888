-- What a call leaves that changes nothing: one that was refused, found its port bound, or found no owner to replace or to
-- release. And what a call leaves that only looks, as a look-up, a listing and a reading of the count, and a resizing that had
-- nothing to do but to give back retired tables. What a bit is, it is by its value at opening and by the calls that turned it an
-- odd number of times, whatever the order of their operations. To a bit that it turned an even number of times a call has added
-- nothing.
use Rattle.std.specs.Prelude.{◌≡◌, ◌≢◌, ℕ, ◌+◌, ◌*◌, ◌/◌, ◌%◌, ◌<◌, ◌≤◌, ◌⊎◌, ◌==◌, Bool, true, Some, List, [], ◌∷◌, ◌++◌, if◌then◌else◌}
use Rattle.std.specs.List.{AllByRecursion, Any}
use Rattle.std.specs.Int.{bit_at}
use Rattle.rht_words.specs.declared.op.Op.TheVariants.{Store, Exchange, Or}
use Rattle.rht_words.specs.declared.env.Env.{Env}
use Rattle.rht_words.specs.declared.geometry.Geometry.{Geometry}
use Rattle.rht_words.specs.Links.{entry_of}
use Rattle.rht_words.specs.Maps.{bit_of}
use Rattle.rht_words.specs.Members.{In}
use Rattle.rht_words.specs.Operations.{op_place, word_after}
use Rattle.rht_words.specs.Places.{NextSerial, Section, Slot, SlotWord, ShapeWord, FutureWord, StateWord, PageMap, PageWord, Node, NodeWord, words_in, place_of}
use Rattle.rht_words.specs.Shapes.{unpacked, size_of}
use Rattle.rht_model.specs.declared.history.Call.{Call}
use Rattle.rht_model.specs.declared.history.Call.TheVariants.{Bind, Work}
use Rattle.rht_model.specs.declared.history.Reply.{Reply}
use Rattle.rht_model.specs.declared.history.Reply.TheVariants.{Exists, Absent, Found, Missing, Listed, Idle, Walked, Counted}
use Rattle.rht_model.specs.Answers.{is_refusal}
use Rattle.rht_arena.specs.Laws.{map_place, map_bit}
use Rattle.rht_arena.specs.RunLaws.{TakesPage, GivesPage}
use Rattle.rht_nest.specs.Place.{nested_place, missing_at}
use Rattle.rht_nest.specs.Tables.{is_nested, pages_of_shape}
use Rattle.rht_core.specs.declared.event.Event.{Event}
use Rattle.rht_core.specs.Runs.{IsAdmitted}
use Rattle.rht_stands.specs.StandsFor.{page_word, shape_of}
use Rattle.rht_core.specs.Sections.{IsInNoSection}
use Rattle.rht_core.specs.Traces.{Did, Past, performed_of, traced_of, behind_call}
use Rattle.rht_core.specs.Seen.{CameTo, words_before}
use Rattle.rht_core.specs.ResizeCauses.{Attaches}
use Rattle.rht_core.specs.Returned.{IsReturn}
use Rattle.rht_core.specs.RunHistories.{ChangesBindings}
pub use Rattle.rht_words.specs.TableWords.{IsTableWord}

-- A call that ends with this reply changes nothing: it was refused, or its port was bound, or it replaced or released no owner. Or it only
-- looked, or had nothing to do.
abbrev pub changes_nothing : Call → Reply → Bool
changes_nothing call (Exists owner) = true
changes_nothing call Absent = true
changes_nothing call (Found owner) = true
changes_nothing call Missing = true
changes_nothing call (Listed len) = true
changes_nothing call Idle = true
changes_nothing call (Walked len next) = true
changes_nothing call (Counted count) = true
changes_nothing call reply = is_refusal reply

-- ---- bits that operations turn

-- whether the operation turned this bit of the word at this place: 1 where it did, and else 0
abbrev pub turned : ℕ → ℕ → Did → ℕ
turned place bit did =
    if op_place did.op == place then (bit_at did.old bit + bit_at (word_after did.old did.op) bit) % 2 else 0

-- how often these operations did
abbrev pub turns : ℕ → ℕ → List Did → ℕ
turns place bit [] = 0
turns place bit (did ∷ steps) = turned place bit did + turns place bit steps

-- ---- what may be left otherwise

-- the operation gives this node back, which was taken until then
pub record GivesBackNode (g : Geometry) (node : ℕ) (did : Did) : Type 0 where
  pub gives : did.op ≡ Or (map_place g node) (bit_of (map_bit node))
  pub taken : bit_at did.old (map_bit node) ≡ 0

-- the operation gives this slot back, which was taken until then
pub record GivesBackSlot (g : Geometry) (slot : ℕ) (did : Did) : Type 0 where
  pub gives : did.op ≡ Store (place_of g (Slot slot StateWord)) 0
  pub taken : did.old ≡ 1

-- a word of a node that these operations gave back
pub record IsOfNodeGiven (g : Geometry) (steps : List Did) (place : ℕ) : Type 0 where
  pub node : ℕ
  pub among : node < g.nodes
  pub given : Any (GivesBackNode g node) steps
  pub word : NodeWord
  pub there : place ≡ place_of g (Node node word)

-- a word of a slot that they gave back, but for the one that says whether the slot is free
pub record IsOfSlotGiven (g : Geometry) (steps : List Did) (place : ℕ) : Type 0 where
  pub slot : ℕ
  pub within : slot < 8
  pub given : Any (GivesBackSlot g slot) steps
  pub word : SlotWord
  pub of_table : IsTableWord word
  pub there : place ≡ place_of g (Slot slot word)

-- the operation stores no shape in this slot
abbrev pub IsNoShapeStore : Geometry → ℕ → Did → Type 0
IsNoShapeStore g slot did = (shape : ℕ) → did.op ≢ Store (place_of g (Slot slot ShapeWord)) shape

-- the last shape that these operations store in this slot is this one
pub record StoresLast (g : Geometry) (slot shape : ℕ) (steps : List Did) : Type 0 where
  pub before : List Did
  pub at : Did
  pub behind : List Did
  pub split : steps ≡ before ++ at ∷ behind
  pub stores : at.op ≡ Store (place_of g (Slot slot ShapeWord)) shape
  pub last : AllByRecursion (IsNoShapeStore g slot) behind

-- one of these operations attached the table of this slot behind another one, when they had stored this shape for it
pub record AttachedWith (g : Geometry) (table slot shape : ℕ) (steps : List Did) : Type 0 where
  pub before : List Did
  pub at : Did
  pub behind : List Did
  pub split : steps ≡ before ++ at ∷ behind
  pub attaches : Attaches g table slot at
  pub stored : StoresLast g slot shape before

-- a word of this slot that is a table's, or that says whether it is free
pub record IsOfSlot (g : Geometry) (slot place : ℕ) : Type 0 where
  pub word : SlotWord
  pub used : IsTableWord word ⊎ (word ≡ StateWord)
  pub there : place ≡ place_of g (Slot slot word)

-- the bit of a page of a table of this shape
pub record IsOfPages (g : Geometry) (shape place bit : ℕ) : Type 0 where
  pub page : ℕ
  pub among : page < g.pages
  pub has : In page (pages_of_shape shape)
  pub there : place ≡ place_of g (PageMap (page / 64))
  pub bit_is : bit ≡ page % 64

-- what is left of a table that these operations attached: the future that leads to it, the words of its slot, and its pages' bits
pub record IsOfAttached (g : Geometry) (steps : List Did) (place bit : ℕ) : Type 0 where
  pub table : ℕ
  pub slot : ℕ
  pub shape : ℕ
  pub attached : AttachedWith g table slot shape steps
  pub of_it : (place ≡ place_of g (Slot table FutureWord)) ⊎ IsOfSlot g slot place ⊎ IsOfPages g shape place bit

-- by these words the table in this slot is nested, and the way to one of its buckets ends at this entry, which leads to no page
pub record IsWaysEnd (g : Geometry) (words : List ℕ) (table entry : ℕ) : Type 0 where
  pub nested : is_nested (shape_of g words table) ≡ true
  pub bucket : ℕ
  pub within : bucket < size_of (unpacked (shape_of g words table))
  pub ends : missing_at (page_word g words) (nested_place g (shape_of g words table) bucket) ≡ Some entry

-- The operations of a call came to a table of which this entry is a way's end. To have come to it is asked since the words of a slot alone
-- don't tell a table that is there from one that was.
pub record IsMissingEntry (g : Geometry) (words : List ℕ) (entry : ℕ) (steps : List Did) : Type 0 where
  pub table : ℕ
  pub table_in : table < 8
  pub came : CameTo g table steps
  pub way : IsWaysEnd g words table entry

-- the operation puts this page behind this entry, which led to none
pub record PutsPage (g : Geometry) (entry page : ℕ) (did : Did) : Type 0 where
  pub page_in : page < g.pages
  pub entry_in : entry < 64 * g.pages
  pub exchanges : did.op ≡ Exchange (place_of g (PageWord entry)) 0 (entry_of page)
  pub found : did.old ≡ 0

-- one of these operations took this page, and none behind it gave it back or put it behind an entry
pub record HasTaken (g : Geometry) (page : ℕ) (steps : List Did) : Type 0 where
  pub before : List Did
  pub at : Did
  pub behind : List Did
  pub split : steps ≡ before ++ at ∷ behind
  pub takes : TakesPage g page (performed_of at)
  pub kept : AllByRecursion (λ did. ¬ GivesPage g page (performed_of did)) behind
  pub unentered : AllByRecursion (λ did. (entry : ℕ) → ¬ PutsPage g entry page did) behind

-- One of these operations entered the page there. Those before it had taken the page, and neither given it back nor entered it. And they
-- had come to a table in which the page was missing.
pub record EnteredWhenTaken (g : Geometry) (words_at : ℕ → List ℕ) (entry page : ℕ) (steps : List Did) : Type 0 where
  pub before : List Did
  pub at : Did
  pub behind : List Did
  pub split : steps ≡ before ++ at ∷ behind
  pub enters : PutsPage g entry page at
  pub missing : IsMissingEntry g (words_at at.index) entry before
  pub took : HasTaken g page before

-- what is left of a page that these operations took and then entered: its entry, and its bit
pub record IsOfEntered (g : Geometry) (words_at : ℕ → List ℕ) (steps : List Did) (place bit : ℕ) : Type 0 where
  pub entry : ℕ
  pub page : ℕ
  pub entered : EnteredWhenTaken g words_at entry page steps
  pub of_it :
      (place ≡ place_of g (PageWord entry)) ⊎ ((place ≡ place_of g (PageMap (page / 64))) × (bit ≡ page % 64))

-- only a bind attaches tables or enters pages, and is refused then
abbrev pub MayAttach : Call → Type 0
MayAttach (Bind port owner once) = Unit {0}
MayAttach _ = ⊥

-- a bit of this caller's section word, but for the lowest one: where the section is opened and closed, each addition of 1 may carry
pub record IsOwnSection (g : Geometry) (c place bit : ℕ) : Type 0 where
  pub there : place ≡ place_of g (Section c)
  pub above : 1 ≤ bit

-- What these operations of a caller's call may leave turned: the next serial, words of nodes and of slots that they gave back, what is of
-- the tables that a bind attached or of the pages that it took and entered, and the higher bits of the caller's own section word. Each
-- address is one of the table's, since places alone don't tell it from a word that isn't there. `words_at` gives the words before the event
-- with each number.
abbrev pub IsExcepted : Geometry → (ℕ → List ℕ) → ℕ → Call → List Did → ℕ → ℕ → Type 0
IsExcepted g words_at c call steps place bit =
    (place ≡ place_of g NextSerial)
    ⊎ IsOfNodeGiven g steps place
    ⊎ IsOfSlotGiven g steps place
    ⊎ (MayAttach call × (IsOfAttached g steps place bit ⊎ IsOfEntered g words_at steps place bit))
    ⊎ IsOwnSection g c place bit

-- These operations turned the bit an even number of times but for one of them, which gives back what the bit says of a retired
-- table: its slot's state, an entry of it, or the bit of a page of it.
pub record IsEvenButReturn (g : Geometry) (words_at : ℕ → List ℕ) (place bit : ℕ) (steps : List Did) : Type 0 where
  pub before : List Did
  pub at : Did
  pub behind : List Did
  pub split : steps ≡ before ++ at ∷ behind
  pub returns : IsReturn g words_at place bit before at behind
  pub even : turns place bit (before ++ behind) % 2 ≡ 0

-- They turned it an even number of times; or they are those of a resizing, and did so but for one that gives back.
abbrev pub IsEvenIn : Geometry → (ℕ → List ℕ) → Call → ℕ → ℕ → List Did → Type 0
IsEvenIn g words_at call place bit steps =
    (turns place bit steps % 2 ≡ 0) ⊎ ((call ≡ Work) × IsEvenButReturn g words_at place bit steps)

module _ (M : Type 0) (mix : ℕ → ℕ → ℕ → ℕ) where
  -- A caller's call has undone what it did, or did nothing. None of its operations changed what the words stand for, and each bit
  -- of each word was turned an even number of times, but for those that may be left turned, and for one operation each by which a
  -- resizing gives back what was a retired table's. So the call holds no lock, and gave back the node that it took. Behind its
  -- last operation the caller is in no read section.
  pub record IsUndone (env : Env) (events : List Event) (c : ℕ) (past : Past) : Type 0 where
    pub bindings : AllByRecursion (λ did. ¬ ChangesBindings M mix env events did) past.steps
    pub even : (place bit : ℕ) → place < words_in env.geometry → bit < 64
        → IsExcepted env.geometry (words_before M mix env events) c past.done.call past.steps place bit
        ⊎ IsEvenIn env.geometry (words_before M mix env events) past.done.call place bit past.steps
    pub section : IsInNoSection env.geometry (words_before M mix env events (behind_call past)) c

  -- in every run each call that has ended, and changes nothing by its reply, has undone what it did
  abbrev pub Refused : Type 0
  Refused =
      (env : Env) (events : List Event) (c : ℕ) → IsAdmitted events
      → AllByRecursion (λ past. changes_nothing past.done.call past.done.reply ≡ true → IsUndone env events c past)
      ((traced_of {M = M} mix env events).traces c).past
