-- That a listing lists the owners that its own operations loaded.
use Rattle.std.specs.Prelude.{◌≡◌, ℕ, Bool, true, false, List, [], ◌∷◌, ◌++◌, if◌then◌else◌}
use Rattle.std.specs.List.{AllByRecursion}
use Rattle.rht_words.specs.declared.op.Op.{Op}
use Rattle.rht_words.specs.declared.op.Op.TheVariants.{Load, Store, Exchange, Add, Sub, And, Or}
use Rattle.rht_words.specs.declared.env.Env.{Env}
use Rattle.rht_words.specs.declared.geometry.Geometry.{Geometry}
use Rattle.rht_words.specs.Places.{NodeWord, ChainLink, KeyWord, OwnerWord, ListLink, Address, CurrentTable, WorkLock, PortCount, NextSerial, EnrolledCallers, Spare, Section, Slot, NodeMap, PageMap, Node, PageWord, address_at}
use Rattle.rht_words.specs.Ports.{owner_of}
use Rattle.rht_model.specs.declared.history.Call.TheVariants.{All}
use Rattle.rht_core.specs.declared.event.Event.{Event}
use Rattle.rht_core.specs.Runs.{IsAdmitted}
use Rattle.rht_core.specs.Traces.{Did, Past, traced_of}

-- of a node's words it is the one that says its owner
abbrev pub says_owner : NodeWord → Bool
says_owner OwnerWord = true
says_owner ChainLink = false
says_owner KeyWord = false
says_owner ListLink = false

-- the word is there for the owner of a node
abbrev pub is_owner_word : Address → Bool
is_owner_word (Node node word) = says_owner word
is_owner_word CurrentTable = false
is_owner_word WorkLock = false
is_owner_word PortCount = false
is_owner_word NextSerial = false
is_owner_word EnrolledCallers = false
is_owner_word (Spare place) = false
is_owner_word (Section caller) = false
is_owner_word (Slot slot word) = false
is_owner_word (NodeMap index) = false
is_owner_word (PageMap index) = false
is_owner_word (PageWord index) = false

-- the operation loads the owner of a node
abbrev pub loads_owner : Geometry → Op → Bool
loads_owner g (Load place) = is_owner_word (address_at g place)
loads_owner g (Store place value) = false
loads_owner g (Exchange place old new) = false
loads_owner g (Add place by) = false
loads_owner g (Sub place by) = false
loads_owner g (And place mask) = false
loads_owner g (Or place mask) = false

-- the owner that the operation loaded, where it loaded one
abbrev pub owner_loaded : Geometry → Did → List ℕ
owner_loaded g did = if loads_owner g did.op then owner_of did.old ∷ [] else []

-- the owners that these operations loaded, in their order
abbrev pub owners_loaded : Geometry → List Did → List ℕ
owners_loaded g [] = []
owners_loaded g (did ∷ steps) = owner_loaded g did ++ owners_loaded g steps

-- a listing that has ended lists these: each owner that it loaded, and no other
abbrev pub ListsLoaded : Env → Past → Type 0
ListsLoaded env past = (port : ℕ) → past.done.call ≡ All port → past.done.owners ≡ owners_loaded env.geometry past.steps

module _ (M : Type 0) (mix : ℕ → ℕ → ℕ → ℕ) where
  -- in every run it is so of each call that has ended
  abbrev pub ListedOwners : Type 0
  ListedOwners =
      (env : Env) (events : List Event) (c : ℕ) → IsAdmitted events
      → AllByRecursion (ListsLoaded env) ((traced_of {M = M} mix env events).traces c).past
