-- While no table is behind the walked one, or none that it has noticed, a walk shows the owner of each node that it visits. For the nodes
-- that it has shown are all different: in a bucket it comes to lower and lower places. Once it was led out of its table it comes to none of
-- that table's ends any more, and has to begin anew.
use Rattle.std.proofs.Common.{◌≡◌, ◌⊎◌, ℕ, ◌+◌, ◌/◌, ◌<◌, ◌≤◌, Bool, true, List, [], length, map, Some}
use Rattle.rht_words.specs.declared.env.Env.{Env}
use Rattle.rht_words.specs.Members.{In, IsDistinct}
use Rattle.rht_walk.specs.declared.walk.Visit.{Visit}
use Rattle.rht_walk.specs.declared.walk.Chain.{Chain}
use Rattle.rht_walk.specs.declared.walk.WalkEnd.TheVariants as ends
use Rattle.rht_walk.specs.declared.walk.WalkAt.{WalkAt}
use Rattle.rht_walk.specs.declared.walk.WalkAt.TheVariants as at
use Rattle.rht_ghost.proofs.Theory.Ghosts.{Ghost, PageOf, index_at}
use Rattle.rht_ghost.proofs.Theory.Wholes.{word_index}
use Rattle.rht_core.proofs.Finding.Places.{Places}

-- the owners of pairs
abbrev pub owners_of : List (ℕ × ℕ) → List ℕ
owners_of items = map (λ (pair : ℕ × ℕ). pair.1) items

-- a place in an earlier bucket than this one; or in this one, where it isn't lower than that
abbrev pub IsEarlier : ℕ → ℕ → ℕ → Type 0
IsEarlier bucket number at = number < bucket

abbrev pub IsHigher : ℕ → ℕ → ℕ → ℕ → Type 0
IsHigher bucket least number at = (number < bucket) ⊎ ((number ≡ bucket) × (least ≤ at))

module _ (env : Env) (mix : ℕ → ℕ → ℕ → ℕ) (seen : ℕ → Bool) (items : List (ℕ × ℕ)) (loaded : List ℕ) (G : Ghost) (P : Places) where
  -- each owner that was loaded is shown
  abbrev pub AreShown : Type 0
  AreShown = owners_of items ≡ loaded

  pub record IsEmpty : Type 0 where
    pub none : items ≡ []
    pub nothing : loaded ≡ []

  -- the section has met the node, which has such a place in a bucket of the slot's table
  pub record HasStood (slot : ℕ) (Where : ℕ → ℕ → Type 0) (n : ℕ) : Type 0 where
    pub met : seen n ≡ true
    pub number : ℕ
    pub word : ℕ
    pub at : ℕ
    pub here : (G.table (index_at G slot)).place number ≡ Some word
    pub page : G.page (word / 64) ≡ PageOf (index_at G slot)
    pub is : P.place word n ≡ Some at
    pub stood : Where number at

  -- what is shown is of different nodes with such places, and is all that was loaded
  pub record AreShownOnce (slot : ℕ) (Where : ℕ → ℕ → Type 0) : Type 0 where
    pub nodes : List ℕ
    pub counted : length items ≡ length nodes
    pub each : (n : ℕ) → In n nodes → HasStood slot Where n
    pub distinct : IsDistinct nodes
    pub all : AreShown

  -- a table is behind that of the slot
  abbrev pub HasBehind : ℕ → Type 0
  HasBehind slot = index_at G slot + 1 < G.attached

  -- the walk was led out: the node has a place in a bucket of a later table
  pub record IsOut (slot m : ℕ) : Type 0 where
    pub bucket : ℕ
    pub at : ℕ
    pub is : P.place bucket m ≡ Some at
    pub table : ℕ
    pub of : G.page (bucket / 64) ≡ PageOf table
    pub later : index_at G slot < table

  -- the node has a place in the walk's bucket, above which all nodes of that bucket stand that were shown
  pub record IsIn (chain : Chain) (m : ℕ) (least : ℕ → ℕ) : Type 0 where
    pub at : ℕ
    pub is : P.place (word_index env mix chain.place) m ≡ Some at
    pub shown : AreShownOnce chain.visit.table (IsHigher chain.visit.bucket (least at))

  pub record AtNode (chain : Chain) (m : ℕ) (least : ℕ → ℕ) : Type 0 where
    pub here : (G.table (index_at G chain.visit.table)).place chain.visit.bucket ≡ Some (word_index env mix chain.place)
    pub page : G.page (word_index env mix chain.place / 64) ≡ PageOf (index_at G chain.visit.table)
    pub stands : IsOut chain.visit.table m ⊎ IsIn chain m least

  -- before a bucket, and behind one
  abbrev pub BeforeBucket : Visit → Type 0
  BeforeBucket visit = AreShownOnce visit.table (IsEarlier visit.bucket)

  abbrev pub BehindBucket : Visit → Type 0
  BehindBucket visit = AreShownOnce visit.table (IsEarlier (visit.bucket + 1))

  abbrev pub KeepsOwners : WalkAt → Type 0
  KeepsOwners at.Opening = IsEmpty
  KeepsOwners at.CurrentTable = IsEmpty
  KeepsOwners (at.Serial table) = IsEmpty
  KeepsOwners (at.Shape table serial) = IsEmpty
  KeepsOwners (at.Entry visit way) = BeforeBucket visit
  KeepsOwners (at.Heading visit place) = BeforeBucket visit
  KeepsOwners (at.Key chain node) = AtNode chain node (λ at. at + 1)
  KeepsOwners (at.Owner chain node port) = AtNode chain node (λ at. at + 1)
  KeepsOwners (at.Link chain node) = AtNode chain node (λ at. at)
  KeepsOwners (at.StrangeEnd visit) = HasBehind visit.table ⊎ BehindBucket visit
  KeepsOwners (at.TableEnd table) = AreShown
  KeepsOwners (at.Closing (ends.Walked next)) = AreShown
  KeepsOwners (at.Closing (ends.Again table)) = Unit {0}
