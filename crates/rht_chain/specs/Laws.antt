-- What the machines that change chains rely on.
use Rattle.std.specs.Prelude.{◌≡◌, ◌≢◌, ℕ, ◌+◌, ◌*◌, ◌%◌, ◌^◌, ◌<◌, ◌==◌, Bool, Option, None, Some, List, [], ◌∷◌, ◌++◌, length}
use Rattle.std.specs.List.{All, find, before_first, last_or}
use Rattle.rht_words.specs.declared.op.Op.TheVariants.{Exchange}
use Rattle.rht_words.specs.declared.machine.Next.{Next}
use Rattle.rht_words.specs.declared.machine.Next.TheVariants.{Go, Done}
use Rattle.rht_words.specs.declared.machine.Start.{Start}
use Rattle.rht_words.specs.declared.machine.Start.TheVariants as starts
use Rattle.rht_words.specs.declared.geometry.Geometry.{Geometry}
use Rattle.rht_words.specs.Links.{head_of, plain_of, node_of, link_of}
use Rattle.rht_words.specs.Places.{Address, PageWord, Node, ChainLink, IsAddress, place_of, words_in, word_at}
use Rattle.rht_words.specs.Operations.{old_of, word_after, applied}
use Rattle.rht_words.specs.Chains.{IsSegment, HasChain, chain_in, key_in}
use Rattle.rht_words.specs.Members.{IsDistinct}
use Rattle.rht_words.specs.Machines.{EndsAlone}
use Rattle.rht_chain.specs.declared.locked_walk.Seen.{Seen}
use Rattle.rht_chain.specs.declared.locked_walk.LockedWalkAt.{LockedWalkAt}
use Rattle.rht_chain.specs.declared.locked_walk.LockedWalkAt.TheVariants as at
use Rattle.rht_chain.specs.Lock.{LockModel, lock_plan, lock_after, IsEven}
use Rattle.rht_chain.specs.LockedWalk.{LockedWalkModel, locked_walk_new, locked_walk_plan, locked_walk_after, not_found}
use Rattle.rht_chain.specs.Relink.{RelinkModel, relink_new, relink_plan, relink_after}

-- the operation was an exchange that locked this word, which is even
pub record IsLocked (m : LockModel) (word old : ℕ) : Type 0 where
  pub exchange : lock_plan m ≡ Exchange m.place word (word + 1)
  pub found : old ≡ word
  pub even : word % 2 ≡ 0
  pub locks : word_after old (lock_plan m) ≡ word + 1

-- what the operation did, by what the machine says after it: until it answers it leaves the word as it is
abbrev pub DidAsItSays : LockModel → ℕ → Next ℕ → Type 0
DidAsItSays m old Go = word_after old (lock_plan m) ≡ old
DidAsItSays m old (Done word) = IsLocked m word old

-- a lock is taken by an exchange from an even word alone
abbrev pub LocksEvenWords : Type 0
LocksEvenWords = (m : LockModel) (old : ℕ) → IsEven m.at → DidAsItSays m old (lock_after m old).1

-- whether the node has this key
abbrev pub has_key : (ℕ → ℕ) → ℕ → ℕ → Bool
has_key key_of key node = key_of node == key

-- what is seen where these nodes are passed, and where then the key is found or the chain ends with this link
abbrev pub seen_behind : List ℕ → ℕ → Option ℕ → Seen
seen_behind passed stop None = not_found (last_or None passed) (length passed) stop
seen_behind passed stop (Some node) =
    record { found = Some node; before = last_or None passed; length = length passed + 1; end = link_of node }

-- what is to be seen of a chain of these nodes: its first node with the key, and those before it
abbrev pub seen_in : (ℕ → ℕ) → ℕ → List ℕ → ℕ → Seen
seen_in key_of key nodes stop =
    seen_behind (before_first (has_key key_of key) nodes) stop (find (has_key key_of key) nodes)

-- these nodes were passed, of which none has the key, and then came one that has it
pub record IsFirstWith (key_of : ℕ → ℕ) (key : ℕ) (nodes : List ℕ) (node : ℕ) (seen : Seen) : Type 0 where
  pub passed : List ℕ
  pub behind : List ℕ
  pub split : nodes ≡ passed ++ node ∷ behind
  pub others : All (λ other. key_of other ≢ key) passed
  pub has : key_of node ≡ key
  pub before : seen.before ≡ last_or None passed
  pub length_is : seen.length ≡ length passed + 1
  pub end_is : seen.end ≡ link_of node

-- no node has the key, and the chain's end was seen
pub record HasNone (key_of : ℕ → ℕ) (key : ℕ) (nodes : List ℕ) (stop : ℕ) (seen : Seen) : Type 0 where
  pub others : All (λ other. key_of other ≢ key) nodes
  pub before : seen.before ≡ last_or None nodes
  pub length_is : seen.length ≡ length nodes
  pub end_is : seen.end ≡ stop

-- what a walk has seen is so
abbrev pub IsSeen : (ℕ → ℕ) → ℕ → List ℕ → ℕ → Seen → Option ℕ → Type 0
IsSeen key_of key nodes stop seen None = HasNone key_of key nodes stop seen
IsSeen key_of key nodes stop seen (Some node) = IsFirstWith key_of key nodes node seen

-- what is to be seen of a chain is so
abbrev pub SeenAreFirst : Type 0
SeenAreFirst =
    (key_of : ℕ → ℕ) (key : ℕ) (nodes : List ℕ) (stop : ℕ)
    → IsSeen key_of key nodes stop (seen_in key_of key nodes stop) (seen_in key_of key nodes stop).found

-- where nobody else changes these words, the walk has seen this at its end, and has changed no word
abbrev pub EndsWith : List ℕ → Seen → Start LockedWalkModel Seen → Type 0
EndsWith words seen (starts.Running walk) = EndsAlone locked_walk_plan locked_walk_after walk words seen words
EndsWith words seen (starts.Done at_once) = at_once ≡ seen

-- from this link on lie these nodes of the table, and behind the last one is a link to no node
pub record CanWalk (g : Geometry) (words : List ℕ) (link : ℕ) (nodes : List ℕ) (stop : ℕ) : Type 0 where
  pub segment : IsSegment (chain_in g words) link nodes stop
  pub within : All (λ node. node < g.nodes) nodes
  pub stops : node_of g.nodes stop ≡ None
  pub few : length nodes < 2 ^ 32

-- whatever words there are, a walk sees of its chain what is to be seen
abbrev pub WalksSeeTheirChain : Type 0
WalksSeeTheirChain =
    (g : Geometry) (words : List ℕ) (place word key : ℕ) (nodes : List ℕ) (stop : ℕ)
    → CanWalk g words (head_of place word) nodes stop
    → EndsWith words (seen_in (key_in g words) key nodes stop) (locked_walk_new g place word key)

-- the node at which a walk stands, and the nodes of which it has loaded the key, where it has passed these
abbrev pub node_at : LockedWalkAt → ℕ
node_at (at.Key node) = node
node_at (at.ChainLink node) = node

abbrev pub loaded : List ℕ → LockedWalkAt → List ℕ
loaded passed (at.Key node) = passed
loaded passed (at.ChainLink node) = passed ++ node ∷ []

-- The walk has passed the first of these nodes and stands at the next one. No key that it has loaded is the one that it
-- looks for.
pub record IsWalking (g : Geometry) (words : List ℕ) (nodes : List ℕ) (m : LockedWalkModel) : Type 0 where
  pub geometry : m.geometry ≡ g
  pub passed : List ℕ
  pub behind : List ℕ
  pub split : nodes ≡ passed ++ node_at m.at ∷ behind
  pub others : All (λ node. key_in g words node ≢ m.key) (loaded passed m.at)
  pub before : m.before ≡ last_or None passed
  pub counted : m.length ≡ length (loaded passed m.at)

-- a walk to this key is in the chain, or has seen what there is to see
abbrev pub IsInChain : Geometry → List ℕ → ℕ → List ℕ → ℕ → LockedWalkModel → Next Seen → Type 0
IsInChain g words key nodes stop m Go = (m.key ≡ key) × IsWalking g words nodes m
IsInChain g words key nodes stop m (Done seen) = IsSeen (key_in g words) key nodes stop seen seen.found

abbrev pub BeginsInChain : Geometry → List ℕ → ℕ → List ℕ → ℕ → Start LockedWalkModel Seen → Type 0
BeginsInChain g words key nodes stop (starts.Running walk) = IsInChain g words key nodes stop walk Go
BeginsInChain g words key nodes stop (starts.Done seen) =
    IsSeen (key_in g words) key nodes stop seen seen.found

-- what comes after the walk's operation, where it finds what these words have
abbrev pub stepped : List ℕ → LockedWalkModel → LockedWalkModel × Next Seen
stepped words m = locked_walk_after m (old_of words (locked_walk_plan m))

-- other words have the same links behind these nodes, and the same keys
pub record AreSameIn (g : Geometry) (words other nodes : List ℕ) : Type 0 where
  pub links : All (λ node. chain_in g other node ≡ chain_in g words node) nodes
  pub keys : All (λ node. key_in g other node ≡ key_in g words node) nodes

-- A walk begins in its chain, and each operation that finds what these words have leaves it there. It is there too in
-- other words where the nodes of the chain are the same, so others may change the rest meanwhile.
pub record WalksStayInChain : Type 0 where
  pub begins :
      (g : Geometry) (words : List ℕ) (place word key : ℕ) (nodes : List ℕ) (stop : ℕ)
      → CanWalk g words (head_of place word) nodes stop
      → BeginsInChain g words key nodes stop (locked_walk_new g place word key)
  pub stays :
      (g : Geometry) (words : List ℕ) (link : ℕ) (nodes : List ℕ) (stop : ℕ) (m : LockedWalkModel)
      → CanWalk g words link nodes stop → IsWalking g words nodes m
      → IsInChain g words m.key nodes stop (stepped words m).0 (stepped words m).1
  pub undisturbed :
      (g : Geometry) (words other : List ℕ) (link : ℕ) (nodes : List ℕ) (stop : ℕ) (m : LockedWalkModel)
      → AreSameIn g words other nodes → CanWalk g words link nodes stop → IsWalking g words nodes m
      → CanWalk g other link nodes stop × IsWalking g other nodes m

-- A bucket is locked, whose word was this one, and is to get another chain: these of its nodes stay (`kept`), and behind
-- them come those to which the link leads. No node stands twice, and the last link can be read from a bucket's word.
pub record CanRelink (g : Geometry) (words : List ℕ) (index word : ℕ) (kept : List ℕ) (link : ℕ)
    (behind : List ℕ) (stop : ℕ) : Type 0 where
  pub whole : length words ≡ words_in g
  pub bucket : index < 64 * g.pages
  pub even : word % 2 ≡ 0
  pub locked : word_at g words (PageWord index) ≡ word + 1
  pub middle : ℕ
  pub front : HasChain g words index kept middle
  pub rest : IsSegment (chain_in g words) link behind stop
  pub within : All (λ node. node < g.nodes) (kept ++ behind)
  pub distinct : IsDistinct (kept ++ behind)
  pub comes_back : head_of (place_of g (PageWord index)) (plain_of (place_of g (PageWord index)) stop) ≡ stop

-- the machine that changes the link behind the last node that stays
abbrev pub relinking : Geometry → ℕ → ℕ → List ℕ → ℕ → RelinkModel
relinking g index word kept link = relink_new g (place_of g (PageWord index)) word (last_or None kept) link

-- the words have the bucket's new chain
abbrev pub HasNewChain : Geometry → List ℕ → ℕ → List ℕ → List ℕ → ℕ → Type 0
HasNewChain g words index kept behind stop = HasChain g words index (kept ++ behind) stop

-- With its first operation the bucket has the new chain. At the end it has it, is unlocked, and no other word was
-- changed than the bucket's and the link behind the last node that stays.
pub record IsRelinked (g : Geometry) (words : List ℕ) (index : ℕ) (kept behind : List ℕ) (stop : ℕ)
    (m : RelinkModel) : Type 0 where
  pub at_once : HasNewChain g (applied words (relink_plan m)) index kept behind stop
  pub left : List ℕ
  pub ends : EndsAlone relink_plan (λ machine old. relink_after machine) m words tt left
  pub chain : HasNewChain g left index kept behind stop
  pub unlocked : word_at g left (PageWord index) % 2 ≡ 0
  pub others :
      (other : Address) → IsAddress g other → other ≢ PageWord index
      → ((last : ℕ) → last_or None kept ≡ Some last → other ≢ Node last ChainLink)
      → word_at g left other ≡ word_at g words other

-- by one store a locked bucket gets another chain
abbrev pub RelinksChains : Type 0
RelinksChains =
    (g : Geometry) (words : List ℕ) (index word : ℕ) (kept : List ℕ) (link : ℕ) (behind : List ℕ) (stop : ℕ)
    → CanRelink g words index word kept link behind stop
    → IsRelinked g words index kept behind stop (relinking g index word kept link)
