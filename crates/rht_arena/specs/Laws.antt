-- What the machines that take and give back nodes rely on.
use Rattle.std.specs.Prelude.{◌≡◌, ◌≢◌, ◌↔◌, ℕ, ◌+◌, ◌*◌, ◌/◌, ◌%◌, ◌<◌, ◌≤◌, ◌^◌, nat_lt, Option, None, Some, List, [], ◌∷◌, ◌++◌, if◌then◌else◌}
use Rattle.std.specs.List.{All, Any}
use Rattle.std.specs.Int.{bit_at, bit_not, w64}
use Rattle.rht_words.specs.declared.op.Op.{Op}
use Rattle.rht_words.specs.declared.op.Op.TheVariants.{Load, Store, Exchange, Add, Sub, And, Or}
use Rattle.rht_words.specs.declared.machine.Next.TheVariants.{Go, Done}
use Rattle.rht_words.specs.declared.geometry.Geometry.{Geometry}
use Rattle.rht_words.specs.Maps.{bit_of}
use Rattle.rht_words.specs.Places.{NodeMap, map_words, place_of}
use Rattle.rht_words.specs.Operations.{op_place, word_after}
use Rattle.rht_words.specs.Machines.{Performed, Ran, ran}
use Rattle.rht_arena.specs.TakeNode.{TakeNodeModel, take_node_from, take_node_plan, take_node_after, next_word, IsTakeAtIn}
use Rattle.rht_arena.specs.declared.take_node.TakeNodeAt.TheVariants.{MapWord}
use Rattle.rht_arena.specs.GiveNode.{GiveNodeModel, give_node_plan}

-- the word of the node map in which the node has its bit, and which bit of the word that is
abbrev pub map_place : Geometry → ℕ → ℕ
map_place g node = place_of g (NodeMap (node / 64))

abbrev pub map_bit : ℕ → ℕ
map_bit node = node % 64

-- the operation gives the node's bit this value, and leaves the other bits of the word as they were
pub record ChangesBit (g : Geometry) (node value old : ℕ) (op : Op) : Type 0 where
  pub place : op_place op ≡ map_place g node
  pub bit : bit_at (word_after old op) (map_bit node) ≡ value
  pub others : (other : ℕ) → other < 64 → other ≢ map_bit node
      → bit_at (word_after old op) other ≡ bit_at old other

-- the And with all ones but the node's bit
abbrev pub claim_of : Geometry → ℕ → Op
claim_of g node = And (map_place g node) (bit_not w64 (bit_of (map_bit node)))

-- the operation cleared the node's bit, which was set, and no other
pub record IsTaking (g : Geometry) (node old : ℕ) (op : Op) : Type 0 where
  pub within : node < g.nodes
  pub claim : op ≡ claim_of g node
  pub free : bit_at old (map_bit node) ≡ 1
  pub clears : ChangesBit g node 0 old op

-- the operation after which a node is answered took it, and it was free until then
abbrev pub TakenWasFree : Type 0
TakenWasFree =
    (m : TakeNodeModel) (old node : ℕ)
    → IsTakeAtIn m.geometry m.at → (take_node_after m old).1 ≡ Done (Some node)
    → IsTaking m.geometry node old (take_node_plan m)

-- a search for a free node from word `start` of the map on, whose operations find these words
abbrev pub taking_ran : Geometry → ℕ → List ℕ → Ran (Option ℕ)
taking_ran g start olds = ran take_node_plan take_node_after (take_node_from g start) olds

-- ---- what was done, by the answer

-- the operation left the word as it was
abbrev pub LeavesWord : Performed → Type 0
LeavesWord step = word_after step.old step.op ≡ step.old

-- the last operation took this node, and those before it changed no word
pub record OneWasTaken (g : Geometry) (steps : List Performed) (node : ℕ) : Type 0 where
  pub before : List Performed
  pub last : Performed
  pub are : steps ≡ before ++ last ∷ []
  pub taking : IsTaking g node last.old last.op
  pub unchanged : All LeavesWord before

-- what the operations did, by the answer that came of them: none changed a word, or the last one took the node
abbrev pub IsAnsweredBy : Geometry → List Performed → Option ℕ → Type 0
IsAnsweredBy g steps None = All LeavesWord steps
IsAnsweredBy g steps (Some node) = OneWasTaken g steps node

-- whatever words its operations find, the answer says what they did
abbrev pub AnswersSayWhatWasDone : Type 0
AnswersSayWhatWasDone =
    (g : Geometry) (start : ℕ) (olds : List ℕ) (answer : Option ℕ)
    → start < map_words g.nodes
    → All (λ old. old < 2 ^ 64) olds
    → (taking_ran g start olds).next ≡ Done answer
    → IsAnsweredBy g (taking_ran g start olds).steps answer

-- ---- where there is none

-- the operation looks for a free node: it loads a word or clears bits of it, and gives nothing back
abbrev pub IsLook : Op → Type 0
IsLook (Load place) = Unit {0}
IsLook (And place mask) = Unit {0}
IsLook (Store place value) = ⊥
IsLook (Exchange place old new) = ⊥
IsLook (Add place by) = ⊥
IsLook (Sub place by) = ⊥
IsLook (Or place mask) = ⊥

-- the operation looks at the word with the node's bit, and found the node taken
pub record SeesTaken (g : Geometry) (node : ℕ) (step : Performed) : Type 0 where
  pub looks : IsLook step.op
  pub place : op_place step.op ≡ map_place g node
  pub taken : bit_at step.old (map_bit node) ≡ 0

-- none is answered only where each node was seen taken, by some operation
abbrev pub NoneOnlyWhereTaken : Type 0
NoneOnlyWhereTaken =
    (g : Geometry) (start : ℕ) (olds : List ℕ) → start < map_words g.nodes
    → (taking_ran g start olds).next ≡ Done None
    → (node : ℕ) → node < g.nodes → Any (SeesTaken g node) (taking_ran g start olds).steps

-- the operation sees all nodes taken from this one on, up to that one
abbrev pub SeesAllTaken : Geometry → ℕ → ℕ → Performed → Type 0
SeesAllTaken g first end step = (node : ℕ) → first ≤ node → node < end → SeesTaken g node step

-- the operation sees the next nodes taken, from this one on, or none of them; and what is said of the nodes behind is so
pub record SeesNext (g : Geometry) (next : ℕ) (step : Performed) (Behind : ℕ → Type 0) : Type 0 where
  pub end : ℕ
  pub rises : next ≤ end
  pub sees : SeesAllTaken g next end step
  pub behind : Behind end

-- the nodes from `next` up to `until` are seen taken in order: each operation sees some of the next ones, or none, and together they see all
abbrev pub AreSeenInTurn : Geometry → ℕ → ℕ → List Performed → Type 0
AreSeenInTurn g next until [] = until ≤ next
AreSeenInTurn g next until (step ∷ steps) = SeesNext g next step (λ end. AreSeenInTurn g end until steps)

-- and so in two stretches with no operation in both: from `next` up to the last node, and from the first node up to `until`
pub record AreSeenRound (g : Geometry) (next until : ℕ) (steps : List Performed) : Type 0 where
  pub front : List Performed
  pub rear : List Performed
  pub are : steps ≡ front ++ rear
  pub to_last : AreSeenInTurn g next g.nodes front
  pub from_first : AreSeenInTurn g 0 until rear

-- no node is answered exactly where each was seen taken in order, from the first node of the search's first word on
abbrev pub NoneWhereTakenInTurn : Type 0
NoneWhereTakenInTurn =
    (g : Geometry) (start : ℕ) (olds : List ℕ) → start < map_words g.nodes
    → ((taking_ran g start olds).next ≡ Done None)
    ↔ AreSeenRound g (64 * start) (64 * start) (taking_ran g start olds).steps

-- a search from the first word on goes from each word to the next, and ends after the last one
abbrev pub WordsInOrder : Type 0
WordsInOrder =
    (m : TakeNodeModel) (index : ℕ) → m.start ≡ 0
    → next_word m index
    ≡ (if nat_lt (index + 1) (map_words m.geometry.nodes) then (record m { at = MapWord (index + 1) }, Go)
    else (m, Done None))

-- giving a node back sets its bit and no other
abbrev pub GivingSetsOneBit : Type 0
GivingSetsOneBit = (m : GiveNodeModel) (old : ℕ) → ChangesBit m.geometry m.node 1 old (give_node_plan m)
