-- The order in which a search for a free node loads the words of the node map, each at most once.
use Rattle.std.specs.Prelude.{◌≡◌, ℕ, ◌+◌, ◌-◌, ◌<◌, ◌≤◌, nat_lt, None, List, [], ◌∷◌, if◌then◌else◌}
use Rattle.rht_words.specs.declared.op.Op.{Op}
use Rattle.rht_words.specs.declared.op.Op.TheVariants.{Load, Store, Exchange, Add, Sub, And, Or}
use Rattle.rht_words.specs.declared.machine.Next.TheVariants.{Done}
use Rattle.rht_words.specs.declared.geometry.Geometry.{Geometry}
use Rattle.rht_words.specs.Places.{NodeMap, map_words, place_of}
use Rattle.rht_words.specs.Machines.{Performed, Ran}
use Rattle.rht_arena.specs.Laws.{taking_ran}

-- the word that a search from `start` on loads after `count` others, of a map of `words` words: it goes up to the last word and
-- then on from the first
abbrev pub word_turned : ℕ → ℕ → ℕ → ℕ
word_turned words start count = if nat_lt (start + count) words then start + count else start + count - words

-- the operation loads the next word after `count` were loaded, or it claims a bit and loads none; a search has no other operation
abbrev pub LoadsNext : Geometry → ℕ → ℕ → Op → (ℕ → Type 0) → Type 0
LoadsNext g start count (Load place) Behind =
    (place ≡ place_of g (NodeMap (word_turned (map_words g.nodes) start count))) × Behind (count + 1)
LoadsNext g start count (And place mask) Behind = Behind count
LoadsNext g start count (Store place value) Behind = ⊥
LoadsNext g start count (Exchange place old new) Behind = ⊥
LoadsNext g start count (Add place by) Behind = ⊥
LoadsNext g start count (Sub place by) Behind = ⊥
LoadsNext g start count (Or place mask) Behind = ⊥

-- these operations load the words from the `count`-th on up to the `until`-th, in order
abbrev pub LoadsInOrder : Geometry → ℕ → ℕ → ℕ → List Performed → Type 0
LoadsInOrder g start count until [] = count ≡ until
LoadsInOrder g start count until (step ∷ steps) =
    LoadsNext g start count step.op (λ more. LoadsInOrder g start more until steps)

-- the first `loaded` words in this order were loaded, each once; where no node is answered, all words of the map
pub record HasLookedOnce (g : Geometry) (start : ℕ) (olds : List ℕ) : Type 0 where
  pub loaded : ℕ
  pub few : loaded ≤ map_words g.nodes
  pub in_order : LoadsInOrder g start 0 loaded (taking_ran g start olds).steps
  pub all : (taking_ran g start olds).next ≡ Done None → loaded ≡ map_words g.nodes

-- whatever words it finds, a search loads each word of the map at most once
abbrev pub LooksOnce : Type 0
LooksOnce = (g : Geometry) (start : ℕ) (olds : List ℕ) → start < map_words g.nodes → HasLookedOnce g start olds
