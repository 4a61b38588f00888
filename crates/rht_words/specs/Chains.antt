-- Chains: rows of nodes, each of which leads to the next one.
use Rattle.std.specs.Prelude.{◌≡◌, ℕ, List, [], ◌∷◌}
use Rattle.rht_words.specs.declared.geometry.Geometry.{Geometry}
use Rattle.rht_words.specs.Links.{link_of, head_of}
use Rattle.rht_words.specs.Places.{Node, ChainLink, KeyWord, PageWord, place_of, word_at}

-- the link behind each node, and its key word
abbrev pub chain_in : Geometry → List ℕ → ℕ → ℕ
chain_in g words node = word_at g words (Node node ChainLink)

abbrev pub key_in : Geometry → List ℕ → ℕ → ℕ
key_in g words node = word_at g words (Node node KeyWord)

-- From this link on lie these nodes, in order, and behind the last one is the link `stop`. `chain` says what link is
-- behind each node.
abbrev pub IsSegment : (ℕ → ℕ) → ℕ → List ℕ → ℕ → Type 0
IsSegment chain link [] stop = link ≡ stop
IsSegment chain link (node ∷ nodes) stop = (link ≡ link_of node) × IsSegment chain (chain node) nodes stop

-- the bucket with this one of the pages' words has a chain of these nodes, and behind the last one is the link `stop`
abbrev pub HasChain : Geometry → List ℕ → ℕ → List ℕ → ℕ → Type 0
HasChain g words index nodes stop =
    IsSegment (chain_in g words) (head_of (place_of g (PageWord index))
    (word_at g words (PageWord index))) nodes stop
