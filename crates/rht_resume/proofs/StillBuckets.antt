-- What the words of a table that stays as it is show bucket by bucket, and what a walk of one bucket's pairs answers then.
use Rattle.std.proofs.Common.{◌≡◌, ◌≢◌, ℕ, ◌+◌, ◌-◌, ◌<◌, ◌≤◌, Option, Some, None, List, [], map, slice_index}
use Rattle.std.specs.List.{flat_map, range_with_len}
use Rattle.rht_words.specs.declared.geometry.Geometry.{Geometry}
use Rattle.rht_words.specs.declared.op.Op.TheVariants.{Load}
use Rattle.rht_words.specs.Links.{table_of, slot_of}
use Rattle.rht_words.specs.Machines.{Performed}
use Rattle.rht_words.specs.Places.{CurrentTable, Slot, FutureWord, Node, KeyWord, OwnerWord, Section, place_of, word_at}
use Rattle.rht_words.specs.Ports.{port_of, owner_of}
use Rattle.rht_words.specs.Shapes.{unpacked, size_of}
use Rattle.rht_model.specs.declared.history.Cursor.{Cursor}
use Rattle.rht_walk.specs.WalkLaws.{first_bucket}
use Rattle.rht_stands.specs.StandsFor.{bucket_in, bucket_nodes, table_nodes, shape_of}

-- ---- any buckets

-- Where the buckets of a table of this size have these pairs, a walk of limit 1 from there answers these pairs and this cursor: it passes over
-- buckets that have none, shows all pairs of the first one that has some, and goes on behind it; or it comes to the end, where this is so.
module _ (f : ℕ → List (ℕ × ℕ)) (size : ℕ) (AtEnd : Type 0) where
  abbrev pub EndsSo : ℕ → List (ℕ × ℕ) → Option Cursor → Type 0
  EndsSo upto pairs None = (upto ≡ size) × AtEnd
  EndsSo upto pairs (Some cursor) = (cursor.bucket ≡ upto) × (upto < size) × (pairs ≢ [])

  pub record AnswersBy (from : Option Cursor) (pairs : List (ℕ × ℕ)) (next : Option Cursor) : Type 0 where
    pub upto : ℕ
    pub later : first_bucket from < upto
    pub within : upto ≤ size
    pub empty : (b : ℕ) → first_bucket from ≤ b → b + 1 < upto → f b ≡ []
    pub shows : pairs ≡ f (upto - 1)
    pub ends : EndsSo upto pairs next

  -- the pairs of all buckets from this one on
  abbrev pub pairs_up : ℕ → List (ℕ × ℕ)
  pairs_up b = flat_map f (range_with_len b (size - b))

-- ---- the buckets of words

module _ (g : Geometry) (words : List ℕ) where
  -- the pair that a node shows
  abbrev pub pair_at : ℕ → ℕ × ℕ
  pair_at node = (port_of (word_at g words (Node node KeyWord)), owner_of (word_at g words (Node node OwnerWord)))

  -- the current table, and how many buckets it has
  abbrev pub current : ℕ
  current = table_of (word_at g words CurrentTable)

  abbrev pub size_now : ℕ
  size_now = size_of (unpacked (shape_of g words current))

  -- the pairs of a bucket of it, and those of all
  abbrev pub bucket_pairs : ℕ → List (ℕ × ℕ)
  bucket_pairs b = map pair_at (bucket_nodes g words (bucket_in g words (shape_of g words current) b))

  abbrev pub all_bucket_pairs : List (ℕ × ℕ)
  all_bucket_pairs = map pair_at (table_nodes g words current)

  -- no table is behind it
  abbrev pub IsNoneBehind : Type 0
  IsNoneBehind = slot_of (word_at g words (Slot current FutureWord)) ≡ None

  -- an operation that loads a word other than a section word finds that of these words
  abbrev pub FindsHere : Performed → Type 0
  FindsHere step = (place : ℕ) → step.op ≡ Load place → ((caller : ℕ) → caller < 16 → place ≢ place_of g (Section caller))
      → step.old ≡ slice_index words place
