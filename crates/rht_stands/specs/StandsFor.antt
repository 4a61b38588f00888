-- What the words of a table stand for: which owners each port has, first owner first.
-- It is said of any words. At most eight tables are in force, and no chain and no list has more nodes than there are.
use Rattle.std.specs.Prelude.{◌≡◌, ◌≢◌, ℕ, zero, suc, ◌≤◌, ◌==◌, Bool, Option, None, Some, List, [], ◌∷◌, map, length, slice_index}
use Rattle.std.specs.List.{AllByRecursion, find, flat_map, range_with_len}
use Rattle.rht_words.specs.declared.geometry.Geometry.{Geometry}
use Rattle.rht_words.specs.Members.{IsDistinct}
use Rattle.rht_words.specs.Links.{node_of, table_of, slot_of, head_of}
use Rattle.rht_words.specs.Ports.{word_of, owner_of}
use Rattle.rht_words.specs.Shapes.{size_of, unpacked}
use Rattle.rht_words.specs.Places.{CurrentTable, Slot, ShapeWord, FutureWord, Node, ChainLink, KeyWord, OwnerWord, ListLink, PageWord, word_at}
use Rattle.rht_nest.specs.Place.{place_in}
use Rattle.rht_model.specs.Multimap.{Port, Multimap}

module _ (g : Geometry) (words : List ℕ) where
  -- the current table and those to which futures lead from it
  abbrev pub tables_from : ℕ → Option ℕ → List ℕ
  tables_from zero _ = []
  tables_from (suc left) None = []
  tables_from (suc left) (Some table) = table ∷ tables_from left (slot_of (word_at g words (Slot table FutureWord)))

  abbrev pub in_force : List ℕ
  in_force = tables_from 8 (Some (table_of (word_at g words CurrentTable)))

  -- the nodes along chain links, up to the first link that leads to none
  abbrev pub chain_from : ℕ → Option ℕ → List ℕ
  chain_from zero _ = []
  chain_from (suc left) None = []
  chain_from (suc left) (Some node) = node ∷ chain_from left (node_of g.nodes (word_at g words (Node node ChainLink)))

  -- the words of the pages, by their numbers
  abbrev pub page_word : ℕ → ℕ
  page_word index = word_at g words (PageWord index)

  -- the place of a bucket's word in a table of this shape; there is none where a page is missing on the way to it
  abbrev pub bucket_in : ℕ → ℕ → Option ℕ
  bucket_in shape bucket = place_in page_word g shape bucket

  -- the nodes of a bucket; one that is missing is empty, and so is one whose first link leads to none
  abbrev pub bucket_nodes : Option ℕ → List ℕ
  bucket_nodes None = []
  bucket_nodes (Some place) = chain_from g.nodes (node_of g.nodes (head_of place (slice_index words place)))

  -- the nodes of a table, with its buckets in rising order
  abbrev pub shape_of : ℕ → ℕ
  shape_of table = word_at g words (Slot table ShapeWord)

  abbrev pub table_nodes : ℕ → List ℕ
  table_nodes table =
      flat_map (λ bucket. bucket_nodes (bucket_in (shape_of table) bucket)) (range_with_len 0 (size_of (unpacked (shape_of table))))

  -- the first node with the port's key, with the tables in the order of their futures
  abbrev pub has_key : ℕ → ℕ → Bool
  has_key key node = word_at g words (Node node KeyWord) == key

  abbrev pub first_node : ℕ → Option ℕ
  first_node port = find (has_key (word_of port)) (flat_map table_nodes in_force)

  -- the nodes along list links, up to the first link that leads to none
  abbrev pub list_from : ℕ → Option ℕ → List ℕ
  list_from zero _ = []
  list_from (suc left) None = []
  list_from (suc left) (Some node) = node ∷ list_from left (node_of g.nodes (word_at g words (Node node ListLink)))

  -- the owners of these nodes
  abbrev pub owners_at : List ℕ → List ℕ
  owners_at nodes = map (λ node. owner_of (word_at g words (Node node OwnerWord))) nodes

  abbrev pub owners_from : ℕ → Option ℕ → List ℕ
  owners_from left first = owners_at (list_from left first)

  -- the nodes of a port's list
  abbrev pub nodes_of : ℕ → List ℕ
  nodes_of port = list_from g.nodes (first_node port)

  -- the owners of each port
  abbrev pub stands_for : Multimap
  stands_for port = owners_at (nodes_of port)

-- so many different ports are bound
pub record AreBound (bindings : Multimap) (count : ℕ) : Type 0 where
  pub ports : List Port
  pub distinct : IsDistinct ports
  pub bound : AllByRecursion (λ port. bindings port ≢ []) ports
  pub many : length ports ≡ count

-- so many ports are bound, and no more
pub record AreAllBound (bindings : Multimap) (count : ℕ) : Type 0 where
  pub are : AreBound bindings count
  pub most : (more : ℕ) → AreBound bindings more → more ≤ count
