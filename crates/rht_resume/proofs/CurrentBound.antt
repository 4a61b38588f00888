-- What the current table shows where no table is behind it: each port that is bound, once and with its first owner.
-- No entry is on its way out of a bucket then, since it would go into a table behind the current one. So along the chain of a bucket its own
-- nodes are met and no others; no two buckets have one word; and each node that is met is the first one of its port.
use Rattle.std.proofs.Common.{◌≡◌, ◌≢◌, ℕ, zero, suc, ◌+◌, ◌-◌, ◌*◌, ◌<◌, ◌≤◌, false, Option, Some, None, List, [], ◌∷◌, ◌++◌, map, refl, sym, ◌∙◌, ap, subst, inl, inr, arith}
use Rattle.std.proofs.lemmas.Bool.{eqb-true}
use Rattle.std.proofs.lemmas.List.{map-append}
use Rattle.std.specs.List.{AllByRecursion, flat_map, range_with_len}
use Rattle.std.specs.Option.{option_map}
use Rattle.rht_words.specs.declared.env.Env.{Env}
use Rattle.rht_words.specs.declared.geometry.Geometry.{Geometry}
use Rattle.rht_words.specs.Links.{slot_of}
use Rattle.rht_words.specs.Members.{In, IsDistinct}
use Rattle.rht_words.specs.Places.{Slot, FutureWord}
use Rattle.rht_words.specs.Ports.{port_of}
use Rattle.rht_words.specs.Shapes.{unpacked, size_of}
use Rattle.rht_words.proofs.Members.{not_in_from, in_and_not, NotIn-append, In-flat_map, flat_map-In, flat_map-same, range_with_len-In, find-Some}
use Rattle.rht_words.proofs.Memory.{Memory}
use Rattle.rht_stands.specs.StandsFor.{in_force, bucket_in, bucket_nodes, table_nodes, shape_of, has_key, stands_for}
use Rattle.rht_stands.specs.Closing.{nodes_met}
use Rattle.rht_ghost.proofs.Theory.Ghosts.{First, Ghost, is_entry, none-some}
use Rattle.rht_ghost.proofs.Theory.Wholes.{key_of, place_at, Whole, IsThere, current-there}
use Rattle.rht_ghost.proofs.Theory.Entries.{bucket-no_entry, one_bucket}
use Rattle.rht_ghost.proofs.Theory.Passed.{place-word, place-bucket}
use Rattle.rht_ghost.proofs.Theory.PlacesRead.{placed_in_words}
use Rattle.rht_ghost.proofs.Theory.Steps.{mem, owners_in}
use Rattle.rht_core.specs.declared.event.Event.{Event}
use Rattle.rht_core.specs.Runs.{run_of, IsAdmitted}
use Rattle.rht_core.proofs.Meaning.TablesInForce.{current_slot, future-leads, current_on, in_force_is}
use Rattle.rht_core.proofs.Meaning.BoundPorts.{still_met, met_bound, first_bound, stands_for_bound}
use Rattle.rht_core.proofs.Events.InvariantRuns.{has_inv}
use Rattle.rht_resume.proofs.StillBuckets.{pair_at, current, size_now, bucket_pairs, all_bucket_pairs, IsNoneBehind}

-- ---- lists joined

-- what is made of all elements of lists joined is what is made of those of each
map-flat_map : {A : Type 0} (f : ℕ → A) (h : ℕ → List ℕ) (xs : List ℕ) → map f (flat_map h xs) ≡ flat_map (λ x. map f (h x)) xs
map-flat_map f h [] = refl
map-flat_map f h (x ∷ xs) = map-append f (h x) (flat_map h xs) ∙ ap (λ rest. map f (h x) ++ rest) (map-flat_map f h xs)

-- two lists without repeats that have nothing in common are joined to one without repeats
IsDistinct-joined : (xs ys : List ℕ) → IsDistinct xs → IsDistinct ys → ((y : ℕ) → In y xs → In y ys → ⊥) → IsDistinct (xs ++ ys)
IsDistinct-joined [] ys left right apart = right
IsDistinct-joined (x ∷ xs) ys left right apart = (
  NotIn-append x xs ys left.0 (not_in_from x ys (apart x (inl refl))),
  IsDistinct-joined xs ys left.1 right (λ y i. apart y (inr i)),
)

-- and so it is of many, where no number is in two of them
IsDistinct-all : (f : ℕ → List ℕ) (xs : List ℕ) → IsDistinct xs → ((x : ℕ) → In x xs → IsDistinct (f x))
    → ((x z y : ℕ) → In x xs → In z xs → In y (f x) → In y (f z) → x ≡ z) → IsDistinct (flat_map f xs)
IsDistinct-all f [] distinct each one = tt
IsDistinct-all f (x ∷ xs) distinct each one =
    IsDistinct-joined (f x) (flat_map f xs) (each x (inl refl))
    (IsDistinct-all f xs distinct.1 (λ z i. each z (inr i)) (λ z w y i j. one z w y (inr i) (inr j)))
    (λ y here there.
    let from = flat_map-In f y xs there in
    in_and_not x xs (subst (λ z. In z xs) (sym (one x from.0 y (inl refl) (inr from.1) here from.2)) from.1) distinct.0)

-- no number of a range is below its first
range-from : (from n x : ℕ) → In x (range_with_len from n) → from ≤ x
range-from from zero x i = absurd i
range-from from (suc n) x (inl same) = omega (arith, same)
range-from from (suc n) x (inr later) = let low = range-from (from + 1) n x later in omega (arith, low)

-- or stands there twice
range-distinct : (from n : ℕ) → IsDistinct (range_with_len from n)
range-distinct from zero = tt
range-distinct from (suc n) = (
  not_in_from from (range_with_len (from + 1) n)
      (λ there. let low = range-from (from + 1) n from there in omega (arith, low)),
  range-distinct (from + 1) n,
)

-- ---- pairs of nodes

module _ (g : Geometry) (words : List ℕ) where
  -- the port that a node shows
  abbrev port_at : ℕ → ℕ
  port_at node = (pair_at g words node).0

  -- the ports that nodes show
  abbrev ports_of : List ℕ → List ℕ
  ports_of nodes = map (λ (pair : ℕ × ℕ). pair.0) (map (pair_at g words) nodes)

  -- that of each node is among them
  port_shown : (n : ℕ) (nodes : List ℕ) → In n nodes → In (port_at n) (ports_of nodes)
  port_shown n [] i = absurd i
  port_shown n (m ∷ nodes) (inl same) = inl (ap port_at same)
  port_shown n (m ∷ nodes) (inr i) = inr (port_shown n nodes i)

  -- and each of them is that of a node
  port_from : (port : ℕ) (nodes : List ℕ) → In port (ports_of nodes) → (n : ℕ) × In n nodes × (port ≡ port_at n)
  port_from port [] i = absurd i
  port_from port (m ∷ nodes) (inl same) = (m, inl refl, same)
  port_from port (m ∷ nodes) (inr i) = let from = port_from port nodes i in (from.0, inr from.1, from.2)

  -- what holds of the pair of each node holds of their pairs
  pairs_all : (P : ℕ × ℕ → Type 0) (nodes : List ℕ) → ((n : ℕ) → In n nodes → P (pair_at g words n))
      → AllByRecursion P (map (pair_at g words) nodes)
  pairs_all P [] each = tt
  pairs_all P (n ∷ nodes) each = (each n (inl refl), pairs_all P nodes (λ m i. each m (inr i)))

  -- different nodes that show different ports show none twice
  ports_distinct : (nodes : List ℕ) → IsDistinct nodes → ((n m : ℕ) → In n nodes → In m nodes → port_at n ≡ port_at m → n ≡ m)
      → IsDistinct (ports_of nodes)
  ports_distinct [] distinct one = tt
  ports_distinct (n ∷ nodes) distinct one = (
    not_in_from (port_at n) (ports_of nodes) (λ i.
        let from = port_from (port_at n) nodes i in
        in_and_not n nodes (subst (λ m. In m nodes) (sym (one n from.0 (inl refl) (inr from.1) from.2)) from.1) distinct.0),
    ports_distinct nodes distinct.1 (λ m k i j. one m k (inr i) (inr j)),
  )

  -- what the nodes of the current table show is what those of its buckets do
  pairs_by_bucket : all_bucket_pairs g words ≡ flat_map (bucket_pairs g words) (range_with_len 0 (size_now g words))
  pairs_by_bucket =
      map-flat_map (pair_at g words) (λ b. bucket_nodes g words (bucket_in g words (shape_of g words (current g words)) b))
      (range_with_len 0 (size_now g words))

-- ---- where no table is behind the current one

module _ (env : Env) (mix : ℕ → ℕ → ℕ → ℕ) (words : List ℕ) (G : Ghost) (whole : Whole env mix (mem env mix words) G)
    (none : IsNoneBehind env.geometry words) where
  -- how the words are laid out, and what stands at each place
  abbrev g : Geometry
  g = env.geometry

  abbrev memory : Memory
  memory = mem env mix words

  -- the current table is there
  now_there : IsThere G G.current
  now_there = current-there env mix whole.tables

  -- with the slot that the words name
  slot_now : current g words ≡ (G.table G.current).slot
  slot_now = current_slot env mix words G whole

  -- its shape, and how many buckets it has
  abbrev shape : ℕ
  shape = (G.table G.current).shape

  abbrev size : ℕ
  size = size_of (unpacked shape)

  -- which the words of the slot say
  shape_now : shape_of g words (current g words) ≡ shape
  shape_now = ap (shape_of g words) slot_now ∙ (whole.tables.each G.current now_there).shape_is

  -- it is the last one
  is_last : G.current + 1 ≡ G.attached
  is_last = go (G.attached - (G.current + 1)) refl
    where
      go : (count : ℕ) → G.attached - (G.current + 1) ≡ count → G.current + 1 ≡ G.attached
      go zero is = let l = whole.tables.current_in in omega (arith, is, l)
      go (suc count) is =
          let l = whole.tables.current_in in
          let leads = future-leads env mix words G whole G.current (suc count) (omega (arith, is, l)) (current_on env mix words G whole) in
          let leads_nowhere : slot_of (memory (Slot (G.table G.current).slot FutureWord)) ≡ None =
          subst (λ s. slot_of (memory (Slot s FutureWord)) ≡ None) slot_now none in
          absurd (none-some leads_nowhere leads)

  -- so nothing is on its way out of a bucket
  nothing_leaves : (j : ℕ) → (G.bucket j).out ≡ None
  nothing_leaves j = go (G.bucket j).out refl
    where
      go : (out : Option ℕ) → (G.bucket j).out ≡ out → out ≡ None
      go None is = refl
      go (Some entry) is = absurd (elim (whole.moving.out j entry is).owner [
        | inl leaving ↦
            let next = (whole.owned.leaving_at entry j leaving).next in omega (arith, is_last, next.later, next.attached)
        | inr further ↦
            let at = (whole.owned.first_at entry further.bucket further.first).at_home in
            omega (arith, is_last, further.later, at.attached)
      ])

  -- ---- its buckets

  -- the word of a bucket
  abbrev word_of_bucket : ℕ → Option ℕ
  word_of_bucket b = (G.table G.current).place b

  -- it is one of the words of the pages, and no entry
  word_within : (b j : ℕ) → b < size → word_of_bucket b ≡ Some j → j < 64 * g.pages
  word_within b j below is = (place-word env mix memory G whole G.current b j now_there below is).within

  word_plain : (b j : ℕ) → b < size → word_of_bucket b ≡ Some j → is_entry G j ≡ false
  word_plain b j below is = bucket-no_entry env mix G j (place-bucket env mix memory G whole G.current b j now_there below is)

  -- the nodes of a bucket with this word, as the ghost has them
  abbrev nodes_at : Option ℕ → List ℕ
  nodes_at None = []
  nodes_at (Some j) = (G.bucket j).nodes

  -- in each bucket these are met, and no others
  bucket_shows : (b : ℕ) → b < size → bucket_nodes g words (bucket_in g words shape b) ≡ nodes_at (word_of_bucket b)
  bucket_shows b below =
      ap (bucket_nodes g words) (placed_in_words env mix memory G whole G.current b now_there below) ∙ go (word_of_bucket b) refl
    where
      go : (word : Option ℕ) → word_of_bucket b ≡ word
          → bucket_nodes g words (option_map (place_at env mix) word) ≡ nodes_at word
      go None is = refl
      go (Some j) is = still_met env mix words G whole j (word_within b j below is) (word_plain b j below is) (nothing_leaves j)

  -- each number of the range is below the size
  in_size : (b : ℕ) → In b (range_with_len 0 size) → b < size
  in_size b i = let below = range_with_len-In 0 size b i in omega (arith, below)

  -- and so it is of the whole table
  table_shows : table_nodes g words (current g words) ≡ flat_map (λ b. nodes_at (word_of_bucket b)) (range_with_len 0 size)
  table_shows =
      ap (λ s. flat_map (λ b. bucket_nodes g words (bucket_in g words s b)) (range_with_len 0 (size_of (unpacked s)))) shape_now
      ∙ flat_map-same (λ b. bucket_nodes g words (bucket_in g words shape b)) (λ b. nodes_at (word_of_bucket b)) (range_with_len 0 size)
      (λ b i. bucket_shows b (in_size b i))

  -- no node stands twice in a bucket
  bucket_distinct : (b : ℕ) → b < size → IsDistinct (nodes_at (word_of_bucket b))
  bucket_distinct b below = go (word_of_bucket b) refl
    where
      go : (word : Option ℕ) → word_of_bucket b ≡ word → IsDistinct (nodes_at word)
      go None is = tt
      go (Some j) is = (whole.buckets j (word_within b j below is) (word_plain b j below is)).chained.distinct

  -- the word of the bucket is the one in whose chain the node is
  record IsSeatIn (b n : ℕ) : Type 0 where
    pub index : ℕ
    pub word_is : word_of_bucket b ≡ Some index
    pub first : G.node n ≡ First index

  -- so it is of each node of a bucket
  seat_in_bucket : (b n : ℕ) → In n (nodes_at (word_of_bucket b)) → IsSeatIn b n
  seat_in_bucket b n = go (word_of_bucket b) refl
    where
      go : (word : Option ℕ) → word_of_bucket b ≡ word → In n (nodes_at word) → IsSeatIn b n
      go None is i = absurd i
      go (Some j) is i = record { index = j; word_is = is; first = whole.owned.member j n i }

  -- and no node stands in two buckets
  one_seat : (b c n : ℕ) → b < size → c < size → In n (nodes_at (word_of_bucket b)) → In n (nodes_at (word_of_bucket c)) → b ≡ c
  one_seat b c n l m i k =
      let here = seat_in_bucket b n i in
      let there = seat_in_bucket c n k in
      let firsts : First there.index ≡ First here.index = sym there.first ∙ here.first in
      let same : there.index ≡ here.index = cc in
      one_bucket env mix (G.table G.current) G.page G.current (whole.tables.each G.current now_there).placed b c here.index l m
      here.word_is (there.word_is ∙ ap Some same)

  -- so none is met twice in the table
  nodes_distinct : IsDistinct (table_nodes g words (current g words))
  nodes_distinct =
      subst IsDistinct (sym table_shows)
      (IsDistinct-all (λ b. nodes_at (word_of_bucket b)) (range_with_len 0 size) (range-distinct 0 size)
      (λ b i. bucket_distinct b (in_size b i)) (λ b c n i k. one_seat b c n (in_size b i) (in_size c k)))

  -- ---- the ports of its nodes

  -- the nodes that are met in it
  abbrev nodes_now : List ℕ
  nodes_now = table_nodes g words (current g words)

  -- they are those that are met in the tables in force
  met_now : (n : ℕ) → In n nodes_now → In n (nodes_met g words)
  met_now n i = In-flat_map (table_nodes g words) n (current g words) (in_force g words) (inl refl) i

  now_met : (n : ℕ) → In n (nodes_met g words) → In n nodes_now
  now_met n i =
      let from = flat_map-In (table_nodes g words) n (in_force g words) i in
      let is = in_force_is env mix words G whole from.0 from.1 in
      let table : is.table ≡ G.current = (let low = is.current in let high = is.attached in omega (arith, is_last, low, high)) in
      subst (λ s. In n (table_nodes g words s)) (is.slot_is ∙ ap (λ τ. (G.table τ).slot) table ∙ sym slot_now) from.2

  -- the node is the first one to which the port that it shows is bound
  record IsFirstShown (n : ℕ) : Type 0 where
    pub port_is : port_at g words n ≡ key_of memory n
    pub behind : List ℕ
    pub bound_to : G.bound (port_at g words n) ≡ n ∷ behind

  -- and so is each of them
  first_shown : (n : ℕ) → In n nodes_now → IsFirstShown n
  first_shown n i =
      let is = met_bound env mix words G whole n (met_now n i) in
      let small = whole.owned.small (key_of memory n) n is.0 is.1 in
      let same : port_of (key_of memory n) ≡ key_of memory n = omega (arith, small) in
      record { port_is = same; behind = is.0; bound_to = ap G.bound same ∙ is.1 }

  -- each port that is bound is shown
  every_port : (port : ℕ) → stands_for g words port ≢ [] → In port (map (λ (pair : ℕ × ℕ). pair.0) (all_bucket_pairs g words))
  every_port port some = go (G.bound port) refl
    where
      go : (bound : List ℕ) → G.bound port ≡ bound → In port (ports_of g words nodes_now)
      go [] b = absurd (some (stands_for_bound env mix words G whole port ∙ ap (owners_in env mix memory) b))
      go (n ∷ behind) b =
          let member = find-Some (has_key g words port) (nodes_met g words) n (first_bound env mix words G whole port (n ∷ behind) b) in
          let here = now_met n member.0 in
          let key : key_of memory n ≡ port = eqb-true (key_of memory n) port member.1 in
          subst (λ p. In p (ports_of g words nodes_now)) ((first_shown n here).port_is ∙ key) (port_shown g words n nodes_now here)

  -- with its first owner
  abbrev HasFirstOwner : ℕ × ℕ → Type 0
  HasFirstOwner pair = (rest : List ℕ) × (stands_for g words pair.0 ≡ pair.1 ∷ rest)

  each_bound : AllByRecursion HasFirstOwner (all_bucket_pairs g words)
  each_bound = pairs_all g words HasFirstOwner nodes_now (λ n i.
      let is = first_shown n i in (
        owners_in env mix memory is.behind,
        stands_for_bound env mix words G whole (port_at g words n) ∙ ap (owners_in env mix memory) is.bound_to,
      ))

  -- and once
  ports_once : IsDistinct (map (λ (pair : ℕ × ℕ). pair.0) (all_bucket_pairs g words))
  ports_once =
      ports_distinct g words nodes_now nodes_distinct (λ n m i k same.
      let first = first_shown n i in
      let other = first_shown m k in
      let firsts : n ∷ first.behind ≡ m ∷ other.behind = sym first.bound_to ∙ ap G.bound same ∙ other.bound_to in
      cc)

-- ---- in every run

module _ (M : Type 0) (mix : ℕ → ℕ → ℕ → ℕ) (env : Env) (events : List Event) (admitted : IsAdmitted events) where
  -- the words behind its last event
  abbrev words : List ℕ
  words = (run_of {M = M} mix env events).core.words

  -- Where no table is behind the current one, its nodes show each port that the words stand for, once, with its first owner.
  pub record CurrentShows (pairs : List (ℕ × ℕ)) : Type 0 where
    pub every : (port : ℕ) → stands_for env.geometry words port ≢ [] → In port (map (λ (pair : ℕ × ℕ). pair.0) pairs)
    pub bound : AllByRecursion (λ (pair : ℕ × ℕ). (rest : List ℕ) × (stands_for env.geometry words pair.0 ≡ pair.1 ∷ rest)) pairs
    pub once : IsDistinct (map (λ (pair : ℕ × ℕ). pair.0) pairs)

  -- so it is in every run
  pub current_shows : IsNoneBehind env.geometry words → CurrentShows (all_bucket_pairs env.geometry words)
  current_shows none =
      let has = has_inv env mix M events admitted in
      record {
        every = every_port env mix words has.ghost has.inv.whole none;
        bound = each_bound env mix words has.ghost has.inv.whole none;
        once = ports_once env mix words has.ghost has.inv.whole none;
      }

  -- and it is what its buckets show
  pub buckets_show : all_bucket_pairs env.geometry words
      ≡ flat_map (bucket_pairs env.geometry words) (range_with_len 0 (size_now env.geometry words))
  buckets_show = pairs_by_bucket env.geometry words
