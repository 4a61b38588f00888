-- What the words stand for is what the ghost says: the owners of the nodes to which each port is bound.
-- The tables in force are those from the current one on, in the order in which they were attached. Each node that is met in them has a
-- seat: it is in the chain of a bucket, or on its way out of one, and is the first of those to which its port is bound. And each such
-- node is met. So the first one that has a port's key is the first to which the port is bound; the others are met along its list.
use Rattle.std.proofs.Common.{◌≡◌, ℕ, zero, suc, ◌+◌, ◌-◌, ◌*◌, ◌%◌, ◌<◌, ◌≤◌, List, [], ◌∷◌, length, Option, Some, None, true, refl, sym, ◌∙◌, ap, subst, inl, inr, slice_index, arith, ◌++◌, false}
use Rattle.std.proofs.lemmas.Bool.{eqb-true, eq-eqb}
use Rattle.std.proofs.lemmas.Bool.Decides.{nat_tests}
use Rattle.std.proofs.lemmas.List.{append-nil}
use Rattle.std.specs.Prelude.{IfSome}
use Rattle.std.specs.List.{find, flat_map, range_with_len}
use Rattle.rht_words.specs.declared.env.Env.{Env}
use Rattle.rht_words.specs.declared.geometry.Geometry.{Geometry}
use Rattle.rht_words.proofs.Memory.{Memory}
use Rattle.rht_words.specs.Links.{node_of, head_of, link_of, marker_of}
use Rattle.rht_words.specs.Shapes.{unpacked, size_of}
use Rattle.rht_words.specs.Chains.{IsSegment}
use Rattle.rht_words.proofs.ChainLemmas.{IsSegment-append}
use Rattle.rht_words.proofs.LinksRead.{links_tell_apart}
use Rattle.rht_words.specs.Members.{In, IsDistinct, NotIn}
use Rattle.rht_words.proofs.Members.{In-flat_map, flat_map-In, In-range_with_len, range_with_len-In, find-Some, find-None, In-AllByRecursion, count_below-most, length-count_below, not_in_from, In-append_cases, In-append_right, IsDistinct-with}
use Rattle.rht_stands.specs.StandsFor.{in_force, chain_from, bucket_in, bucket_nodes, table_nodes, has_key, first_node, list_from, nodes_of, stands_for, shape_of}
use Rattle.rht_ghost.proofs.Theory.Ghosts.{Ghost, HasSeat, lock_bit, table_at, some-same, First, Leaving, seat_of, seated, is_entry}
use Rattle.rht_ghost.proofs.Theory.Wholes.{chain_of, list_of, key_of, hash_in, home, place_at, Whole, stop, seated_at, IsThere, force-there}
use Rattle.rht_ghost.proofs.Theory.Passed.{hash-below, home-within, held-no_entry, member-no_entry, place-word, place-bucket}
use Rattle.rht_ghost.proofs.Theory.SeatedLinks.{link-next_of, head-seated, chain-seated}
use Rattle.rht_ghost.proofs.Pieces.Lists.{list_among, list_few}
use Rattle.rht_ghost.proofs.Theory.Steps.{mem, owners, owners_in}
use Rattle.rht_ghost.proofs.Theory.Entries.{bucket-no_entry}
use Rattle.rht_ghost.proofs.Theory.PlacesRead.{placed_in_words}
use Rattle.std.specs.Option.{option_map}
use Rattle.rht_core.proofs.Meaning.TablesInForce.{in_force_is, table_in_force}

-- the first of a list
abbrev pub head_or_none : List ℕ → Option ℕ
head_or_none [] = None
head_or_none (x ∷ xs) = Some x

-- ---- one chain

module _ (env : Env) (mix : ℕ → ℕ → ℕ → ℕ) (words : List ℕ) (G : Ghost)
    (whole : Whole env mix (mem env mix words) G) where
  abbrev g : Geometry
  g = env.geometry

  abbrev M : Memory
  M = mem env mix words

  -- a node of a segment is met from the segment's link, where there is fuel for all of them
  segment_met : (left link : ℕ) (nodes : List ℕ) (stop : ℕ) → length nodes ≤ left
      → ((n : ℕ) → In n nodes → n < g.nodes) → IsSegment (chain_of M) link nodes stop
      → (n : ℕ) → In n nodes → In n (chain_from g words left (node_of g.nodes link))
  segment_met left link [] stop fuel among s n i = absurd i
  segment_met zero link (m ∷ nodes) stop fuel among s n i = absurd (omega arith)
  segment_met (suc left) link (m ∷ nodes) stop fuel among s n i =
      rw (ap (node_of g.nodes) s.0 ∙ links_tell_apart.link_names g.nodes m (among m (inl refl)))
      (elim i [
        | inl e ↦ inl e
        | inr k ↦ inr (segment_met left (chain_of M m) nodes stop (omega arith) (λ x j. among x (inr j)) s.1 n k)
      ])

  -- a bucket's word with its lock leads to the same first link
  head_of-locked : (place plain : ℕ) (holder : Option ℕ) → plain % 2 ≡ 0
      → head_of place (plain + lock_bit holder) ≡ head_of place plain
  head_of-locked place plain None even = ap (head_of place) (omega arith)
  head_of-locked place plain (Some c) even = grind (arith, nat_tests, even)

  pub first_link : (j : ℕ) → j < 64 * g.pages → is_entry G j ≡ false
      → head_of (place_at env mix j) (slice_index words (place_at env mix j))
      ≡ head_of (place_at env mix j) (G.bucket j).plain
  first_link j l plain =
      let right = (whole.buckets j l plain).locked in
      ap (head_of (place_at env mix j)) right.word_is
      ∙ head_of-locked (place_at env mix j) (G.bucket j).plain (G.bucket j).holder right.even

  -- ---- which nodes are met

  -- the nodes of a bucket have a seat, and who has one is one of the nodes
  member-seat : (j n : ℕ) → In n (G.bucket j).nodes → HasSeat G n
  member-seat j n i = record { bucket = j; seat = ap seat_of (whole.owned.member j n i) }

  seat-among : (n : ℕ) → HasSeat G n → n < g.nodes
  seat-among n has = (seated_at env mix M G whole n has.bucket has.seat).among

  -- a link that is no other node's leads to a node that has a seat, or to none
  leads_on : (link : ℕ) → ((n : ℕ) → link ≡ link_of n → HasSeat G n)
      → IfSome (node_of g.nodes link) (HasSeat G)
  leads_on link to = go (node_of g.nodes link) refl
    where
      go : (next : Option ℕ) → node_of g.nodes link ≡ next → IfSome next (HasSeat G)
      go None is = tt
      go (Some n) is = to n (link-next_of env link n is)

  -- so each node that is met along chains has a seat
  chain_seats : (left : ℕ) (first : Option ℕ) → IfSome first (HasSeat G) → (n : ℕ)
      → In n (chain_from g words left first) → HasSeat G n
  chain_seats zero first has n i = absurd i
  chain_seats (suc left) None has n i = absurd i
  chain_seats (suc left) (Some m) has n i = elim i [
    | inl e ↦ rw e has
    | inr k ↦ chain_seats left (node_of g.nodes (chain_of M m))
        (leads_on (chain_of M m) (λ z. chain-seated env mix M G whole m z has)) n k
  ]

  bucket_seats : (j n : ℕ) → j < 64 * g.pages → is_entry G j ≡ false → In n (bucket_nodes g words (Some (place_at env mix j)))
      → HasSeat G n
  bucket_seats j n l plain i =
      let head = head_of (place_at env mix j) (G.bucket j).plain in
      chain_seats g.nodes (node_of g.nodes head)
      (leads_on head (λ z. head-seated env mix M G whole j z (whole.buckets j l plain).chained)) n
      (subst (λ link. In n (chain_from g words g.nodes (node_of g.nodes link))) (first_link j l plain) i)

  -- ---- and each node that has a seat is met in its bucket

  distinct_met : (j : ℕ) → j < 64 * g.pages → is_entry G j ≡ false → (nodes : List ℕ) (end : ℕ) → IsDistinct nodes
      → ((n : ℕ) → In n nodes → HasSeat G n)
      → IsSegment (chain_of M) (head_of (place_at env mix j) (G.bucket j).plain) nodes end
      → (n : ℕ) → In n nodes → In n (bucket_nodes g words (Some (place_at env mix j)))
  distinct_met j l plain nodes end distinct seats segment n i =
      let among : (m : ℕ) → In m nodes → m < g.nodes = λ m k. seat-among m (seats m k) in
      let few = length-count_below (λ m. true) g.nodes nodes distinct
      (In-AllByRecursion (λ m. m < g.nodes) nodes among) (λ m k. refl) in
      let most = count_below-most (λ m. true) g.nodes in
      subst (λ link. In n (chain_from g words g.nodes (node_of g.nodes link))) (sym (first_link j l plain))
      (segment_met g.nodes (head_of (place_at env mix j) (G.bucket j).plain) nodes end (omega (arith, few, most))
      among segment n i)

  member_met : (j n : ℕ) → j < 64 * g.pages → In n (G.bucket j).nodes
      → In n (bucket_nodes g words (Some (place_at env mix j)))
  member_met j n l i =
      let plain = member-no_entry env mix M G whole j n i in
      let chained = (whole.buckets j l plain).chained in
      distinct_met j l plain (G.bucket j).nodes (stop env mix (place_at env mix j) (G.bucket j).out) chained.distinct
      (member-seat j) chained.segment n i

  -- an entry on its way is met behind the bucket's nodes, of which it is none
  leaving_met : (j n : ℕ) → j < 64 * g.pages → G.node n ≡ Leaving j
      → In n (bucket_nodes g words (Some (place_at env mix j)))
  leaving_met j n l leaving =
      let at = whole.owned.leaving_at n j leaving in
      let out = whole.moving.out j n at.out in
      let plain = held-no_entry env mix M G whole j out.worker out.holder in
      let chained = (whole.buckets j l plain).chained in
      let nodes = (G.bucket j).nodes in
      let first = head_of (place_at env mix j) (G.bucket j).plain in
      let apart : NotIn n nodes = not_in_from n nodes
      (λ i. let e : First j ≡ Leaving j = sym (whole.owned.member j n i) ∙ leaving in cc) in
      let upto : IsSegment (chain_of M) first nodes (link_of n) =
      subst (λ out. IsSegment (chain_of M) first nodes (stop env mix (place_at env mix j) out)) at.out
      chained.segment in
      distinct_met j l plain (nodes ++ n ∷ []) (chain_of M n)
      (IsDistinct-with nodes n [] (subst IsDistinct (sym (append-nil nodes)) chained.distinct) apart tt)
      (λ m i. elim (In-append_cases m nodes (n ∷ []) i) [
        | inl k ↦ member-seat j m k
        | inr k ↦ elim k [
          | inl e ↦ record { bucket = j; seat = ap seat_of (ap G.node e ∙ leaving) }
          | inr none ↦ absurd none
        ]
      ])
      (IsSegment-append (chain_of M) nodes (n ∷ []) first (link_of n) (chain_of M n) upto (refl, refl))
      n (In-append_right n nodes (n ∷ []) (inl refl))

  seat_met : (n j : ℕ) → j < 64 * g.pages → seat_of (G.node n) ≡ Some j
      → In n (bucket_nodes g words (Some (place_at env mix j)))
  seat_met n j l seat = elim (seated (G.node n) j seat) [
    | inl first ↦ member_met j n l (whole.owned.first_at n j first).there
    | inr leaving ↦ leaving_met j n l leaving
  ]

  -- ---- one table

  size : ℕ → ℕ
  size τ = size_of (unpacked (G.table τ).shape)

  -- the place of its bucket, as the words have it
  place_read : (τ bucket : ℕ) → IsThere G τ → bucket < size τ
      → bucket_in g words (G.table τ).shape bucket ≡ option_map (place_at env mix) ((G.table τ).place bucket)
  unfolding size
  place_read τ bucket is_there below = placed_in_words env mix M G whole τ bucket is_there below

  place-index : (τ bucket j : ℕ) → IsThere G τ → bucket < size τ → (G.table τ).place bucket ≡ Some j
      → bucket_in g words (G.table τ).shape bucket ≡ Some (place_at env mix j)
  place-index τ bucket j is_there below here = place_read τ bucket is_there below ∙ ap (option_map (place_at env mix)) here

  -- a bucket that has a word has it among those of the pages, and it is no entry
  pub record IsBucketAt (place : ℕ) : Type 0 where
    pub index : ℕ
    pub within : index < 64 * g.pages
    pub plain : is_entry G index ≡ false
    pub place_is : place ≡ place_at env mix index

  bucket_word : (τ bucket place : ℕ) → IsThere G τ → bucket < size τ
      → bucket_in g words (G.table τ).shape bucket ≡ Some place → IsBucketAt place
  unfolding size
  bucket_word τ bucket place is_there below there = go ((G.table τ).place bucket) refl
      (sym (place_read τ bucket is_there below) ∙ there)
    where
      go : (word : Option ℕ) → (G.table τ).place bucket ≡ word → option_map (place_at env mix) word ≡ Some place
          → IsBucketAt place
      go None e is = absurd (cc)
      go (Some j) e is = record {
        index = j;
        within = (place-word env mix M G whole τ bucket j is_there below e).within;
        plain = bucket-no_entry env mix G j (place-bucket env mix M G whole τ bucket j is_there below e);
        place_is = sym (some-same (place_at env mix j) place is);
      }

  pub bucket-within : (τ bucket place : ℕ) → IsThere G τ
      → bucket < size_of (unpacked (shape_of g words (G.table τ).slot))
      → bucket_in g words (shape_of g words (G.table τ).slot) bucket ≡ Some place → IsBucketAt place
  unfolding size
  bucket-within τ bucket place is_there below there =
      let shape = (whole.tables.each τ is_there).shape_is in
      bucket_word τ bucket place is_there (subst (λ s. bucket < size_of (unpacked s)) shape below)
      (subst (λ s. bucket_in g words s bucket ≡ Some place) shape there)

  -- ---- a bucket that is locked

  -- along a segment its nodes are met, and where no node is behind it, no others
  chain_met : (left link : ℕ) (nodes : List ℕ) (end : ℕ) → length nodes ≤ left → ((n : ℕ) → In n nodes → n < g.nodes)
      → IsSegment (chain_of M) link nodes end → node_of g.nodes end ≡ None
      → chain_from g words left (node_of g.nodes link) ≡ nodes
  chain_met left link [] end fuel among s none = rw (ap (node_of g.nodes) s ∙ none) (none_met left)
    where
      none_met : (fuel : ℕ) → chain_from g words fuel None ≡ []
      none_met zero = refl
      none_met (suc fuel) = refl
  chain_met zero link (n ∷ nodes) end fuel among s none = absurd (omega arith)
  chain_met (suc left) link (n ∷ nodes) end fuel among s none =
      rw (ap (node_of g.nodes) s.0 ∙ links_tell_apart.link_names g.nodes n (among n (inl refl)))
      (ap (λ rest. n ∷ rest)
      (chain_met left (chain_of M n) nodes end (omega arith) (λ m i. among m (inr i)) s.1 none))

  -- the nodes that are met in a bucket out of which no entry is on its way are the bucket's
  pub still_met : (j : ℕ) → j < 64 * g.pages → is_entry G j ≡ false → (G.bucket j).out ≡ None
      → bucket_nodes g words (Some (place_at env mix j)) ≡ (G.bucket j).nodes
  still_met j l plain still =
      let place = place_at env mix j in
      let nodes = (G.bucket j).nodes in
      let first = head_of place (G.bucket j).plain in
      let chained = (whole.buckets j l plain).chained in
      let among : (m : ℕ) → In m nodes → m < g.nodes = λ m k. seat-among m (member-seat j m k) in
      let few = length-count_below (λ m. true) g.nodes nodes chained.distinct
      (In-AllByRecursion (λ m. m < g.nodes) nodes among) (λ m k. refl) in
      let most = count_below-most (λ m. true) g.nodes in
      ap (λ link. chain_from g words g.nodes (node_of g.nodes link)) (first_link j l plain)
      ∙ chain_met g.nodes first nodes (marker_of place) (omega (arith, few, most)) among
      (subst (λ out. IsSegment (chain_of M) first nodes (stop env mix place out)) still chained.segment)
      (links_tell_apart.marker_names_no_node g.nodes place)

  -- the bucket of a port in a table is the one with this number
  pub home_place : (port τ j : ℕ) → IsThere G τ → home env mix G port τ ≡ Some j
      → bucket_in g words (G.table τ).shape (hash_in env mix G port τ) ≡ Some (place_at env mix j)
  unfolding size
  home_place port τ j is_there here =
      place-index τ (hash_in env mix G port τ) j is_there (hash-below env mix M G whole port τ) here

  -- ---- all nodes that are met

  -- a bucket of a table in force is one of the words of the pages
  pub bucket_in_force : (slot bucket place : ℕ) → In slot (in_force g words)
      → bucket < size_of (unpacked (shape_of g words slot))
      → bucket_in g words (shape_of g words slot) bucket ≡ Some place → IsBucketAt place
  bucket_in_force slot bucket place i below there =
      let is = in_force_is env mix words G whole slot i in
      bucket-within is.table bucket place (force-there env mix whole.tables is.table is.current is.attached)
      (subst (λ s. bucket < size_of (unpacked (shape_of g words s))) is.slot_is below)
      (subst (λ s. bucket_in g words (shape_of g words s) bucket ≡ Some place) is.slot_is there)

  abbrev all_nodes : List ℕ
  all_nodes = flat_map (table_nodes g words) (in_force g words)

  -- the buckets of a table
  abbrev buckets_in : ℕ → ℕ → List ℕ
  buckets_in shape bucket = bucket_nodes g words (bucket_in g words shape bucket)

  table_seats : (τ n : ℕ) → IsThere G τ → In n (table_nodes g words (G.table τ).slot) → HasSeat G n
  unfolding size
  table_seats τ n is_there i =
      let shape = (G.table τ).shape in
      let there : In n (flat_map (buckets_in shape) (range_with_len 0 (size τ))) =
      subst (λ s. In n (flat_map (buckets_in s) (range_with_len 0 (size_of (unpacked s)))))
      (whole.tables.each τ is_there).shape_is i in
      let from = flat_map-In (buckets_in shape) n (range_with_len 0 (size τ)) there in
      let below : from.0 < size τ = (let is = range_with_len-In 0 (size τ) from.0 from.1 in omega (arith, is)) in
      go from.0 below (bucket_in g words shape from.0) refl from.2
    where
      go : (bucket : ℕ) → bucket < size τ → (place : Option ℕ)
          → bucket_in g words (G.table τ).shape bucket ≡ place → In n (bucket_nodes g words place)
          → HasSeat G n
      go bucket below None is met = absurd met
      go bucket below (Some place) is met =
          let at = bucket_word τ bucket place is_there below is in
          bucket_seats at.index n at.within at.plain
          (subst (λ p. In n (bucket_nodes g words (Some p))) at.place_is met)

  -- a node that is met is the first of those to which its port is bound
  pub met_bound : (n : ℕ) → In n all_nodes → (behind : List ℕ) × (G.bound (key_of M n) ≡ n ∷ behind)
  met_bound n i =
      let from = flat_map-In (table_nodes g words) n (in_force g words) i in
      let is = in_force_is env mix words G whole from.0 from.1 in
      let has = table_seats is.table n (force-there env mix whole.tables is.table is.current is.attached)
      (subst (λ s. In n (table_nodes g words s)) is.slot_is from.2) in
      let at = seated_at env mix M G whole n has.bucket has.seat in
      (at.behind, at.bound_to)

  -- a node that belongs to a table in force is met there
  table_met : (τ b j n : ℕ) → IsThere G τ → b < size τ → (G.table τ).place b ≡ Some j
      → In n (bucket_nodes g words (Some (place_at env mix j)))
      → In n (table_nodes g words (G.table τ).slot)
  unfolding size
  table_met τ b j n is_there below is there =
      let shape = (G.table τ).shape in
      let here : In n (buckets_in shape b) =
      subst (λ place. In n (bucket_nodes g words place)) (sym (place-index τ b j is_there below is)) there in
      subst (λ s. In n (flat_map (buckets_in s) (range_with_len 0 (size_of (unpacked s)))))
      (sym (whole.tables.each τ is_there).shape_is)
      (In-flat_map (buckets_in shape) n b (range_with_len 0 (size τ))
      (In-range_with_len 0 (size τ) b (omega arith) (omega (arith, below))) here)

  -- the first node to which a port is bound is met
  bound_met : (port n : ℕ) (behind : List ℕ) → G.bound port ≡ n ∷ behind
      → In n all_nodes × (key_of M n ≡ port)
  unfolding size
  bound_met port n behind b =
      let to = whole.owned.bound_to port n behind b in
      let at = (seated_at env mix M G whole n to.bucket to.first).at_home in
      let key = key_of M n in
      let τ = table_at G to.bucket in
      let bucket = hash_in env mix G key τ in
      let below : bucket < size τ = hash-below env mix M G whole key τ in
      let is_there = force-there env mix whole.tables τ at.current at.attached in
      let seat = seat_met n to.bucket (home-within env mix M G whole key τ to.bucket is_there at.here) to.first in (
        In-flat_map (table_nodes g words) n (G.table τ).slot (in_force g words)
            (table_in_force env mix words G whole τ at.current at.attached)
            (table_met τ bucket to.bucket n is_there below at.here seat),
        to.key_is,
      )

  -- ---- what the words stand for

  -- the first node with the port's key is the one to which the port is bound
  pub first_bound : (port : ℕ) (bound : List ℕ) → G.bound port ≡ bound
      → first_node g words port ≡ head_or_none bound
  first_bound port bound is = go (find (has_key g words port) all_nodes) bound refl is
    where
      go : (found : Option ℕ) (nodes : List ℕ) → find (has_key g words port) all_nodes ≡ found
          → G.bound port ≡ nodes → found ≡ head_or_none nodes
      go None [] f b = refl
      go (Some m) [] f b =
          let member = find-Some (has_key g words port) all_nodes m f in
          let key = eqb-true (key_of M m) port member.1 in
          let bound_m = met_bound m member.0 in
          let q : ◌≡◌ {A = List ℕ} [] (m ∷ bound_m.0) = sym b ∙ ap G.bound (sym key)
          ∙ bound_m.1 in absurd (cc)
      go None (n ∷ behind) f b =
          let met = bound_met port n behind b in
          let never = find-None (has_key g words port) all_nodes n f met.0 in
          let yes_ = eq-eqb (key_of M n) port met.1 in absurd (cc)
      go (Some m) (n ∷ behind) f b =
          let member = find-Some (has_key g words port) all_nodes m f in
          let key = eqb-true (key_of M m) port member.1 in
          let bound_m = met_bound m member.0 in
          let q : ◌≡◌ {A = List ℕ} (n ∷ behind) (m ∷ bound_m.0) = sym b ∙ ap G.bound (sym key) ∙ bound_m.1 in
          let same : n ≡ m = (cc) in ap Some (sym same)

  -- the nodes along list links are those of the segment, where there is fuel for all of them
  list_met : (left link : ℕ) (nodes : List ℕ) → length nodes ≤ left → ((n : ℕ) → In n nodes → n < g.nodes)
      → IsSegment (list_of M) link nodes 0 → list_from g words left (node_of g.nodes link) ≡ nodes
  list_met zero link [] fuel among s = refl
  list_met (suc left) link [] fuel among s = rw s refl
  list_met zero link (n ∷ nodes) fuel among s = absurd (omega arith)
  list_met (suc left) link (n ∷ nodes) fuel among s =
      rw (ap (node_of g.nodes) s.0 ∙ links_tell_apart.link_names g.nodes n (among n (inl refl)))
      (ap (λ rest. n ∷ rest) (list_met left (list_of M n) nodes (omega arith) (λ m i. among m (inr i)) s.1))

  none_listed : (fuel : ℕ) → list_from g words fuel None ≡ []
  none_listed zero = refl
  none_listed (suc fuel) = refl

  -- the nodes of a port's list are those to which it is bound
  pub listed_bound : (port : ℕ) → nodes_of g words port ≡ G.bound port
  listed_bound port = go (G.bound port) refl
    where
      go : (bound : List ℕ) → G.bound port ≡ bound → nodes_of g words port ≡ G.bound port
      go [] b = ap (list_from g words g.nodes) (first_bound port [] b) ∙ none_listed g.nodes ∙ sym b
      go (n ∷ behind) b =
          let to = whole.owned.bound_to port n behind b in
          let among = list_among env mix M G whole port n behind b in
          let few = list_few env mix M G whole port n behind b in
          let some : g.nodes ≡ suc (g.nodes - 1) = omega (arith, g.within.nodes_within.0) in
          ap (list_from g words g.nodes) (first_bound port (n ∷ behind) b)
          ∙ ap (λ fuel. list_from g words fuel (Some n)) some
          ∙ ap (λ rest. n ∷ rest) (list_met (g.nodes - 1) (list_of M n) behind (omega (arith, few, some)) (λ m i. among m (inr i)) to.list)
          ∙ sym b

  -- so the owners of each port are those of the nodes to which it is bound
  pub stands_for_bound : (port : ℕ) → stands_for g words port ≡ owners env mix M G port
  stands_for_bound port = ap (owners_in env mix M) (listed_bound port)
