-- What is said of a walk in each state: what the operations before it were (`KeptAt`), and so which pairs are in the room. Here are the
-- states to which it comes behind a bucket, and along a chain.
use Rattle.std.proofs.Common.{◌≡◌, ℕ, ◌+◌, ◌<◌, ◌≤◌, ◌⊎◌, nat_lt, nat_le, List, [], ◌∷◌, ◌++◌, length, map, append-nil, Option, Some, None, refl, sym, ◌∙◌, ap, subst, inl, inr, arith}
use Rattle.std.specs.Prelude.{◌==◌}
use Rattle.std.proofs.lemmas.Bool.{cond_both, eqb-true, eqb-false, ltb-true, ltb-false, leb-true, leb-false}
use Rattle.rht_words.specs.declared.geometry.Geometry.{Geometry}
use Rattle.rht_words.specs.Links.{table_of, node_of, head_of, marker_of}
use Rattle.rht_words.specs.Machines.{Performed, Ran}
use Rattle.rht_words.specs.Places.{CurrentTable, Slot, SerialWord, Node, KeyWord, OwnerWord}
use Rattle.rht_words.specs.Ports.{port_of, owner_of}
use Rattle.rht_words.specs.Shapes.{unpacked, size_of}
use Rattle.rht_grace.specs.Sections.{turning}
use Rattle.rht_nest.specs.Place.{PlaceModel}
use Rattle.rht_nest.specs.PlaceLaws.{finding_ran}
use Rattle.rht_nest.specs.Tables.{is_nested}
use Rattle.rht_nest.specs.declared.place.Bucket.{Bucket}
use Rattle.rht_nest.specs.declared.place.Bucket.TheVariants as buckets
use Rattle.rht_model.specs.declared.history.Cursor.{Cursor}
use Rattle.rht_model.specs.declared.history.Reply.TheVariants.{Walked}
use Rattle.rht_walk.specs.Walk.{Pairs, visiting, next_bucket, bucket_ended, chain_ended, led_to, reply_of, room_at_end}
use Rattle.rht_walk.specs.WalkLaws.{loaded, NodeSeen, pair_of, LeadsOver, BucketSeen, OwnChain, nodes_of, pairs_of, AreTooFew, chain_steps, FindsBucket, IsStrange, bucket_steps, IsBucketSeen, FindsNone, AreSeen, steps_of, first_bucket, Fits, opening_steps, AnswersRightly}
use Rattle.rht_walk.specs.declared.walk.Visit.{Visit}
use Rattle.rht_walk.specs.declared.walk.Chain.{Chain}
use Rattle.rht_walk.specs.declared.walk.WalkEnd.{WalkEnd}
use Rattle.rht_walk.specs.declared.walk.WalkAt.{WalkAt}
use Rattle.rht_walk.specs.declared.walk.WalkAt.TheVariants as at
use Rattle.rht_walk.proofs.SeenBuckets.{kept_of, push, steps_of-push, AreSeen-push, AreSeen-from, pairs_of-push, IsOpen, AreTooFew-push, OnWay, AtEnd, begins_nested, begins_flat}

module _ (g : Geometry) (caller : ℕ) (from : Option Cursor) (limit most : ℕ) where
  abbrev pub first : ℕ
  first = first_bucket from

  -- the operations before it were the opening, those at the buckets that were walked, and these
  pub record InTable (steps behind : List Performed) (visit : Visit) (seen : List BucketSeen) : Type 0 where
    pub entered : ℕ
    pub current : ℕ
    pub table_is : visit.table ≡ table_of current
    pub fits_it : Fits visit.serial visit.shape from
    pub are : AreSeen g visit.table visit.shape first seen visit.bucket
    pub goes_on : AreTooFew limit most [] seen
    pub is : steps
        ≡ opening_steps g caller entered current visit.serial visit.shape
        ++ (steps_of g visit.table visit.shape first seen ++ behind)

  -- at a bucket, on the way to it
  pub record AtEntry (steps : List Performed) (room : Pairs) (visit : Visit) (way : PlaceModel) : Type 0 where
    pub seen : List BucketSeen
    pub entries : List ℕ
    pub ways : List Performed
    pub is_open : IsOpen limit most [] seen
    pub below : visit.bucket < size_of (unpacked visit.shape)
    pub in_table : InTable steps ways visit seen
    pub kept : room ≡ kept_of most (pairs_of seen)
    pub on_way : OnWay g visit.shape visit.bucket entries ways way

  pub record AtHead (steps : List Performed) (room : Pairs) (visit : Visit) (place : ℕ) : Type 0 where
    pub seen : List BucketSeen
    pub entries : List ℕ
    pub ways : List Performed
    pub is_open : IsOpen limit most [] seen
    pub below : visit.bucket < size_of (unpacked visit.shape)
    pub in_table : InTable steps ways visit seen
    pub kept : room ≡ kept_of most (pairs_of seen)
    pub found : AtEnd g visit.shape visit.bucket entries ways (buckets.At place)

  -- in its chain behind these nodes, and behind these further operations
  pub record AtNodes (steps more : List Performed) (room : Pairs) (chain : Chain) (last : ℕ) (shows : List (ℕ × ℕ)) :
      Type 0 where
    pub seen : List BucketSeen
    pub entries : List ℕ
    pub ways : List Performed
    pub word : ℕ
    pub nodes : List NodeSeen
    pub is_open : IsOpen limit most [] seen
    pub below : chain.visit.bucket < size_of (unpacked chain.visit.shape)
    pub in_table : InTable steps (ways ++ (chain_steps g chain.place word nodes ++ more)) chain.visit seen
    pub kept : room ≡ kept_of most (pairs_of seen ++ (map pair_of nodes ++ shows))
    pub found : AtEnd g chain.visit.shape chain.visit.bucket entries ways (buckets.At chain.place)
    pub leads : LeadsOver g (head_of chain.place word) nodes last
    pub counted : length nodes ≡ chain.visited
    pub few : chain.visited ≤ g.nodes

  pub record AtKey (steps : List Performed) (room : Pairs) (chain : Chain) (node : ℕ) : Type 0 where
    pub link : ℕ
    pub to_node : node_of g.nodes link ≡ Some node
    pub not_all : chain.visited < g.nodes
    pub at_nodes : AtNodes steps [] room chain link []

  pub record AtOwner (steps : List Performed) (room : Pairs) (chain : Chain) (node port : ℕ) : Type 0 where
    pub link : ℕ
    pub key : ℕ
    pub to_node : node_of g.nodes link ≡ Some node
    pub not_all : chain.visited < g.nodes
    pub port_is : port ≡ port_of key
    pub at_nodes : AtNodes steps (loaded g (Node node KeyWord) key ∷ []) room chain link []

  pub record AtLink (steps : List Performed) (room : Pairs) (chain : Chain) (node : ℕ) : Type 0 where
    pub link : ℕ
    pub key : ℕ
    pub owner : ℕ
    pub to_node : node_of g.nodes link ≡ Some node
    pub not_all : chain.visited < g.nodes
    pub at_nodes : AtNodes steps (loaded g (Node node KeyWord) key ∷ loaded g (Node node OwnerWord) owner ∷ []) room chain link ((port_of key, owner_of owner) ∷ [])

  pub record AtStrangeEnd (steps : List Performed) (room : Pairs) (visit : Visit) : Type 0 where
    pub place : ℕ
    pub visited : ℕ
    pub last : ℕ
    pub at_nodes : AtNodes steps [] room (record { visit = visit; place = place; visited = visited }) last []
    pub strange : IsStrange g place at_nodes.nodes last

  pub record AtTableEnd (steps : List Performed) (room : Pairs) (table : ℕ) : Type 0 where
    pub visit : Visit
    pub seen : List BucketSeen
    pub table_at : visit.table ≡ table
    pub whole : visit.bucket ≡ size_of (unpacked visit.shape)
    pub in_table : InTable steps [] visit seen
    pub kept : room ≡ kept_of most (pairs_of seen)

  -- all is done but the closing of the section
  pub record AtClosing (steps : List Performed) (room : Pairs) (end : WalkEnd) : Type 0 where
    pub entered : ℕ
    pub current : ℕ
    pub serial : ℕ
    pub shape : ℕ
    pub middle : List Performed
    pub is : steps ≡ opening_steps g caller entered current serial shape ++ middle
    pub answers : AnswersRightly g from limit most (table_of current) serial shape (reply_of (room_at_end end room) end)
        (room_at_end end room).items middle
    pub room_is : room.limit ≡ most

  pub record AtCurrent (steps : List Performed) (room : Pairs) : Type 0 where
    pub entered : ℕ
    pub is : steps ≡ record { op = turning caller; old = entered } ∷ []
    pub kept : room ≡ kept_of most []

  pub record AtSerial (steps : List Performed) (room : Pairs) (table : ℕ) : Type 0 where
    pub entered : ℕ
    pub current : ℕ
    pub table_is : table ≡ table_of current
    pub is : steps ≡ record { op = turning caller; old = entered } ∷ loaded g CurrentTable current ∷ []
    pub kept : room ≡ kept_of most []

  pub record AtShape (steps : List Performed) (room : Pairs) (table serial : ℕ) : Type 0 where
    pub entered : ℕ
    pub current : ℕ
    pub table_is : table ≡ table_of current
    pub is : steps
        ≡ record { op = turning caller; old = entered }
        ∷ loaded g CurrentTable current
        ∷ loaded g (Slot (table_of current) SerialWord) serial
        ∷ []
    pub kept : room ≡ kept_of most []

  abbrev pub KeptAt : List Performed → Pairs → WalkAt → Type 0
  KeptAt steps room at.Opening = (steps ≡ []) × (room ≡ kept_of most [])
  KeptAt steps room at.CurrentTable = AtCurrent steps room
  KeptAt steps room (at.Serial table) = AtSerial steps room table
  KeptAt steps room (at.Shape table serial) = AtShape steps room table serial
  KeptAt steps room (at.Entry visit way) = AtEntry steps room visit way
  KeptAt steps room (at.Heading visit place) = AtHead steps room visit place
  KeptAt steps room (at.Key chain node) = AtKey steps room chain node
  KeptAt steps room (at.Owner chain node port) = AtOwner steps room chain node port
  KeptAt steps room (at.Link chain node) = AtLink steps room chain node
  KeptAt steps room (at.StrangeEnd visit) = AtStrangeEnd steps room visit
  KeptAt steps room (at.TableEnd table) = AtTableEnd steps room table
  KeptAt steps room (at.Closing end) = AtClosing steps room end

  -- ---- at a bucket, and behind one

  pub begins_at : (steps : List Performed) (room : Pairs) (visit : Visit) (seen : List BucketSeen)
      → visit.bucket < size_of (unpacked visit.shape)
      → InTable steps [] visit seen
      → room ≡ kept_of most (pairs_of seen)
      → IsOpen limit most [] seen
      → KeptAt steps room (visiting g visit)
  begins_at steps room visit seen below in_table kept is_open =
      cond_both (is_nested visit.shape) _ _ (KeptAt steps room)
      (λ t. record {
        seen = seen;
        entries = [];
        ways = [];
        is_open = is_open;
        below = below;
        in_table = in_table;
        kept = kept;
        on_way = begins_nested g visit.shape visit.bucket t;
      })
      (λ f. record {
        seen = seen;
        entries = [];
        ways = [];
        is_open = is_open;
        below = below;
        in_table = in_table;
        kept = kept;
        found = begins_flat g visit.shape visit.bucket f;
      })

  -- it goes on at this bucket, or ends before it
  pub next_at : (steps : List Performed) (room : Pairs) (visit : Visit) (seen : List BucketSeen)
      → visit.bucket < size_of (unpacked visit.shape)
      → first < visit.bucket
      → InTable steps [] visit seen
      → room ≡ kept_of most (pairs_of seen)
      → KeptAt steps room (next_bucket g limit (length room.items) visit)
  next_at steps room visit seen below later in_table kept =
      cond_both (nat_le limit (length room.items)) _ _ (KeptAt steps room)
      (λ t. record {
        entered = in_table.entered;
        current = in_table.current;
        serial = visit.serial;
        shape = visit.shape;
        middle = steps_of g visit.table visit.shape first seen ++ [];
        is = in_table.is;
        answers = subst (λ table. AnswersRightly g from limit most table visit.serial visit.shape (Walked (length room.items) (Some (record { serial = visit.serial; bucket = visit.bucket }))) room.items (steps_of g visit.table visit.shape first seen ++ []))
            in_table.table_is (record {
              seen = seen;
              upto = visit.bucket;
              saw = record { fits = in_table.fits_it; are = in_table.are; goes_on = in_table.goes_on };
              kept = ap (λ (r : Pairs). r.items) kept;
              counted = refl;
              ended = inl (record {
                cursor_is = refl;
                later = later;
                there = below;
                enough = leb-true limit (length room.items) t;
                steps_are = append-nil _;
              });
            });
        room_is = ap (λ (r : Pairs). r.limit) kept;
      })
      (λ f.
      begins_at steps room visit seen below in_table kept
      (inr (subst (λ (r : Pairs). length r.items < limit) kept (leb-false limit (length room.items) f))))

  -- behind a bucket
  pub ended_at : (steps behind : List Performed) (room : Pairs) (visit : Visit) (seen : List BucketSeen) (more : BucketSeen)
      → visit.bucket < size_of (unpacked visit.shape)
      → InTable steps behind visit seen
      → IsBucketSeen g visit.table visit.shape visit.bucket more
      → FindsNone g visit.table visit.shape more
      → behind ≡ bucket_steps g visit.table visit.shape visit.bucket more
      → room ≡ kept_of most (pairs_of seen ++ map pair_of (nodes_of more))
      → IsOpen limit most [] seen
      → KeptAt steps room (bucket_ended g limit (length room.items) visit)
  ended_at steps behind room visit seen more below in_table is none steps_are kept is_open =
      cond_both (nat_lt (visit.bucket + 1) (size_of (unpacked visit.shape))) _ _ (KeptAt steps room)
      (λ t. next_at steps room next all (ltb-true (visit.bucket + 1) (size_of (unpacked visit.shape)) t) later here kept_all)
      (λ f. record {
        visit = next;
        seen = all;
        table_at = refl;
        whole = let high = ltb-false (visit.bucket + 1) (size_of (unpacked visit.shape)) f in omega (arith, high, below);
        in_table = here;
        kept = kept_all;
      })
    where
      next : Visit
      next = record visit { bucket = visit.bucket + 1 }

      all : List BucketSeen
      all = seen ++ more ∷ []

      kept_all : room ≡ kept_of most (pairs_of all)
      kept_all = kept ∙ ap (kept_of most) (sym (pairs_of-push seen more))

      later : first < visit.bucket + 1
      later = let from_on = AreSeen-from g visit.table visit.shape first seen visit.bucket in_table.are in omega (arith, from_on)

      here : InTable steps [] next all
      here = record {
        entered = in_table.entered;
        current = in_table.current;
        table_is = in_table.table_is;
        fits_it = in_table.fits_it;
        are = AreSeen-push g visit.table visit.shape first seen more visit.bucket in_table.are is none;
        goes_on = AreTooFew-push limit most [] seen more in_table.goes_on is_open;
        is = in_table.is
            ∙ ap (λ s. opening_steps g caller in_table.entered in_table.current visit.serial visit.shape ++ s)
            (ap (λ s. steps_of g visit.table visit.shape first seen ++ s) steps_are
            ∙ sym (steps_of-push g visit.table visit.shape first seen more visit.bucket in_table.are)
            ∙ sym (append-nil _));
      }

  -- ---- in a chain

  -- its operations are those of a chain, and further ones
  pub more_at : (steps ways more : List Performed) (chain : Chain) (word : ℕ) (nodes : List NodeSeen) (seen : List BucketSeen) (step : Performed)
      → InTable steps (ways ++ (chain_steps g chain.place word nodes ++ more)) chain.visit seen
      → InTable (steps ++ step ∷ []) (ways ++ (chain_steps g chain.place word nodes ++ (more ++ step ∷ []))) chain.visit seen
  more_at steps ways more chain word nodes seen step in_table = record {
    entered = in_table.entered;
    current = in_table.current;
    table_is = in_table.table_is;
    fits_it = in_table.fits_it;
    are = in_table.are;
    goes_on = in_table.goes_on;
    is = push steps front middle behind step in_table.is
        ∙ ap (λ s. front ++ (middle ++ s)) (push behind ways (chain_steps g chain.place word nodes) more step refl);
  }
    where
      front : List Performed
      front = opening_steps g caller in_table.entered in_table.current chain.visit.serial chain.visit.shape

      middle : List Performed
      middle = steps_of g chain.visit.table chain.visit.shape first seen

      behind : List Performed
      behind = ways ++ (chain_steps g chain.place word nodes ++ more)

  -- where a finding ends, its operations are those of the way
  pub ways_of : (visit : Visit) (entries : List ℕ) (ways : List Performed) (found : Bucket)
      → AtEnd g visit.shape visit.bucket entries ways found
      → (ways ≡ (finding_ran g visit.shape visit.bucket entries).steps) × FindsBucket g visit.shape visit.bucket entries found
  ways_of visit entries ways found at_end =
      (sym (ap (λ (r : Ran Bucket). r.steps) at_end.is), ap (λ (r : Ran Bucket). r.next) at_end.is)

  pub chain_ended_at : (steps : List Performed) (room : Pairs) (chain : Chain) (link : ℕ) (here : AtNodes steps [] room chain link [])
      → (node_of g.nodes link ≡ None) ⊎ (length here.nodes ≡ g.nodes)
      → KeptAt steps room (chain_ended g limit (length room.items) chain link)
  chain_ended_at steps room chain link here stops =
      cond_both (link == marker_of chain.place) _ _ (KeptAt steps room)
      (λ t.
      let own = eqb-true link (marker_of chain.place) t in
      let way = ways_of chain.visit here.entries here.ways (buckets.At chain.place) here.found in
      let chain_is = chain_steps g chain.place here.word here.nodes in
      ended_at steps (here.ways ++ (chain_is ++ [])) room chain.visit here.seen
      (OwnChain here.entries chain.place here.word here.nodes) here.below here.in_table (
        way.1,
        subst (λ l. LeadsOver g (head_of chain.place here.word) here.nodes l) own here.leads,
        let few = here.few in let counted = here.counted in omega (arith, few, counted),
      ) tt
      (ap (λ s. here.ways ++ s) (append-nil chain_is) ∙ ap (λ s. s ++ chain_is) way.0)
      (here.kept ∙ ap (λ s. kept_of most (pairs_of here.seen ++ s)) (append-nil (map pair_of here.nodes))) here.is_open)
      (λ f. record {
        place = chain.place;
        visited = chain.visited;
        last = link;
        at_nodes = here;
        strange = record {
          foreign = eqb-false link (marker_of chain.place) f;
          stops = stops;
          few = let few = here.few in let counted = here.counted in omega (arith, few, counted);
        };
      })

  pub led_at : (steps : List Performed) (room : Pairs) (chain : Chain) (link : ℕ) (here : AtNodes steps [] room chain link [])
      (node : Option ℕ) → node_of g.nodes link ≡ node
      → KeptAt steps room (led_to g limit (length room.items) chain link node)
  led_at steps room chain link here None is = chain_ended_at steps room chain link here (inl is)
  led_at steps room chain link here (Some node) is =
      cond_both (nat_lt chain.visited g.nodes) _ _ (KeptAt steps room)
      (λ t. record { link = link; to_node = is; not_all = ltb-true chain.visited g.nodes t; at_nodes = here })
      (λ f.
      let high = ltb-false chain.visited g.nodes f in
      let few = here.few in
      let counted = here.counted in
      chain_ended_at steps room chain link here (inr (omega (arith, high, few, counted))))
