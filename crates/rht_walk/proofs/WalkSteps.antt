-- Each operation of a walk leads on to what is said of the next state. Here it is of a bucket and of its nodes, and behind all buckets.
use Rattle.std.proofs.Common.{◌≡◌, ℕ, ◌+◌, ◌<◌, nat_lt, List, [], ◌∷◌, ◌++◌, length, map, append_assoc, append-nil, true, false, Option, Some, None, refl, sym, ◌∙◌, ap, subst, inl, inr, arith}
use Rattle.std.specs.Prelude.{◌==◌}
use Rattle.std.proofs.lemmas.Bool.{cond_both, eq-eqb, lt-ltb, eqb-true, and_parts, ltb-true}
use Rattle.std.proofs.lemmas.Grind.{flat_map-append}
use Rattle.std.proofs.lemmas.List.{length-append, map-append}
use Rattle.rht_words.specs.declared.op.Op.TheVariants.{Load}
use Rattle.rht_words.specs.declared.geometry.Geometry.{Geometry}
use Rattle.rht_words.specs.declared.machine.Next.{Next}
use Rattle.rht_words.specs.declared.machine.Next.TheVariants.{Go, Done}
use Rattle.rht_words.specs.Links.{table_of, slot_of, head_of}
use Rattle.rht_words.specs.Machines.{Performed}
use Rattle.rht_words.specs.Places.{CurrentTable, Slot, FutureWord, SerialWord, ShapeWord, Node, KeyWord, OwnerWord, ChainLink}
use Rattle.rht_words.specs.Ports.{port_of, owner_of}
use Rattle.rht_words.specs.Shapes.{unpacked, size_of}
use Rattle.rht_grace.specs.Sections.{turning}
use Rattle.rht_nest.specs.Place.{PlaceModel, place_after}
use Rattle.rht_nest.specs.PlaceLaws.{finding_ran}
use Rattle.rht_nest.specs.declared.place.Bucket.{Bucket}
use Rattle.rht_nest.specs.declared.place.Bucket.TheVariants as buckets
use Rattle.rht_model.specs.declared.history.Cursor.{Cursor}
use Rattle.rht_model.specs.declared.history.Reply.TheVariants.{Walked, Again}
use Rattle.rht_model.specs.Rooms.{with_kept}
use Rattle.rht_walk.specs.Walk.{Pairs, fits, begun, visiting, bucket_ended, reached, unless_behind, chain_of, one_more}
use Rattle.rht_walk.specs.WalkLaws.{loaded, NodeSeen, node_steps, pair_of, BucketSeen, MissingPage, StrangeChain, pairs_of, chain_steps, FindsBucket, bucket_steps, IsBucketSeen, steps_of, first_bucket, Fits, opening_steps, SawBuckets, AnswersRightly}
use Rattle.rht_walk.specs.declared.walk.Visit.{Visit}
use Rattle.rht_walk.specs.declared.walk.Chain.{Chain}
use Rattle.rht_walk.specs.declared.walk.WalkEnd.TheVariants as ends
use Rattle.rht_walk.specs.declared.walk.WalkAt.TheVariants as at
use Rattle.rht_walk.proofs.WalkStays.{some_buckets}
use Rattle.rht_walk.proofs.SeenBuckets.{kept_of, kept_of-push, push, AreTooFew-push, LeadsOver-push, entry_step, further, ends_way}
use Rattle.rht_walk.proofs.WalkStates.{InTable, AtEntry, AtHead, AtNodes, AtKey, AtOwner, AtLink, AtStrangeEnd, AtTableEnd, AtShape, KeptAt, begins_at, ended_at, more_at, ways_of}

module _ (g : Geometry) (caller : ℕ) (from : Option Cursor) (limit most : ℕ) where
  abbrev pub first : ℕ
  first = first_bucket from

  -- one operation more on the way to a bucket
  pub along : (steps behind : List Performed) (visit : Visit) (seen : List BucketSeen) (step : Performed)
      → InTable g caller from limit most steps behind visit seen
      → InTable g caller from limit most (steps ++ step ∷ []) (behind ++ step ∷ []) visit seen
  along steps behind visit seen step in_table = record {
    entered = in_table.entered;
    current = in_table.current;
    table_is = in_table.table_is;
    fits_it = in_table.fits_it;
    are = in_table.are;
    goes_on = in_table.goes_on;
    is = push steps (opening_steps g caller in_table.entered in_table.current visit.serial visit.shape)
        (steps_of g visit.table visit.shape first seen) behind step in_table.is;
  }

  pub head_leads : (steps : List Performed) (room : Pairs) (visit : Visit) (place word : ℕ) → AtHead g caller from limit most steps room visit place
      → AtNodes g caller from limit most (steps ++ record { op = Load place; old = word } ∷ []) [] room (chain_of visit place) (head_of place word) []
  head_leads steps room visit place word here = record {
    seen = here.seen;
    entries = here.entries;
    ways = here.ways;
    word = word;
    nodes = [];
    is_open = here.is_open;
    below = here.below;
    in_table = record {
      entered = here.in_table.entered;
      current = here.in_table.current;
      table_is = here.in_table.table_is;
      fits_it = here.in_table.fits_it;
      are = here.in_table.are;
      goes_on = here.in_table.goes_on;
      is = push steps (opening_steps g caller here.in_table.entered here.in_table.current visit.serial visit.shape)
          (steps_of g visit.table visit.shape first here.seen) here.ways _ here.in_table.is;
    };
    kept = here.kept ∙ ap (kept_of most) (sym (append-nil (pairs_of here.seen)));
    found = here.found;
    leads = refl;
    counted = refl;
    few = omega arith;
  }

  pub key_leads : (steps : List Performed) (room : Pairs) (chain : Chain) (node word : ℕ) → AtKey g caller from limit most steps room chain node
      → AtOwner g caller from limit most (steps ++ loaded g (Node node KeyWord) word ∷ []) room chain node (port_of word)
  key_leads steps room chain node word here =
      let nodes = here.at_nodes in
      record {
        link = here.link;
        key = word;
        to_node = here.to_node;
        not_all = here.not_all;
        port_is = refl;
        at_nodes = record {
          seen = nodes.seen;
          entries = nodes.entries;
          ways = nodes.ways;
          word = nodes.word;
          nodes = nodes.nodes;
          is_open = nodes.is_open;
          below = nodes.below;
          in_table = more_at g caller from limit most steps nodes.ways [] chain nodes.word nodes.nodes nodes.seen _ nodes.in_table;
          kept = nodes.kept;
          found = nodes.found;
          leads = nodes.leads;
          counted = nodes.counted;
          few = nodes.few;
        };
      }

  pub owner_leads : (steps : List Performed) (room : Pairs) (chain : Chain) (node port word : ℕ) → AtOwner g caller from limit most steps room chain node port
      → AtLink g caller from limit most (steps ++ loaded g (Node node OwnerWord) word ∷ []) (with_kept room (port, owner_of word)) chain node
  owner_leads steps room chain node port word here =
      let nodes = here.at_nodes in
      let shown = map pair_of nodes.nodes in
      let pair : ℕ × ℕ = (port_of here.key, owner_of word) in
      record {
        link = here.link;
        key = here.key;
        owner = word;
        to_node = here.to_node;
        not_all = here.not_all;
        at_nodes = record {
          seen = nodes.seen;
          entries = nodes.entries;
          ways = nodes.ways;
          word = nodes.word;
          nodes = nodes.nodes;
          is_open = nodes.is_open;
          below = nodes.below;
          in_table = more_at g caller from limit most steps nodes.ways _ chain nodes.word nodes.nodes nodes.seen _ nodes.in_table;
          kept = ap (λ p. with_kept room (p, owner_of word)) here.port_is
              ∙ ap (λ r. with_kept r pair) nodes.kept
              ∙ kept_of-push most (pairs_of nodes.seen ++ (shown ++ [])) pair
              ∙ ap (kept_of most) (append_assoc (pairs_of nodes.seen) (shown ++ []) (pair ∷ [])
              ∙ ap (λ s. pairs_of nodes.seen ++ s) (append_assoc shown [] (pair ∷ [])));
          found = nodes.found;
          leads = nodes.leads;
          counted = nodes.counted;
          few = nodes.few;
        };
      }

  pub link_leads : (steps : List Performed) (room : Pairs) (chain : Chain) (node word : ℕ) → AtLink g caller from limit most steps room chain node
      → AtNodes g caller from limit most (steps ++ loaded g (Node node ChainLink) word ∷ []) [] room (one_more chain) word []
  link_leads steps room chain node word here =
      let nodes = here.at_nodes in
      let one : NodeSeen = record { node = node; key = here.key; owner = here.owner; link = word } in
      let all = nodes.nodes ++ one ∷ [] in
      let shown = map pair_of nodes.nodes in
      let counted = nodes.counted in
      let not_all = here.not_all in
      let more = more_at g caller from limit most steps nodes.ways _ chain nodes.word nodes.nodes nodes.seen (loaded g (Node node ChainLink) word) nodes.in_table in
      record {
        seen = nodes.seen;
        entries = nodes.entries;
        ways = nodes.ways;
        word = nodes.word;
        nodes = all;
        is_open = nodes.is_open;
        below = nodes.below;
        in_table = subst
            (λ s. InTable g caller from limit most (steps ++ loaded g (Node node ChainLink) word ∷ []) (nodes.ways ++ s) chain.visit nodes.seen)
            (ap (λ s. record { op = Load chain.place; old = nodes.word } ∷ s)
            (sym (flat_map-append (node_steps g) nodes.nodes (one ∷ [])))
            ∙ sym (append-nil (chain_steps g chain.place nodes.word all)))
            more;
        kept = nodes.kept
            ∙ ap (λ s. kept_of most (pairs_of nodes.seen ++ s))
            (sym (map-append pair_of nodes.nodes (one ∷ [])) ∙ sym (append-nil (map pair_of all)));
        found = nodes.found;
        leads = LeadsOver-push g (head_of chain.place nodes.word) here.link nodes.nodes one nodes.leads here.to_node;
        counted = length-append nodes.nodes (one ∷ []) ∙ ap (λ n. n + 1) counted;
        few = omega (arith, not_all);
      }

  pub entry_leads : (steps : List Performed) (room : Pairs) (visit : Visit) (way after : PlaceModel) (next : Next Bucket) (word : ℕ)
      → AtEntry g caller from limit most steps room visit way
      → place_after way word ≡ (after, next)
      → KeptAt g caller from limit most (steps ++ entry_step g visit.shape visit.bucket way word ∷ []) room (reached g limit (length room.items) visit after next)
  entry_leads steps room visit way after Go word here is = record {
    seen = here.seen;
    entries = here.entries ++ word ∷ [];
    ways = here.ways ++ entry_step g visit.shape visit.bucket way word ∷ [];
    is_open = here.is_open;
    below = here.below;
    in_table = along steps here.ways visit here.seen _ here.in_table;
    kept = here.kept;
    on_way = further g visit.shape visit.bucket here.entries here.ways way after word here.on_way is;
  }
  entry_leads steps room visit way after (Done (buckets.At place)) word here is = record {
    seen = here.seen;
    entries = here.entries ++ word ∷ [];
    ways = here.ways ++ entry_step g visit.shape visit.bucket way word ∷ [];
    is_open = here.is_open;
    below = here.below;
    in_table = along steps here.ways visit here.seen _ here.in_table;
    kept = here.kept;
    found = ends_way g visit.shape visit.bucket here.entries here.ways way after word (buckets.At place) here.on_way is;
  }
  entry_leads steps room visit way after (Done (buckets.Absent entry)) word here is =
      let at_end = ends_way g visit.shape visit.bucket here.entries here.ways way after word (buckets.Absent entry) here.on_way is in
      let found = ways_of g caller from limit most visit (here.entries ++ word ∷ []) (here.ways ++ entry_step g visit.shape visit.bucket way word ∷ []) (buckets.Absent entry) at_end in
      ended_at g caller from limit most (steps ++ entry_step g visit.shape visit.bucket way word ∷ []) (here.ways ++ entry_step g visit.shape visit.bucket way word ∷ []) room visit here.seen
      (MissingPage (here.entries ++ word ∷ [])) here.below (along steps here.ways visit here.seen _ here.in_table) (entry, found.1) tt found.0
      (here.kept ∙ ap (kept_of most) (sym (append-nil (pairs_of here.seen)))) here.is_open

  pub shape_leads : (steps : List Performed) (room : Pairs) (start : Option Cursor) (table serial shape : ℕ) → from ≡ start
      → AtShape g caller from limit most steps room table serial
      → KeptAt g caller from limit most (steps ++ loaded g (Slot table ShapeWord) shape ∷ []) room (begun g start table serial shape)
  shape_leads steps room start table serial shape same here = go start same
    where
      after : List Performed
      after = steps ++ loaded g (Slot table ShapeWord) shape ∷ []

      opened : after ≡ opening_steps g caller here.entered here.current serial shape
      opened = ap (λ s. s ++ loaded g (Slot table ShapeWord) shape ∷ []) here.is
          ∙ ap
          (λ t. record { op = turning caller; old = here.entered }
          ∷ loaded g CurrentTable here.current
          ∷ loaded g (Slot (table_of here.current) SerialWord) serial
          ∷ loaded g (Slot t ShapeWord) shape
          ∷ []) here.table_is

      at_first : (bucket : ℕ) → first ≡ bucket → Fits serial shape from → bucket < size_of (unpacked shape)
          → KeptAt g caller from limit most after room (visiting g (record { table = table; serial = serial; shape = shape; bucket = bucket }))
      at_first bucket is fits_it below =
          begins_at g caller from limit most after room (record { table = table; serial = serial; shape = shape; bucket = bucket }) [] below (record {
            entered = here.entered;
            current = here.current;
            table_is = here.table_is;
            fits_it = fits_it;
            are = sym is;
            goes_on = tt;
            is = opened;
          }) here.kept (inl refl)

      go : (start : Option Cursor) → from ≡ start → KeptAt g caller from limit most after room (begun g start table serial shape)
      go None same =
          at_first 0 (ap first_bucket same) (subst (λ f. Fits serial shape f) {x = None} (sym same) tt) (some_buckets shape)
      go (Some cursor) same =
          cond_both (fits serial shape cursor) _ _ (KeptAt g caller from limit most after room)
          (λ t.
          let parts = and_parts (cursor.serial == serial) (nat_lt cursor.bucket (size_of (unpacked shape))) t in
          let below = ltb-true cursor.bucket (size_of (unpacked shape)) parts.1 in
          at_first cursor.bucket (ap first_bucket same)
          (subst (λ f. Fits serial shape f) {x = Some cursor} (sym same) (eqb-true cursor.serial serial parts.0, below)) below)
          (λ f. record {
            entered = here.entered;
            current = here.current;
            serial = serial;
            shape = shape;
            middle = [];
            is = opened;
            answers = (
              refl,
              inr (record {
                own = here.table_is;
                misfits = λ does. misfit f (subst (λ s. Fits serial shape s) same does);
                none = refl;
              }),
            );
            room_is = ap (λ (r : Pairs). r.limit) here.kept;
          })
        where
          misfit : fits serial shape cursor ≡ false → Fits serial shape (Some cursor) → ⊥
          misfit f does =
              let serial_is = eq-eqb cursor.serial serial does.0 in
              let bucket_in = lt-ltb cursor.bucket (size_of (unpacked shape)) does.1 in
              absurd (both f serial_is bucket_in)
            where
              both : fits serial shape cursor ≡ false → (cursor.serial == serial) ≡ true
                  → nat_lt cursor.bucket (size_of (unpacked shape)) ≡ true
                  → ⊥
              both f a b = cc

  -- behind a strange end no table is behind, or the walk has to begin anew
  pub strange_leads : (steps : List Performed) (room : Pairs) (visit : Visit) (word : ℕ) (future : Option ℕ) → slot_of word ≡ future
      → AtStrangeEnd g caller from limit most steps room visit
      → KeptAt g caller from limit most (steps ++ loaded g (Slot visit.table FutureWord) word ∷ []) room (unless_behind future (bucket_ended g limit (length room.items) visit))
  strange_leads steps room visit word future is here = go future is
    where
      nodes : AtNodes g caller from limit most steps [] room (record { visit = visit; place = here.place; visited = here.visited }) here.last []
      nodes = here.at_nodes

      chain_is : List Performed
      chain_is = chain_steps g here.place nodes.word nodes.nodes

      behind : List Performed
      behind = nodes.ways ++ (chain_is ++ loaded g (Slot visit.table FutureWord) word ∷ [])

      found : BucketSeen
      found = StrangeChain nodes.entries here.place nodes.word nodes.nodes here.last word

      way : (nodes.ways ≡ (finding_ran g visit.shape visit.bucket nodes.entries).steps)
          × FindsBucket g visit.shape visit.bucket nodes.entries (buckets.At here.place)
      way = ways_of g caller from limit most visit nodes.entries nodes.ways (buckets.At here.place) nodes.found

      table_here : InTable g caller from limit most (steps ++ loaded g (Slot visit.table FutureWord) word ∷ []) behind visit nodes.seen
      table_here = more_at g caller from limit most steps nodes.ways [] (record { visit = visit; place = here.place; visited = here.visited }) nodes.word nodes.nodes nodes.seen _ nodes.in_table

      is_seen : IsBucketSeen g visit.table visit.shape visit.bucket found
      is_seen = (way.1, nodes.leads, here.strange)

      steps_are : behind ≡ bucket_steps g visit.table visit.shape visit.bucket found
      steps_are = ap (λ s. s ++ (chain_is ++ loaded g (Slot visit.table FutureWord) word ∷ [])) way.0

      go : (future : Option ℕ) → slot_of word ≡ future
          → KeptAt g caller from limit most (steps ++ loaded g (Slot visit.table FutureWord) word ∷ []) room (unless_behind future (bucket_ended g limit (length room.items) visit))
      go None is =
          ended_at g caller from limit most (steps ++ loaded g (Slot visit.table FutureWord) word ∷ []) behind room visit nodes.seen found nodes.below table_here is_seen is steps_are
          (nodes.kept ∙ ap (λ s. kept_of most (pairs_of nodes.seen ++ s)) (append-nil (map pair_of nodes.nodes))) nodes.is_open
      go (Some slot) is = record {
        entered = table_here.entered;
        current = table_here.current;
        serial = visit.serial;
        shape = visit.shape;
        middle = steps_of g visit.table visit.shape first nodes.seen ++ behind;
        is = table_here.is;
        answers = subst (λ table. AnswersRightly g from limit most table visit.serial visit.shape (Again slot) [] (steps_of g visit.table visit.shape first nodes.seen ++ behind))
            table_here.table_is (
              refl,
              inl (record {
                seen = nodes.seen;
                upto = visit.bucket;
                saw = record { fits = table_here.fits_it; are = table_here.are; goes_on = table_here.goes_on };
                future = word;
                leads = is;
                ended = inr (record {
                  there = nodes.below;
                  entries = nodes.entries;
                  place = here.place;
                  word = nodes.word;
                  nodes = nodes.nodes;
                  last = here.last;
                  is_seen = is_seen;
                  goes_on = AreTooFew-push limit most [] nodes.seen found table_here.goes_on nodes.is_open;
                  steps_are = ap (λ s. steps_of g visit.table visit.shape first nodes.seen ++ s) steps_are;
                });
              }),
            );
        room_is = ap (λ (r : Pairs). r.limit) nodes.kept;
      }

  -- and so behind all buckets
  pub end_leads : (steps : List Performed) (room : Pairs) (table word : ℕ) (future : Option ℕ) → slot_of word ≡ future
      → AtTableEnd g caller from limit most steps room table
      → KeptAt g caller from limit most (steps ++ loaded g (Slot table FutureWord) word ∷ []) room (unless_behind future (at.Closing (ends.Walked None)))
  end_leads steps room table word future is here =
      subst (λ t. KeptAt g caller from limit most (steps ++ loaded g (Slot t FutureWord) word ∷ []) room (unless_behind future (at.Closing (ends.Walked None)))) here.table_at (go future is)
    where
      visit : Visit
      visit = here.visit

      middle : List Performed
      middle = steps_of g visit.table visit.shape first here.seen

      last : Performed
      last = loaded g (Slot visit.table FutureWord) word

      in_table : InTable g caller from limit most (steps ++ last ∷ []) ([] ++ last ∷ []) visit here.seen
      in_table = along steps [] visit here.seen last here.in_table

      saw : SawBuckets g from limit most visit.table visit.serial visit.shape here.seen visit.bucket
      saw = record { fits = in_table.fits_it; are = in_table.are; goes_on = in_table.goes_on }

      go : (future : Option ℕ) → slot_of word ≡ future
          → KeptAt g caller from limit most (steps ++ last ∷ []) room (unless_behind future (at.Closing (ends.Walked None)))
      go None is = record {
        entered = in_table.entered;
        current = in_table.current;
        serial = visit.serial;
        shape = visit.shape;
        middle = middle ++ last ∷ [];
        is = in_table.is;
        answers = subst (λ t. AnswersRightly g from limit most t visit.serial visit.shape (Walked (length room.items) None) room.items (middle ++ last ∷ []))
            in_table.table_is (record {
              seen = here.seen;
              upto = visit.bucket;
              saw = saw;
              kept = ap (λ (r : Pairs). r.items) here.kept;
              counted = refl;
              ended = inr (record {
                no_cursor = refl;
                future = word;
                none_behind = is;
                comes = record { all = here.whole; steps_are = refl };
              });
            });
        room_is = ap (λ (r : Pairs). r.limit) here.kept;
      }
      go (Some slot) is = record {
        entered = in_table.entered;
        current = in_table.current;
        serial = visit.serial;
        shape = visit.shape;
        middle = middle ++ last ∷ [];
        is = in_table.is;
        answers = subst (λ t. AnswersRightly g from limit most t visit.serial visit.shape (Again slot) [] (middle ++ last ∷ []))
            in_table.table_is (
              refl,
              inl (record {
                seen = here.seen;
                upto = visit.bucket;
                saw = saw;
                future = word;
                leads = is;
                ended = inl (record { all = here.whole; steps_are = refl });
              }),
            );
        room_is = ap (λ (r : Pairs). r.limit) here.kept;
      }
