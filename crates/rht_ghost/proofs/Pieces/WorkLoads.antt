-- What the caller that does the work learns by its loads.
use Rattle.std.proofs.Common.{◌≡◌, ◌≢◌, ℕ, ◌+◌, ◌^◌, ◌<◌, ◌≤◌, List, [], ◌∷◌, ◌++◌, Option, Some, None, true, false, nat_lt, max, min, cond, refl, sym, ◌∙◌, ap, subst, inl, inr, arith}
use Rattle.std.proofs.Math.Nat.{mod-eq_of_lt}
use Rattle.std.proofs.Math.Seq.{append_snoc}
use Rattle.std.proofs.lemmas.Bool.{cases_lt, le-ltb}
use Rattle.std.specs.Option.{option_map}
use Rattle.rht_words.specs.declared.env.Env.{Env}
use Rattle.rht_words.specs.declared.machine.Start.TheVariants as starts
use Rattle.rht_words.specs.Links.{link_of, head_of, marker_of, table_of, slot_of, future_of, node_of, page_of, unlocked}
use Rattle.rht_words.specs.Ports.{IsPort, port_of}
use Rattle.rht_words.specs.Chains.{IsSegment}
use Rattle.rht_words.specs.Shapes.{unpacked, size_of}
use Rattle.rht_words.specs.Places.{CurrentTable, Slot, ShapeWord, SeedWord, FutureWord, Node, KeyWord, PageWord}
use Rattle.rht_words.specs.Members.{In}
use Rattle.rht_words.proofs.Memory.{Memory}
use Rattle.rht_words.proofs.Members.{in-middle}
use Rattle.rht_words.proofs.LinksRead.{links_tell_apart}
use Rattle.rht_words.proofs.Rounding.{powers-rise}
use Rattle.rht_words.proofs.ChainLemmas.{IsSegment-cut}
use Rattle.rht_policy.specs.Mix.{bucket_of}
use Rattle.rht_nest.specs.Place.{PlaceModel, flat_place, nested_place, entered, behind_entry, place_or_last}
use Rattle.rht_nest.specs.Tables.{is_nested}
use Rattle.rht_ghost.proofs.Theory.Ghosts.{Ghost, lock_bit, none-some}
use Rattle.rht_ghost.proofs.Theory.Wholes.{chain_of, key_of, place_at, word_index, place_at-index, index-within, hash_in, stop, PlacedRight, Whole, IsAt, current-there, current-at, at-there, at-right}
use Rattle.rht_ghost.proofs.Theory.Passed.{hash-below, held-no_entry}
use Rattle.rht_ghost.proofs.Theory.Knowns.{KnownAim, NoAim, Onward, From, Beyond, KnownRehash, KnownPlace, KnownEntry, KnownWork, Works, Rooted, Follows, Empties, Nears, Faces, InBucket, Bare, AtEntry, AtTail, Aims}
use Rattle.rht_ghost.proofs.Theory.Knowledge.{DoesWork, HasLock, IsRightBehind, next_at, IsFrom, IsEmptying, IsNearing, IsInBucket, WorkMeans}
use Rattle.rht_ghost.proofs.Theory.WaysRead.{words_of_pages, read_by_entry, flat_read, near_read, near_next, place_of_bucket, missing_home}
use Rattle.rht_ghost.proofs.Moves.Relinking.{last_of-more}
use Rattle.rht_ghost.proofs.Pieces.TableLoads.{LeadsBehind, shape_word, seed_word, future_word, future_leads}

-- Behind a load of a table's future: the last table, which may be the current one, and the last one where there is one behind the
-- current one
abbrev pub last_sought : ℕ → Option ℕ → KnownAim
last_sought slot None = From slot
last_sought slot (Some next) = From next

abbrev pub aim_sought : ℕ → Option ℕ → KnownAim
aim_sought slot None = Beyond slot None None
aim_sought slot (Some next) = From next

-- behind a load of a locked bucket's word: its first entry, or that it has none
abbrev pub first_known : KnownRehash → KnownPlace → KnownAim → Option ℕ → KnownWork
first_known root at aim None = Bare root at
first_known root at aim (Some node) = AtEntry root at (record { node = node; before = None }) aim

-- and behind a load of an entry's link: the next entry, or that this one is the last
abbrev pub next_known : KnownRehash → KnownPlace → KnownEntry → KnownAim → Option ℕ → KnownWork
next_known root at entry aim None = AtTail root at entry aim
next_known root at entry aim (Some next) = AtEntry root at (record { node = next; before = Some entry.node }) aim

module _ (env : Env) (mix : ℕ → ℕ → ℕ → ℕ) (c : ℕ) (M : Memory) (G : Ghost) (whole : Whole env mix M G) where
  abbrev index : ℕ → ℕ
  index place = word_index env mix place

  abbrev Knows : KnownWork → Type 0
  Knows known = WorkMeans env mix c M G known

  -- ---- words of tables

  -- what the future of a table is read as: none for the last one, and else the slot of the next one
  abbrev LeadsTo : ℕ → Option ℕ → Type 0
  LeadsTo = LeadsBehind env mix M G whole

  future_read : (slot : ℕ) (at : IsAt G slot) → LeadsTo at.table (slot_of (M (Slot slot FutureWord)))
  future_read = future_leads env mix M G whole

  -- ---- tables

  -- the current table
  pub root_seen : Knows Works → Knows (Rooted (table_of (M CurrentTable)) NoAim)
  root_seen knows =
      let right = whole.tables.each G.current (current-there env mix whole.tables) in
      let slot = (G.table G.current).slot in
      let is : table_of (M CurrentTable) ≡ slot = (let word = whole.tables.current_is in omega
      (arith, right.slot_in, word)) in
      record { works = knows.works; more = record { root_is = sym is; aim_is = tt } }

  -- it is known by its slot
  abbrev root_at : (root : ℕ) → (G.table G.current).slot ≡ root → IsAt G root
  root_at root is = current-at env mix whole.tables root is

  pub from_root : (root : ℕ) → Knows (Rooted root NoAim) → Knows (Rooted root (From root))
  from_root root knows =
      record {
        works = knows.works;
        more = record {
          root_is = knows.more.root_is;
          aim_is = record { at = root_at root knows.more.root_is; from = omega arith };
        };
      }

  -- which table was looked at need not be known any more
  pub root_alone : (root : ℕ) (aim : KnownAim) → Knows (Rooted root aim) → Knows (Rooted root NoAim)
  root_alone root aim knows =
      record { works = knows.works; more = record { root_is = knows.more.root_is; aim_is = tt } }

  -- the last table
  pub last_seen : (root slot : ℕ) → Knows (Rooted root (From slot))
      → Knows (Rooted root (last_sought slot (slot_of (M (Slot slot FutureWord)))))
  last_seen root slot knows = go (slot_of (M (Slot slot FutureWord))) (future_read slot aim.at)
    where
      aim : IsFrom env mix G slot
      aim = knows.more.aim_is

      go : (next : Option ℕ) → LeadsTo aim.at.table next → Knows (Rooted root (last_sought slot next))
      go None leads = knows
      go (Some next) leads = record {
        works = knows.works;
        more = record {
          root_is = knows.more.root_is;
          aim_is = record { at = next_at env mix G aim.at.table next aim.at.on leads; from = omega (arith, aim.from) };
        };
      }

  -- a table is behind the current one where the last one is another one
  pub other_behind : (root last : ℕ) → root ≢ last → Knows (Rooted root (From last)) → Knows (Rooted root Onward)
  other_behind root last other knows =
      let aim = knows.more.aim_is in
      record {
        works = knows.works;
        more = record {
          root_is = knows.more.root_is;
          aim_is = elim (cases_lt G.current aim.at.table) [
            | inl later ↦ omega (arith, later, aim.at.attached)
            | inr early ↦
                let same : G.current ≡ aim.at.table = omega (arith, aim.from, early) in
                absurd (other (sym knows.more.root_is ∙ ap (λ τ. (G.table τ).slot) same ∙ aim.at.slot_is))
          ];
        };
      }

  -- and where that one has a future
  pub future_behind : (root last : ℕ) → M (Slot last FutureWord) ≢ 0 → Knows (Rooted root (From last))
      → Knows (Rooted root Onward)
  future_behind root last some knows =
      let aim = knows.more.aim_is in
      let τ = aim.at.table in
      let future = future_word env mix M G whole last aim.at in
      record {
        works = knows.works;
        more = record {
          root_is = knows.more.root_is;
          aim_is = elim (cases_lt (τ + 1) G.attached) [
            | inl more ↦ omega (arith, more, aim.from)
            | inr end ↦
                absurd (some (future ∙ ap (λ t. cond t (future_of (G.table (τ + 1)).slot) 0) (le-ltb (τ + 1) G.attached end)))
          ];
        };
      }

  -- then the current one's future is none no more
  pub has_future : (root : ℕ) → Knows (Rooted root Onward) → slot_of (M (Slot root FutureWord)) ≢ None
  has_future root knows none =
      let last : G.current + 1 ≡ G.attached =
      subst (LeadsTo G.current) none (future_read root (root_at root knows.more.root_is)) in
      let more = knows.more.aim_is in
      absurd (omega (arith, last, more))

  -- a nested table has no more buckets than its shape may have
  pub nested_size : (slot : ℕ) → IsAt G slot → is_nested (M (Slot slot ShapeWord)) ≡ true
      → size_of (unpacked (M (Slot slot ShapeWord))) ≤ 2 ^ 17
  nested_size slot at nested =
      subst (λ shape. size_of (unpacked shape) ≤ 2 ^ 17) (sym (shape_word env mix M G whole slot at))
      (go (at-right env mix whole.tables slot at).placed (sym (ap is_nested (shape_word env mix M G whole slot at)) ∙ nested))
    where
      go : PlacedRight env mix (G.table at.table) G.page at.table
          → is_nested (G.table at.table).shape ≡ true → size_of (unpacked (G.table at.table).shape) ≤ 2 ^ 17
      go (inl flat) is = let none = sym is ∙ ap (nat_lt 0) flat.flat in absurd (cc)
      go (inr nested) is =
          let most = nested.shaped.most in
          powers-rise (max 2 (min (unpacked (G.table at.table).shape).exponent 18)) 17 (omega (arith, most))

  -- the table behind the current one, and the current one's shape
  pub future_seen : (root future : ℕ) (aim : KnownAim) → Knows (Rooted root aim)
      → slot_of (M (Slot root FutureWord)) ≡ Some future → Knows (Follows root future)
  future_seen root future aim knows is =
      let leads : IsRightBehind env mix G G.current future =
      subst (LeadsTo G.current) is (future_read root (root_at root knows.more.root_is)) in
      record {
        works = knows.works;
        more = record { root_is = knows.more.root_is; future_is = leads.slot_is; more = leads.attached };
      }

  pub shape_seen : (root future : ℕ) → Knows (Follows root future)
      → Knows (Empties (record { root = root; future = future; shape = M (Slot root ShapeWord) }) 0)
  shape_seen root future knows =
      record {
        works = knows.works;
        more = record {
          followed = knows.more;
          shape_is = sym (shape_word env mix M G whole root (root_at root knows.more.root_is));
          within = omega arith;
          each = λ b j l at. absurd (omega (arith, l));
        };
      }

  -- ---- the way to the next bucket

  next_below : (root : KnownRehash) (number : ℕ) → IsEmptying env mix G root number
      → number < size_of (unpacked root.shape) → number < size_of (unpacked (G.table G.current).shape)
  next_below root number is = subst (λ s. number < size_of (unpacked s)) (sym is.shape_is)

  -- the place of the next bucket, where the words lead to its word
  faced : (root : KnownRehash) (number place : ℕ) (works : DoesWork c G None) (is : IsEmptying env mix G root number)
      (below : number < size_of (unpacked (G.table G.current).shape))
      → option_map (place_at env mix) ((G.table G.current).place number) ≡ Some place → Knows (Faces root number place)
  faced root number place works is below leads =
      let at = place_of_bucket env mix M G whole G.current number (current-there env mix whole.tables) below place leads in
      record {
        works = works;
        more = record { empties = is; below = below; bucket = at.bucket; here = at.here };
      }

  -- in a flat table it is faced at once
  pub faces_seen : (root : KnownRehash) (number : ℕ) → is_nested root.shape ≡ false
      → number < size_of (unpacked root.shape) → Knows (Empties root number)
      → Knows (Faces root number (flat_place env.geometry root.shape number))
  faces_seen root number flat l knows =
      let is = knows.more in
      let below = next_below root number is l in
      faced root number (flat_place env.geometry root.shape number) knows.works is below
      (flat_read env mix M G whole G.current number (current-there env mix whole.tables) below (ap is_nested is.shape_is ∙ flat)
      ∙ ap (λ s. Some (flat_place env.geometry s number)) is.shape_is)

  -- and in a nested one neared at the first entry on the way to it
  pub nears_seen : (root : KnownRehash) (number : ℕ) → is_nested root.shape ≡ true
      → number < size_of (unpacked root.shape) → Knows (Empties root number)
      → Knows (Nears root number (nested_place env.geometry root.shape number))
  nears_seen root number nested l knows = record {
    works = knows.works;
    more = record {
      empties = knows.more;
      below = next_below root number knows.more l;
      to = record {
        nested = ap is_nested knows.more.shape_is ∙ nested;
        way = inl (ap (λ s. nested_place env.geometry s number) (sym knows.more.shape_is));
      };
    };
  }

  -- ---- the entries on the way to it

  -- where the entry at which the way stands leads, by its word
  abbrev pub led_by : PlaceModel → Option ℕ
  led_by place = page_of env.geometry.pages (M (PageWord place.entry))

  -- the place of its word is behind that entry
  behind_way : (root : KnownRehash) (number : ℕ) (place : PlaceModel) (entry : Option ℕ) → place.geometry ≡ env.geometry
      → led_by place ≡ entry → IsNearing env mix G root number place
      → option_map (place_at env mix) ((G.table G.current).place number)
      ≡ behind_entry (place_or_last (words_of_pages M)) place entry
  behind_way root number place entry same led near =
      sym (near_read env mix M G whole root number place near)
      ∙ read_by_entry (words_of_pages M) place env.geometry entry same led

  -- an entry that leads to no page: the bucket is missing, so it has no entry to be moved
  pub passed_by : (root : KnownRehash) (number : ℕ) (place : PlaceModel) → place.geometry ≡ env.geometry
      → led_by place ≡ None → Knows (Nears root number place) → Knows (Empties root (number + 1))
  passed_by root number place same led knows =
      let near = knows.more in
      let empties = near.empties in
      let none : (G.table G.current).place number ≡ None =
      missing_home env mix ((G.table G.current).place number) (behind_way root number place None same led near) in
      record {
        works = knows.works;
        more = record {
          followed = empties.followed;
          shape_is = empties.shape_is;
          within = omega (arith, near.below);
          each = λ b j l at. elim (cases_lt b number) [
            | inl before ↦ empties.each b j before at
            | inr from ↦
                let same : b ≡ number = omega (arith, l, from) in
                absurd (none-some none (ap (G.table G.current).place (sym same) ∙ at))
          ];
        };
      }

  -- one that leads to a page of entries
  pub nears_on : (root : KnownRehash) (number : ℕ) (place next : PlaceModel) (page : ℕ) → led_by place ≡ Some page
      → entered place page ≡ starts.Running next → Knows (Nears root number place) → Knows (Nears root number next)
  nears_on root number place next page led e knows = record {
    works = knows.works;
    more = near_next env mix M G whole root number place knows.more next page led e;
  }

  -- and one that leads to the page of the bucket's word
  pub faces_behind : (root : KnownRehash) (number : ℕ) (place : PlaceModel) (page there : ℕ)
      → place.geometry ≡ env.geometry → led_by place ≡ Some page → entered place page ≡ starts.Done there
      → Knows (Nears root number place) → Knows (Faces root number there)
  faces_behind root number place page there same led e knows =
      let near = knows.more in
      faced root number there knows.works near.empties near.below
      (behind_way root number place (Some page) same led near ∙ ap (place_or_last (words_of_pages M)) e)

  -- ---- the table to which an entry goes

  in_bucket : (root : KnownRehash) (at : KnownPlace) (aim more : KnownAim) → Knows (InBucket root at aim)
      → ((is : IsInBucket env mix c G root at aim) → IsInBucket env mix c G root at more) → Knows (InBucket root at more)
  in_bucket root at aim more knows to = record { works = knows.works; more = to knows.more }

  pub from_current : (root : KnownRehash) (at : KnownPlace) (aim : KnownAim) → Knows (InBucket root at aim)
      → Knows (InBucket root at (From root.root))
  from_current root at aim knows = in_bucket root at aim (From root.root) knows (λ is.
      record {
        next = is.next;
        out = is.out;
        aim_is = record { at = root_at root.root is.next.empties.followed.root_is; from = omega arith };
      })

  pub aim_seen : (root : KnownRehash) (at : KnownPlace) (slot : ℕ) → Knows (InBucket root at (From slot))
      → Knows (InBucket root at (aim_sought slot (slot_of (M (Slot slot FutureWord)))))
  aim_seen root at slot knows =
      go (slot_of (M (Slot slot FutureWord))) (future_read slot aim.at)
    where
      aim : IsFrom env mix G slot
      aim = knows.more.aim_is

      more : G.current + 1 < G.attached
      more = knows.more.next.empties.followed.more

      go : (next : Option ℕ) → LeadsTo aim.at.table next → Knows (InBucket root at (aim_sought slot next))
      go None leads = in_bucket root at (From slot) (Beyond slot None None) knows (λ is. record {
        next = is.next;
        out = is.out;
        aim_is = record {
          at = aim.at;
          later = omega (arith, leads, more);
          shape_is = tt;
          flat = tt;
          seed_is = tt;
        };
      })
      go (Some next) leads = in_bucket root at (From slot) (From next) knows (λ is. record {
        next = is.next;
        out = is.out;
        aim_is = record { at = next_at env mix G aim.at.table next aim.at.on leads; from = omega (arith, aim.from) };
      })

  -- its shape, where that isn't nested
  pub aim_shape : (root : KnownRehash) (at : KnownPlace) (slot : ℕ) → is_nested (M (Slot slot ShapeWord)) ≡ false
      → Knows (InBucket root at (Beyond slot None None))
      → Knows (InBucket root at (Beyond slot (Some (M (Slot slot ShapeWord))) None))
  aim_shape root at slot flat knows =
      in_bucket root at (Beyond slot None None) (Beyond slot (Some (M (Slot slot ShapeWord))) None) knows
      (λ is. record {
        next = is.next;
        out = is.out;
        aim_is = record {
          at = is.aim_is.at;
          later = is.aim_is.later;
          shape_is = sym (shape_word env mix M G whole slot is.aim_is.at);
          flat = flat;
          seed_is = tt;
        };
      })

  pub aim_seed : (root : KnownRehash) (at : KnownPlace) (slot : ℕ) (shape : Option ℕ)
      → Knows (InBucket root at (Beyond slot shape None))
      → Knows (InBucket root at (Beyond slot shape (Some (M (Slot slot SeedWord)))))
  aim_seed root at slot shape knows =
      in_bucket root at (Beyond slot shape None) (Beyond slot shape (Some (M (Slot slot SeedWord)))) knows
      (λ is. record {
        next = is.next;
        out = is.out;
        aim_is = record {
          at = is.aim_is.at;
          later = is.aim_is.later;
          shape_is = is.aim_is.shape_is;
          flat = is.aim_is.flat;
          seed_is = sym (seed_word env mix M G whole slot is.aim_is.at);
        };
      })

  -- ---- the entries of the bucket

  -- its word, without the lock
  pub word_seen : (place word : ℕ) → HasLock env mix c G place word → unlocked (M (PageWord (index place))) ≡ word
  word_seen place word lock =
      let right = (whole.buckets (index place) (index-within env mix place lock.bucket)
      (held-no_entry env mix M G whole (index place) c lock.holder)).locked in
      let locked : lock_bit (G.bucket (index place)).holder ≡ 1 = ap lock_bit lock.holder in
      omega (arith, right.word_is, right.even, locked, lock.plain)

  chain_here : (root : KnownRehash) (at : KnownPlace) (aim : KnownAim) → IsInBucket env mix c G root at aim
      → IsSegment (chain_of M) (head_of at.place at.word) (G.bucket (index at.place)).nodes (marker_of at.place)
  chain_here root at aim is =
      let lock = is.next.lock in
      let b = G.bucket (index at.place) in
      let segment : IsSegment (chain_of M) (head_of (place_at env mix (index at.place)) b.plain) b.nodes
      (marker_of (place_at env mix (index at.place))) =
      subst (λ out. IsSegment (chain_of M) (head_of (place_at env mix (index at.place)) b.plain) b.nodes
      (stop env mix (place_at env mix (index at.place)) out)) is.out
      (whole.buckets (index at.place) (index-within env mix at.place lock.bucket)
      (held-no_entry env mix M G whole (index at.place) c lock.holder)).chained.segment in
      subst (λ w. IsSegment (chain_of M) (head_of at.place w) b.nodes (marker_of at.place)) lock.plain
      (subst (λ p. IsSegment (chain_of M) (head_of p b.plain) b.nodes (marker_of p))
      (place_at-index env mix at.place lock.bucket) segment)

  marker_ends : (place link : ℕ) → link ≡ marker_of place → node_of env.geometry.nodes link ≡ None
  marker_ends place link is = rw is (links_tell_apart.marker_names_no_node env.geometry.nodes place)

  link_names : (j link n : ℕ) → link ≡ link_of n → In n (G.bucket j).nodes
      → node_of env.geometry.nodes link ≡ Some n
  link_names j link n is i = rw is (links_tell_apart.link_names env.geometry.nodes n
      (whole.owned.first_at n j (whole.owned.member j n i)).among)

  pub first_seen : (root : KnownRehash) (at : KnownPlace) (aim : KnownAim) → Knows (InBucket root at aim)
      → Knows (first_known root at aim (node_of env.geometry.nodes (head_of at.place at.word)))
  first_seen root at aim knows = go (G.bucket j).nodes refl (chain_here root at aim knows.more)
    where
      j : ℕ
      j = index at.place

      link : ℕ
      link = head_of at.place at.word

      go : (nodes : List ℕ) → (G.bucket j).nodes ≡ nodes
          → IsSegment (chain_of M) link (G.bucket j).nodes (marker_of at.place)
          → Knows (first_known root at aim (node_of env.geometry.nodes link))
      go [] e s =
          let ends : link ≡ marker_of at.place = subst (λ l. IsSegment (chain_of M) link l (marker_of at.place)) e s in
          rw (marker_ends at.place link ends) (record {
            works = knows.works;
            more = record {
              bucket = record { next = knows.more.next; out = knows.more.out; aim_is = tt };
              none = e;
            };
          })
      go (n ∷ nodes) e s =
          let split = subst (λ l. IsSegment (chain_of M) link l (marker_of at.place)) e s in
          rw (link_names j link n split.0 (rw e (inl refl))) (record {
            works = knows.works;
            more = record {
              bucket = knows.more;
              among = record { front = []; rear = nodes; split = e; last = refl };
            };
          })

  pub next_seen : (root : KnownRehash) (at : KnownPlace) (entry : KnownEntry) (aim : KnownAim)
      → Knows (AtEntry root at entry aim)
      → Knows (next_known root at entry aim (node_of env.geometry.nodes (chain_of M entry.node)))
  next_seen root at entry aim knows = go rear knows.more.among.split refl
    where
      j : ℕ
      j = index at.place

      n : ℕ
      n = entry.node

      front : List ℕ
      front = knows.more.among.front

      rear : List ℕ
      rear = knows.more.among.rear

      link : ℕ
      link = chain_of M n

      cut : (more : List ℕ) → (G.bucket j).nodes ≡ front ++ n ∷ more
          → IsSegment (chain_of M) link more (marker_of at.place)
      cut more e = (IsSegment-cut (chain_of M) front n more (head_of at.place at.word) (marker_of at.place)
          (subst (λ l. IsSegment (chain_of M) (head_of at.place at.word) l (marker_of at.place)) e
          (chain_here root at aim knows.more.bucket))).1

      go : (more : List ℕ) → (G.bucket j).nodes ≡ front ++ n ∷ more → rear ≡ more
          → Knows (next_known root at entry aim (node_of env.geometry.nodes link))
      go [] e is = rw (marker_ends at.place link (cut [] e))
          (record { works = knows.works; more = record { stands = knows.more; last = is } })
      go (next ∷ more) e is =
          let split : (G.bucket j).nodes ≡ (front ++ n ∷ []) ++ next ∷ more = e
          ∙ sym (append_snoc front n (next ∷ more)) in
          rw (link_names j link next (cut (next ∷ more) e).0
          (rw split (in-middle next (front ++ n ∷ []) more))) (record {
            works = knows.works;
            more = record {
              bucket = knows.more.bucket;
              among = record {
                front = front ++ n ∷ [];
                rear = more;
                split = split;
                last = last_of-more front n;
              };
            };
          })

  -- ---- the place to which the last entry goes

  pub record HasAim (root : KnownRehash) (at : KnownPlace) (entry : KnownEntry) (shape seed : ℕ) : Type 0 where
    pub place : ℕ
    pub there : flat_place env.geometry shape (bucket_of mix (port_of (M (Node entry.node KeyWord))) shape seed)
        ≡ place
    pub knows : Knows (Aims root at entry place)

  -- by its key, which is that of a port that is bound, and so a key word; the table isn't nested, so its bucket has its place at once
  pub key_seen : (root : KnownRehash) (at : KnownPlace) (entry : KnownEntry) (slot shape seed : ℕ)
      → Knows (AtTail root at entry (Beyond slot (Some shape) (Some seed)))
      → HasAim root at entry shape seed
  key_seen root at entry slot shape seed knows =
      let tail = knows.more in
      let bucket = tail.stands.bucket in
      let among = tail.stands.among in
      let there : In entry.node (G.bucket (index at.place)).nodes = subst (In entry.node) (sym among.split)
      (in-middle entry.node among.front among.rear) in
      let first = whole.owned.first_at entry.node (index at.place)
      (whole.owned.member (index at.place) entry.node there) in
      let small : IsPort (key_of M entry.node) = whole.owned.small (key_of M entry.node) entry.node first.behind
      first.bound_to in
      let aim = bucket.aim_is in
      let τ = aim.at.table in
      let is_there = at-there aim.at in
      let key = key_of M entry.node in
      let number = hash_in env mix G key τ in
      let below = hash-below env mix M G whole key τ in
      let place = flat_place env.geometry (G.table τ).shape number in
      let placed = place_of_bucket env mix M G whole τ number is_there below place
      (flat_read env mix M G whole τ number is_there below (ap is_nested aim.shape_is ∙ aim.flat)) in
      let same : port_of key ≡ key = mod-eq_of_lt {n = key} {m = 2 ^ 48} small in
      record {
        place = place;
        there = ap (λ k. flat_place env.geometry shape (bucket_of mix k shape seed)) same
            ∙ ap (λ s. flat_place env.geometry s (bucket_of mix key s seed)) (sym aim.shape_is)
            ∙ ap (λ d. flat_place env.geometry (G.table τ).shape (bucket_of mix key (G.table τ).shape d))
            (sym aim.seed_is);
        knows = record {
          works = knows.works;
          more = record {
            tail = record {
              stands = record {
                bucket = record { next = bucket.next; out = bucket.out; aim_is = tt };
                among = tail.stands.among;
              };
              last = tail.last;
            };
            aim = record {
              bucket = placed.bucket;
              table = τ;
              later = aim.later;
              attached = aim.at.attached;
              here = placed.here;
            };
          };
        };
      }
