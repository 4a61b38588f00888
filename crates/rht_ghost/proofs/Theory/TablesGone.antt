-- What a step leaves that takes something of a retired table to which no open section comes: one of its pages, or all of them
-- and its slot. All other tables, with their slots and pages, are what they were, and so are buckets, nodes, and what ports
-- are bound to.
--
-- The table is before the current one, so each node is in a bucket of another one, and so is each bucket that somebody has
-- locked. And no section comes to the table, so from the table behind it on all stays to which others come.
use Rattle.std.proofs.Common.{◌≡◌, ◌≢◌, ◌⊎◌, ◌↔◌, ℕ, ◌+◌, ◌*◌, ◌/◌, ◌%◌, ◌<◌, ◌≤◌, List, cond, nat_lt, Bool, Option, Some, None, true, false, refl, sym, ◌∙◌, ap, subst, inl, inr, arith}
use Rattle.std.specs.Int.{bit_at}
use Rattle.std.proofs.lemmas.Bool.{cases_eq, cases_lt, both_ways, false_from_ne_true}
use Rattle.rht_words.specs.declared.env.Env.{Env}
use Rattle.rht_words.specs.Links.{future_of}
use Rattle.rht_words.specs.Held as held
use Rattle.rht_words.specs.Members.{In}
use Rattle.rht_words.specs.Places.{Address, CurrentTable, WorkLock, PortCount, Slot, SlotWord, IsSlotWord, ShapeWord, SeedWord, FutureWord, SerialWord, StateWord, PageMap, Node, NodeWord, ChainLink, KeyWord, OwnerWord, ListLink, PageWord}
use Rattle.rht_words.proofs.Memory.{Memory, IsWrite}
use Rattle.rht_words.proofs.ChainLemmas.{IsSegment-members}
use Rattle.rht_policy.specs.Mix.{bucket_of}
use Rattle.rht_nest.specs.Tables.{table_seed}
use Rattle.rht_ghost.proofs.Theory.Ghosts.{Table, blank_bucket, PageOwner, PageFree, PageHeld, PageOf, SlotOwner, Retired, Back, IsSince, Ghost, unretired, slot_holder, state_word, has_entries, table_of_page, table_of_slot, table_at, has_table, index_at, is_entry, is_entry_of, entry_word, none-some}
use Rattle.rht_ghost.proofs.Theory.Ways.{IsSpareIn}
use Rattle.rht_ghost.proofs.Theory.Wholes.{retired_stay, key_of, list_of, home, future_in, IsNoBucket, PlacedRight, EntriesRight, BucketRight, BucketsRight, TablesRight, SlotsRight, SectionsRight, PagesRight, MovingRight, OutRight, IsFirstAt, IsLeavingAt, Owned, Whole, seated_at, IsThere}
use Rattle.rht_ghost.proofs.Theory.Entries.{PlacedRight-pages}
use Rattle.rht_ghost.proofs.Theory.Passed.{held-bucket, IsSameTable, GrowsFrom, Passed-from, PassesStay}
use Rattle.rht_ghost.proofs.Theory.Departures.{IsGoing}
use Rattle.rht_ghost.proofs.Theory.Knowns.{Known, KnownMaking, KnownWork}
use Rattle.rht_ghost.proofs.Theory.Knowledge.{DoesWork, MakingMeans, WorkMeans, Knowing}
use Rattle.rht_ghost.proofs.Theory.SectionFrames.{SectionsRight-write}
use Rattle.rht_ghost.proofs.Theory.Reliance.{TablesStay, HoldingsStay, members_used}
use Rattle.rht_ghost.proofs.Theory.KnowledgeStays.{NodeMeans-stay, TableMeans-stay, BucketMeans-own}
use Rattle.rht_ghost.proofs.Theory.Frames.{Others, Made, passes_same, chains_stay, stale_write, same_owners}
use Rattle.rht_ghost.proofs.Theory.WholeFrames.{BucketRight-frame, arena_stays}
use Rattle.rht_ghost.proofs.Theory.TableFrames.{IsNoBucketWord, no_table-no_bucket}
use Rattle.rht_ghost.proofs.Theory.TablesOver.{blank_right, going-before, going-slot, going-there, over-blank, over-zero}

-- a table that is what it was says what it did
same_table : (table table' : Table) → table' ≡ table → IsSameTable table table'
same_table table table' same = record {
  slot = ap (λ t. t.slot) same;
  shape = ap (λ t. t.shape) same;
  seed = ap (λ t. t.seed) same;
  serial = ap (λ t. t.serial) same;
}

-- The store is to an entry of the table, or to a word of the map of pages: it is to no word of a bucket, of a node, of a slot
-- or of the map of nodes, and to none that says which table is the current one, who does the work, how many ports are bound,
-- or whose section is open.
pub record IsOfPages (G : Ghost) (τ : ℕ) (a : Address) : Type 0 where
  pub apart : IsNoBucketWord G a
  pub current : CurrentTable ≢ a
  pub work : WorkLock ≢ a
  pub slots : (s : ℕ) (w : SlotWord) → Slot s w ≢ a
  pub entries : (j : ℕ) → PageWord j ≡ a → G.page (j / 64) ≡ PageOf τ

module _ (env : Env) (mix : ℕ → ℕ → ℕ → ℕ) where
  -- the ghost with other tables, slots and pages, of which there are as many
  abbrev pub regone : Ghost → (ℕ → Table) → (ℕ → SlotOwner) → (ℕ → PageOwner) → Ghost
  regone G table slot page = record G { table = table; slot = slot; page = page }

  -- Each other table is what it was, and each other slot has what it had. The table keeps what its slot says of it, and is
  -- retired still, or the caller has the slot. Each other table has its pages still; and pages have tables that they had,
  -- this one only while it is retired.
  pub record TableGoes (d s τ : ℕ) (G : Ghost) (table : ℕ → Table) (slot : ℕ → SlotOwner) (page : ℕ → PageOwner) : Type 0 where
    pub tables : (σ : ℕ) → σ ≢ τ → table σ ≡ G.table σ
    pub same : IsSameTable (G.table τ) (table τ)
    pub slots : (t : ℕ) → t ≢ s → slot t ≡ G.slot t
    pub here : (slot s ≡ Retired τ) ⊎ (slot s ≡ Back d)
    pub pages : (p σ : ℕ) → σ ≢ τ → G.page p ≡ PageOf σ → page p ≡ PageOf σ
    pub back : (p σ : ℕ) → page p ≡ PageOf σ → G.page p ≡ PageOf σ
    pub own : (p : ℕ) → page p ≡ PageOf τ → slot s ≡ Retired τ
    pub placed : slot s ≡ Retired τ → PlacedRight env mix (table τ) page τ

  module _ (d s τ : ℕ) (M M' : Memory) (G : Ghost) (whole : Whole env mix M G) (going : IsGoing env mix d s τ G)
      (table : ℕ → Table) (slot : ℕ → SlotOwner) (page : ℕ → PageOwner) (goes : TableGoes d s τ G table slot page)
      (a : Address) (v : ℕ) (write : IsWrite env.geometry M M' a v) (of_pages : IsOfPages G τ a) where
    abbrev G' : Ghost
    G' = regone G table slot page

    before : τ < G.current
    before = going-before env mix d s τ M G whole going

    there : IsThere G τ
    there = going-there env mix d s τ M G whole going

    -- ---- tables and slots

    same_tables : (σ : ℕ) → IsSameTable (G.table σ) (table σ)
    same_tables σ = elim (cases_eq σ τ) [
      | inl e ↦ subst (λ i. IsSameTable (G.table i) (table i)) (sym e) goes.same
      | inr ne ↦ same_table (G.table σ) (table σ) (goes.tables σ ne)
    ]

    -- no other table has the slot
    other_slot : (σ : ℕ) → σ ≢ τ → IsThere G σ → (G.table σ).slot ≢ s
    other_slot σ ne is e =
        let index : index_at G s ≡ τ = ap table_of_slot going.retired in
        ne (sym is.index ∙ ap (index_at G) e ∙ index)

    there_stays : (σ : ℕ) → σ ≢ τ → IsThere G σ → IsThere G' σ
    there_stays σ ne is =
        let place = (same_tables σ).slot in
        let owner = goes.slots (G.table σ).slot (other_slot σ ne is) in
        record {
          has_slot = ap (λ t. has_table (slot t)) place ∙ ap has_table owner ∙ is.has_slot;
          index = ap (λ t. table_of_slot (slot t)) place ∙ ap table_of_slot owner ∙ is.index;
        }

    -- while it is retired the table itself is there
    there_here : slot s ≡ Retired τ → IsThere G' τ
    there_here retired =
        let place : (table τ).slot ≡ s = goes.same.slot ∙ going-slot env mix d s τ M G whole going in
        record {
          has_slot = ap (λ t. has_table (slot t)) place ∙ ap has_table retired;
          index = ap (λ t. table_of_slot (slot t)) place ∙ ap table_of_slot retired;
        }

    -- a slot that has a table had it before
    had_table : (t : ℕ) → has_table (slot t) ≡ true → slot t ≡ G.slot t
    had_table t has = elim (cases_eq t s) [
      | inl e ↦ elim goes.here [
        | inl retired ↦ ap slot e ∙ retired ∙ sym (ap G.slot e ∙ going.retired)
        | inr back ↦ absurd (both_ways (has_table (slot s)) (ap has_table back) (ap (λ k. has_table (slot k)) (sym e) ∙ has))
      ]
      | inr ne ↦ goes.slots t ne
    ]

    there_before : (σ : ℕ) → IsThere G' σ → IsThere G σ
    there_before σ is =
        let place = (same_tables σ).slot in
        let has : has_table (slot (G.table σ).slot) ≡ true = ap (λ t. has_table (slot t)) (sym place) ∙ is.has_slot in
        let owner = had_table (G.table σ).slot has in
        record {
          has_slot = sym (ap has_table owner) ∙ has;
          index = sym (ap table_of_slot owner) ∙ ap (λ t. table_of_slot (slot t)) (sym place) ∙ is.index;
        }

    -- it is still there only where it is retired still
    retired_there : IsThere G' τ → slot s ≡ Retired τ
    retired_there is =
        let place : (table τ).slot ≡ s = goes.same.slot ∙ going-slot env mix d s τ M G whole going in
        had_table s (ap (λ t. has_table (slot t)) (sym place) ∙ is.has_slot) ∙ going.retired

    live_same : (t σ : ℕ) → unretired (slot t) ≡ Some σ → unretired (G.slot t) ≡ Some σ
    live_same t σ is = elim (cases_eq t s) [
      | inl e ↦ elim goes.here [
        | inl retired ↦ absurd (none_is (ap unretired retired) (ap (λ k. unretired (slot k)) (sym e) ∙ is))
        | inr back ↦ absurd (none_is (ap unretired back) (ap (λ k. unretired (slot k)) (sym e) ∙ is))
      ]
      | inr ne ↦ sym (ap unretired (goes.slots t ne)) ∙ is
    ]
      where
        none_is : unretired (slot s) ≡ None → unretired (slot s) ≡ Some σ → ⊥
        none_is none some = let z : ◌≡◌ {A = Option ℕ} None (Some σ) = sym none ∙ some in cc

    -- ---- which tables buckets have

    -- the word of a bucket of a table behind this one is in one of that table's pages
    page_of_table : (j : ℕ) → τ < table_at G j → G.page (j / 64) ≡ PageOf (table_at G j)
    page_of_table j = go (G.page (j / 64)) refl
      where
        go : (owner : PageOwner) → G.page (j / 64) ≡ owner → τ < table_of_page owner → G.page (j / 64) ≡ PageOf (table_at G j)
        go PageFree is l = absurd (omega (arith, l))
        go (PageHeld c) is l = absurd (omega (arith, l))
        go (PageOf σ) is l = is ∙ ap PageOf (sym (ap table_of_page is))

    -- so buckets of the tables behind this one have the tables that they had
    later : (j : ℕ) → τ < table_at G j → table_at G' j ≡ table_at G j
    later j l = ap table_of_page (goes.pages (j / 64) (table_at G j) (λ e. absurd (omega (arith, l, e))) (page_of_table j l))

    -- and so have those that somebody has locked
    locked_page : (j c : ℕ) → (G.bucket j).holder ≡ Some c → G.page (j / 64) ≡ PageOf (table_at G j)
    locked_page j c holds = go (G.page (j / 64)) refl
      where
        go : (owner : PageOwner) → G.page (j / 64) ≡ owner → G.page (j / 64) ≡ PageOf (table_at G j)
        go PageFree is = absurd (held-bucket env mix M G whole j c holds (subst (λ o. IsNoBucket env mix G o j) (sym is) tt))
        go (PageHeld e) is = absurd (held-bucket env mix M G whole j c holds (subst (λ o. IsNoBucket env mix G o j) (sym is) tt))
        go (PageOf σ) is = is ∙ ap PageOf (sym (ap table_of_page is))

    locked_since : (j c : ℕ) → (G.bucket j).holder ≡ Some c → IsSince (G.from c) (table_at G' j)
    locked_since j c holds =
        let since = whole.sections.locked j c holds in
        let same : table_at G' j ≡ table_at G j = ap table_of_page (goes.pages (j / 64) (table_at G j)
        (λ e. going.over c (subst (IsSince (G.from c)) e since)) (locked_page j c holds)) in
        subst (IsSince (G.from c)) (sym same) since

    -- in each other table a port has the home that it had
    home_same : (port σ : ℕ) → σ ≢ τ → home env mix G' port σ ≡ home env mix G port σ
    home_same port σ ne = ap (λ (t : Table). t.place (bucket_of mix port t.shape t.seed)) (goes.tables σ ne)

    home_later : (port σ : ℕ) → τ < σ → home env mix G' port σ ≡ home env mix G port σ
    home_later port σ l = home_same port σ (λ e. absurd (omega (arith, l, e)))

    -- ---- what others count on

    pub gone_grow : GrowsFrom env mix (τ + 1) G G'
    gone_grow = record {
      tables = λ σ l. same_tables σ;
      places = λ σ b j l from is. ap (λ (t : Table). t.place b) (behind σ from) ∙ is;
      placed = λ σ b j l from is. inl (ap (λ (t : Table). t.place b) (sym (behind σ from)) ∙ is);
      parts = λ p σ l from of. ap (λ (t : Table). t.part p) (behind σ from);
      attached = omega arith;
      current = omega arith;
      live = λ t σ is l. live_same t σ is;
      there = λ σ from l was. there_stays σ (λ e. absurd (omega (arith, from, e))) (was l);
      pages = λ p σ from of. goes.pages p σ (λ e. absurd (omega (arith, from, e))) of;
    }
      where
        behind : (σ : ℕ) → τ + 1 ≤ σ → table σ ≡ G.table σ
        behind σ from = goes.tables σ (λ e. absurd (omega (arith, from, e)))

    gone_passes : PassesStay env mix G G'
    gone_passes = passes_same env mix M G G' whole (record {
      armed = λ j c is. is;
      out = λ j. refl;
      bound = λ port. refl;
      used = λ n used. refl;
    })

    pub gone_stay : TablesStay env mix G G'
    gone_stay = record {
      low = τ + 1;
      current = omega (arith, before);
      sections = λ c first is. elim (cases_lt τ first) [
        | inl l ↦ omega (arith, l)
        | inr from ↦ absurd (going.over c (subst (λ f. IsSince f τ) (sym is) from))
      ];
      grow = gone_grow;
      passed = Passed-from env mix (τ + 1) M G G' whole gone_grow gone_passes (omega (arith, before));
    }

    pub gone_node : (n : ℕ) (w : NodeWord) → n < env.geometry.nodes → M' (Node n w) ≡ M (Node n w)
    gone_node n w l = write.others (Node n w) l (of_pages.apart.nodes n w)

    pub gone_slot : (t : ℕ) (w : SlotWord) → t < 8 → IsSlotWord w → M' (Slot t w) ≡ M (Slot t w)
    gone_slot t w l is = write.others (Slot t w) (l, is) (of_pages.slots t w)

    -- ---- what is on its way

    out_stays : (j entry : ℕ) → (G.bucket j).out ≡ Some entry → OutRight env mix M' G' j entry
    out_stays j entry is =
        let out = whole.moving.out j entry is in
        record {
          worker = out.worker;
          holder = out.holder;
          works = out.works;
          table = later j (omega (arith, out.table, before)) ∙ out.table;
          among = out.among;
          here = ap (λ k. home env mix G' k G.current) (gone_node entry KeyWord out.among)
              ∙ home_later (key_of M entry) G.current before ∙ out.here;
          owner = elim out.owner [
            | inl leaving ↦ inl leaving
            | inr further ↦ inr (record {
              bucket = further.bucket;
              first = further.first;
              later = omega (arith, further.later, later further.bucket (omega (arith, further.later, before)));
            })
          ];
        }

    moving_stays : MovingRight env mix M' G'
    moving_stays = record {
      armed = λ j c is.
          let right = whole.moving.armed j c is in
          let same = later j (omega (arith, right.current, before)) in
          record {
            holder = right.holder;
            current = omega (arith, right.current, same);
            attached = omega (arith, right.attached, same);
          };
      out = out_stays;
    }

    -- ---- nodes

    leaving_stays : (n j : ℕ) → IsLeavingAt env mix M G n j → IsLeavingAt env mix M' G' n j
    leaving_stays n j at =
        let out = whole.moving.out j n at.out in
        let next = at.next in
        let i = next.bucket in
        let same = later i (omega (arith, next.later, before)) in
        let key = gone_node n KeyWord out.among in
        record {
          out = at.out;
          behind = at.behind;
          bound_to = ap G.bound key ∙ at.bound_to;
          next = record {
            bucket = i;
            later = omega (arith, next.later, same);
            attached = omega (arith, next.attached, same);
            worker = next.worker;
            holder = next.holder;
            works = next.works;
            here = ap (λ k. home env mix G' k (table_at G' i)) key ∙ ap (home env mix G' (key_of M n)) same
                ∙ home_later (key_of M n) (table_at G i) (omega (arith, next.later, before)) ∙ next.here;
            chain = gone_node n ChainLink out.among ∙ next.chain;
          };
        }

    first_stays : (n j : ℕ) → IsFirstAt env mix M G n j → IsFirstAt env mix M' G' n j
    first_stays n j at =
        let key = gone_node n KeyWord at.among in
        let from = at.at_home.current in
        let behind : τ < table_at G j = omega (arith, from, before) in
        let same = later j behind in
        record {
          there = at.there;
          among = at.among;
          at_home = rw key (record {
            here = ap (home env mix G' (key_of M n)) same ∙ home_later (key_of M n) (table_at G j) behind ∙ at.at_home.here;
            current = omega (arith, same, from);
            attached = omega (arith, same, at.at_home.attached);
          });
          behind = at.behind;
          bound_to = ap G.bound key ∙ at.bound_to;
        }

    owned_stays : Owned env mix M' G'
    owned_stays =
        let owned = whole.owned in
        record {
          member = owned.member;
          first_at = λ n j f. first_stays n j (owned.first_at n j f);
          leaving_at = λ n j f. leaving_stays n j (owned.leaving_at n j f);
          behind_in = λ n port f.
              let is = owned.behind_in n port f in
              record {
                among = is.among;
                key_is = gone_node n KeyWord is.among ∙ is.key_is;
                first = is.first;
                behind = is.behind;
                bound_to = is.bound_to;
                there = is.there;
              };
          bound_to = λ port n behind b.
              let to = owned.bound_to port n behind b in
              let among = (seated_at env mix M G whole n to.bucket to.first).among in
              record {
                bucket = to.bucket;
                first = to.first;
                key_is = gone_node n KeyWord among ∙ to.key_is;
                list = rw (gone_node n ListLink among) (IsSegment-members (list_of M) (list_of M') (list_of M n) behind 0
                    (λ m i. gone_node m ListLink (owned.behind_in m port (to.each m i)).among) to.list);
                distinct = to.distinct;
                each = to.each;
              };
          single = owned.single;
          small = owned.small;
        }

    -- ---- tables, slots and sections

    placed_now : (σ : ℕ) → IsThere G' σ → PlacedRight env mix (table σ) page σ
    placed_now σ is = elim (cases_eq σ τ) [
      | inl e ↦ subst (λ i. PlacedRight env mix (table i) page i) (sym e)
          (goes.placed (retired_there (subst (IsThere G') e is)))
      | inr ne ↦ subst (λ t. PlacedRight env mix t page σ) (sym (goes.tables σ ne))
          (PlacedRight-pages env mix (G.table σ) G.page page σ (λ p. goes.pages p σ ne) (λ p. goes.back p σ)
          (whole.tables.each σ (there_before σ is)).placed)
    ]

    future_same : (σ : ℕ) → future_in env mix G' σ ≡ future_in env mix G σ
    future_same σ = ap (λ k. cond (nat_lt (σ + 1) G.attached) (future_of k) 0) (same_tables (σ + 1)).slot

    tables_right : TablesRight env mix M' G'
    tables_right = record {
      current_in = whole.tables.current_in;
      current_is = write.others CurrentTable tt of_pages.current ∙ whole.tables.current_is ∙ sym (same_tables G.current).slot;
      force = λ σ from l.
          let live = whole.tables.force σ from l in
          let ne : σ ≢ τ = λ e. absurd (omega (arith, from, before, e)) in
          ap slot (same_tables σ).slot
          ∙ goes.slots (G.table σ).slot (other_slot σ ne (record { has_slot = ap has_table live; index = ap table_of_slot live }))
          ∙ live;
      each = λ σ now.
          let k = (G.table σ).slot in
          let right = whole.tables.each σ (there_before σ now) in
          let same = same_tables σ in
          record {
            slot_in = omega (arith, same.slot, right.slot_in);
            shape_is = ap (λ t. M' (Slot t ShapeWord)) same.slot ∙ gone_slot k ShapeWord right.slot_in tt ∙ right.shape_is
                ∙ sym same.shape;
            seed_is = ap (λ t. M' (Slot t SeedWord)) same.slot ∙ gone_slot k SeedWord right.slot_in tt ∙ right.seed_is
                ∙ sym same.seed;
            serial_is = ap (λ t. M' (Slot t SerialWord)) same.slot ∙ gone_slot k SerialWord right.slot_in tt ∙ right.serial_is
                ∙ sym same.serial;
            seeded = same.seed ∙ right.seeded ∙ ap (table_seed env.config.seed) (sym same.serial);
            future_is = ap (λ t. M' (Slot t FutureWord)) same.slot ∙ gone_slot k FutureWord right.slot_in tt ∙ right.future_is
                ∙ sym (future_same σ);
            placed = placed_now σ now;
          };
      slots = λ t has.
          let owner = had_table t has in
          let is = whole.tables.slots t (sym (ap has_table owner) ∙ has) in
          let index : table_of_slot (slot t) ≡ index_at G t = ap table_of_slot owner in
          record {
            attached = omega (arith, is.attached, index);
            slot = (same_tables (table_of_slot (slot t))).slot ∙ ap (λ σ. (G.table σ).slot) index ∙ is.slot;
          };
    }

    state_same : (t : ℕ) → state_word (slot t) ≡ state_word (G.slot t)
    state_same t = elim (cases_eq t s) [
      | inl e ↦ ap (λ k. state_word (slot k)) e ∙ here ∙ sym (ap (λ k. state_word (G.slot k)) e ∙ ap state_word going.retired)
      | inr ne ↦ ap state_word (goes.slots t ne)
    ]
      where
        here : state_word (slot s) ≡ 2
        here = elim goes.here [ inl retired ↦ ap state_word retired | inr back ↦ ap state_word back ]

    slots_right : SlotsRight env mix M' G'
    slots_right = record {
      states = λ t l. gone_slot t StateWord l tt ∙ whole.slots.states t l ∙ sym (state_same t);
      worker_is = write.others WorkLock tt of_pages.work ∙ whole.slots.worker_is;
      retired = λ idle. retired_stay G G' None refl (λ t σ is l. live_same t σ is) (whole.slots.retired idle);
      back = λ t c is. elim (cases_eq t s) [
        | inl e ↦ given c (ap slot (sym e) ∙ is)
        | inr ne ↦ whole.slots.back t c (sym (goes.slots t ne) ∙ is)
      ];
    }
      where
        given : (c : ℕ) → slot s ≡ Back c → G.worker ≡ Some c
        given c is = elim goes.here [
          | inl retired ↦ let z : Retired τ ≡ Back c = sym retired ∙ is in absurd (cc)
          | inr back ↦ let z : Back d ≡ Back c = sym back ∙ is in let same : d ≡ c = cc in going.works ∙ ap Some same
        ]

    sections_right : SectionsRight env mix M' G'
    sections_right = SectionsRight-write env mix M M' G G' a v write of_pages.apart.sections whole.sections refl
        (λ t σ is. sym (had_table t (ap has_table is)) ∙ is) locked_since

    -- ---- pages

    -- each word that is no bucket's then is that of a blank one
    blank_now : (j : ℕ) → IsNoBucket env mix G' (page (j / 64)) j → G.bucket j ≡ blank_bucket
    blank_now j = go (G.page (j / 64)) refl
      where
        none : (owner : PageOwner) → G.page (j / 64) ≡ owner → ((σ : ℕ) → owner ≢ PageOf σ) → G.bucket j ≡ blank_bucket
        none owner is unowned =
            whole.pages.blank j (no_table-no_bucket env mix G (G.page (j / 64)) j (λ σ of. unowned σ (sym is ∙ of)))

        go : (owner : PageOwner) → G.page (j / 64) ≡ owner → IsNoBucket env mix G' (page (j / 64)) j
            → G.bucket j ≡ blank_bucket
        go PageFree is blank = none PageFree is (λ σ e. cc)
        go (PageHeld c) is blank = none (PageHeld c) is (λ σ e. cc)
        go (PageOf σ) is blank = elim (cases_eq σ τ) [
          | inl e ↦ over-blank env mix d s τ M G whole going j (is ∙ ap PageOf e)
          | inr ne ↦
              let spare : IsSpareIn (table σ).shape ((table σ).part (j / 64)) j =
              subst (λ o. IsNoBucket env mix G' o j) (goes.pages (j / 64) σ ne is) blank in
              whole.pages.blank j (subst (λ o. IsNoBucket env mix G o j) (sym is)
              (subst (λ (t : Table). IsSpareIn t.shape (t.part (j / 64)) j) (goes.tables σ ne) spare))
        ]

    pages_right : ((p : ℕ) → p < env.geometry.pages → (bit_at (M' (PageMap (p / 64))) (p % 64) ≡ 1) ↔ (page p ≡ PageFree))
        → PagesRight env mix M' G'
    pages_right bits = record {
      bits = bits;
      page_of = λ p σ is. whole.pages.page_of p σ (goes.back p σ is);
      there = λ p σ is. elim (cases_eq σ τ) [
        | inl e ↦ subst (IsThere G') (sym e) (there_here (goes.own p (is ∙ ap PageOf e)))
        | inr ne ↦ there_stays σ ne (whole.pages.there p σ (goes.back p σ is))
      ];
      blank = blank_now;
    }

    -- ---- buckets and entries

    -- an entry of another table is one still
    entry_stays : (j : ℕ) → G.page (j / 64) ≢ PageOf τ → is_entry G j ≡ true → is_entry G' j ≡ true
    entry_stays j other = go (G.page (j / 64)) refl
      where
        go : (owner : PageOwner) → G.page (j / 64) ≡ owner → is_entry_of G.table owner (j / 64) ≡ true → is_entry G' j ≡ true
        go PageFree of is = absurd (cc)
        go (PageHeld c) of is = absurd (cc)
        go (PageOf σ) of is =
            let ne : σ ≢ τ = λ e. other (of ∙ ap PageOf e) in
            ap (λ o. is_entry_of table o (j / 64)) (goes.pages (j / 64) σ ne of)
            ∙ ap (λ (t : Table). has_entries (t.part (j / 64))) (goes.tables σ ne) ∙ is

    -- What is left to show of buckets: that an entry of the table which is none any more has the word 0. And of entries: that
    -- the words of those of the table are right.
    abbrev pub IsCleared : Type 0
    IsCleared = (j : ℕ) → j < 64 * env.geometry.pages → G.page (j / 64) ≡ PageOf τ → is_entry G j ≡ true
        → is_entry G' j ≡ false → M' (PageWord j) ≡ 0

    abbrev pub HasEntries : Type 0
    HasEntries = (j : ℕ) → j < 64 * env.geometry.pages → page (j / 64) ≡ PageOf τ
        → has_entries ((table τ).part (j / 64)) ≡ true → M' (PageWord j) ≡ entry_word ((table τ).entry j)

    -- the page isn't the table's, or is
    own_or_not : (p : ℕ) → (G.page p ≡ PageOf τ) ⊎ (G.page p ≢ PageOf τ)
    own_or_not p = go (G.page p) refl
      where
        go : (owner : PageOwner) → G.page p ≡ owner → (G.page p ≡ PageOf τ) ⊎ (G.page p ≢ PageOf τ)
        go PageFree is = inr (λ of. let z : PageFree ≡ PageOf τ = sym is ∙ of in cc)
        go (PageHeld c) is = inr (λ of. let z : PageHeld c ≡ PageOf τ = sym is ∙ of in cc)
        go (PageOf σ) is = elim (cases_eq σ τ) [
          | inl e ↦ inl (is ∙ ap PageOf e)
          | inr ne ↦ inr (λ of. let z : PageOf σ ≡ PageOf τ = sym is ∙ of in ne (cc))
        ]

    buckets_right : IsCleared → BucketsRight env mix M' G'
    buckets_right cleared j l plain = elim (own_or_not (j / 64)) [
      | inl of ↦
          subst (BucketRight env mix M' j) (sym (over-blank env mix d s τ M G whole going j of))
          (blank_right env mix M' j (go of (is_entry G j) refl))
      | inr other ↦
          let was : is_entry G j ≡ false =
          false_from_ne_true (is_entry G j) (λ is. both_ways (is_entry G' j) plain (entry_stays j other is)) in
          BucketRight-frame env mix M M' j (G.bucket j) (write.others (PageWord j) l (of_pages.apart.buckets j was))
          (λ n i. gone_node n ChainLink (whole.owned.first_at n j (whole.owned.member j n i)).among)
          (whole.buckets j l was)
    ]
      where
        go : G.page (j / 64) ≡ PageOf τ → (t : Bool) → is_entry G j ≡ t → M' (PageWord j) ≡ 0
        go of true is = cleared j l of is plain
        go of false is =
            write.others (PageWord j) l (of_pages.apart.buckets j is) ∙ over-zero env mix d s τ M G whole going j of is

    entries_right : HasEntries → EntriesRight env mix M' G'
    entries_right own j l = go (page (j / 64)) refl
      where
        one_table : (σ : ℕ) → G.page (j / 64) ≡ PageOf σ → G.page (j / 64) ≡ PageOf τ → σ ≡ τ
        one_table σ of own_of = let z : PageOf σ ≡ PageOf τ = sym of ∙ own_of in cc

        go : (owner : PageOwner) → page (j / 64) ≡ owner → is_entry_of table owner (j / 64) ≡ true
            → M' (PageWord j) ≡ entry_word ((table (table_at G' j)).entry j)
        go PageFree of has = absurd (cc)
        go (PageHeld c) of has = absurd (cc)
        go (PageOf σ) of has =
            let now : table_at G' j ≡ σ = ap table_of_page of in
            elim (cases_eq σ τ) [
              | inl e ↦
                  own j l (of ∙ ap PageOf e) (ap (λ i. has_entries ((table i).part (j / 64))) (sym e) ∙ has)
                  ∙ ap (λ i. entry_word ((table i).entry j)) (sym (now ∙ e))
              | inr ne ↦
                  let same : table σ ≡ G.table σ = goes.tables σ ne in
                  let was_of = goes.back (j / 64) σ of in
                  let was : is_entry G j ≡ true =
                  ap (λ o. is_entry_of G.table o (j / 64)) was_of
                  ∙ ap (λ (t : Table). has_entries (t.part (j / 64))) (sym same) ∙ has in
                  write.others (PageWord j) l (λ e. ne (one_table σ was_of (of_pages.entries j e)))
                  ∙ whole.entries j l was ∙ ap (λ i. entry_word ((G.table i).entry j)) (ap table_of_page was_of)
                  ∙ ap (λ (t : Table). entry_word (t.entry j)) (sym same)
                  ∙ ap (λ i. entry_word ((table i).entry j)) (sym now)
            ]

    -- ---- the step

    -- what is left to show of the whole: that the map of pages is right, and the words of the table's entries
    gone_whole : ((p : ℕ) → p < env.geometry.pages → (bit_at (M' (PageMap (p / 64))) (p % 64) ≡ 1) ↔ (page p ≡ PageFree))
        → IsCleared → HasEntries → Whole env mix M' G'
    gone_whole bits cleared own = record {
      tables = tables_right;
      slots = slots_right;
      sections = sections_right;
      pages = pages_right bits;
      buckets = buckets_right cleared;
      entries = entries_right own;
      moving = moving_stays;
      owned = owned_stays;
      arena = arena_stays env mix M M' G a v whole write G' refl of_pages.apart.map;
      counted = write.others PortCount tt of_pages.apart.count ∙ whole.counted;
    }

    -- what others can count on, where they keep their slots and pages: none of them does the work
    gone_others : ((c : ℕ) → c ≢ d → HoldingsStay env mix c M G M' G') → Others env mix d M G M' G'
    gone_others holdings c ne = record {
      tables = gone_stay;
      locks = λ j h. refl;
      lists = λ j n h i. refl;
      chains = chains_stay env mix c M M' G a v whole write (λ n used. of_pages.apart.nodes n ChainLink);
      keys = λ n l used. gone_node n KeyWord l;
      owners = λ n l used. gone_node n OwnerWord l;
      nodes = λ n has. has.mine;
      words = λ n has w. gone_node n w has.among;
      raised = refl;
      taken = λ n. refl;
      unbound = λ port σ j is. is.unbound;
      holdings = holdings c ne;
      work = λ works. absurd (ne (let z : ◌≡◌ {A = Option ℕ} (Some c) (Some d) = sym works ∙ going.works in cc));
      no_work = λ is. is;
      no_node = λ n h. h;
      no_lock = λ j h. h;
    }

    -- what is left to show beside: that others keep their slots and pages, and get none
    pub gone : ((p : ℕ) → p < env.geometry.pages → (bit_at (M' (PageMap (p / 64))) (p % 64) ≡ 1) ↔ (page p ≡ PageFree))
        → IsCleared → HasEntries
        → ((c p : ℕ) → c ≢ d → G.page p ≡ PageHeld c → page p ≡ PageHeld c)
        → ((c p : ℕ) → c ≢ d → page p ≡ PageHeld c → G.page p ≡ PageHeld c) → Made env mix d M G M' G'
    gone bits cleared own held_stays held_was = record {
      whole = gone_whole bits cleared own;
      others = gone_others (λ c ne. record {
        slots = λ t is. goes.slots t (λ e. none_has (ap (λ k. slot_holder (G.slot k)) (sym e) ∙ is));
        slot_words = λ t w has is. gone_slot t w has.within is;
        no_slot = λ t is. elim (cases_eq t s) [
          | inl e ↦ absurd (none_gets c ne (ap (λ k. slot_holder (slot k)) (sym e) ∙ is))
          | inr other ↦ sym (ap slot_holder (goes.slots t other)) ∙ is
        ];
        pages = λ p is. held_stays c p ne is;
        no_page = λ p is. held_was c p ne is;
      });
      stale = stale_write env mix M M' G G' a v write (same_owners env mix G G' refl)
          (λ n u f. of_pages.apart.nodes n ChainLink) (λ n u f. of_pages.apart.nodes n ListLink);
    }
      where
        none_has : {c : ℕ} → slot_holder (G.slot s) ≡ Some c → ⊥
        none_has {c} is = none-some (ap slot_holder going.retired) is

        none_gets : (c : ℕ) → c ≢ d → slot_holder (slot s) ≡ Some c → ⊥
        none_gets c ne is = elim goes.here [
          | inl retired ↦ none-some (ap slot_holder retired) is
          | inr back ↦ ne (let z : ◌≡◌ {A = Option ℕ} (Some d) (Some c) = sym (ap slot_holder back) ∙ is in cc)
        ]

    -- ---- what the caller itself knows

    -- each table before the current one that has a slot is retired still, but for that in this slot
    pub gone_works : (o : Option ℕ) → DoesWork d G o → DoesWork d G' o
    gone_works o works = (works.0, retired_stay G G' o refl (λ t σ is l. live_same t σ is) works.1)

    -- what is left to show of what it knows behind such a step: which slot and pages it has, and what it knows of these and
    -- of the work
    pub Knowing-gone : {A : Type 0} → (h : held.Held A) (known : Known) (has : Option ℕ) (pages : List ℕ) (making : KnownMaking)
        (done : KnownWork) → Knowing env mix d h known M G
        → ((t : ℕ) → slot_holder (slot t) ≡ Some d → has ≡ Some t) → ((p : ℕ) → page p ≡ PageHeld d → In p pages)
        → MakingMeans env mix d M' G' making → WorkMeans env mix d M' G' done
        → Knowing env mix d (record h { slot = has; pages = pages }) (record known { making = making; work = done }) M' G'
    Knowing-gone h known has pages making done knows slots_in pages_in making_is work_is = record {
      only = record {
        nodes = knows.only.nodes;
        locks = knows.only.locks;
        raising = knows.only.raising;
        slots = slots_in;
        pages_in = pages_in;
        works = knows.only.works;
        reads = knows.only.reads;
      };
      means = record {
        node = NodeMeans-stay env mix d M M' G G' (λ n has. has.mine) (λ n has w. gone_node n w has.among)
            known.node knows.means.node;
        table = TableMeans-stay env mix d M M' G G' refl gone_stay known.table knows.means.table;
        bucket = BucketMeans-own env mix d M M' G G' (members_used env mix M G whole) (λ j h. refl) (λ j n h i. refl)
            (chains_stay env mix d M M' G a v whole write (λ n used. of_pages.apart.nodes n ChainLink))
            (λ n l used. gone_node n KeyWord l) (λ n l used. gone_node n OwnerWord l) (λ n. refl) gone_stay
            (λ port σ j is. is.unbound) known.bucket
            (λ w each n has. (record { mine = has.mine; among = has.among }, gone_node n w has.among))
            knows.means.bucket;
        making = making_is;
        work = work_is;
      };
    }
