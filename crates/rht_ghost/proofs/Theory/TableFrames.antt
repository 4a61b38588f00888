-- What a step leaves that changes tables, slots and pages alone, and writes a word that says something of them.
-- Buckets, nodes, what is bound, and who does the work are what they were.
use Rattle.std.proofs.Common.{◌≡◌, ◌≢◌, ℕ, ◌*◌, ◌/◌, ◌<◌, ◌≤◌, ◌⊎◌, List, Option, Some, true, false, refl, sym, ◌∙◌, ap, subst, inl, inr, arith}
use Rattle.std.proofs.lemmas.Bool.{false_from_ne_true, both_ways, cases_lt}
use Rattle.rht_words.specs.declared.env.Env.{Env}
use Rattle.rht_words.specs.Held as held
use Rattle.rht_words.specs.Places.{Address, PortCount, Section, Slot, LoadedSection, ShapeWord, SeedWord, FutureWord, SerialWord, NodeMap, Node, NodeWord, ChainLink, KeyWord, OwnerWord, ListLink, PageWord}
use Rattle.rht_words.specs.Members.{In}
use Rattle.rht_words.proofs.Memory.{Memory, IsWrite}
use Rattle.rht_words.proofs.ChainLemmas.{IsSegment-members}
use Rattle.rht_ghost.proofs.Theory.Ghosts.{has_entries, Table, blank_bucket, PageOwner, PageFree, PageHeld, PageOf, SlotOwner, Ghost, unretired, unretired-has, slot_holder, IsOver, IsSince, table_of_page, table_of_slot, table_at, has_table, is_entry, is_entry_of, entry_word}
use Rattle.rht_ghost.proofs.Theory.Wholes.{key_of, list_of, home, future_in, IsNoBucket, PlacedRight, EntriesRight, TableRight, TablesRight, SlotsRight, PagesRight, MovingRight, OutRight, IsHomeOf, IsFirstAt, IsLeavingAt, Owned, Whole, seated_at, IsThere}
use Rattle.rht_nest.specs.Tables.{table_seed}
use Rattle.rht_ghost.proofs.Theory.Entries.{PlacedRight-pages}
use Rattle.rht_ghost.proofs.Theory.Passed.{held-bucket, member-bucket, home-stays, TableStays, same-TableStays, TablesGrow, grows_from, PassesStay}
use Rattle.rht_ghost.proofs.Theory.Knowns.{Known, KnownMaking}
use Rattle.rht_ghost.proofs.Theory.Knowledge.{MakingMeans, Knowing}
use Rattle.rht_ghost.proofs.Theory.SectionFrames.{IsNoSectionWord, SectionsRight-write, sections_stay, retired-before}
use Rattle.rht_ghost.proofs.Theory.Reliance.{TablesStay, all_stay, HoldingsStay, IsUntouched, WorkStays, members_used, Rely}
use Rattle.rht_ghost.proofs.Theory.KnowledgeStays.{NodeMeans-stay, TableMeans-stay, BucketMeans-own}
use Rattle.rht_ghost.proofs.Theory.KnowledgeKept.{WorkMeans-stay}
use Rattle.rht_ghost.proofs.Theory.Frames.{passes_same, chains_stay}
use Rattle.rht_ghost.proofs.Theory.WholeFrames.{BucketRight-frame, arena_stays}

-- the address is no word of a node, nor one of a page that isn't a table's entry, nor of the map of nodes, nor the count, nor a
-- section word, whether kept or not
pub record IsNoBucketWord (G : Ghost) (a : Address) : Type 0 where
  pub nodes : (n : ℕ) (w : NodeWord) → Node n w ≢ a
  pub buckets : (j : ℕ) → is_entry G j ≡ false → PageWord j ≢ a
  pub map : (i : ℕ) → NodeMap i ≢ a
  pub count : PortCount ≢ a
  pub sections : IsNoSectionWord a

module _ (env : Env) (mix : ℕ → ℕ → ℕ → ℕ) where
  -- the ghost with other tables, slots and pages
  abbrev pub retabled : Ghost → (ℕ → Table) → ℕ → (ℕ → SlotOwner) → (ℕ → PageOwner) → Ghost
  retabled G table attached slot page = record G { table = table; attached = attached; slot = slot; page = page }

  -- the tables that there are keep their slots and pages, and what is said of them; a bucket that gets a word is blank; and tables that
  -- come are there. Nobody touches a table before the current one to which no open section comes
  pub record TablesKept (G : Ghost) (table : ℕ → Table) (attached : ℕ) (slot : ℕ → SlotOwner)
      (page : ℕ → PageOwner) : Type 0 where
    pub tables : (τ : ℕ) → τ < G.attached → TableStays G.page τ (G.table τ) (table τ)
    pub placed : (τ b j : ℕ) → τ < G.attached → (table τ).place b ≡ Some j
        → ((G.table τ).place b ≡ Some j) ⊎ (G.bucket j ≡ blank_bucket)
    pub more : G.attached ≤ attached
    pub slots : (s : ℕ) → has_table (G.slot s) ≡ true → slot s ≡ G.slot s
    pub back : (s : ℕ) → has_table (slot s) ≡ true → table_of_slot (slot s) < G.attached → slot s ≡ G.slot s
    pub pages : (p τ : ℕ) → G.page p ≡ PageOf τ → page p ≡ PageOf τ
    pub fresh : (τ : ℕ) → G.attached ≤ τ → τ < attached → IsThere (retabled G table attached slot page) τ
    pub over : (τ : ℕ) → τ < G.current → IsOver G τ → IsUntouched env mix τ G (retabled G table attached slot page)

  -- so it is where they are what they were, and none of them gets a page
  pub same_kept : (G : Ghost) (table : ℕ → Table) (attached : ℕ) (slot : ℕ → SlotOwner) (page : ℕ → PageOwner)
      → G.current < G.attached → ((τ : ℕ) → τ < G.attached → table τ ≡ G.table τ) → G.attached ≤ attached
      → ((s : ℕ) → has_table (G.slot s) ≡ true → slot s ≡ G.slot s)
      → ((s : ℕ) → has_table (slot s) ≡ true → table_of_slot (slot s) < G.attached → slot s ≡ G.slot s)
      → ((p τ : ℕ) → G.page p ≡ PageOf τ → page p ≡ PageOf τ)
      → ((p τ : ℕ) → τ < G.attached → page p ≡ PageOf τ → G.page p ≡ PageOf τ)
      → ((τ : ℕ) → G.attached ≤ τ → τ < attached → IsThere (retabled G table attached slot page) τ)
      → TablesKept G table attached slot page
  same_kept G table attached slot page within same more slots back pages pages_back fresh = record {
    tables = λ τ l. same-TableStays G.page τ (G.table τ) (table τ) (same τ l);
    placed = λ τ b j l is. inl (ap (λ (t : Table). t.place b) (sym (same τ l)) ∙ is);
    more = more;
    slots = slots;
    back = back;
    pages = pages;
    fresh = fresh;
    over = λ τ l over.
        let was : τ < G.attached = omega (arith, l, within) in
        record { table = same τ was; pages = λ p. (pages_back p τ was, pages p τ) };
  }

  -- none comes
  pub none_fresh : (G G' : Ghost) (τ : ℕ) → G.attached ≤ τ → τ < G.attached → IsThere G' τ
  none_fresh G G' τ from l = absurd (omega (arith, from, l))

  -- Then a slot that has one of these tables not retired had it so before. And a table that was there is there still; one of
  -- these that is there was so before.
  module _ (G : Ghost) (table : ℕ → Table) (attached : ℕ) (slot : ℕ → SlotOwner) (page : ℕ → PageOwner)
      (kept : TablesKept G table attached slot page) where
    pub live_kept : (s τ : ℕ) → unretired (slot s) ≡ Some τ → τ < G.attached → unretired (G.slot s) ≡ Some τ
    live_kept s τ live l =
        let has = unretired-has (slot s) τ live in
        sym (ap unretired (kept.back s has.0 (omega (arith, has.1, l)))) ∙ live

    pub there_kept : (τ : ℕ) → τ < G.attached → IsThere G τ → IsThere (retabled G table attached slot page) τ
    there_kept τ l there =
        let same = (kept.tables τ l).slot in
        let owner = kept.slots (G.table τ).slot there.has_slot in
        record {
          has_slot = ap (λ s. has_table (slot s)) same ∙ ap has_table owner ∙ there.has_slot;
          index = ap (λ s. table_of_slot (slot s)) same ∙ ap table_of_slot owner ∙ there.index;
        }

    pub there_before : (τ : ℕ) → τ < G.attached → IsThere (retabled G table attached slot page) τ → IsThere G τ
    there_before τ l there =
        let s = (G.table τ).slot in
        let same : (table τ).slot ≡ s = (kept.tables τ l).slot in
        let has : has_table (slot s) ≡ true = ap (λ t. has_table (slot t)) (sym same) ∙ there.has_slot in
        let index : table_of_slot (slot s) ≡ τ = ap (λ t. table_of_slot (slot t)) (sym same) ∙ there.index in
        let owner = kept.back s has (omega (arith, index, l)) in
        record { has_slot = sym (ap has_table owner) ∙ has; index = sym (ap table_of_slot owner) ∙ index }

  -- a page that no table has, or the word of none of its buckets
  pub no_table-no_bucket : (G : Ghost) (owner : PageOwner) (j : ℕ) → ((τ : ℕ) → owner ≢ PageOf τ)
      → IsNoBucket env mix G owner j
  no_table-no_bucket G PageFree j none = tt
  no_table-no_bucket G (PageHeld c) j none = tt
  no_table-no_bucket G (PageOf τ) j none = absurd (none τ refl)

  module _ (M M' : Memory) (G : Ghost) (table : ℕ → Table) (attached : ℕ) (slot : ℕ → SlotOwner)
      (page : ℕ → PageOwner) (whole : Whole env mix M G) (kept : TablesKept G table attached slot page)
      (a : Address) (v : ℕ) (write : IsWrite env.geometry M M' a v) (apart : IsNoBucketWord G a) where
    abbrev G' : Ghost
    G' = retabled G table attached slot page

    pub kept_grow : TablesGrow env mix G G'
    kept_grow = record {
      tables = kept.tables;
      placed = kept.placed;
      attached = kept.more;
      current = omega arith;
      live = live_kept G table attached slot page kept;
      there = λ τ l was. elim (cases_lt τ G.attached) [
        | inl old ↦ there_kept G table attached slot page kept τ old (was old)
        | inr from ↦ kept.fresh τ from l
      ];
      pages = kept.pages;
    }

    kept_passes : PassesStay env mix G G'
    kept_passes = passes_same env mix M G G' whole (record {
      armed = λ j c is. is;
      out = λ j. refl;
      bound = λ port. refl;
      used = λ n used. refl;
    })

    pub kept_stay : TablesStay env mix G G'
    kept_stay = all_stay env mix M G G' whole kept_grow kept_passes

    pub node_word : (n : ℕ) (w : NodeWord) → n < env.geometry.nodes → M' (Node n w) ≡ M (Node n w)
    node_word n w l = write.others (Node n w) l (apart.nodes n w)

    -- ---- which tables buckets have

    -- the word of a bucket is in a page of its table
    bucket_page : (j : ℕ) → (IsNoBucket env mix G (G.page (j / 64)) j → ⊥) → G.page (j / 64) ≡ PageOf (table_at G j)
    bucket_page j bucket = go (G.page (j / 64)) refl
      where
        go : (owner : PageOwner) → G.page (j / 64) ≡ owner → G.page (j / 64) ≡ PageOf (table_at G j)
        go PageFree is = absurd (bucket (subst (λ o. IsNoBucket env mix G o j) (sym is) tt))
        go (PageHeld c) is = absurd (bucket (subst (λ o. IsNoBucket env mix G o j) (sym is) tt))
        go (PageOf τ) is = is ∙ ap PageOf (sym (ap table_of_page is))

    table_kept : (j : ℕ) → (IsNoBucket env mix G (G.page (j / 64)) j → ⊥) → table_at G' j ≡ table_at G j
    table_kept j bucket = ap table_of_page (kept.pages (j / 64) (table_at G j) (bucket_page j bucket))

    home_kept : (port j : ℕ) → (IsNoBucket env mix G (G.page (j / 64)) j → ⊥) → IsHomeOf env mix G port j
        → IsHomeOf env mix G' port j
    home_kept port j bucket at =
        let same = table_kept j bucket in
        record {
          here = ap (home env mix G' port) same
              ∙ home-stays env mix G G' kept_grow port (table_at G j) j at.attached at.here;
          current = omega (arith, same, at.current);
          attached = omega (arith, same, at.attached, kept.more);
        }

    -- ---- entries of tables

    -- what was an entry is one still, so that no bucket's word was one
    entry_kept : (j : ℕ) → is_entry G j ≡ true → is_entry G' j ≡ true
    entry_kept j = go (G.page (j / 64)) refl
      where
        go : (owner : PageOwner) → G.page (j / 64) ≡ owner → is_entry_of G.table owner (j / 64) ≡ true
            → is_entry G' j ≡ true
        go PageFree of is = absurd (cc)
        go (PageHeld c) of is = absurd (cc)
        go (PageOf τ) of is =
            ap (λ o. is_entry_of table o (j / 64)) (kept.pages (j / 64) τ of)
            ∙ ap has_entries ((kept.tables τ (whole.pages.page_of (j / 64) τ of)).parts (j / 64) of) ∙ is

    bucket_before : (j : ℕ) → is_entry G' j ≡ false → is_entry G j ≡ false
    bucket_before j none = false_from_ne_true (is_entry G j) (λ is. both_ways (is_entry G' j) none (entry_kept j is))

    -- where a table is what it was, the words of its entries are right still
    pub entry_word-kept : (j τ : ℕ) → j < 64 * env.geometry.pages → G.page (j / 64) ≡ PageOf τ → table τ ≡ G.table τ
        → has_entries ((table τ).part (j / 64)) ≡ true → PageWord j ≢ a
        → M' (PageWord j) ≡ entry_word ((G'.table (table_at G' j)).entry j)
    entry_word-kept j τ l of same has other =
        let was : is_entry G j ≡ true =
        ap (λ o. is_entry_of G.table o (j / 64)) of ∙ ap (λ (t : Table). has_entries (t.part (j / 64))) (sym same) ∙ has in
        let at : table_at G j ≡ τ = ap table_of_page of in
        let now : table_at G' j ≡ τ = ap table_of_page (kept.pages (j / 64) τ of) in
        write.others (PageWord j) l other ∙ whole.entries j l was ∙ ap (λ σ. entry_word ((G.table σ).entry j)) at
        ∙ ap (λ (t : Table). entry_word (t.entry j)) (sym same)
        ∙ ap (λ σ. entry_word ((table σ).entry j)) (sym now)

    -- so they are where no page gets any, and no entry is written
    pub EntriesRight-kept : ((τ : ℕ) → τ < G.attached → table τ ≡ G.table τ)
        → ((p τ : ℕ) → page p ≡ PageOf τ → has_entries ((table τ).part p) ≡ true → G.page p ≡ PageOf τ)
        → ((j : ℕ) → PageWord j ≢ a) → EntriesRight env mix M' G'
    EntriesRight-kept same back other j l = go (page (j / 64)) refl
      where
        go : (owner : PageOwner) → page (j / 64) ≡ owner → is_entry_of table owner (j / 64) ≡ true
            → M' (PageWord j) ≡ entry_word ((G'.table (table_at G' j)).entry j)
        go PageFree of is = absurd (cc)
        go (PageHeld c) of is = absurd (cc)
        go (PageOf τ) of is =
            let was = back (j / 64) τ of is in
            entry_word-kept j τ l was (same τ (whole.pages.page_of (j / 64) τ was)) is (other j)

    -- ---- what is on its way

    out_kept : (j entry : ℕ) → (G.bucket j).out ≡ Some entry → OutRight env mix M' G' j entry
    out_kept j entry is =
        let out = whole.moving.out j entry is in
        let same = table_kept j (held-bucket env mix M G whole j out.worker out.holder) in
        record {
          worker = out.worker;
          holder = out.holder;
          works = out.works;
          table = same ∙ out.table;
          among = out.among;
          here = ap (λ k. home env mix G' k G.current) (node_word entry KeyWord out.among)
              ∙ home-stays env mix G G' kept_grow (key_of M entry) G.current j whole.tables.current_in out.here;
          owner = elim out.owner [
            | inl leaving ↦ inl leaving
            | inr further ↦
                let there = (whole.owned.first_at entry further.bucket further.first).there in
                inr (record {
                  bucket = further.bucket;
                  first = further.first;
                  later = omega (arith, further.later, table_kept further.bucket (member-bucket env mix M G whole further.bucket entry there));
                })
          ];
        }

    moving_kept : MovingRight env mix M' G'
    moving_kept = record {
      armed = λ j c is.
          let right = whole.moving.armed j c is in
          let same = table_kept j (held-bucket env mix M G whole j c right.holder) in
          record {
            holder = right.holder;
            current = omega (arith, right.current, same);
            attached = omega (arith, right.attached, same, kept.more);
          };
      out = out_kept;
    }

    -- ---- nodes

    leaving_kept : (n j : ℕ) → IsLeavingAt env mix M G n j → IsLeavingAt env mix M' G' n j
    leaving_kept n j at =
        let out = whole.moving.out j n at.out in
        let next = at.next in
        let i = next.bucket in
        let same = table_kept i (held-bucket env mix M G whole i next.worker next.holder) in
        let key = node_word n KeyWord out.among in
        record {
          out = at.out;
          behind = at.behind;
          bound_to = ap G.bound key ∙ at.bound_to;
          next = record {
            bucket = i;
            later = omega (arith, next.later, same);
            attached = omega (arith, next.attached, same, kept.more);
            worker = next.worker;
            holder = next.holder;
            works = next.works;
            here = ap (λ k. home env mix G' k (table_at G' i)) key ∙ ap (home env mix G' (key_of M n)) same
                ∙ home-stays env mix G G' kept_grow (key_of M n) (table_at G i) i next.attached next.here;
            chain = node_word n ChainLink out.among ∙ next.chain;
          };
        }

    first_kept : (n j : ℕ) → IsFirstAt env mix M G n j → IsFirstAt env mix M' G' n j
    first_kept n j at =
        let key = node_word n KeyWord at.among in
        record {
          there = at.there;
          among = at.among;
          at_home = rw key (home_kept (key_of M n) j (member-bucket env mix M G whole j n at.there) at.at_home);
          behind = at.behind;
          bound_to = ap G.bound key ∙ at.bound_to;
        }

    owned_kept : Owned env mix M' G'
    owned_kept =
        let owned = whole.owned in
        record {
          member = owned.member;
          first_at = λ n j f. first_kept n j (owned.first_at n j f);
          leaving_at = λ n j f. leaving_kept n j (owned.leaving_at n j f);
          behind_in = λ n port f.
              let is = owned.behind_in n port f in
              record {
                among = is.among;
                key_is = node_word n KeyWord is.among ∙ is.key_is;
                first = is.first;
                behind = is.behind;
                bound_to = is.bound_to;
                there = is.there;
              };
          bound_to = λ port n behind b.
              let to = owned.bound_to port n behind b in
              let among = (seated_at env mix M G whole n to.bucket to.first).among in
              record {
                bucket = to.bucket;
                first = to.first;
                key_is = node_word n KeyWord among ∙ to.key_is;
                list = rw (node_word n ListLink among) (IsSegment-members (list_of M) (list_of M') (list_of M n) behind 0
                    (λ m i. node_word m ListLink (owned.behind_in m port (to.each m i)).among) to.list);
                distinct = to.distinct;
                each = to.each;
              };
          single = owned.single;
          small = owned.small;
        }

    -- ---- the whole, and what others know

    -- what is left to show of the whole: that tables, slots, pages and entries are right
    pub Whole-retabled : TablesRight env mix M' G' → SlotsRight env mix M' G' → PagesRight env mix M' G'
        → EntriesRight env mix M' G' → Whole env mix M' G'
    Whole-retabled tables slots pages entries = record {
      tables = tables;
      slots = slots;
      sections = SectionsRight-write env mix M M' G G' a v write apart.sections whole.sections refl
          (λ s τ is.
          let before = retired-before env mix M' G' tables s τ is in
          let index : table_of_slot (slot s) ≡ τ = ap table_of_slot is in
          sym (kept.back s (ap has_table is) (omega (arith, index, before, whole.tables.current_in))) ∙ is)
          (λ j c holds. subst (IsSince (G.from c)) (sym (table_kept j (held-bucket env mix M G whole j c holds)))
          (whole.sections.locked j c holds));
      pages = pages;
      buckets = λ j l none.
          let was = bucket_before j none in
          BucketRight-frame env mix M M' j (G.bucket j) (write.others (PageWord j) l (apart.buckets j was))
          (λ n i. node_word n ChainLink (whole.owned.first_at n j (whole.owned.member j n i)).among)
          (whole.buckets j l was);
      entries = entries;
      moving = moving_kept;
      owned = owned_kept;
      arena = arena_stays env mix M M' G a v whole write G' refl apart.map;
      counted = write.others PortCount tt apart.count ∙ whole.counted;
    }

    -- what a caller that does the work can count on, whoever's step it is
    pub work_kept : (c : ℕ) → G.worker ≡ Some c → WorkStays env mix c M G M' G'
    work_kept c works = record {
      worker = works;
      current = refl;
      left = λ s has l. kept.slots s has;
      kept = λ s d l m. write.others (Slot s (LoadedSection d)) (l, m) (apart.sections.kept s d);
      sections = sections_stay env mix M M' G G' whole refl (λ d m. write.others (Section d) m (apart.sections.own d));
      over = kept.over;
      emptied = λ more j at is. is;
      entries = λ j entry out. refl;
      chains = λ n j leaving.
          node_word n ChainLink (whole.moving.out j n (whole.owned.leaving_at n j leaving).out).among;
    }

    -- what is left to show of what another caller knows: that its slots and pages stay
    pub Rely-retabled : (c : ℕ) → HoldingsStay env mix c M G M' G' → Rely env mix c M G M' G'
    Rely-retabled c holdings = record {
      tables = kept_stay;
      locks = λ j h. refl;
      lists = λ j n h i. refl;
      chains = chains_stay env mix c M M' G a v whole write (λ n used. apart.nodes n ChainLink);
      keys = λ n l used. node_word n KeyWord l;
      owners = λ n l used. node_word n OwnerWord l;
      nodes = λ n has. has.mine;
      words = λ n has w. node_word n w has.among;
      raised = refl;
      taken = λ n. refl;
      unbound = λ port τ j is. is.unbound;
      holdings = holdings;
      work = work_kept c;
      no_work = λ is. is;
      no_node = λ n h. h;
      no_lock = λ j h. h;
    }

    -- what the caller itself knows after a step of its own, beside its slot and pages and what it knows of these
    pub Knowing-retabled : {A : Type 0} → (c : ℕ) (h : held.Held A) (known : Known) (has : Option ℕ)
        (pages : List ℕ) (making : KnownMaking) → Knowing env mix c h known M G
        → ((s : ℕ) → slot_holder (slot s) ≡ Some c → has ≡ Some s) → ((p : ℕ) → page p ≡ PageHeld c → In p pages)
        → MakingMeans env mix c M' G' making
        → Knowing env mix c (record h { slot = has; pages = pages }) (record known { making = making }) M' G'
    Knowing-retabled c h known has pages making knows slots_in pages_in means = record {
      only = record {
        nodes = knows.only.nodes;
        locks = knows.only.locks;
        raising = knows.only.raising;
        slots = slots_in;
        pages_in = pages_in;
        works = knows.only.works;
        reads = knows.only.reads;
      };
      means = record {
        node = NodeMeans-stay env mix c M M' G G' (λ n has. has.mine) (λ n has w. node_word n w has.among)
            known.node knows.means.node;
        table = TableMeans-stay env mix c M M' G G' refl kept_stay known.table knows.means.table;
        bucket = BucketMeans-own env mix c M M' G G' (members_used env mix M G whole) (λ j h. refl) (λ j n h i. refl)
            (chains_stay env mix c M M' G a v whole write (λ n used. apart.nodes n ChainLink))
            (λ n l used. node_word n KeyWord l) (λ n l used. node_word n OwnerWord l) (λ n. refl) kept_stay
            (λ port τ j is. is.unbound) known.bucket
            (λ w each n has. (record { mine = has.mine; among = has.among }, node_word n w has.among))
            knows.means.bucket;
        making = means;
        work = WorkMeans-stay env mix c M M' G G' whole (record {
          low = 0;
          current = omega arith;
          grow = grows_from env mix G G' kept_grow;
          locks = λ j h. refl;
          keys = λ n l used. node_word n KeyWord l;
          work = work_kept c;
        }) known.work knows.means.work;
      };
    }

    -- ---- tables

    -- a table that was there is right, where its slot has the words that it had, its future is that of now, and its buckets are in place
    pub TableRight-kept : (τ : ℕ) → τ < G.attached → IsThere G τ
        → M' (Slot (G.table τ).slot ShapeWord) ≡ M (Slot (G.table τ).slot ShapeWord)
        → M' (Slot (G.table τ).slot SeedWord) ≡ M (Slot (G.table τ).slot SeedWord)
        → M' (Slot (G.table τ).slot SerialWord) ≡ M (Slot (G.table τ).slot SerialWord)
        → M' (Slot (G.table τ).slot FutureWord) ≡ future_in env mix G' τ → PlacedRight env mix (table τ) page τ
        → TableRight env mix M' G' τ
    TableRight-kept τ l there shape seed serial future placed =
        let right = whole.tables.each τ there in
        let stays = kept.tables τ l in
        record {
          slot_in = omega (arith, stays.slot, right.slot_in);
          shape_is = ap (λ s. M' (Slot s ShapeWord)) stays.slot ∙ shape ∙ right.shape_is ∙ sym stays.shape;
          seed_is = ap (λ s. M' (Slot s SeedWord)) stays.slot ∙ seed ∙ right.seed_is ∙ sym stays.seed;
          serial_is = ap (λ s. M' (Slot s SerialWord)) stays.slot ∙ serial ∙ right.serial_is ∙ sym stays.serial;
          seeded = stays.seed ∙ right.seeded ∙ ap (table_seed env.config.seed) (sym stays.serial);
          future_is = ap (λ s. M' (Slot s FutureWord)) stays.slot ∙ future;
          placed = placed;
        }

    -- the buckets of a table that is what it was are in place, where it gets no page
    pub placed_kept : (τ : ℕ) → IsThere G τ → table τ ≡ G.table τ
        → ((p : ℕ) → page p ≡ PageOf τ → G.page p ≡ PageOf τ) → PlacedRight env mix (table τ) page τ
    placed_kept τ there same back =
        subst (λ t. PlacedRight env mix t page τ) (sym same)
        (PlacedRight-pages env mix (G.table τ) G.page page τ (λ p. kept.pages p τ) back (whole.tables.each τ there).placed)
