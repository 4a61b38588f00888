-- What a step leaves of words and tables, and of what others know, where it writes elsewhere.
use Rattle.std.proofs.Common.{◌≡◌, ◌≢◌, ℕ, ◌<◌, List, [], ◌∷◌, Some, None, Bool, refl, sym, ◌∙◌, ap, subst, inl, arith, true, false, ◌⊎◌}
use Rattle.rht_words.specs.declared.env.Env.{Env}
use Rattle.rht_words.specs.Places.{Address, CurrentTable, WorkLock, Section, Slot, SlotWord, LoadedSection, IsSlotWord, PageMap, Node, NodeWord, ChainLink, KeyWord, OwnerWord, ListLink}
use Rattle.rht_words.specs.Links.{link_of}
use Rattle.rht_words.specs.Members.{In}
use Rattle.rht_words.proofs.Memory.{Memory, IsWrite}
use Rattle.rht_ghost.proofs.Theory.Ghosts.{Table, Bucket, has_table, table_of_slot, unretired, slot_holder, Owner, Free, First, Leaving, Ghost, is_taken_by, is_used, IsUsed, seat_of, seat_in, seat, seat-used, Taken, HasSeat, is_listed, put-other, with_owner, IsListedNode, seat-listed}
use Rattle.rht_ghost.proofs.Theory.Wholes.{chain_of, key_of, Whole, IsThere, seated_at, out-seated}
use Rattle.rht_ghost.proofs.Theory.Passed.{same-TableStays, TablesGrow, PassesStay}
use Rattle.rht_ghost.proofs.Theory.Knowledge.{HasNode, IsEmptied}
use Rattle.rht_ghost.proofs.Theory.SectionFrames.{IsNoSectionWord, SectionsStay}
use Rattle.rht_ghost.proofs.Theory.Reliance.{TablesStay, all_stay, HoldingsStay, IsUntouched, WorkStays, WordStays, ChainsStay, bound_used, Rely}

-- a node behind a port's first one gets the link that this one has, which leads to first nodes then
pub record IsLed (M : Memory) (G : Ghost) (M' : Memory) (G' : Ghost) (n : ℕ) : Type 0 where
  pub port : ℕ
  pub first : ℕ
  pub behind : List ℕ
  pub bound : G.bound port ≡ first ∷ behind
  pub there : In n (first ∷ behind)
  pub bucket : ℕ
  pub seat : seat_of (G.node first) ≡ Some bucket
  pub link : chain_of M' n ≡ chain_of M first
  pub leads : (z : ℕ) → chain_of M' n ≡ link_of z → HasSeat G' z

module _ (env : Env) (mix : ℕ → ℕ → ℕ → ℕ) where
  -- what everybody but this caller can count on
  abbrev pub Others : ℕ → Memory → Ghost → Memory → Ghost → Type 0
  Others d M G M' G' = (c : ℕ) → c ≢ d → Rely env mix c M G M' G'

  -- nodes that were taken out are so still, and nodes that are or were ports' are
  pub record OwnersStay (G G' : Ghost) : Type 0 where
    pub out : (n e : ℕ) → G.node n ≡ Taken e → G'.node n ≡ Taken e
    pub used : (n : ℕ) → IsUsed (G.node n) → IsUsed (G'.node n)

  -- or a caller has given this one back, which a call of it had taken out
  pub record GoesBack (d : ℕ) (G G' : Ghost) (n : ℕ) : Type 0 where
    pub was : G.node n ≡ Taken d
    pub now : G'.node n ≡ Free

  -- what an operation of this caller leaves of that: such nodes stay, but for one that it gives back
  pub record OwnersLeft (d : ℕ) (G G' : Ghost) : Type 0 where
    pub out : (n e : ℕ) → G.node n ≡ Taken e → (G'.node n ≡ Taken e) ⊎ GoesBack d G G' n
    pub used : (n : ℕ) → IsUsed (G.node n) → IsUsed (G'.node n) ⊎ GoesBack d G G' n

  pub owners_left : {d : ℕ} {G G' : Ghost} → OwnersStay G G' → OwnersLeft d G G'
  owners_left stay = record {
    out = λ n e is. inl (stay.out n e is);
    used = λ n used. inl (stay.used n used);
  }

  -- the link in chains of each node that is or was a port's, and has no seat then; or it gets that of the
  -- port's first node
  abbrev pub LinksStay : Memory → Ghost → Memory → Ghost → Type 0
  LinksStay M G M' G' = (n : ℕ) → n < env.geometry.nodes → IsUsed (G.node n) → seat_of (G'.node n) ≡ None
      → (chain_of M' n ≡ chain_of M n) ⊎ IsLed M G M' G' n

  -- What a step of a caller leaves of nodes that are in no chain then, and of those that are in no list: the links of
  -- such that are or were ports', but that one may be led to where its port's first node leads.
  pub record StaleStay (d : ℕ) (M : Memory) (G : Ghost) (M' : Memory) (G' : Ghost) : Type 0 where
    pub owners : OwnersLeft d G G'
    pub chains : LinksStay M G M' G'
    pub lists : (n : ℕ) → n < env.geometry.nodes → IsUsed (G.node n) → is_listed (G'.node n) ≡ false
        → M' (Node n ListLink) ≡ M (Node n ListLink)

  pub same_owners : (G G' : Ghost) → G'.node ≡ G.node → OwnersStay G G'
  same_owners G G' same = record {
    out = λ n e is. ap (λ node. node n) same ∙ is;
    used = λ n used. ap (λ node. is_used (node n)) same ∙ used;
  }

  -- where one that is no port's gets another owner
  pub reowned_owners : (G : Ghost) (n : ℕ) (owner : Owner) → is_used (G.node n) ≡ false
      → OwnersStay G (with_owner G n owner)
  reowned_owners G n owner was = record {
    out = λ m e is. put-other G.node n owner m
        (λ same. let q : true ≡ false = sym (ap is_used is) ∙ ap (λ k. is_used (G.node k)) same ∙ was in cc)
        ∙ is;
    used = λ m used. ap is_used (put-other G.node n owner m
        (λ same. let q : true ≡ false = sym used ∙ ap (λ k. is_used (G.node k)) same ∙ was in cc)) ∙ used;
  }

  pub stale_write : {d : ℕ} (M M' : Memory) (G G' : Ghost) (a : Address) (v : ℕ) → IsWrite env.geometry M M' a v
      → OwnersStay G G'
      → ((n : ℕ) → IsUsed (G.node n) → seat_of (G'.node n) ≡ None → Node n ChainLink ≢ a)
      → ((n : ℕ) → IsUsed (G.node n) → is_listed (G'.node n) ≡ false → Node n ListLink ≢ a)
      → StaleStay d M G M' G'
  stale_write M M' G G' a v write owners chains lists = record {
    owners = owners_left owners;
    chains = λ n l used none. inl (write.others (Node n ChainLink) l (chains n used none));
    lists = λ n l used other. write.others (Node n ListLink) l (lists n used other);
  }

  pub stale_none : {d : ℕ} (M : Memory) (G G' : Ghost) → OwnersStay G G' → StaleStay d M G M G'
  stale_none M G G' owners = record {
    owners = owners_left owners;
    chains = λ n l used none. inl refl;
    lists = λ n l used other. refl;
  }

  -- what a step of a caller makes of the whole
  pub record Made (d : ℕ) (M : Memory) (G : Ghost) (M' : Memory) (G' : Ghost) : Type 0 where
    pub whole : Whole env mix M' G'
    pub others : Others d M G M' G'
    pub stale : StaleStay d M G M' G'

  -- each word of a node that is or was a port's stays, but for links in chains of nodes that are in none
  pub record UsedStay (M : Memory) (G : Ghost) (M' : Memory) : Type 0 where
    pub keys : WordStays env mix KeyWord M G M'
    pub owners : WordStays env mix OwnerWord M G M'
    pub lists : WordStays env mix ListLink M G M'
    pub chains : (n j : ℕ) → seat_of (G.node n) ≡ Some j → chain_of M' n ≡ chain_of M n

  pub used_stay : (M M' : Memory) (G : Ghost) (a : Address) (v : ℕ) → Whole env mix M G
      → IsWrite env.geometry M M' a v
      → ((n : ℕ) (w : NodeWord) → Node n w ≢ a) → UsedStay M G M'
  used_stay M M' G a v whole write not_node = record {
    keys = λ n l used. write.others (Node n KeyWord) l (not_node n KeyWord);
    owners = λ n l used. write.others (Node n OwnerWord) l (not_node n OwnerWord);
    lists = λ n l used. write.others (Node n ListLink) l (not_node n ListLink);
    chains = λ n j seat. write.others (Node n ChainLink) (seated_at env mix M G whole n j seat).among
        (not_node n ChainLink);
  }

  -- so each word of a node that has a seat does
  pub seat_stays : (M M' : Memory) (G : Ghost) → Whole env mix M G → UsedStay M G M'
      → (n j : ℕ) (w : NodeWord)
      → seat_of (G.node n) ≡ Some j → M' (Node n w) ≡ M (Node n w)
  seat_stays M M' G whole words n j ChainLink seat = words.chains n j seat
  seat_stays M M' G whole words n j KeyWord seat = words.keys n (seated_at env mix M G whole n j seat).among
      (seat-used (G.node n) j seat)
  seat_stays M M' G whole words n j OwnerWord seat = words.owners n
      (seated_at env mix M G whole n j seat).among (seat-used (G.node n) j seat)
  seat_stays M M' G whole words n j ListLink seat = words.lists n
      (seated_at env mix M G whole n j seat).among (seat-used (G.node n) j seat)

  pub first_stays : (M M' : Memory) (G : Ghost) → Whole env mix M G → UsedStay M G M'
      → (n j : ℕ) (w : NodeWord)
      → G.node n ≡ First j → M' (Node n w) ≡ M (Node n w)
  first_stays M M' G whole words n j w first = seat_stays M M' G whole words n j w (ap seat_of first)

  -- the links of the nodes to which the ports of a caller's buckets are bound, where the store is to no link of a node
  pub chains_stay : (c : ℕ) (M M' : Memory) (G : Ghost) (a : Address) (v : ℕ) → Whole env mix M G
      → IsWrite env.geometry M M' a v
      → ((n : ℕ) → IsUsed (G.node n) → Node n ChainLink ≢ a) → ChainsStay env mix c M G M'
  chains_stay c M M' G a v whole write apart j n m h i b =
      let is = bound_used env mix M G whole (key_of M n) (G.bound (key_of M n)) refl m b in
      write.others (Node m ChainLink) is.0 (apart m is.1)

  -- ---- tables

  -- the same tables are attached, and have the same slots and pages, and the same caller does the work
  pub record SameTables (G G' : Ghost) : Type 0 where
    pub table : G'.table ≡ G.table
    pub attached : G'.attached ≡ G.attached
    pub current : G'.current ≡ G.current
    pub slot : G'.slot ≡ G.slot
    pub page : G'.page ≡ G.page
    pub worker : G'.worker ≡ G.worker

  -- a table that is there is so still
  pub there_same : (G G' : Ghost) → SameTables G G' → (τ : ℕ) → IsThere G τ → IsThere G' τ
  there_same G G' same τ there = record {
    has_slot = ap (λ slot. has_table (slot (G'.table τ).slot)) same.slot
        ∙ ap (λ (t : ℕ → Table). has_table (G.slot (t τ).slot)) same.table ∙ there.has_slot;
    index = ap (λ slot. table_of_slot (slot (G'.table τ).slot)) same.slot
        ∙ ap (λ (t : ℕ → Table). table_of_slot (G.slot (t τ).slot)) same.table ∙ there.index;
  }

  pub same_grow : (G G' : Ghost) → SameTables G G' → TablesGrow env mix G G'
  same_grow G G' same = record {
    tables = λ τ l. same-TableStays G.page τ (G.table τ) (G'.table τ) (ap (λ t. t τ) same.table);
    placed = λ τ b j l is. inl (ap (λ t. (t τ).place b) (sym same.table) ∙ is);
    attached = omega (arith, same.attached);
    current = omega (arith, same.current);
    live = λ s τ is l. ap (λ slot. unretired (slot s)) (sym same.slot) ∙ is;
    there = λ τ l was. there_same G G' same τ (was (omega (arith, l, same.attached)));
    pages = λ p τ is. ap (λ page. page p) same.page ∙ is;
  }

  pub tables_stay : (M : Memory) (G G' : Ghost) → Whole env mix M G → SameTables G G' → PassesStay env mix G G'
      → TablesStay env mix G G'
  tables_stay M G G' whole same = all_stay env mix M G G' whole (same_grow G G' same)

  -- who has nodes doesn't matter for tables, nor what buckets and ports have, nor who has raised the count
  pub same_tables : (G : Ghost) (bucket : ℕ → Bucket) (node : ℕ → Owner) (bound : ℕ → List ℕ) (raised : ℕ
      → Bool)
      → SameTables G (record G { bucket = bucket; node = node; bound = bound; raised = raised })
  same_tables G bucket node bound raised =
      record { table = refl; attached = refl; current = refl; slot = refl; page = refl; worker = refl }

  -- where nobody gets armed, nothing gets on its way, and each port is bound where it was, who has passed a table has still
  pub record SamePasses (G G' : Ghost) : Type 0 where
    pub armed : (j c : ℕ) → (G'.bucket j).armed ≡ Some c → (G.bucket j).armed ≡ Some c
    pub out : (j : ℕ) → (G'.bucket j).out ≡ (G.bucket j).out
    pub bound : (port : ℕ) → G'.bound port ≡ G.bound port
    pub used : (n : ℕ) → IsListedNode (G.node n) → G'.node n ≡ G.node n

  pub passes_same : (M : Memory) (G G' : Ghost) → Whole env mix M G → SamePasses G G' → PassesStay env mix G G'
  passes_same M G G' whole same = record {
    armed = λ j c is. inl (same.armed j c is);
    heads = λ port n j behind b out. inl (record {
      behind = behind;
      bound_to = sym (same.bound port) ∙ b;
      out = sym (same.out j) ∙ out;
    });
    seats = λ port j is. inl (record {
      bucket = j;
      seat_is = sym (seat_same port (G.bound port) refl) ∙ is;
      earlier = omega arith;
    });
  }
    where
      seat_same : (port : ℕ) (bound : List ℕ) → G.bound port ≡ bound → seat G' port ≡ seat G port
      seat_same port [] b = ap (seat_in G'.node) (same.bound port ∙ b) ∙ sym (ap (seat_in G.node) b)
      seat_same port (n ∷ behind) b =
          let to = whole.owned.bound_to port n behind b in
          ap (seat_in G'.node) (same.bound port ∙ b) ∙ ap seat_of
          (same.used n (seat-listed (G.node n) to.bucket to.first))
          ∙ sym (ap (seat_in G.node) b)

  -- ---- what a caller has of tables, and the work

  -- the store is to no word of a table's, of a slot's, of the map of pages, to no section word, and not to the work lock
  pub record IsNoTableWord (a : Address) : Type 0 where
    pub current : CurrentTable ≢ a
    pub work : WorkLock ≢ a
    pub sections : (c : ℕ) → Section c ≢ a
    pub slots : (s : ℕ) (w : SlotWord) → Slot s w ≢ a
    pub pages : (i : ℕ) → PageMap i ≢ a

  -- all words of slots stay
  abbrev pub SlotsStay : Memory → Memory → Type 0
  SlotsStay M M' = (s : ℕ) (w : SlotWord) → s < 8 → IsSlotWord w → M' (Slot s w) ≡ M (Slot s w)

  pub slots_stay : (M M' : Memory) (a : Address) (v : ℕ) → IsWrite env.geometry M M' a v → IsNoTableWord a
      → SlotsStay M M'
  slots_stay M M' a v write apart s w l is = write.others (Slot s w) (l, is) (apart.slots s w)

  -- so do those that are kept there, and all section words
  pub no_section : (a : Address) → IsNoTableWord a → IsNoSectionWord a
  no_section a apart = record { own = apart.sections; kept = λ s c. apart.slots s (LoadedSection c) }

  pub holdings_stay : (c : ℕ) (M M' : Memory) (G G' : Ghost) → SameTables G G' → SlotsStay M M'
      → HoldingsStay env mix c M G M' G'
  holdings_stay c M M' G G' same words = record {
    slots = λ s is. ap (λ slot. slot s) same.slot;
    slot_words = λ s w has is. words s w has.within is;
    no_slot = λ s is. ap (λ slot. slot_holder (slot s)) (sym same.slot) ∙ is;
    pages = λ p is. ap (λ page. page p) same.page ∙ is;
    no_page = λ p is. ap (λ page. page p) (sym same.page) ∙ is;
  }

  -- what a move leaves of the work of others: what they have emptied, and an entry that is on its way
  pub record EntriesStay (M : Memory) (G : Ghost) (M' : Memory) (G' : Ghost) : Type 0 where
    pub emptied : (j : ℕ) → IsEmptied env mix (G.bucket j) → IsEmptied env mix (G'.bucket j)
    pub entries : (j entry : ℕ) → (G.bucket j).out ≡ Some entry → G'.node entry ≡ G.node entry
    pub chains : (n j : ℕ) → G.node n ≡ Leaving j → chain_of M' n ≡ chain_of M n

  -- a table is untouched where all are
  pub untouched : (τ : ℕ) (G G' : Ghost) → SameTables G G' → IsUntouched env mix τ G G'
  untouched τ G G' same = record {
    table = ap (λ t. t τ) same.table;
    pages = λ p.
        let page : G'.page p ≡ G.page p = ap (λ page. page p) same.page in ((λ is. sym page ∙ is), (λ is. page ∙ is));
  }

  pub work_stays : (c : ℕ) (M M' : Memory) (G G' : Ghost) → SameTables G G' → EntriesStay M G M' G' → SlotsStay M M'
      → SectionsStay env mix M G M' G' → G.worker ≡ Some c → WorkStays env mix c M G M' G'
  work_stays c M M' G G' same stay slots sections works = record {
    worker = same.worker ∙ works;
    current = same.current;
    left = λ s has l. ap (λ slot. slot s) same.slot;
    kept = λ s d l m. slots s (LoadedSection d) l m;
    sections = sections;
    over = λ τ l over. untouched τ G G' same;
    emptied = λ more j table is. stay.emptied j is;
    entries = stay.entries;
    chains = stay.chains;
  }

  -- where the same nodes are used, and their words stay, so does an entry on its way
  pub entries_stay : (M M' : Memory) (G G' : Ghost) → Whole env mix M G → UsedStay M G M'
      → ((n : ℕ) → IsListedNode (G.node n) → G'.node n ≡ G.node n)
      → ((j : ℕ) → IsEmptied env mix (G.bucket j) → IsEmptied env mix (G'.bucket j)) → EntriesStay M G M' G'
  entries_stay M M' G G' whole words used emptied = record {
    emptied = emptied;
    entries = λ j entry out.
        let seat = out-seated env mix M G j entry (whole.moving.out j entry out) in
        used entry (seat-listed (G.node entry) seat.0 seat.1);
    chains = λ n j leaving. words.chains n j (ap seat_of leaving);
  }

  -- where buckets and nodes have whom they had, a caller knows what it knew
  pub Rely-same : (c : ℕ) (M M' : Memory) (G G' : Ghost) → Whole env mix M G → SameTables G G'
      → G'.bucket ≡ G.bucket → G'.node ≡ G.node → G'.bound ≡ G.bound → G'.raised c ≡ G.raised c
      → UsedStay M G M' → ChainsStay env mix c M G M' → SlotsStay M M' → SectionsStay env mix M G M' G'
      → ((n : ℕ) (w : NodeWord) → HasNode env mix c G n → M' (Node n w) ≡ M (Node n w))
      → Rely env mix c M G M' G'
  Rely-same c M M' G G' whole same buckets nodes bound raised words chains slots sections own = record {
    tables = tables_stay M G G' whole same (passes_same M G G' whole (record {
      armed = λ j d is. ap (λ b. (b j).armed) (sym buckets) ∙ is;
      out = λ j. ap (λ b. (b j).out) buckets;
      bound = λ port. ap (λ b. b port) bound;
      used = λ n used. ap (λ o. o n) nodes;
    }));
    locks = λ j h. ap (λ b. b j) buckets;
    lists = λ j n h i. ap (λ b. b (key_of M n)) bound;
    chains = chains;
    keys = words.keys;
    owners = words.owners;
    nodes = λ n has. ap (λ o. o n) nodes ∙ has.mine;
    words = λ n has w. own n w has;
    raised = raised;
    taken = λ n. ap (λ o. is_taken_by c (o n)) nodes;
    unbound = λ port τ j is. ap (λ b. b port) bound ∙ is.unbound;
    holdings = holdings_stay c M M' G G' same slots;
    work = work_stays c M M' G G' same (entries_stay M M' G G' whole words (λ n used. ap (λ o. o n) nodes)
        (λ j is. subst (λ b. IsEmptied env mix (b j)) (sym buckets) is)) slots sections;
    no_work = λ is. sym same.worker ∙ is;
    no_node = λ n h. ap (λ o. o n) (sym nodes) ∙ h;
    no_lock = λ j h. ap (λ b. (b j).holder) (sym buckets) ∙ h;
  }

  pub unwritten_words : (M : Memory) (G : Ghost) → UsedStay M G M
  unwritten_words M G = record {
    keys = λ n l used. refl;
    owners = λ n l used. refl;
    lists = λ n l used. refl;
    chains = λ n j seat. refl;
  }

  -- nothing was written, and nobody's rights changed
  pub still : (d : ℕ) (M : Memory) (G : Ghost) → Whole env mix M G → Made d M G M G
  still d M G whole = record {
    whole = whole;
    others = λ c ne. Rely-same c M M G G whole (same_tables G G.bucket G.node G.bound G.raised) refl refl
        refl refl (unwritten_words M G) (λ j n m h i b. refl) (λ s w l is. refl) (λ e τ l since. (since, refl))
        (λ n w has. refl);
    stale = stale_none M G G (same_owners G G refl);
  }
