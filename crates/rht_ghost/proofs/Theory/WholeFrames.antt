-- What a step leaves of the parts of the whole where it writes elsewhere.
use Rattle.std.proofs.Common.{◌≡◌, ◌≢◌, ◌⊎◌, ◌↔◌, ℕ, ◌+◌, ◌*◌, ◌/◌, ◌%◌, ◌<◌, Option, Some, None, Bool, true, false, refl, sym, ◌∙◌, ap, subst, inl, inr, arith}
use Rattle.std.specs.Int.{bit_at}
use Rattle.std.proofs.lemmas.Bool.{both_ways}
use Rattle.rht_words.specs.declared.env.Env.{Env}
use Rattle.rht_words.specs.Places.{Address, CurrentTable, WorkLock, PortCount, Slot, SlotWord, ShapeWord, SeedWord, FutureWord, SerialWord, StateWord, NodeMap, PageMap, ChainLink, KeyWord, ListLink, PageWord}
use Rattle.rht_words.proofs.Memory.{Memory, IsWrite}
use Rattle.rht_words.specs.Members.{In}
use Rattle.rht_words.proofs.ChainLemmas.{IsSegment-members}
use Rattle.rht_words.specs.Links.{head_of}
use Rattle.rht_ghost.proofs.Theory.Ghosts.{Table, Bucket, Owner, First, Leaving, Behind, Ghost, lock_bit, state_word, is_used, is_listed, IsListedNode, PageOwner, PageFree, PageHeld, PageOf, SlotOwner, seat_of, seat-listed, has_table, unretired, IsSince, table_at, is_entry, entry_word}
use Rattle.rht_ghost.proofs.Theory.Ways.{IsSpareIn}
use Rattle.rht_ghost.proofs.Theory.Wholes.{retired_stay, chain_of, list_of, key_of, place_at, home, stop, IsNoBucket, EntriesRight, TableRight, TablesRight, SlotsRight, SectionsRight, PagesRight, LockedRight, BucketRight, ChainedRight, ArmedRight, OutRight, MovingRight, IsHomeOf, IsLeavingAt, Owned, ArenaRight, Whole, out-seated, firsts, raisers, IsThere}
use Rattle.rht_ghost.proofs.Theory.Passed.{held-no_entry, PassesStay}
use Rattle.rht_ghost.proofs.Theory.SectionFrames.{SectionsRight-write}
use Rattle.rht_ghost.proofs.Theory.Frames.{IsNoTableWord, no_section, SameTables, there_same, UsedStay, first_stays, passes_same, same_tables, seat_stays}

module _ (env : Env) (mix : ℕ → ℕ → ℕ → ℕ) where
  -- ---- the parts of the whole

  -- the address is neither that of the current table nor a word of a slot that has a table
  pub record IsApart (G : Ghost) (a : Address) : Type 0 where
    pub current : CurrentTable ≢ a
    pub slots : (s : ℕ) (w : SlotWord) → has_table (G.slot s) ≡ true → Slot s w ≢ a

  pub is_apart : (G : Ghost) (a : Address) → IsNoTableWord env mix a → IsApart G a
  is_apart G a apart = record { current = apart.current; slots = λ s w has. apart.slots s w }

  TableRight-write : (M M' : Memory) (G : Ghost) (a : Address) (v τ : ℕ) → IsWrite env.geometry M M' a v
      → IsApart G a → IsThere G τ → TableRight env mix M G τ → TableRight env mix M' G τ
  TableRight-write M M' G a v τ write apart there right =
      let s = (G.table τ).slot in
      record {
        slot_in = right.slot_in;
        shape_is = write.others (Slot s ShapeWord) (right.slot_in, tt)
            (apart.slots s ShapeWord there.has_slot) ∙ right.shape_is;
        seed_is = write.others (Slot s SeedWord) (right.slot_in, tt)
            (apart.slots s SeedWord there.has_slot) ∙ right.seed_is;
        serial_is = write.others (Slot s SerialWord) (right.slot_in, tt)
            (apart.slots s SerialWord there.has_slot) ∙ right.serial_is;
        seeded = right.seeded;
        future_is = write.others (Slot s FutureWord) (right.slot_in, tt)
            (apart.slots s FutureWord there.has_slot) ∙ right.future_is;
        placed = right.placed;
      }

  -- what the ghost says of tables, apart from the rest of it
  abbrev with_tables : Ghost → (ℕ → Table) → ℕ → ℕ → (ℕ → SlotOwner) → (ℕ → PageOwner) → Ghost
  with_tables G table attached current slot page =
      record G { table = table; attached = attached; current = current; slot = slot; page = page }

  pub TablesRight-same : (M : Memory) (G G' : Ghost) → SameTables env mix G G' → TablesRight env mix M G
      → TablesRight env mix M G'
  TablesRight-same M G G' same right =
      let there : TablesRight env mix M (with_tables G' G.table G.attached G.current G.slot G.page) = record {
        current_in = right.current_in;
        current_is = right.current_is;
        force = right.force;
        each = λ τ t. let r = right.each τ (record { has_slot = t.has_slot; index = t.index }) in record {
          slot_in = r.slot_in;
          shape_is = r.shape_is;
          seed_is = r.seed_is;
          serial_is = r.serial_is;
          seeded = r.seeded;
          future_is = r.future_is;
          placed = r.placed;
        };
        slots = λ s has. let is = right.slots s has in record { attached = is.attached; slot = is.slot };
      } in
      subst (λ t. TablesRight env mix M (with_tables G' t G'.attached G'.current G'.slot G'.page))
      (sym same.table)
      (subst (λ a. TablesRight env mix M (with_tables G' G.table a G'.current G'.slot G'.page))
      (sym same.attached)
      (subst (λ c. TablesRight env mix M (with_tables G' G.table G.attached c G'.slot G'.page))
      (sym same.current)
      (subst (λ s. TablesRight env mix M (with_tables G' G.table G.attached G.current s G'.page))
      (sym same.slot)
      (subst (λ p. TablesRight env mix M (with_tables G' G.table G.attached G.current G.slot p))
      (sym same.page) there))))

  pub TablesRight-write : (M M' : Memory) (G G' : Ghost) (a : Address) (v : ℕ) → IsWrite env.geometry M M' a v
      → IsApart G a → SameTables env mix G G' → TablesRight env mix M G → TablesRight env mix M' G'
  TablesRight-write M M' G G' a v write apart same right = TablesRight-same M' G G' same (record {
    current_in = right.current_in;
    current_is = write.others CurrentTable tt apart.current ∙ right.current_is;
    force = right.force;
    each = λ τ there. TableRight-write M M' G a v τ write apart there (right.each τ there);
    slots = right.slots;
  })

  -- slots and the work lock
  pub SlotsRight-write : (M M' : Memory) (G G' : Ghost) (a : Address) (v : ℕ) → IsWrite env.geometry M M' a v
      → WorkLock ≢ a → ((s : ℕ) → Slot s StateWord ≢ a) → SameTables env mix G G' → SlotsRight env mix M G
      → SlotsRight env mix M' G'
  SlotsRight-write M M' G G' a v write lock states same right = record {
    states = λ s l. write.others (Slot s StateWord) (l, tt) (states s) ∙ right.states s l
        ∙ sym (ap (λ slot. state_word (slot s)) same.slot);
    worker_is = write.others WorkLock tt lock ∙ right.worker_is ∙ sym (ap lock_bit same.worker);
    retired = λ idle. retired_stay G G' None same.current (λ s τ is l. ap (λ slot. unretired (slot s)) (sym same.slot) ∙ is)
        (right.retired (sym same.worker ∙ idle));
    back = λ s c is. same.worker ∙ right.back s c (ap (λ slot. slot s) (sym same.slot) ∙ is);
  }

  -- a bucket's table is what it was
  pub table_at-same : (G G' : Ghost) (j : ℕ) → SameTables env mix G G' → table_at G' j ≡ table_at G j
  table_at-same G G' j same = ap (λ p. table_at (record G { page = p }) j) same.page

  -- by the tables alone
  pub no_bucket : (G G' : Ghost) → G'.table ≡ G.table → (owner : PageOwner) (j : ℕ)
      → IsNoBucket env mix G' owner j → IsNoBucket env mix G owner j
  no_bucket G G' same PageFree j is = tt
  no_bucket G G' same (PageHeld c) j is = tt
  no_bucket G G' same (PageOf τ) j is =
      subst (λ (t : ℕ → Table). IsSpareIn (t τ).shape ((t τ).part (j / 64)) j) same is

  -- pages, where the bucket of no blank word changes
  pub PagesRight-write : (M M' : Memory) (G G' : Ghost) (a : Address) (v : ℕ) → IsWrite env.geometry M M' a v
      → ((i : ℕ) → PageMap i ≢ a) → SameTables env mix G G'
      → ((j : ℕ) → IsNoBucket env mix G (G.page (j / 64)) j → G'.bucket j ≡ G.bucket j)
      → PagesRight env mix M G → PagesRight env mix M' G'
  PagesRight-write M M' G G' a v write apart same blanks right = record {
    bits = λ p l. subst (λ page. (bit_at (M' (PageMap (p / 64))) (p % 64) ≡ 1) ↔ (page p ≡ PageFree))
        (sym same.page) (rw (write.others (PageMap (p / 64)) (omega arith) (apart (p / 64))) (right.bits p l));
    there = λ p τ is. there_same env mix G G' same τ (right.there p τ (ap (λ page. page p) (sym same.page) ∙ is));
    page_of = λ p τ is. omega (arith, right.page_of p τ (ap (λ page. page p) (sym same.page) ∙ is), same.attached);
    blank = λ j is.
        let was : IsNoBucket env mix G (G.page (j / 64)) j =
        subst (λ (t : ℕ → Table). IsNoBucket env mix (record G { table = t }) (G.page (j / 64)) j) same.table
        (subst (λ page. IsNoBucket env mix (record G { table = G'.table }) (page (j / 64)) j) same.page
        (no_bucket (record G { table = G'.table }) G' refl (G'.page (j / 64)) j is)) in
        blanks j was ∙ right.blank j was;
  }

  -- ---- entries of tables

  -- which words are entries, by the tables alone
  pub is_entry-same : (G G' : Ghost) (j : ℕ) → SameTables env mix G G' → is_entry G' j ≡ is_entry G j
  is_entry-same G G' j same =
      ap (λ page. is_entry (record G' { page = page }) j) same.page
      ∙ ap (λ table. is_entry (record G { table = table }) j) same.table

  -- the address is no entry's
  abbrev pub IsNoEntry : Ghost → Address → Type 0
  IsNoEntry G a = (j : ℕ) → is_entry G j ≡ true → PageWord j ≢ a

  -- so it is of a store to no page, or in a bucket that somebody has locked
  pub locked-no_entry : (M : Memory) (G : Ghost) (a : Address) (d here : ℕ) → Whole env mix M G
      → (G.bucket here).holder ≡ Some d → ((j : ℕ) → j ≢ here → PageWord j ≢ a) → IsNoEntry G a
  locked-no_entry M G a d here whole holds others j is =
      others j (λ e. both_ways (is_entry G here) (held-no_entry env mix M G whole here d holds) (ap (is_entry G) (sym e) ∙ is))

  pub EntriesRight-write : (M M' : Memory) (G G' : Ghost) (a : Address) (v : ℕ) → IsWrite env.geometry M M' a v
      → IsNoEntry G a → SameTables env mix G G' → EntriesRight env mix M G → EntriesRight env mix M' G'
  EntriesRight-write M M' G G' a v write apart same right j l is =
      let was = sym (is_entry-same G G' j same) ∙ is in
      write.others (PageWord j) l (apart j was) ∙ right j l was
      ∙ ap (λ τ. entry_word ((G.table τ).entry j)) (sym (table_at-same G G' j same))
      ∙ ap (λ t. entry_word ((t (table_at G' j)).entry j)) (sym same.table)

  LockedRight-frame : (M M' : Memory) (j : ℕ) (b : Bucket) → M' (PageWord j) ≡ M (PageWord j)
      → LockedRight env mix M j b
      → LockedRight env mix M' j b
  LockedRight-frame M M' j b word right = record { word_is = word ∙ right.word_is; even = right.even }

  -- a bucket with the same nodes behind the same word, and the same entry on its way, has the same chain
  ChainedRight-frame : (M M' : Memory) (j : ℕ) (b b' : Bucket) → b'.nodes ≡ b.nodes → b'.plain ≡ b.plain
      → b'.out ≡ b.out → ((n : ℕ) → In n b.nodes → chain_of M' n ≡ chain_of M n)
      → ChainedRight env mix M j b → ChainedRight env mix M' j b'
  ChainedRight-frame M M' j b b' nodes plain out links right =
      let first = head_of (place_at env mix j) b.plain in
      let ends = stop env mix (place_at env mix j) b.out in
      record {
        segment =
            rw nodes (rw plain (rw out (IsSegment-members (chain_of M) (chain_of M') first b.nodes ends links
            right.segment)));
        distinct = rw nodes right.distinct;
      }

  pub BucketRight-frame : (M M' : Memory) (j : ℕ) (b : Bucket) → M' (PageWord j) ≡ M (PageWord j)
      → ((n : ℕ) → In n b.nodes → chain_of M' n ≡ chain_of M n)
      → BucketRight env mix M j b → BucketRight env mix M' j b
  BucketRight-frame M M' j b word links right = record {
    locked = LockedRight-frame M M' j b word right.locked;
    chained = ChainedRight-frame M M' j b b refl refl refl links right.chained;
  }

  -- with the same tables a port has the same homes
  pub IsHomeOf-same : (G G' : Ghost) (port j : ℕ) → SameTables env mix G G' → IsHomeOf env mix G port j
      → IsHomeOf env mix G' port j
  IsHomeOf-same G G' port j same home_of =
      let table : table_at G' j ≡ table_at G j = ap (λ p. table_at (record G { page = p }) j) same.page in
      record {
        here = ap (home env mix G' port) table
            ∙ ap (λ t. home env mix (record G { table = t }) port (table_at G j)) same.table ∙ home_of.here;
        current = omega (arith, table, same.current, home_of.current);
        attached = omega (arith, table, same.attached, home_of.attached);
      }

  -- What is on its way stays, where other nodes and buckets change: who is armed was so, and has the bucket still, or is so rightly; the
  -- buckets stay of a caller that has an entry on its way; and so do those entries, and what their ports are bound to.
  pub record MovingStays (M : Memory) (G G' : Ghost) : Type 0 where
    pub armed : (j c : ℕ) → (G'.bucket j).armed ≡ Some c
        → (((G.bucket j).armed ≡ Some c) × ((G'.bucket j).holder ≡ (G.bucket j).holder))
        ⊎ ArmedRight env mix G' j c
    pub out : (j entry : ℕ) → (G'.bucket j).out ≡ Some entry → (G.bucket j).out ≡ Some entry
    pub kept : (i c k entry : ℕ) → (G.bucket i).holder ≡ Some c → (G.bucket k).out ≡ Some entry
        → (G.bucket k).holder ≡ Some c → G'.bucket i ≡ G.bucket i
    pub entries : (j entry : ℕ) → (G.bucket j).out ≡ Some entry → G'.node entry ≡ G.node entry
    pub leaves : (n j : ℕ) → G'.node n ≡ Leaving j → G.node n ≡ Leaving j
    pub heads : (n j : ℕ) → G.node n ≡ Leaving j → G'.bound (key_of M n) ≡ G.bound (key_of M n)

  -- and the words of those entries
  pub record EntryWords (M : Memory) (G : Ghost) (M' : Memory) : Type 0 where
    pub keys : (j entry : ℕ) → (G.bucket j).out ≡ Some entry → key_of M' entry ≡ key_of M entry
    pub chains : (n j : ℕ) → G.node n ≡ Leaving j → chain_of M' n ≡ chain_of M n

  pub entry_words : (M M' : Memory) (G : Ghost) → Whole env mix M G → UsedStay env mix M G M' → EntryWords M G M'
  entry_words M M' G whole words = record {
    keys = λ j entry is.
        let seat = out-seated env mix M G j entry (whole.moving.out j entry is) in
        seat_stays env mix M M' G whole words entry seat.0 KeyWord seat.1;
    chains = λ n j leaving. words.chains n j (ap seat_of leaving);
  }

  module _ (M M' : Memory) (G G' : Ghost) (whole : Whole env mix M G) (same : SameTables env mix G G')
      (stay : MovingStays M G G') (words : EntryWords M G M') where
    home-same : (port τ : ℕ) → home env mix G' port τ ≡ home env mix G port τ
    home-same port τ = ap (λ t. home env mix (record G { table = t }) port τ) same.table

    table-same : (j : ℕ) → table_at G' j ≡ table_at G j
    table-same j = table_at-same G G' j same

    bucket-kept : (i j entry : ℕ) → (out : OutRight env mix M G j entry) → (G.bucket j).out ≡ Some entry
        → (c : ℕ) → (G.bucket i).holder ≡ Some c → G.worker ≡ Some c → G'.bucket i ≡ G.bucket i
    bucket-kept i j entry out is c holds works =
        let one : ◌≡◌ {A = Option ℕ} (Some out.worker) (Some c) = sym out.works ∙ works in
        stay.kept i c j entry holds is (out.holder ∙ one)

    OutRight-frame : (j entry : ℕ) → (G'.bucket j).out ≡ Some entry → OutRight env mix M' G' j entry
    OutRight-frame j entry after =
        let is = stay.out j entry after in
        let out = whole.moving.out j entry is in
        let kept = bucket-kept j j entry out is out.worker out.holder out.works in
        let key = words.keys j entry is in
        let node = stay.entries j entry is in
        record {
          worker = out.worker;
          holder = ap (λ b. b.holder) kept ∙ out.holder;
          works = same.worker ∙ out.works;
          table = table-same j ∙ out.table ∙ sym same.current;
          among = out.among;
          here = ap (λ k. home env mix G' k G'.current) key ∙ ap (home env mix G' (key_of M entry)) same.current
              ∙ home-same (key_of M entry) G.current ∙ out.here;
          owner = elim out.owner [
            | inl leaving ↦ inl (node ∙ leaving)
            | inr further ↦ inr (record {
              bucket = further.bucket;
              first = node ∙ further.first;
              later = omega (arith, further.later, same.current, table-same further.bucket);
            })
          ];
        }

    pub MovingRight-frame : MovingRight env mix M' G'
    MovingRight-frame = record {
      armed = λ j c is. elim (stay.armed j c is) [
        | inl was ↦
            let right = whole.moving.armed j c was.0 in
            record {
              holder = was.1 ∙ right.holder;
              current = omega (arith, right.current, same.current, table-same j);
              attached = omega (arith, right.attached, same.attached, table-same j);
            }
        | inr now ↦ now
      ];
      out = OutRight-frame;
    }

    pub Leaving-frame : (n j : ℕ) → G'.node n ≡ Leaving j → IsLeavingAt env mix M' G' n j
    Leaving-frame n j after =
        let leaving = stay.leaves n j after in
        let at = whole.owned.leaving_at n j leaving in
        let out = whole.moving.out j n at.out in
        let next = at.next in
        let i = next.bucket in
        let kept = bucket-kept j j n out at.out out.worker out.holder out.works in
        let next_kept = bucket-kept i j n out at.out next.worker next.holder next.works in
        let key = words.keys j n at.out in
        record {
          out = ap (λ b. b.out) kept ∙ at.out;
          behind = at.behind;
          bound_to = ap G'.bound key ∙ stay.heads n j leaving ∙ at.bound_to;
          next = record {
            bucket = i;
            later = omega (arith, next.later, same.current, table-same i);
            attached = omega (arith, next.attached, same.attached, table-same i);
            worker = next.worker;
            holder = ap (λ b. b.holder) next_kept ∙ next.holder;
            works = same.worker ∙ next.works;
            here = ap (λ k. home env mix G' k (table_at G' i)) key
                ∙ ap (home env mix G' (key_of M n)) (table-same i)
                ∙ home-same (key_of M n) (table_at G i) ∙ next.here;
            chain = words.chains n j leaving ∙ next.chain
                ∙ ap (λ b. head_of (place_at env mix i) b.plain) (sym next_kept);
          };
        }

  -- the same tables are attached, the same nodes are in the same chains, and the same ports are bound to them
  pub record SameChains (G G' : Ghost) : Type 0 where
    pub tables : SameTables env mix G G'
    pub nodes : (j : ℕ) → (G'.bucket j).nodes ≡ (G.bucket j).nodes
    pub plain : (j : ℕ) → (G'.bucket j).plain ≡ (G.bucket j).plain
    pub out : (j : ℕ) → (G'.bucket j).out ≡ (G.bucket j).out
    -- who is armed was so, and has the bucket still; and a caller that has an entry on its way has its buckets still
    pub armed : (j c : ℕ) → (G'.bucket j).armed ≡ Some c
        → ((G.bucket j).armed ≡ Some c) × ((G'.bucket j).holder ≡ (G.bucket j).holder)
    pub kept : (i c k entry : ℕ) → (G.bucket i).holder ≡ Some c → (G.bucket k).out ≡ Some entry
        → (G.bucket k).holder ≡ Some c → G'.bucket i ≡ G.bucket i
    -- a node that is in a list has its owner still, and none gets into one
    pub used : (n : ℕ) → IsListedNode (G.node n) → G'.node n ≡ G.node n
    pub used_before : (n : ℕ) → IsListedNode (G'.node n) → G'.node n ≡ G.node n
    pub bound : (port : ℕ) → G'.bound port ≡ G.bound port

  -- so it is where at most who has raised the count changes
  pub same_chains : (G : Ghost) (raised : ℕ → Bool) → SameChains G (record G { raised = raised })
  same_chains G raised = record {
    tables = same_tables env mix G G.bucket G.node G.bound raised;
    nodes = λ j. refl;
    plain = λ j. refl;
    out = λ j. refl;
    armed = λ j c is. (is, refl);
    kept = λ i c k entry holds is out. refl;
    used = λ n used. refl;
    used_before = λ n used. refl;
    bound = λ port. refl;
  }

  -- then who has passed a table has still, and what is on its way stays
  pub chains_passes : (M : Memory) (G G' : Ghost) → Whole env mix M G → SameChains G G'
      → PassesStay env mix G G'
  chains_passes M G G' whole same = passes_same env mix M G G' whole (record {
    armed = λ j c is. (same.armed j c is).0;
    out = same.out;
    bound = same.bound;
    used = same.used;
  })

  chains_moving : (M : Memory) (G G' : Ghost) → Whole env mix M G → SameChains G G' → MovingStays M G G'
  chains_moving M G G' whole same = record {
    armed = λ j c is. inl (same.armed j c is);
    out = λ j entry is. sym (same.out j) ∙ is;
    kept = same.kept;
    entries = λ j entry is.
        let seat = out-seated env mix M G j entry (whole.moving.out j entry is) in
        same.used entry (seat-listed (G.node entry) seat.0 seat.1);
    leaves = λ n j is. sym (same.used_before n (ap is_listed is)) ∙ is;
    heads = λ n j is. same.bound (key_of M n);
  }

  -- the same nodes are used, and they are in the same buckets, or on their way out of the same ones
  pub record SameMembers (M : Memory) (G G' : Ghost) : Type 0 where
    pub tables : SameTables env mix G G'
    pub moving : MovingStays M G G'
    pub nodes : (j : ℕ) → (G'.bucket j).nodes ≡ (G.bucket j).nodes
    pub used : (n : ℕ) → IsListedNode (G.node n) → G'.node n ≡ G.node n
    pub used_before : (n : ℕ) → IsListedNode (G'.node n) → G'.node n ≡ G.node n
    pub bound : (port : ℕ) → G'.bound port ≡ G.bound port

  pub Owned-frame : (M M' : Memory) (G G' : Ghost) → Whole env mix M G → SameMembers M G G' → UsedStay env mix M G M'
      → Owned env mix M' G'
  Owned-frame M M' G G' whole same words =
      let owned = whole.owned in
      let stays : (n : ℕ) (o : Owner) → G.node n ≡ o → IsListedNode o → G'.node n ≡ o =
      λ n o is used. same.used n (ap is_listed is ∙ used) ∙ is in
      let was : (n : ℕ) (o : Owner) → G'.node n ≡ o → IsListedNode o → G.node n ≡ o =
      λ n o is used. sym (same.used_before n (ap is_listed is ∙ used)) ∙ is in
      record {
        member = λ j n i. stays n (First j) (owned.member j n (rw (sym (same.nodes j)) i)) refl;
        first_at = λ n j f.
            let before = was n (First j) f refl in
            let at = owned.first_at n j before in
            let key = first_stays env mix M M' G whole words n j KeyWord before in
            record {
              there = rw (same.nodes j) at.there;
              among = at.among;
              at_home = rw key (IsHomeOf-same G G' (key_of M n) j same.tables at.at_home);
              behind = at.behind;
              bound_to = ap G'.bound key ∙ same.bound (key_of M n) ∙ at.bound_to;
            };
        leaving_at = Leaving-frame M M' G G' whole same.tables same.moving
            (entry_words M M' G whole words);
        behind_in = λ n port f.
            let before = was n (Behind port) f refl in
            let is = owned.behind_in n port before in
            record {
              among = is.among;
              key_is = words.keys n is.among (ap is_used before) ∙ is.key_is;
              first = is.first;
              behind = is.behind;
              bound_to = same.bound port ∙ is.bound_to;
              there = is.there;
            };
        bound_to = λ port n behind b.
            let to = owned.bound_to port n behind (sym (same.bound port) ∙ b) in
            let link = seat_stays env mix M M' G whole words n to.bucket ListLink to.first in
            record {
              bucket = to.bucket;
              first = ap seat_of (same.used n (seat-listed (G.node n) to.bucket to.first)) ∙ to.first;
              key_is = seat_stays env mix M M' G whole words n to.bucket KeyWord to.first ∙ to.key_is;
              list = rw link (IsSegment-members (list_of M) (list_of M') (list_of M n) behind 0
                  (λ m i. words.lists m (owned.behind_in m port (to.each m i)).among
                  (ap is_used (to.each m i))) to.list);
              distinct = to.distinct;
              each = λ m i. stays m (Behind port) (to.each m i) refl;
            };
        single = λ one port n behind b. owned.single one port n behind (sym (same.bound port) ∙ b);
        small = λ port n behind b. owned.small port n behind (sym (same.bound port) ∙ b);
      }

  -- ---- the whole

  -- What is left to show of a store to no word of a table, where chains and their nodes' words stay: that no blank bucket
  -- changes, and that sections, locks, the map of nodes and the count are right.
  pub Whole-around : (M M' : Memory) (G G' : Ghost) (a : Address) (v : ℕ) → Whole env mix M G
      → IsWrite env.geometry M M' a v → IsApart G a → WorkLock ≢ a → ((s : ℕ) → Slot s StateWord ≢ a)
      → ((i : ℕ) → PageMap i ≢ a) → IsNoEntry G a → SameChains G G' → UsedStay env mix M G M'
      → ((j : ℕ) → IsNoBucket env mix G (G.page (j / 64)) j → G'.bucket j ≡ G.bucket j) → SectionsRight env mix M' G'
      → ((j : ℕ) → j < 64 * env.geometry.pages → is_entry G j ≡ false → LockedRight env mix M' j (G'.bucket j))
      → ArenaRight env mix M' G' → M' PortCount ≡ firsts env mix G' + raisers env mix G' → Whole env mix M' G'
  Whole-around M M' G G' a v whole write apart work states map no_entry same words blanks sections locked arena counted = record {
    tables = TablesRight-write M M' G G' a v write apart same.tables whole.tables;
    slots = SlotsRight-write M M' G G' a v write work states same.tables whole.slots;
    sections = sections;
    pages = PagesRight-write M M' G G' a v write map same.tables blanks whole.pages;
    buckets = λ j l is.
        let was = sym (is_entry-same G G' j same.tables) ∙ is in
        record {
          locked = locked j l was;
          chained = ChainedRight-frame M M' j (G.bucket j) (G'.bucket j) (same.nodes j) (same.plain j) (same.out j)
              (λ n i. first_stays env mix M M' G whole words n j ChainLink (whole.owned.member j n i))
              (whole.buckets j l was).chained;
        };
    entries = EntriesRight-write M M' G G' a v write no_entry same.tables whole.entries;
    moving = MovingRight-frame M M' G G' whole same.tables (chains_moving M G G' whole same)
        (entry_words M M' G whole words);
    owned = Owned-frame M M' G G' whole (record {
      tables = same.tables;
      moving = chains_moving M G G' whole same;
      nodes = same.nodes;
      used = same.used;
      used_before = same.used_before;
      bound = same.bound;
    }) words;
    arena = arena;
    counted = counted;
  }

  -- where it is to no section word either, and no section is opened or closed, what is left of sections is that those of the
  -- callers that have locked buckets come to the tables of these
  pub Whole-frame : (M M' : Memory) (G G' : Ghost) (a : Address) (v : ℕ) → Whole env mix M G
      → IsWrite env.geometry M M' a v → IsNoTableWord env mix a → IsNoEntry G a
      → SameChains G G' → UsedStay env mix M G M'
      → ((j : ℕ) → IsNoBucket env mix G (G.page (j / 64)) j → G'.bucket j ≡ G.bucket j)
      → ((j : ℕ) → j < 64 * env.geometry.pages → is_entry G j ≡ false → LockedRight env mix M' j (G'.bucket j))
      → ArenaRight env mix M' G' → M' PortCount ≡ firsts env mix G' + raisers env mix G' → G'.from ≡ G.from
      → ((j c : ℕ) → (G'.bucket j).holder ≡ Some c → IsSince (G.from c) (table_at G j)) → Whole env mix M' G'
  Whole-frame M M' G G' a v whole write apart no_entry same words blanks locked arena counted from since =
      Whole-around M M' G G' a v whole write (is_apart G a apart) apart.work (λ s. apart.slots s StateWord) apart.pages no_entry
      same words blanks
      (SectionsRight-write env mix M M' G G' a v write (no_section env mix a apart) whole.sections from
      (λ s τ is. ap (λ slot. slot s) (sym same.tables.slot) ∙ is)
      (λ j c holds. subst (IsSince (G.from c)) (sym (table_at-same G G' j same.tables)) (since j c holds)))
      locked arena counted

  module _ (M M' : Memory) (G : Ghost) (a : Address) (v : ℕ) (whole : Whole env mix M G)
      (write : IsWrite env.geometry M M' a v) where
    -- locks are right where no bucket's word is written
    pub locks_stay : ((j : ℕ) → PageWord j ≢ a) → (j : ℕ) → j < 64 * env.geometry.pages → is_entry G j ≡ false
        → LockedRight env mix M' j (G.bucket j)
    locks_stay apart j l is =
        LockedRight-frame M M' j (G.bucket j) (write.others (PageWord j) l (apart j))
        (whole.buckets j l is).locked

    -- and the map of nodes where none of its words is, and nodes have whom they had
    pub arena_stays : (G' : Ghost) → G'.node ≡ G.node → ((i : ℕ) → NodeMap i ≢ a) → ArenaRight env mix M' G'
    arena_stays G' same apart = record {
      built = λ n. rw (ap (λ o. o n) same) (whole.arena.built n);
      bits =
          λ n l. rw (write.others (NodeMap (n / 64)) (omega arith) (apart (n / 64)))
          (rw (ap (λ o. o n) same) (whole.arena.bits n l));
    }
