-- What a caller in a read section could reach, by the words, it may still meet.
use Rattle.std.proofs.Common.{◌≡◌, ℕ, ◌+◌, ◌<◌, ◌≤◌, List, Option, Some, None, refl, true, false, sym, ◌∙◌, ap, subst, arith, slice_index}
use Rattle.std.specs.List.{AllByRecursion}
use Rattle.std.specs.Option.{is_some}
use Rattle.std.proofs.lemmas.Bool.{both_ways}
use Rattle.rht_words.specs.declared.env.Env.{Env}
use Rattle.rht_words.specs.Links.{head_of, slot_of}
use Rattle.rht_words.specs.Places.{Slot, FutureWord}
use Rattle.rht_words.specs.Shapes.{unpacked, size_of}
use Rattle.rht_words.specs.Standing.{Standing}
use Rattle.rht_words.proofs.EachElement.{AllByRecursion-weaker}
use Rattle.rht_words.proofs.Members.{AllByRecursion-In}
use Rattle.rht_core.specs.Reach.{Thing, TableIn, PageAt, NodeAt, CouldReach, ReachesTable, at_table, at_current, by_future, ReachesNode, at_node, in_bucket, by_chain, ReachesPage, ReachesListed, in_chain, at_listed, by_list, ComesTo}
use Rattle.rht_stands.specs.StandsFor.{shape_of, bucket_in}
use Rattle.rht_core.specs.TablePages.{IsPageOfTable}
use Rattle.rht_core.proofs.Counting.TablePages.{pages_in_words}
use Rattle.rht_ghost.proofs.Theory.Ghosts.{Ghost, NodeHeld, SlotOwner, slot_holder, held-no_table, PageHeld, PageOwner, PageOf, has_table, is_first, held_not_used, seat-first}
use Rattle.rht_ghost.proofs.Theory.Wholes.{place_at, Whole, AreThereFrom, IsAt, current-at, there_behind}
use Rattle.rht_ghost.proofs.Theory.SeatedLinks.{next_of, link-next_of, head-seated}
use Rattle.rht_ghost.proofs.Theory.Steps.{mem}
use Rattle.rht_core.proofs.Meaning.TablesInForce.{current_slot, next_named}
use Rattle.rht_core.proofs.Meaning.BoundPorts.{bucket-within, first_link}
use Rattle.rht_core.proofs.Returning.Readers.{Reader, IsOpen, ReaderRight}

-- a table that a section may come to: it was attached, and is the one that was current when the section was
-- opened or a later one
pub record MeetsTable (G : Ghost) (r : Reader) (slot : ℕ) : Type 0 where
  pub at : IsAt G slot
  pub since : (τ : ℕ) → r.from ≡ Some τ → τ ≤ at.table

-- what is known of where the caller stands
pub record StandsRight (G : Ghost) (r : Reader) (at : Standing) : Type 0 where
  pub tables : AllByRecursion (MeetsTable G r) at.tables
  pub nodes : AllByRecursion (λ n. r.chains n ≡ true) at.nodes
  pub listed : AllByRecursion (λ n. r.lists n ≡ true) at.listed

-- a caller has the thing for itself: it took it, or gives it back
abbrev pub IsTakenBy : Ghost → ℕ → Thing → Type 0
IsTakenBy G d (TableIn slot) = slot_holder (G.slot slot) ≡ Some d
IsTakenBy G d (PageAt page) = G.page page ≡ PageHeld d
IsTakenBy G d (NodeAt node) = G.node node ≡ NodeHeld d

held_no_table : (o : SlotOwner) (d : ℕ) → slot_holder o ≡ Some d → has_table o ≡ true → ⊥
held_no_table o d held has = let both : true ≡ false = sym has ∙ held-no_table o d held in cc

held_no_page : (o : PageOwner) (d τ : ℕ) → o ≡ PageHeld d → o ≡ PageOf τ → ⊥
held_no_page o d τ held of = let both : PageHeld d ≡ PageOf τ = sym held ∙ of in cc

module _ (env : Env) (mix : ℕ → ℕ → ℕ → ℕ) (words : List ℕ) (G : Ghost)
    (whole : Whole env mix (mem env mix words) G) (c : ℕ) (r : Reader)
    (right : ReaderRight env mix (mem env mix words) G c r) (reads : IsOpen r) (at : Standing) (stands : StandsRight G r at) where
  -- a table that the section may come to is there, and so are those behind it
  pub meets-there : (slot : ℕ) (meets : MeetsTable G r slot) → AreThereFrom G meets.at.table
  meets-there slot meets = go r.from refl
    where
      go : (from : Option ℕ) → r.from ≡ from → AreThereFrom G meets.at.table
      go None e = absurd (let both : true ≡ false = sym reads ∙ ap is_some e in cc)
      go (Some τ) e = λ σ later. right.there τ e σ (let since = meets.since τ e in omega (arith, since, later))

  -- where the words of a table lead to a next one, this is the one behind it
  next_table : (slot next : ℕ) → MeetsTable G r slot
      → slot_of (mem env mix words (Slot slot FutureWord)) ≡ Some next
      → MeetsTable G r next
  next_table slot next meets leads =
      let named =
      next_named env mix words G whole meets.at.table next (meets-there slot meets) meets.at.attached
      (subst (λ s. slot_of (mem env mix words (Slot s FutureWord)) ≡ Some next) (sym meets.at.slot_is) leads) in
      record {
        at = record {
          table = meets.at.table + 1;
          attached = named.attached;
          slot_is = named.slot_is;
          on = there_behind G meets.at.table (meets-there slot meets);
        };
        since = λ τ from. let before = meets.since τ from in omega (arith, before);
      }

  -- each table that it could reach is one that it may come to
  pub reaches-table : (slot : ℕ) → ReachesTable env.geometry words at slot → MeetsTable G r slot
  reaches-table slot (at_table s there) = AllByRecursion-In (MeetsTable G r) s at.tables stands.tables there
  reaches-table slot (at_current none) = record {
    at = current-at env mix whole.tables slot (sym (current_slot env mix words G whole));
    since = right.low;
  }
  reaches-table slot (by_future s next reached leads) = next_table s next (reaches-table s reached) leads

  -- the first link of a bucket of such a table leads to a node in a chain
  bucket-first : (slot bucket place node : ℕ) → MeetsTable G r slot
      → bucket < size_of (unpacked (shape_of env.geometry words slot))
      → bucket_in env.geometry words (shape_of env.geometry words slot) bucket ≡ Some place
      → next_of env (head_of place (slice_index words place)) ≡ Some node → is_first (G.node node) ≡ true
  bucket-first slot bucket place node meets below there leads =
      let is = bucket-within env mix words G whole meets.at.table bucket place
      (meets-there slot meets meets.at.table (omega arith) meets.at.attached)
      (subst (λ t. bucket < size_of (unpacked (shape_of env.geometry words t))) (sym meets.at.slot_is) below)
      (subst (λ t. bucket_in env.geometry words
      (shape_of env.geometry words t) bucket ≡ Some place) (sym meets.at.slot_is) there) in
      let j = is.index in
      let first : next_of env (head_of (place_at env mix j) (G.bucket j).plain) ≡ Some node =
      ap (next_of env) (sym (first_link env mix words G whole j is.within is.plain))
      ∙ subst (λ p. next_of env (head_of p (slice_index words p)) ≡ Some node) is.place_is leads in
      let has = head-seated env mix (mem env mix words) G whole j node
      (whole.buckets j is.within is.plain).chained
      (link-next_of env (head_of (place_at env mix j) (G.bucket j).plain) node first) in
      seat-first (G.node node) has.bucket has.seat

  -- each node it may meet, in chains and in lists
  pub reaches-node : (node : ℕ) → ReachesNode env.geometry words at node → r.chains node ≡ true
  reaches-node node (at_node n there) = AllByRecursion-In (λ m. r.chains m ≡ true) n at.nodes stands.nodes there
  reaches-node node (in_bucket slot bucket place n table below there leads) =
      right.firsts n reads (bucket-first slot bucket place n (reaches-table slot table) below there leads)
  reaches-node node (by_chain before n reached leads) =
      right.chain_leads before n (reaches-node before reached) leads

  pub reaches-listed : (node : ℕ) → ReachesListed env.geometry words at node → r.lists node ≡ true
  reaches-listed node (in_chain n reached) = right.chained n (reaches-node n reached)
  reaches-listed node (at_listed n there) = AllByRecursion-In (λ m. r.lists m ≡ true) n at.listed stands.listed there
  reaches-listed node (by_list before n reached leads) =
      right.list_leads before n (reaches-listed before reached) leads

  -- so where it comes to from there it stands rightly
  pub comes-right : (next : Standing) → ComesTo env.geometry words at next → StandsRight G r next
  comes-right next comes = record {
    tables = AllByRecursion-weaker _ _ reaches-table next.tables comes.tables;
    nodes = AllByRecursion-weaker _ _ reaches-node next.nodes comes.nodes;
    listed = AllByRecursion-weaker _ _ reaches-listed next.listed comes.listed;
  }

  -- it could reach no node that a caller has taken for itself, and none that no section may meet
  safe-held : (d node : ℕ) → G.node node ≡ NodeHeld d → ReachesListed env.geometry words at node → ⊥
  safe-held d node held reached =
      held_not_used (G.node node) d held (right.used node (reaches-listed node reached))

  pub safe-unmet : (node : ℕ) → r.lists node ≡ false → ReachesListed env.geometry words at node → ⊥
  safe-unmet node none reached = both_ways (r.lists node) none (reaches-listed node reached)

  -- a slot that it could reach has a table, and a page is a table's
  pub reaches-slot : (slot : ℕ) → ReachesTable env.geometry words at slot → has_table (G.slot slot) ≡ true
  reaches-slot slot reached =
      let meets = reaches-table slot reached in
      subst (λ s. has_table (G.slot s) ≡ true) meets.at.slot_is
      (meets-there slot meets meets.at.table (omega arith) meets.at.attached).has_slot

  -- of one that the section may come to
  pub reaches-page : (page : ℕ) → ReachesPage env.geometry words at page
      → (τ : ℕ) × (G.page page ≡ PageOf τ) × ((first : ℕ) → r.from ≡ Some first → first ≤ τ)
  reaches-page page reached =
      let meets = reaches-table reached.slot reached.table in
      let τ = meets.at.table in
      let there = meets-there reached.slot meets τ (omega arith) meets.at.attached in
      let shape : shape_of env.geometry words reached.slot ≡ (G.table τ).shape =
      ap (shape_of env.geometry words) (sym meets.at.slot_is) ∙ (whole.tables.each τ there).shape_is in (
        τ,
        (pages_in_words env mix words G whole τ there page).0
            (subst (λ s. IsPageOfTable env.geometry words s page) shape reached.of),
        meets.since,
      )

  -- what a caller has taken for itself could not be reached
  pub safe-taken : (d : ℕ) (thing : Thing) → IsTakenBy G d thing → CouldReach env.geometry words at thing → ⊥
  safe-taken d (TableIn slot) taken reached = held_no_table (G.slot slot) d taken (reaches-slot slot reached)
  safe-taken d (PageAt page) taken reached =
      let is = reaches-page page reached in held_no_page (G.page page) d is.0 taken is.1
  safe-taken d (NodeAt node) taken reached = safe-held d node taken reached
