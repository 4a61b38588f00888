-- The count of ports, and a table that nobody uses.
-- As many different ports are bound as there are nodes in chains, and no more. A caller has raised the count exactly where its
-- job has. While nobody is in a call nobody has a lock or a node.
use Rattle.std.proofs.Common.{◌≡◌, ◌≢◌, ◌⊎◌, ℕ, ◌+◌, ◌<◌, ◌≤◌, true, length, subst, false, List, [], ◌∷◌, Option, Some, None, refl, sym, ◌∙◌, ap, inl, inr, arith, Bool}
use Rattle.std.specs.Prelude.{count_by, sum_by}
use Rattle.std.specs.List.{range_with_len}
use Rattle.std.proofs.lemmas.Bool.{cases_lt}
use Rattle.rht_words.specs.declared.env.Env.{Env}
use Rattle.rht_words.specs.declared.config.Kind.TheVariants.{Single}
use Rattle.rht_words.specs.Places.{PortCount, Slot, ShapeWord, StateWord, word_at}
use Rattle.rht_words.specs.Members.{In}
use Rattle.rht_words.proofs.Members.{count_below, count_by-range, count_below-same, count_below-none}
use Rattle.rht_core.specs.Jobs.{job_of}
use Rattle.rht_core.specs.Runs.{IsAdmitted, Core, World, local_of, view_of, run_of}
use Rattle.rht_stands.specs.StandsFor.{in_force, nodes_of}
use Rattle.rht_core.proofs.Counting.RaisingCallers.{is_raising, raising, IsCountedBy}
use Rattle.rht_core.proofs.Counting.AheadCalls.{are_ahead}
use Rattle.rht_core.specs.Counts.{IsListed, IsPlaced, IsPageFree, IsPageOfSlot, IsPageInSlot, AreNoneHeld, ArePagesApart, AreBatched, taken_out, given_back, Counted, AtRest, OwnBatches}
use Rattle.rht_core.specs.declared.event.Event.{Event}
use Rattle.rht_core.specs.Placed.{HasItsPages}
use Rattle.rht_core.specs.TablePages.{IsPageOfTable}
use Rattle.rht_ghost.proofs.Theory.Ghosts.{Owner, Free, NodeHeld, First, Leaving, Behind, Taken, PageOwner, PageFree, PageHeld, PageOf, SlotOwner, SlotFree, SlotHeld, Live, Retiring, Retired, Back, slot_holder, unretired, Ghost, has_table, index_at, table_of_slot, none-some, state_word, is_used, IsUsed, lock_bit, seat-used}
use Rattle.rht_ghost.proofs.Theory.Wholes.{AreRetired, key_of, firsts, raisers, outs, IsBuilt, Whole, slot-there}
use Rattle.rht_ghost.proofs.Theory.Entries.{page_within}
use Rattle.rht_ghost.proofs.Theory.Steps.{mem}
use Rattle.rht_core.proofs.Machines.JobSteps.{KnowsNothing}
use Rattle.rht_core.proofs.Events.Invariants.{Inv, idle_knows}
use Rattle.rht_core.proofs.Events.InvariantRuns.{has_inv}
use Rattle.rht_core.proofs.Events.OwnBatches.{held-idle}
use Rattle.rht_core.proofs.Events.SaidOfNodes.{outs-idle}
use Rattle.rht_callers.specs.declared.local.Local.{Local}
use Rattle.rht_core.proofs.Events.BooksInRuns.{ended_outs, ended_given, idle-says, has_books}
use Rattle.rht_core.specs.Alone.{IsQuiet}
use Rattle.rht_core.proofs.Counting.BatchedNodes.{are_batched}
use Rattle.rht_core.proofs.Events.SectionsInRuns.{in_no_section}
use Rattle.rht_core.proofs.Meaning.TablesInForce.{table_in_force}
use Rattle.rht_core.proofs.Meaning.BoundPorts.{listed_bound}
use Rattle.rht_core.proofs.Counting.CountedPorts.{firsts-AreAllBound}
use Rattle.rht_core.proofs.Counting.CountedNodes.{count_few}
use Rattle.rht_core.proofs.Counting.NodesOut.{is_out, out_nodes, out_nodes-distinct, out_nodes-among, out_nodes-many, out_nodes-in, out_nodes-out, sum_by-same, sum_by-plus, seat-is_out}
use Rattle.rht_core.proofs.Counting.FreePages.{free_blank}
use Rattle.rht_core.proofs.Counting.FullTables.{raises}
use Rattle.rht_core.proofs.Counting.OwnPages.{pages_own}
use Rattle.rht_core.proofs.Counting.TablePages.{pages_in_words}
use Rattle.rht_core.proofs.Counting.RestingBuckets.{state_has, bucket_unlocked, bucket_emptied}

module _ (env : Env) (mix : ℕ → ℕ → ℕ → ℕ) (words : List ℕ) (G : Ghost)
    (whole : Whole env mix (mem env mix words) G) where
  -- in a table of one owner each a port's list has one node at most
  few_listed : env.config.kind ≡ Single → (port : ℕ) → length (nodes_of env.geometry words port) ≤ 1
  few_listed single port = rw (listed_bound env mix words G whole port) (go (G.bound port) refl)
    where
      go : (bound : List ℕ) → G.bound port ≡ bound → length bound ≤ 1
      go [] b = omega arith
      go (n ∷ behind) b = rw (whole.owned.single single port n behind b) (omega arith)

  -- a node in a port's list is the first of its nodes or behind it
  listed_used : (n : ℕ) → IsListed env.geometry words n → IsUsed (G.node n)
  listed_used n (port, there) = go (G.bound port) refl
      (subst (In n) (listed_bound env mix words G whole port) there)
    where
      go : (bound : List ℕ) → G.bound port ≡ bound → In n bound → IsUsed (G.node n)
      go [] b i = absurd i
      go (first ∷ behind) b (inl same) =
          let to = whole.owned.bound_to port first behind b in
          ap is_used (ap G.node same) ∙ seat-used (G.node first) to.bucket to.first
      go (first ∷ behind) b (inr i) = ap is_used ((whole.owned.bound_to port first behind b).each n i)

  -- and isn't out
  listed_out : (n : ℕ) → IsListed env.geometry words n → is_out (G.node n) ≡ false
  listed_out n (port, there) = go (G.bound port) refl
      (subst (In n) (listed_bound env mix words G whole port) there)
    where
      go : (bound : List ℕ) → G.bound port ≡ bound → In n bound → is_out (G.node n) ≡ false
      go [] b i = absurd i
      go (first ∷ behind) b (inl same) =
          let to = whole.owned.bound_to port first behind b in
          ap is_out (ap G.node same) ∙ seat-is_out (G.node first) to.bucket to.first
      go (first ∷ behind) b (inr i) = ap is_out ((whole.owned.bound_to port first behind b).each n i)

  abbrev out : List ℕ
  out = out_nodes env mix G whole.arena.built

  -- one that a port is bound to is listed, and not free
  is_listed : (n port : ℕ) → n < env.geometry.nodes → IsUsed (G.node n) → is_out (G.node n) ≡ false
      → In n (G.bound port) → IsPlaced env.geometry words out n
  is_listed n port l used in_list there = inr (inl (
    (port, subst (In n) (sym (listed_bound env mix words G whole port)) there),
    (λ free. let q = sym used ∙ ap is_used ((whole.arena.bits n l).0 free) in cc),
    (λ i. let q = sym (out_nodes-out env mix G whole.arena.built n i) ∙ in_list in cc),
  ))

  -- a node that no caller has is free, in a port's list, or out
  placed : (n : ℕ) → n < env.geometry.nodes → ((c : ℕ) → G.node n ≢ NodeHeld c)
      → IsPlaced env.geometry words out n
  placed n l unheld = go (G.node n) refl (whole.arena.built n)
    where
      go : (o : Owner) → G.node n ≡ o → IsBuilt env mix o → IsPlaced env.geometry words out n
      go Free e b = inl (
        (whole.arena.bits n l).1 e,
        (λ is. let q = sym (listed_used n is) ∙ ap is_used e in cc),
        (λ i. let q = sym (out_nodes-out env mix G whole.arena.built n i) ∙ ap is_out e in cc),
      )
      go (NodeHeld c) e b = absurd (unheld c e)
      go (First j) e b =
          let at = whole.owned.first_at n j e in
          is_listed n (key_of (mem env mix words) n) l (ap is_used e) (ap is_out e)
          (subst (In n) (sym at.bound_to) (inl refl))
      go (Leaving j) e b =
          let at = whole.owned.leaving_at n j e in
          is_listed n (key_of (mem env mix words) n) l (ap is_used e) (ap is_out e)
          (subst (In n) (sym at.bound_to) (inl refl))
      go (Behind k) e b =
          let is = whole.owned.behind_in n k e in
          is_listed n k l (ap is_used e) (ap is_out e) (subst (In n) (sym is.bound_to) (inr is.there))
      go (Taken c) e b = inr (inr (
        out_nodes-in env mix G whole.arena.built n l (ap is_out e),
        (λ free. let q = sym e ∙ (whole.arena.bits n l).0 free in cc),
        (λ is. let q = sym (listed_out n is) ∙ ap is_out e in cc),
      ))

  -- ---- pages, and the work lock

  has_state : (o : SlotOwner) → has_table o ≡ true → state_word o ≢ 0
  has_state SlotFree has is = absurd (cc)
  has_state (SlotHeld c) has is = absurd (cc)
  has_state (Live τ) has is = absurd (omega arith)
  has_state (Retiring τ) has is = absurd (omega arith)
  has_state (Retired τ) has is = absurd (omega arith)
  has_state (Back c) has is = absurd (cc)

  page_placed : (p : ℕ) → p < env.geometry.pages → ((c : ℕ) → G.page p ≢ PageHeld c)
      → IsPageFree env.geometry words p ⊎ IsPageInSlot env.geometry words p
  page_placed p l unheld = go (G.page p) refl
    where
      go : (o : PageOwner) → G.page p ≡ o → IsPageFree env.geometry words p ⊎ IsPageInSlot env.geometry words p
      go PageFree e = inl ((whole.pages.bits p l).1 e)
      go (PageHeld c) e = absurd (unheld c e)
      go (PageOf τ) e =
          let there = whole.pages.there p τ e in
          let right = whole.tables.each τ there in
          let s = (G.table τ).slot in
          inr (record {
            slot = s;
            slot_in = right.slot_in;
            taken = λ free. has_state (G.slot s) there.has_slot (sym (whole.slots.states s right.slot_in) ∙ free);
            there = subst (λ w. IsPageOfTable env.geometry words w p) (sym right.shape_is)
                ((pages_in_words env mix words G whole τ there p).1 e);
          })

  no_page_free : (s p : ℕ) → s < 8 → ((c : ℕ) → slot_holder (G.slot s) ≢ Some c) → word_at env.geometry words (Slot s StateWord) ≢ 0
      → IsPageOfSlot env.geometry words s p → IsPageFree env.geometry words p → ⊥
  no_page_free s p l unheld taken there free =
      let has = state_has (G.slot s) unheld (λ e. taken (whole.slots.states s l ∙ e)) in
      let is = whole.tables.slots s has in
      let τ = index_at G s in
      let there_is = slot-there env mix whole.tables s has in
      let right = whole.tables.each τ there_is in
      let shape_is : word_at env.geometry words (Slot s ShapeWord) ≡ (G.table τ).shape =
      subst (λ t. word_at env.geometry words (Slot t ShapeWord) ≡ (G.table τ).shape) is.slot right.shape_is in
      let of : G.page p ≡ PageOf τ =
      (pages_in_words env mix words G whole τ there_is p).0
      (subst (λ w. IsPageOfTable env.geometry words w p) shape_is there) in
      let within = page_within env mix (G.table τ) G.page τ right.placed p of in
      let none : PageOf τ ≡ PageFree = sym of ∙ (whole.pages.bits p within).0 free in
      cc

  -- a slot that isn't free is retired, or has a table in force
  slot_in_force : (s : ℕ) → s < 8 → AreRetired G None → ((c : ℕ) → slot_holder (G.slot s) ≢ Some c)
      → word_at env.geometry words (Slot s StateWord) ≢ 0
      → (word_at env.geometry words (Slot s StateWord) ≡ 2) ⊎ In s (in_force env.geometry words)
  slot_in_force s l retired unheld taken = go (G.slot s) refl
    where
      go : (o : SlotOwner) → G.slot s ≡ o
          → (word_at env.geometry words (Slot s StateWord) ≡ 2) ⊎ In s (in_force env.geometry words)
      go SlotFree e = absurd (taken (whole.slots.states s l ∙ ap state_word e))
      go (SlotHeld c) e = absurd (unheld c (ap slot_holder e))
      go (Retiring τ) e = inl (whole.slots.states s l ∙ ap state_word e)
      go (Retired τ) e = inl (whole.slots.states s l ∙ ap state_word e)
      go (Back c) e = absurd (unheld c (ap slot_holder e))
      go (Live τ) e =
          let is = whole.tables.slots s (ap has_table e) in
          let σ = index_at G s in
          elim (cases_lt σ G.current) [
            | inl before ↦
                let index : σ ≡ τ = ap table_of_slot e in
                absurd (none-some refl (retired s τ (ap unretired e) (omega (arith, index, before))))
            | inr from ↦
                inr (subst (λ t. In t (in_force env.geometry words)) is.slot
                (table_in_force env mix words G whole σ from is.attached))
          ]

  -- where no caller has the work lock, a slot or a page
  none_held : ((c : ℕ) → G.worker ≢ Some c) → ((c s : ℕ) → slot_holder (G.slot s) ≢ Some c) → ((c p : ℕ) → G.page p ≢ PageHeld c)
      → AreNoneHeld env.geometry words
  none_held idle no_slot no_page = record {
    no_work = whole.slots.worker_is ∙ ap lock_bit nobody;
    pages = λ p l. page_placed p l (λ c. no_page c p);
    slots = λ s p l taken there. no_page_free s p l (λ c. no_slot c s) taken there;
    attached = λ s l taken. slot_in_force s l (whole.slots.retired nobody) (λ c. no_slot c s) taken;
  }
    where
      none_is : (worker : Option ℕ) → ((c : ℕ) → worker ≢ Some c) → worker ≡ None
      none_is None none = refl
      none_is (Some c) none = absurd (none c refl)

      nobody : G.worker ≡ None
      nobody = none_is G.worker idle

  -- so each table in a slot that isn't free has its pages for itself
  pages_apart : AreNoneHeld env.geometry words → ArePagesApart env.geometry words
  pages_apart held =
      let has : (s : ℕ) → s < 8 → word_at env.geometry words (Slot s StateWord) ≢ 0 → HasItsPages env.geometry words s =
      λ s l taken. elim (held.attached s l taken) [ inl retired ↦ inr (l, retired, held.no_work) | inr i ↦ inl i ] in
      record {
        blank = free_blank env mix words G whole;
        apart = λ one other p l m takes_one takes_other.
            (pages_own env mix words G whole).apart one other p (has one l takes_one) (has other m takes_other);
      }

module _ (M : Type 0) (mix : ℕ → ℕ → ℕ → ℕ) where
  raising-raisers : (env : Env) (core : Core M) (G : Ghost) → Inv env mix M core G
      → raising core ≡ raisers env mix G
  raising-raisers env core G inv =
      ap (λ (e : Env). count_by_raising e) inv.same_env
      ∙ count_by-range (λ c. is_raising (local_of core c).doing) env.geometry.callers
      ∙ count_below-same G.raised (λ c. is_raising (local_of core c).doing) env.geometry.callers
      (λ c l. sym (raises mix env c (job_of (local_of core c).doing) (mem env mix core.words) G
      (inv.each c)))
    where
      count_by_raising : Env → ℕ
      count_by_raising e = count_by (λ c. is_raising (local_of core c).doing)
          (range_with_len 0 e.geometry.callers)

  -- by what their jobs hold
  pub counted_by : (env : Env) (events : List Event) → IsAdmitted events
      → IsCountedBy env (run_of {M = M} mix env events).core
  counted_by env events admitted =
      let core : Core M = (run_of mix env events).core in
      let has = has_inv env mix M events admitted in
      record {
        bound = firsts env mix has.ghost;
        all_bound = firsts-AreAllBound env mix core.words has.ghost has.inv.whole;
        counted =
            has.inv.whole.counted ∙ ap (λ r. firsts env mix has.ghost + r)
            (sym (raising-raisers env core has.ghost has.inv));
        few = count_few env mix M core has.ghost has.inv;
      }

  -- and so by their operations
  pub counted : Counted M mix
  counted env events admitted =
      let core : Core M = (run_of mix env events).core in
      let by = counted_by env events admitted in
      let has : ℕ → Bool = λ c. is_raising (local_of core c).doing in
      let same = (has_inv env mix M events admitted).inv.same_env in
      let many : raising core ≡ count_below has env.geometry.callers =
      count_by-range has core.env.geometry.callers ∙ ap (λ (e : Env). count_below has e.geometry.callers) same in
      record {
        bound = by.bound;
        all_bound = by.all_bound;
        ahead = count_below has env.geometry.callers;
        are_ahead = are_ahead M mix env events admitted;
        counted = by.counted ∙ ap (λ n. by.bound + n) many;
        few = by.few;
      }

  -- each node is free, in a port's list or in a batch
  batched_at : (env : Env) (events : List Event) → IsAdmitted events → IsQuiet M mix env events
      → AreBatched env (run_of {M = M} mix env events).core
  batched_at env events admitted quiet =
      let core : Core M = (run_of mix env events).core in
      let has = has_inv env mix M events admitted in
      let G = has.ghost in
      let whole = has.inv.whole in
      let built = whole.arena.built in
      let knows : (c : ℕ) → KnowsNothing env mix c (mem env mix core.words) G =
      λ c. idle_knows env mix M c (local_of core c).doing (mem env mix core.words) G (quiet c) (has.inv.each c) in
      are_batched env mix M core G built has.inv.batches (λ c. (has.all.locals c).among) quiet (out_nodes env mix G built)
      (out_nodes-in env mix G built) (out_nodes-out env mix G built)
      (λ n l. placed env mix core.words G whole n l (λ c held. let none = (knows c).only.nodes n held in absurd (cc)))

  pub at_rest : AtRest M mix
  at_rest env events admitted quiet =
      let core : Core M = (run_of mix env events).core in
      let has = has_books env mix M events admitted in
      let G = has.ghost in
      let knows : (c : ℕ) → KnowsNothing env mix c (mem env mix core.words) G =
      λ c. idle_knows env mix M c (local_of core c).doing (mem env mix core.words) G (quiet c)
      (has.inv.each c) in
      let none_raised = count_below-none G.raised env.geometry.callers (λ c l. (knows c).only.raising) in
      let all : word_at env.geometry core.words PortCount ≡ firsts env mix G =
      (let is = has.inv.whole.counted in omega (arith, is, none_raised)) in
      let built = has.inv.whole.arena.built in
      let w : World M = run_of mix env events in
      let all_ended : sum_by (outs env mix G) (range_with_len 0 env.geometry.callers) + given_back w ≡ taken_out w =
      ap (λ (e : Env). sum_by (outs env mix G) (range_with_len 0 env.geometry.callers)
      + sum_by (λ c. ended_given (w.books c)) (range_with_len 0 e.geometry.callers)) has.inv.same_env
      ∙ sym (sum_by-plus (outs env mix G) (λ c. ended_given (w.books c)) (range_with_len 0 env.geometry.callers))
      ∙ sum_by-same (λ c. outs env mix G c + ended_given (w.books c)) (λ c. ended_outs (w.books c))
      (λ c. idle-says env mix M (view_of w c) (outs env mix G c) (quiet c) (has.says c))
      (range_with_len 0 env.geometry.callers)
      ∙ ap (λ (e : Env). sum_by (λ c. ended_outs (w.books c)) (range_with_len 0 e.geometry.callers))
      (sym has.inv.same_env) in
      let no_slot : (c s : ℕ) → slot_holder (G.slot s) ≢ Some c = λ c s is. let none = (knows c).only.slots s is in cc in
      let no_lock : (c j : ℕ) → (G.bucket j).holder ≢ Some c =
      λ c j h. elim ((knows c).only.locks j h) [ inl e ↦ absurd (cc) | inr e ↦ absurd (cc) ] in
      let held = none_held env mix core.words G has.inv.whole
      (λ c works. let none = (knows c).only.works works in cc)
      no_slot
      (λ c p is. (knows c).only.pages_in p is) in
      record {
        unlocked = λ slot place there is. bucket_unlocked env mix core.words G has.inv.whole no_slot no_lock slot place there is;
        emptied = λ slot place low retired is.
            bucket_emptied env mix core.words G has.inv.whole no_slot no_lock slot place low retired is;
        out = sum_by (outs env mix G) (range_with_len 0 env.geometry.callers);
        still_out = all_ended;
        nodes = record {
          out = out_nodes env mix G built;
          distinct = out_nodes-distinct env mix G built;
          among = out_nodes-among env mix G built;
          many = out_nodes-many env mix G built;
          placed = λ n l. placed env mix core.words G has.inv.whole n l
              (λ c held. let none = (knows c).only.nodes n held in absurd (cc));
        };
        batched = batched_at env events admitted quiet;
        single = few_listed env mix core.words G has.inv.whole;
        counted = rw all (firsts-AreAllBound env mix core.words G has.inv.whole);
        none_held = held;
        pages = pages_apart env mix core.words G has.inv.whole held;
        sections = λ c below. in_no_section env mix M events admitted c below (quiet c);
      }

  -- the ghost has the nodes that the caller's calls took out, which are those of its batch, and as many as its book says
  pub own_batches : OwnBatches M mix
  own_batches env events c admitted idle =
      let has = has_books env mix M events admitted in
      let w : World M = run_of mix env events in
      let local : Local M = local_of w.core c in
      let says = idle-says env mix M (view_of w c) (outs env mix has.ghost c) idle (has.says c) in
      let many = (has.inv.batches c).many in
      let held = ap length (held-idle M local.doing local.batch idle) in
      let none = outs-idle local.doing idle in
      omega (arith, says, many, held, none)
