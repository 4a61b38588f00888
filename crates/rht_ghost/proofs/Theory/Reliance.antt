-- What a caller can count on at a step of anybody else.
use Rattle.std.proofs.Common.{◌≡◌, ℕ, ◌+◌, ◌↔◌, true, ◌<◌, ◌≤◌, List, [], ◌∷◌, Option, Some, None, refl, ap, inl, inr, arith}
use Rattle.rht_words.specs.declared.env.Env.{Env}
use Rattle.rht_words.specs.Places.{Section, Slot, SlotWord, LoadedSection, IsSlotWord, Node, NodeWord, ChainLink, KeyWord, OwnerWord}
use Rattle.rht_words.proofs.Memory.{Memory}
use Rattle.rht_words.specs.Members.{In}
use Rattle.rht_ghost.proofs.Theory.Ghosts.{NodeHeld, Leaving, PageHeld, PageOf, slot_holder, has_table, index_at, IsSince, IsOver, Ghost, is_used, is_taken_by, IsUsed, seat-used, table_at}
use Rattle.rht_ghost.proofs.Theory.Wholes.{chain_of, key_of, seated_at, Whole}
use Rattle.rht_ghost.proofs.Theory.Passed.{Passed, Passed-stays, PassesStay, TablesGrow, GrowsFrom, grows_from}
use Rattle.rht_ghost.proofs.Theory.Knowledge.{ArmedFor, HasNode, HasSlot, IsEmptied}

module _ (env : Env) (mix : ℕ → ℕ → ℕ → ℕ) where
  -- ---- what a caller can count on at a step of anybody else

  -- From a table on that isn't behind the current one, nor behind one to which an open section may come, the tables that there are stay
  -- what they are, others may come, and what was passed stays passed.
  pub record TablesStay (G G' : Ghost) : Type 0 where
    pub low : ℕ
    pub current : low ≤ G.current
    pub sections : (c first : ℕ) → G.from c ≡ Some first → low ≤ first
    pub grow : GrowsFrom env mix low G G'
    pub passed : (port τ : ℕ) → low ≤ τ → Passed env mix G port τ → Passed env mix G' port τ

  -- a table to which a caller's section comes is one that stays
  pub since-low : {G G' : Ghost} (stay : TablesStay G G') (c τ : ℕ) → IsSince (G.from c) τ → stay.low ≤ τ
  since-low {G} {G'} stay c τ = go (G.from c) refl
    where
      go : (from : Option ℕ) → G.from c ≡ from → IsSince from τ → stay.low ≤ τ
      go None is since = absurd since
      go (Some first) is since = let low = stay.sections c first is in omega (arith, low, since)

  -- so it is of an operation that gives back none
  pub all_stay : (M : Memory) (G G' : Ghost) → Whole env mix M G → TablesGrow env mix G G' → PassesStay env mix G G' → TablesStay G G'
  all_stay M G G' whole grow passes = record {
    low = 0;
    current = omega arith;
    sections = λ c first is. omega arith;
    grow = grows_from env mix G G' grow;
    passed = λ port τ from. Passed-stays env mix M G G' whole grow passes port τ;
  }

  -- the slots and the pages that it has, with the words of the slots; and nobody gives it any
  pub record HoldingsStay (c : ℕ) (M : Memory) (G : Ghost) (M' : Memory) (G' : Ghost) : Type 0 where
    pub slots : (s : ℕ) → slot_holder (G.slot s) ≡ Some c → G'.slot s ≡ G.slot s
    pub slot_words : (s : ℕ) (word : SlotWord) → HasSlot env mix c G s → IsSlotWord word
        → M' (Slot s word) ≡ M (Slot s word)
    pub no_slot : (s : ℕ) → slot_holder (G'.slot s) ≡ Some c → slot_holder (G.slot s) ≡ Some c
    pub pages : (p : ℕ) → G.page p ≡ PageHeld c → G'.page p ≡ PageHeld c
    pub no_page : (p : ℕ) → G'.page p ≡ PageHeld c → G.page p ≡ PageHeld c

  -- the table is as it was, and has the same pages
  pub record IsUntouched (τ : ℕ) (G G' : Ghost) : Type 0 where
    pub table : G'.table τ ≡ G.table τ
    pub pages : (p : ℕ) → (G'.page p ≡ PageOf τ) ↔ (G.page p ≡ PageOf τ)

  -- What a caller that does the work can count on: nobody else makes another table the current one, gives a slot of one that was left behind to
  -- anybody, or keeps section words in a slot. A section that comes to such a table did so before, and its word is the same; and nobody
  -- touches a table to which none comes. Nobody puts anything into a bucket that it has emptied, or touches an entry that is on its way.
  pub record WorkStays (c : ℕ) (M : Memory) (G : Ghost) (M' : Memory) (G' : Ghost) : Type 0 where
    pub worker : G'.worker ≡ Some c
    pub current : G'.current ≡ G.current
    pub left : (s : ℕ) → has_table (G.slot s) ≡ true → index_at G s < G.current → G'.slot s ≡ G.slot s
    pub kept : (s d : ℕ) → s < 8 → d < 16 → M' (Slot s (LoadedSection d)) ≡ M (Slot s (LoadedSection d))
    pub sections : (d τ : ℕ) → τ < G.current → IsSince (G'.from d) τ
        → IsSince (G.from d) τ × (M' (Section d) ≡ M (Section d))
    pub over : (τ : ℕ) → τ < G.current → IsOver G τ → IsUntouched τ G G'
    pub emptied : G.current + 1 < G.attached → (j : ℕ) → table_at G j ≡ G.current → IsEmptied env mix (G.bucket j)
        → IsEmptied env mix (G'.bucket j)
    pub entries : (j entry : ℕ) → (G.bucket j).out ≡ Some entry → G'.node entry ≡ G.node entry
    pub chains : (n j : ℕ) → G.node n ≡ Leaving j → chain_of M' n ≡ chain_of M n

  -- nodes to which a port is bound are or were ports'
  pub bound_used : (M : Memory) (G : Ghost) → Whole env mix M G → (port : ℕ) (bound : List ℕ)
      → G.bound port ≡ bound
      → (n : ℕ) → In n bound → (n < env.geometry.nodes) × IsUsed (G.node n)
  bound_used M G whole port [] b n i = absurd i
  bound_used M G whole port (first ∷ behind) b n (inl e) =
      let to = whole.owned.bound_to port first behind b in
      rw e (
        (seated_at env mix M G whole first to.bucket to.first).among,
        seat-used (G.node first) to.bucket
            to.first,
      )
  bound_used M G whole port (first ∷ behind) b n (inr i) =
      let is = (whole.owned.bound_to port first behind b).each n i in
      ((whole.owned.behind_in n port is).among, ap is_used is)

  -- the links in chains of all nodes to which the ports of the nodes in buckets that the caller has locked are bound
  abbrev pub ChainsStay : ℕ → Memory → Ghost → Memory → Type 0
  ChainsStay c M G M' = (j node other : ℕ) → (G.bucket j).holder ≡ Some c → In node (G.bucket j).nodes
      → In other (G.bound (key_of M node))
      → M' (Node other ChainLink) ≡ M (Node other ChainLink)

  -- this word of each node that is or was a port's
  abbrev pub WordStays : NodeWord → Memory → Ghost → Memory → Type 0
  WordStays word M G M' = (node : ℕ) → node < env.geometry.nodes → IsUsed (G.node node)
      → M' (Node node word) ≡ M (Node node word)

  pub record Rely (c : ℕ) (M : Memory) (G : Ghost) (M' : Memory) (G' : Ghost) : Type 0 where
    pub tables : TablesStay G G'
    -- the buckets that it has locked, and the links of their nodes
    pub locks : (j : ℕ) → (G.bucket j).holder ≡ Some c → G'.bucket j ≡ G.bucket j
    -- what the ports of their nodes are bound to
    pub lists : (j node : ℕ) → (G.bucket j).holder ≡ Some c → In node (G.bucket j).nodes
        → G'.bound (key_of M node) ≡ G.bound (key_of M node)
    -- the links in chains of the nodes to which these are bound
    pub chains : ChainsStay c M G M'
    -- the words of nodes that are or were ports', but for their links
    pub keys : WordStays KeyWord M G M'
    pub owners : WordStays OwnerWord M G M'
    -- the nodes that it has, with all their words
    pub nodes : (node : ℕ) → HasNode env mix c G node → G'.node node ≡ NodeHeld c
    pub words : (node : ℕ) → HasNode env mix c G node → (word : NodeWord) → M' (Node node word) ≡ M (Node node word)
    -- whether it has raised the count
    pub raised : G'.raised c ≡ G.raised c
    -- which nodes it has taken out of lists
    pub taken : (node : ℕ) → is_taken_by c (G'.node node) ≡ is_taken_by c (G.node node)
    -- the port for which it is armed is bound nowhere
    pub unbound : (port τ j : ℕ) → ArmedFor env mix G c port τ j → G'.bound port ≡ []
    -- its slots and pages, and the work
    pub holdings : HoldingsStay c M G M' G'
    pub work : G.worker ≡ Some c → WorkStays c M G M' G'
    -- nobody gives it a node, a lock or the work
    pub no_work : G'.worker ≡ Some c → G.worker ≡ Some c
    pub no_node : (node : ℕ) → G'.node node ≡ NodeHeld c → G.node node ≡ NodeHeld c
    pub no_lock : (j : ℕ) → (G'.bucket j).holder ≡ Some c → (G.bucket j).holder ≡ Some c

  -- each member of a bucket is one of the nodes and a port's, as the whole has it, and so is each to which a port is bound
  abbrev pub IsUsedNode : Ghost → ℕ → Type 0
  IsUsedNode G node = (node < env.geometry.nodes) × IsUsed (G.node node)

  pub record MembersUsed (G : Ghost) : Type 0 where
    pub member : (j node : ℕ) → In node (G.bucket j).nodes → IsUsedNode G node
    pub bound : (port node : ℕ) → In node (G.bound port) → IsUsedNode G node
    -- and a bucket in which a bind is armed is one of a table in force
    pub armed : (j c : ℕ) → (G.bucket j).armed ≡ Some c → G.current ≤ table_at G j

  pub members_used : (M : Memory) (G : Ghost) → Whole env mix M G → MembersUsed G
  members_used M G whole = record {
    member = λ j node i.
        let first = whole.owned.member j node i in
        ((whole.owned.first_at node j first).among, ap is_used first);
    bound = λ port node i. bound_used M G whole port (G.bound port) refl node i;
    armed = λ j c is. (whole.moving.armed j c is).current;
  }
