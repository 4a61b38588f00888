-- An operation of a call that may still be refused: it has raised no count and moved no entries. What is
-- known of the bits that the call has turned stays so if its node and its slot stay, its pages are those that
-- it had and hasn't given back or those that it takes, and each bit that the operation turns is held before
-- or behind it.
use Rattle.std.proofs.Common.{Option, ◌≡◌, ◌≢◌, ◌⊎◌, ℕ, ◌+◌, ◌/◌, ◌%◌, ◌<◌, Bool, false, List, [], ◌∷◌, ◌++◌, Some, None, sym, ap, ◌∙◌, subst, inl, inr, arith}
use Rattle.std.specs.Int.{bit_at}
use Rattle.std.proofs.lemmas.Bool.{cases_lt}
use Rattle.std.proofs.lemmas.Nat.Bits.{bit_at-lt}
use Rattle.rht_words.specs.declared.env.Env.{Env}
use Rattle.rht_words.specs.declared.geometry.Geometry.{Geometry}
use Rattle.rht_words.specs.declared.op.Op.TheVariants.{Store, Exchange}
use Rattle.rht_words.specs.Links.{future_of, entry_of}
use Rattle.rht_words.specs.Members.{In}
use Rattle.rht_words.specs.Operations.{op_place, old_of, word_after}
use Rattle.rht_words.specs.Places.{Section, Slot, SlotWord, FutureWord, StateWord, LoadedSection, PageMap, PageWord, Node, NodeWord, place_of}
use Rattle.rht_words.proofs.PlacesApart.{parts_in_order}
use Rattle.rht_model.specs.declared.history.Call.{Call}
use Rattle.rht_arena.specs.Laws.{map_place}
use Rattle.rht_arena.specs.RunLaws.{page_place}
use Rattle.rht_nest.specs.Tables.{pages_of_shape}
use Rattle.rht_core.specs.Traces.{Did}
use Rattle.rht_core.specs.Seen.{CameTo}
use Rattle.rht_core.specs.Refused.{turned, turns, IsTableWord, StoresLast, MayAttach}
use Rattle.rht_ghost.proofs.Theory.Ghosts.{Ghost, PageHeld, SlotHeld, table_at}
use Rattle.rht_ghost.proofs.Theory.Wholes.{place_at, Whole}
use Rattle.rht_ghost.proofs.Theory.Steps.{bare, Holding, LeavesBits, mem}
use Rattle.rht_core.proofs.Undoing.TurnedBits.{node_bit, locked_bit, work_bit, slot_bit, pages_bit, section_bit, held_bits}
use Rattle.rht_core.proofs.Undoing.UndoneSoFar.{IsOfOwnNode, IsOfOwnSlot, IsLeft, Undoes, StillHas, Takes, Keeps}

-- nothing is turned, and what is held stays
pub unturned : (t x y : ℕ) → t ≡ 0 → y ≡ x → (t + x + y) % 2 ≡ 0
unturned t x y none same = omega (arith, none, same)

-- what is turned is held from then on, or no more
pub comes : (t x y : ℕ) → t ≡ y → x ≡ 0 → (t + x + y) % 2 ≡ 0
comes t x y turns none = omega (arith, turns, none)

pub goes : (t x y : ℕ) → t ≡ x → y ≡ 0 → (t + x + y) % 2 ≡ 0
goes t x y turns none = omega (arith, turns, none)

pub sum_is : (a b : ℕ) {x y : ℕ} → a ≡ x → b ≡ y → a + b ≡ x + y
sum_is a b first second = omega (arith, first, second)

pub half_sum : (a b : ℕ) → a + b ≡ 1 → (a + b) % 2 ≡ 1
half_sum a b one = omega (arith, one)

-- a bit that isn't set is clear
pub clear_where : (word bit : ℕ) → (bit_at word bit ≡ 1 → ⊥) → bit_at word bit ≡ 0
clear_where word bit unset = elim (cases_lt (bit_at word bit) 1) [
  | inl low ↦ omega (arith, low)
  | inr high ↦ absurd (unset (let below = bit_at-lt word bit in omega (arith, high, below)))
]

-- where a call may attach a table that it holds with these pages, it has stored the shape of that, and the
-- pages are its
pub record MayAttachWith (g : Geometry) (call : Call) (slot : ℕ) (pages : List ℕ)
    (steps : List Did) : Type 0 where
  pub may : MayAttach call
  pub shape : ℕ
  pub stored : StoresLast g slot shape steps
  pub among : (page : ℕ) → In page pages → page < g.pages
  pub of_shape : (page : ℕ) → In page pages → In page (pages_of_shape shape)

-- where a call may enter a page at an entry, it has come to the entry's table
pub record MayEnter (g : Geometry) (call : Call) (steps : List Did) (G : Ghost) (entry : ℕ) : Type 0 where
  pub may : MayAttach call
  pub came : CameTo g (G.table (table_at G entry)).slot steps

-- The call may be refused before an operation and behind it, where it holds this: it has raised no count, and moves
-- nothing. Where it has a lock and no node, the operation leaves its word, or drops the lock. Its slot and its pages are its own,
-- and it attaches and enters only what it may.
pub record MayGoBack (g : Geometry) (call : Call) (steps : List Did) (did : Did) (before after : Holding)
    (c : ℕ) (G : Ghost) : Type 0 where
  pub low : before.raised ≡ false
  pub low_then : after.raised ≡ false
  pub still : before.moving ≡ false
  pub still_then : after.moving ≡ false
  pub locked_leaves : before.lock ≢ None → before.node ≡ None
      → LeavesBits did.op did.old ⊎ (after.lock ≡ None)
  pub slot_mine : (slot : ℕ) → before.slot ≡ Some slot → G.slot slot ≡ SlotHeld c
  pub mine : (page : ℕ) → In page before.pages → G.page page ≡ PageHeld c
  pub attaches : (last slot : ℕ) → last < 8
      → did.op ≡ Exchange (place_of g (Slot last FutureWord)) 0 (future_of slot) → before.slot ≡ Some slot
      → MayAttachWith g call slot before.pages steps
  pub enters : (entry page : ℕ) → did.op ≡ Exchange (place_of g (PageWord entry)) 0 (entry_of page)
      → In page before.pages → MayEnter g call steps G entry

-- Such an operation behind these, how it finds the words, and what the call holds before it and behind it.
pub record GoesBack (env : Env) (mix : ℕ → ℕ → ℕ → ℕ) (words_at : ℕ → List ℕ) (call : Call) : Type 0 where
  pub steps : List Did
  pub did : Did
  pub before : Holding
  pub after : Holding
  pub caller : ℕ
  pub words : List ℕ
  pub ghost : Ghost
  pub whole : Whole env mix (mem env mix words) ghost
  pub here : words_at did.index ≡ words
  pub found : did.old ≡ old_of words did.op
  pub so_far : Undoes env.geometry words_at caller call before steps
  pub may : MayGoBack env.geometry call steps did before after caller ghost

module _ (env : Env) where
  -- no word of the map of pages is one of the pages, of the map of nodes or of a node, nor of a slot that the
  -- moves speak of, nor the work lock
  pub behind_map : (mix : ℕ → ℕ → ℕ → ℕ) (j page : ℕ) → page < env.geometry.pages
      → place_at env mix j ≡ page_place env.geometry page → ⊥
  behind_map mix j page within same =
      let order = parts_in_order env.geometry in
      absurd (omega (arith, within, same, order.nodes, order.pages))

  pub not_in_node_map : (node page : ℕ) → node < env.geometry.nodes
      → map_place env.geometry node ≡ page_place env.geometry page → ⊥
  not_in_node_map node page within same =
      let order = parts_in_order env.geometry in absurd (omega (arith, within, same, order.page_map))

  pub not_in_nodes : (node : ℕ) (word : NodeWord) (page : ℕ) → node < env.geometry.nodes
      → page < env.geometry.pages
      → place_of env.geometry (Node node word) ≡ page_place env.geometry page → ⊥
  not_in_nodes node word page node_in within same =
      let order = parts_in_order env.geometry in absurd (omega (arith, within, same, order.nodes))

  pub not_state : (slot : ℕ) → slot < 8 → (page : ℕ)
      → place_of env.geometry (Slot slot StateWord) ≡ page_place env.geometry page → ⊥
  not_state slot low page same =
      let order = parts_in_order env.geometry in absurd (omega (arith, low, same, order.page_map))

  pub not_in_slots : (slot : ℕ) (word : SlotWord) → IsTableWord word → slot < 8 → (page : ℕ)
      → place_of env.geometry (Slot slot word) ≡ page_place env.geometry page → ⊥
  not_in_slots slot StateWord of_table low page same = of_table
  not_in_slots slot (LoadedSection caller) of_table low page same = of_table
  not_in_slots slot _ of_table low page same =
      let order = parts_in_order env.geometry in absurd (omega (arith, low, same, order.page_map))

  pub not_section : (c : ℕ) → c < 16 → (page : ℕ) → place_of env.geometry (Section c) ≡ page_place env.geometry page → ⊥
  not_section c few page same =
      let order = parts_in_order env.geometry in absurd (omega (arith, few, same, order.page_map))

  pub not_first : (page : ℕ) → 1 ≡ page_place env.geometry page → ⊥
  not_first page same =
      let order = parts_in_order env.geometry in absurd (omega (arith, same, order.page_map))

module _ {env : Env} {mix : ℕ → ℕ → ℕ → ℕ} {words_at : ℕ → List ℕ} {call : Call}
    (step : GoesBack env mix words_at call) where
  abbrev g : Geometry
  g = env.geometry

  abbrev pub every : List Did
  every = step.steps ++ step.did ∷ []

  abbrev pub Kept : Type 0
  Kept = Keeps g words_at step.caller call step.steps step.did step.before step.after

  -- the operation turns a bit where one of these numbers is odd and the other isn't
  abbrev pub EvenBetween : ℕ → ℕ → ℕ → ℕ → Type 0
  EvenBetween place bit was is = (turned place bit step.did + was + is) % 2 ≡ 0

  abbrev pub Even : ℕ → ℕ → Type 0
  Even place bit =
      EvenBetween place bit (held_bits g step.caller step.before place bit) (held_bits g step.caller step.after place bit)

  abbrev pub MayBeLeft : ℕ → ℕ → Type 0
  MayBeLeft place bit = IsLeft g words_at step.caller call step.after every place bit

  -- ---- one part of what it holds changes

  -- a sum that is known of what is held then
  then_is : (then : Holding) → bare step.after ≡ then → (place bit : ℕ)
      → EvenBetween place bit (held_bits g step.caller step.before place bit) (held_bits g step.caller then place bit)
      → Even place bit
  then_is then holds place bit even =
      let held = held_bits g step.caller step.before place bit in
      subst (EvenBetween place bit held) (sym (ap (λ (x : Holding). held_bits g step.caller x place bit) holds)) even

  pub by_node : (node : Option ℕ) → bare step.after ≡ record (bare step.before) { node = node }
      → (place bit : ℕ)
      → EvenBetween place bit (node_bit g step.before.node place bit) (node_bit g node place bit)
      → Even place bit
  by_node node holds place bit even = then_is _ holds place bit (omega (arith, even))

  pub by_lock : (lock : Option ℕ) → bare step.after ≡ record (bare step.before) { lock = lock }
      → (place bit : ℕ)
      → EvenBetween place bit (locked_bit g step.before.lock place bit) (locked_bit g lock place bit)
      → Even place bit
  by_lock lock holds place bit even = then_is _ holds place bit (omega (arith, even))

  pub by_worker : (worker moving : Bool)
      → bare step.after ≡ record (bare step.before) { worker = worker; moving = moving } → (place bit : ℕ)
      → EvenBetween place bit (work_bit g step.before.worker place bit) (work_bit g worker place bit)
      → Even place bit
  by_worker worker moving holds place bit even = then_is _ holds place bit (omega (arith, even))

  pub by_slot : (slot : Option ℕ) → bare step.after ≡ record (bare step.before) { slot = slot }
      → (place bit : ℕ)
      → EvenBetween place bit (slot_bit g step.before.slot place bit) (slot_bit g slot place bit)
      → Even place bit
  by_slot slot holds place bit even = then_is _ holds place bit (omega (arith, even))

  pub by_pages : bare step.after ≡ record (bare step.before) { pages = step.after.pages } → (place bit : ℕ)
      → EvenBetween place bit (pages_bit g step.before.pages place bit)
      (pages_bit g step.after.pages place bit)
      → Even place bit
  by_pages holds place bit even = then_is _ holds place bit (omega (arith, even))

  pub by_section : (section : Bool) → bare step.after ≡ record (bare step.before) { section = section }
      → (place bit : ℕ)
      → EvenBetween place bit (section_bit g step.caller step.before.section place bit)
      (section_bit g step.caller section place bit)
      → Even place bit
  by_section section holds place bit even = then_is _ holds place bit (omega (arith, even))

  -- or it holds its slot and its pages no more, which have no such bit
  pub by_none : bare step.after ≡ record (bare step.before) { slot = None; pages = [] } → (place bit : ℕ)
      → turned place bit step.did ≡ 0 → slot_bit g step.before.slot place bit ≡ 0
      → pages_bit g step.before.pages place bit ≡ 0 → Even place bit
  by_none holds place bit turns slot pages = then_is _ holds place bit (omega (arith, turns, slot, pages))

  -- ---- what stays

  -- its node
  pub own_node : step.after.node ≡ step.before.node → (place bit : ℕ)
      → IsOfOwnNode g words_at step.caller call step.before place
      → MayBeLeft place bit
  own_node same place bit own =
      inr (inl (record { node = own.node; has = same ∙ own.has; word = own.word; there = own.there }))

  pub own_slot : step.after.slot ≡ step.before.slot → (place bit : ℕ)
      → IsOfOwnSlot g words_at step.caller call step.before place
      → MayBeLeft place bit
  own_slot same place bit own = inr (inr (record {
    slot = own.slot;
    has = same ∙ own.has;
    word = own.word;
    of_table = own.of_table;
    there = own.there;
  }))

  -- each page is one that it had and that isn't given back, or that it takes
  abbrev pub StillHad : ℕ → Type 0
  StillHad page = StillHas g words_at step.caller call step.steps step.did step.before page

  abbrev pub HadOrTakes : Type 0
  HadOrTakes =
      (page : ℕ) → In page step.after.pages
      → StillHad page ⊎ Takes g words_at step.caller call step.steps step.did page

  -- an operation on another word than those of the map gives no page back
  pub off_map : ((page : ℕ) → page < g.pages → op_place step.did.op ≡ page_place g page → ⊥)
      → (page : ℕ) → In page step.before.pages → StillHad page
  off_map apart page i =
      record { has = i; stays = λ gives. apart page (step.so_far.pages_in page i) gives.place }

  -- the bit of a page that the call has is clear, so one that leaves it doesn't give the page back
  pub leaves_bit : (page : ℕ) → In page step.before.pages
      → (op_place step.did.op ≡ page_place g page
      → bit_at (word_after step.did.old step.did.op) (page % 64) ≡ bit_at step.did.old (page % 64))
      → StillHad page
  leaves_bit page i same = record {
    has = i;
    stays = λ gives.
        let there : step.did.old ≡ mem env mix step.words (PageMap (page / 64)) =
        step.found ∙ ap (λ o. old_of step.words (Store o 0)) gives.place in
        let set : bit_at (mem env mix step.words (PageMap (page / 64))) (page % 64) ≡ 1 =
        ap (λ w. bit_at w (page % 64)) (sym there) ∙ sym (same gives.place) ∙ gives.sets in
        let free = (step.whole.pages.bits page (step.so_far.pages_in page i)).0 set in
        let held = step.may.mine page i in
        let both_ways = sym held ∙ free in
        cc;
  }

  -- where the pages are the same none is given back
  pub same_had : {then : Holding} → bare step.after ≡ then → then.pages ≡ step.before.pages
      → ((page : ℕ) → In page step.before.pages → StillHad page) → HadOrTakes
  same_had holds same still page i =
      inl (still page (subst (In page) (ap (λ (x : Holding). x.pages) holds ∙ same) i))

  -- so do both
  pub with_same : {then : Holding} → bare step.after ≡ then → then.node ≡ step.before.node
      → then.slot ≡ step.before.slot
      → HadOrTakes → ((place bit : ℕ) → bit < 64 → MayBeLeft place bit ⊎ Even place bit) → Kept
  with_same holds same_node same_slot had turn =
      let node_same = ap (λ (x : Holding). x.node) holds ∙ same_node in
      let slot_same = ap (λ (x : Holding). x.slot) holds ∙ same_slot in
      record {
        own = λ place bit own. elim own [
          | inl node ↦ own_node node_same place bit node
          | inr slot ↦ own_slot slot_same place bit slot
        ];
        turn = turn;
        node_in = λ node is. step.so_far.node_in node (sym node_same ∙ is);
        slot_in = λ slot is. step.so_far.slot_in slot (sym slot_same ∙ is);
        had = had;
      }
