-- An operation that changes a word which says something of a table is on a slot that the call has, or attaches a table. One that changes
-- which table is the current one makes it the next. One that changes whether a slot is free takes it, gives it back or retires it. And one
-- that changes the work lock takes or gives back that.
--
-- Each move is one of a few kinds, by the word on which its operation is (`kind_of_move`). The four facts are told of these.
use Rattle.std.proofs.Common.{◌≡◌, ◌≢◌, ◌⊎◌, ℕ, ◌+◌, ◌<◌, ◌≤◌, Some, None, inl, inr, refl, sym, ap, ◌∙◌, subst, arith, true, false}
use Rattle.std.specs.Prelude.{suc, ◌-◌, List, length}
use Rattle.std.proofs.lemmas.Nat.Bits.{same_from_bits_below}
use Rattle.rht_words.specs.declared.op.Op.TheVariants.{Store}
use Rattle.rht_words.specs.Links.{table_of, slot_of}
use Rattle.rht_words.specs.Planned.{IsWord}
use Rattle.rht_words.specs.declared.env.Env.{Env}
use Rattle.rht_words.specs.declared.geometry.Geometry.{Geometry}
use Rattle.rht_words.specs.Operations.{op_place, old_of, word_after, applied}
use Rattle.rht_words.specs.Places.{SlotWord, ShapeWord, SeedWord, FutureWord, SerialWord, StateWord, LoadedSection, CurrentTable, WorkLock, Slot, place_of, nodes_at, pages_at, words_in}
use Rattle.rht_words.specs.TableWords.{IsTableWord}
use Rattle.rht_words.proofs.Memory.{Memory, is_write}
use Rattle.rht_words.proofs.PlacesApart.{parts_in_order}
use Rattle.rht_core.specs.Traces.{Did, performed_of}
use Rattle.rht_core.specs.ResizeCauses.{Attaches}
use Rattle.rht_core.specs.Attached.{ChangesTable, ChangesKept, ChangesCurrent, MovesOn, ChangesState, ChangesWorkLock}
use Rattle.rht_core.specs.WorkCauses.{TakesWorkLock}
use Rattle.rht_ghost.proofs.Theory.Ghosts.{Ghost, Retiring}
use Rattle.rht_ghost.proofs.Theory.Wholes.{Whole, force-there}
use Rattle.rht_ghost.proofs.Theory.Departures.{CanPublish, published, CanRetire}
use Rattle.rht_ghost.proofs.Theory.Steps as steps
use Rattle.rht_ghost.proofs.Theory.Steps.{mem, ghost_after, LeavesBits, DoesPublish, Holding, Does, ReadyFor, DoesQuiet, IsAside, Move, Quiet, TakesNode, GivesNode, TakesLock, DropsLock, Raises, Links, Lowers, Rebinds, LinksBehind, Arms, TakesSlot, GivesSlot, TakesPages, GivesPages, Enters, TakesWork, GivesWork, BeginsMoving, TakesSecond, Leaves, Arrives, CutsOff, Publishes, Retires, KeepsWord, Settles, Withdraws, TakesBack, Opens, Closes, ReturnsNode, IsOnOwnSlot, DoesAttach, DoesTakeSlot, DoesGiveSlot, DoesRetire, DoesKeepWord, DoesTakeWork, DoesGiveWork}
use Rattle.rht_core.proofs.Meaning.TablesInForce.{current_slot, future-leads, current_on}
use Rattle.rht_nest.specs.MakeLaws.{slot_taking, TakesSlot as TakesSlotNow}
use Rattle.rht_ghost.proofs.Theory.Readiness.{IsAttaching}
use Rattle.std.specs.Int.{bit_at}

-- ---- places that are no such words

module _ (g : Geometry) (slot : ℕ) (slot_in : slot < 8) where
  abbrev pub IsWordHere : ℕ → Type 0
  IsWordHere place = (word : SlotWord) × IsTableWord word × (place ≡ place_of g (Slot slot word))

  pub low_far : (place : ℕ) → place < 24 → IsWordHere place → ⊥
  low_far place low (word, of, at) = absurd (omega (arith, low, at))

  pub high_far : (place : ℕ) → 280 ≤ place → IsWordHere place → ⊥
  high_far place high (ShapeWord, of, at) = absurd (omega (arith, high, at, slot_in))
  high_far place high (SeedWord, of, at) = absurd (omega (arith, high, at, slot_in))
  high_far place high (FutureWord, of, at) = absurd (omega (arith, high, at, slot_in))
  high_far place high (SerialWord, of, at) = absurd (omega (arith, high, at, slot_in))
  high_far place high (StateWord, of, at) = absurd of
  high_far place high (LoadedSection caller, of, at) = absurd of

  pub state_far : (other : ℕ) → IsWordHere (place_of g (Slot other StateWord)) → ⊥
  state_far other (ShapeWord, of, at) = absurd (omega (arith, at))
  state_far other (SeedWord, of, at) = absurd (omega (arith, at))
  state_far other (FutureWord, of, at) = absurd (omega (arith, at))
  state_far other (SerialWord, of, at) = absurd (omega (arith, at))
  state_far other (StateWord, of, at) = absurd of
  state_far other (LoadedSection caller, of, at) = absurd of

  pub kept_far : (other caller : ℕ) → caller < 16 → IsWordHere (place_of g (Slot other (LoadedSection caller))) → ⊥
  kept_far other caller few (ShapeWord, of, at) = absurd (omega (arith, at, few))
  kept_far other caller few (SeedWord, of, at) = absurd (omega (arith, at, few))
  kept_far other caller few (FutureWord, of, at) = absurd (omega (arith, at, few))
  kept_far other caller few (SerialWord, of, at) = absurd (omega (arith, at, few))
  kept_far other caller few (StateWord, of, at) = absurd of
  kept_far other caller few (LoadedSection caller', of, at) = absurd of

  -- two words of tables at one place are those of one slot
  pub one_slot : (other : ℕ) (there word : SlotWord) → IsTableWord there → IsTableWord word
      → place_of g (Slot other there) ≡ place_of g (Slot slot word) → other ≡ slot
  one_slot other there word of_there of at =
      let few = offset there of_there in
      let less = offset word of in
      omega (arith, at, few, less)
    where
      offset : (w : SlotWord) → IsTableWord w → place_of g (Slot 0 w) < 28
      offset ShapeWord is = omega arith
      offset SeedWord is = omega arith
      offset FutureWord is = omega arith
      offset SerialWord is = omega arith
      offset StateWord is = absurd is
      offset (LoadedSection caller) is = absurd is

-- ---- words of 64 bits

-- the word that the operation found has 64 bits, and so has the one that it leaves
pub record FitBefore (did : Did) : Type 0 where
  pub found : IsWord did.old
  pub left : IsWord (word_after did.old did.op)

-- so where it leaves each bit it leaves the word
same_word : (did : Did) → FitBefore did → LeavesBits did.op did.old → word_after did.old did.op ≡ did.old
same_word did fits leaves = same_from_bits_below 64 (word_after did.old did.op) did.old fits.left fits.found leaves

-- ---- of which kind a move is

-- The operation leaves each bit. Or it is on a word that is neither a slot's, nor that of the current table, nor the work lock; or on one that
-- says something of the table in the slot that the call has. Or it attaches a table, takes a slot, gives it back or retires it, keeps a section
-- word in it, publishes the next table, or takes the work lock or gives it back.
module _ (env : Env) (mix : ℕ → ℕ → ℕ → ℕ) (c : ℕ) (M : Memory) (G : Ghost) (did : Did) (before after : Holding) where
  abbrev g : Geometry
  g = env.geometry

  pub data IsOfKind : Move → Type 0 where
    leaves : (move : Move) → LeavesBits did.op did.old → IsOfKind move
    elsewhere : (move : Move) → 1 < op_place did.op → (op_place did.op < 24) ⊎ (280 ≤ op_place did.op) → IsOfKind move
    on_own : (move : Move) → IsOnOwnSlot env.geometry did.op before → IsOfKind move
    attaching : (slot shape seed serial : ℕ) → IsAttaching env mix c slot shape seed serial M G
        → DoesAttach env.geometry slot did.op did.old before (steps.bare after) → IsOfKind (steps.Attaches slot shape seed serial)
    taking : (slot : ℕ) → DoesTakeSlot env.geometry slot did.op did.old before (steps.bare after) → IsOfKind (TakesSlot slot)
    giving : (slot : ℕ) → DoesGiveSlot env.geometry slot did.op before (steps.bare after) → IsOfKind (GivesSlot slot)
    retiring : (slot : ℕ) → CanRetire env mix c slot G → DoesRetire env.geometry slot did.op before (steps.bare after)
        → IsOfKind (Retires slot)
    keeping : (move : Move) (slot caller word table : ℕ) → G.slot slot ≡ Retiring table
        → DoesKeepWord env.geometry slot caller word did.op before (steps.bare after) → IsOfKind move
    publishing : CanPublish env mix c G → DoesPublish env.geometry did.op before (steps.bare after) → IsOfKind Publishes
    taking_work : DoesTakeWork env.geometry did.op did.old before (steps.bare after) → IsOfKind TakesWork
    giving_work : DoesGiveWork env.geometry did.op before (steps.bare after) → IsOfKind GivesWork

  -- it is on this place, which comes before the slots, or behind them
  low : (move : Move) (place : ℕ) → op_place did.op ≡ place → 1 < place → place < 24 → IsOfKind move
  low move place on some is = elsewhere move (omega (arith, on, some)) (inl (omega (arith, on, is)))

  high : (move : Move) (place : ℕ) → op_place did.op ≡ place → 280 ≤ place → IsOfKind move
  high move place on is = elsewhere move (omega (arith, on, is)) (inr (omega (arith, on, is)))

  nodes : (move : Move) (place : ℕ) → op_place did.op ≡ place → nodes_at g ≤ place → IsOfKind move
  nodes move place on is =
      let order = parts_in_order g in high move place on (omega (arith, is, order.nodes, order.page_map))

  pages : (move : Move) (index : ℕ) → op_place did.op ≡ pages_at g + index → IsOfKind move
  pages move index on =
      let order = parts_in_order g in
      high move (pages_at g + index) on (omega (arith, order.pages, order.nodes, order.page_map))

  quiet : (move : Move) → DoesQuiet g did.op did.old before (steps.bare after) → IsOfKind move
  quiet move does = elim does.leaves [
    | inl all ↦ leaves move all
    | inr (inl own) ↦ nodes move _ own.place (omega arith)
    | inr (inr (inl own)) ↦ on_own move own
    | inr (inr (inr serial)) ↦ low move 3 (ap op_place serial) (omega arith) (omega arith)
  ]

  kind_of_move : (move : Move) → ReadyFor env mix c M G move → Does env mix move did.op did.old before after → IsOfKind move
  kind_of_move Quiet ready does = quiet Quiet does
  kind_of_move (Arms j) ready does = quiet (Arms j) does
  kind_of_move (TakesNode n) ready does = high _ _ does.taking.clears.place (omega arith)
  kind_of_move (GivesNode n) ready does = high _ _ (ap op_place does.giving) (omega arith)
  kind_of_move (ReturnsNode n) ready does = high _ _ (ap op_place does.giving) (omega arith)
  kind_of_move (TakesLock j) ready does = pages _ j does.on
  kind_of_move (DropsLock j) ready does = pages _ j does.on
  kind_of_move Raises ready does = low _ 2 (ap op_place does.adds) (omega arith) (omega arith)
  kind_of_move (Links n port j) ready does = pages _ j does.on
  kind_of_move Lowers ready does = low _ 2 (ap op_place does.subtracts) (omega arith) (omega arith)
  kind_of_move (Rebinds change) ready does = nodes _ (op_place did.op) refl does.behind_maps
  kind_of_move (LinksBehind n) ready does = nodes _ _ does.on (omega arith)
  kind_of_move (TakesSlot s) ready does = taking s does
  kind_of_move (GivesSlot s) ready does = giving s does
  kind_of_move (TakesPages index bits) ready does =
      let order = parts_in_order g in high _ _ does.clears.on (omega (arith, order.page_map))
  kind_of_move (GivesPages index bits) ready does =
      let order = parts_in_order g in high _ _ does.sets.on (omega (arith, order.page_map))
  kind_of_move (steps.Attaches slot shape seed serial) ready does = attaching slot shape seed serial ready does
  kind_of_move (Enters j p) ready does = pages _ j (ap op_place does.entering)
  kind_of_move TakesWork ready does = taking_work does
  kind_of_move GivesWork ready does = giving_work does
  kind_of_move BeginsMoving ready does = leaves _ (λ bit low_bit. ap (λ w. bit_at w bit) does.leaves)
  kind_of_move (TakesSecond j) ready does = pages _ j does.on
  kind_of_move (Leaves j i entry nodes_there) ready does = nodes _ _ does.on (omega arith)
  kind_of_move (Arrives j i entry) ready does = pages _ i does.on
  kind_of_move (CutsOff j entry None) ready does = pages _ j does.on
  kind_of_move (CutsOff j entry (Some b)) ready does = nodes _ _ does.on (omega arith)
  kind_of_move Publishes ready does = publishing ready does
  kind_of_move (Retires s) ready does = retiring s ready does
  kind_of_move (KeepsWord s d word) ready does = keeping _ s d word ready.table ready.retiring does
  kind_of_move (Settles s d word) ready does = keeping _ s d word ready.table ready.retiring does
  kind_of_move (Withdraws j p) ready does = pages _ j (ap op_place does.clearing)
  kind_of_move (TakesBack s index bits) ready does =
      let order = parts_in_order g in high _ _ does.sets.on (omega (arith, order.page_map))
  kind_of_move (Opens d) ready does = low _ (8 + d) (ap op_place does.turns) (omega arith) (omega (arith, does.within))
  kind_of_move (Closes d) ready does = low _ (8 + d) (ap op_place does.turns) (omega arith) (omega (arith, does.within))

  -- ---- the words that say something of a table

  -- it attaches a table behind that of this slot, from a slot that the call has
  pub record AttachesHere (slot : ℕ) : Type 0 where
    pub made_slot : ℕ
    pub attaches : Attaches env.geometry slot made_slot did
    pub has : before.slot ≡ Some made_slot

  module _ (slot : ℕ) (fits : FitBefore did) (changes : ChangesTable g slot did) where
    abbrev Here : Type 0
    Here = (before.slot ≡ Some slot) ⊎ AttachesHere slot

    far_state : (other : ℕ) → op_place did.op ≡ place_of g (Slot other StateWord) → Here
    far_state other on = absurd (state_far g slot changes.slot_in other (changes.word, changes.of_table, sym on ∙ changes.there))

    by_kind : (move : Move) → IsOfKind move → Here
    by_kind move (leaves _ all) = absurd (changes.other (same_word did fits all))
    by_kind move (elsewhere _ some (inl under)) =
        absurd (low_far g slot changes.slot_in (op_place did.op) under (changes.word, changes.of_table, changes.there))
    by_kind move (elsewhere _ some (inr over)) =
        absurd (high_far g slot changes.slot_in (op_place did.op) over (changes.word, changes.of_table, changes.there))
    by_kind move (on_own _ own) =
        let same : own.slot ≡ slot =
        one_slot g slot changes.slot_in own.slot own.word changes.word own.of_table changes.of_table (sym own.place ∙ changes.there) in
        inl (own.has ∙ ap Some same)
    by_kind move (attaching made shape seed serial ready does) =
        let same : does.last ≡ slot =
        one_slot g slot changes.slot_in does.last FutureWord changes.word tt changes.of_table
        (sym (ap op_place does.attaching) ∙ changes.there) in
        inr (record {
          made_slot = made;
          attaches = subst (λ last. Attaches g last made did) same (record {
            table_in = does.within;
            slot_in = ready.made.has.within;
            exchanges = does.attaching;
            found = does.found;
          });
          has = does.has;
        })
    by_kind move (taking s does) = far_state s (ap op_place does.taking)
    by_kind move (giving s does) = far_state s (ap op_place does.giving)
    by_kind move (retiring s ready does) = far_state s (ap op_place does.retiring)
    by_kind move (keeping _ s d word τ retired does) =
        absurd (kept_far g slot changes.slot_in s d does.caller_in
        (changes.word, changes.of_table, sym (ap op_place does.keeping) ∙ changes.there))
    by_kind move (publishing ready does) =
        absurd (low_far g slot changes.slot_in 0 (omega arith) (changes.word, changes.of_table, sym does.on ∙ changes.there))
    by_kind move (taking_work does) =
        absurd (low_far g slot changes.slot_in 1 (omega arith) (changes.word, changes.of_table, sym (ap op_place does.taking) ∙ changes.there))
    by_kind move (giving_work does) =
        absurd (low_far g slot changes.slot_in 1 (omega arith) (changes.word, changes.of_table, sym (ap op_place does.giving) ∙ changes.there))

    pub by_move : (move : Move) → ReadyFor env mix c M G move → Does env mix move did.op did.old before after → Here
    by_move move ready does = by_kind move (kind_of_move move ready does)

  -- ---- the words that say whether slots are free

  -- the operation takes the slot, which the call has then; or gives back one that it has; or retires the slot's table
  pub record TakesHere (slot : ℕ) : Type 0 where
    pub takes : TakesSlotNow env.geometry slot (performed_of did)
    pub has : after.slot ≡ Some slot

  pub record GivesHere (slot : ℕ) : Type 0 where
    pub gives : did.op ≡ Store (place_of env.geometry (Slot slot StateWord)) 0
    pub has : before.slot ≡ Some slot

  pub record RetiresHere (slot : ℕ) : Type 0 where
    pub stores : did.op ≡ Store (place_of env.geometry (Slot slot StateWord)) 2
    pub moves : before.moving ≡ true
    pub can : CanRetire env mix c slot G

  abbrev pub StateHere : ℕ → Type 0
  StateHere slot = TakesHere slot ⊎ GivesHere slot ⊎ RetiresHere slot

  module _ (slot : ℕ) (fits : FitBefore did) (changes : ChangesState g slot did) where
    -- the slot of the operation is this one
    this_slot : (s : ℕ) → op_place did.op ≡ place_of g (Slot s StateWord) → s ≡ slot
    this_slot s on = let at = sym on ∙ changes.there in omega (arith, at)

    state_by_kind : (move : Move) → IsOfKind move → StateHere slot
    state_by_kind move (leaves _ all) = absurd (changes.other (same_word did fits all))
    state_by_kind move (elsewhere _ some (inl under)) = absurd (let at = changes.there in omega (arith, at, under))
    state_by_kind move (elsewhere _ some (inr over)) =
        absurd (let at = changes.there in let few = changes.slot_in in omega (arith, at, over, few))
    state_by_kind move (on_own _ own) =
        absurd (state_far g own.slot own.within slot (own.word, own.of_table, sym changes.there ∙ own.place))
    state_by_kind move (attaching made shape seed serial ready does) =
        absurd (state_far g does.last does.within slot (FutureWord, tt, sym changes.there ∙ ap op_place does.attaching))
    state_by_kind move (taking s does) =
        let same = this_slot s (ap op_place does.taking) in
        inl (record {
          takes = record { taking = subst (λ x. did.op ≡ slot_taking g x) same does.taking; free = does.free };
          has = ap (λ (x : Holding). x.slot) does.holds ∙ ap Some same;
        })
    state_by_kind move (giving s does) =
        let same = this_slot s (ap op_place does.giving) in
        inr (inl (record {
          gives = subst (λ x. did.op ≡ Store (place_of g (Slot x StateWord)) 0) same does.giving;
          has = does.has ∙ ap Some same;
        }))
    state_by_kind move (retiring s ready does) =
        let same = this_slot s (ap op_place does.retiring) in
        inr (inr (record {
          stores = subst (λ x. did.op ≡ Store (place_of g (Slot x StateWord)) 2) same does.retiring;
          moves = does.moves;
          can = subst (λ x. CanRetire env mix c x G) same ready;
        }))
    state_by_kind move (keeping _ s d word τ retired does) =
        absurd (let at = sym (ap op_place does.keeping) ∙ changes.there in let few = does.caller_in in omega (arith, at, few))
    state_by_kind move (publishing ready does) = absurd (let at = sym does.on ∙ changes.there in omega (arith, at))
    state_by_kind move (taking_work does) = absurd (let at = sym (ap op_place does.taking) ∙ changes.there in omega (arith, at))
    state_by_kind move (giving_work does) = absurd (let at = sym (ap op_place does.giving) ∙ changes.there in omega (arith, at))

    pub state_by_move : (move : Move) → ReadyFor env mix c M G move → Does env mix move did.op did.old before after → StateHere slot
    state_by_move move ready does = state_by_kind move (kind_of_move move ready does)

  -- ---- the section words that are kept in slots

  -- the call moves tables, and keeps a word in the slot of one that is being retired
  pub record KeepsHere (slot : ℕ) : Type 0 where
    pub moves : before.moving ≡ true
    pub table : ℕ
    pub retiring : G.slot slot ≡ Retiring table
    pub word : ℕ
    pub caller : ℕ
    pub caller_in : caller < 16
    pub stores : did.op ≡ Store (place_of env.geometry (Slot slot (LoadedSection caller))) word

  module _ (slot caller : ℕ) (fits : FitBefore did) (changes : ChangesKept g slot caller did) where
    kept_by_kind : (move : Move) → IsOfKind move → KeepsHere slot
    kept_by_kind move (leaves _ all) = absurd (changes.other (same_word did fits all))
    kept_by_kind move (elsewhere _ some (inl under)) = absurd (let at = changes.there in omega (arith, at, under))
    kept_by_kind move (elsewhere _ some (inr over)) =
        absurd (let at = changes.there in let few = changes.slot_in in let low = changes.caller_in in omega (arith, at, over, few, low))
    kept_by_kind move (on_own _ own) =
        absurd (kept_far g own.slot own.within slot caller changes.caller_in (own.word, own.of_table, sym changes.there ∙ own.place))
    kept_by_kind move (attaching made shape seed serial ready does) =
        absurd (kept_far g does.last does.within slot caller changes.caller_in
        (FutureWord, tt, sym changes.there ∙ ap op_place does.attaching))
    kept_by_kind move (taking s does) =
        absurd (let at = sym (ap op_place does.taking) ∙ changes.there in let low = changes.caller_in in omega (arith, at, low))
    kept_by_kind move (giving s does) =
        absurd (let at = sym (ap op_place does.giving) ∙ changes.there in let low = changes.caller_in in omega (arith, at, low))
    kept_by_kind move (retiring s ready does) =
        absurd (let at = sym (ap op_place does.retiring) ∙ changes.there in let low = changes.caller_in in omega (arith, at, low))
    kept_by_kind move (keeping _ s d word τ retired does) =
        let at = sym (ap op_place does.keeping) ∙ changes.there in
        let low = changes.caller_in in
        let few = does.caller_in in
        let same : s ≡ slot = omega (arith, at, low, few) in
        record {
          moves = does.moves;
          table = τ;
          retiring = ap G.slot (sym same) ∙ retired;
          word = word;
          caller = d;
          caller_in = does.caller_in;
          stores = subst (λ x. did.op ≡ Store (place_of g (Slot x (LoadedSection d))) word) same does.keeping;
        }
    kept_by_kind move (publishing ready does) = absurd (let at = sym does.on ∙ changes.there in omega (arith, at))
    kept_by_kind move (taking_work does) = absurd (let at = sym (ap op_place does.taking) ∙ changes.there in omega (arith, at))
    kept_by_kind move (giving_work does) = absurd (let at = sym (ap op_place does.giving) ∙ changes.there in omega (arith, at))

    pub kept_by_move : (move : Move) → ReadyFor env mix c M G move → Does env mix move did.op did.old before after → KeepsHere slot
    kept_by_move move ready does = kept_by_kind move (kind_of_move move ready does)

-- ---- the work lock

module _ (env : Env) (mix : ℕ → ℕ → ℕ → ℕ) (c : ℕ) (M : Memory) (G : Ghost) (did : Did) (before after : Holding) where
  abbrev h : Geometry
  h = env.geometry

  -- the operation takes the work lock, which the call hadn't; or gives back the one that it had
  pub record TakesWorkHere : Type 0 where
    pub takes : TakesWorkLock env.geometry did
    pub idle : before.worker ≡ false
    pub has : after.worker ≡ true

  pub record GivesWorkHere : Type 0 where
    pub gives : did.op ≡ Store (place_of env.geometry WorkLock) 0
    pub had : before.worker ≡ true
    pub idle : after.worker ≡ false

  module _ (fits : FitBefore did) (changes : ChangesWorkLock h did) where
    off_lock : (place : ℕ) → op_place did.op ≡ place → place ≢ 1 → TakesWorkHere ⊎ GivesWorkHere
    off_lock place on other = absurd (let at : place ≡ 1 = sym on ∙ changes.there in other at)

    lock_by_kind : (move : Move) → IsOfKind env mix c M G did before after move → TakesWorkHere ⊎ GivesWorkHere
    lock_by_kind move (leaves _ all) = absurd (changes.other (same_word did fits all))
    lock_by_kind move (elsewhere _ some is) = off_lock (op_place did.op) refl (omega (arith, some))
    lock_by_kind move (on_own _ own) = off_lock _ own.place (omega arith)
    lock_by_kind move (attaching made shape seed serial ready does) = off_lock _ (ap op_place does.attaching) (omega arith)
    lock_by_kind move (taking s does) = off_lock _ (ap op_place does.taking) (omega arith)
    lock_by_kind move (giving s does) = off_lock _ (ap op_place does.giving) (omega arith)
    lock_by_kind move (retiring s ready does) = off_lock _ (ap op_place does.retiring) (omega arith)
    lock_by_kind move (keeping _ s d word τ retired does) = off_lock _ (ap op_place does.keeping) (omega arith)
    lock_by_kind move (publishing ready does) = off_lock _ does.on (omega arith)
    lock_by_kind move (taking_work does) = inl (record {
      takes = record { tries = does.taking; free = does.free };
      idle = does.idle;
      has = ap (λ (x : Holding). x.worker) does.holds;
    })
    lock_by_kind move (giving_work does) =
        inr (record { gives = does.giving; had = does.has; idle = ap (λ (x : Holding). x.worker) does.holds })

    pub lock_by_move : (move : Move) → ReadyFor env mix c M G move → Does env mix move did.op did.old before after
        → TakesWorkHere ⊎ GivesWorkHere
    lock_by_move move ready does = lock_by_kind move (kind_of_move env mix c M G did before after move ready does)

  -- who has it behind an operation had it before, or took it
  pub worker_by_move : (move : Move) → Does env mix move did.op did.old before after → after.worker ≡ true
      → (before.worker ≡ true) ⊎ TakesWorkLock h did
  worker_by_move TakesWork does has = inr (record { tries = does.taking; free = does.free })
  worker_by_move GivesWork does has =
      absurd (let none : after.worker ≡ false = ap (λ (x : Holding). x.worker) does.holds in let both = sym none ∙ has in cc)
  worker_by_move (Rebinds change) does has = inl (sym does.left_worker ∙ has)
  worker_by_move _ does has = inl (sym (ap (λ (x : Holding). x.worker) does.holds) ∙ has)

-- ---- the word of the current table

-- the call moves tables, and goes on to the next
pub record PublishesHere (env : Env) (words : List ℕ) (did : Did) (before : Holding) : Type 0 where
  pub moves : before.moving ≡ true
  pub on : MovesOn env.geometry words did

module _ (env : Env) (mix : ℕ → ℕ → ℕ → ℕ) (c : ℕ) (words : List ℕ) (G : Ghost) (did : Did) (before after : Holding)
    (whole : Whole env mix (mem env mix words) G) (all : length words ≡ words_in env.geometry) (found : did.old ≡ old_of words did.op)
    (fits : FitBefore did) (changes : ChangesCurrent env.geometry did) where
  abbrev Kind : Move → Type 0
  Kind = IsOfKind env mix c (mem env mix words) G did before after

  abbrev Publishing : Type 0
  Publishing = PublishesHere env words did before

  far : (place : ℕ) → op_place did.op ≡ place → 0 < place → Publishing
  far place on some = absurd (let at : place ≡ 0 = sym on ∙ changes.there in omega (arith, at, some))

  publishes : CanPublish env mix c G → Whole env mix (mem env mix (applied words did.op)) (published G)
      → DoesPublish env.geometry did.op before (steps.bare after) → Publishing
  publishes can then does =
      let followed = can.emptied.followed in
      let write = is_write env.geometry words CurrentTable did.op all tt does.on in
      let old : did.old ≡ mem env mix words CurrentTable = found ∙ ap (λ p. old_of words (Store p 0)) does.on in
      record {
        moves = does.moves;
        on = record {
          table = (G.table (G.current + 1)).slot;
          table_in = (whole.tables.each (G.current + 1) (force-there env mix whole.tables (G.current + 1) (omega arith) followed.more)).slot_in;
          becomes = ap (λ w. word_after w did.op) old ∙ sym write.same ∙ then.tables.current_is;
          followed =
              ap (λ s. slot_of (mem env mix words (Slot s FutureWord))) (ap table_of old ∙ current_slot env mix words G whole)
              ∙ future-leads env mix words G whole G.current (suc (G.attached - G.current - 2)) (let l = followed.more in omega (arith, l))
              (current_on env mix words G whole);
        };
      }

  current_by_kind : (move : Move) → Kind move → Whole env mix (mem env mix (applied words did.op)) (ghost_after env mix c move G)
      → Publishing
  current_by_kind move (leaves _ same) then = absurd (changes.other (same_word did fits same))
  current_by_kind move (elsewhere _ some is) then = far (op_place did.op) refl (omega (arith, some))
  current_by_kind move (on_own _ own) then = far _ own.place (omega arith)
  current_by_kind move (attaching made shape seed serial ready does) then = far _ (ap op_place does.attaching) (omega arith)
  current_by_kind move (taking s does) then = far _ (ap op_place does.taking) (omega arith)
  current_by_kind move (giving s does) then = far _ (ap op_place does.giving) (omega arith)
  current_by_kind move (retiring s ready does) then = far _ (ap op_place does.retiring) (omega arith)
  current_by_kind move (keeping _ s d word τ retired does) then = far _ (ap op_place does.keeping) (omega arith)
  current_by_kind move (publishing ready does) then = publishes ready then does
  current_by_kind move (taking_work does) then = far _ (ap op_place does.taking) (omega arith)
  current_by_kind move (giving_work does) then = far _ (ap op_place does.giving) (omega arith)

  pub current_by_move : (move : Move) → ReadyFor env mix c (mem env mix words) G move
      → Whole env mix (mem env mix (applied words did.op)) (ghost_after env mix c move G)
      → Does env mix move did.op did.old before after → Publishing
  current_by_move move ready then does =
      current_by_kind move (kind_of_move env mix c (mem env mix words) G did before after move ready does) then
