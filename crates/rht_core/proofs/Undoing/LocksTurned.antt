-- What an operation does to locks: it turns the lowest bit of the work lock, or of a page's word, just where the caller holds this lock
-- behind it and didn't before, or the other way round; but for an entry at which it enters a page, or which it clears in giving a table back.
use Rattle.std.proofs.Common.{◌≡◌, ◌≢◌, ◌⊎◌, ℕ, ◌+◌, ◌*◌, ◌/◌, ◌%◌, ◌<◌, ◌≤◌, ◌==◌, ◌&&◌, true, false, List, [], length, Option, Some, None, refl, sym, ap, ◌∙◌, subst, inl, inr, arith}
use Rattle.std.specs.Int.{bit_at}
use Rattle.std.proofs.lemmas.Bool.{cases_eq, eq-eqb}
use Rattle.std.proofs.lemmas.Nat.Bits.{bit_at_lowest}
use Rattle.rht_words.specs.declared.env.Env.{Env}
use Rattle.rht_words.specs.declared.geometry.Geometry.{Geometry}
use Rattle.rht_words.specs.declared.op.Op.TheVariants.{Store, Exchange}
use Rattle.rht_words.specs.Operations.{op_place, old_of, word_after, applied}
use Rattle.rht_words.specs.Places.{WorkLock, Section, Slot, SlotWord, FutureWord, StateWord, LoadedSection, PageMap, PageWord, Node, NodeWord, ChainLink, nodes_at, pages_at, place_of, words_in}
use Rattle.rht_words.specs.TableWords.{IsTableWord}
use Rattle.rht_words.specs.Members.{In}
use Rattle.rht_words.proofs.Members.{in-middle}
use Rattle.rht_words.proofs.Memory.{is_write}
use Rattle.rht_words.proofs.PlacesApart.{parts_in_order}
use Rattle.rht_arena.specs.Laws.{map_place}
use Rattle.rht_arena.specs.RunLaws.{page_place}
use Rattle.rht_core.specs.Traces.{Did}
use Rattle.rht_core.specs.Refused.{turned}
use Rattle.rht_ghost.proofs.Theory.Ghosts.{put-same, Ghost, PageOwner, PageFree, PageHeld, PageOf, lock_bit, has_bit, is_entry}
use Rattle.rht_ghost.proofs.Theory.Wholes.{place_at, Whole}
use Rattle.rht_ghost.proofs.Theory.Passed.{held-no_entry}
use Rattle.rht_ghost.proofs.Theory.Readiness.{Change, changed, linked, linked_bucket, IsRebinding, ArePagesOf, IsEntering}
use Rattle.rht_ghost.proofs.Theory.Departures.{arrived, cut_off, cut_by}
use Rattle.rht_ghost.proofs.Theory.Steps.{bare, Holding, mem, IsAside, DoesQuiet, DoesTakeLock, DoesDropLock, DoesTakeSecond, DoesTakeWork, DoesGiveWork, DoesRebind, DoesEnter, Does, ReadyFor, ghost_after, Move, Quiet, TakesNode, GivesNode, TakesLock, DropsLock, Raises, Links, Lowers, Rebinds, LinksBehind, Arms, TakesSlot, GivesSlot, TakesPages, GivesPages, Attaches, Enters, TakesWork, GivesWork, BeginsMoving, TakesSecond, Leaves, Arrives, CutsOff, Publishes, Retires, KeepsWord, Settles, Withdraws, TakesBack, Opens, Closes, ReturnsNode, DoesKeepWord}
use Rattle.rht_ghost.proofs.Moves.Relinking.{last_in}
use Rattle.rht_ghost.proofs.Pieces.Rebounds.{node_before_pages}
use Rattle.rht_core.proofs.Undoing.TurnedBits.{one_bit, one_bit-here, one_bit-far, turned-far, turned-here, turned-none, turned-same, turned-one, sets_lowest, clears_lowest, locked_bit, work_bit}
use Rattle.rht_core.proofs.Undoing.GoingBack.{unturned}

module _ (g : Geometry) where
  -- the place is that of the work lock, or of a word of a page
  abbrev pub IsLockPlace : ℕ → Type 0
  IsLockPlace place = (place ≡ place_of g WorkLock) ⊎ ((index : ℕ) × (index < 64 * g.pages) × (place ≡ place_of g (PageWord index)))

  -- the locks that a call holds, at a place
  abbrev pub lock_bits : Holding → ℕ → ℕ
  lock_bits h place = locked_bit g h.lock place 0 + locked_bit g h.second place 0 + work_bit g h.worker place 0

  -- ---- places that are none of these

  pub record IsOff (p : ℕ) : Type 0 where
    pub not_work : p ≢ 1
    pub before : p < pages_at g

  pub off-far : (p place : ℕ) → IsOff p → IsLockPlace place → p ≢ place
  off-far p place off (inl work) at = off.not_work (at ∙ work)
  off-far p place off (inr (index, low, is)) at = let before = off.before in absurd (omega (arith, before, at, is))

  pub behind_maps : (p : ℕ) → nodes_at g ≤ p → p < pages_at g → IsOff p
  behind_maps p from below =
      let order = parts_in_order g in
      record { not_work = λ e. absurd (omega (arith, e, from, order.nodes, order.page_map)); before = below }

  pub node-off : (node : ℕ) (word : NodeWord) → node < g.nodes → IsOff (place_of g (Node node word))
  node-off node word among = behind_maps (place_of g (Node node word)) (omega arith) (node_before_pages g node word among)

  below_slots : (p : ℕ) → 24 ≤ p → p < 280 → IsOff p
  below_slots p from below =
      let order = parts_in_order g in
      record { not_work = λ e. absurd (omega (arith, e, from)); before = omega (arith, below, order.pages, order.nodes, order.page_map) }

  pub slot-off : (slot : ℕ) (word : SlotWord) → slot < 8 → IsTableWord word ⊎ (word ≡ StateWord)
      → IsOff (place_of g (Slot slot word))
  slot-off slot (LoadedSection caller) low is = elim is [ inl of_table ↦ absurd of_table | inr state ↦ absurd (cc) ]
  slot-off slot _ low is = below_slots _ (omega arith) (omega (arith, low))

  pub first-off : (p : ℕ) → p ≢ 1 → p < 24 → IsOff p
  first-off p not_work low =
      let order = parts_in_order g in
      record { not_work = not_work; before = omega (arith, low, order.pages, order.nodes, order.page_map) }

  pub section-off : (caller : ℕ) → caller < 16 → IsOff (place_of g (Section caller))
  section-off caller low = first-off _ (λ e. absurd (omega (arith, e))) (omega (arith, low))

  pub node_map-off : (node : ℕ) → node < g.nodes → IsOff (map_place g node)
  node_map-off node within =
      let order = parts_in_order g in
      record { not_work = λ e. absurd (omega (arith, e)); before = omega (arith, within, order.pages, order.nodes, order.page_map) }

  pub page_map-off : (page : ℕ) → page < g.pages → IsOff (page_place g page)
  page_map-off page within =
      let order = parts_in_order g in
      record { not_work = λ e. absurd (omega (arith, e, order.page_map)); before = omega (arith, within, order.pages, order.nodes, order.page_map) }

-- ---- a word with a lock, and one without

low_bit : (word plain : ℕ) (holder : Option ℕ) → word ≡ plain + lock_bit holder → plain % 2 ≡ 0 → bit_at word 0 ≡ lock_bit holder
low_bit word plain None is even = omega (arith, is, even, bit_at_lowest word)
low_bit word plain (Some c) is even = omega (arith, is, even, bit_at_lowest word)

half_of : (a b : ℕ) {x y : ℕ} → a ≡ x → b ≡ y → (x + y) % 2 ≡ 1 → (a + b) % 2 ≡ 1
half_of a b first second odd = omega (arith, first, second, odd)

none_of : (a b x : ℕ) → a ≡ x → b ≡ x → (a + b) % 2 ≡ 0
none_of a b x first second = omega (arith, first, second)

held_some : (holder : Option ℕ) → lock_bit holder ≡ 1 → (c : ℕ) × (holder ≡ Some c)
held_some None is = absurd (cc)
held_some (Some c) is = (c, refl)

-- An operation of a caller, how it finds the words, and what the call holds before it and behind it.
pub record Turning (env : Env) (mix : ℕ → ℕ → ℕ → ℕ) : Type 0 where
  pub did : Did
  pub before : Holding
  pub after : Holding
  pub caller : ℕ
  pub words : List ℕ
  pub ghost : Ghost
  pub all : length words ≡ words_in env.geometry
  pub whole : Whole env mix (mem env mix words) ghost
  pub found : did.old ≡ old_of words did.op
  pub node_in : (node : ℕ) → before.node ≡ Some node → node < env.geometry.nodes

module _ {env : Env} {mix : ℕ → ℕ → ℕ → ℕ} (step : Turning env mix) where
  abbrev g : Geometry
  g = env.geometry

  -- the operation turns the bit where the call holds the lock before it or behind it, and not both
  abbrev pub TurnsEvenly : ℕ → Type 0
  TurnsEvenly place = (turned place 0 step.did + lock_bits g step.before place + lock_bits g step.after place) % 2 ≡ 0

  -- it enters a page at this place
  pub record EntersHere (place : ℕ) : Type 0 where
    pub entry : ℕ
    pub page : ℕ
    pub ready : IsEntering env mix step.caller entry page step.ghost
    pub does : DoesEnter g entry page step.did.op step.did.old step.before (bare step.after)
    pub here : place ≡ place_of g (PageWord entry)

  -- ---- the locks that it holds stay

  unturned_at : (place : ℕ) → turned place 0 step.did ≡ 0 → lock_bits g step.after place ≡ lock_bits g step.before place
      → TurnsEvenly place
  unturned_at place none same = unturned _ _ _ none same

  same_locks : {then : Holding} → bare step.after ≡ then
      → ((place : ℕ) → lock_bits g then place ≡ lock_bits g step.before place)
      → (place : ℕ) → lock_bits g step.after place ≡ lock_bits g step.before place
  same_locks holds same place = ap (λ (x : Holding). lock_bits g x place) holds ∙ same place

  off : {then : Holding} → IsOff g (op_place step.did.op) → bare step.after ≡ then
      → ((place : ℕ) → lock_bits g then place ≡ lock_bits g step.before place) → (place : ℕ) → IsLockPlace g place
      → TurnsEvenly place
  off away holds same place is =
      unturned_at place (turned-far place 0 step.did (off-far g (op_place step.did.op) place away is)) (same_locks holds same place)

  -- ---- the word of a page that is a bucket's

  module _ (G' : Ghost) (then : Whole env mix (mem env mix (applied step.words step.did.op)) G') (j : ℕ)
      (on : op_place step.did.op ≡ place_at env mix j) (plain : is_entry step.ghost j ≡ false) (plain_then : is_entry G' j ≡ false) where
    found_at : step.did.old ≡ mem env mix step.words (PageWord j)
    found_at = step.found ∙ ap (λ p. old_of step.words (Store p 0)) on

    bit_before : j < 64 * g.pages → bit_at step.did.old 0 ≡ lock_bit (step.ghost.bucket j).holder
    bit_before low =
        let locked = (step.whole.buckets j low plain).locked in
        low_bit step.did.old (step.ghost.bucket j).plain (step.ghost.bucket j).holder (found_at ∙ locked.word_is) locked.even

    bit_behind : j < 64 * g.pages → bit_at (word_after step.did.old step.did.op) 0 ≡ lock_bit (G'.bucket j).holder
    bit_behind low =
        let locked = (then.buckets j low plain_then).locked in
        let write = is_write g step.words (PageWord j) step.did.op step.all low on in
        low_bit (word_after step.did.old step.did.op) (G'.bucket j).plain (G'.bucket j).holder
        (ap (λ w. word_after w step.did.op) found_at ∙ sym write.same ∙ locked.word_is) locked.even

    -- the place is that of this word, or another one
    here_or_far : (place : ℕ) → IsLockPlace g place → ((place ≡ place_at env mix j) × (j < 64 * g.pages)) ⊎ (place_at env mix j ≢ place)
    here_or_far place (inl work) =
        let order = parts_in_order g in
        inr (λ e. absurd (omega (arith, e, work, order.pages, order.nodes, order.page_map)))
    here_or_far place (inr (index, low, is)) = elim (cases_eq j index) [
      | inl same ↦ inl (is ∙ ap (place_at env mix) (sym same), subst (λ i. i < 64 * g.pages) (sym same) low)
      | inr other ↦ inr (λ e. other (let both = e ∙ is in omega (arith, both)))
    ]

    -- its lock is dropped, or stays
    drops : lock_bit (step.ghost.bucket j).holder ≡ 1 → lock_bit (G'.bucket j).holder ≡ 0 → (place : ℕ) → IsLockPlace g place
        → turned place 0 step.did ≡ one_bit (place_at env mix j) 0 place 0
    drops had has place is = elim (here_or_far place is) [
      | inl here ↦
          turned-here place 0 step.did (on ∙ sym here.0)
          ∙ half_of _ _ (bit_before here.1 ∙ had) (bit_behind here.1 ∙ has) refl
          ∙ sym (one_bit-here (place_at env mix j) 0 place 0 (sym here.0) refl)
      | inr far ↦
          turned-far place 0 step.did (λ e. far (sym on ∙ e)) ∙ sym (one_bit-far (place_at env mix j) 0 place 0 far)
    ]

    stays : (G'.bucket j).holder ≡ (step.ghost.bucket j).holder → (place : ℕ) → IsLockPlace g place → turned place 0 step.did ≡ 0
    stays same place is = elim (here_or_far place is) [
      | inl here ↦
          turned-here place 0 step.did (on ∙ sym here.0)
          ∙ none_of _ _ _ (bit_before here.1) (bit_behind here.1 ∙ ap lock_bit same)
      | inr far ↦ turned-far place 0 step.did (λ e. far (sym on ∙ e))
    ]

  locked_plain : (j : ℕ) → lock_bit (step.ghost.bucket j).holder ≡ 1 → is_entry step.ghost j ≡ false
  locked_plain j is =
      let some = held_some (step.ghost.bucket j).holder is in
      held-no_entry env mix (mem env mix step.words) step.ghost step.whole j some.0 some.1

  -- ---- what others don't see

  quiet : DoesQuiet g step.did.op step.did.old step.before (bare step.after) → (place : ℕ) → IsLockPlace g place → TurnsEvenly place
  quiet does place is = elim does.leaves [
    | inl leaves ↦
        unturned_at place (turned-none place 0 step.did (omega arith) leaves) (same_locks does.holds (λ p. refl) place)
    | inr aside ↦ off (away aside) does.holds (λ p. refl) place is
  ]
    where
      away : IsAside g step.did.op step.before → IsOff g (op_place step.did.op)
      away (inl own) = subst (IsOff g) (sym own.place) (node-off g own.node own.word (step.node_in own.node own.has))
      away (inr (inl own)) = subst (IsOff g) (sym own.place) (slot-off g own.slot own.word own.within (inl own.of_table))
      away (inr (inr serial)) = subst (IsOff g) (sym (ap op_place serial)) (first-off g 3 (λ e. cc) (omega arith))

  -- ---- a lock is taken or dropped

  -- a lock that is turned is held from then on
  comes_first : (t l s w x p : ℕ) → t ≡ x → l ≡ 0 → p ≡ x + s + w → (t + (l + s + w) + p) % 2 ≡ 0
  comes_first t l s w x p turns none is = omega (arith, turns, none, is)

  comes_second : (t l s w x p : ℕ) → t ≡ x → s ≡ 0 → p ≡ l + x + w → (t + (l + s + w) + p) % 2 ≡ 0
  comes_second t l s w x p turns none is = omega (arith, turns, none, is)

  comes_worker : (t l s w x p : ℕ) → t ≡ x → w ≡ 0 → p ≡ l + s + x → (t + (l + s + w) + p) % 2 ≡ 0
  comes_worker t l s w x p turns none is = omega (arith, turns, none, is)

  -- or no more
  goes_first : (t l s w x p : ℕ) → t ≡ x → l ≡ x → p ≡ 0 + s + w → (t + (l + s + w) + p) % 2 ≡ 0
  goes_first t l s w x p turns had is = omega (arith, turns, had, is)

  goes_second : (t l s w x p : ℕ) → t ≡ x → s ≡ x → p ≡ l + 0 + w → (t + (l + s + w) + p) % 2 ≡ 0
  goes_second t l s w x p turns had is = omega (arith, turns, had, is)

  goes_worker : (t l s w x p : ℕ) → t ≡ x → w ≡ x → p ≡ l + s + 0 → (t + (l + s + w) + p) % 2 ≡ 0
  goes_worker t l s w x p turns had is = omega (arith, turns, had, is)

  abbrev locks_then : {then : Holding} → bare step.after ≡ then → (place : ℕ) → lock_bits g step.after place ≡ lock_bits g then place
  locks_then holds place = ap (λ (x : Holding). lock_bits g x place) holds

  take_lock : (j : ℕ) → DoesTakeLock g (place_at env mix j) step.did.op step.did.old step.before (bare step.after)
      → (place : ℕ) → TurnsEvenly place
  take_lock j does place =
      let there = place_at env mix j in
      comes_first _ _ _ _ _ _
      (turned-one there 0 place 0 step.did (omega arith) (sets_lowest there step.did does.on does.even does.locks))
      (ap (λ l. locked_bit g l place 0) does.none) (locks_then does.holds place)

  drop_lock : (j : ℕ) → DoesDropLock g (place_at env mix j) step.did.op step.did.old step.before (bare step.after)
      → (place : ℕ) → TurnsEvenly place
  drop_lock j does place =
      let there = place_at env mix j in
      goes_first _ _ _ _ _ _
      (turned-one there 0 place 0 step.did (omega arith) (clears_lowest there step.did does.on does.even does.unlocks))
      (ap (λ l. locked_bit g l place 0) does.has) (locks_then does.holds place)

  take_second : (j : ℕ) → DoesTakeSecond g (place_at env mix j) step.did.op step.did.old step.before (bare step.after)
      → (place : ℕ) → TurnsEvenly place
  take_second j does place =
      let there = place_at env mix j in
      comes_second _ _ _ _ _ _
      (turned-one there 0 place 0 step.did (omega arith) (sets_lowest there step.did does.on does.even does.locks))
      (ap (λ l. locked_bit g l place 0) does.none) (locks_then does.holds place)

  take_work : DoesTakeWork g step.did.op step.did.old step.before (bare step.after) → (place : ℕ) → TurnsEvenly place
  take_work does place =
      let there = place_of g WorkLock in
      comes_worker _ _ _ _ _ _
      (turned-one there 0 place 0 step.did (omega arith)
      (sets_lowest there step.did (ap op_place does.taking) (ap (λ w. w % 2) does.free)
      (ap (word_after step.did.old) does.taking ∙ ap (λ w. word_after w (Exchange there 0 1)) does.free
      ∙ sym (ap (λ w. w + 1) does.free))))
      (ap (λ b. work_bit g b place 0) does.idle) (locks_then does.holds place)

  give_work : step.ghost.worker ≡ Some step.caller → DoesGiveWork g step.did.op step.before (bare step.after)
      → (place : ℕ) → TurnsEvenly place
  give_work works does place =
      let there = place_of g WorkLock in
      let one : step.did.old ≡ 1 =
      step.found ∙ ap (old_of step.words) does.giving ∙ step.whole.slots.worker_is ∙ ap lock_bit works in
      let none : word_after step.did.old step.did.op ≡ 0 = ap (word_after step.did.old) does.giving in
      goes_worker _ _ _ _ _ _
      (turned-one there 0 place 0 step.did (omega arith)
      (clears_lowest there step.did (ap op_place does.giving) (ap (λ w. w % 2) none) (one ∙ sym (ap (λ w. w + 1) none))))
      (ap (λ b. work_bit g b place 0) does.has) (locks_then does.holds place)

  -- ---- by each move

  -- the lock of a bucket is dropped where the words behind the operation say so
  module _ (G' : Ghost) (then : Whole env mix (mem env mix (applied step.words step.did.op)) G') (j : ℕ)
      (on : op_place step.did.op ≡ place_at env mix j) (same : is_entry G' j ≡ is_entry step.ghost j)
      (had : lock_bit (step.ghost.bucket j).holder ≡ 1) where
    bucket_drops : (G'.bucket j).holder ≡ None → (place : ℕ) → IsLockPlace g place
        → turned place 0 step.did ≡ one_bit (place_at env mix j) 0 place 0
    bucket_drops none = drops G' then j on (locked_plain j had) (same ∙ locked_plain j had) had (ap lock_bit none)

    bucket_stays : (G'.bucket j).holder ≡ (step.ghost.bucket j).holder → (place : ℕ) → IsLockPlace g place
        → turned place 0 step.did ≡ 0
    bucket_stays kept = stays G' then j on (locked_plain j had) (same ∙ locked_plain j had) kept

  -- the pages of some bits of a word of the map: the lowest bit is turned only where it is that of a page that is there
  turn_pages : (index bits : ℕ) (owner : PageOwner) → ArePagesOf env mix step.ghost index bits owner
      → op_place step.did.op ≡ place_of g (PageMap index)
      → (bit_at bits 0 ≢ 1 → bit_at (word_after step.did.old step.did.op) 0 ≡ bit_at step.did.old 0)
      → {then : Holding} → bare step.after ≡ then → ((place : ℕ) → lock_bits g then place ≡ lock_bits g step.before place)
      → (place : ℕ) → IsLockPlace g place → TurnsEvenly place
  turn_pages index bits owner are on leaves holds same place is = elim (cases_eq (bit_at bits 0) 1) [
    | inl set ↦
        let page = 64 * index in
        let at : page / 64 ≡ index = omega arith in
        let low : page % 64 ≡ 0 = omega arith in
        let has : has_bit index bits page ≡ true =
        ap (λ i. (i == index) && (bit_at bits (page % 64) == 1)) at
        ∙ ap (λ t. t && (bit_at bits (page % 64) == 1)) (eq-eqb index index refl)
        ∙ ap (λ b. bit_at bits b == 1) low ∙ eq-eqb (bit_at bits 0) 1 set in
        off (subst (IsOff g) (sym (on ∙ ap (λ i. place_of g (PageMap i)) (sym at))) (page_map-off g page (are.among page has)))
        holds same place is
    | inr unset ↦ unturned_at place (turned-same place 0 step.did (λ here. leaves unset)) (same_locks holds same place)
  ]

  -- a store that changes bindings
  rebinds : (change : Change) → IsRebinding env mix change (mem env mix step.words) step.ghost
      → Whole env mix (mem env mix (applied step.words step.did.op)) (changed step.ghost step.caller change)
      → DoesRebind g change.raised (place_at env mix change.place) change.bucket.holder step.did.op step.before step.after
      → (place : ℕ) → IsLockPlace g place → TurnsEvenly place
  rebinds change ready then does place is = elim does.left_lock [
    | inl kept ↦
        unturned_at place
        (turned-far place 0 step.did (off-far g (op_place step.did.op) place (behind_maps g (op_place step.did.op) does.behind_maps kept.1) is))
        (same_bits kept.0 does.left_second does.left_worker place)
    | inr gone ↦
        goes_first _ _ _ _ _ _
        (bucket_drops (changed step.ghost step.caller change) then change.place gone.1 refl (locked ready)
        (ap (λ b. b.holder) (put-same step.ghost.bucket change.place change.bucket) ∙ gone.2) place is)
        (ap (λ l. locked_bit g l place 0) does.lock)
        (ap (λ l. locked_bit g l place 0 + locked_bit g step.after.second place 0 + work_bit g step.after.worker place 0) gone.0
        ∙ ap (λ l. 0 + locked_bit g l place 0 + work_bit g step.after.worker place 0) does.left_second
        ∙ ap (λ l. 0 + locked_bit g step.before.second place 0 + work_bit g l place 0) does.left_worker)
  ]
    where
      same_bits : step.after.lock ≡ step.before.lock → step.after.second ≡ step.before.second → step.after.worker ≡ step.before.worker
          → (place : ℕ) → lock_bits g step.after place ≡ lock_bits g step.before place
      same_bits lock second worker p =
          ap (λ l. locked_bit g l p 0 + locked_bit g step.after.second p 0 + work_bit g step.after.worker p 0) lock
          ∙ ap (λ l. locked_bit g step.before.lock p 0 + locked_bit g l p 0 + work_bit g step.after.worker p 0) second
          ∙ ap (λ l. locked_bit g step.before.lock p 0 + locked_bit g step.before.second p 0 + work_bit g l p 0) worker

      locked : IsRebinding env mix change (mem env mix step.words) step.ghost → lock_bit (step.ghost.bucket change.place).holder ≡ 1
      locked (inl unlinks) = unlinks.locked
      locked (inr (inl replaces)) = replaces.locked
      locked (inr (inr (inl shortens))) = shortens.locked
      locked (inr (inr (inr swaps))) = swaps.locked

  -- a section word is kept in a slot
  keep_word : (s d word : ℕ) → DoesKeepWord g s d word step.did.op step.before (bare step.after) → (place : ℕ) → IsLockPlace g place
      → TurnsEvenly place
  keep_word s d word does place is =
      let low = does.within in
      let few = does.caller_in in
      off (subst (IsOff g) (sym (ap op_place does.keeping)) (below_slots g _ (omega arith) (omega (arith, low, few)))) does.holds
      (λ p. refl) place is

  -- the operation enters a page here, or it turns the lowest bit where what the call holds there becomes another
  pub turns_evenly : (move : Move) → ((j p : ℕ) → move ≡ Withdraws j p → ⊥) → ReadyFor env mix step.caller (mem env mix step.words) step.ghost move
      → Whole env mix (mem env mix (applied step.words step.did.op)) (ghost_after env mix step.caller move step.ghost)
      → Does env mix move step.did.op step.did.old step.before step.after → (place : ℕ) → IsLockPlace g place
      → EntersHere place ⊎ TurnsEvenly place
  turns_evenly Quiet other ready then does place is = inr (quiet does place is)
  turns_evenly (Arms j) other ready then does place is = inr (quiet does place is)
  turns_evenly (TakesNode n) other ready then does place is =
      inr (off (subst (IsOff g) (sym does.taking.clears.place) (node_map-off g n does.taking.within)) does.holds (λ p. refl) place is)
  turns_evenly (GivesNode n) other ready then does place is =
      inr (off (subst (IsOff g) (sym (ap op_place does.giving)) (node_map-off g n (step.node_in n does.has))) does.holds (λ p. refl) place is)
  turns_evenly (ReturnsNode n) other ready then does place is =
      inr (off (subst (IsOff g) (sym (ap op_place does.giving)) (node_map-off g n does.among)) does.holds (λ p. refl) place is)
  turns_evenly (TakesLock j) other ready then does place is = inr (take_lock j does place)
  turns_evenly (DropsLock j) other ready then does place is = inr (drop_lock j does place)
  turns_evenly Raises other ready then does place is =
      inr (off (subst (IsOff g) (sym (ap op_place does.adds)) (first-off g 2 (λ e. cc) (omega arith))) does.holds (λ p. refl) place is)
  turns_evenly Lowers other ready then does place is =
      inr (off (subst (IsOff g) (sym (ap op_place does.subtracts)) (first-off g 2 (λ e. cc) (omega arith))) does.holds (λ p. refl) place is)
  turns_evenly (Links n port j) other ready then does place is =
      inr (goes_first _ _ _ _ _ _
      (bucket_drops (linked step.ghost step.caller j n port) then j does.on refl (ap lock_bit ready.holder)
      (ap (λ b. b.holder) (put-same step.ghost.bucket j (linked_bucket (step.ghost.bucket j) n))) place is)
      (ap (λ l. locked_bit g l place 0) does.lock) (locks_then does.holds place))
  turns_evenly (Rebinds change) other ready then does place is = inr (rebinds change ready then does place is)
  turns_evenly (LinksBehind n) other ready then does place is =
      inr (off (subst (IsOff g) (sym does.on) (node-off g n ChainLink does.among)) does.holds (λ p. refl) place is)
  turns_evenly (TakesSlot s) other ready then does place is =
      inr (off (subst (IsOff g) (sym (ap op_place does.taking)) (slot-off g s StateWord does.within (inr refl))) does.holds (λ p. refl) place is)
  turns_evenly (GivesSlot s) other ready then does place is =
      inr (off (subst (IsOff g) (sym (ap op_place does.giving)) (slot-off g s StateWord does.within (inr refl))) does.holds (λ p. refl) place is)
  turns_evenly (TakesPages index bits) other ready then does place is =
      inr (turn_pages index bits PageFree ready does.clears.on (λ unset. does.clears.others 0 (omega arith) unset) does.holds (λ p. refl) place is)
  turns_evenly (GivesPages index bits) other ready then does place is =
      inr (turn_pages index bits (PageHeld step.caller) ready does.sets.on (λ unset. does.sets.others 0 (omega arith) unset) does.holds (λ p. refl) place is)
  turns_evenly (Attaches slot shape seed serial) other ready then does place is =
      inr (off (subst (IsOff g) (sym (ap op_place does.attaching)) (slot-off g does.last FutureWord does.within (inl tt))) does.holds (λ p. refl) place is)
  turns_evenly (Enters j p) other ready then does place is = elim (cases_eq place (place_of g (PageWord j))) [
    | inl here ↦ inl (record { entry = j; page = p; ready = ready; does = does; here = here })
    | inr far ↦
        inr (unturned_at place (turned-far place 0 step.did (λ at. far (sym at ∙ ap op_place does.entering)))
        (same_locks does.holds (λ q. refl) place))
  ]
  turns_evenly TakesWork other ready then does place is = inr (take_work does place)
  turns_evenly GivesWork other ready then does place is = inr (give_work ready does place)
  turns_evenly BeginsMoving other ready then does place is =
      inr (unturned_at place (turned-same place 0 step.did (λ here. ap (λ w. bit_at w 0) does.leaves)) (same_locks does.holds (λ p. refl) place))
  turns_evenly (TakesSecond j) other ready then does place is = inr (take_second j does place)
  turns_evenly (Leaves j i entry nodes) other ready then does place is =
      let there : In entry (step.ghost.bucket j).nodes = subst (In entry) (sym ready.split) (in-middle entry nodes []) in
      let first = step.whole.owned.member j entry there in
      let among = (step.whole.owned.first_at entry j first).among in
      inr (off (subst (IsOff g) (sym does.on) (node-off g entry ChainLink among)) does.holds (λ p. refl) place is)
  turns_evenly (Arrives j i entry) other ready then does place is =
      inr (goes_second _ _ _ _ _ _
      (bucket_drops (arrived step.ghost i entry) then i does.on refl (ap lock_bit ready.next.holder)
      (ap (λ b. b.holder) (put-same step.ghost.bucket i (linked_bucket (step.ghost.bucket i) entry))) place is)
      (ap (λ l. locked_bit g l place 0) does.has) (locks_then does.holds place))
  turns_evenly (CutsOff j entry None) other ready then does place is =
      let out = step.whole.moving.out j entry ready.out in
      inr (unturned_at place
      (bucket_stays (cut_off step.ghost j None) then j does.on refl (ap lock_bit out.holder)
      (ap (λ b. b.holder) (put-same step.ghost.bucket j (cut_by (step.ghost.bucket j) None))) place is)
      (same_locks does.holds (λ p. refl) place))
  turns_evenly (CutsOff j entry (Some b)) other ready then does place is =
      let there : In b (step.ghost.bucket j).nodes = last_in (step.ghost.bucket j).nodes b (sym ready.last) in
      let first = step.whole.owned.member j b there in
      let among = (step.whole.owned.first_at b j first).among in
      inr (off (subst (IsOff g) (sym does.on) (node-off g b ChainLink among)) does.holds (λ p. refl) place is)
  turns_evenly Publishes other ready then does place is =
      inr (off (subst (IsOff g) (sym does.on) (first-off g 0 (λ e. cc) (omega arith))) does.holds (λ p. refl) place is)
  turns_evenly (Retires s) other ready then does place is =
      inr (off (subst (IsOff g) (sym (ap op_place does.retiring)) (slot-off g s StateWord does.within (inr refl))) does.holds (λ p. refl) place is)
  turns_evenly (KeepsWord s d word) other ready then does place is = inr (keep_word s d word does place is)
  turns_evenly (Settles s d word) other ready then does place is = inr (keep_word s d word does place is)
  turns_evenly (Withdraws j p) other ready then does place is = absurd (other j p refl)
  turns_evenly (TakesBack s index bits) other ready then does place is =
      inr (turn_pages index bits (PageOf ready.table) ready.own does.sets.on (λ unset. does.sets.others 0 (omega arith) unset) does.holds
      (λ p. refl) place is)
  turns_evenly (Opens d) other ready then does place is =
      inr (off (subst (IsOff g) (sym (ap op_place does.turns)) (section-off g d does.within)) does.holds (λ p. refl) place is)
  turns_evenly (Closes d) other ready then does place is =
      inr (off (subst (IsOff g) (sym (ap op_place does.turns)) (section-off g d does.within)) does.holds (λ p. refl) place is)
