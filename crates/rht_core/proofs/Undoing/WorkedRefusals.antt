-- Operations after which a call that changes nothing hasn't undone what it did, the fewest of each kind: a bind that never unlocks an empty
-- bucket, or enters a page that it never took, which is the same exchange; one that enters a page where none is missing, or that came to no
-- table before, whatever the words say; one that leaks a slot which it had made a table in and given back before; a resizing that leaves
-- the work lock taken; a look-up that leaves its bucket locked; one that never leaves its section; and a resizing that gives back a page
-- which is none of the retired table's that it takes down.
use Rattle.std.proofs.Common.{◌≡◌, ◌≢◌, ◌⊎◌, ℕ, ◌+◌, ◌*◌, ◌/◌, ◌%◌, ◌<◌, Bool, true, List, [], ◌∷◌, ◌++◌, length, length-append, refl, sym, ap, ◌∙◌, subst, inl, inr, arith}
use Rattle.std.specs.List.{AllByRecursion, Any}
use Rattle.rht_words.specs.declared.env.Env.{Env}
use Rattle.rht_words.specs.declared.geometry.Geometry.{Geometry}
use Rattle.rht_words.specs.declared.op.Op.{Op}
use Rattle.rht_words.specs.declared.op.Op.TheVariants.{Load, Store, Exchange, Add, And}
use Rattle.rht_words.specs.Operations.{word_after}
use Rattle.std.specs.Int.{bit_at}
use Rattle.rht_words.specs.Places.{CurrentTable, NextSerial, WorkLock, Section, Slot, SlotWord, ShapeWord, FutureWord, StateWord, LoadedSection, PageMap, PageWord, words_in, place_of}
use Rattle.rht_words.proofs.EachElement.{AllByRecursion-cut}
use Rattle.rht_words.proofs.PlacesApart.{parts_in_order}
use Rattle.rht_model.specs.declared.history.Call.{Call}
use Rattle.rht_model.specs.declared.history.Call.TheVariants.{Bind, Find, Work}
use Rattle.rht_model.specs.declared.history.Reply.{Reply}
use Rattle.rht_model.specs.declared.history.Reply.TheVariants.{Found, Missing, Idle}
use Rattle.rht_model.specs.Answers.{is_refusal}
use Rattle.rht_model.specs.Endings.{plain_ending, ended_with}
use Rattle.rht_core.specs.declared.event.Event.{Event}
use Rattle.rht_core.specs.Traces.{Did, Past}
use Rattle.rht_core.specs.Seen.{CameTo, as_current, as_future, words_before}
use Rattle.rht_core.specs.ResizeCauses.{Attaches}
use Rattle.rht_core.specs.Refused.{changes_nothing, turned, turns, IsTableWord, GivesBackNode, GivesBackSlot, AttachedWith, IsMissingEntry, PutsPage, EnteredWhenTaken, IsExcepted, IsEvenButReturn, IsUndone}
use Rattle.rht_core.specs.Reach.{SetsBit}
use Rattle.rht_core.specs.Returned.{IsReturn}
use Rattle.rht_core.specs.TablePages.{IsPageOfTable}
use Rattle.rht_core.proofs.Histories.Behind.{Any-push_cases, Any-none}
use Rattle.rht_core.proofs.Reasons.WorkedPages.{none_is}
use Rattle.rht_core.proofs.Undoing.TurnedBits.{turned-here, turned-far, turned-same, turned-adds}

-- an operation that found this word
abbrev done : Op → ℕ → Did
done op old = record { index = 0; op = op; old = old }

-- This bit was turned an odd number of times, and nothing excepts it, where these are the words before each event; nor is there an operation of
-- a resizing among them that gives back what the bit says of a retired table, all others having turned it an even number of times.
pub record Breaks (g : Geometry) (words_at : ℕ → List ℕ) (call : Call) (steps : List Did) (place bit : ℕ) : Type 0 where
  pub place_in : place < words_in g
  pub bit_in : bit < 64
  pub odd : turns place bit steps % 2 ≡ 1
  pub unexcepted : (c : ℕ) → IsExcepted g words_at c call steps place bit → ⊥
  pub unreturned : call ≡ Work → IsEvenButReturn g words_at place bit steps → ⊥

-- binds and look-ups are no resizings
bind_not_work : (port owner : ℕ) → Bind port owner true ≡ Work → ⊥
bind_not_work port owner same = cc

find_not_work : (port : ℕ) → Find port ≡ Work → ⊥
find_not_work port same = cc

module _ (g : Geometry) (words_at : ℕ → List ℕ) where
  -- none of these operations attaches a table
  abbrev AttachNone : List Did → Type 0
  AttachNone steps = AllByRecursion (λ did. (table slot : ℕ) → Attaches g table slot did → ⊥) steps

  none_attached : (steps : List Did) → AttachNone steps → (table slot shape : ℕ) → AttachedWith g table slot shape steps → ⊥
  none_attached steps none table slot shape has =
      let P : Did → Type 0 = λ did. (t s : ℕ) → Attaches g t s did → ⊥ in
      let parts = AllByRecursion-cut P has.before (has.at ∷ has.behind) (subst (AllByRecursion P) has.split none) in
      parts.1.0 table slot has.attaches

  -- an exchange of another word than a future attaches none
  other_exchange : (place new old : ℕ) → ((table : ℕ) → table < 8 → place ≡ place_of g (Slot table FutureWord) → ⊥)
      → (table slot : ℕ) → Attaches g table slot (done (Exchange place 0 new) old) → ⊥
  other_exchange place new old other table slot attaches =
      other table attaches.table_in (let is = attaches.exchanges in cc)

  one_only : (P : Did → Type 0) (did : Did) → Any P (did ∷ []) → P did
  one_only P did some = elim (Any-push_cases P [] did some) [ inl none ↦ absurd (Any-none P none) | inr is ↦ is ]

  -- nothing stands before one operation alone
  none_before : (one at : Did) (before behind : List Did) → one ∷ [] ≡ before ++ at ∷ behind → before ≡ []
  none_before one at [] behind is = refl
  none_before one at (first ∷ before) behind is =
      let lengths = ap length is in
      let sum = length-append before (at ∷ behind) in
      absurd (omega (arith, lengths, sum))

  -- and no list without operations has one in it
  no_split : (before behind : List Did) (at : Did) → [] ≡ before ++ at ∷ behind → ⊥
  no_split before behind at is =
      let lengths = ap length is in
      let sum = length-append before (at ∷ behind) in
      absurd (omega (arith, lengths, sum))

  -- An exchange alone gives back nothing of a retired table: it is no store, and nothing before it loaded a shape.
  pub never_returned : (place bit there from to old : ℕ) → IsEvenButReturn g words_at place bit (done (Exchange there from to) old ∷ []) → ⊥
  never_returned place bit there from to old has = go has.before has.at has.behind has.split has.returns
    where
      go : (before : List Did) (at : Did) (behind : List Did) → done (Exchange there from to) old ∷ [] ≡ before ++ at ∷ behind
          → IsReturn g words_at place bit before at behind → ⊥
      go [] at behind is (inl slot) =
          let same : at ≡ done (Exchange there from to) old = (let e = sym is in cc) in
          let exchanges = ap (λ did. did.op) same in
          let stores = slot.1.stores in absurd (let both = sym exchanges ∙ stores in cc)
      go [] at behind is (inr (inl entry)) =
          let down = entry.2.down in no_split down.sooner down.since down.at down.split
      go [] at behind is (inr (inr page)) =
          let down = page.2.down in no_split down.sooner down.since down.at down.split
      go (first ∷ before) at behind is returns =
          let lengths = ap length is in
          let sum = length-append before (at ∷ behind) in
          absurd (omega (arith, lengths, sum))

  -- so an operation alone enters no page that was taken
  pub never_taken : (one : Did) (entry page : ℕ) → EnteredWhenTaken g words_at entry page (one ∷ []) → ⊥
  never_taken one entry page has =
      let took = has.took in
      no_split took.before took.behind took.at (sym (none_before one has.at has.before has.behind has.split) ∙ took.split)

  -- what such an operation found, behind which the call entered a page
  record Entered (entry page : ℕ) (last : Did) (before : List Did) : Type 0 where
    puts : PutsPage g entry page last
    missing : IsMissingEntry g (words_at last.index) entry before

  -- where the first two of three operations put no page behind an entry, only the last one can have entered one
  only_last : (first second third : Did) (entry page : ℕ) → (PutsPage g entry page first → ⊥) → (PutsPage g entry page second → ⊥)
      → EnteredWhenTaken g words_at entry page (first ∷ second ∷ third ∷ [])
      → Entered entry page third (first ∷ second ∷ [])
  only_last first second third entry page not_first not_second has =
      go has.before has.at has.behind has.split has.enters has.missing
    where
      go : (before : List Did) (at : Did) (behind : List Did) → first ∷ second ∷ third ∷ [] ≡ before ++ at ∷ behind
          → PutsPage g entry page at → IsMissingEntry g (words_at at.index) entry before
          → Entered entry page third (first ∷ second ∷ [])
      go [] at behind is puts missing =
          let same : at ≡ first = (let e = sym is in cc) in absurd (not_first (subst (PutsPage g entry page) same puts))
      go (a ∷ []) at behind is puts missing =
          let same : at ≡ second = (let e = sym is in cc) in absurd (not_second (subst (PutsPage g entry page) same puts))
      go (a ∷ b ∷ []) at behind is puts missing =
          let same : at ≡ third = (let e = sym is in cc) in
          let one : a ≡ first = (let e = sym is in cc) in
          let two : b ≡ second = (let e = sym is in cc) in
          record {
            puts = subst (PutsPage g entry page) same puts;
            missing = subst (λ did. IsMissingEntry g (words_at did.index) entry (first ∷ second ∷ [])) same
                (subst (λ x. IsMissingEntry g (words_at at.index) entry (x ∷ second ∷ [])) one
                (subst (λ y. IsMissingEntry g (words_at at.index) entry (a ∷ y ∷ [])) two missing));
          }
      go (a ∷ b ∷ c ∷ before) at behind is puts missing =
          let lengths = ap length is in
          let sum = length-append before (at ∷ behind) in
          absurd (omega (arith, lengths, sum))

  -- who never loads the current table has come to none
  pub never_came : (table : ℕ) (steps : List Did)
      → AllByRecursion (λ did. did.op ≢ Load (place_of g CurrentTable)) steps → CameTo g table steps → ⊥
  never_came table steps none (as_current _ before at behind _ loads split last) =
      let P : Did → Type 0 = λ did. did.op ≢ Load (place_of g CurrentTable) in
      (AllByRecursion-cut P before (at ∷ behind) (subst (AllByRecursion P) split none)).1.0 loads.0.loads
  never_came table steps none (as_future front _ before at behind _ came loads named split last) =
      let P : Did → Type 0 = λ did. did.op ≢ Load (place_of g CurrentTable) in
      never_came front before (AllByRecursion-cut P before (at ∷ behind) (subst (AllByRecursion P) split none)).0 came

  -- ---- a bind that never unlocks an empty bucket, or enters the first page, which it never took

  module _ (index : ℕ) (within : index < 64 * g.pages) where
    abbrev bucket : ℕ
    bucket = place_of g (PageWord index)

    abbrev pub locks_it : Did
    locks_it = done (Exchange bucket 0 1) 0

    behind_slots : (table : ℕ) → table < 8 → bucket ≡ place_of g (Slot table FutureWord) → ⊥
    behind_slots table low same =
        let order = parts_in_order g in
        absurd (omega (arith, low, same, order.page_map, order.nodes, order.pages))

    behind_serial : bucket ≡ place_of g NextSerial → ⊥
    behind_serial same =
        let order = parts_in_order g in absurd (omega (arith, same, order.page_map, order.nodes, order.pages))

    gives_no_node : (node : ℕ) → GivesBackNode g node locks_it → ⊥
    gives_no_node node is = let gives = is.gives in absurd (cc)

    gives_no_slot : (slot : ℕ) → GivesBackSlot g slot locks_it → ⊥
    gives_no_slot slot is = let gives = is.gives in absurd (cc)

    lock_kept : (call : Call) → Breaks g words_at call (locks_it ∷ []) bucket 0
    lock_kept call = record {
      place_in = omega (arith, within);
      bit_in = omega arith;
      odd = ap (λ n. (n + 0) % 2) (turned-here bucket 0 locks_it refl);
      unexcepted = unexcepted;
      unreturned = λ is. never_returned bucket 0 bucket 0 1 0;
    }
      where
        unexcepted : (c : ℕ) → IsExcepted g words_at c call (locks_it ∷ []) bucket 0 → ⊥
        unexcepted c (inl serial) = behind_serial serial
        unexcepted c (inr (inl node)) = gives_no_node node.node (one_only (GivesBackNode g node.node) locks_it node.given)
        unexcepted c (inr (inr (inl slot))) = gives_no_slot slot.slot (one_only (GivesBackSlot g slot.slot) locks_it slot.given)
        unexcepted c (inr (inr (inr (inl (may, inl it))))) =
            none_attached (locks_it ∷ []) (other_exchange bucket 1 0 behind_slots, tt) it.table it.slot it.shape it.attached
        unexcepted c (inr (inr (inr (inl (may, inr it))))) = never_taken locks_it it.entry it.page it.entered
        unexcepted c (inr (inr (inr (inr own)))) = absurd (let above = own.above in omega (arith, above))

    pub never_unlocked : (port owner : ℕ) → Breaks g words_at (Bind port owner true) (locks_it ∷ []) bucket 0
    never_unlocked port owner = lock_kept (Bind port owner true)

    -- ---- a bind that looks at one word, takes a page, and enters it where none is missing

    module _ (seen word mask old : ℕ) where
      abbrev pub looks : Did
      looks = done (Load seen) word

      abbrev pub takes_page : Did
      takes_page = done (And (place_of g (PageMap 0)) mask) old

      -- whatever it took before from the first word of the map
      pub none_missing : (IsMissingEntry g (words_at 0) index (looks ∷ takes_page ∷ []) → ⊥) → (port owner : ℕ)
          → Breaks g words_at (Bind port owner true) (looks ∷ takes_page ∷ locks_it ∷ []) bucket 0
      none_missing no_entry port owner = record {
        place_in = omega (arith, within);
        bit_in = omega arith;
        odd = one_turn (turned bucket 0 looks) (turned bucket 0 takes_page) (turned bucket 0 locks_it)
            (turned-same bucket 0 looks (λ at. refl)) (turned-far bucket 0 takes_page apart) (turned-here bucket 0 locks_it refl);
        unexcepted = unexcepted;
        unreturned = λ is. absurd (bind_not_work port owner is);
      }
        where
          one_turn : (first second third : ℕ) → first ≡ 0 → second ≡ 0 → third ≡ 1 → (first + (second + (third + 0))) % 2 ≡ 1
          one_turn first second third none too one = omega (arith, none, too, one)

          apart : place_of g (PageMap 0) ≡ bucket → ⊥
          apart same = let order = parts_in_order g in absurd (omega (arith, within, same, order.nodes, order.pages))

          -- the entry that it would have to be
          entered_here : (entry page : ℕ) → EnteredWhenTaken g words_at entry page (looks ∷ takes_page ∷ locks_it ∷ []) → ⊥
          entered_here entry page has =
              let is = only_last looks takes_page locks_it entry page (λ puts. let load = puts.exchanges in absurd (cc))
              (λ puts. let clears = puts.exchanges in absurd (cc)) has in
              let at : bucket ≡ place_of g (PageWord entry) = (let exchange = is.puts.exchanges in cc) in
              let same : entry ≡ index = omega (arith, at) in
              no_entry (subst (λ e. IsMissingEntry g (words_at 0) e (looks ∷ takes_page ∷ [])) same is.missing)

          all_three : (P : Did → Type 0) → (P looks → ⊥) → (P takes_page → ⊥) → (P locks_it → ⊥)
              → Any P (looks ∷ takes_page ∷ locks_it ∷ []) → ⊥
          all_three P first second third = none_is P (looks ∷ takes_page ∷ locks_it ∷ []) (first, (second, (third, tt)))

          unexcepted : (c : ℕ) → IsExcepted g words_at c (Bind port owner true) (looks ∷ takes_page ∷ locks_it ∷ []) bucket 0 → ⊥
          unexcepted c (inl serial) = behind_serial serial
          unexcepted c (inr (inl node)) =
              all_three (GivesBackNode g node.node) (λ is. let gives = is.gives in absurd (cc))
              (λ is. let gives = is.gives in absurd (cc)) (gives_no_node node.node) node.given
          unexcepted c (inr (inr (inl slot))) =
              all_three (GivesBackSlot g slot.slot) (λ is. let gives = is.gives in absurd (cc))
              (λ is. let gives = is.gives in absurd (cc)) (gives_no_slot slot.slot) slot.given
          unexcepted c (inr (inr (inr (inl (may, inl it))))) =
              none_attached (looks ∷ takes_page ∷ locks_it ∷ []) (
                (λ table slot attaches. let is = attaches.exchanges in absurd (cc)),
                (
                  (λ table slot attaches. let is = attaches.exchanges in absurd (cc)),
                  (other_exchange bucket 1 0 behind_slots, tt),
                ),
              )
              it.table it.slot it.shape it.attached
          unexcepted c (inr (inr (inr (inl (may, inr it))))) = entered_here it.entry it.page it.entered
          unexcepted c (inr (inr (inr (inr own)))) = absurd (let above = own.above in omega (arith, above))

      -- and one that came to no table, whatever the words say of slots
      pub came_to_none : seen ≢ place_of g CurrentTable → (port owner : ℕ)
          → Breaks g words_at (Bind port owner true) (looks ∷ takes_page ∷ locks_it ∷ []) bucket 0
      came_to_none elsewhere =
          none_missing (λ missing.
          never_came missing.table (looks ∷ takes_page ∷ [])
          ((λ is. elsewhere (let same = is in cc)), ((λ is. let same = is in absurd (cc)), tt)) missing.came)

  -- ---- a bind that leaks a slot

  abbrev state : ℕ
  state = place_of g (Slot 1 StateWord)

  abbrev takes : Did
  takes = done (Exchange state 0 1) 0

  abbrev gives_back : Did
  gives_back = done (Store state 0) 1

  pub leaks_slot : (port owner : ℕ) → Breaks g words_at (Bind port owner true) (takes ∷ gives_back ∷ takes ∷ []) state 0
  leaks_slot port owner = record {
    place_in = let order = parts_in_order g in omega (arith, order.page_map, order.nodes, order.pages);
    bit_in = omega arith;
    odd = refl;
    unexcepted = unexcepted;
    unreturned = λ is. absurd (bind_not_work port owner is);
  }
    where
      steps : List Did
      steps = takes ∷ gives_back ∷ takes ∷ []

      no_future : (table : ℕ) → table < 8 → state ≡ place_of g (Slot table FutureWord) → ⊥
      no_future table low same = absurd (omega (arith, low, same))

      stores_none : (table slot : ℕ) → Attaches g table slot gives_back → ⊥
      stores_none table slot attaches = let is = attaches.exchanges in absurd (cc)

      -- the word of the slot's state is no word of a table's
      no_table_word : (slot : ℕ) (word : SlotWord) → IsTableWord word → state ≡ place_of g (Slot slot word) → ⊥
      no_table_word slot StateWord of_table same = of_table
      no_table_word slot (LoadedSection caller) of_table same = of_table
      no_table_word slot _ of_table same = absurd (omega (arith, same))

      -- nor is it an entry or a word of the map of pages
      before_pages : (entry page : ℕ)
          → ((state ≡ place_of g (PageWord entry)) ⊎ ((state ≡ place_of g (PageMap (page / 64))) × (0 ≡ page % 64))) → ⊥
      before_pages entry page (inl at) =
          let order = parts_in_order g in absurd (omega (arith, at, order.page_map, order.nodes, order.pages))
      before_pages entry page (inr bit) =
          let at = bit.0 in let order = parts_in_order g in absurd (omega (arith, at, order.page_map))

      unexcepted : (c : ℕ) → IsExcepted g words_at c (Bind port owner true) steps state 0 → ⊥
      unexcepted c (inl serial) = absurd (omega (arith, serial))
      unexcepted c (inr (inl node)) =
          let order = parts_in_order g in
          let there = node.there in absurd (omega (arith, there, order.page_map, order.nodes))
      unexcepted c (inr (inr (inl slot))) = no_table_word slot.slot slot.word slot.of_table slot.there
      unexcepted c (inr (inr (inr (inl (may, inl it))))) =
          none_attached steps
          (other_exchange state 1 0 no_future, (stores_none, (other_exchange state 1 0 no_future, tt)))
          it.table it.slot it.shape it.attached
      unexcepted c (inr (inr (inr (inl (may, inr it))))) = before_pages it.entry it.page it.of_it
      unexcepted c (inr (inr (inr (inr own)))) = absurd (let above = own.above in omega (arith, above))

  -- ---- a resizing that leaves the work lock taken

  pub keeps_work : Breaks g words_at Work (done (Exchange (place_of g WorkLock) 0 1) 0 ∷ []) (place_of g WorkLock) 0
  keeps_work = record {
    place_in = let order = parts_in_order g in omega (arith, order.page_map, order.nodes, order.pages);
    bit_in = omega arith;
    odd = refl;
    unexcepted = unexcepted;
    unreturned = λ is. never_returned (place_of g WorkLock) 0 (place_of g WorkLock) 0 1 0;
  }
    where
      steps : List Did
      steps = done (Exchange (place_of g WorkLock) 0 1) 0 ∷ []

      unexcepted : (c : ℕ) → IsExcepted g words_at c Work steps 1 0 → ⊥
      unexcepted c (inl serial) = absurd (omega (arith, serial))
      unexcepted c (inr (inl node)) =
          let order = parts_in_order g in
          let there = node.there in absurd (omega (arith, there, order.page_map, order.nodes))
      unexcepted c (inr (inr (inl slot))) = let there = slot.there in absurd (omega (arith, there))
      unexcepted c (inr (inr (inr (inl attached)))) = attached.0
      unexcepted c (inr (inr (inr (inr own)))) = absurd (let above = own.above in omega (arith, above))

  -- ---- a look-up that never leaves its section

  module _ (c : ℕ) (few : c < 16) where
    abbrev section : ℕ
    section = place_of g (Section c)

    abbrev pub opens : Did
    opens = done (Add section 1) 0

    pub keeps_section : (port : ℕ) → Breaks g words_at (Find port) (opens ∷ []) section 0
    keeps_section port = record {
      place_in = let order = parts_in_order g in omega (arith, few, order.page_map, order.nodes, order.pages);
      bit_in = omega arith;
      odd = ap (λ n. (n + 0) % 2) (turned-adds section section opens refl refl);
      unexcepted = unexcepted;
      unreturned = λ is. absurd (find_not_work port is);
    }
      where
        unexcepted : (d : ℕ) → IsExcepted g words_at d (Find port) (opens ∷ []) section 0 → ⊥
        unexcepted d (inl serial) = absurd (omega (arith, serial))
        unexcepted d (inr (inl node)) =
            let order = parts_in_order g in
            let there = node.there in absurd (omega (arith, few, there, order.page_map, order.nodes))
        unexcepted d (inr (inr (inl slot))) = let there = slot.there in absurd (omega (arith, few, there))
        unexcepted d (inr (inr (inr (inl attached)))) = attached.0
        unexcepted d (inr (inr (inr (inr own)))) = absurd (let above = own.above in omega (arith, above))

  -- ---- a resizing that takes down a retired table, and sets the bit of a page which is none of the table's

  module _ (slot shape : ℕ) (slot_in : slot < 8) (pages : 0 < g.pages) (sets : Did) (is_set : SetsBit (place_of g (PageMap 0)) 0 sets)
      (other : IsPageOfTable g (words_at 0) shape 0 → ⊥) where
    abbrev map : ℕ
    map = place_of g (PageMap 0)

    abbrev loads_shape : Did
    loads_shape = done (Load (place_of g (Slot slot ShapeWord))) shape

    abbrev frees_slot : Did
    frees_slot = done (Store (place_of g (Slot slot StateWord)) 0) 2

    abbrev pub gives_other : List Did
    gives_other = loads_shape ∷ sets ∷ frees_slot ∷ []

    behind_slot : (s : ℕ) (word : SlotWord) → s < 8 → IsTableWord word ⊎ (word ≡ StateWord) → map ≡ place_of g (Slot s word) → ⊥
    behind_slot s (LoadedSection caller) few (inl of_table) same = of_table
    behind_slot s (LoadedSection caller) few (inr is) same = absurd (let state = is in cc)
    behind_slot s _ few of_it same = let order = parts_in_order g in absurd (omega (arith, few, same, order.page_map))

    pub gives_others_page : Breaks g words_at Work gives_other map 0
    gives_others_page = record {
      place_in = let order = parts_in_order g in omega (arith, pages, order.nodes, order.pages);
      bit_in = omega arith;
      odd = one_turn (turned map 0 loads_shape) (turned map 0 sets) (turned map 0 frees_slot)
          (turned-same map 0 loads_shape (λ at. refl)) (turned-here map 0 sets is_set.on)
          (turned-far map 0 frees_slot (λ same. behind_slot slot StateWord slot_in (inr refl) (sym same)));
      unexcepted = unexcepted;
      unreturned = λ is has. unreturned has.before has.at has.behind has.split has.returns;
    }
      where
        one_turn : (first second third : ℕ) → first ≡ 0 → second ≡ (bit_at sets.old 0 + bit_at (word_after sets.old sets.op) 0) % 2
            → third ≡ 0 → (first + (second + (third + 0))) % 2 ≡ 1
        one_turn first second third none one too =
            let clear = is_set.clear in let set = is_set.set in omega (arith, none, one, too, clear, set)

        unexcepted : (c : ℕ) → IsExcepted g words_at c Work gives_other map 0 → ⊥
        unexcepted c (inl serial) = let order = parts_in_order g in absurd (omega (arith, serial, order.page_map))
        unexcepted c (inr (inl node)) =
            let there = node.there in let order = parts_in_order g in absurd (omega (arith, pages, there, order.nodes))
        unexcepted c (inr (inr (inl it))) = behind_slot it.slot it.word it.within (inl it.of_table) it.there
        unexcepted c (inr (inr (inr (inl attached)))) = attached.0
        unexcepted c (inr (inr (inr (inr own)))) = absurd (let above = own.above in omega (arith, above))

        -- where it loads a shape, the page is none of such a table's
        OfOthers : Did → Type 0
        OfOthers did = (s : ℕ) → did.op ≡ Load (place_of g (Slot s ShapeWord)) → IsPageOfTable g (words_at did.index) did.old 0 → ⊥

        sets_loads_none : OfOthers sets
        sets_loads_none s loads of =
            let same = ap (λ op. bit_at (word_after sets.old op) 0) loads in
            let clear = is_set.clear in let set = is_set.set in absurd (omega (arith, same, clear, set))

        each_of_others : AllByRecursion OfOthers gives_other
        each_of_others = ((λ s loads of. other of), (sets_loads_none, ((λ s loads of. absurd (let e = loads in cc)), tt)))

        unreturned : (before : List Did) (at : Did) (behind : List Did) → gives_other ≡ before ++ at ∷ behind
            → IsReturn g words_at map 0 before at behind → ⊥
        unreturned before at behind is (inl freed) = behind_slot freed.0 StateWord freed.1.slot_in (inr refl) freed.2
        unreturned before at behind is (inr (inl cleared)) =
            let there = cleared.3 in let order = parts_in_order g in absurd (omega (arith, pages, there, order.nodes, order.pages))
        unreturned before at behind is (inr (inr given)) =
            let there = given.3 in
            let bit = given.4 in
            let first : given.1 ≡ 0 = omega (arith, there, bit) in
            let down = given.2.down in
            let sooner = (AllByRecursion-cut OfOthers before (at ∷ behind) (subst (AllByRecursion OfOthers) is each_of_others)).0 in
            let it = (AllByRecursion-cut OfOthers down.sooner (down.at ∷ down.since) (subst (AllByRecursion OfOthers) down.split sooner)).1.0 in
            it given.0 down.loads (subst (IsPageOfTable g (words_at down.at.index) down.at.old) first given.2.of)

-- ---- look-ups and resizings that the law refuses

module _ (M : Type 0) (mix : ℕ → ℕ → ℕ → ℕ) (env : Env) (events : List Event) (c : ℕ) where
  abbrev words_then : ℕ → List ℕ
  words_then = words_before M mix env events

  -- a call with operations that break it hasn't undone what it did
  not_undone : (past : Past) (place bit : ℕ) → Breaks env.geometry words_then past.done.call past.steps place bit
      → IsUndone M mix env events c past → ⊥
  not_undone past place bit breaks undone = elim (undone.even place bit breaks.place_in breaks.bit_in) [
    | inl excepted ↦ breaks.unexcepted c excepted
    | inr (inl even) ↦ let odd = breaks.odd in absurd (omega (arith, odd, even))
    | inr (inr (works, returns)) ↦ breaks.unreturned works returns
  ]

  -- what the law says of a call, where it speaks of the calls that this picks out
  abbrev Says : (Call → Reply → Bool) → Past → Type 0
  Says speaks_of past = speaks_of past.done.call past.done.reply ≡ true → IsUndone M mix env events c past

  -- of refusals alone
  abbrev is_refused : Call → Reply → Bool
  is_refused call reply = is_refusal reply

  module _ (port index : ℕ) (within : index < 64 * env.geometry.pages) where
    -- one that locks an empty bucket, and ends
    abbrev looked_up : Reply → Past
    looked_up reply = record {
      done = ended_with (Find port) (plain_ending reply);
      begin = 0;
      steps = locks_it env.geometry words_then index within ∷ [];
    }

    breaks_it : (reply : Reply) → IsUndone M mix env events c (looked_up reply) → ⊥
    breaks_it reply =
        not_undone (looked_up reply) (bucket env.geometry words_then index within) 0
        (lock_kept env.geometry words_then index within (Find port))

    -- a law of refusals alone says nothing of it
    pub found_passed : (owner : ℕ) → Says is_refused (looked_up (Found owner))
    found_passed owner refused = absurd (cc)

    pub missing_passed : Says is_refused (looked_up Missing)
    missing_passed refused = absurd (cc)

    -- the law refuses it
    pub found_broken : (owner : ℕ) → Says changes_nothing (looked_up (Found owner)) → ⊥
    found_broken owner says = breaks_it (Found owner) (says refl)

    pub missing_broken : Says changes_nothing (looked_up Missing) → ⊥
    missing_broken says = breaks_it Missing (says refl)

  -- the law refuses one that never leaves its section
  pub stayed_broken : (few : c < 16) (port : ℕ)
      → Says changes_nothing
      (record { done = ended_with (Find port) (plain_ending Missing); begin = 0; steps = opens env.geometry words_then c few ∷ [] }) → ⊥
  stayed_broken few port says = not_undone _ _ 0 (keeps_section env.geometry words_then c few port) (says refl)

  -- and a resizing that had nothing to do but to give back retired tables, and gives back a page which is none of theirs
  pub returned_broken : (slot shape : ℕ) (slot_in : slot < 8) (pages : 0 < env.geometry.pages) (sets : Did)
      (is_set : SetsBit (place_of env.geometry (PageMap 0)) 0 sets) (other : IsPageOfTable env.geometry (words_then 0) shape 0 → ⊥)
      → Says changes_nothing (record {
        done = ended_with Work (plain_ending Idle);
        begin = 0;
        steps = gives_other env.geometry words_then slot shape slot_in pages sets is_set other;
      }) → ⊥
  returned_broken slot shape slot_in pages sets is_set other says =
      not_undone _ _ 0 (gives_others_page env.geometry words_then slot shape slot_in pages sets is_set other) (says refl)
