-- What becomes of a slot whose table is retired, while a call gives retired tables back. Until its turn comes the slot stays so. Then its table
-- is given back, if no odd word that is kept there is the section word of its caller; and with the last operation of that the slot is freed.
use Rattle.std.proofs.Common.{◌≡◌, ◌≢◌, ℕ, ◌+◌, ◌%◌, ◌<◌, ◌≤◌, cond, List, [], ◌∷◌, ◌++◌, refl, sym, ap, ◌∙◌, subst, inl, inr, arith}
use Rattle.std.specs.Prelude.{◌==◌, nat_lt}
use Rattle.std.specs.List.{Any}
use Rattle.std.proofs.lemmas.Bool.{cases_eq, eqb-true, eqb-false, ltb-false}
use Rattle.std.proofs.lemmas.List.Quantifiers.{Any-push}
use Rattle.rht_words.specs.declared.op.Op.TheVariants.{Load, Store}
use Rattle.rht_words.specs.declared.geometry.Geometry.{Geometry}
use Rattle.rht_words.specs.declared.machine.Next.{Next}
use Rattle.rht_words.specs.declared.machine.Next.TheVariants.{Go, Done}
use Rattle.rht_words.specs.Machines.{GoesOrEnds}
use Rattle.rht_words.specs.Operations.{op_place, old_of, applied}
use Rattle.rht_words.specs.Places.{PageMap, PageWord, Section, Slot, StateWord, LoadedSection, place_of, word_at}
use Rattle.rht_words.proofs.EachElement.{Any-append_left}
use Rattle.rht_words.proofs.PlacesApart.{parts_in_order}
use Rattle.rht_words.proofs.WordChanges.{applied-other}
use Rattle.rht_reclaim.specs.GiveTable.{give_table_new, give_table_plan_at, give_table_after_at}
use Rattle.rht_reclaim.specs.ReturnTables.{next_slot, next_caller, given_back, return_tables_plan_at, return_tables_after_at, IsReturnTablesAtIn}
use Rattle.rht_reclaim.specs.declared.give_table.GiveTableAt.{GiveTableAt}
use Rattle.rht_reclaim.specs.declared.give_table.GiveTableAt.TheVariants as gives
use Rattle.rht_reclaim.specs.declared.return_tables.ReturnTablesAt.{ReturnTablesAt}
use Rattle.rht_reclaim.specs.declared.return_tables.ReturnTablesAt.TheVariants as at
use Rattle.rht_core.specs.Traces.{Did}
use Rattle.rht_core.specs.Returned.{ReturnsSlot}
use Rattle.rht_ghost.proofs.Theory.Steps.{by_test, unchanged}

module _ (g : Geometry) (slot : ℕ) (slot_in : slot < 8) where
  -- the state word of the slot, and the word that is kept there of a caller
  abbrev pub state_in : List ℕ → ℕ
  state_in words = word_at g words (Slot slot StateWord)

  abbrev pub kept_in : List ℕ → ℕ → ℕ
  kept_in words caller = word_at g words (Slot slot (LoadedSection caller))

  -- one of the operations freed the slot
  abbrev pub IsFreed : List Did → Type 0
  IsFreed steps = Any (ReturnsSlot g slot) steps

  -- it is this slot's turn: while ours is to come its table is retired, and behind its turn it is freed
  pub record HasCome (turn : ℕ) (words : List ℕ) (steps : List Did) : Type 0 where
    pub waits : turn ≤ slot → state_in words ≡ 2
    pub freed : slot < turn → IsFreed steps

  -- an odd word of a caller was found, which is the one that is kept there
  pub record HasOdd (turn caller kept : ℕ) (words : List ℕ) : Type 0 where
    pub few : caller < 16
    pub odd : kept % 2 ≡ 1
    pub stands : turn ≡ slot → kept_in words caller ≡ kept

  abbrev pub IsWaiting : ReturnTablesAt → List ℕ → List Did → Type 0
  IsWaiting (at.State turn) words steps = HasCome turn words steps
  IsWaiting (at.KeptWord turn caller) words steps = HasCome turn words steps
  IsWaiting (at.SectionWord turn caller kept) words steps = HasCome turn words steps × HasOdd turn caller kept words
  IsWaiting (at.Giving give) words steps = HasCome give.slot words steps

  -- ---- while others leave the slot

  come-left : (turn : ℕ) (words words' : List ℕ) (steps : List Did) → (state_in words ≡ 2 → state_in words' ≡ 2) → HasCome turn words steps
      → HasCome turn words' steps
  come-left turn words words' steps stays come = record { waits = λ low. stays (come.waits low); freed = come.freed }

  pub waiting-left : (state : ReturnTablesAt) (words words' : List ℕ) (steps : List Did)
      → (state_in words ≡ 2 → state_in words' ≡ 2) → ((caller : ℕ) → caller < 16 → kept_in words' caller ≡ kept_in words caller)
      → IsWaiting state words steps → IsWaiting state words' steps
  waiting-left (at.State turn) words words' steps stays same come = come-left turn words words' steps stays come
  waiting-left (at.KeptWord turn caller) words words' steps stays same come = come-left turn words words' steps stays come
  waiting-left (at.SectionWord turn caller kept) words words' steps stays same waiting = (
    come-left turn words words' steps stays waiting.0,
    record {
      few = waiting.1.few;
      odd = waiting.1.odd;
      stands = λ here. same caller waiting.1.few ∙ waiting.1.stands here;
    },
  )
  waiting-left (at.Giving give) words words' steps stays same come = come-left give.slot words words' steps stays come

  -- ---- an operation

  -- what is so behind it, where the giving back goes on and where it has ended
  abbrev pub WaitsNext : List ℕ → List Did → ReturnTablesAt × Next (Unit {0}) → Type 0
  WaitsNext words steps next = GoesOrEnds (λ state. IsWaiting state words steps) (λ done. IsFreed steps) next

  -- behind a slot comes the next one
  next_slot-waits : (state : ReturnTablesAt) (turn : ℕ) (words : List ℕ) (steps : List Did) → HasCome (turn + 1) words steps
      → WaitsNext words steps (next_slot state turn)
  next_slot-waits state turn words steps come =
      by_test (λ t. WaitsNext words steps (cond t (at.State (turn + 1), Go) (state, Done tt))) (nat_lt (turn + 1) 8) (λ t. come)
      (λ f. let most = ltb-false (turn + 1) 8 f in come.freed (omega (arith, most, slot_in)))

  next_caller-waits : (turn caller : ℕ) (words : List ℕ) (steps : List Did) → HasCome turn words steps
      → WaitsNext words steps (next_caller g turn caller)
  next_caller-waits turn caller words steps come =
      by_test
      (λ t. WaitsNext words steps (cond t (at.KeptWord turn (caller + 1), Go) (at.Giving (give_table_new g turn), Go)))
      (nat_lt (caller + 1) g.callers) (λ t. come) (λ f. come)

  -- another slot is passed by
  come-passed : (turn : ℕ) (words : List ℕ) (steps : List Did) → turn ≢ slot → HasCome turn words steps → HasCome (turn + 1) words steps
  come-passed turn words steps other come = record {
    waits = λ low. come.waits (omega (arith, low));
    freed = λ past. come.freed (omega (arith, past, other));
  }

  module _ (words : List ℕ) (steps : List Did) (did : Did) (found : did.old ≡ old_of words did.op) where
    abbrev words' : List ℕ
    words' = applied words did.op

    abbrev all : List Did
    all = steps ++ did ∷ []

    come-same : (turn : ℕ) → state_in words' ≡ state_in words → HasCome turn words steps → HasCome turn words' all
    come-same turn same come = record {
      waits = λ low. same ∙ come.waits low;
      freed = λ past. Any-append_left (ReturnsSlot g slot) steps (did ∷ []) (come.freed past);
    }

    -- a load leaves all words
    loads-same : (place : ℕ) → did.op ≡ Load place → words' ≡ words
    loads-same place is = ap (applied words) is ∙ unchanged words (Load place) refl

    come-loaded : (turn place : ℕ) → did.op ≡ Load place → HasCome turn words steps → HasCome turn words' all
    come-loaded turn place is come = come-same turn (ap state_in (loads-same place is)) come

    come-apart : (turn : ℕ) → op_place did.op ≢ place_of g (Slot slot StateWord) → HasCome turn words steps → HasCome turn words' all
    come-apart turn apart come = come-same turn (applied-other words did.op (place_of g (Slot slot StateWord)) (λ same. apart (sym same))) come

    -- ---- a table is given back

    -- behind an operation of that the slot's turn isn't over, or it is
    abbrev GivesNext : ℕ → GiveTableAt × Next (Unit {0}) → Type 0
    GivesNext turn next = GoesOrEnds (λ state. HasCome turn words' all) (λ done. HasCome (turn + 1) words' all) next

    -- the page map and the words of pages stand behind the slots
    map-apart : (h : Geometry) (index : ℕ) → op_place did.op ≡ place_of h (PageMap index) → op_place did.op ≢ place_of g (Slot slot StateWord)
    map-apart h index on same = let order = parts_in_order h in omega (arith, on, same, slot_in, order.page_map)

    entry-apart : (h : Geometry) (index : ℕ) → op_place did.op ≡ place_of h (PageWord index) → op_place did.op ≢ place_of g (Slot slot StateWord)
    entry-apart h index on same =
        let order = parts_in_order h in omega (arith, on, same, slot_in, order.page_map, order.nodes, order.pages)

    -- the last operation frees the slot
    slot-freed : (turn : ℕ) → did.op ≡ Store (place_of g (Slot turn StateWord)) 0 → HasCome turn words steps → HasCome (turn + 1) words' all
    slot-freed turn is come = record {
      waits = λ low.
          applied-other words did.op (place_of g (Slot slot StateWord))
          (λ same. let on = ap op_place is in absurd (omega (arith, low, same, on)))
          ∙ come.waits (omega (arith, low));
      freed = λ past. elim (cases_eq turn slot) [
        | inl same ↦
            let stores = is ∙ ap (λ s. Store (place_of g (Slot s StateWord)) 0) same in
            Any-push (ReturnsSlot g slot) steps did (record {
              slot_in = slot_in;
              stores = stores;
              found = found ∙ ap (old_of words) stores ∙ come.waits (omega (arith, same));
            })
        | inr other ↦ Any-append_left (ReturnsSlot g slot) steps (did ∷ []) (come.freed (omega (arith, past, other)))
      ];
    }

    gives-next : (turn : ℕ) (state : GiveTableAt) → did.op ≡ give_table_plan_at g turn state → HasCome turn words steps
        → GivesNext turn (give_table_after_at g state did.old)
    gives-next turn gives.Shape is come = come-loaded turn _ is come
    gives-next turn (gives.Run give) is come = come-apart turn (map-apart give.geometry give.index (ap op_place is)) come
    gives-next turn (gives.TopEntry shape top) is come = come-loaded turn _ is come
    gives-next turn (gives.LeafEntry shape top page leaf) is come = come-loaded turn _ is come
    gives-next turn (gives.ClearLeaf shape top page leaf below) is come = come-apart turn (entry-apart g _ (ap op_place is)) come
    gives-next turn (gives.GiveLeaf shape top page leaf below) is come = come-apart turn (map-apart g _ (ap op_place is)) come
    gives-next turn (gives.ClearTop shape top page) is come = come-apart turn (entry-apart g _ (ap op_place is)) come
    gives-next turn (gives.GivePage shape top page) is come = come-apart turn (map-apart g _ (ap op_place is)) come
    gives-next turn (gives.GiveTop shape) is come = come-apart turn (map-apart g _ (ap op_place is)) come
    gives-next turn gives.FreeSlot is come = slot-freed turn is come

    gave-waits : (turn : ℕ) (h : Geometry) (next : GiveTableAt × Next (Unit {0})) → GivesNext turn next
        → WaitsNext words' all (given_back (record { geometry = h; slot = turn; at = next.0 }) next.1)
    gave-waits turn h (state, Go) come = come
    gave-waits turn h (state, Done tt) come =
        next_slot-waits (at.Giving (record { geometry = h; slot = turn; at = state })) turn words' all come

    -- ---- each state

    -- No odd word that is kept in the slot is the section word of its caller.
    abbrev pub HaveAllLeft : Type 0
    HaveAllLeft =
        (caller : ℕ) → caller < g.callers → kept_in words caller % 2 ≡ 1 → word_at g words (Section caller) ≢ kept_in words caller

    pub returns-waits : (state : ReturnTablesAt) → IsReturnTablesAtIn g state → did.op ≡ return_tables_plan_at g state → HaveAllLeft
        → IsWaiting state words steps → WaitsNext words' all (return_tables_after_at g state did.old)
    returns-waits (at.State turn) within is left come =
        let here = come-loaded turn _ is come in
        by_test (λ t. WaitsNext words' all (cond t (at.KeptWord turn 0, Go) (next_slot (at.State turn) turn))) (did.old == 2)
        (λ t. here)
        (λ f. next_slot-waits (at.State turn) turn words' all
        (come-passed turn words' all
        (λ same. eqb-false did.old 2 f
        (found ∙ ap (old_of words) is ∙ ap (λ s. word_at g words (Slot s StateWord)) same ∙ come.waits (omega (arith, same)))) here))
    returns-waits (at.KeptWord turn caller) within is left come =
        let here = come-loaded turn _ is come in
        by_test (λ t. WaitsNext words' all (cond t (at.SectionWord turn caller did.old, Go) (next_caller g turn caller))) (did.old % 2 == 1)
        (λ t. (
          here,
          record {
            few = let low = within.caller_in in let most = g.within.callers_within in omega (arith, low, most);
            odd = eqb-true (did.old % 2) 1 t;
            stands = λ same.
                ap (λ ws. kept_in ws caller) (loads-same _ is)
                ∙ ap (λ s. word_at g words (Slot s (LoadedSection caller))) (sym same) ∙ sym (found ∙ ap (old_of words) is);
          },
        ))
        (λ f. next_caller-waits turn caller words' all here)
    returns-waits (at.SectionWord turn caller kept) within is left waiting =
        let here = come-loaded turn _ is waiting.0 in
        let odd = waiting.1 in
        by_test (λ t. WaitsNext words' all (cond t (next_slot (at.SectionWord turn caller kept) turn) (next_caller g turn caller)))
        (did.old == kept)
        (λ t. next_slot-waits (at.SectionWord turn caller kept) turn words' all
        (come-passed turn words' all
        (λ same.
        let stands = odd.stands same in
        left caller within.caller_in (ap (λ w. w % 2) stands ∙ odd.odd)
        (sym (found ∙ ap (old_of words) is) ∙ eqb-true did.old kept t ∙ sym stands)) here))
        (λ f. next_caller-waits turn caller words' all here)
    returns-waits (at.Giving give) within is left come =
        subst (λ (h : Geometry). let next = give_table_after_at h give.at did.old in
        WaitsNext words' all (given_back (record { geometry = h; slot = give.slot; at = next.0 }) next.1)) (sym within.geometry_same)
        (gave-waits give.slot g (give_table_after_at g give.at did.old)
        (gives-next give.slot give.at (is ∙ ap (λ (h : Geometry). give_table_plan_at h give.slot give.at) within.geometry_same) come))
