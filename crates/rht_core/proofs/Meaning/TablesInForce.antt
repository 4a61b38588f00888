-- The tables in force, as the words have them, are those from the current one on, in the order in which they were attached.
use Rattle.std.proofs.Common.{◌≡◌, ◌≢◌, ℕ, zero, suc, ◌+◌, ◌-◌, ◌<◌, ◌≤◌, List, [], ◌∷◌, ◌++◌, length, Option, Some, None, true, cond, refl, sym, ◌∙◌, ap, subst, inl, inr, arith, map}
use Rattle.std.proofs.lemmas.Bool.{lt-ltb, le-ltb, cases_eq}
use Rattle.std.specs.List.{AllByRecursion, range_with_len}
use Rattle.rht_words.specs.declared.env.Env.{Env}
use Rattle.rht_words.specs.declared.geometry.Geometry.{Geometry}
use Rattle.rht_words.proofs.Memory.{Memory}
use Rattle.rht_words.specs.Links.{table_of, future_of, slot_of}
use Rattle.rht_words.specs.Places.{CurrentTable, Slot, FutureWord}
use Rattle.rht_words.proofs.LinksRead.{entries_come_back}
use Rattle.rht_words.specs.Members.{In, IsDistinct, NotIn}
use Rattle.rht_words.proofs.Members.{count_below-most, length-count_below}
use Rattle.rht_stands.specs.StandsFor.{in_force, tables_from}
use Rattle.rht_ghost.proofs.Theory.Ghosts.{Ghost, index_at}
use Rattle.rht_ghost.proofs.Theory.Wholes.{Whole, force-there, current-there, one_slot, AreThereFrom, IsAt, at-there}
use Rattle.rht_ghost.proofs.Theory.Knowledge.{IsFollowed}
use Rattle.rht_ghost.proofs.Theory.Steps.{mem}
use Rattle.rht_ghost.proofs.Moves.Attaching.{last_of_future}

module _ (env : Env) (mix : ℕ → ℕ → ℕ → ℕ) (words : List ℕ) (G : Ghost)
    (whole : Whole env mix (mem env mix words) G) where
  abbrev g : Geometry
  g = env.geometry

  abbrev M : Memory
  M = mem env mix words

  -- so it is of the current one, and of the next one where it is of this
  pub current_on : AreThereFrom G G.current
  current_on = force-there env mix whole.tables

  next_on : (τ : ℕ) → AreThereFrom G τ → AreThereFrom G (τ + 1)
  next_on τ there σ from = there σ (omega (arith, from))

  -- the slots of the tables from this one on, where the last ones are attached
  abbrev slots_from : ℕ → ℕ → List ℕ
  slots_from τ count = map (λ σ. (G.table σ).slot) (range_with_len τ count)

  -- the slot of the next table, where one is attached
  abbrev pub next_slot : ℕ → ℕ → Option ℕ
  next_slot τ zero = None
  next_slot τ (suc count) = Some (G.table τ).slot

  pub future-leads : (τ count : ℕ) → τ + 1 + count ≡ G.attached → AreThereFrom G τ
      → slot_of (M (Slot (G.table τ).slot FutureWord)) ≡ next_slot (τ + 1) count
  future-leads τ zero all there =
      ap slot_of ((whole.tables.each τ (there τ (omega arith) (omega (arith, all)))).future_is
      ∙ ap (λ t. cond t (future_of (G.table (τ + 1)).slot) 0) (le-ltb (τ + 1) G.attached (omega (arith, all))))
  future-leads τ (suc count) all there =
      let next = whole.tables.each (τ + 1) (there (τ + 1) (omega arith) (omega (arith, all))) in
      ap slot_of ((whole.tables.each τ (there τ (omega arith) (omega (arith, all)))).future_is
      ∙ ap (λ t. cond t (future_of (G.table (τ + 1)).slot) 0) (lt-ltb (τ + 1) G.attached (omega (arith, all))))
      ∙ entries_come_back.future_names (G.table (τ + 1)).slot next.slot_in

  -- the next table has another slot than the current one
  pub next_apart : (root next : ℕ) → IsFollowed env mix G root next → next ≢ root
  next_apart root next is same =
      let index : index_at G (G.table (G.current + 1)).slot ≡ index_at G (G.table G.current).slot =
      ap (index_at G) (is.future_is ∙ same ∙ sym is.root_is) in
      let later = (force-there env mix whole.tables (G.current + 1) (omega arith) is.more).index in
      let now = (current-there env mix whole.tables).index in
      omega (arith, index, later, now)

  -- so where the future of a table names a slot, that is the next table's
  pub record IsNextTable (τ slot : ℕ) : Type 0 where
    pub attached : τ + 1 < G.attached
    pub slot_is : (G.table (τ + 1)).slot ≡ slot

  pub next_named : (τ slot : ℕ) → AreThereFrom G τ → τ < G.attached
      → slot_of (M (Slot (G.table τ).slot FutureWord)) ≡ Some slot → IsNextTable τ slot
  next_named τ slot there l named = go (G.attached - (τ + 1)) refl
    where
      go : (count : ℕ) → G.attached - (τ + 1) ≡ count → IsNextTable τ slot
      go zero is =
          let none : ◌≡◌ {A = Option ℕ} None (Some slot) = sym (future-leads τ zero (omega (arith, is, l)) there) ∙ named in absurd (cc)
      go (suc count) is =
          let same : ◌≡◌ {A = Option ℕ} (Some (G.table (τ + 1)).slot) (Some slot) =
          sym (future-leads τ (suc count) (omega (arith, is, l)) there) ∙ named in
          record { attached = omega (arith, is); slot_is = cc }

  tables_met : (left τ count : ℕ) → count ≤ left → τ + count ≡ G.attached → AreThereFrom G τ
      → tables_from g words left (next_slot τ count) ≡ slots_from τ count
  tables_met zero τ zero fuel all there = refl
  tables_met (suc left) τ zero fuel all there = refl
  tables_met zero τ (suc count) fuel all there = absurd (omega (arith, fuel))
  tables_met (suc left) τ (suc count) fuel all there =
      ap (λ rest. (G.table τ).slot ∷ rest)
      (ap (tables_from g words left) (future-leads τ count (omega (arith, all)) there)
      ∙ tables_met left (τ + 1) count (omega (arith, fuel)) (omega (arith, all)) (next_on τ there))

  -- tables that are there have slots of their own, of which there are eight
  slots_apart : (τ σ count : ℕ) → τ < σ → σ + count ≡ G.attached → AreThereFrom G τ → NotIn (G.table τ).slot (slots_from σ count)
  slots_apart τ σ zero less all there = tt
  slots_apart τ σ (suc count) less all there = (
    (λ same.
        let first = there τ (omega arith) (omega (arith, less, all)) in
        let second = there σ (omega (arith, less)) (omega (arith, all)) in
        let e = one_slot G τ σ first second same in absurd (omega (arith, e, less))),
    slots_apart τ (σ + 1) count (omega (arith, less)) (omega (arith, all)) there,
  )

  slots_distinct : (τ count : ℕ) → τ + count ≡ G.attached → AreThereFrom G τ → IsDistinct (slots_from τ count)
  slots_distinct τ zero all there = tt
  slots_distinct τ (suc count) all there = (
    slots_apart τ (τ + 1) count (omega arith) (omega (arith, all)) there,
    slots_distinct (τ + 1) count (omega (arith, all)) (next_on τ there),
  )

  slots_below : (τ count : ℕ) → τ + count ≡ G.attached → AreThereFrom G τ → AllByRecursion (λ s. s < 8) (slots_from τ count)
  slots_below τ zero all there = tt
  slots_below τ (suc count) all there = (
    (whole.tables.each τ (there τ (omega arith) (omega (arith, all)))).slot_in,
    slots_below (τ + 1) count (omega (arith, all)) (next_on τ there),
  )

  slots_many : (τ count : ℕ) → length (slots_from τ count) ≡ count
  slots_many τ zero = refl
  slots_many τ (suc count) = ap suc (slots_many (τ + 1) count)

  -- how many tables are in force
  abbrev in_use : ℕ
  in_use = G.attached - G.current

  -- futures lead from each table to those that were attached behind it
  tables_behind : (τ : ℕ) → τ < G.attached → AreThereFrom G τ
      → tables_from g words 8 (Some (G.table τ).slot) ≡ slots_from τ (G.attached - τ)
  tables_behind τ l there = go (G.attached - τ) refl
    where
      go : (count : ℕ) → G.attached - τ ≡ count
          → tables_from g words 8 (Some (G.table τ).slot) ≡ slots_from τ count
      go zero is = absurd (omega (arith, is, l))
      go (suc count) is =
          let all : τ + suc count ≡ G.attached = omega (arith, is, l) in
          let few = length-count_below (λ s. true) 8 (slots_from τ (suc count))
          (slots_distinct τ (suc count) all there) (slots_below τ (suc count) all there) (λ s i. refl) in
          let most = count_below-most (λ s. true) 8 in
          let fuel : suc count ≤ 8 = omega (arith, few, most, slots_many τ (suc count)) in
          tables_met 8 τ (suc count) fuel all there

  pub current_slot : table_of (M CurrentTable) ≡ (G.table G.current).slot
  current_slot =
      let right = whole.tables.each G.current (current-there env mix whole.tables) in
      let word = whole.tables.current_is in omega (arith, right.slot_in, word)

  tables_in_force : in_force g words ≡ slots_from G.current in_use
  tables_in_force =
      ap (λ s. tables_from g words 8 (Some s)) current_slot ∙ tables_behind G.current whole.tables.current_in current_on

  -- none of them is met twice
  pub in_force_distinct : IsDistinct (in_force g words)
  in_force_distinct =
      subst IsDistinct (sym tables_in_force) (slots_distinct G.current in_use (let l = whole.tables.current_in in omega (arith, l))
      current_on)

  -- the last one is the one that was attached last, and it has no future
  slots_last : (τ count : ℕ) → slots_from τ (suc count) ≡ slots_from τ count ++ (G.table (τ + count)).slot ∷ []
  slots_last τ zero = ap (λ σ. (G.table σ).slot ∷ []) (let same : τ ≡ τ + zero = omega arith in same)
  slots_last τ (suc count) =
      ap (λ rest. (G.table τ).slot ∷ rest)
      (slots_last (τ + 1) count
      ∙ ap (λ σ. slots_from (τ + 1) count ++ (G.table σ).slot ∷ [])
      (let same : τ + 1 + count ≡ τ + suc count = omega arith in same))

  pub record IsLastTable (last : ℕ) : Type 0 where
    pub front : List ℕ
    pub split : in_force g words ≡ front ++ (G.table last).slot ∷ []
    pub none : M (Slot (G.table last).slot FutureWord) ≡ 0

  pub last_in_force : IsLastTable (G.attached - 1)
  last_in_force = go in_use refl
    where
      go : (count : ℕ) → in_use ≡ count → IsLastTable (G.attached - 1)
      go zero is = let l = whole.tables.current_in in absurd (omega (arith, l, is))
      go (suc count) is =
          let l = whole.tables.current_in in
          let at : G.current + count ≡ G.attached - 1 = omega (arith, l, is) in
          record {
            front = slots_from G.current count;
            split = tables_in_force ∙ ap (slots_from G.current) is ∙ slots_last G.current count
                ∙ ap (λ σ. slots_from G.current count ++ (G.table σ).slot ∷ []) at;
            none = (whole.tables.each (G.attached - 1) (force-there env mix whole.tables (G.attached - 1) (omega (arith, l)) (omega (arith, l)))).future_is
                ∙ ap (λ t. cond t (future_of (G.table (G.attached - 1 + 1)).slot) 0)
                (le-ltb (G.attached - 1 + 1) G.attached (omega (arith, l)));
          }

  -- a table in force is one of those from the current one on
  pub record IsTableInForce (slot : ℕ) : Type 0 where
    pub table : ℕ
    pub current : G.current ≤ table
    pub attached : table < G.attached
    pub slot_is : slot ≡ (G.table table).slot

  slot_in : (slot τ count : ℕ) → G.current ≤ τ → τ + count ≡ G.attached → In slot (slots_from τ count)
      → IsTableInForce slot
  slot_in slot τ zero low all i = absurd i
  slot_in slot τ (suc count) low all i = elim i [
    | inl e ↦ record { table = τ; current = low; attached = omega (arith, all); slot_is = e }
    | inr k ↦ slot_in slot (τ + 1) count (omega (arith, low)) (omega (arith, all)) k
  ]

  pub in_force_is : (slot : ℕ) → In slot (in_force g words) → IsTableInForce slot
  in_force_is slot i =
      slot_in slot G.current in_use (omega arith) (let l = whole.tables.current_in in omega (arith, l))
      (subst (In slot) tables_in_force i)

  in_slots : (τ σ count : ℕ) → σ ≤ τ → τ < σ + count → In (G.table τ).slot (slots_from σ count)
  in_slots τ σ zero low high = absurd (omega (arith, low, high))
  in_slots τ σ (suc count) low high = elim (cases_eq τ σ) [
    | inl e ↦ inl (ap (λ t. (G.table t).slot) e)
    | inr ne ↦ inr (in_slots τ (σ + 1) count (omega (arith, low, ne)) (omega (arith, high)))
  ]

  pub table_in_force : (τ : ℕ) → G.current ≤ τ → τ < G.attached → In (G.table τ).slot (in_force g words)
  table_in_force τ low high =
      subst (In (G.table τ).slot) (sym tables_in_force) (in_slots τ G.current in_use low (omega (arith, low, high)))

  -- so is one that has no future
  pub last_stands : (slot : ℕ) → IsAt G slot → M (Slot slot FutureWord) ≡ 0 → In slot (in_force g words)
  last_stands slot at none =
      let last = last_of_future env mix M G whole at.table (at-there at)
      (ap (λ s. M (Slot s FutureWord)) at.slot_is ∙ none) in
      let here = whole.tables.current_in in
      subst (λ s. In s (in_force g words)) at.slot_is (table_in_force at.table (omega (arith, last, here)) at.attached)

  -- from a table that is no more in force they lead to the current one, where it and all behind it are there
  pub leads_to_current : (τ : ℕ) → AreThereFrom G τ → τ ≤ G.current
      → In (table_of (M CurrentTable)) (tables_from g words 8 (Some (G.table τ).slot))
  leads_to_current τ there low =
      let here = whole.tables.current_in in
      subst (In (table_of (M CurrentTable))) (sym (tables_behind τ (omega (arith, low, here)) there))
      (subst (λ s. In s (slots_from τ (G.attached - τ))) (sym current_slot)
      (in_slots G.current τ (G.attached - τ) low (omega (arith, low, here))))
