-- Which table a slot has is known by the table's index while a section stays open that comes to the table, with the shape that it had. So it is
-- of each slot that the words named before some event as that of the current table, or as the future of one that had a table.
use Rattle.std.proofs.Common.{◌≡◌, ◌⊎◌, ℕ, ◌%◌, true, ◌+◌, ◌<◌, ◌≤◌, List, [], ◌∷◌, ◌++◌, length, take, drop, sym, ap, ◌∙◌, subst, inl, inr, arith}
use Rattle.std.specs.Prelude.{Some}
use Rattle.std.proofs.Math.Seq.{take-length}
use Rattle.std.proofs.lemmas.Bool.{cases_lt}
use Rattle.std.proofs.lemmas.List.{length_push, length-take-le, take-append-drop, take-take}
use Rattle.rht_words.specs.declared.env.Env.{Env}
use Rattle.rht_words.specs.declared.geometry.Geometry.{Geometry}
use Rattle.rht_words.specs.Links.{table_of, slot_of}
use Rattle.rht_words.specs.Places.{CurrentTable, Section, Slot, ShapeWord, FutureWord, word_at, Section}
use Rattle.rht_words.proofs.EachElement.{AllByRecursion-cut}
use Rattle.rht_core.specs.declared.event.Event.{Event}
use Rattle.rht_core.specs.Runs.{World, run_of, world_step, IsAdmitted, IsAdmittedEvent}
use Rattle.rht_core.specs.Seen.{words_before}
use Rattle.rht_ghost.proofs.Theory.Ghosts.{Ghost, IsSince}
use Rattle.rht_ghost.proofs.Theory.Wholes.{Whole, IsAt, current-at, there_behind}
use Rattle.rht_ghost.proofs.Theory.Knowledge.{ReadsFrom, since-current, since-later}
use Rattle.rht_ghost.proofs.Theory.Reliance.{since-low}
use Rattle.rht_ghost.proofs.Theory.Passed.{at-from, GrowsFrom}
use Rattle.rht_ghost.proofs.Theory.Steps.{mem}
use Rattle.rht_ghost.proofs.Pieces.TableLoads.{shape_word}
use Rattle.rht_core.proofs.Meaning.TablesInForce.{current_slot, next_named}
use Rattle.rht_core.proofs.Events.Worlds.{induct_by_last, take-push, run_of-push}
use Rattle.rht_core.proofs.Events.RangesInRuns.{AllIn, opens-all, event-all}
use Rattle.rht_core.proofs.Events.Invariants.{Inv, kept}
use Rattle.rht_core.proofs.Events.SectionsInRuns.{AreRight, section_parity}
use Rattle.rht_core.proofs.Events.UnturnedSections.{section_at, IsUnturned, unturned-first, unturned-last, unturned-on, unturned-same, event_leaves, open_odd, right_then, from_stays}
use Rattle.rht_core.proofs.Events.InvariantRuns.{opening_ghost, opening_inv}

-- the caller's section is open before this event, and its word stays up to that one
pub record IsInside (g : Geometry) (words_at : ℕ → List ℕ) (c from upto : ℕ) : Type 0 where
  pub odd : word_at g (words_at from) (Section c) % 2 ≡ 1
  pub unturned : IsUnturned g words_at c from upto

-- By the words before this event the slot had a table: it was the current one's, or that of the future of such a one. Or it had one by those
-- before an earlier event, since which the caller's section stayed open.
pub data HadTable (g : Geometry) (words_at : ℕ → List ℕ) (c : ℕ) : ℕ → ℕ → Type 0 where
  as_current : (i slot : ℕ) → table_of (word_at g (words_at i) CurrentTable) ≡ slot → HadTable g words_at c i slot
  as_future :
      (i front slot : ℕ) → HadTable g words_at c i front → slot_of (word_at g (words_at i) (Slot front FutureWord)) ≡ Some slot
      → HadTable g words_at c i slot
  as_before : (i j slot : ℕ) → HadTable g words_at c i slot → IsInside g words_at c i j → HadTable g words_at c j slot

module _ (g : Geometry) (c : ℕ) where
  -- the same words up to an event say the same
  inside-same : (n : ℕ) (one other : ℕ → List ℕ) → ((i : ℕ) → i ≤ n → one i ≡ other i) → (from upto : ℕ) → upto ≤ n
      → IsInside g one c from upto → IsInside g other c from upto
  inside-same n one other same from upto within inside =
      let later = inside.unturned.later in
      record {
        odd = subst (λ ws. word_at g ws (Section c) % 2 ≡ 1) (same from (omega (arith, later, within))) inside.odd;
        unturned = unturned-same g one other c n same from upto within inside.unturned;
      }

  HadTable-same : (n : ℕ) (one other : ℕ → List ℕ) → ((i : ℕ) → i ≤ n → one i ≡ other i) → (i slot : ℕ) → i ≤ n
      → HadTable g one c i slot → HadTable g other c i slot
  HadTable-same n one other same _ _ low (as_current i slot is) =
      as_current i slot (subst (λ ws. table_of (word_at g ws CurrentTable) ≡ slot) (same i low) is)
  HadTable-same n one other same _ _ low (as_future i front slot had leads) =
      as_future i front slot (HadTable-same n one other same i front low had)
      (subst (λ ws. slot_of (word_at g ws (Slot front FutureWord)) ≡ Some slot) (same i low) leads)
  HadTable-same n one other same _ _ low (as_before i j slot had inside) =
      let later = inside.unturned.later in
      as_before i j slot (HadTable-same n one other same i slot (omega (arith, low, later)) had)
      (inside-same n one other same i j low inside)

  -- it is so up to an event between, and from there on
  module _ (words_at : ℕ → List ℕ) where
    inside-first : (from upto last : ℕ) → IsInside g words_at c from last → from ≤ upto → upto ≤ last → IsInside g words_at c from upto
    inside-first from upto last inside later within =
        record { odd = inside.odd; unturned = unturned-first g words_at c from upto last inside.unturned later within }

    inside-last : (first from upto : ℕ) → IsInside g words_at c first upto → first ≤ from → from ≤ upto → IsInside g words_at c from upto
    inside-last first from upto inside later within = record {
      odd = ap (λ word. word % 2) (inside.unturned.same from later within) ∙ inside.odd;
      unturned = unturned-last g words_at c first from upto inside.unturned later within;
    }

    inside-on : (from between upto : ℕ) → IsInside g words_at c from between → IsInside g words_at c between upto
        → IsInside g words_at c from upto
    inside-on from between upto one other =
        record { odd = one.odd; unturned = unturned-on g words_at c from between upto one.unturned other.unturned }

    -- at an event, or since then the section stayed open
    abbrev pub IsHere : ℕ → ℕ → Type 0
    IsHere from upto = (from ≡ upto) ⊎ IsInside g words_at c from upto

module _ (env : Env) (mix : ℕ → ℕ → ℕ → ℕ) where
  abbrev g : Geometry
  g = env.geometry

  -- The slot's table is known, of the shape that it had by the words then. Where the caller's section is open it comes to that.
  pub record HasStayed (c : ℕ) (G : Ghost) (was now : List ℕ) (slot : ℕ) : Type 0 where
    pub at : IsAt G slot
    pub since : word_at g now (Section c) % 2 ≡ 1 → IsSince (G.from c) at.table
    pub shape : word_at g was (Slot slot ShapeWord) ≡ word_at g now (Slot slot ShapeWord)

  -- so has each that had one, at this event, or since then the section stayed open
  abbrev pub TablesStayed : (ℕ → List ℕ) → ℕ → Ghost → ℕ → Type 0
  TablesStayed words_at c G now =
      (i slot : ℕ) → IsHere g c words_at i now → HadTable g words_at c i slot → HasStayed c G (words_at i) (words_at now) slot

  here_within : (words_at : ℕ → List ℕ) (c i now : ℕ) → IsHere g c words_at i now → i ≤ now
  here_within words_at c i now (inl same) = omega (arith, same)
  here_within words_at c i now (inr inside) = inside.unturned.later

  here-same : (one other : ℕ → List ℕ) (c now : ℕ) → ((i : ℕ) → i ≤ now → one i ≡ other i) → (i : ℕ) → IsHere g c one i now
      → IsHere g c other i now
  here-same one other c now same i (inl here) = inl here
  here-same one other c now same i (inr inside) = inr (inside-same g c now one other same i now (omega arith) inside)

  pub TablesStayed-same : (one other : ℕ → List ℕ) (c : ℕ) (G : Ghost) (now : ℕ) → ((i : ℕ) → i ≤ now → one i ≡ other i)
      → TablesStayed one c G now → TablesStayed other c G now
  TablesStayed-same one other c G now same stayed i slot here had =
      let low = here_within other c i now here in
      let back : (j : ℕ) → j ≤ now → other j ≡ one j = λ j few. sym (same j few) in
      let is = stayed i slot (here-same other one c now back i here) (HadTable-same g c now other one back i slot low had) in
      record {
        at = is.at;
        since = λ odd. is.since (subst (λ ws. word_at g ws (Section c) % 2 ≡ 1) (back now (omega arith)) odd);
        shape = sym (ap (λ ws. word_at g ws (Slot slot ShapeWord)) (same i low)) ∙ is.shape
            ∙ ap (λ ws. word_at g ws (Slot slot ShapeWord)) (same now (omega arith));
      }

  -- ---- by the words of one moment

  module _ (words : List ℕ) (G : Ghost) (whole : Whole env mix (mem env mix words) G) where
    abbrev current_at : (slot : ℕ) → table_of (word_at g words CurrentTable) ≡ slot → IsAt G slot
    current_at slot is = current-at env mix whole.tables slot (sym (current_slot env mix words G whole) ∙ is)

    abbrev future_at : (front slot : ℕ) → IsAt G front → slot_of (word_at g words (Slot front FutureWord)) ≡ Some slot → IsAt G slot
    future_at front slot at leads =
        let next = next_named env mix words G whole at.table slot at.on at.attached
        (subst (λ s. slot_of (word_at g words (Slot s FutureWord)) ≡ Some slot) (sym at.slot_is) leads) in
        record {
          table = at.table + 1;
          attached = next.attached;
          slot_is = next.slot_is;
          on = there_behind G at.table at.on;
        }

  -- where tables from one on grow from one moment to another
  grown : (was now : List ℕ) (low : ℕ) (G G' : Ghost) → Whole env mix (mem env mix was) G → Whole env mix (mem env mix now) G'
      → GrowsFrom env mix low G G' → (slot : ℕ) (at : IsAt G slot) → low ≤ at.table
      → (word_at g was (Slot slot ShapeWord) ≡ word_at g now (Slot slot ShapeWord))
  grown was now low G G' whole then grow slot at from =
      let after = at-from env mix low G G' grow slot at from in
      shape_word env mix (mem env mix was) G whole slot at ∙ sym (grow.tables at.table at.attached).shape
      ∙ sym (shape_word env mix (mem env mix now) G' then slot after)

  -- what was so before this event, and what the words say now
  module _ (words_at : ℕ → List ℕ) (c : ℕ) (G : Ghost) (now : ℕ) (whole : Whole env mix (mem env mix (words_at now)) G)
      (reads : word_at g (words_at now) (Section c) % 2 ≡ 1 → ReadsFrom true (G.from c) G.current)
      (early : (i slot : ℕ) → i < now → IsInside g words_at c i now → HadTable g words_at c i slot
      → HasStayed c G (words_at i) (words_at now) slot) where
    here : (i slot : ℕ) → i ≡ now → (at : IsAt G slot)
        → (word_at g (words_at now) (Section c) % 2 ≡ 1 → IsSince (G.from c) at.table)
        → HasStayed c G (words_at i) (words_at now) slot
    here i slot same at since =
        record { at = at; since = since; shape = ap (λ n. word_at g (words_at n) (Slot slot ShapeWord)) same }

    -- before this event, or at it
    sooner : (i : ℕ) → IsHere g c words_at i now → ((i < now) × IsInside g words_at c i now) ⊎ (i ≡ now)
    sooner i (inl same) = inr same
    sooner i (inr inside) = elim (cases_lt i now) [
      | inl less ↦ inl (less, inside)
      | inr least ↦ let later = inside.unturned.later in inr (omega (arith, least, later))
    ]

    pub stayed_now : TablesStayed words_at c G now
    stayed_now _ _ is_here (as_current i slot is) = elim (sooner i is_here) [
      | inl less ↦ early i slot less.0 less.1 (as_current i slot is)
      | inr same ↦
          here i slot same
          (current_at (words_at now) G whole slot (subst (λ n. table_of (word_at g (words_at n) CurrentTable) ≡ slot) same is))
          (λ odd. since-current (G.from c) G.current (reads odd))
    ]
    stayed_now _ _ is_here (as_future i front slot had leads) = elim (sooner i is_here) [
      | inl less ↦ early i slot less.0 less.1 (as_future i front slot had leads)
      | inr same ↦
          let before = stayed_now i front is_here had in
          here i slot same
          (future_at (words_at now) G whole front slot before.at
          (subst (λ n. slot_of (word_at g (words_at n) (Slot front FutureWord)) ≡ Some slot) same leads))
          (λ odd. since-later (G.from c) before.at.table (before.at.table + 1) (omega arith) (before.since odd))
    ]
    stayed_now _ _ is_here (as_before i j slot had inside) = elim (sooner j is_here) [
      | inl less ↦ early j slot less.0 less.1 (as_before i j slot had inside)
      | inr same ↦
          let before = stayed_now i slot (inr (subst (IsInside g words_at c i) same inside)) had in
          here j slot same before.at before.since
    ]

  -- ---- a run

  module _ (L : Type 0) where
    -- the invariant with a ghost by which each slot has its table still that had one to which a caller's section comes
    pub record HasTables (events : List Event) : Type 0 where
      pub ghost : Ghost
      pub inv : Inv env mix L (run_of mix env events).core ghost
      pub all : AllIn L mix env (run_of {M = L} mix env events).core
      pub right : AreRight env mix L (run_of {M = L} mix env events).core
      pub stayed : (c : ℕ) → c < 16 → TablesStayed (words_before L mix env events) c ghost (length events)

    -- the words before the event behind all of these
    words_now : (events : List Event) → words_before L mix env events (length events) ≡ (run_of {M = L} mix env events).core.words
    words_now events = ap (λ (es : List Event). (run_of {M = L} mix env es).core.words) (take-length events)

    -- by these the section of a caller is open where its word is odd
    reads_now : (events : List Event) (G : Ghost) → Inv env mix L (run_of mix env events).core G
        → AreRight env mix L (run_of {M = L} mix env events).core → (c : ℕ) → c < 16
        → word_at g (words_before L mix env events (length events)) (Section c) % 2 ≡ 1 → ReadsFrom true (G.from c) G.current
    reads_now events G inv right c few odd =
        open_odd env mix L (run_of mix env events).core G inv right c few
        (subst (λ ws. word_at g ws (Section c) % 2 ≡ 1) (words_now events) odd)

    opening_tables : HasTables []
    opening_tables =
        let right = section_parity env mix L [] tt in
        record {
          ghost = opening_ghost env;
          inv = opening_inv env mix L;
          all = opens-all L mix env;
          right = right;
          stayed = λ c few. stayed_now (words_before L mix env []) c (opening_ghost env) 0 (opening_inv env mix L).whole
              (reads_now [] (opening_ghost env) (opening_inv env mix L) right c few)
              (λ i slot low. absurd (omega (arith, low)));
        }

    event_tables : (events : List Event) (event : Event) → IsAdmittedEvent event → HasTables events
        → HasTables (events ++ event ∷ [])
    event_tables events event may has =
        let more = events ++ event ∷ [] in
        let n = length events in
        let w : World L = run_of mix env events in
        let k = kept env mix L w.core has.ghost event has.all has.inv in
        let same = sym (run_of-push L mix env events event) in
        let inv : Inv env mix L (run_of mix env more).core k.ghost = subst (λ (v : World L). Inv env mix L v.core k.ghost) same k.inv in
        let right : AreRight env mix L (run_of {M = L} mix env more).core =
        subst (λ (v : World L). AreRight env mix L v.core) same (right_then env mix L w has.ghost event may has.all has.inv has.right) in
        let stay = (event_leaves env mix L w has.ghost event has.all has.inv).stay in
        let words_at = words_before L mix env more in
        let longer : length more ≡ n + 1 = length_push events event in
        let whole = subst (λ ws. Whole env mix (mem env mix ws) k.ghost) (sym (words_now more)) inv.whole in
        let agree : (i : ℕ) → i ≤ n → words_at i ≡ words_before L mix env events i =
        λ i low. ap (λ (es : List Event). (run_of {M = L} mix env es).core.words) (take-push events event i low) in
        let section_then : (c : ℕ) → section_at g words_at c (length more) ≡ word_at g (world_step mix w event).core.words (Section c) =
        λ c. ap (λ ws. word_at g ws (Section c)) (words_now more) ∙ ap (λ (v : World L). word_at g v.core.words (Section c)) (sym same) in
        let section_was : (c : ℕ) → section_at g words_at c n ≡ word_at g w.core.words (Section c) =
        λ c. ap (λ ws. word_at g ws (Section c)) (agree n (omega arith) ∙ words_now events) in
        record {
          ghost = k.ghost;
          inv = inv;
          all = subst (λ (v : World L). AllIn L mix env v.core) same (event-all L mix env w event may has.all);
          right = right;
          stayed = λ c few. stayed_now words_at c k.ghost (length more) whole (reads_now more k.ghost inv right c few)
              (λ i slot low inside had.
              let early : i ≤ n = omega (arith, low, longer) in
              let before = inside-first g c words_at i n (length more) inside early (omega (arith, longer)) in
              let is = has.stayed c few i slot
              (inr (inside-same g c n words_at (words_before L mix env events) agree i n (omega arith) before))
              (HadTable-same g c n words_at (words_before L mix env events) agree i slot early had) in
              let odd : word_at g w.core.words (Section c) % 2 ≡ 1 =
              ap (λ word. word % 2) (sym (section_was c) ∙ before.unturned.same n early (omega arith)) ∙ before.odd in
              let since = is.since (subst (λ ws. word_at g ws (Section c) % 2 ≡ 1) (sym (words_now events)) odd) in
              let from = since-low env mix stay c is.at.table since in
              let left = sym (section_then c) ∙ inside.unturned.same (length more) inside.unturned.later (omega arith)
              ∙ sym (inside.unturned.same n early (omega (arith, longer))) ∙ section_was c in
              let reader = from_stays env mix L w has.ghost event may has.all has.inv has.right c few odd left in
              record {
                at = at-from env mix stay.low has.ghost k.ghost stay.grow slot is.at from;
                since = λ reads. subst (λ first. IsSince first is.at.table) (sym reader) since;
                shape = ap (λ ws. word_at g ws (Slot slot ShapeWord)) (agree i early) ∙ is.shape
                    ∙ ap (λ ws. word_at g ws (Slot slot ShapeWord)) (words_now events)
                    ∙ grown w.core.words (words_at (length more)) stay.low has.ghost k.ghost has.inv.whole whole stay.grow slot is.at from;
              });
        }

    -- by induction over the events
    pub has_tables : (events : List Event) → IsAdmitted events → HasTables events
    has_tables =
        induct_by_last (λ es. IsAdmitted es → HasTables es)
        (λ none. opening_tables)
        (λ es event each all.
        let parts = AllByRecursion-cut IsAdmittedEvent es (event ∷ []) all in
        event_tables es event parts.1.0 (each parts.0))

    -- and behind the first events of a longer run
    pub tables_at : (events : List Event) (n : ℕ) → n ≤ length events → IsAdmitted events → (c : ℕ) → c < 16
        → (front : HasTables (take n events)) × TablesStayed (words_before L mix env events) c front.ghost n
    tables_at events n low admitted c few =
        let parts = AllByRecursion-cut IsAdmittedEvent (take n events) (drop n events)
        (subst IsAdmitted (sym (take-append-drop n events)) admitted) in
        let front = has_tables (take n events) parts.0 in
        let stayed = subst (TablesStayed (words_before L mix env (take n events)) c front.ghost) (length-take-le n events low)
        (front.stayed c few) in (
          front,
          TablesStayed-same (words_before L mix env (take n events)) (words_before L mix env events) c front.ghost n
              (λ i few. ap (λ (es : List Event). (run_of {M = L} mix env es).core.words) (take-take i n events few)) stayed,
        )
