-- What a walk knows outlives an operation of anybody.
use Rattle.std.proofs.Common.{◌≡◌, ◌⊎◌, ℕ, ◌+◌, ◌<◌, ◌≤◌, Bool, true, List, [], Option, Some, None, refl, sym, ◌∙◌, ap, subst, inl, inr, arith, ◌∷◌, ◌/◌}
use Rattle.std.specs.List.{AllByRecursion}
use Rattle.rht_words.specs.declared.env.Env.{Env}
use Rattle.rht_words.specs.Members.{In}
use Rattle.rht_words.specs.Standing.{Standing, stands_nowhere}
use Rattle.rht_words.proofs.Memory.{Memory}
use Rattle.rht_model.specs.declared.history.Cursor.{Cursor}
use Rattle.rht_walk.specs.WalkLaws.{first_bucket}
use Rattle.rht_walk.specs.WalkStanding.{standing_of_walk}
use Rattle.rht_walk.specs.declared.walk.Visit.{Visit}
use Rattle.rht_walk.specs.declared.walk.Chain.{Chain}
use Rattle.rht_walk.specs.declared.walk.WalkEnd.{WalkEnd}
use Rattle.rht_walk.specs.declared.walk.WalkEnd.TheVariants as ends
use Rattle.rht_walk.specs.declared.walk.WalkAt.{WalkAt}
use Rattle.rht_walk.specs.declared.walk.WalkAt.TheVariants as at
use Rattle.rht_ghost.proofs.Theory.Ghosts.{Ghost, index_at, PageOf, table_of_page, table_at}
use Rattle.rht_ghost.proofs.Theory.Passed.{GrowsFrom, hash-from}
use Rattle.rht_ghost.proofs.Theory.Wholes.{key_of, hash_in, word_index, Whole, AreFrom}
use Rattle.rht_ghost.proofs.Theory.Wholes as wholes
use Rattle.rht_core.proofs.Finding.Deaths.{IsLate}
use Rattle.rht_core.proofs.Finding.LooksGiven.{node_at}
use Rattle.rht_core.proofs.Finding.LooksSeen.{stage-seen}
use Rattle.rht_core.proofs.Finding.Places.{Places}
use Rattle.rht_core.proofs.Finding.PlacesThen.{StagesOutlive, PlacesKept}
use Rattle.rht_core.proofs.Finding.Stages.{Stage, tables_at, Reaching, AtKey, AtLink, Owning, StageMeans}
use Rattle.rht_core.proofs.Returning.TiedWalks.{tied_of_walk}
use Rattle.rht_core.proofs.Walking.ShownNodes.{map-agree}
use Rattle.rht_core.proofs.Walking.WalkFacts.{SaidOf, EndKnown, EndsAt, HasWalkedTo, RoomKnown, IsPassed, BucketsKnown, OfTable, IsNew, IsAt, IsBehind, IsInChain, HereAtKey, HereAtLink, IsAtOwner, IsAtEnd, WalkMeans}
use Rattle.rht_core.proofs.Walking.SlotsOfTables.{IsAttached, index_is, index_stays, attached_stays, attached_at, at_attached}

module _ (env : Env) (mix : ℕ → ℕ → ℕ → ℕ) (from : Option Cursor) (begin now : ℕ) (Missed WasLast : ℕ → Type 0)
    (Missed' WasLast' : ℕ → Type 0) (missed : (port : ℕ) → Missed port → Missed' port) (was_last : (τ : ℕ) → WasLast τ → WasLast' τ)
    (items : List (ℕ × ℕ)) (M : Memory) (G : Ghost) (P : Places) (whole : Whole env mix M G)
    (M' : Memory) (G' : Ghost) (base : ℕ) (grow : GrowsFrom env mix base G G') where
  -- ---- tables

  -- the slot has a table, and it is one that stays
  record IsKept (slot : ℕ) : Type 0 where
    has : IsAttached G slot
    stays : base ≤ index_at G slot

  only_from : (slot : ℕ) → IsKept slot → AreFrom base G (slot ∷ [])
  only_from slot kept other (inl e) at =
      let same = ap (index_at G) e in
      let index = index_is env mix M G whole other at in
      let from = kept.stays in
      omega (arith, same, index, from)
  only_from slot kept other (inr none) at = absurd none

  index_still : (slot : ℕ) → IsKept slot → index_at G' slot ≡ index_at G slot
  index_still slot kept = index_stays env mix M G whole base G' grow slot kept.has kept.stays

  number_same : (slot : ℕ) → IsKept slot → (port : ℕ)
      → hash_in env mix G' port (index_at G' slot) ≡ hash_in env mix G port (index_at G slot)
  number_same slot of port =
      ap (hash_in env mix G' port) (index_still slot of) ∙ hash-from env mix base G G' grow port (index_at G slot) of.has.attached

  -- the last table was the last one
  last_was : (τ : ℕ) → τ < G.attached → τ + 1 ≡ G'.attached → τ + 1 ≡ G.attached
  last_was τ low last = let more = grow.attached in omega (arith, low, last, more)

  slot_last : (slot : ℕ) → IsKept slot → index_at G' slot + 1 ≡ G'.attached → index_at G slot + 1 ≡ G.attached
  slot_last slot of last =
      last_was (index_at G slot) of.has.attached (ap (λ t. t + 1) (sym (index_still slot of)) ∙ last)

  said : (port : ℕ) → SaidOf Missed items port → SaidOf Missed' items port
  said port (inl was) = inl (missed port was)
  said port (inr shown) = inr shown

  -- ---- a walk that has come to its end

  known_still : (τ first upto : ℕ) → τ < G.attached → EndKnown env mix G τ first upto Missed items
      → EndKnown env mix G' τ first upto Missed' items
  known_still τ first upto low known =
      let same : (port : ℕ) → hash_in env mix G' port τ ≡ hash_in env mix G port τ = λ port. hash-from env mix base G G' grow port τ low in
      record {
        shown = λ port least less. said port
            (known.shown port (subst (λ h. first ≤ h) (same port) least) (subst (λ h. h < upto) (same port) less));
        within = λ port there.
            let is = known.within port there in
            (subst (λ h. first ≤ h) (sym (same port)) is.0, subst (λ h. h < upto) (sym (same port)) is.1);
        distinct = known.distinct;
      }

  ends_still : (τ serial upto all all' : ℕ) → τ < all → all ≤ G.attached → all ≤ all' → (next : Option Cursor)
      → EndsAt env mix G all WasLast (EndKnown env mix G τ (first_bucket from) upto Missed items) τ serial upto next
      → EndsAt env mix G' all' WasLast' (EndKnown env mix G' τ (first_bucket from) upto Missed' items) τ serial upto next
  ends_still τ serial upto all all' low few more None is =
      let below : τ < G.attached = omega (arith, low, few) in (
        was_last τ is.0,
        λ port. subst (λ h. h < upto) (sym (hash-from env mix base G G' grow port τ below)) (is.1 port),
        known_still τ (first_bucket from) upto below is.2,
      )
  ends_still τ serial upto all all' low few more (Some cursor) is = (
    is.0,
    is.1,
    λ last. known_still τ (first_bucket from) upto (omega (arith, low, few)) (is.2 (omega (arith, low, last, more))),
  )

  -- of which so many tables were attached, or more by now
  pub walked_still : (all all' : ℕ) → all ≤ G.attached → all ≤ all' → (next : Option Cursor)
      → HasWalkedTo env mix G all from Missed WasLast items next
      → HasWalkedTo env mix G' all' from Missed' WasLast' items next
  walked_still all all' few more next walked =
      let below = walked.attached in
      let low : walked.table < G.attached = omega (arith, below, few) in
      record {
        table = walked.table;
        serial = walked.serial;
        shape = walked.shape;
        upto = walked.upto;
        low = walked.low;
        attached = omega (arith, below, more);
        serial_is = (grow.tables walked.table low).serial ∙ walked.serial_is;
        fits = walked.fits;
        ends = ends_still walked.table walked.serial walked.upto all all' below few more next walked.ends;
      }

  -- ---- one that goes on

  module _ (met : ℕ → Bool) (P' : Places) (stages : StagesOutlive env mix now base M G P M' G' P' met)
      (kept : PlacesKept base G P P' met) (now' : ℕ) (later : now ≤ now')
      (absent : (port : ℕ) → G'.bound port ≡ [] → Missed' port)
      (seen seen' : ℕ → Bool) (seen_met : (n : ℕ) → seen n ≡ true → met n ≡ true) where
    abbrev Before : WalkAt → Type 0
    Before = WalkMeans env mix from begin now Missed WasLast seen items M G P

    abbrev Then : WalkAt → Type 0
    Then = WalkMeans env mix from begin now' Missed' WasLast' seen' items M' G' P'

    end_still : (end : WalkEnd) → Before (at.Closing end) → Then (at.Closing end)
    end_still (ends.Walked next) walked = walked_still G.attached G'.attached (omega arith) grow.attached next walked
    end_still (ends.Again table) known = tt

    module _ (keeps : (n : ℕ) → seen n ≡ true → seen' n ≡ true) where
      stage_then : (port since : ℕ) → since ≤ now → (stage : Stage) → AllByRecursion (λ n. seen n ≡ true) (node_at stage)
          → AreFrom base G (tables_at stage)
          → StageMeans env mix port seen since (SaidOf Missed items port) M G P stage
          → StageMeans env mix port seen' since (SaidOf Missed' items port) M' G' P' stage
      stage_then port since began stage stood from_base known =
          stage-seen env mix port seen seen' since M' G' P' keeps (SaidOf Missed' items port) stage
          (stages port seen since began (SaidOf Missed items port) (SaidOf Missed' items port) (said port)
          (λ none. inl (absent port none)) seen_met stage stood from_base known)

      -- a node that its section has met
      node_then : (since n : ℕ) → since ≤ now → seen n ≡ true → IsLate env G P since n
          → IsLate env G' P' since n × (key_of M' n ≡ key_of M n)
      node_then since n began is late =
          stage_then (key_of M n) since began (Owning n) (is, tt) (λ slot there at. absurd there) (late, refl)

      room_then : (slot : ℕ) → IsKept slot → (Where Where' : ℕ → Type 0)
          → ((n : ℕ) → seen n ≡ true → key_of M' n ≡ key_of M n → Where n → Where' n)
          → RoomKnown env mix from begin now Missed WasLast seen items M G P slot Where
          → RoomKnown env mix from begin now' Missed' WasLast' seen' items M' G' P' slot Where'
      room_then slot of Where Where' so room =
          let key : (n : ℕ) → In n room.nodes → key_of M' n ≡ key_of M n = λ n i.
          let is = (room.each n i).0 in (node_then 0 n (omega arith) is.met is.late).1 in
          record {
            nodes = room.nodes;
            keys = room.keys ∙ sym (map-agree (key_of M) (key_of M') room.nodes key);
            each = λ n i.
                let is = room.each n i in
                let same = number_same slot of (key_of M n) in (
                  record {
                    met = keeps n is.0.met;
                    late = (node_then 0 n (omega arith) is.0.met is.0.late).0;
                    from_first = subst (λ k. first_bucket from ≤ hash_in env mix G' k (index_at G' slot)) (sym (key n i))
                        (subst (λ h. first_bucket from ≤ h) (sym same) is.0.from_first);
                  },
                  so n is.0.met (key n i) is.1,
                );
            distinct = room.distinct;
          }

      -- the number of the bucket of a node's port is the same
      node_number : (slot n : ℕ) → IsKept slot → key_of M' n ≡ key_of M n
          → hash_in env mix G' (key_of M' n) (index_at G' slot) ≡ hash_in env mix G (key_of M n) (index_at G slot)
      node_number slot n of key = ap (λ k. hash_in env mix G' k (index_at G' slot)) key ∙ number_same slot of (key_of M n)

      before_then : (slot b : ℕ) → IsKept slot → (n : ℕ) → seen n ≡ true → key_of M' n ≡ key_of M n
          → hash_in env mix G (key_of M n) (index_at G slot) < b → hash_in env mix G' (key_of M' n) (index_at G' slot) < b
      before_then slot b of n is key less = subst (λ h. h < b) (sym (node_number slot n of key)) less

      passed_then : (slot b j least since : ℕ) → IsKept slot → base ≤ table_at G j → (n : ℕ) → seen n ≡ true → key_of M' n ≡ key_of M n
          → IsPassed env mix from begin now Missed WasLast seen items M G P slot b j least since n
          → IsPassed env mix from begin now' Missed' WasLast' seen' items M' G' P' slot b j least since n
      passed_then slot b j least since of from_base n is key (inl before) = inl (before_then slot b of n is key before)
      passed_then slot b j least since of from_base n is key (inr above) = inr (record {
        here = node_number slot n of key ∙ above.here;
        at = above.at;
        is = kept j n above.at (seen_met n is) from_base above.is;
        high = above.high;
        early = above.early;
      })

      buckets_then : (slot b : ℕ) → IsKept slot → (Here Here' Where Where' : ℕ → Type 0) → ((port : ℕ) → Here port → Here' port)
          → ((n : ℕ) → seen n ≡ true → key_of M' n ≡ key_of M n → Where n → Where' n)
          → BucketsKnown env mix from begin now Missed WasLast seen items M G P slot b Here Where
          → BucketsKnown env mix from begin now' Missed' WasLast' seen' items M' G' P' slot b Here' Where'
      buckets_then slot b of Here Here' Where Where' here where_then known = record {
        behind = λ port low less. said port (known.behind port (subst (λ h. first_bucket from ≤ h) (number_same slot of port) low)
            (subst (λ h. h < b) (number_same slot of port) less));
        here = λ port low same. here port (known.here port (subst (λ h. first_bucket from ≤ h) (number_same slot of port) low)
            (sym (number_same slot of port) ∙ same));
        ahead = λ port more. stage_then port 0 (omega arith) (Reaching slot) tt (only_from slot of)
            (known.ahead port (subst (λ h. b < h) (number_same slot of port) more));
        room = room_then slot of Where Where' where_then known.room;
      }

      table_then : (visit : Visit) → IsKept visit.table
          → OfTable env mix from begin now Missed WasLast seen items M G P visit
          → OfTable env mix from begin now' Missed' WasLast' seen' items M' G' P' visit
      table_then visit attached of = record {
        serial_is = ap (λ τ. (G'.table τ).serial) (index_still visit.table attached)
            ∙ (grow.tables (index_at G visit.table) attached.has.attached).serial ∙ of.serial_is;
        fits = of.fits;
      }

      new_then : (slot : ℕ) → IsKept slot → IsNew env mix from begin now Missed WasLast seen items M G P slot
          → IsNew env mix from begin now' Missed' WasLast' seen' items M' G' P' slot
      new_then slot attached new = record {
        none = new.none;
        ahead = λ port. stage_then port 0 (omega arith) (Reaching slot) tt (only_from slot attached) (new.ahead port);
      }

      at_then : (visit : Visit) → IsKept visit.table → IsAt env mix from begin now Missed WasLast seen items M G P visit
          → IsAt env mix from begin now' Missed' WasLast' seen' items M' G' P' visit
      at_then visit attached at = record {
        of = table_then visit attached at.of;
        low = at.low;
        known = λ last. buckets_then visit.table visit.bucket attached _ _ _ _
            (λ port stage. stage_then port 0 (omega arith) (Reaching visit.table) tt (only_from visit.table attached) stage)
            (before_then visit.table visit.bucket attached)
            (at.known (slot_last visit.table attached last));
      }

      behind_then : (visit : Visit) → IsKept visit.table → IsBehind env mix from begin now Missed WasLast seen items M G P visit
          → IsBehind env mix from begin now' Missed' WasLast' seen' items M' G' P' visit
      behind_then visit attached behind = record {
        of = table_then visit attached behind.of;
        low = behind.low;
        known = λ last. buckets_then visit.table visit.bucket attached _ _ _ _ said (before_then visit.table (visit.bucket + 1) attached)
            (behind.known (slot_last visit.table attached last));
      }

      chain_then : (chain : Chain) (m : ℕ) (Here Here' : ℕ → ℕ → Type 0) (least : ℕ → ℕ) → IsKept chain.visit.table → seen m ≡ true
          → ((since port : ℕ) → since ≤ now → Here since port → Here' since port)
          → IsInChain env mix from begin now Missed WasLast seen items M G P chain m Here least
          → IsInChain env mix from begin now' Missed' WasLast' seen' items M' G' P' chain m Here' least
      chain_then chain m Here Here' least attached stood here at = record {
        of = table_then chain.visit attached at.of;
        low = at.low;
        place_is = ap (λ τ. (G'.table τ).place chain.visit.bucket) (index_still chain.visit.table attached)
            ∙ grow.places (index_at G chain.visit.table) chain.visit.bucket (word_index env mix chain.place) attached.has.attached
            attached.stays at.place_is;
        page_is = grow.pages (word_index env mix chain.place / 64) (index_at G chain.visit.table) attached.stays at.page_is
            ∙ ap PageOf (sym (index_still chain.visit.table attached));
        since = at.since;
        began = at.began;
        so_far = let so_far = at.so_far in omega (arith, so_far, later);
        late = (node_then at.since m at.so_far stood at.late).0;
        known = λ last.
            let known = at.known (slot_last chain.visit.table attached last) in
            let table : table_at G (word_index env mix chain.place) ≡ index_at G chain.visit.table = ap table_of_page at.page_is in
            let least_of = attached.stays in
            let from_base : base ≤ table_at G (word_index env mix chain.place) = omega (arith, table, least_of) in
            record {
              at = known.at;
              is = kept (word_index env mix chain.place) m known.at (seen_met m stood) from_base known.is;
              early = known.early;
              buckets = buckets_then chain.visit.table chain.visit.bucket attached _ _ _ _ (λ port. here at.since port at.so_far)
                  (passed_then chain.visit.table chain.visit.bucket (word_index env mix chain.place) (least known.at) at.since attached from_base)
                  known.buckets;
            };
      }

      key_then : (chain : Chain) (m since port : ℕ) → IsKept chain.visit.table → seen m ≡ true → since ≤ now
          → HereAtKey env mix from begin now Missed WasLast seen items M G P chain m since port
          → HereAtKey env mix from begin now' Missed' WasLast' seen' items M' G' P' chain m since port
      key_then chain m since port attached stood began stage =
          stage_then port since began (AtKey chain.visit.table (word_index env mix chain.place) m chain.visited) (stood, tt)
          (only_from chain.visit.table attached) stage

      link_then : (chain : Chain) (m since port : ℕ) → IsKept chain.visit.table → seen m ≡ true → since ≤ now
          → HereAtLink env mix from begin now Missed WasLast seen items M G P chain m since port
          → HereAtLink env mix from begin now' Missed' WasLast' seen' items M' G' P' chain m since port
      link_then chain m since port attached stood began stage =
          stage_then port since began (AtLink chain.visit.table (word_index env mix chain.place) m (chain.visited + 1)) (stood, tt)
          (only_from chain.visit.table attached) stage

      owner_then : (chain : Chain) (m key : ℕ) → IsKept chain.visit.table → seen m ≡ true
          → IsAtOwner env mix from begin now Missed WasLast seen items M G P chain m key
          → IsAtOwner env mix from begin now' Missed' WasLast' seen' items M' G' P' chain m key
      owner_then chain m key attached stood owner = record {
        in_chain = chain_then chain m _ _ _ attached stood (λ since port began. either since port began) owner.in_chain;
        is = (node_then owner.in_chain.since m owner.in_chain.so_far stood owner.in_chain.late).1 ∙ owner.is;
        apart = λ last. owner.apart (slot_last chain.visit.table attached last);
      }
        where
          either : (since port : ℕ) → since ≤ now
              → (port ≡ key) ⊎ HereAtLink env mix from begin now Missed WasLast seen items M G P chain m since port
              → (port ≡ key) ⊎ HereAtLink env mix from begin now' Missed' WasLast' seen' items M' G' P' chain m since port
          either since port began (inl e) = inl e
          either since port began (inr stage) = inr (link_then chain m since port attached stood began stage)

      at_end_then : (slot : ℕ) → AreFrom base G (slot ∷ []) → IsAtEnd env mix from begin now Missed WasLast seen items M G P slot
          → IsAtEnd env mix from begin now' Missed' WasLast' seen' items M' G' P' slot
      at_end_then slot from_base end =
          let kept_end : IsKept slot = record {
            has = end.of;
            stays = from_base slot (inl refl) (at_attached env mix M G whole slot end.of);
          } in
          record {
            visit = end.visit;
            same = end.same;
            of = attached_stays env mix M G whole base G' grow slot end.of kept_end.stays;
            all = λ port. subst (λ h. h < end.visit.bucket + 1) (sym (number_same slot kept_end port)) (end.all port);
            behind = behind_then end.visit (subst IsKept (sym end.same) kept_end) end.behind;
          }

    -- ---- each state

    -- the table at which it stands
    has : (slot : ℕ) → AreFrom base G (slot ∷ []) → wholes.IsAt G slot → IsKept slot
    has slot low at = record {
      has = attached_at env mix M G whole slot at;
      stays = let index = index_is env mix M G whole slot at in let from_base = low slot (inl refl) at in omega (arith, index, from_base);
    }

    -- who stands at a table or a node stands somewhere
    pub walk_outlives : (state : WalkAt) → tied_of_walk env mix G state → AllByRecursion (λ n. seen n ≡ true) (standing_of_walk state).nodes
        → AreFrom base G (standing_of_walk state).tables
        → (standing_of_walk state ≡ stands_nowhere) ⊎ ((n : ℕ) → seen n ≡ true → seen' n ≡ true) → Before state → Then state
    walk_outlives at.Opening tied stood low either known = known
    walk_outlives at.CurrentTable tied stood low either known = known
    walk_outlives (at.Closing end) tied stood low either known = end_still end known
    walk_outlives (at.Serial table) tied stood low (inl none) known = absurd (let tables = ap (λ (s : Standing). s.tables) none in cc)
    walk_outlives (at.Serial table) tied stood low (inr keeps) known = new_then keeps table (has table low tied) known
    walk_outlives (at.Shape table serial) tied stood low (inl none) known = absurd (let tables = ap (λ (s : Standing). s.tables) none in cc)
    walk_outlives (at.Shape table serial) tied stood low (inr keeps) known = (
      ap (λ τ. (G'.table τ).serial) (index_still table (has table low tied))
          ∙ (grow.tables (index_at G table) (has table low tied).has.attached).serial ∙ known.0,
      new_then keeps table (has table low tied) known.1,
    )
    walk_outlives (at.Entry visit way) tied stood low (inl none) known = absurd (let tables = ap (λ (s : Standing). s.tables) none in cc)
    walk_outlives (at.Entry visit way) tied stood low (inr keeps) known = at_then keeps visit (has visit.table low tied.walked.of) known
    walk_outlives (at.Heading visit place) tied stood low (inl none) known =
        absurd (let tables = ap (λ (s : Standing). s.tables) none in cc)
    walk_outlives (at.Heading visit place) tied stood low (inr keeps) known = at_then keeps visit (has visit.table low tied.walked.of) known
    walk_outlives (at.Key chain node) tied stood low (inl none) known = absurd (let tables = ap (λ (s : Standing). s.tables) none in cc)
    walk_outlives (at.Key chain node) tied stood low (inr keeps) known =
        chain_then keeps chain node _ _ _ (has chain.visit.table low tied.of) stood.0
        (λ since port. key_then keeps chain node since port (has chain.visit.table low tied.of) stood.0) known
    walk_outlives (at.Owner chain node port) tied stood low (inl none) known =
        absurd (let tables = ap (λ (s : Standing). s.tables) none in cc)
    walk_outlives (at.Owner chain node port) tied stood low (inr keeps) known =
        owner_then keeps chain node port (has chain.visit.table low tied.of) stood.0 known
    walk_outlives (at.Link chain node) tied stood low (inl none) known = absurd (let tables = ap (λ (s : Standing). s.tables) none in cc)
    walk_outlives (at.Link chain node) tied stood low (inr keeps) known =
        chain_then keeps chain node _ _ _ (has chain.visit.table low tied.of) stood.0
        (λ since port. link_then keeps chain node since port (has chain.visit.table low tied.of) stood.0) known
    walk_outlives (at.StrangeEnd visit) tied stood low (inl none) known = absurd (let tables = ap (λ (s : Standing). s.tables) none in cc)
    walk_outlives (at.StrangeEnd visit) tied stood low (inr keeps) known = behind_then keeps visit (has visit.table low tied.of) known
    walk_outlives (at.TableEnd table) tied stood low (inl none) known = absurd (let tables = ap (λ (s : Standing). s.tables) none in cc)
    walk_outlives (at.TableEnd table) tied stood low (inr keeps) known = at_end_then keeps table low known
