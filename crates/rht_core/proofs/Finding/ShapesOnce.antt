-- A look-up loads the shape of each slot at most once: it loads that of each table to which it comes, in the order in which they were
-- attached, and while its section is open none of these gives its slot to another one.
use Rattle.rht_words.specs.Operations.{op_place}
use Rattle.rht_core.proofs.Machines.HeldSteps.{soft-reach}
use Rattle.rht_callers.specs.Locals.{turns_section, soft}
use Rattle.std.proofs.Common.{◌≡◌, ◌≢◌, ◌⊎◌, ℕ, ◌+◌, ◌<◌, ◌≤◌, true, List, [], ◌∷◌, ◌++◌, Option, Some, None, refl, sym, ap, ◌∙◌, subst, inl, inr, arith}
use Rattle.std.specs.Prelude.{◌==◌, ◌&&◌, nat_lt, nat_le, Bool}
use Rattle.std.specs.List.{AllByRecursion}
use Rattle.std.proofs.lemmas.Bool.{cond_both, cases_eq, and_parts, ltb-true}
use Rattle.rht_words.specs.declared.op.Op.TheVariants.{Load}
use Rattle.rht_words.specs.declared.env.Env.{Env}
use Rattle.rht_words.specs.declared.geometry.Geometry.{Geometry}
use Rattle.rht_words.specs.declared.machine.Next.{Next}
use Rattle.rht_words.specs.declared.machine.Next.TheVariants.{Go, Done}
use Rattle.rht_words.specs.declared.machine.Start.{Start}
use Rattle.rht_words.specs.declared.machine.Start.TheVariants as starts
use Rattle.rht_words.specs.Links.{node_of, slot_of, table_of, head_of, marker_of}
use Rattle.rht_words.specs.Operations.{old_of}
use Rattle.rht_words.specs.Places.{CurrentTable, Slot, ShapeWord, SeedWord, FutureWord, Node, NodeWord, KeyWord, ChainLink, OwnerWord, PageWord, IsBucketPlace, place_of}
use Rattle.rht_words.specs.Ports.{word_of}
use Rattle.rht_words.proofs.EachElement.{AllByRecursion-push}
use Rattle.rht_words.proofs.Memory.{Memory}
use Rattle.rht_words.proofs.PlacesApart.{parts_in_order}
use Rattle.rht_policy.specs.Mix.{bucket_of}
use Rattle.rht_nest.specs.Place.{PlaceModel, place_new, place_after}
use Rattle.rht_nest.specs.Reach.{ReachModel, reach_plan_at, reach_after, begun, followed, IsReachAtIn, IsReachIn}
use Rattle.rht_nest.specs.declared.place.Bucket.{Bucket}
use Rattle.rht_nest.specs.declared.place.Bucket.TheVariants as buckets
use Rattle.rht_nest.specs.declared.reach.ReachAt.{ReachAt}
use Rattle.rht_nest.specs.declared.reach.ReachAt.TheVariants as reaches
use Rattle.rht_nest.proofs.Reaches.{reach_after-table}
use Rattle.rht_find.specs.Find.{plan_at, goes, reached, walked_anew, chain_ended, led_to, compared, next_table, IsFindAtIn}
use Rattle.rht_find.specs.declared.find.Head.{Head}
use Rattle.rht_find.specs.declared.find.FindAt.{FindAt}
use Rattle.rht_find.specs.declared.find.FindAt.TheVariants as at
use Rattle.rht_grace.specs.Sections.{turning}
use Rattle.rht_ghost.proofs.Theory.Ghosts.{Ghost, IsSince}
use Rattle.rht_ghost.proofs.Theory.Wholes.{Whole, IsAt, AreThereFrom, at-there, current-at, force-there, one_slot}
use Rattle.rht_ghost.proofs.Theory.Passed.{at-from, there_from-from}
use Rattle.rht_ghost.proofs.Theory.Reliance.{TablesStay, since-low}
use Rattle.rht_ghost.proofs.Theory.Steps.{SectionTurns, mem}
use Rattle.rht_ghost.proofs.Theory.Knowledge.{ReadsFrom, since-current, next_at}
use Rattle.rht_ghost.proofs.Pieces.TableLoads.{LeadsBehind, future_leads}
use Rattle.rht_core.specs.Jobs.{finds, held_of}
use Rattle.rht_core.specs.Lookups.{IsAtMostOne}
use Rattle.rht_core.specs.Seen.{LoadsWord, IsNoShapeLoad}
use Rattle.rht_core.specs.Traces.{Did}
use Rattle.rht_core.proofs.Meaning.TablesInForce.{current_slot}

-- ---- one more operation

module _ (Is : Did → Type 0) where
  abbrev AreNone : List Did → Type 0
  AreNone steps = AllByRecursion (λ did. ¬ Is did) steps

  -- where none is so at most one is
  none-once : (steps : List Did) → AreNone steps → IsAtMostOne Is steps
  none-once [] none = tt
  none-once (first ∷ steps) none = ((λ is. absurd (none.0 is)), none-once steps none.1)

  -- that is another one
  once-other : (steps : List Did) (did : Did) → ¬ Is did → IsAtMostOne Is steps → IsAtMostOne Is (steps ++ did ∷ [])
  once-other [] did other once = ((λ is. tt), tt)
  once-other (first ∷ steps) did other once =
      ((λ is. AllByRecursion-push (λ d. ¬ Is d) steps did (once.0 is) other), once-other steps did other once.1)

  -- or the first one
  once-first : (steps : List Did) (did : Did) → AreNone steps → IsAtMostOne Is (steps ++ did ∷ [])
  once-first [] did none = ((λ is. tt), tt)
  once-first (first ∷ steps) did none = ((λ is. absurd (none.0 is)), once-first steps did none.1)

-- ---- by states

module _ (env : Env) (c : ℕ) where
  abbrev g : Geometry
  g = env.geometry

  abbrev LoadsShape : ℕ → Did → Type 0
  LoadsShape slot = LoadsWord g (Slot slot ShapeWord)

  -- none of these operations loads a shape
  abbrev NoShapes : List Did → Type 0
  NoShapes steps = (slot : ℕ) → slot < 8 → AreNone (LoadsShape slot) steps

  -- and no two that of one slot
  abbrev pub AreOnce : List Did → Type 0
  AreOnce steps = (slot : ℕ) → slot < 8 → IsAtMostOne (LoadsShape slot) steps

  -- a table from this one on, and before that one, has the slot
  pub record IsBetween (G : Ghost) (low upto slot : ℕ) : Type 0 where
    pub table : ℕ
    pub from : low ≤ table
    pub before : table < upto
    pub attached : table < G.attached
    pub slot_is : (G.table table).slot ≡ slot

  -- so it is of each slot of which one of these loads the shape
  abbrev AreBetween : Ghost → ℕ → ℕ → List Did → Type 0
  AreBetween G low upto steps = (slot : ℕ) → slot < 8 → AreNone (LoadsShape slot) steps ⊎ IsBetween G low upto slot

  -- It is in the table that this slot has, behind one to which the caller's section comes, and of which all behind it are there. The shapes
  -- that it has loaded are those of tables between them, and its own only where it is past that load.
  pub record IsMeeting (G : Ghost) (slot past : ℕ) (steps : List Did) : Type 0 where
    pub at : IsAt G slot
    pub low : ℕ
    pub since : IsSince (G.from c) low
    pub on : AreThereFrom G low
    pub from : low ≤ at.table
    pub between : AreBetween G low (at.table + past) steps
    pub once : AreOnce steps

  -- the way to a bucket is past the load of the shape
  abbrev pub past_shape : ReachAt → ℕ
  past_shape reaches.Shape = 0
  past_shape _ = 1

  -- what these operations have loaded that led to this state
  abbrev pub HasMet : Ghost → FindAt → List Did → Type 0
  HasMet G at.Opening steps = NoShapes steps
  HasMet G at.CurrentTable steps = NoShapes steps
  HasMet G (at.Locating reach) steps = IsMeeting G reach.table (past_shape reach.at) steps
  HasMet G (at.Heading head) steps = IsMeeting G head.table 1 steps
  HasMet G (at.Key head node visited) steps = IsMeeting G head.table 1 steps
  HasMet G (at.Link head node visited) steps = IsMeeting G head.table 1 steps
  HasMet G (at.Future table) steps = IsMeeting G table 1 steps
  HasMet G (at.Owner node) steps = AreOnce steps
  HasMet G (at.Closing reply) steps = AreOnce steps

  none_yet : (steps : List Did) → NoShapes steps → AreOnce steps
  none_yet steps none slot within = none-once (LoadsShape slot) steps (none slot within)

  -- none is loaded twice, in whatever state
  pub met-once : (G : Ghost) (state : FindAt) (steps : List Did) → HasMet G state steps → AreOnce steps
  met-once G at.Opening steps met = none_yet steps met
  met-once G at.CurrentTable steps met = none_yet steps met
  met-once G (at.Locating reach) steps met = met.once
  met-once G (at.Heading head) steps met = met.once
  met-once G (at.Key head node visited) steps met = met.once
  met-once G (at.Link head node visited) steps met = met.once
  met-once G (at.Future table) steps met = met.once
  met-once G (at.Owner node) steps met = met
  met-once G (at.Closing reply) steps met = met

  -- ---- it stays in its table, past the load of its shape

  abbrev IsPast : ℕ → FindAt → Type 0
  IsPast slot at.Opening = ⊥
  IsPast slot at.CurrentTable = ⊥
  IsPast slot (at.Locating reach) = (reach.table ≡ slot) × (past_shape reach.at ≡ 1)
  IsPast slot (at.Heading head) = head.table ≡ slot
  IsPast slot (at.Key head node visited) = head.table ≡ slot
  IsPast slot (at.Link head node visited) = head.table ≡ slot
  IsPast slot (at.Future table) = table ≡ slot
  IsPast slot (at.Owner node) = Unit {0}
  IsPast slot (at.Closing reply) = ⊥

  met_in : (G : Ghost) (slot : ℕ) (steps : List Did) (state : FindAt) → IsPast slot state → IsMeeting G slot 1 steps → HasMet G state steps
  met_in G slot steps at.Opening past met = absurd past
  met_in G slot steps at.CurrentTable past met = absurd past
  met_in G slot steps (at.Locating reach) past met =
      subst (λ s. IsMeeting G s (past_shape reach.at) steps) (sym past.0) (subst (λ p. IsMeeting G slot p steps) (sym past.1) met)
  met_in G slot steps (at.Heading head) past met = subst (λ s. IsMeeting G s 1 steps) (sym past) met
  met_in G slot steps (at.Key head node visited) past met = subst (λ s. IsMeeting G s 1 steps) (sym past) met
  met_in G slot steps (at.Link head node visited) past met = subst (λ s. IsMeeting G s 1 steps) (sym past) met
  met_in G slot steps (at.Future table) past met = subst (λ s. IsMeeting G s 1 steps) (sym past) met
  met_in G slot steps (at.Owner node) past met = met.once
  met_in G slot steps (at.Closing reply) past met = absurd past

  module _ (mix : ℕ → ℕ → ℕ → ℕ) (port : ℕ) where
    begun-past : (m : ReachModel) (start : Start PlaceModel Bucket) → past_shape m.at ≡ 1 → past_shape (begun m start).0.at ≡ 1
    begun-past m (starts.Running place) past = refl
    begun-past m (starts.Done bucket) past = past

    followed-past : (m : ReachModel) (place : PlaceModel) (next : Next Bucket) → past_shape m.at ≡ 1
        → past_shape (followed m place next).0.at ≡ 1
    followed-past m place Go past = refl
    followed-past m place (Done bucket) past = past

    reach-past : (m : ReachModel) (word : ℕ) → past_shape (reach_after mix port m word).0.at ≡ 1
    reach-past m word = go m.at
      where
        go : (state : ReachAt) → past_shape (reach_after mix port (record m { at = state }) word).0.at ≡ 1
        go reaches.Shape = refl
        go (reaches.Seed shape) =
            begun-past (record m { at = reaches.Seed shape }) (place_new m.geometry shape (bucket_of mix port shape word)) refl
        go (reaches.Entry place) =
            followed-past (record m { at = reaches.Entry place }) (place_after place word).0 (place_after place word).1 refl

    reached-past : (reach : ReachModel) (next : Next Bucket) (slot : ℕ) → reach.table ≡ slot → past_shape reach.at ≡ 1
        → IsPast slot (reached env reach next)
    reached-past reach Go slot same past = (same, past)
    reached-past reach (Done (buckets.At place)) slot same past = same
    reached-past reach (Done (buckets.Absent entry)) slot same past = same

    walked_anew-past : (head : Head) → IsPast head.table (walked_anew head)
    walked_anew-past head = cond_both (nat_lt 0 head.left) _ _ (IsPast head.table) (λ t. refl) (λ f. refl)

    chain_ended-past : (head : Head) (link : ℕ) → IsPast head.table (chain_ended head link)
    chain_ended-past head link =
        cond_both (link == marker_of head.place) _ _ (IsPast head.table) (λ t. refl) (λ f. walked_anew-past head)

    led_to-past : (head : Head) (visited link : ℕ) (node : Option ℕ) → IsPast head.table (led_to g head visited link node)
    led_to-past head visited link None = chain_ended-past head link
    led_to-past head visited link (Some node) =
        cond_both (nat_lt visited g.nodes) _ _ (IsPast head.table) (λ t. refl) (λ f. chain_ended-past head link)

    compared-past : (head : Head) (node visited key : ℕ) → IsPast head.table (compared port head node visited key)
    compared-past head node visited key = cond_both (key == word_of port) _ _ (IsPast head.table) (λ t. tt) (λ f. refl)

  -- ---- an operation that loads no shape

  module _ (did : Did) (quiet : IsNoShapeLoad g did) where
    no_shape : (slot : ℕ) → slot < 8 → ¬ LoadsShape slot did
    no_shape slot within loads = quiet slot within loads.loads

    quiet-none : (steps : List Did) → NoShapes steps → NoShapes (steps ++ did ∷ [])
    quiet-none steps none slot within =
        AllByRecursion-push (λ d. ¬ LoadsShape slot d) steps did (none slot within) (no_shape slot within)

    pub quiet-once : (steps : List Did) → AreOnce steps → AreOnce (steps ++ did ∷ [])
    quiet-once steps once slot within = once-other (LoadsShape slot) steps did (no_shape slot within) (once slot within)

    quiet-between : (G : Ghost) (low upto : ℕ) (steps : List Did) → AreBetween G low upto steps → AreBetween G low upto (steps ++ did ∷ [])
    quiet-between G low upto steps between slot within = elim (between slot within) [
      | inl none ↦ inl (AllByRecursion-push (λ d. ¬ LoadsShape slot d) steps did none (no_shape slot within))
      | inr had ↦ inr had
    ]

    quiet-meets : (G : Ghost) (slot past : ℕ) (steps : List Did) → IsMeeting G slot past steps → IsMeeting G slot past (steps ++ did ∷ [])
    quiet-meets G slot past steps met = record {
      at = met.at;
      low = met.low;
      since = met.since;
      on = met.on;
      from = met.from;
      between = quiet-between G met.low (met.at.table + past) steps met.between;
      once = quiet-once steps met.once;
    }

  -- ---- the load of a shape

  -- two slots' words don't stand at one place
  one_word : (slot other : ℕ) → place_of g (Slot slot ShapeWord) ≡ place_of g (Slot other ShapeWord) → slot ≡ other
  one_word slot other same = omega (arith, same)

  module _ (G : Ghost) (slot : ℕ) (steps : List Did) (did : Did) (is : did.op ≡ Load (place_of g (Slot slot ShapeWord)))
      (met : IsMeeting G slot 0 steps) where
    other_shape : (other : ℕ) → other ≢ slot → ¬ LoadsShape other did
    other_shape other apart loads =
        apart (one_word other slot (let same = sym loads.loads ∙ is in cc))

    -- the table's own wasn't loaded before
    not_yet : (own : ℕ) → own < 8 → own ≡ slot → AreNone (LoadsShape own) steps
    not_yet own within same = elim (met.between own within) [
      | inl none ↦ none
      | inr had ↦
          let one = one_slot G had.table met.at.table (met.on had.table had.from had.attached) (at-there met.at)
          (had.slot_is ∙ same ∙ sym met.at.slot_is) in
          let before = had.before in
          absurd (omega (arith, one, before))
    ]

    loaded : IsMeeting G slot 1 (steps ++ did ∷ [])
    loaded = record {
      at = met.at;
      low = met.low;
      since = met.since;
      on = met.on;
      from = met.from;
      between = λ own within. elim (cases_eq own slot) [
        | inl same ↦ inr (record {
          table = met.at.table;
          from = met.from;
          before = omega arith;
          attached = met.at.attached;
          slot_is = met.at.slot_is ∙ sym same;
        })
        | inr other ↦ elim (met.between own within) [
          | inl none ↦ inl (AllByRecursion-push (λ d. ¬ LoadsShape own d) steps did none (other_shape own other))
          | inr had ↦ inr (record {
            table = had.table;
            from = had.from;
            before = (let before = had.before in omega (arith, before));
            attached = had.attached;
            slot_is = had.slot_is;
          })
        ]
      ];
      once = λ own within. elim (cases_eq own slot) [
        | inl same ↦ once-first (LoadsShape own) steps did (not_yet own within same)
        | inr other ↦ once-other (LoadsShape own) steps did (other_shape own other) (met.once own within)
      ];
    }

  -- ---- which operations load no shape

  -- one that turns the section, or loads its word while the caller holds it open
  turn_quiet : (did : Did) (over : Bool) (caller : ℕ) → did.op ≡ soft over (turning caller) → IsNoShapeLoad g did
  turn_quiet did over caller planned table within load =
      cond_both (turns_section (8 + caller) 1 && over) _ _ (λ op. did.op ≡ op → ⊥)
      (λ t is.
      let section = (and_parts (turns_section (8 + caller) 1) over t).0 in
      let bounds = (and_parts (nat_le 8 (8 + caller) && nat_lt (8 + caller) 24) (1 == 1) section).0 in
      let below = ltb-true (8 + caller) 24 (and_parts (nat_le 8 (8 + caller)) (nat_lt (8 + caller) 24) bounds).1 in
      let at : 8 + caller ≡ place_of g (Slot table ShapeWord) = ap op_place (sym is ∙ load) in
      absurd (omega (arith, at, below)))
      (λ f is. let same = sym is ∙ load in cc) planned

  -- a load of another place
  load_quiet : (did : Did) (place : ℕ) → did.op ≡ Load place → ((table : ℕ) → table < 8 → place ≢ place_of g (Slot table ShapeWord))
      → IsNoShapeLoad g did
  load_quiet did place planned apart table within load = apart table within (let same = sym planned ∙ load in cc)

  -- behind the slots
  far_quiet : (did : Did) (place : ℕ) → did.op ≡ Load place → 280 ≤ place → IsNoShapeLoad g did
  far_quiet did place planned far = load_quiet did place planned (λ table within same. absurd (omega (arith, far, within, same)))

  node_quiet : (did : Did) (node : ℕ) (word : NodeWord) → did.op ≡ Load (place_of g (Node node word)) → IsNoShapeLoad g did
  node_quiet did node word planned =
      let order = parts_in_order g in far_quiet did _ planned (omega (arith, order.page_map, order.nodes))

  bucket_quiet : (did : Did) (place : ℕ) → IsBucketPlace g place → did.op ≡ Load place → IsNoShapeLoad g did
  bucket_quiet did place there planned =
      let order = parts_in_order g in
      let low = there.0 in far_quiet did place planned (omega (arith, low, order.page_map, order.nodes, order.pages))

  entry_quiet : (did : Did) (entry : ℕ) → did.op ≡ Load (place_of g (PageWord entry)) → IsNoShapeLoad g did
  entry_quiet did entry planned =
      let order = parts_in_order g in far_quiet did _ planned (omega (arith, order.page_map, order.nodes, order.pages))

  current_quiet : (did : Did) → did.op ≡ Load (place_of g CurrentTable) → IsNoShapeLoad g did
  current_quiet did planned = load_quiet did _ planned (λ table within same. absurd (omega (arith, same)))

  future_quiet : (did : Did) (slot : ℕ) → did.op ≡ Load (place_of g (Slot slot FutureWord)) → IsNoShapeLoad g did
  future_quiet did slot planned = load_quiet did _ planned (λ table within same. absurd (omega (arith, same)))

  seed_quiet : (did : Did) (slot : ℕ) → did.op ≡ Load (place_of g (Slot slot SeedWord)) → IsNoShapeLoad g did
  seed_quiet did slot planned = load_quiet did _ planned (λ table within same. absurd (omega (arith, same)))

  -- on the way to a bucket all but the first operation
  reach_meets : (G : Ghost) (reach : ReachModel) (steps : List Did) (did : Did) → IsReachIn g reach
      → did.op ≡ reach_plan_at reach.geometry reach.table reach.at → IsMeeting G reach.table (past_shape reach.at) steps
      → IsMeeting G reach.table 1 (steps ++ did ∷ [])
  reach_meets G reach steps did within planned met =
      go reach.at within.at_in (subst (λ (h : Geometry). did.op ≡ reach_plan_at h reach.table reach.at) within.geometry_same planned) met
    where
      go : (state : ReachAt) → IsReachAtIn g state → did.op ≡ reach_plan_at g reach.table state
          → IsMeeting G reach.table (past_shape state) steps → IsMeeting G reach.table 1 (steps ++ did ∷ [])
      go reaches.Shape within planned met = loaded G reach.table steps did planned met
      go (reaches.Seed shape) within planned met =
          quiet-meets did (seed_quiet did reach.table planned) G reach.table 1 steps met
      go (reaches.Entry place) within planned met =
          quiet-meets did
          (entry_quiet did place.entry (subst (λ (h : Geometry). did.op ≡ Load (place_of h (PageWord place.entry))) within.geometry_same planned))
          G reach.table 1 steps met

  -- ---- each operation

  module _ (mix : ℕ → ℕ → ℕ → ℕ) (port : ℕ) (words : List ℕ) (G : Ghost) (whole : Whole env mix (mem env mix words) G) where
    abbrev M : Memory
    M = mem env mix words

    -- the next table
    onward : (table : ℕ) (steps : List Did) (future : Option ℕ) (met : IsMeeting G table 1 steps)
        → LeadsBehind env mix M G whole met.at.table future → HasMet G (next_table env future) steps
    onward table steps None met last = met.once
    onward table steps (Some next) met behind = record {
      at = next_at env mix G met.at.table next met.at.on behind;
      low = met.low;
      since = met.since;
      on = met.on;
      from = (let from = met.from in omega (arith, from));
      between = λ own within. elim (met.between own within) [
        | inl none ↦ inl none
        | inr had ↦ inr (record {
          table = had.table;
          from = had.from;
          before = (let before = had.before in omega (arith, before));
          attached = had.attached;
          slot_is = had.slot_is;
        })
      ];
      once = met.once;
    }

    -- what the operation has loaded behind which it is in the next state
    pub met_leads : (caller : ℕ) (over : Bool) (state : FindAt) (steps : List Did) (did : Did) → IsFindAtIn env state
        → did.op ≡ soft over (plan_at env caller state) → HasMet G state steps
        → (state ≡ at.CurrentTable → ReadsFrom true (G.from c) G.current)
        → HasMet G (goes mix env port state (old_of words (plan_at env caller state))) (steps ++ did ∷ [])
    met_leads caller over at.Opening steps did within planned met reads = quiet-none did (turn_quiet did over caller planned) steps met
    met_leads caller over at.CurrentTable steps did within planned met reads =
        let none = quiet-none did (current_quiet did planned) steps met in
        record {
          at = current-at env mix whole.tables (table_of (M CurrentTable)) (sym (current_slot env mix words G whole));
          low = G.current;
          since = since-current (G.from c) G.current (reads refl);
          on = force-there env mix whole.tables;
          from = omega arith;
          between = λ own low. inl (none own low);
          once = none_yet (steps ++ did ∷ []) none;
        }
    met_leads caller over (at.Locating reach) steps did within planned met reads =
        let word = old_of words (plan_at env caller (at.Locating reach)) in
        let r = reach_after mix port reach word in
        met_in G reach.table (steps ++ did ∷ []) (reached env r.0 r.1)
        (reached-past mix port r.0 r.1 reach.table (reach_after-table mix port reach word) (reach-past mix port reach word))
        (reach_meets G reach steps did within (planned ∙ soft-reach over reach) met)
    met_leads caller over (at.Heading head) steps did within planned met reads =
        let link = head_of head.place (old_of words (plan_at env caller (at.Heading head))) in
        met_in G head.table (steps ++ did ∷ []) _ (led_to-past mix port head 0 link (node_of g.nodes link))
        (quiet-meets did (bucket_quiet did head.place within.place_in planned) G head.table 1 steps met)
    met_leads caller over (at.Key head node visited) steps did within planned met reads =
        met_in G head.table (steps ++ did ∷ []) _
        (compared-past mix port head node visited (old_of words (plan_at env caller (at.Key head node visited))))
        (quiet-meets did (node_quiet did node KeyWord planned) G head.table 1 steps met)
    met_leads caller over (at.Link head node visited) steps did within planned met reads =
        let link = old_of words (plan_at env caller (at.Link head node visited)) in
        met_in G head.table (steps ++ did ∷ []) _ (led_to-past mix port head visited link (node_of g.nodes link))
        (quiet-meets did (node_quiet did node ChainLink planned) G head.table 1 steps met)
    met_leads caller over (at.Future table) steps did within planned met reads =
        let then = quiet-meets did (future_quiet did table planned) G table 1 steps met in
        onward table (steps ++ did ∷ []) (slot_of (M (Slot table FutureWord))) then (future_leads env mix M G whole table then.at)
    met_leads caller over (at.Owner node) steps did within planned met reads =
        quiet-once did (node_quiet did node OwnerWord planned) steps met
    met_leads caller over (at.Closing reply) steps did within planned met reads =
        quiet-once did (turn_quiet did over caller planned) steps met

    -- and it stays so behind an operation of anybody else
    module _ (G' : Ghost) (stay : TablesStay env mix G G') (turned : SectionTurns env mix c G G') where
      -- a section that is open behind it comes to what it came to
      since_then : (τ : ℕ) → ReadsFrom true (G'.from c) G'.current → IsSince (G.from c) τ → IsSince (G'.from c) τ
      since_then τ reads since = elim turned [
        | inl same ↦ subst (λ f. IsSince f τ) (sym same) since
        | inr (inl opened) ↦ absurd (subst (λ f. IsSince f τ) opened.0 since)
        | inr (inr closed) ↦ absurd (subst (λ f. ReadsFrom true f G'.current) closed reads)
      ]

      same_meets : (slot past : ℕ) (steps : List Did) → ReadsFrom true (G'.from c) G'.current → IsMeeting G slot past steps
          → IsMeeting G' slot past steps
      same_meets slot past steps reads met =
          let from = since-low env mix stay c met.low met.since in
          record {
            at = at-from env mix stay.low G G' stay.grow slot met.at (let later = met.from in omega (arith, from, later));
            low = met.low;
            since = since_then met.low reads met.since;
            on = there_from-from env mix stay.low G G' stay.grow met.low from met.on;
            from = met.from;
            between = λ own within. elim (met.between own within) [
              | inl none ↦ inl none
              | inr had ↦ inr (record {
                table = had.table;
                from = had.from;
                before = had.before;
                attached = (let here = had.attached in let more = stay.grow.attached in omega (arith, here, more));
                slot_is = (stay.grow.tables had.table had.attached).slot ∙ had.slot_is;
              })
            ];
            once = met.once;
          }

      pub met_stays : (state : FindAt) (steps : List Did) → ReadsFrom (held_of (finds port state)).section (G'.from c) G'.current
          → HasMet G state steps → HasMet G' state steps
      met_stays at.Opening steps reads met = met
      met_stays at.CurrentTable steps reads met = met
      met_stays (at.Locating reach) steps reads met = same_meets reach.table (past_shape reach.at) steps reads met
      met_stays (at.Heading head) steps reads met = same_meets head.table 1 steps reads met
      met_stays (at.Key head node visited) steps reads met = same_meets head.table 1 steps reads met
      met_stays (at.Link head node visited) steps reads met = same_meets head.table 1 steps reads met
      met_stays (at.Future table) steps reads met = same_meets table 1 steps reads met
      met_stays (at.Owner node) steps reads met = met
      met_stays (at.Closing reply) steps reads met = met
