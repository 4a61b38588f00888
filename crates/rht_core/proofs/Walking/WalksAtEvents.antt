-- What walks know behind an event: a walk's own operation leads on from what it knows; and what it knows then, as what it knows at an
-- event of another caller or of none, outlives that event.
use Rattle.std.proofs.Common.{◌≡◌, ◌⊎◌, ℕ, ◌+◌, ◌<◌, ◌≤◌, nat_lt, Bool, true, false, cond, List, [], ◌∷◌, ◌++◌, length, Option, Some, refl, sym, ◌∙◌, ap, subst, inl, inr, arith}
use Rattle.std.specs.List.{AllByRecursion}
use Rattle.std.proofs.lemmas.Bool.{cases_lt, lt-ltb, le-ltb}
use Rattle.std.proofs.lemmas.List.{length_push}
use Rattle.rht_words.specs.declared.env.Env.{Env}
use Rattle.rht_words.specs.Operations.{old_of}
use Rattle.rht_words.specs.Standing.{Standing, stands_nowhere}
use Rattle.rht_words.proofs.EachElement.{AllByRecursion-weaker}
use Rattle.rht_words.proofs.Memory.{Memory}
use Rattle.rht_model.specs.declared.history.Call.{Call}
use Rattle.rht_model.specs.declared.history.Call.TheVariants as calls
use Rattle.rht_model.specs.declared.history.Cursor.{Cursor}
use Rattle.rht_model.specs.declared.history.Reply.{Reply}
use Rattle.rht_model.specs.declared.history.Reply.TheVariants.{Walked, Found, Missing}
use Rattle.rht_model.specs.Answers.{plain, find_reply}
use Rattle.rht_stands.specs.StandsFor.{stands_for}
use Rattle.rht_walk.specs.Walk.{Pairs, plan_at, goes, room_after, IsWalkAtIn}
use Rattle.rht_walk.specs.WalkStanding.{standing_of_walk}
use Rattle.rht_walk.specs.declared.walk.WalkAt.{WalkAt}
use Rattle.rht_walk.specs.declared.walk.WalkAt.TheVariants as at
use Rattle.rht_core.specs.declared.event.Event.{Event}
use Rattle.rht_core.specs.Alone.{bindings_at}
use Rattle.rht_core.specs.Jobs.{Job, walks, job_of}
use Rattle.rht_core.specs.ListedOwners.{owners_loaded}
use Rattle.rht_core.specs.RunHistories.{bindings_behind}
use Rattle.rht_core.specs.Runs.{Core, local_of, world_step}
use Rattle.rht_core.specs.Standings.{standing, standing_with}
use Rattle.rht_core.specs.Traces.{Past, Trace, Traced, traced_of, behind_call}
use Rattle.rht_ghost.proofs.Theory.Frames.{same_grow, same_tables}
use Rattle.rht_ghost.proofs.Theory.Wholes.{AreFrom, word_index}
use Rattle.rht_ghost.proofs.Theory.Ghosts.{Ghost}
use Rattle.rht_ghost.proofs.Theory.Passed.{GrowsFrom, grows_from}
use Rattle.rht_ghost.proofs.Theory.Reliance.{TablesStay}
use Rattle.rht_ghost.proofs.Theory.Steps.{mem, ghost_after}
use Rattle.rht_core.proofs.Histories.CallerEntries.{said-more}
use Rattle.rht_core.proofs.Histories.FittingCallers.{end-is, end-next}
use Rattle.rht_core.proofs.Finding.FoundSaid.{missing_said, missing_after, found_said}
use Rattle.rht_core.proofs.Finding.LookupLaws.{plain_reply, reply_in}
use Rattle.rht_core.proofs.Finding.LookupsAtEvents.{SaysOf, AreLooking, Turns, placed', met_now, ApartNow}
use Rattle.rht_core.proofs.Finding.PlacesInRuns.{Placed, next, next_places}
use Rattle.rht_core.proofs.Finding.PlacesThen.{PlacesThen}
use Rattle.rht_core.proofs.Returning.TiedWalks.{tied_of_walk, walk_ties}
use Rattle.rht_core.proofs.Walking.KeptPairs.{stage_said}
use Rattle.rht_core.proofs.Walking.MadeSerials.{AreMade}
use Rattle.rht_core.proofs.Finding.PortPlaces.{PortPlacesRight}
use Rattle.rht_core.proofs.Walking.WalkFacts.{HasWalkedTo, WalkMeans}
use Rattle.rht_core.proofs.Walking.OwnersKept.{owners_of, KeepsOwners}
use Rattle.rht_core.proofs.Walking.OwnersLead.{loaded_after, owners_lead}
use Rattle.rht_core.proofs.Walking.OwnersOutlive.{owners_outlive}
use Rattle.rht_core.proofs.Walking.WalkLeads.{Learns, HasSmallKey, walk_leads, bound_leads}
use Rattle.rht_core.proofs.Walking.WalkOutlives.{walk_outlives}

-- the cursor of a reply that says the number of pairs
pub same_next : (len other : ℕ) (next to : Option Cursor) → Walked len next ≡ Walked other to → next ≡ to
same_next len other next to same = cc

module _ (L : Type 0) (mix : ℕ → ℕ → ℕ → ℕ) (env : Env) where
  abbrev pub R : List Event → Traced L
  R events = traced_of mix env events

  -- the port was bound nowhere behind an event of the call, and it had this owner first
  abbrev pub MissedOf : List Event → ℕ → ℕ → ℕ → Type 0
  MissedOf events c begin port = SaysOf L mix env events c port begin Missing

  abbrev pub BoundOf : List Event → ℕ → ℕ → ℕ × ℕ → Type 0
  BoundOf events c begin pair = SaysOf L mix env events c pair.0 begin (Found pair.1)

  -- no table was behind this one at an event from the call's beginning on up to that, by how many were attached then
  pub record WasLast (count : ℕ → ℕ) (begin behind τ : ℕ) : Type 0 where
    pub at : ℕ
    pub begun : begin < at
    pub before : at ≤ behind
    pub last : τ + 1 ≡ count at

  -- how many tables were attached behind each event up to this one
  pub record AreCounted (now : ℕ) (G : Ghost) (count : ℕ → ℕ) : Type 0 where
    pub at_end : count now ≡ G.attached
    pub rises : (i k : ℕ) → i ≤ k → k ≤ now → count i ≤ count k

  -- A walk that began there and has loaded these owners knows what it needs, and shows them; and each pair that it shows was bound meanwhile.
  pub record Walks (events : List Event) (core : Core L) (placed : Placed env mix L events core) (count : ℕ → ℕ) (seen : ℕ → Bool) (c : ℕ)
      (from : Option Cursor) (begin : ℕ) (loaded : List ℕ) (room : Pairs) (state : WalkAt) : Type 0 where
    pub low : c < env.geometry.callers
    pub begun : begin < length events
    pub roomy : room.limit ≡ env.geometry.nodes
    pub known : WalkMeans env mix from begin (length events) (MissedOf events c begin) (WasLast count begin (length events)) seen room.items
        (mem env mix core.words) placed.ghost placed.places state
    pub keeps : KeepsOwners env mix seen room.items loaded placed.ghost placed.places state
    pub bound : AllByRecursion (BoundOf events c begin) room.items

  -- ---- one that has ended

  -- the port was bound nowhere behind an event of it
  pub record IsMissedIn (events : List Event) (begin behind port : ℕ) : Type 0 where
    pub at : ℕ
    pub begun : begin < at
    pub before : at ≤ behind
    pub none : bindings_behind L mix env events at port ≡ []

  -- the pair is a port and its first owner behind one
  pub record IsBoundIn (events : List Event) (begin behind : ℕ) (pair : ℕ × ℕ) : Type 0 where
    pub at : ℕ
    pub begun : begin < at
    pub before : at ≤ behind
    pub rest : List ℕ
    pub is : bindings_behind L mix env events at pair.0 ≡ pair.1 ∷ rest

  pub record HasWalked (events : List Event) (G : Ghost) (count : ℕ → ℕ) (from : Option Cursor) (past : Past) (next : Option Cursor) :
      Type 0 where
    pub done_by : behind_call past ≤ length events
    pub walked : HasWalkedTo env mix G (count (behind_call past)) from (IsMissedIn events past.begin (behind_call past))
        (WasLast count past.begin (behind_call past)) past.done.pairs next
    pub bound : AllByRecursion (IsBoundIn events past.begin (behind_call past)) past.done.pairs
    pub whole : owners_of past.done.pairs ≡ owners_loaded env.geometry past.steps

  abbrev pub PastWalks : List Event → Ghost → (ℕ → ℕ) → Past → Type 0
  PastWalks events G count past =
      (from : Option Cursor) (limit len : ℕ) (next : Option Cursor) → past.done.call ≡ calls.Walk from limit
      → past.done.reply ≡ Walked len next → HasWalked events G count from past next

  -- an answer of a look-up says what was bound
  pub owners_said : (events : List Event) (c port begin : ℕ) (reply : Reply)
      → (said : SaysOf L mix env events c port begin reply)
      → reply ≡ find_reply (bindings_behind L mix env events (said.at + 1) port)
  owners_said events c port begin reply said = elim said.said [
    | inl legal ↦ elim legal.legal [
      | inl answered ↦ plain_reply reply (bindings_behind L mix env events (said.at + 1) port) (ap reply_in answered)
      | inr refused ↦ absurd refused.0
    ]
    | inr not_about ↦ absurd (cc)
  ]

  pub none_found : (owners : List ℕ) → Missing ≡ find_reply owners → owners ≡ []
  none_found [] same = refl
  none_found (first ∷ rest) same = absurd (cc)

  pub one_found : (owners : List ℕ) (owner : ℕ) → Found owner ≡ find_reply owners → (rest : List ℕ) × (owners ≡ owner ∷ rest)
  one_found [] owner same = absurd (cc)
  one_found (first ∷ rest) owner same = let e : owner ≡ first = cc in (rest, ap (λ o. o ∷ rest) (sym e))

  module _ (events : List Event) (core : Core L) (placed : Placed env mix L events core) (count : ℕ → ℕ) (seen : ℕ → Bool) (c : ℕ) where
    abbrev pub JobWalks : ℕ → List ℕ → Option Job → Type 0
    JobWalks begin loaded (Some (walks from limit room state)) = Walks events core placed count seen c from begin loaded room state
    JobWalks begin loaded _ = Unit {0}

    -- so it is of what the caller does, and of its calls that have ended
    pub record CallerWalks (trace : Trace) (job : Option Job) : Type 0 where
      pub past : AllByRecursion (PastWalks events placed.ghost count) trace.past
      pub now : JobWalks trace.begin (owners_loaded env.geometry trace.steps) job

  -- the call is a walk
  abbrev pub is_walk : Call → Bool
  is_walk (calls.Walk from limit) = true
  is_walk _ = false

  -- and of each caller
  pub record AreWalking (events : List Event) (r : Traced L) : Type 0 where
    pub looking : AreLooking L mix env events r
    pub of_ports : PortPlacesRight env mix (mem env mix r.world.core.words) looking.placed.ghost looking.placed.places (length events)
    pub count : ℕ → ℕ
    pub counted : AreCounted (length events) looking.placed.ghost count
    pub made : AreMade L mix env events r.world.core looking.placed.ghost
    pub walks : (c : ℕ) → CallerWalks events r.world.core looking.placed count (looking.readers c).chains c (r.traces c)
        (job_of (local_of r.world.core c).doing)

  -- ---- one event more

  module _ (events : List Event) (event : Event) (looking : AreLooking L mix env events (R events))
      (turn : Turns L mix env events event looking)
      (of_ports : PortPlacesRight env mix (mem env mix (R events).world.core.words) looking.placed.ghost looking.placed.places
      (length events))
      (count : ℕ → ℕ) (counted : AreCounted (length events) looking.placed.ghost count) where
    abbrev r : Traced L
    r = R events

    abbrev pub core : Core L
    core = r.world.core

    abbrev pub core' : Core L
    core' = (world_step mix r.world event).core

    abbrev pub more : List Event
    more = events ++ event ∷ []

    abbrev pub now : ℕ
    now = length events

    abbrev pub placed : Placed env mix L events core
    placed = looking.placed

    abbrev pub M : Memory
    M = mem env mix core.words

    abbrev pub G : Ghost
    G = placed.ghost

    abbrev pub M' : Memory
    M' = mem env mix core'.words

    abbrev pub G' : Ghost
    G' = ghost_after env mix turn.makes.caller turn.makes.move G

    abbrev stands : bindings_at L mix env events ≡ stands_for env.geometry core.words
    stands = end-is L mix env events

    abbrev pub then_places : PlacesThen env mix now M G placed.places M' G' (met_now L mix env looking)
    then_places = next_places env mix L events event core core' stands placed (met_now L mix env looking) (ApartNow L mix env looking)
        turn.makes

    pub longer : length more ≡ now + 1
    longer = length_push events event

    abbrev pub tables : TablesStay env mix G G'
    tables = then_places.stay

    -- how many tables are attached then
    abbrev pub count' : ℕ → ℕ
    count' i = cond (nat_lt now i) G'.attached (count i)

    pub count_old : (i : ℕ) → i ≤ now → count' i ≡ count i
    count_old i low = ap (λ b. cond b G'.attached (count i)) (le-ltb now i low)

    pub count_new : (i : ℕ) → now < i → count' i ≡ G'.attached
    count_new i high = ap (λ b. cond b G'.attached (count i)) (lt-ltb now i high)

    pub counted' : AreCounted (length more) G' count'
    counted' = record {
      at_end = count_new (length more) (omega (arith, longer));
      rises = λ i k less most. elim (cases_lt now k) [
        | inl late ↦ elim (cases_lt now i) [
          | inl both ↦ let a = count_new i both in let b = count_new k late in omega (arith, a, b)
          | inr early ↦
              let a = count_old i early in
              let b = count_new k late in
              let rises = counted.rises i now early (omega arith) in
              let end = counted.at_end in
              let grown = tables.grow.attached in
              omega (arith, a, b, rises, end, grown)
        ]
        | inr early ↦
            let a = count_old i (omega (arith, less, early)) in
            let b = count_old k early in
            let rises = counted.rises i k less early in
            omega (arith, a, b, rises)
      ];
    }

    pub missed_later : (c begin port : ℕ) → MissedOf events c begin port → MissedOf more c begin port
    missed_later c begin port said = said-more L mix env events event c (calls.Find port) begin (plain Missing) said

    bound_later : (c begin : ℕ) (pair : ℕ × ℕ) → BoundOf events c begin pair → BoundOf more c begin pair
    bound_later c begin pair said = said-more L mix env events event c (calls.Find pair.0) begin (plain (Found pair.1)) said

    pub bounds_later : (c begin : ℕ) (items : List (ℕ × ℕ)) → AllByRecursion (BoundOf events c begin) items
        → AllByRecursion (BoundOf more c begin) items
    bounds_later c begin items each = AllByRecursion-weaker _ _ (bound_later c begin) items each

    pub last_later : (begin behind τ : ℕ) → behind ≤ now → (behind' : ℕ) → behind ≤ behind' → WasLast count begin behind τ
        → WasLast count' begin behind' τ
    last_later begin behind τ few behind' most was = record {
      at = was.at;
      begun = was.begun;
      before = let before = was.before in omega (arith, before, most);
      last = was.last ∙ sym (count_old was.at (let before = was.before in omega (arith, before, few)));
    }

    -- ---- what a walk knows then

    module _ (c : ℕ) (low : c < env.geometry.callers) (from : Option Cursor) (begin : ℕ) (begun : begin < now) where
      abbrev pub seen : ℕ → Bool
      seen = (looking.readers c).chains

      -- by pairs, and what is known of each port, before the event
      abbrev Knows : List (ℕ × ℕ) → (ℕ → Type 0) → (ℕ → Type 0) → WalkAt → Type 0
      Knows items Missed Was state = WalkMeans env mix from begin now Missed Was seen items M G placed.places state

      abbrev Keeps : List (ℕ × ℕ) → List ℕ → WalkAt → Type 0
      Keeps items loaded state = KeepsOwners env mix seen items loaded G placed.places state

      absent_then : (port : ℕ) → G'.bound port ≡ [] → MissedOf more c begin port
      absent_then port none =
          missing_after env mix L events event core stands placed c port begin begun core'.words G' turn.makes.made.whole
          (end-next L mix env events event) none

      -- it outlives the event
      pub outlives : (room : Pairs) → room.limit ≡ env.geometry.nodes → (limit : ℕ) (state : WalkAt)
          → job_of (local_of core' c).doing ≡ Some (walks from limit room state) → tied_of_walk env mix G state
          → (Missed Was : ℕ → Type 0) → ((port : ℕ) → Missed port → MissedOf more c begin port)
          → ((τ : ℕ) → Was τ → WasLast count' begin (length more) τ)
          → Knows room.items Missed Was state → (loaded : List ℕ) → Keeps room.items loaded state
          → AllByRecursion (BoundOf more c begin) room.items
          → Walks more core' (placed' L mix env events event looking turn) count' (turn.then c) c from begin loaded room state
      unfolding next
      outlives room roomy limit state does tied Missed Was missed was known loaded keeps bound =
          let see = turn.sees c low in
          let is : standing core' c ≡ standing_of_walk state = ap standing_with does in
          let stood = subst (λ at. AllByRecursion (λ n. seen n ≡ true) at.nodes) is see.stands in
          let from_low = subst (λ (at : Standing). AreFrom tables.low G at.tables) is (see.tables tables.low tables.sections) in
          let turns = subst (λ at. (at ≡ stands_nowhere) ⊎ ((n : ℕ) → seen n ≡ true → turn.then c n ≡ true)) is see.turns in
          record {
            low = low;
            begun = omega (arith, longer, begun);
            roomy = roomy;
            known = walk_outlives env mix from begin now Missed Was (MissedOf more c begin) (WasLast count' begin (length more)) missed was
                room.items M G placed.places
                placed.inv.whole M' G' tables.low tables.grow (met_now L mix env looking) then_places.places
                then_places.stages then_places.kept (length more) (omega (arith, longer)) absent_then seen (turn.then c) see.met_too state
                tied stood from_low turns known;
            keeps = owners_outlive env mix room.items loaded M G placed.places placed.inv.whole tables.low G' tables.grow
                (met_now L mix env looking) then_places.places then_places.kept seen (turn.then c) see.met_too state tied stood from_low
                turns keeps;
            bound = bound;
          }

      -- what is known by the events so far is known by those with this one
      same_tables_grow : GrowsFrom env mix 0 G G
      same_tables_grow = grows_from env mix G G (same_grow env mix G G (same_tables env mix G G.bucket G.node G.bound G.raised))

      missed_now : (port : ℕ) → G.bound port ≡ [] → MissedOf more c begin port
      missed_now port none = missing_said env mix L events event core stands placed c port begin begun none

      pub by_more : (items : List (ℕ × ℕ)) (state : WalkAt) → tied_of_walk env mix G state
          → AllByRecursion (λ n. seen n ≡ true) (standing_of_walk state).nodes
          → Knows items (MissedOf events c begin) (WasLast count begin now) state
          → Knows items (MissedOf more c begin) (WasLast count' begin (length more)) state
      by_more items state tied stood known =
          walk_outlives env mix from begin now (MissedOf events c begin) (WasLast count begin now)
          (MissedOf more c begin) (WasLast count' begin (length more)) (missed_later c begin)
          (λ τ. last_later begin now τ (omega arith) (length more) (omega (arith, longer))) items M G
          placed.places placed.inv.whole M G 0 same_tables_grow seen placed.places
          (λ port seen since began Said Said' said absent seen_met stage stood from_low known.
          stage_said env mix port seen since Said Said' said M G placed.places stage known)
          (λ i n p is from at. at) now (omega arith) missed_now seen seen (λ n is. is) state tied stood
          (λ slot there at. omega arith) (inr (λ n is. is)) known

      -- what it learns by its own operation
      learns : Learns env mix from begin now (MissedOf more c begin) (WasLast count' begin (length more)) seen core.words G placed.places
          placed.inv.whole placed.right placed.deaths of_ports
      learns = record {
        began = omega (arith, begun);
        absent = missed_now;
        last_now = λ τ last. record {
          at = now;
          begun = begun;
          before = omega (arith, longer);
          last = last ∙ sym counted.at_end ∙ sym (count_old now (omega arith));
        };
      }

      -- its own operation leads on
      module _ (limit : ℕ) (loaded : List ℕ) (room : Pairs) (state : WalkAt)
          (walking : Walks events core placed count seen c from begin loaded room state) (within : IsWalkAtIn env.geometry state)
          (tied : tied_of_walk env mix G state) (is : job_of (local_of core c).doing ≡ Some (walks from limit room state)) where
        abbrev old : ℕ
        old = old_of core.words (plan_at env.geometry c state)

        abbrev after : Pairs
        after = room_after state room old

        abbrev state' : WalkAt
        state' = goes env.geometry from limit (length room.items) state old

        stood : AllByRecursion (λ n. seen n ≡ true) (standing_of_walk state).nodes
        stood = subst (λ at. AllByRecursion (λ n. seen n ≡ true) at.nodes) (ap standing_with is) (turn.sees c low).stood

        -- a node at which it is has a place, so its key is a port
        small_key : (here : WalkAt) → Keeps room.items loaded here
            → HasSmallKey env mix from begin now (MissedOf more c begin) (WasLast count' begin (length more)) seen core.words G placed.places
            placed.inv.whole placed.right placed.deaths of_ports here
        small_key (at.Key chain node) keeps = elim keeps.stands [
          | inl out ↦ of_ports.small out.bucket node out.at out.is
          | inr is ↦ of_ports.small (word_index env mix chain.place) node is.at is.is
        ]
        small_key _ keeps = tt

        known_then : Knows room.items (MissedOf more c begin) (WasLast count' begin (length more)) state
        known_then = by_more room.items state tied stood walking.known

        known_next : Knows after.items (MissedOf more c begin) (WasLast count' begin (length more)) state'
        known_next =
            walk_leads env mix from begin now (MissedOf more c begin) (WasLast count' begin (length more)) seen core.words G placed.places
            placed.inv.whole placed.right placed.deaths of_ports learns limit room walking.roomy c state within tied stood
            (small_key state walking.keeps) known_then

        bound_next : AllByRecursion (BoundOf more c begin) after.items
        bound_next =
            bound_leads env mix from begin now (MissedOf more c begin) (WasLast count' begin (length more)) seen core.words G placed.places
            placed.inv.whole placed.right placed.deaths of_ports (BoundOf more c begin)
            (λ n port late key. found_said env mix L events event core stands placed c port begin begun n key late) room c state known_then
            (bounds_later c begin room.items walking.bound)

        keeps_next : Keeps after.items (loaded_after state loaded old) state'
        keeps_next =
            owners_lead env mix seen now core.words G placed.places placed.inv.whole placed.right of_ports from limit room walking.roomy
            loaded c state within tied stood walking.keeps

        pub goes_on : after.limit ≡ env.geometry.nodes → job_of (local_of core' c).doing ≡ Some (walks from limit after state')
            → Walks more core' (placed' L mix env events event looking turn) count' (turn.then c) c from begin
            (loaded_after state loaded old) after state'
        goes_on roomy does =
            outlives after roomy limit state' does
            (walk_ties env mix core.words G placed.inv.whole from limit (length room.items) c state within tied)
            (MissedOf more c begin) (WasLast count' begin (length more)) (λ port said. said) (λ τ was. was) known_next
            (loaded_after state loaded old) keeps_next bound_next
