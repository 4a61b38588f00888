-- Each operation of a walk leads from what it knows to what it knows next. Both are said by the words and the ghost of one moment: the
-- operation loads a word, or turns the walk's section word.
use Rattle.std.proofs.Common.{◌≡◌, ◌≢◌, ℕ, ◌+◌, ◌%◌, ◌^◌, ◌<◌, ◌≤◌, nat_lt, Bool, true, List, [], length, Option, Some, None, refl, sym, ◌∙◌, ap, subst, inl, arith}
use Rattle.std.specs.Prelude.{◌==◌}
use Rattle.std.specs.List.{AllByRecursion}
use Rattle.std.proofs.lemmas.Bool.{cond_both, ltb-false}
use Rattle.rht_words.specs.declared.env.Env.{Env}
use Rattle.rht_words.specs.declared.geometry.Geometry.{Geometry}
use Rattle.rht_words.specs.declared.machine.Start.{Start}
use Rattle.rht_words.specs.declared.machine.Start.TheVariants as starts
use Rattle.rht_words.specs.Links.{link_of, marker_of, node_of, head_of, slot_of, table_of, page_of}
use Rattle.rht_words.specs.Operations.{old_of}
use Rattle.rht_words.specs.Places.{CurrentTable, Slot, FutureWord, SerialWord, PageWord, Node, OwnerWord, place_of}
use Rattle.rht_words.specs.Ports.{IsPort, port_of, owner_of}
use Rattle.rht_words.specs.declared.op.Op.TheVariants.{Load}
use Rattle.rht_words.proofs.LinksRead.{links_tell_apart}
use Rattle.rht_words.proofs.Memory.{Memory}
use Rattle.rht_model.specs.declared.history.Cursor.{Cursor}
use Rattle.rht_nest.specs.Place.{PlaceModel, place_plan, entered, entry_seen, went_behind}
use Rattle.rht_walk.specs.Walk.{Pairs, plan_at, goes, room_after, reached, bucket_ended, chain_ended, led_to, unless_behind, chain_of as chain_at, one_more, IsVisitIn, IsWalkAtIn}
use Rattle.rht_walk.specs.WalkStanding.{standing_of_walk}
use Rattle.rht_walk.specs.declared.walk.Visit.{Visit}
use Rattle.rht_walk.specs.declared.walk.Chain.{Chain}
use Rattle.rht_walk.specs.declared.walk.WalkEnd.TheVariants as ends
use Rattle.rht_walk.specs.declared.walk.WalkAt.{WalkAt}
use Rattle.rht_walk.specs.declared.walk.WalkAt.TheVariants as at
use Rattle.rht_ghost.proofs.Pieces.TableLoads.{LeadsBehind, future_leads}
use Rattle.rht_ghost.proofs.Theory.Ghosts.{Ghost, index_at, none-some}
use Rattle.rht_ghost.proofs.Theory.Steps.{mem}
use Rattle.rht_ghost.proofs.Theory.WaysRead.{words_of_pages, read_by_entry, way_read, missing_home}
use Rattle.rht_ghost.proofs.Theory.Wholes.{chain_of, key_of, hash_in, Whole, current-there, at-there, at-right}
use Rattle.rht_ghost.proofs.Theory.Wholes as wholes
use Rattle.rht_core.proofs.Finding.Deaths.{DeathsRight, IsLate, late-earlier}
use Rattle.rht_core.proofs.Finding.Places.{Places, PlacesRight}
use Rattle.rht_core.proofs.Finding.StageSteps.{at_current}
use Rattle.rht_core.proofs.Returning.TiedWalks.{IsWalked, IsOnWayTo, tied_of_walk, number_below}
use Rattle.rht_core.proofs.Walking.KeptPairs.{each_kept, kept_known}
use Rattle.rht_core.proofs.Walking.KnownBuckets.{begun_known, end_known, ended_known}
use Rattle.rht_core.proofs.Walking.KnownChains.{missing_known, head_known, headless_known, key_known, link_known, linkless_known, all_known}
use Rattle.rht_core.proofs.Finding.PortPlaces.{PortPlacesRight}
use Rattle.rht_core.proofs.Walking.SlotsOfTables.{IsAttached, at_attached, index_is}
use Rattle.rht_core.proofs.Walking.WalkFacts.{Said, IsNew, IsAt, IsBehind, IsInChain, HereAtKey, IsAtEnd, WalkMeans}

module _ (env : Env) (mix : ℕ → ℕ → ℕ → ℕ) (from : Option Cursor) (begin now : ℕ) (Missed WasLast : ℕ → Type 0)
    (seen : ℕ → Bool) (words : List ℕ) (G : Ghost) (P : Places) (whole : Whole env mix (mem env mix words) G)
    (right : PlacesRight env mix G P (mem env mix words) now) (deaths : DeathsRight env (mem env mix words) G P now)
    (of_ports : PortPlacesRight env mix (mem env mix words) G P now) where
  abbrev M : Memory
  M = mem env mix words

  abbrev MeansBy : List (ℕ × ℕ) → WalkAt → Type 0
  MeansBy items = WalkMeans env mix from begin now Missed WasLast seen items M G P

  -- ---- with the same pairs

  module _ (items : List (ℕ × ℕ)) (limit shown : ℕ) where
    abbrev Means : WalkAt → Type 0
    Means = MeansBy items

    abbrev At : Visit → Type 0
    At = IsAt env mix from begin now Missed WasLast seen items M G P

    abbrev Behind : Visit → Type 0
    Behind = IsBehind env mix from begin now Missed WasLast seen items M G P

    -- a bucket has ended
    ended : (visit : Visit) → IsWalked env mix G visit → Behind visit → Means (bucket_ended env.geometry limit shown visit)
    ended = ended_known env mix from begin now Missed WasLast seen items M G P whole limit shown

    -- a chain has
    chain_ends : (chain : Chain) (link : ℕ) → IsWalked env mix G chain.visit → Behind chain.visit
        → Means (chain_ended env.geometry limit shown chain link)
    chain_ends chain link walked behind =
        cond_both (link == marker_of chain.place) _ _ Means (λ t. ended chain.visit walked behind) (λ f. behind)

    -- a link that is read as none leads to no node
    names_none : (link : ℕ) → node_of env.geometry.nodes link ≡ None → (n : ℕ) → n < env.geometry.nodes → link ≢ link_of n
    names_none link none n l same =
        none-some none (ap (node_of env.geometry.nodes) same ∙ links_tell_apart.link_names env.geometry.nodes n l)

    -- where a link leads
    record LeadsSo (chain : Chain) (link : ℕ) : Type 0 where
      to_node : (n : ℕ) → link ≡ link_of n
          → IsInChain env mix from begin now Missed WasLast seen items M G P chain n
          (HereAtKey env mix from begin now Missed WasLast seen items M G P chain n) (λ at. at + 1)
      to_none : ((n : ℕ) → n < env.geometry.nodes → link ≢ link_of n) → Behind chain.visit
      visited_all : env.geometry.nodes ≤ chain.visited → Behind chain.visit

    led : (chain : Chain) (link : ℕ) → IsWalked env mix G chain.visit → LeadsSo chain link → (node : Option ℕ)
        → node_of env.geometry.nodes link ≡ node → Means (led_to env.geometry limit shown chain link node)
    led chain link walked leads None none = chain_ends chain link walked (leads.to_none (names_none link none))
    led chain link walked leads (Some n) some =
        cond_both (nat_lt chain.visited env.geometry.nodes) _ _ Means
        (λ t. leads.to_node n (links_tell_apart.named_by_link env.geometry.nodes link n some).0)
        (λ f. chain_ends chain link walked (leads.visited_all (ltb-false chain.visited env.geometry.nodes f)))

    -- ---- an entry on the way

    module _ (visit : Visit) (way : PlaceModel) (within : IsVisitIn visit) (same : way.geometry ≡ env.geometry)
        (on : IsOnWayTo env mix G visit way)
        (known : At visit) where
      entered-known : (page : ℕ) (start : Start PlaceModel ℕ) → entered way page ≡ start
          → let next = went_behind way start in Means (reached env.geometry limit shown visit next.0 next.1)
      entered-known page (starts.Running next) e = known
      entered-known page (starts.Done there) e = known

      entry-known : (entry : Option ℕ) → page_of env.geometry.pages (M (PageWord way.entry)) ≡ entry
          → let next = entry_seen way entry in Means (reached env.geometry limit shown visit next.0 next.1)
      entry-known None none =
          let of = on.walked.of in
          let missing =
          subst (λ τ. (G.table τ).place visit.bucket ≡ None) (sym (index_is env mix M G whole visit.table of))
          (missing_home env mix ((G.table of.table).place visit.bucket)
          (sym (way_read env mix M G whole of.table visit.bucket (at-there of)
          (number_below env mix words G whole visit within on.walked) way on.to)
          ∙ read_by_entry (words_of_pages M) way env.geometry None same none)) in
          ended visit on.walked (missing_known env mix from begin now Missed WasLast seen items words G P whole right deaths of_ports visit
          missing known)
      entry-known (Some page) leads = entered-known page (entered way page) refl

    -- ---- a table's future

    -- no table is behind, or it has to begin anew
    strange_ends : (visit : Visit) (future : Option ℕ) → IsWalked env mix G visit → Behind visit
        → Means (unless_behind future (bucket_ended env.geometry limit shown visit))
    strange_ends visit None walked behind = ended visit walked behind
    strange_ends visit (Some table) walked behind = tt

    table_ends : (slot : ℕ) (future : Option ℕ) (of : IsAttached G slot) → LeadsBehind env mix M G whole (index_at G slot) future
        → ((τ : ℕ) → τ + 1 ≡ G.attached → WasLast τ) → IsAtEnd env mix from begin now Missed WasLast seen items M G P slot
        → Means (unless_behind future (at.Closing (ends.Walked None)))
    table_ends slot (Some table) has behind last_now end = tt
    table_ends slot None has last last_now end =
        subst (λ s. index_at G s + 1 ≡ G.attached → Means (at.Closing (ends.Walked None))) end.same (λ is. record {
          table = index_at G end.visit.table;
          serial = end.visit.serial;
          shape = end.visit.shape;
          upto = end.visit.bucket + 1;
          low = let low = end.behind.low in omega (arith, low);
          attached = omega (arith, is);
          serial_is = end.behind.of.serial_is;
          fits = end.behind.of.fits;
          ends = (
            last_now (index_at G end.visit.table) is,
            λ port. subst (λ s. hash_in env mix G port (index_at G s) < end.visit.bucket + 1) (sym end.same) (end.all port),
            end_known env mix from begin now Missed WasLast seen items M G P whole end.visit end.behind is,
          );
        }) last

  -- ---- each state

  -- what it learns meanwhile: a port that is bound nowhere now was so
  pub record Learns : Type 0 where
    pub began : begin + 1 ≤ now
    pub absent : (port : ℕ) → G.bound port ≡ [] → Missed port
    pub last_now : (τ : ℕ) → τ + 1 ≡ G.attached → WasLast τ

  -- its section has met the node at which it stands
  abbrev pub HasMet : WalkAt → Type 0
  HasMet state = AllByRecursion (λ n. seen n ≡ true) (standing_of_walk state).nodes

  -- the key that it is to load is a port
  abbrev pub HasSmallKey : WalkAt → Type 0
  HasSmallKey (at.Key chain node) = IsPort (key_of M node)
  HasSmallKey _ = Unit {0}

  module _ (learns : Learns) (limit : ℕ) (room : Pairs) (roomy : room.limit ≡ env.geometry.nodes) (c : ℕ) where
    abbrev Next : WalkAt → Type 0
    Next state =
        let old = old_of words (plan_at env.geometry c state) in
        MeansBy (room_after state room old).items (goes env.geometry from limit (length room.items) state old)

    abbrev items : List (ℕ × ℕ)
    items = room.items

    current_known : items ≡ [] → IsNew env mix from begin now Missed WasLast seen items M G P (table_of (M CurrentTable))
    current_known none =
        let there = current-there env mix whole.tables in
        let right_now = whole.tables.each G.current there in
        let slot = (G.table G.current).slot in
        let is : table_of (M CurrentTable) ≡ slot = (let word = whole.tables.current_is in omega (arith, right_now.slot_in, word)) in
        rw is (record {
          none = none;
          ahead = λ port. at_current env mix port seen 0 now M G P whole right deaths
              (Said env mix from begin now Missed WasLast seen items M G P port)
              (λ unbound. inl (learns.absent port unbound));
        })

    serial_is : (slot : ℕ) → wholes.IsAt G slot → (G.table (index_at G slot)).serial ≡ M (Slot slot SerialWord)
    serial_is slot at =
        ap (λ τ. (G.table τ).serial) (index_is env mix M G whole slot at)
        ∙ sym (ap (λ s. M (Slot s SerialWord)) (sym at.slot_is) ∙ (at-right env mix whole.tables slot at).serial_is)

    pub walk_leads : (state : WalkAt) → IsWalkAtIn env.geometry state → tied_of_walk env mix G state → HasMet state → HasSmallKey state
        → MeansBy items state → Next state
    walk_leads at.Opening within tied met small known = known
    walk_leads at.CurrentTable within tied met small known = current_known known
    walk_leads (at.Serial table) within tied met small known = (serial_is table tied, known)
    walk_leads (at.Shape table serial) within tied met small known =
        begun_known env mix from begin now Missed WasLast seen items M G P whole table serial _ known.0 known.1
    walk_leads (at.Entry visit way) within tied met small known =
        let same = ap (λ (g : Geometry). page_of g.pages (old_of words (Load (place_of g (PageWord way.entry)))))
        within.way_in.geometry_same in
        entry-known items limit (length items) visit way within.visit_in within.way_in.geometry_same tied known
        (page_of way.geometry.pages (old_of words (place_plan way))) (sym same)
    walk_leads (at.Heading visit place) within tied met small known =
        let link = head_of place (old_of words (plan_at env.geometry c (at.Heading visit place))) in
        let headless = headless_known env mix from begin now Missed WasLast seen items words G P whole right deaths of_ports visit
        place
        within.visit_in within.place_in tied in
        led items limit (length items) (chain_at visit place) link tied.walked (record {
          to_node = λ n leads. head_known env mix from begin now Missed WasLast seen items words G P whole right deaths of_ports
              visit place
              within.visit_in within.place_in tied n leads learns.began known;
          to_none = λ none. headless none known;
          visited_all = λ all. headless (λ n l leads. absurd (omega (arith, l, all))) known;
        }) (node_of env.geometry.nodes link) refl
    walk_leads (at.Key chain node) within tied met small known =
        key_known env mix from begin now Missed WasLast seen items words G P whole right deaths of_ports chain node within.visit_in
        tied
        (port_of (key_of M node)) (omega (arith, small)) met.0 known
    walk_leads (at.Owner chain node port) within tied met small known =
        let owner = owner_of (M (Node node OwnerWord)) in
        kept_known env mix from begin now Missed WasLast seen room words G P whole right deaths of_ports roomy chain node port owner
        within.visit_in tied within.node_in met.0 known
    walk_leads (at.Link chain node) within tied met small known =
        let link = chain_of M node in
        led items limit (length items) (one_more chain) link (record { of = tied.of; shape_is = tied.shape_is }) (record {
          to_node = λ n leads. link_known env mix from begin now Missed WasLast seen items words G P whole right deaths of_ports
              chain node
              within.visit_in tied n leads known;
          to_none = λ none. linkless_known env mix from begin now Missed WasLast seen items words G P whole right deaths of_ports
              chain node
              within.visit_in tied none known;
          visited_all = λ all. all_known env mix from begin now Missed WasLast seen items words G P whole right deaths of_ports
              chain node
              within.visit_in tied all known;
        }) (node_of env.geometry.nodes link) refl
    walk_leads (at.StrangeEnd visit) within tied met small known =
        strange_ends items limit (length items) visit (slot_of (M (Slot visit.table FutureWord))) tied known
    walk_leads (at.TableEnd table) within tied met small known =
        table_ends items limit (length items) table (slot_of (M (Slot table FutureWord))) known.of
        (future_leads env mix M G whole table (at_attached env mix M G whole table known.of)) learns.last_now known
    walk_leads (at.Closing (ends.Walked next)) within tied met small known = known
    walk_leads (at.Closing (ends.Again table)) within tied met small known = tt

  -- ---- its pairs

  -- each was bound meanwhile, with that of an operation too: it is a late node's port, which had that node's owner
  pub bound_leads : (Bound : ℕ × ℕ → Type 0)
      → ((n port : ℕ) → IsLate env G P (begin + 1) n → key_of M n ≡ port → Bound (port, owner_of (M (Node n OwnerWord))))
      → (room : Pairs) (c : ℕ) (state : WalkAt) → MeansBy room.items state → AllByRecursion Bound room.items
      → AllByRecursion Bound (room_after state room (old_of words (plan_at env.geometry c state))).items
  bound_leads Bound found room c (at.Owner chain node port) known each =
      each_kept Bound room (port, owner_of (M (Node node OwnerWord))) each
      (found node port (late-earlier env G P known.in_chain.since (begin + 1) node known.in_chain.began known.in_chain.late) known.is)
  bound_leads Bound found room c (at.Closing (ends.Walked next)) known each = each
  bound_leads Bound found room c (at.Closing (ends.Again table)) known each = tt
  bound_leads Bound found room c _ known each = each
