-- What a listing knows in each state, and that each of its operations leads from what it knows to what it
-- knows next.
use Rattle.std.proofs.Common.{◌≡◌, ℕ, suc, ◌+◌, ◌<◌, List, [], ◌∷◌, ◌++◌, length, Option, Some, None, cond, refl, sym, ◌∙◌, ap, subst, inl, arith}
use Rattle.std.proofs.lemmas.Bool.{lt-ltb}
use Rattle.std.proofs.lemmas.List.{append_assoc, length-append, length-map, map-append}
use Rattle.rht_words.specs.declared.env.Env.{Env}
use Rattle.rht_words.specs.declared.machine.Next.{Next}
use Rattle.rht_words.specs.declared.machine.Next.TheVariants.{Go, Done}
use Rattle.rht_words.specs.Held as held
use Rattle.rht_words.specs.Links.{link_of, node_of}
use Rattle.rht_words.specs.Ports.{owner_of}
use Rattle.rht_words.specs.Operations.{old_of, word_after, applied}
use Rattle.rht_words.specs.Places.{Node, OwnerWord, ListLink, words_in}
use Rattle.rht_words.specs.Chains.{IsSegment}
use Rattle.rht_words.specs.Members.{In}
use Rattle.rht_words.proofs.Memory.{Memory}
use Rattle.rht_words.proofs.LinksRead.{links_tell_apart}
use Rattle.rht_words.proofs.Members.{in-middle}
use Rattle.rht_model.specs.declared.history.Call.{Call}
use Rattle.rht_model.specs.declared.history.Call.TheVariants as calls
use Rattle.rht_model.specs.Multimap.{Multimap}
use Rattle.rht_model.specs.Answers.{Answer}
use Rattle.rht_model.specs.Rooms.{Kept, with_kept}
use Rattle.rht_release.specs.All.{plan_at, after_at, room_after, sought, list_followed, IsAllAtIn}
use Rattle.rht_release.specs.AllHeld.{listing_of, held_of_all}
use Rattle.rht_release.specs.Seek.{SeekModel, seek_plan, seek_after, holds_section}
use Rattle.rht_release.specs.declared.found_port.FoundPort.{FoundPort}
use Rattle.rht_release.specs.declared.all.AllAt.{AllAt}
use Rattle.rht_release.specs.declared.all.AllAt.TheVariants as at
use Rattle.rht_ghost.proofs.Theory.Ghosts.{Ghost}
use Rattle.rht_ghost.proofs.Theory.Wholes.{list_of, Whole}
use Rattle.rht_ghost.proofs.Theory.Knowns.{Nowhere, Locks, Collected, CollectedTo, Known, last_of}
use Rattle.rht_ghost.proofs.Theory.Knowledge.{plainly, Knowing}
use Rattle.rht_ghost.proofs.Theory.Answering.{IsLegalOn, IsRight, Tells, keeps, learns}
use Rattle.rht_ghost.proofs.Theory.Steps.{answered-map, Holding, mem, owners, owners_in, StepWhere, step-map, reads, HoldsNoneEarly, still_has}
use Rattle.rht_ghost.proofs.Pieces.Locates.{IsThereFor}
use Rattle.rht_ghost.proofs.Pieces.Locks.{unlock_step}
use Rattle.rht_ghost.proofs.Pieces.OwnSections.{OpensNone, open_step, close_step}
use Rattle.rht_ghost.proofs.Pieces.Lists.{list_among, list_few, list_rest, found_list}
use Rattle.rht_release.proofs.Seeks as seeks
use Rattle.rht_release.proofs.Seeks.{in_list}
use Rattle.rht_ghost.proofs.Theory.Knowns.{known_nothing}
use Rattle.rht_release.proofs.ReleaseStores.{here}

module _ (port : ℕ) where
  -- what a listing that has kept these owners knows in a state
  abbrev pub known_of_all : List ℕ → AllAt → Known
  known_of_all owners at.Opening = known_nothing
  known_of_all owners (at.Seeking seek) = seeks.known_of_seek port None seek.at
  known_of_all owners (at.Owner found node) =
      here (in_list port found (Collected node owners))
  known_of_all owners (at.ListLink found node) =
      here (in_list port found (CollectedTo node owners))
  known_of_all owners (at.Unlocking table unlock) = here (Locks unlock.place unlock.word)
  known_of_all owners at.Closing = known_nothing

  -- how its pieces are for the port, and its room: it is empty until the port was found
  abbrev pub fits_all : Kept ℕ → AllAt → Type 0
  fits_all room at.Opening = room.items ≡ []
  fits_all room (at.Seeking seek) = seeks.fits_seek port seek.at × (room.items ≡ [])
  fits_all room (at.Owner found node) = Unit {0}
  fits_all room (at.ListLink found node) = Unit {0}
  fits_all room (at.Unlocking table unlock) = Unit {0}
  fits_all room at.Closing = Unit {0}

-- the room with this owner behind the others
abbrev pub room_with : Kept ℕ → ℕ → Kept ℕ
room_with room owner = record { items = room.items ++ owner ∷ []; limit = room.limit }

module _ (env : Env) (mix : ℕ → ℕ → ℕ → ℕ) (c : ℕ) (port : ℕ) where
  abbrev call : Call
  call = calls.All port

  pub record AllKnows (room : Kept ℕ) (at : AllAt) (M : Memory) (G : Ghost) : Type 0 where
    pub knowing : Knowing env mix c (held_of_all room.items at) (known_of_all port room.items at) M G
    pub fits : fits_all port room at

  -- what it holds and knows after an operation, with this room then
  abbrev pub all_holds : Kept ℕ → AllAt × Next (Unit {0}) → Holding
  all_holds room (at, Go) = held_of_all room.items at
  all_holds room (at, Done done) = held.ended_with (listing_of room.items)

  abbrev pub AllNext : Kept ℕ → AllAt × Next (Unit {0}) → Memory → Ghost → Type 0
  AllNext room (at, Go) M G = AllKnows room at M G
  AllNext room (at, Done done) M G =
      Knowing env mix c (held.ended_with (listing_of room.items)) known_nothing M G

  module _ (room : Kept ℕ) (roomy : room.limit ≡ env.geometry.nodes) (words : List ℕ) (G : Ghost)
      (all : length words ≡ words_in env.geometry) (whole : Whole env mix (mem env mix words) G) where
    abbrev M : Memory
    M = mem env mix words

    -- the owners of each port now
    abbrev now : Multimap
    now = owners env mix M G

    -- what an operation leads to from a state, with this room then
    abbrev pub AllMoved : AllAt → Kept ℕ → AllAt × Next (Unit {0}) → Type 0
    AllMoved at after r =
        StepWhere env mix
        (IsThereFor (held_of_all room.items at).early (known_of_all port room.items at).table M)
        (IsThereFor (all_holds after r).early (known_of_all port after.items r.0).table
        (mem env mix (applied words (plan_at env c at)))) c call words G (plan_at env c at)
        (held_of_all room.items at) (all_holds after r) (AllNext after r)

    abbrev pub AllStep : AllAt → Type 0
    AllStep at =
        let word = old_of words (plan_at env c at) in
        AllMoved at (room_after at room word) (after_at mix env port at word)

    -- a load, with what it tells of the answer
    goes_on : (at next : AllAt) (after : Kept ℕ)
        → word_after (old_of words (plan_at env c at)) (plan_at env c at) ≡ old_of words (plan_at env c at)
        → HoldsNoneEarly (held_of_all room.items at) (held_of_all after.items next)
        → Tells env.config.kind c call (held_of_all room.items at).node now (held_of_all room.items at).answer
        (held_of_all after.items next).answer
        → AllKnows after next M G → AllMoved at after (next, Go)
    goes_on at next after same holds tells knows =
        reads env mix whole same holds tells knows

    -- a listing is answered with the owners of the port
    listing_right : (owners : List ℕ) → IsRight call None (listing_of owners)
    listing_right owners =
        record { replied = record { reply = tt; owners = refl }; tells = refl }

    listing_legal : (owners : List ℕ) → now port ≡ owners
        → IsLegalOn env.config.kind c call now (listing_of owners)
    listing_legal owners is =
        record { legal = inl (ap (λ list. Some (listing_of list)) is); leaves = λ p. refl }

    -- ---- the owners

    -- the owner of a node
    abbrev pub owner_at : ℕ → ℕ
    owner_at node = owner_of (M (Node node OwnerWord))

    -- the owner that was loaded is kept: of the nodes of the list one is left, so there is room
    pub kept : (found : FoundPort) (node : ℕ) → AllKnows room (at.Owner found node) M G
        → with_kept room (owner_at node) ≡ room_with room (owner_at node)
    kept found node known =
        let listed = known.knowing.means.bucket in
        let is = listed.means in
        let few = list_few env mix M G whole port found.node listed.behind listed.bound_to in
        let many : length (found.node ∷ listed.behind) ≡ length is.among.front + suc (length is.among.rear) =
        ap length is.among.split ∙ length-append is.among.front (node ∷ is.among.rear) in
        let far : length room.items ≡ length is.among.front =
        ap length is.owners_are ∙ length-map is.among.front owner_at in
        ap (λ t. cond t (room_with room (owner_at node)) room)
        (lt-ltb (length room.items) room.limit (omega (arith, few, many, far, roomy)))

    owner_kept : (found : FoundPort) (node : ℕ) → AllKnows room (at.Owner found node) M G
        → AllStep (at.Owner found node)
    owner_kept found node known =
        let listed = known.knowing.means.bucket in
        let is = listed.means in
        subst (λ after. AllMoved (at.Owner found node) after (at.ListLink found node, Go))
        (sym (kept found node known))
        (goes_on (at.Owner found node) (at.ListLink found node) (room_with room (owner_at node)) refl refl
        (inl refl)
        (record {
          knowing = plainly env mix known.knowing.only tt tt (record {
            found = listed.found;
            behind = listed.behind;
            bound_to = listed.bound_to;
            means = record {
              before = is.before;
              among = is.among;
              owners_are = ap (λ owners. owners ++ owner_at node ∷ []) is.owners_are
                  ∙ sym (map-append owner_at is.among.front (node ∷ []));
            };
          });
          fits = tt;
        }))

    -- ---- the links of the list

    -- where the listing goes on behind a node, by the word that it has loaded
    abbrev behind_link : FoundPort → ℕ → AllAt
    behind_link found link = list_followed found (node_of env.geometry.nodes link)

    -- behind the last node all owners are kept
    list_ends : (found : FoundPort) (node : ℕ) → (known : AllKnows room (at.ListLink found node) M G)
        → M (Node node ListLink) ≡ 0 → known.knowing.means.bucket.means.among.rear ≡ []
        → AllStep (at.ListLink found node)
    list_ends found node known end none =
        let listed = known.knowing.means.bucket in
        let is = listed.means in
        let nodes : G.bound port ≡ is.among.front ++ node ∷ [] =
        listed.bound_to ∙ is.among.split ∙ ap (λ rear. is.among.front ++ node ∷ rear) none in
        let bound : now port ≡ room.items = ap (owners_in env mix M) nodes ∙ sym is.owners_are in
        subst (λ next. AllMoved (at.ListLink found node) room (next, Go)) (sym (ap (behind_link found) end))
        (goes_on (at.ListLink found node) (list_followed found None) room refl refl
        (learns env.config.kind c call None now (listing_of room.items) (listing_right room.items) refl
        (listing_legal room.items bound))
        (record { knowing = plainly env mix known.knowing.only tt tt listed.found.standing.lock; fits = tt }))

    -- and before it goes on to the next one
    list_goes_on : (found : FoundPort) (node next : ℕ) (rear : List ℕ)
        → (known : AllKnows room (at.ListLink found node) M G)
        → M (Node node ListLink) ≡ link_of next → known.knowing.means.bucket.means.among.rear ≡ next ∷ rear
        → AllStep (at.ListLink found node)
    list_goes_on found node next rear known link some =
        let listed = known.knowing.means.bucket in
        let is = listed.means in
        let front = is.among.front ++ node ∷ [] in
        let split : found.node ∷ listed.behind ≡ front ++ next ∷ rear =
        is.among.split ∙ ap (λ list. is.among.front ++ node ∷ list) some
        ∙ sym (append_assoc is.among.front (node ∷ []) (next ∷ rear)) in
        let there = subst (In next) (sym split) (in-middle next front rear) in
        let among = list_among env mix M G whole port found.node listed.behind listed.bound_to next there in
        let goes : behind_link found (M (Node node ListLink)) ≡ at.Owner found next =
        ap (behind_link found) link
        ∙ ap (list_followed found) (links_tell_apart.link_names env.geometry.nodes next among) in
        subst (λ later. AllMoved (at.ListLink found node) room (later, Go)) (sym goes)
        (goes_on (at.ListLink found node) (at.Owner found next) room refl refl (inl refl) (record {
          knowing = plainly env mix known.knowing.only tt tt (record {
            found = listed.found;
            behind = listed.behind;
            bound_to = listed.bound_to;
            means = record {
              before = last_of front;
              among = record { front = front; rear = rear; split = split; last = refl };
              owners_are = is.owners_are;
            };
          });
          fits = tt;
        }))

    -- which of the two the link says
    link_next : (found : FoundPort) (node : ℕ) → (known : AllKnows room (at.ListLink found node) M G)
        → (rear : List ℕ) → known.knowing.means.bucket.means.among.rear ≡ rear
        → IsSegment (list_of M) (list_of M node) rear 0 → AllStep (at.ListLink found node)
    link_next found node known [] is segment = list_ends found node known segment is
    link_next found node known (next ∷ rear) is segment =
        list_goes_on found node next rear known segment.0 is

    -- ---- the way to the port

    -- the answer where the port is bound to nothing
    abbrev absent : Answer
    absent = listing_of room.items

    -- no owner is kept before the first node
    found_knows : (seek : SeekModel) (found : FoundPort) → room.items ≡ [] → (M' : Memory) (G' : Ghost)
        → Whole env mix M' G'
        → seeks.SeekNext env mix c call port None None absent (seek.at, Done (Some found)) M' G'
        → AllKnows room (at.Owner found found.node) M' G'
    found_knows seek found none M' G' w k =
        let there = k.means.bucket in
        let bucket = found.bucket in
        let list =
        found_list env mix M' G' w c bucket.place bucket.word port found.node found.before there in
        record {
          knowing = plainly env mix k.only tt tt (record {
            found = there;
            behind = list.0;
            bound_to = list.1;
            means = record {
              before = None;
              among = record { front = []; rear = list.0; split = refl; last = refl };
              owners_are = none;
            };
          });
          fits = tt;
        }

    -- where the port was found its owners are loaded
    seek_next : (seek : SeekModel) (r : SeekModel × Next (Option FoundPort)) → room.items ≡ []
        → StepWhere env mix (seeks.seek_there None absent port None seek.at M)
        (seeks.seek_there_next None absent port None (r.0.at, r.1)
        (mem env mix (applied words (seek_plan seek)))) c call words G
        (seek_plan seek) (held_of_all room.items (at.Seeking seek))
        (seeks.seek_holds None absent (r.0.at, r.1))
        (seeks.SeekNext env mix c call port None None absent (r.0.at, r.1))
        → AllMoved (at.Seeking seek) room (sought r.0 r.1, Go)
    seek_next seek (next, Go) none step =
        step-map env mix (λ M' G' w k. record { knowing = k.knowing; fits = (k.fits, none) }) step
    seek_next seek (next, Done None) none step =
        step-map env mix (λ M' G' w k. record { knowing = k; fits = tt }) step
    seek_next seek (next, Done (Some found)) none step =
        step-map env mix (found_knows next found none) step

    -- ---- each operation leads from what the listing knows to what it knows next
    pub all_step : c < env.geometry.callers → (at : AllAt) → IsAllAtIn env at → OpensNone env c G (plan_at env c at) (held_of_all room.items at)
        → AllKnows room at M G → AllStep at
    all_step low at.Opening is outside known =
        answered-map env mix None (inl refl) (still_has refl)
        (λ M' G' w k. record { knowing = k; fits = (tt, known.fits) })
        (open_step env mix c held.holds_nothing known_nothing refl words G all whole low (outside refl refl) known.knowing)
    all_step low (at.Seeking seek) is outside known =
        let none = known.fits.1 in
        seek_next seek (seek_after mix port seek (old_of words (seek_plan seek))) none
        (seeks.seek_step env mix c call port None None absent words G all whole
        (λ unbound. listing_legal room.items (unbound ∙ sym none)) (listing_right room.items) refl seek is
        (record { knowing = known.knowing; fits = known.fits.0 }))
    all_step low (at.Owner found node) is outside known = owner_kept found node known
    all_step low (at.ListLink found node) is outside known =
        let listed = known.knowing.means.bucket in
        let among = listed.means.among in
        link_next found node known among.rear refl
        (list_rest env mix M G whole port found.node listed.behind listed.bound_to node listed.means.before
        among)
    all_step low (at.Unlocking table unlock) is outside known =
        let answer = Some (listing_of room.items) in
        let told : Holding = record holds_section { answer = answer } in
        answered-map env mix answer (inl (keeps answer)) (still_has refl)
        (λ M' G' w k. record { knowing = k; fits = tt })
        (unlock_step env mix c told None Nowhere words G all whole refl unlock.place unlock.word known.knowing)
    all_step low at.Closing is outside known =
        let answer = Some (listing_of room.items) in
        let told : Holding = held.ended_with (listing_of room.items) in
        answered-map env mix answer (inl (keeps answer)) (still_has refl) (λ M' G' w k. k)
        (close_step env mix c told known_nothing refl words G all whole low refl refl known.knowing)
