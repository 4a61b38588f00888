-- A rebind, operation by operation: each leads from what it knows to what it knows next.
use Rattle.std.proofs.Common.{◌≡◌, ℕ, ◌^◌, ◌<◌, List, ◌∷◌, length, Option, Some, None, Bool, true, false, refl, sym, ◌∙◌, ap, subst, inl, inr}
use Rattle.std.proofs.lemmas.Bool.{cases_eq}
use Rattle.rht_words.specs.declared.env.Env.{Env}
use Rattle.rht_words.specs.declared.op.Op.TheVariants.{Store}
use Rattle.rht_words.specs.declared.machine.Next.{Next}
use Rattle.rht_words.specs.declared.machine.Next.TheVariants.{Go, Done}
use Rattle.rht_words.specs.Held as held
use Rattle.rht_words.specs.Links.{link_of}
use Rattle.rht_words.specs.Operations.{old_of, applied}
use Rattle.rht_words.specs.Places.{Node, ChainLink, ListLink, words_in}
use Rattle.rht_words.specs.Members.{NotIn}
use Rattle.rht_words.proofs.Memory.{Memory}
use Rattle.rht_arena.specs.NewNode.{NewNodeModel, new_node_plan, new_node_after, node_of_new}
use Rattle.rht_arena.specs.declared.new_node.NewNodeAt.{NewNodeAt}
use Rattle.rht_chain.specs.LockedWalk.{IsNodeOrNone}
use Rattle.rht_chain.specs.Relink.{RelinkModel}
use Rattle.rht_chain.specs.declared.unlock.Unlock.{Unlock}
use Rattle.rht_model.specs.declared.history.Call.{Call}
use Rattle.rht_model.specs.declared.history.Call.TheVariants as calls
use Rattle.rht_model.specs.declared.history.Reply.{Reply}
use Rattle.rht_model.specs.declared.history.Reply.TheVariants.{Rebound, Absent, NoNode}
use Rattle.rht_model.specs.Multimap.{Multimap}
use Rattle.rht_model.specs.Answers.{plain, owners_rebound, bindings_after}
use Rattle.rht_model.proofs.CallEffects.{with_owners-same, with_owners-other}
use Rattle.rht_model.proofs.ReboundOwners.{rebind_reply-none, owners_rebound-none}
use Rattle.rht_release.specs.FoundPort.{relink_of}
use Rattle.rht_release.specs.ListSearch.{search_plan, search_after}
use Rattle.rht_release.specs.Rebind.{plan_at, filled, sought, searched, IsRebindAtIn}
use Rattle.rht_release.specs.RebindHeld.{held_of_rebind, holds_outside, holds_node, holds_found, holds_replacing}
use Rattle.rht_release.specs.Seek.{SeekModel, seek_plan, seek_after, holds_section}
use Rattle.rht_release.specs.declared.found_port.FoundPort.{FoundPort}
use Rattle.rht_release.specs.declared.list_search.ListPlace.{ListPlace}
use Rattle.rht_release.specs.declared.list_search.ListSearch.{ListSearch}
use Rattle.rht_release.specs.declared.rebind.RebindEnd.{RebindEnd}
use Rattle.rht_release.specs.declared.rebind.RebindEnd.TheVariants as ends
use Rattle.rht_release.specs.declared.rebind.RebindAt.{RebindAt}
use Rattle.rht_release.specs.declared.rebind.RebindAt.TheVariants as at
use Rattle.rht_ghost.proofs.Theory.Ghosts.{Ghost}
use Rattle.rht_ghost.proofs.Theory.Wholes.{Whole}
use Rattle.rht_ghost.proofs.Theory.Knowns.{KnownNode, Nowhere, Unlocked, TakenOut, LocksTakenOut, LinkBehind, Copied, CopiedTo, list_link}
use Rattle.rht_ghost.proofs.Theory.Knowledge.{plainly, Knowing}
use Rattle.rht_ghost.proofs.Theory.Answering.{IsLegalOn, IsRight, keeps, learns}
use Rattle.rht_ghost.proofs.Theory.Steps.{answered-map, Holding, mem, owners, SilentStep, silent-map, Step, StepWhere, step-map, reads, still_has}
use Rattle.rht_ghost.proofs.Pieces.Locates.{IsThereFor}
use Rattle.rht_ghost.proofs.Pieces.NewNodes as nodes
use Rattle.rht_ghost.proofs.Pieces.Locks.{unlock_step, unlock_taken}
use Rattle.rht_ghost.proofs.Pieces.OwnSections.{OpensNone, open_step, close_step}
use Rattle.rht_release.proofs.Seeks as seeks
use Rattle.rht_release.proofs.Seeks.{in_list}
use Rattle.rht_ghost.proofs.Pieces.Relinks.{unstored, relinking_so}
use Rattle.rht_release.proofs.ListSearches.{first_among, list_more, search_begins, behind_knows}
use Rattle.rht_release.proofs.ListSearches as searches
use Rattle.rht_release.proofs.RebindKnowledge.{own, copied, knows_of, listed, known_replacing, replaces, with_node}
use Rattle.rht_release.proofs.ReleaseKnowledge.{known_removed, behind_node}
use Rattle.rht_release.proofs.RebindKnowledge as rebinds
use Rattle.rht_release.proofs.RebindStores as stores

module _ (env : Env) (mix : ℕ → ℕ → ℕ → ℕ) (c : ℕ) (port owner new : ℕ)
    (small : new < 2 ^ 32) (low : c < env.geometry.callers)
    (words : List ℕ) (G : Ghost) (all : length words ≡ words_in env.geometry)
    (whole : Whole env mix (mem env mix words) G) where
  abbrev call : Call
  call = calls.Rebind port owner new

  abbrev M : Memory
  M = mem env mix words

  -- the owners of each port now
  abbrev now : Multimap
  now = owners env mix M G

  abbrev RebindKnows : RebindAt → Memory → Ghost → Type 0
  RebindKnows = rebinds.RebindKnows env mix c port owner new

  abbrev RebindNext : RebindAt × Next (Reply × Option ℕ) → Memory → Ghost → Type 0
  RebindNext = rebinds.RebindNext env mix c port owner new

  abbrev RebindMoved : RebindAt → RebindAt × Next (Reply × Option ℕ) → Type 0
  RebindMoved = rebinds.RebindMoved env mix c port owner new words G

  abbrev RebindStep : RebindAt → Type 0
  RebindStep = rebinds.RebindStep env mix c port owner new words G

  -- ---- the answers

  absent_right : (n : ℕ) → IsRight call (Some n) (plain Absent)
  absent_right n = with_node n Absent tt refl (λ e. cc)

  -- where no node is free, whatever is bound
  no_node_legal : IsLegalOn env.config.kind c call now (plain NoNode)
  no_node_legal = record { legal = inr (tt, refl); leaves = λ p. refl }

  -- where the port isn't bound to the old owner
  absent_legal : NotIn owner (now port) → IsLegalOn env.config.kind c call now (plain Absent)
  absent_legal none = record {
    legal = inl (ap (λ reply. Some (plain reply)) (rebind_reply-none owner (now port) none));
    leaves = λ other. elim (cases_eq other port) [
      | inl e ↦
          ap (bindings_after env.config.kind now call) e
          ∙ with_owners-same now port (owners_rebound owner new (now port))
          ∙ owners_rebound-none owner new (now port) none ∙ ap now (sym e)
      | inr ne ↦ with_owners-other now port other (owners_rebound owner new (now port)) ne
    ];
  }

  -- ---- the new node

  -- what it holds while the node is made
  abbrev holds_new : Option ℕ → Holding
  holds_new node = record held.holds_nothing { node = node }

  -- what is known of the node then, and what an operation of its making leads to, for this key and owner
  abbrev making : Option ℕ → Option KnownNode → Memory → Ghost → Type 0
  making node known = nodes.knowing env mix c held.holds_nothing Nowhere Unlocked node known

  abbrev MakingMoved : NewNodeModel → ℕ → ℕ → NewNodeModel × Next (Option ℕ) → Type 0
  MakingMoved fresh key first r =
      let there : NewNodeAt × Next (Option ℕ) = (r.0.at, r.1) in
      SilentStep env mix c words G (new_node_plan fresh) (holds_new (node_of_new fresh.at))
      (holds_new (nodes.made_by there))
      (making (nodes.made_by there) (nodes.known_made key first there))

  -- a node was taken, and its words stored; or there was none
  node_made : (fresh : NewNodeModel) (r : NewNodeModel × Next (Option ℕ)) → r.0.key ≡ port → r.0.owner ≡ new
      → (nodes.made_by (r.0.at, r.1) ≡ None → node_of_new fresh.at ≡ None)
      → MakingMoved fresh port new r → RebindMoved (at.Filling fresh) (filled r.0 r.1)
  node_made fresh (next, Go) key own had step =
      answered-map env mix None (inl refl) (record {
        taken = λ node none some. refl;
        gone = λ node some none. absurd (let before = had none in cc);
      }) (λ M' G' w k. record { knowing = k; fits = (key, own) }) step
  node_made fresh (next, Done None) key own had step =
      let answer = plain NoNode in
      let right : IsRight call (node_of_new fresh.at) answer = record {
        replied = record { reply = tt; owners = refl };
        tells = (λ none. refl, λ no_node. had refl);
      } in
      answered-map env mix (Some answer)
      (learns env.config.kind c call (node_of_new fresh.at) now answer right refl no_node_legal)
      (record { taken = λ node none some. absurd (cc); gone = λ node some none told. absurd (cc) })
      (λ M' G' w k. record { only = k.only; means = k.means }) step
  node_made fresh (next, Done (Some n)) key own had step =
      answered-map env mix None (inl refl)
      (record { taken = λ node none some. refl; gone = λ node some none. absurd (cc) })
      (λ M' G' w k. record { knowing = k; fits = tt }) step

  -- ---- the way to the port

  -- where the port was found its list is looked through, and where it wasn't the node is given back
  seek_next : (n : ℕ) (seek : SeekModel) (r : SeekModel × Next (Option FoundPort))
      → StepWhere env mix
      (seeks.seek_there (Some n) (plain Absent) port (Some (own port owner new n)) seek.at M)
      (seeks.seek_there_next (Some n) (plain Absent) port (Some (own port owner new n)) (r.0.at, r.1)
      (mem env mix (applied words (seek_plan seek)))) c call words G
      (seek_plan seek) (held_of_rebind (at.Seeking n seek))
      (seeks.seek_holds (Some n) (plain Absent) (r.0.at, r.1))
      (seeks.SeekNext env mix c call port (Some n) (Some (own port owner new n)) (plain Absent)
      (r.0.at, r.1))
      → RebindMoved (at.Seeking n seek) (sought n r.0 r.1, Go)
  seek_next n seek (next, Go) step =
      step-map env mix (λ M' G' w k. record { knowing = k.knowing; fits = k.fits }) step
  seek_next n seek (next, Done None) step =
      step-map env mix (λ M' G' w k. record { knowing = k; fits = tt }) step
  seek_next n seek (next, Done (Some found)) step =
      step-map env mix (λ M' G' w k. record {
        knowing =
            search_begins env mix c (holds_found n found) (Some (own port owner new n)) port M' G' w owner found k;
        fits = tt;
      }) step

  -- ---- along the list

  abbrev SearchNext : ℕ → FoundPort → ListSearch × Next (Option ListPlace) → Memory → Ghost → Type 0
  SearchNext n = searches.SearchNext env mix c call port owner (Some n) (Some (own port owner new n)) (plain Absent)

  abbrev search_holds : ℕ → FoundPort → Next (Option ListPlace) → Holding
  search_holds n =
      searches.search_holds env mix c call port owner (Some n) (Some (own port owner new n)) (plain Absent)

  -- it goes on, or has come to the node with the old owner, or behind the last one
  searched_step : (n : ℕ) (found : FoundPort) (search : ListSearch) (r : ListSearch × Next (Option ListPlace))
      → Step env mix c call words G (search_plan env.geometry search) (holds_found n found) (search_holds n found r.1)
      (SearchNext n found r)
      → RebindMoved (at.Searching n found search) (searched n found r.0 r.1, Go)
  searched_step n found search (next, Go) step =
      step-map env mix (λ M' G' w k. record { knowing = k; fits = tt }) step
  searched_step n found search (next, Done None) step =
      step-map env mix (λ M' G' w k. record { knowing = k; fits = tt }) step
  searched_step n found search (next, Done (Some place)) step =
      step-map env mix (λ M' G' w k. record { knowing = k; fits = tt }) step

  searching : (n : ℕ) (found : FoundPort) (search : ListSearch) → RebindKnows (at.Searching n found search) M G
      → RebindStep (at.Searching n found search)
  searching n found search known =
      searched_step n found search (search_after env.geometry owner search (old_of words (search_plan env.geometry search)))
      (searches.search_step env mix c call port owner (Some n) (Some (own port owner new n)) (plain Absent) words G all whole
      absent_legal (absent_right n) refl found search known.knowing)

  -- which link is behind the old node
  behind_step : (n : ℕ) (found : FoundPort) (old : ℕ) (before : Option ℕ)
      → RebindKnows (at.LinkBehind n found old before) M G → RebindStep (at.LinkBehind n found old before)
  behind_step n found old before known =
      reads env mix whole refl refl (inl refl) (record {
        knowing =
            behind_knows env mix c (holds_found n found) (Some (own port owner new n)) port M G whole owner found old before
            known.knowing;
        fits = tt;
      })

  -- ---- the node gets the links of the old one

  -- what it holds beside its node
  abbrev locked : FoundPort → Holding
  locked found = record holds_section { lock = Some found.bucket.place }

  -- then its node has the link that is behind the old one in the list
  has_copied : (n : ℕ) (found : FoundPort) (old : ℕ) (before : Option ℕ) (link : ℕ) (M' : Memory) (G' : Ghost)
      → Knowing env mix c (holds_found n found)
      (listed port owner new (nodes.with_word (own port owner new n) ListLink link) found (LinkBehind old before link owner)) M' G'
      → stores.KnowsList env mix c port owner new n found (Copied old before n owner) M' G'
  has_copied n found old before link M' G' k =
      let node = k.means.node in
      let is = k.means.bucket in
      plainly env mix k.only
      (record { has = node.has; chain = tt; key = node.key; owner = node.owner; list = tt }) k.means.table (record {
        found = is.found;
        behind = is.behind;
        bound_to = is.bound_to;
        means = record { is = is.means.is; has = node.has; list_is = node.list ∙ sym is.means.link_is };
      })

  -- where none is before the old one, that is the first
  first_copied : (n : ℕ) (found : FoundPort) (old : ℕ) (M' : Memory) (G' : Ghost)
      → stores.KnowsList env mix c port owner new n found (Copied old None n owner) M' G'
      → stores.KnowsList env mix c port owner new n found (Copied found.node None n owner) M' G'
  first_copied n found old M' G' k =
      let among = k.means.bucket.means.is.stands.among in
      let nodes = found.node ∷ k.means.bucket.behind in
      let alone : nodes ≡ old ∷ among.rear = first_among nodes old among in
      let first : old ≡ found.node = cc in
      subst (λ x. stores.KnowsList env mix c port owner new n found (Copied x None n owner) M' G') first k

  own_step : (n : ℕ) (found : FoundPort) (old : ℕ) (before : Option ℕ) (link : ℕ)
      → RebindKnows (at.OwnListLink n found old before link) M G
      → RebindStep (at.OwnListLink n found old before link)
  own_step n found old before link known = go before
      (silent-map env mix (λ M' G' w k. has_copied n found old before link M' G' k)
      (nodes.fill_step env mix c (locked found) (seeks.home_of port found)
      (in_list port found (LinkBehind old before link owner)) words G all whole tt (own port owner new n) ListLink link
      known.knowing))
    where
      go : (b : Option ℕ)
          → SilentStep env mix c words G (plan_at env c (at.OwnListLink n found old b link)) (holds_found n found)
          (holds_found n found) (stores.KnowsList env mix c port owner new n found (Copied old b n owner))
          → RebindStep (at.OwnListLink n found old b link)
      go None step =
          answered-map env mix None (inl refl) (still_has refl)
          (λ M' G' w k. record { knowing = first_copied n found old M' G' k; fits = tt }) step
      go (Some before) step =
          answered-map env mix None (inl refl) (still_has refl) (λ M' G' w k. record { knowing = k; fits = tt }) step

  -- which link is behind the first node in the chain
  chain_step : (n : ℕ) (found : FoundPort) → RebindKnows (at.ChainLink n found) M G → RebindStep (at.ChainLink n found)
  chain_step n found known =
      let k = known.knowing in
      let is = k.means.bucket in
      let among = is.means.is.stands.among in
      let nodes = found.node ∷ is.behind in
      let alone : nodes ≡ found.node ∷ among.rear = first_among nodes found.node among in
      let rest : among.rear ≡ is.behind = cc in
      let link = M (Node found.node ChainLink) in
      reads env mix whole refl refl (inl refl) (record {
        knowing =
            list_more env mix c (holds_found n found) (Some (copied port owner new n)) port found
            (Copied found.node None n owner) (CopiedTo n link owner) k (record {
              owner_is = is.means.is.owner_is;
              has = is.means.has;
              list_is = is.means.list_is ∙ ap list_link rest;
              link_is = refl;
            });
        fits = tt;
      })

  -- what is held and known of a replacement that stands so
  abbrev ReplacingKnows : ℕ → FoundPort → RelinkModel → Bool → Memory → Ghost → Type 0
  ReplacingKnows n found relink stored M' G' =
      Knowing env mix c (holds_replacing n found stored) (known_replacing port owner new n found stored)
      M' G'
      × (relink ≡ replaces env n found stored)

  -- an operation that leads to a replacement which stands so
  abbrev ReplacingNext : ℕ → FoundPort → ℕ → Bool → Type 0
  ReplacingNext n found link stored =
      let op = plan_at env c (at.Link n found link) in
      let table = (known_replacing port owner new n found stored).table in
      StepWhere env mix ⊥
      (IsThereFor (holds_replacing n found stored).early table (mem env mix (applied words op)))
      c call words G op (holds_found n found) (holds_replacing n found stored)
      (ReplacingKnows n found (relink_of env.geometry found (link_of n)) stored)

  linked : (n : ℕ) (found : FoundPort) (link : ℕ) → RebindKnows (at.Link n found link) M G
      → ReplacingNext n found link false
  linked n found link known =
      answered-map env mix None (inl refl) (still_has refl)
      (λ M' G' w k. let node = k.means.node in let is = k.means.bucket in (
        plainly env mix k.only
            (record { has = node.has; chain = tt; key = node.key; owner = node.owner; list = tt }) k.means.table (record {
              found = is.found;
              behind = is.behind;
              bound_to = is.bound_to;
              means = record {
                owner_is = is.means.owner_is;
                list_is = is.means.list_is;
                replaces = record { has = node.has; alike = node.chain ∙ sym is.means.link_is };
              };
            }),
        refl,
      ))
      (nodes.store_step env mix c (locked found) (seeks.home_of port found) (in_list port found (CopiedTo n link owner))
      words G all whole (copied port owner new n) ChainLink link (λ e. cc) known.knowing)

  link_next : (n : ℕ) (found : FoundPort) (link : ℕ) → RebindKnows (at.Link n found link) M G
      → RebindStep (at.Link n found link)
  link_next n found link known =
      step-map env mix (λ M' G' w k. record { knowing = k.0; fits = k.1 })
      (subst (ReplacingNext n found link) (sym (unstored found.bucket.place (link_of n) found.before))
      (linked n found link known))

  -- ---- the stores of the replacement

  -- the bucket of the old node, which was taken out, is unlocked
  unlock_rebound : (place word removed : ℕ) (r : RebindAt × Next (Reply × Option ℕ))
      → rebinds.rebind_holds env mix c port owner new r ≡ stores.holds_left None
      → ((M' : Memory) (G' : Ghost)
      → stores.KnowsLeft env mix c port owner new None (TakenOut removed) M' G' → RebindNext r M' G')
      → stores.KnowsLeft env mix c port owner new (Some place) (LocksTakenOut place word removed) M G
      → Step env mix c call words G (Store place word) (stores.holds_left (Some place))
      (rebinds.rebind_holds env mix c port owner new r) (RebindNext r)
  unlock_rebound place word removed r holds next k =
      let told = stores.holds_left None in
      rw holds
      (answered-map env mix told.answer (inl (keeps told.answer)) (still_has refl)
      (λ M' G' w k. next M' G' k)
      (unlock_taken env mix c told None Nowhere words G all whole refl place word removed k))

  -- where a replacement stands in the chain, with this node before the old one or none
  abbrev IsSoOf : ℕ → FoundPort → Option ℕ → RelinkModel → Type 0
  IsSoOf n found before relink =
      let state = at.Replacing n (behind_node found before) relink in
      IsNodeOrNone env.geometry before → RebindKnows state M G → RebindStep state

  replacing_step : (n : ℕ) (found : FoundPort) (relink : RelinkModel) → IsSoOf n found found.before relink
  replacing_step n found relink within known =
      relinking_so env.geometry found.bucket.place found.bucket.word (link_of n) (IsSoOf n found) first second
      found.before relink known.fits within known
    where
      first : (b : Option ℕ) → IsSoOf n found b (replaces env n (behind_node found b) false)
      first None within known =
          let f = behind_node found None in
          step-map env mix (λ M' G' w k. record { knowing = k; fits = tt })
          (stores.chain_store env mix c port owner new small low words G all whole n f within known.knowing)
      first (Some node) within known =
          let f = behind_node found (Some node) in
          step-map env mix (λ M' G' w k. record { knowing = k; fits = refl })
          (stores.chain_store env mix c port owner new small low words G all whole n f within known.knowing)

      second : (node : ℕ) → IsSoOf n found (Some node) (replaces env n (behind_node found (Some node)) true)
      second node within known =
          unlock_rebound found.bucket.place found.bucket.word found.node (at.Closing (ends.Rebound found.node), Go) refl
          (λ M' G' k. record { knowing = k; fits = tt }) known.knowing

  -- in the list it takes one store
  swap_step : (n : ℕ) (found : FoundPort) (old before : ℕ) → RebindKnows (at.Swapping n found old before) M G
      → RebindStep (at.Swapping n found old before)
  swap_step n found old before known =
      step-map env mix (λ M' G' w k. record { knowing = k; fits = tt })
      (stores.swap_store env mix c port owner new small low words G all whole n found old before known.knowing)

  -- then the bucket is unlocked; or behind the last node, where none had the old owner
  unlocking_step : (table : ℕ) (unlock : Unlock) (end : RebindEnd) → RebindKnows (at.Unlocking table unlock end) M G
      → RebindStep (at.Unlocking table unlock end)
  unlocking_step table unlock (ends.Rebound removed) known =
      unlock_rebound unlock.place unlock.word removed (at.Closing (ends.Rebound removed), Go) refl
      (λ M' G' k. record { knowing = k; fits = tt }) known.knowing
  unlocking_step table unlock (ends.Absent n) known =
      let answer = Some (plain Absent) in
      let told : Holding = holds_node n None answer in
      answered-map env mix answer (inl (keeps answer)) (still_has refl)
      (λ M' G' w k. record { knowing = k; fits = tt })
      (unlock_step env mix c told (Some (own port owner new n)) Nowhere words G all whole refl
      unlock.place unlock.word known.knowing)

  -- ---- its read section

  -- it is opened with the new node
  opening_step : (n : ℕ) → G.from c ≡ None → RebindKnows (at.Opening n) M G → RebindStep (at.Opening n)
  opening_step n none known =
      answered-map env mix None (inl refl) (still_has refl)
      (λ M' G' w k. record { knowing = k; fits = tt })
      (open_step env mix c (holds_outside n None) (knows_of port owner new n Unlocked) refl words G all whole low
      none known.knowing)

  -- and closed with it, where it is given back next
  absent_step : (n : ℕ) → RebindKnows (at.Closing (ends.Absent n)) M G → RebindStep (at.Closing (ends.Absent n))
  absent_step n known =
      let answer = Some (plain Absent) in
      answered-map env mix answer (inl (keeps answer)) (still_has refl)
      (λ M' G' w k. record { knowing = k; fits = tt })
      (close_step env mix c (holds_outside n answer) (knows_of port owner new n Unlocked) refl words G all whole low refl refl
      known.knowing)

  -- or with the old one taken out
  rebound_step : (removed : ℕ) → RebindKnows (at.Closing (ends.Rebound removed)) M G
      → RebindStep (at.Closing (ends.Rebound removed))
  rebound_step removed known =
      let told : Holding = held.ended_with (plain Rebound) in
      answered-map env mix told.answer (inl (keeps told.answer)) (still_has refl) (λ M' G' w k. k)
      (close_step env mix c told (known_removed (Some removed)) refl words G all whole low refl refl known.knowing)

  -- ---- all states

  -- each operation leads from what the rebind knows to what it knows next
  pub rebind_step : (at : RebindAt) → IsRebindAtIn env at → OpensNone env c G (plan_at env c at) (held_of_rebind at)
      → RebindKnows at M G → RebindStep at
  rebind_step (at.Filling fresh) is outside known =
      let r = new_node_after fresh (old_of words (new_node_plan fresh)) in
      let Knows : ℕ → ℕ → Type 0 =
      λ key o. making (node_of_new fresh.at) (nodes.known_at key o fresh.at) M G in
      let knows : Knows fresh.key fresh.owner =
      subst (λ key. Knows key fresh.owner) (sym known.fits.0)
      (subst (λ o. Knows port o) (sym known.fits.1) known.knowing) in
      let step : MakingMoved fresh fresh.key fresh.owner r =
      nodes.new_node_step env mix c held.holds_nothing Nowhere Unlocked words G all whole tt
      fresh is knows in
      node_made fresh r known.fits.0 known.fits.1
      (nodes.made_none fresh.at (old_of words (new_node_plan fresh)))
      (subst (λ key. MakingMoved fresh key new r) known.fits.0
      (subst (λ o. MakingMoved fresh fresh.key o r) known.fits.1 step))
  rebind_step (at.Opening n) is outside known = opening_step n (outside refl refl) known
  rebind_step (at.Seeking n seek) is outside known =
      seek_next n seek (seek_after mix port seek (old_of words (seek_plan seek)))
      (seeks.seek_step env mix c call port (Some n) (Some (own port owner new n)) (plain Absent)
      words G all whole
      (λ none. absent_legal (subst (NotIn owner) (sym none) tt)) (absent_right n) refl seek is.seek_in
      (record { knowing = known.knowing; fits = known.fits }))
  rebind_step (at.Searching n found search) is outside known = searching n found search known
  rebind_step (at.LinkBehind n found old before) is outside known = behind_step n found old before known
  rebind_step (at.OwnListLink n found old before link) is outside known = own_step n found old before link known
  rebind_step (at.Swapping n found old before) is outside known = swap_step n found old before known
  rebind_step (at.ChainLink n found) is outside known = chain_step n found known
  rebind_step (at.Link n found link) is outside known = link_next n found link known
  rebind_step (at.Replacing n found relink) is outside known =
      replacing_step n found relink is.found_in.before_in known
  rebind_step (at.Unlocking table unlock end) is outside known = unlocking_step table unlock end known
  rebind_step (at.Closing (ends.Rebound removed)) is outside known = rebound_step removed known
  rebind_step (at.Closing (ends.Absent n)) is outside known = absent_step n known
  rebind_step (at.Giving give) is outside known =
      let answer = Some (plain Absent) in
      let told : Holding = record held.holds_nothing { answer = answer } in
      let state = at.Giving (record { geometry = env.geometry; node = give.node }) in
      subst (λ g. RebindStep (at.Giving (record { geometry = g; node = give.node }))) (sym is.geometry_same)
      (answered-map env mix answer (inl (keeps answer))
      (record { taken = λ node none some. absurd (cc); gone = λ node some none told. absurd (cc) })
      (λ M' G' w k. k)
      (nodes.give_step env mix c told Nowhere Unlocked words G all whole tt (own port owner new give.node)
      known.knowing))
