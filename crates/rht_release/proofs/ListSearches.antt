-- The search of a port's list for the first node with an owner, operation by operation, for any call that has locked the port's bucket in its
-- read section. It leads to that node, or behind the last one, where the port isn't bound to the owner. And the load of the link behind that
-- node.
use Rattle.std.proofs.Common.{◌≡◌, ◌≢◌, ℕ, List, [], ◌∷◌, ◌++◌, length, Option, Some, None, ◌==◌, false, refl, sym, ◌∙◌, ap, subst, inl, inr}
use Rattle.std.proofs.Math.Seq.{append_snoc}
use Rattle.std.proofs.lemmas.Bool.{eqb-true, eqb-false}
use Rattle.rht_words.specs.declared.env.Env.{Env}
use Rattle.rht_words.specs.declared.machine.Next.{Next}
use Rattle.rht_words.specs.declared.machine.Next.TheVariants.{Go, Done}
use Rattle.rht_words.specs.Links.{node_of}
use Rattle.rht_words.specs.Ports.{owner_of}
use Rattle.rht_words.specs.Operations.{old_of}
use Rattle.rht_words.specs.Places.{Node, OwnerWord, ListLink, words_in}
use Rattle.rht_words.specs.Chains.{IsSegment}
use Rattle.rht_words.specs.Members.{In, NotIn}
use Rattle.rht_words.proofs.Memory.{Memory}
use Rattle.rht_words.proofs.LinksRead.{links_tell_apart}
use Rattle.rht_words.proofs.Members.{In-append_right}
use Rattle.rht_model.specs.declared.history.Call.{Call}
use Rattle.rht_model.specs.Multimap.{Multimap}
use Rattle.rht_model.specs.Answers.{Answer}
use Rattle.rht_model.specs.Replies.{takes_out}
use Rattle.rht_release.specs.ListSearch.{search_new, search_plan, search_after, owner_compared, list_followed}
use Rattle.rht_release.specs.declared.found_port.FoundPort.{FoundPort}
use Rattle.rht_release.specs.declared.list_search.ListPlace.{ListPlace}
use Rattle.rht_release.specs.declared.list_search.ListSearch.{ListSearch}
use Rattle.rht_release.specs.declared.list_search.ListSearch.TheVariants as at
use Rattle.rht_ghost.proofs.Theory.Ghosts.{Ghost}
use Rattle.rht_ghost.proofs.Theory.Wholes.{list_of, Whole}
use Rattle.rht_ghost.proofs.Theory.Knowns.{KnownNode, Nowhere, Locks, KnownList, AtNode, Differing, Matching, LinkBehind, Known, knows_plain, NoOwner, IsAmong, list_link}
use Rattle.rht_ghost.proofs.Theory.Knowledge.{plainly, Knowing, ListMeans}
use Rattle.rht_ghost.proofs.Theory.Answering.{IsLegalOn, IsRight, learns}
use Rattle.rht_ghost.proofs.Theory.Steps.{by_test, Holding, mem, owners, owners_in, Step, reads}
use Rattle.rht_ghost.proofs.Moves.Relinking.{last_none, last_of-more}
use Rattle.rht_ghost.proofs.Pieces.Lists.{segment_link, list_among, list_rest, found_list}
use Rattle.rht_release.proofs.Seeks.{known_port, in_list, home_of, holds_seeking}

-- ---- nodes of a list

-- nodes of which none has the owner, and one more
no_owner-more : (M : Memory) (owner : ℕ) (nodes : List ℕ) (node : ℕ) → NoOwner M owner nodes
    → owner_of (M (Node node OwnerWord)) ≢ owner → NoOwner M owner (nodes ++ node ∷ [])
no_owner-more M owner [] node none differs = (differs, tt)
no_owner-more M owner (other ∷ nodes) node none differs = (none.0, no_owner-more M owner nodes node none.1 differs)

-- they have other owners
pub no_owner : (env : Env) (mix : ℕ → ℕ → ℕ → ℕ) (M : Memory) (owner : ℕ) (nodes : List ℕ) → NoOwner M owner nodes
    → NotIn owner (owners_in env mix M nodes)
no_owner env mix M owner [] none = tt
no_owner env mix M owner (node ∷ nodes) none = (λ e. none.0 (sym e), no_owner env mix M owner nodes none.1)

-- a node with none before it is the first one
pub first_among : (nodes : List ℕ) (node : ℕ) (among : IsAmong nodes node None) → nodes ≡ node ∷ among.rear
first_among nodes node among =
    among.split ∙ ap (λ front. front ++ node ∷ among.rear) (last_none among.front (sym among.last))

-- ---- what is known

-- what is known of a port's list, with this known of the call's own node
abbrev pub knows_list : Option KnownNode → ℕ → FoundPort → KnownList → Known
knows_list own port found known = knows_plain own (home_of port found) (in_list port found known)

-- at a state of the search
abbrev pub known_search : ℕ → ListSearch → KnownList
known_search owner (at.Owner node before) = AtNode node before owner
known_search owner (at.ListLink node) = Differing node owner

module _ (env : Env) (mix : ℕ → ℕ → ℕ → ℕ) (c : ℕ) (h : Holding) (own : Option KnownNode) (port : ℕ) where
  abbrev pub KnowsList : FoundPort → KnownList → Memory → Ghost → Type 0
  KnowsList found known M G = Knowing env mix c h (knows_list own port found known) M G

  -- where more is said of the list
  pub list_more : {M : Memory} {G : Ghost} (found : FoundPort) (known more : KnownList)
      → (k : KnowsList found known M G) → ListMeans env mix c M G found.node k.means.bucket.behind more
      → KnowsList found more M G
  list_more found known more k means =
      let is = k.means.bucket in
      plainly env mix k.only k.means.node k.means.table
      (record { found = is.found; behind = is.behind; bound_to = is.bound_to; means = means })

  -- where the port was found the search begins
  pub search_begins : (M : Memory) (G : Ghost) → Whole env mix M G → (owner : ℕ) (found : FoundPort)
      → Knowing env mix c h (knows_plain own (home_of port found) (known_port port found)) M G
      → KnowsList found (known_search owner (search_new found.node)) M G
  search_begins M G whole owner found k =
      let is = k.means.bucket in
      let list =
      found_list env mix M G whole c found.bucket.place found.bucket.word port found.node found.before is in
      plainly env mix k.only k.means.node k.means.table (record {
        found = is;
        behind = list.0;
        bound_to = list.1;
        means = record {
          among = record { front = []; rear = list.0; split = refl; last = refl };
          none = tt;
        };
      })

  module _ (M : Memory) (G : Ghost) (whole : Whole env mix M G) where
    -- the link that is loaded leads to what is behind the node
    pub link_behind : (owner : ℕ) (found : FoundPort) (node : ℕ) (before : Option ℕ)
        (k : KnowsList found (Matching node before owner) M G)
        → M (Node node ListLink) ≡ list_link k.means.bucket.means.stands.among.rear
    link_behind owner found node before k =
        let is = k.means.bucket in
        let among = is.means.stands.among in
        segment_link (list_of M) (list_of M node) among.rear
        (list_rest env mix M G whole port found.node is.behind is.bound_to node before among)

    pub behind_knows : (owner : ℕ) (found : FoundPort) (node : ℕ) (before : Option ℕ)
        → KnowsList found (Matching node before owner) M G
        → KnowsList found (LinkBehind node before (M (Node node ListLink)) owner) M G
    behind_knows owner found node before k =
        list_more found (Matching node before owner) (LinkBehind node before (M (Node node ListLink)) owner) k
        (record { is = k.means.bucket.means; link_is = sym (link_behind owner found node before k) })

-- ---- the operations

module _ (env : Env) (mix : ℕ → ℕ → ℕ → ℕ) (c : ℕ) (call : Call) (port owner : ℕ) (hn : Option ℕ) (own : Option KnownNode)
    (absent : Answer) where
  -- what the call holds, and the answer once it is known that no node has the owner
  abbrev pub holds_search : FoundPort → Option Answer → Holding
  holds_search found answer = holds_seeking hn absent (Some found.bucket.place) answer

  -- what it holds after an operation
  abbrev pub search_holds : FoundPort → Next (Option ListPlace) → Holding
  search_holds found Go = holds_search found None
  search_holds found (Done None) = holds_search found (Some absent)
  search_holds found (Done (Some place)) = holds_search found None

  -- what is known while it goes on
  abbrev pub SearchKnows : FoundPort → KnownList → Memory → Ghost → Type 0
  SearchKnows found known M G = KnowsList env mix c (holds_search found None) own port found known M G

  abbrev pub SearchNext : FoundPort → ListSearch × Next (Option ListPlace) → Memory → Ghost → Type 0
  SearchNext found (search, Go) M G = SearchKnows found (known_search owner search) M G
  SearchNext found (search, Done None) M G =
      Knowing env mix c (holds_search found (Some absent))
      (knows_plain own Nowhere (Locks found.bucket.place found.bucket.word)) M G
  SearchNext found (search, Done (Some place)) M G = SearchKnows found (Matching place.node place.before owner) M G

  module _ (words : List ℕ) (G : Ghost) (all : length words ≡ words_in env.geometry)
      (whole : Whole env mix (mem env mix words) G)
      (legal : let bound = owners env mix (mem env mix words) G in
      NotIn owner (bound port) → IsLegalOn env.config.kind c call bound absent)
      (right : IsRight call hn absent) (takes_none : takes_out absent.reply ≡ false) where
    abbrev M : Memory
    M = mem env mix words

    -- the owners of each port now
    abbrev now : Multimap
    now = owners env mix M G

    -- what an operation leads to
    abbrev pub SearchMoved : FoundPort → ListSearch → ListSearch × Next (Option ListPlace) → Type 0
    SearchMoved found search r =
        Step env mix c call words G (search_plan env.geometry search) (holds_search found None) (search_holds found r.1)
        (SearchNext found r)

    -- the owner of a node is this one, or another
    owner_step : (found : FoundPort) (node : ℕ) (before : Option ℕ)
        → SearchKnows found (AtNode node before owner) M G
        → SearchMoved found (at.Owner node before) (owner_compared node before (owner_of (M (Node node OwnerWord)) == owner))
    owner_step found node before k =
        let h = holds_search found None in
        let stands = k.means.bucket.means in
        let said = owner_of (M (Node node OwnerWord)) in
        let here_at = AtNode node before owner in
        by_test (λ t. SearchMoved found (at.Owner node before) (owner_compared node before t)) (said == owner)
        (λ t. reads env mix whole refl refl (inl refl)
        (list_more env mix c h own port found here_at (Matching node before owner) k
        (record { stands = stands; owner_is = eqb-true said owner t })))
        (λ t. reads env mix whole refl refl (inl refl)
        (list_more env mix c h own port found here_at (Differing node owner) k
        (record { before = before; stands = stands; differs = eqb-false said owner t })))

    -- behind a node with another owner is the next node, or the end: then no node has the owner
    list_step : (found : FoundPort) (node : ℕ) → SearchKnows found (Differing node owner) M G
        → SearchMoved found (at.ListLink node) (list_followed node (node_of env.geometry.nodes (M (Node node ListLink))))
    list_step found node k =
        let is = k.means.bucket in
        let among = is.means.stands.among in
        go among.rear among.split
        (list_rest env mix M G whole port found.node is.behind is.bound_to node is.means.before among)
      where
        front : List ℕ
        front = k.means.bucket.means.stands.among.front

        -- where it goes by this link
        next_by : ℕ → ListSearch × Next (Option ListPlace)
        next_by link = list_followed node (node_of env.geometry.nodes link)

        passed : NoOwner M owner (front ++ node ∷ [])
        passed = let other = k.means.bucket.means in no_owner-more M owner front node other.stands.none other.differs

        go : (rear : List ℕ) → found.node ∷ k.means.bucket.behind ≡ front ++ node ∷ rear
            → IsSegment (list_of M) (list_of M node) rear 0
            → SearchMoved found (at.ListLink node) (list_followed node (node_of env.geometry.nodes (M (Node node ListLink))))
        go [] split end =
            let is = k.means.bucket in
            let ends : next_by (M (Node node ListLink)) ≡ (at.ListLink node, Done None) = ap next_by end in
            let none : NotIn owner (now port) =
            subst (λ bound. NotIn owner (owners_in env mix M bound)) (sym (is.bound_to ∙ split))
            (no_owner env mix M owner (front ++ node ∷ []) passed) in
            rw ends (reads env mix whole refl refl
            (learns env.config.kind c call hn now absent right takes_none (legal none))
            (plainly env mix k.only k.means.node tt is.found.standing.lock))
        go (next ∷ rear) split segment =
            let is = k.means.bucket in
            let there : In next (found.node ∷ is.behind) =
            subst (In next) (sym split) (In-append_right next front (node ∷ next ∷ rear) (inr (inl refl))) in
            let among = list_among env mix M G whole port found.node is.behind is.bound_to next there in
            let goes : next_by (M (Node node ListLink)) ≡ (at.Owner next (Some node), Go) =
            ap next_by segment.0 ∙ ap (list_followed node) (links_tell_apart.link_names env.geometry.nodes next among) in
            rw goes (reads env mix whole refl refl (inl refl)
            (list_more env mix c (holds_search found None) own port found (Differing node owner)
            (AtNode next (Some node) owner) k (record {
              among = record {
                front = front ++ node ∷ [];
                rear = rear;
                split = split ∙ sym (append_snoc front node (next ∷ rear));
                last = last_of-more front node;
              };
              none = passed;
            })))

    -- each operation leads from what is known to what is known next
    pub search_step : (found : FoundPort) (search : ListSearch) → SearchKnows found (known_search owner search) M G
        → SearchMoved found search (search_after env.geometry owner search (old_of words (search_plan env.geometry search)))
    search_step found (at.Owner node before) k = owner_step found node before k
    search_step found (at.ListLink node) k = list_step found node k
