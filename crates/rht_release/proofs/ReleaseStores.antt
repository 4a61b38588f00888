-- The stores by which a release takes a node out of a port's list: of the list behind the first node, of
-- the chain where the first node is the only one, and in the first one's place where a second one follows.
-- Each is the one at which its answer is told.
use Rattle.std.proofs.Common.{◌≡◌, ◌≢◌, ◌⊎◌, ℕ, ◌+◌, ◌<◌, ◌≤◌, List, [], ◌∷◌, ◌++◌, length, Option, Some, None, Bool, true, false, refl, sym, ◌∙◌, ap, subst, inl, inr, arith}
use Rattle.std.proofs.lemmas.Bool.{cases_eq}
use Rattle.std.proofs.lemmas.List.{map-append}
use Rattle.rht_words.specs.declared.env.Env.{Env}
use Rattle.rht_words.specs.declared.op.Op.{Op}
use Rattle.rht_words.specs.declared.op.Op.TheVariants.{Store}
use Rattle.rht_words.specs.Links.{link_of}
use Rattle.rht_words.specs.Ports.{owner_of}
use Rattle.rht_words.specs.Operations.{op_place, applied}
use Rattle.rht_words.specs.Places.{Node, OwnerWord, ListLink, IsBucketPlace, nodes_at, pages_at, place_of, words_in}
use Rattle.rht_words.specs.Members.{In}
use Rattle.rht_words.proofs.Memory.{Memory, IsWrite, is_write}
use Rattle.rht_words.proofs.Members.{in_and_not, in-middle, In-append_left, In-append_right, In-append_cases}
use Rattle.rht_chain.specs.LockedWalk.{IsNodeOrNone}
use Rattle.rht_chain.specs.Relink.{relink_plan}
use Rattle.rht_model.specs.declared.history.Call.{Call}
use Rattle.rht_model.specs.declared.history.Call.TheVariants as calls
use Rattle.rht_model.specs.declared.history.Reply.TheVariants.{Released}
use Rattle.rht_model.specs.Multimap.{Multimap}
use Rattle.rht_model.specs.Answers.{plain, release_reply, owners_released, bindings_after}
use Rattle.rht_model.proofs.CallEffects.{with_owners-same, with_owners-other}
use Rattle.rht_model.proofs.ReleasedOwners.{release_reply-there, owners_released-there, without_differs}
use Rattle.rht_release.specs.ReleaseHeld.{holds_bucket, holds_removed}
use Rattle.rht_release.specs.FoundPort.{relink_of}
use Rattle.rht_release.specs.declared.found_port.FoundPort.{FoundPort}
use Rattle.rht_ghost.proofs.Theory.Ghosts.{put-same, put-other, Bucket, Owner, NodeHeld, First, Taken, Ghost, is_taken_by, taken_by_one}
use Rattle.rht_ghost.proofs.Theory.Wholes.{list_of, place_at, word_index, place_at-index, MovesNone, Whole, outs as count_outs}
use Rattle.rht_ghost.proofs.Theory.Knowns.{knows_plain, Nowhere, KnownBucket, TakenOut, LocksTakenOut, KnownList, LinkBehind, LeadsTo, Promotes, Known, NoOwner, first_of_list}
use Rattle.rht_ghost.proofs.Theory.Knowledge.{plainly, HasOnly, idle_moves_none, HoldsLock, IsAtHome, HasTakenOut, Knowing, IsFound, BucketMeans}
use Rattle.rht_ghost.proofs.Theory.Frames.{Made}
use Rattle.rht_ghost.proofs.Theory.Readiness.{Change, changed, IsRebinding}
use Rattle.rht_ghost.proofs.Theory.Answering.{IsRight, ChangesBindings}
use Rattle.rht_ghost.proofs.Theory.Steps.{Rebinds, Holding, mem, owners, owners_in, owners-stay, Step, still_has}
use Rattle.rht_ghost.proofs.Moves.Relinking.{relink_address, relink_value, relinked}
use Rattle.rht_ghost.proofs.Moves.Removing.{IsFoundIn, CanReplace, unlink, replace, unlinking_known, replacing_known}
use Rattle.rht_ghost.proofs.Moves.ListCuts.{cut_list, cutting_known}
use Rattle.rht_ghost.proofs.Pieces.LaterNodes.{lies_behind, first_stays, later_behind, later_link, before_among, behind_first}
use Rattle.rht_ghost.proofs.Pieces.Rebounds.{IsTakenWith, taken_then, taken_more, only_rebound, lock_stays, owners_kept, node_behind_maps, node_before_pages}
use Rattle.rht_release.proofs.ListSearches.{no_owner, knows_list}
use Rattle.rht_ghost.proofs.Pieces.Relinks.{lock_left, relink_write, relink_behind_maps, relink_left_lock, holder_left, lock_kept}

-- what is known of the bucket alone
abbrev pub here : KnownBucket → Known
here bucket = knows_plain None Nowhere bucket

-- what is known of the list of a port that was found
abbrev pub listed : ℕ → FoundPort → KnownList → Known
listed port found known = knows_list None port found known

-- the bucket is locked, and this node taken out
abbrev pub locks_taken : FoundPort → ℕ → KnownBucket
locks_taken found node = LocksTakenOut found.bucket.place found.bucket.word node

-- what is known behind the first store of a relinking that took the first node out
abbrev pub known_left : FoundPort → Option ℕ → KnownBucket
known_left found None = TakenOut found.node
known_left found (Some before) = locks_taken found found.node

-- what the call holds once it has its answer
abbrev pub holds_left : Option ℕ → Bool → Holding
holds_left lock raised = record holds_removed { lock = lock; raised = raised }

module _ (env : Env) (mix : ℕ → ℕ → ℕ → ℕ) (c : ℕ) (port owner : ℕ) where
  abbrev call : Call
  call = calls.Release port owner

  -- what is known of the list while the bucket is locked, and what once a node was taken out
  abbrev pub KnowsList : FoundPort → KnownList → Memory → Ghost → Type 0
  KnowsList found known M G = Knowing env mix c (holds_bucket found) (listed port found known) M G

  abbrev pub KnowsLeft : Option ℕ → Bool → KnownBucket → Memory → Ghost → Type 0
  KnowsLeft lock raised known M G = Knowing env mix c (holds_left lock raised) (here known) M G

  -- the lock that is left behind the first store of a relinking
  abbrev pub left_by_first : FoundPort → Option ℕ
  left_by_first found = lock_left found.bucket.place found.before

  -- and the node that was taken out, and the lock where a node is before it
  pub left_means : (M : Memory) (G : Ghost) (found : FoundPort) (before : Option ℕ)
      → ((node : ℕ) → before ≡ Some node → HoldsLock env mix c G found.bucket.place found.bucket.word)
      → HasTakenOut env mix c G found.node → BucketMeans env mix c M G (known_left found before)
  left_means M G found None lock took = took
  left_means M G found (Some node) lock took = record { lock = lock node refl; took = took }

  pub released_right : (kick : Bool) → IsRight call None (plain (Released kick))
  released_right kick = record { replied = record { reply = tt; owners = refl }; tells = refl }

  module _ (low : c < env.geometry.callers) (words : List ℕ) (G : Ghost)
      (all : length words ≡ words_in env.geometry)
      (whole : Whole env mix (mem env mix words) G) where
    abbrev M : Memory
    M = mem env mix words

    -- the owners of each port now
    abbrev now : Multimap
    now = owners env mix M G

    -- the words after an operation
    abbrev after : Op → Memory
    after op = mem env mix (applied words op)

    -- ---- what any such store does

    -- what it changes: the port has other nodes and its bucket is another, the node is taken out, and
    -- perhaps another node gets another owner as well
    abbrev taking : FoundPort → ℕ → List ℕ → Bucket → ℕ → Owner → Bool → Change
    taking found node nodes bucket x x_owner raised = record {
      port = port;
      nodes = nodes;
      place = word_index env mix found.bucket.place;
      bucket = bucket;
      one = node;
      one_owner = Taken c;
      other = x;
      other_owner = x_owner;
      raised = raised;
    }

    -- The node has the owner, and none before it in the list has. The call had the lock of the bucket, and
    -- has it still, or has dropped it.
    record TakesOut (found : FoundPort) (op : Op) (node : ℕ) (front rear : List ℕ) (change : Change)
        (lock : Option ℕ)
        (known : KnownBucket) : Type 0 where
      only : HasOnly env mix c G None (Some found.bucket.place) None false None [] false true
      there : place_at env mix (word_index env mix found.bucket.place) ≡ found.bucket.place
      behind_maps : nodes_at env.geometry ≤ op_place op
      bound_to : G.bound port ≡ front ++ node ∷ rear
      none : NoOwner M owner front
      owner_is : owner_of (M (Node node OwnerWord)) ≡ owner
      among : node < env.geometry.nodes
      untaken : is_taken_by c (G.node node) ≡ false
      with_other : IsTakenWith c node change.other change.other_owner G.node
      not_held : change.other_owner ≢ NodeHeld c
      made : Made env mix c M G (after op) (changed G c change)
      ready : IsRebinding env mix change M G
      left : ((lock ≡ Some found.bucket.place) × (op_place op < pages_at env.geometry))
          ⊎ ((lock ≡ None) × (op_place op ≡ place_at env mix (word_index env mix found.bucket.place)) × (change.bucket.holder ≡ None))
      holder : change.bucket.holder ≡ Some c → lock ≡ Some found.bucket.place
      means : HasTakenOut env mix c (changed G c change) node
          → BucketMeans env mix c (after op) (changed G c change) known

    -- so the port's owners are what a release leaves of them
    owner_gone : (found : FoundPort) (op : Op) (node : ℕ) (front rear : List ℕ) (bucket : Bucket) (x : ℕ)
        (x_owner : Owner)
        (raised : Bool) (lock : Option ℕ) (known : KnownBucket)
        → let change = taking found node (front ++ rear) bucket x x_owner raised in
        TakesOut found op node front rear change lock known
        → ChangesBindings env.config.kind c call now (owners env mix (after op) (changed G c change)) None
        (Some (plain (Released false)))
    owner_gone found op node front rear bucket x x_owner raised lock known takes =
        let G' = changed G c (taking found node (front ++ rear) bucket x x_owner raised) in
        let before_it = owners_in env mix M front in
        let behind_it = owners_in env mix M rear in
        let said : ℕ → ℕ = λ n. owner_of (M (Node n OwnerWord)) in
        let none = no_owner env mix M owner front takes.none in
        let was : now port ≡ before_it ++ owner ∷ behind_it =
        ap (owners_in env mix M) takes.bound_to ∙ map-append said front (node ∷ rear)
        ∙ ap (λ o. before_it ++ o ∷ behind_it) takes.owner_is in
        let is : owners env mix (after op) G' port ≡ before_it ++ behind_it =
        ap (owners_in env mix (after op)) (put-same G.bound port (front ++ rear))
        ∙ owners_kept env mix c G M (after op) G' whole takes.made port (front ++ rear)
        (λ n i. subst (In n) (sym takes.bound_to) (kept n i))
        ∙ map-append said front rear in
        record {
          unknown = refl;
          answer = plain (Released false);
          known = refl;
          answered = ap (λ owners. Some (plain (release_reply owner owners))) was
              ∙ ap (λ reply. Some (plain reply)) (release_reply-there owner before_it behind_it none);
          bindings = λ other. elim (cases_eq other port) [
            | inl e ↦
                ap (owners env mix (after op) G') e ∙ is
                ∙ sym (ap (bindings_after env.config.kind now call) e
                ∙ with_owners-same now port (owners_released owner (now port))
                ∙ ap (owners_released owner) was ∙ owners_released-there owner before_it behind_it none)
            | inr ne ↦
                owners-stay env mix c M (after op) G G' whole takes.made other
                (put-other G.bound port (front ++ rear) other ne)
                ∙ sym (with_owners-other now port other (owners_released owner (now port)) ne)
          ];
          port = port;
          differs = λ e. without_differs owner before_it behind_it (sym is ∙ e ∙ was);
        }
      where
        kept : (n : ℕ) → In n (front ++ rear) → In n (front ++ node ∷ rear)
        kept n i = elim (In-append_cases n front rear i) [
          | inl l ↦ In-append_left n front (node ∷ rear) l
          | inr r ↦ In-append_right n front (node ∷ rear) (inr r)
        ]

    take_out : (found : FoundPort) (op : Op) (node : ℕ) (front rear : List ℕ) (bucket : Bucket) (x : ℕ)
        (x_owner : Owner)
        (raised : Bool) (lock : Option ℕ) (known : KnownBucket) (now_raised : Bool) → now_raised ≡ raised
        → let change = taking found node (front ++ rear) bucket x x_owner raised in
        TakesOut found op node front rear change lock known
        → Step env mix c call words G op (holds_bucket found) (holds_left lock now_raised)
        (KnowsLeft lock now_raised known)
    take_out found op node front rear bucket x x_owner raised lock known now_raised same takes =
        let change = taking found node (front ++ rear) bucket x x_owner raised in
        let only =
        only_rebound env mix c G change found.bucket.place lock false takes.there (λ e. cc) takes.not_held
        takes.holder
        takes.only in
        let more : count_outs env mix (changed G c change) c ≡ count_outs env mix G c + 1 =
        taken_more c node x env.geometry.nodes x_owner G.node takes.among takes.untaken takes.with_other in
        record {
          move = Rebinds change;
          ready = takes.ready;
          made = takes.made;
          does = record {
            behind_maps = takes.behind_maps;
            lock = ap Some (sym takes.there);
            left_lock = takes.left;
            left_second = refl;
            left_section = refl;
            left_worker = refl;
            left_node = inl refl;
            raised_is = same;
            changes = refl;
          };
          says = inr (owner_gone found op node front rear bucket x x_owner raised lock known takes);
          early = λ answer known. absurd (cc);
          right = λ answer unknown told.
              subst (IsRight call None) (let is : plain (Released false) ≡ answer = cc in is)
              (released_right false);
          in_time = still_has refl;
          outs = omega (arith, more);
          returning = λ n is. absurd (cc);
          knows = plainly env mix (record {
            nodes = only.nodes;
            locks = only.locks;
            raising = only.raising ∙ sym same;
            slots = only.slots;
            pages_in = only.pages_in;
            works = only.works;
            reads = only.reads;
          }) tt tt (takes.means (record {
            among = takes.among;
            taken = taken_then c node x x_owner G.node takes.with_other;
          }));
        }

    -- ---- a node behind the first one is cut out of the list

    abbrev cut_op : ℕ → ℕ → Op
    cut_op before link = Store (place_of env.geometry (Node before ListLink)) link

    abbrev CutsStep : FoundPort → ℕ → ℕ → ℕ → Type 0
    CutsStep found node before link =
        Step env mix c call words G (cut_op before link) (holds_bucket found)
        (holds_left (Some found.bucket.place) false)
        (KnowsLeft (Some found.bucket.place) false (locks_taken found node))

    pub cut_store : (found : FoundPort) (node before link : ℕ)
        → KnowsList found (LinkBehind node (Some before) link owner) M G
        → CutsStep found node before link
    cut_store found node before link k =
        let is = k.means.bucket in
        let cuts = is.means in
        let among = cuts.is.stands.among in
        let m = found.node in
        let place = found.bucket.place in
        let word = found.bucket.word in
        let j = word_index env mix place in
        let lock = is.found.standing.lock in
        let lies = lies_behind m is.behind node before among in
        let op = cut_op before link in
        let before_in =
        before_among env mix c port place word m found.before M G whole is.found is.behind is.bound_to node before among in
        let mine =
        later_behind env mix c port place word m found.before M G whole is.found is.behind is.bound_to node before among in
        let link_is : list_of M node ≡ link =
        later_link env mix c port place word m found.before M G whole is.found is.behind is.bound_to node before among
        ∙ cuts.link_is in
        let none = idle_moves_none env mix M G whole c k.only in
        let behind_it =
        behind_first env mix c port place word m found.before M G whole is.found is.behind is.bound_to node before among
        (after op) none
        (first_stays env mix c port place word m found.before M G whole is.found is.behind is.bound_to found.table
        (Some found.shape) k.means.table none) in
        take_out found op node (m ∷ lies.others) among.rear (G.bucket j) node (Taken c) (G.raised c) (Some place)
        (locks_taken found node) false (sym k.only.raising) (record {
          only = k.only;
          there = place_at-index env mix place lock.bucket;
          behind_maps = node_behind_maps env.geometry before ListLink;
          bound_to = behind_it.bound_to;
          none = subst (NoOwner M owner) lies.front_is cuts.is.stands.none;
          owner_is = cuts.is.owner_is;
          among = (whole.owned.behind_in node port mine).among;
          untaken = ap (is_taken_by c) mine;
          with_other = inl (refl, refl);
          not_held = λ e. cc;
          made = cut_list env mix c port j m node before lies.others among.rear M (after op) G whole low link link_is behind_it
              (is_write env.geometry words (Node before ListLink) op all before_in refl);
          ready = inr (inr (inl (cutting_known env mix c port j m node before lies.others among.rear M (after op) G whole
              behind_it)));
          left = inl (refl, node_before_pages env.geometry before ListLink before_in);
          holder = λ e. refl;
          means = λ took. record {
            lock = lock_stays env mix c G (taking found node (m ∷ (lies.others ++ among.rear)) (G.bucket j) node (Taken c)
                (G.raised c)) place word (G.bucket j).nodes refl refl lock;
            took = took;
          };
        })

    -- ---- the first node goes out of the chain

    abbrev pub relink_op : FoundPort → ℕ → Op
    relink_op found link = relink_plan (relink_of env.geometry found link)

    -- a relinking's first store, behind which the count has to be lowered still, or not
    abbrev pub FirstOut : FoundPort → ℕ → Bool → Type 0
    FirstOut found link raised =
        Step env mix c call words G (relink_op found link) (holds_bucket found)
        (holds_left (left_by_first found) raised)
        (KnowsLeft (left_by_first found) raised (known_left found found.before))

    -- what it changes
    abbrev relinks : FoundPort → ℕ → List ℕ → List ℕ → ℕ → Owner → Bool → Change
    relinks found link rear nodes x x_owner raised =
        let j = word_index env mix found.bucket.place in
        taking found found.node rear (relinked (place_at env mix j) link (G.bucket j) nodes found.before) x
        x_owner raised

    -- The port's first node has the owner, and others are behind it, which are then the port's alone.
    record TakesFirst (found : FoundPort) (link : ℕ) (rear : List ℕ) (change : Change) : Type 0 where
      only : HasOnly env mix c G None (Some found.bucket.place) None false None [] false true
      is : IsFound env mix c M G found.bucket.place found.bucket.word port found.node found.before
      bound_to : G.bound port ≡ found.node ∷ rear
      owner_is : owner_of (M (Node found.node OwnerWord)) ≡ owner
      before_in : IsNodeOrNone env.geometry found.before
      with_other : IsTakenWith c found.node change.other change.other_owner G.node
      not_held : change.other_owner ≢ NodeHeld c
      made : Made env mix c M G (after (relink_op found link)) (changed G c change)
      ready : IsRebinding env mix change M G

    first_out : (found : FoundPort) (link : ℕ) (rear nodes : List ℕ) (x : ℕ) (x_owner : Owner)
        (raised now_raised : Bool)
        → now_raised ≡ raised → TakesFirst found link rear (relinks found link rear nodes x x_owner raised)
        → FirstOut found link now_raised
    first_out found link rear nodes x x_owner raised now_raised same takes =
        let place = found.bucket.place in
        let word = found.bucket.word in
        let j = word_index env mix place in
        let lock = takes.is.standing.lock in
        let stands = takes.is.standing.stands in
        let m = found.node in
        let op = relink_op found link in
        let first =
        whole.owned.member j m (subst (In m) (sym stands.split) (in-middle m stands.front stands.rear)) in
        let change = relinks found link rear nodes x x_owner raised in
        take_out found op m [] rear change.bucket x x_owner raised (left_by_first found)
        (known_left found found.before)
        now_raised same (record {
          only = takes.only;
          there = place_at-index env mix place lock.bucket;
          behind_maps = relink_behind_maps env mix place word link found.before words all lock.bucket
              takes.before_in;
          bound_to = takes.bound_to;
          none = tt;
          owner_is = takes.owner_is;
          among = (whole.owned.first_at m j first).among;
          untaken = ap (is_taken_by c) first;
          with_other = takes.with_other;
          not_held = takes.not_held;
          made = takes.made;
          ready = takes.ready;
          left = relink_left_lock env mix place word link found.before words all lock.bucket takes.before_in
              (place_at env mix j) (G.bucket j) nodes;
          holder = holder_left env mix place word link found.before c G lock change nodes refl refl;
          means = left_means (after op) (changed G c change) found found.before
              (lock_kept env mix place word link found.before c G lock change nodes refl refl);
        })

    -- what the moves of such a store ask
    pub found_in : (found : FoundPort) (link : ℕ)
        (is : IsFound env mix c M G found.bucket.place found.bucket.word port found.node found.before)
        (behind : List ℕ) → IsAtHome env mix c G port found.table (Some found.shape) found.bucket.place
        → MovesNone env mix G c → G.bound port ≡ found.node ∷ behind
        → let s = is.standing.stands in
        IsFoundIn env mix c port (word_index env mix found.bucket.place) found.node s.front s.rear found.before M
        (after (relink_op found link)) G behind
    found_in found link is behind at none bound = record {
      holder = is.standing.lock.holder;
      split = is.standing.stands.split;
      last = is.standing.stands.last;
      key_is = is.key_is;
      bound_to = bound;
      moves_none = none;
      not_out = first_stays env mix c port found.bucket.place found.bucket.word found.node found.before M G whole is behind
          bound found.table (Some found.shape) at none;
    }

    first_write : (found : FoundPort) (link : ℕ) → IsBucketPlace env.geometry found.bucket.place
        → IsNodeOrNone env.geometry found.before
        → let j = word_index env mix found.bucket.place in
        IsWrite env.geometry M (after (relink_op found link)) (relink_address j found.before)
        (relink_value (place_at env mix j) link found.before)
    first_write found link bucket before_in =
        relink_write env mix found.bucket.place found.bucket.word link found.before words all bucket before_in

    -- the only node of the list goes out of the chain
    pub unlink_store : (found : FoundPort) (link : ℕ) → IsNodeOrNone env.geometry found.before
        → KnowsList found (LeadsTo None link owner) M G → FirstOut found link true
    unlink_store found link before_in k =
        let is = k.means.bucket in
        let leads = is.means.leads in
        let s = is.found.standing.stands in
        let lock = is.found.standing.lock in
        let place = found.bucket.place in
        let j = word_index env mix place in
        let alone : is.behind ≡ [] = none_behind is.behind leads.second_is in
        let bound : G.bound port ≡ found.node ∷ [] = is.bound_to ∙ ap (λ behind. found.node ∷ behind) alone in
        let there = found_in found link is.found [] k.means.table (idle_moves_none env mix M G whole c k.only) bound in
        first_out found link [] (s.front ++ s.rear) found.node (Taken c) true true refl (record {
          only = k.only;
          is = is.found;
          bound_to = bound;
          owner_is = leads.owner_is;
          before_in = before_in;
          with_other = inl (refl, refl);
          not_held = λ e. cc;
          made = unlink env mix c port j found.node s.front s.rear found.before M (after (relink_op found link)) G whole low
              k.only.raising low link is.means.link_is there (first_write found link lock.bucket before_in);
          ready = inl (unlinking_known env mix c port j found.node s.front s.rear found.before M (after (relink_op found link)) G
              link there);
        })
      where
        none_behind : (nodes : List ℕ) → None ≡ first_of_list nodes → nodes ≡ []
        none_behind [] is = refl
        none_behind (node ∷ nodes) is = absurd (cc)

    -- a second one takes its place
    pub promote_store : (found : FoundPort) (second : ℕ) → IsNodeOrNone env.geometry found.before
        → KnowsList found (Promotes second owner) M G → FirstOut found (link_of second) false
    promote_store found second before_in k = go k.means.bucket.behind refl
      where
        go : (behind : List ℕ) → k.means.bucket.behind ≡ behind → FirstOut found (link_of second) false
        go [] behind_is =
            let none : Some second ≡ None = k.means.bucket.means.leads.second_is ∙ ap first_of_list behind_is in
            absurd (cc)
        go (x ∷ tail) behind_is =
            let is = k.means.bucket in
            let s = is.found.standing.stands in
            let lock = is.found.standing.lock in
            let m = found.node in
            let place = found.bucket.place in
            let j = word_index env mix place in
            let behind = second ∷ tail in
            let op = relink_op found (link_of second) in
            let first : Some second ≡ Some x = is.means.leads.second_is ∙ ap first_of_list behind_is in
            let same : x ≡ second = cc in
            let bound : G.bound port ≡ m ∷ behind =
            is.bound_to ∙ ap (λ nodes. m ∷ nodes) (behind_is ∙ ap (λ n. n ∷ tail) same) in
            let to = whole.owned.bound_to port m behind bound in
            let mine = to.each second (inl refl) in
            let second_is = whole.owned.behind_in second port mine in
            let other : second ≢ m = λ e. in_and_not m behind (inl (sym e)) to.distinct.0 in
            let not_second : In second tail → ⊥ = λ i. in_and_not second tail i to.distinct.1.0 in
            let can : CanReplace env mix c port j m s.front s.rear found.before M (after op) G behind second tail
            (Taken c) = record {
              among = second_is.among;
              differs = other;
              key_is = second_is.key_is;
              chain_is = is.means.alike;
              from = inr (inl refl);
              list = to.list.1;
              distinct = to.distinct.1;
              used = refl;
              stays = λ i e. cc;
              built = low;
              no_first = refl;
              no_others = λ d ne. taken_by_one d c ne;
              listed = λ n i. inr (inr i, λ e. not_second (subst (λ k. In k tail) e i));
              back = λ n i ne. elim i [ inl e ↦ absurd (ne e) | inr r ↦ r ];
              back_one = λ p e. absurd (cc);
              single = λ one. absurd (let none = whole.owned.single one port m behind bound in cc);
            } in
            let there =
            found_in found (link_of second) is.found behind k.means.table (idle_moves_none env mix M G whole c k.only) bound in
            first_out found (link_of second) behind (s.front ++ (second ∷ s.rear)) second (First j)
            (G.raised c) false
            (sym k.only.raising) (record {
              only = k.only;
              is = is.found;
              bound_to = bound;
              owner_is = is.means.leads.owner_is;
              before_in = before_in;
              with_other = inr (other, ap (is_taken_by c) mine, refl);
              not_held = λ e. cc;
              made = replace env mix c port j m s.front s.rear found.before M (after op) G whole behind there second tail
                  (Taken c) can (first_write found (link_of second) lock.bucket before_in);
              ready = inr (inl (replacing_known env mix c port j m s.front s.rear found.before M (after op) G behind there
                  second tail (Taken c) can));
            })
