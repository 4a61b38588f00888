-- The stores of a rebind that put its node in the place of the old one: in the list, where that is a later node, and of the chain where it is
-- the first. Each is the one at which its answer is told: the old owner is gone there, and the new one is bound.
use Rattle.std.proofs.Common.{◌≡◌, ◌≢◌, ◌⊎◌, ℕ, ◌+◌, ◌^◌, ◌<◌, ◌≤◌, List, [], ◌∷◌, ◌++◌, length, Option, Some, None, true, false, refl, sym, ◌∙◌, ap, subst, inl, inr, arith}
use Rattle.std.proofs.lemmas.Bool.{cases_eq}
use Rattle.std.proofs.lemmas.List.{map-append}
use Rattle.std.proofs.Math.Nat.{mod-eq_of_lt}
use Rattle.rht_words.specs.declared.env.Env.{Env}
use Rattle.rht_words.specs.declared.op.Op.{Op}
use Rattle.rht_words.specs.declared.op.Op.TheVariants.{Store}
use Rattle.rht_words.specs.Links.{link_of}
use Rattle.rht_words.specs.Ports.{owner_of}
use Rattle.rht_words.specs.Operations.{op_place, applied}
use Rattle.rht_words.specs.Places.{Node, OwnerWord, ListLink, nodes_at, pages_at, place_of, words_in}
use Rattle.rht_words.specs.Chains.{IsSegment}
use Rattle.rht_words.specs.Members.{In, NotIn}
use Rattle.rht_words.proofs.Memory.{Memory, IsWrite, is_write}
use Rattle.rht_words.proofs.Members.{not_in_from, in-middle, In-append_left, In-append_right}
use Rattle.rht_chain.specs.LockedWalk.{IsNodeOrNone}
use Rattle.rht_model.specs.declared.history.Call.{Call}
use Rattle.rht_model.specs.declared.history.Call.TheVariants as calls
use Rattle.rht_model.specs.declared.history.Reply.TheVariants.{Rebound}
use Rattle.rht_model.specs.Multimap.{Multimap, Agree}
use Rattle.rht_model.specs.Answers.{Answer, plain, rebind_reply, owners_rebound, bindings_after}
use Rattle.rht_model.proofs.CallEffects.{with_owners-same, with_owners-other}
use Rattle.rht_model.proofs.ReboundOwners.{rebind_reply-there, owners_rebound-there}
use Rattle.rht_release.specs.Seek.{holds_section}
use Rattle.rht_release.specs.RebindHeld.{holds_found}
use Rattle.rht_release.specs.declared.found_port.FoundPort.{FoundPort}
use Rattle.rht_ghost.proofs.Theory.Ghosts.{put-same, put-other, Bucket, Owner, NodeHeld, First, Behind, Taken, Ghost, is_used, is_taken_by, held_not_first, held_not_used, taken_by_one}
use Rattle.rht_ghost.proofs.Theory.Wholes.{list_of, word_index, place_at, place_at-index, outs, Whole, MovesNone}
use Rattle.rht_ghost.proofs.Theory.Knowns.{KnownBucket, KnownList, Copied, Succeeds, NoOwner}
use Rattle.rht_ghost.proofs.Theory.Knowledge.{plainly, HasOnly, HoldsLock, HasTakenOut, BucketMeans, Knowing, idle_moves_none}
use Rattle.rht_ghost.proofs.Theory.Frames.{Made}
use Rattle.rht_ghost.proofs.Theory.Readiness.{Change, changed, IsRebinding}
use Rattle.rht_ghost.proofs.Theory.Answering.{IsLegalOn, IsRight, Stills, ChangesBindings, Says}
use Rattle.rht_ghost.proofs.Theory.Steps.{Rebinds, Holding, mem, owners, owners_in, owners-stay, Step}
use Rattle.rht_ghost.proofs.Moves.Relinking.{relink_address, relink_value}
use Rattle.rht_ghost.proofs.Moves.Removing as removing
use Rattle.rht_ghost.proofs.Moves.Removing.{IsFoundIn, CanReplace}
use Rattle.rht_ghost.proofs.Moves.ListSwaps.{CanSwap, swapping, swap_made, swap_known}
use Rattle.rht_ghost.proofs.Pieces.LaterNodes.{lies_behind, first_stays, later_behind, later_link, before_among, behind_first}
use Rattle.rht_ghost.proofs.Pieces.Lists.{segment_link, list_among}
use Rattle.rht_ghost.proofs.Pieces.Rebounds.{IsTakenWith, taken_then, taken_more, only_left, lock_stays, owners_kept, node_behind_maps, node_before_pages}
use Rattle.rht_ghost.proofs.Pieces.Relinks.{lock_left, first_store, relink_write, relink_behind_maps, relink_left_lock, relink_leaves, holder_left, lock_kept}
use Rattle.rht_release.proofs.ListSearches.{no_owner}
use Rattle.rht_release.proofs.ReleaseStores.{here, locks_taken, known_left}
use Rattle.rht_release.proofs.ReleaseStores as releases
use Rattle.rht_release.proofs.RebindKnowledge.{copied, listed, with_node}

-- owners of which one is replaced are other ones, where that is by another one
same_in_place : (front rear : List ℕ) (owner new : ℕ) → front ++ new ∷ rear ≡ front ++ owner ∷ rear → new ≡ owner
same_in_place [] rear owner new same = cc
same_in_place (first ∷ front) rear owner new same =
    same_in_place front rear owner new (let rest : front ++ new ∷ rear ≡ front ++ owner ∷ rear = cc in rest)

-- what the call holds once it has its answer
abbrev pub holds_left : Option ℕ → Holding
holds_left lock = record holds_section { lock = lock; answer = Some (plain Rebound) }

module _ (env : Env) (mix : ℕ → ℕ → ℕ → ℕ) (c : ℕ) (port owner new : ℕ) where
  abbrev call : Call
  call = calls.Rebind port owner new

  -- what is known of the list while the bucket is locked and the call's node has the link behind the old one, and what once that is taken out
  abbrev pub KnowsList : ℕ → FoundPort → KnownList → Memory → Ghost → Type 0
  KnowsList n found known M G =
      Knowing env mix c (holds_found n found) (listed port owner new (copied port owner new n) found known) M G

  abbrev pub KnowsLeft : Option ℕ → KnownBucket → Memory → Ghost → Type 0
  KnowsLeft lock known M G = Knowing env mix c (holds_left lock) (here known) M G

  module _ (small : new < 2 ^ 32) (low : c < env.geometry.callers) (words : List ℕ) (G : Ghost)
      (all : length words ≡ words_in env.geometry) (whole : Whole env mix (mem env mix words) G) where
    abbrev M : Memory
    M = mem env mix words

    -- the owners of each port now
    abbrev now : Multimap
    now = owners env mix M G

    -- ---- what any such store does

    -- By this operation the new node comes into the old one's place, between these others. Then it has this owner, and the bucket is this one;
    -- the call has this lock, and knows this of the bucket.
    module _ (found : FoundPort) (op : Op) (n old : ℕ) (front rear : List ℕ) (bucket : Bucket) (n_owner : Owner)
        (lock : Option ℕ) (known : KnownBucket) where
      abbrev M' : Memory
      M' = mem env mix (applied words op)

      abbrev change : Change
      change = record {
        port = port;
        nodes = front ++ n ∷ rear;
        place = word_index env mix found.bucket.place;
        bucket = bucket;
        one = old;
        one_owner = Taken c;
        other = n;
        other_owner = n_owner;
        raised = G.raised c;
      }

      abbrev G' : Ghost
      G' = changed G c change

      -- The old node has the old owner, and none before it in the list has. The new one is the call's and keeps the new owner. The call had the
      -- lock of the bucket, and has it still, or has dropped it.
      record PutsIn : Type 0 where
        only : HasOnly env mix c G (Some n) (Some found.bucket.place) None false None [] false true
        there : place_at env mix (word_index env mix found.bucket.place) ≡ found.bucket.place
        behind_maps : nodes_at env.geometry ≤ op_place op
        bound_to : G.bound port ≡ front ++ old ∷ rear
        none : NoOwner M owner front
        owner_is : owner_of (M (Node old OwnerWord)) ≡ owner
        new_is : M' (Node n OwnerWord) ≡ new
        among : old < env.geometry.nodes
        untaken : is_taken_by c (G.node old) ≡ false
        differs : n ≢ old
        mine : G.node n ≡ NodeHeld c
        not_taken : is_taken_by c n_owner ≡ false
        not_held : n_owner ≢ NodeHeld c
        made : Made env mix c M G M' G'
        ready : IsRebinding env mix change M G
        left : ((lock ≡ Some found.bucket.place) × (op_place op < pages_at env.geometry))
            ⊎ ((lock ≡ None) × (op_place op ≡ place_at env mix (word_index env mix found.bucket.place)) × (bucket.holder ≡ None))
        holder : bucket.holder ≡ Some c → lock ≡ Some found.bucket.place
        means : HasTakenOut env mix c G' old → BucketMeans env mix c M' G' known

      module _ (puts : PutsIn) where
        -- the owners of each port then
        abbrev after : Multimap
        after = owners env mix M' G'

        abbrev before_it : List ℕ
        before_it = owners_in env mix M front

        abbrev behind_it : List ℕ
        behind_it = owners_in env mix M rear

        none_before : NotIn owner before_it
        none_before = no_owner env mix M owner front puts.none

        was : now port ≡ before_it ++ owner ∷ behind_it
        was =
            ap (owners_in env mix M) puts.bound_to ∙ map-append (λ k. owner_of (M (Node k OwnerWord))) front (old ∷ rear)
            ∙ ap (λ o. before_it ++ o ∷ behind_it) puts.owner_is

        is_now : after port ≡ before_it ++ new ∷ behind_it
        is_now =
            let kept : (nodes : List ℕ) → ((k : ℕ) → In k nodes → In k (front ++ old ∷ rear))
            → owners_in env mix M' nodes ≡ owners_in env mix M nodes = λ nodes among.
            owners_kept env mix c G M M' G' whole puts.made port nodes
            (λ k i. subst (In k) (sym puts.bound_to) (among k i)) in
            let front_kept = kept front (λ k i. In-append_left k front (old ∷ rear) i) in
            let rear_kept = kept rear (λ k i. In-append_right k front (old ∷ rear) (inr i)) in
            let said : owner_of (M' (Node n OwnerWord)) ≡ new =
            ap owner_of puts.new_is ∙ mod-eq_of_lt {n = new} {m = 2 ^ 32} small in
            ap (owners_in env mix M') (put-same G.bound port (front ++ n ∷ rear))
            ∙ map-append (λ k. owner_of (M' (Node k OwnerWord))) front (n ∷ rear)
            ∙ ap (λ owners. owners ++ owner_of (M' (Node n OwnerWord)) ∷ owners_in env mix M' rear) front_kept
            ∙ ap (λ owners. before_it ++ owner_of (M' (Node n OwnerWord)) ∷ owners) rear_kept
            ∙ ap (λ o. before_it ++ o ∷ behind_it) said

        others_same : (other : ℕ) → other ≢ port → after other ≡ now other
        others_same other ne =
            owners-stay env mix c M M' G G' whole puts.made other (put-other G.bound port (front ++ n ∷ rear) other ne)

        -- on such owners the rebind is answered so, and leaves the new one in the place of the old one
        reply_on : (list : List ℕ) → list ≡ before_it ++ owner ∷ behind_it → rebind_reply owner list ≡ Rebound
        reply_on list is = ap (rebind_reply owner) is ∙ rebind_reply-there owner before_it behind_it none_before

        leaves_on : (list : List ℕ) → list ≡ before_it ++ owner ∷ behind_it
            → owners_rebound owner new list ≡ before_it ++ new ∷ behind_it
        leaves_on list is =
            ap (owners_rebound owner new) is ∙ owners_rebound-there owner new before_it behind_it none_before

        -- it leaves what is bound then, on bindings with the same owners of other ports
        leaves_after : (bindings : Multimap) → bindings port ≡ before_it ++ owner ∷ behind_it
            → ((other : ℕ) → other ≢ port → after other ≡ bindings other)
            → Agree after (bindings_after env.config.kind bindings call)
        leaves_after bindings is same other =
            let left = owners_rebound owner new (bindings port) in
            elim (cases_eq other port) [
              | inl e ↦
                  ap after e ∙ is_now ∙ sym (leaves_on (bindings port) is)
                  ∙ sym (with_owners-same bindings port left)
                  ∙ ap (bindings_after env.config.kind bindings call) (sym e)
              | inr ne ↦ same other ne ∙ sym (with_owners-other bindings port other left ne)
            ]

        -- an owner that takes its own place changes nothing
        says_same : new ≡ owner → Stills env.config.kind c call None ⊥ now after None (Some (plain Rebound))
        says_same e =
            let own : after port ≡ before_it ++ owner ∷ behind_it = is_now ∙ ap (λ o. before_it ++ o ∷ behind_it) e in
            let legal : IsLegalOn env.config.kind c call after (plain Rebound) = record {
              legal = inl (ap (λ reply. Some (plain reply)) (reply_on (after port) own));
              leaves = λ other. sym (leaves_after after own (λ p ne. refl) other);
            } in
            record {
              agree = λ other. elim (cases_eq other port) [
                | inl q ↦ ap after q ∙ own ∙ sym was ∙ ap now (sym q)
                | inr ne ↦ others_same other ne
              ];
              said = inr (inl
                  (record { unknown = refl; answer = plain Rebound; known = refl; said = inl legal }));
            }

        says_other : new ≢ owner → ChangesBindings env.config.kind c call now after None (Some (plain Rebound))
        says_other ne = record {
          unknown = refl;
          answer = plain Rebound;
          known = refl;
          answered = ap (λ reply. Some (plain reply)) (reply_on (now port) was);
          bindings = leaves_after now was others_same;
          port = port;
          differs = λ e. ne (same_in_place before_it behind_it owner new (sym is_now ∙ e ∙ was));
        }

        says : Says env.config.kind c call None ⊥ now after None (Some (plain Rebound))
        says = elim (cases_eq new owner) [ inl e ↦ inl (says_same e) | inr ne ↦ inr (says_other ne) ]

        taken_with : IsTakenWith c old n n_owner G.node
        taken_with = inr (puts.differs, ap (is_taken_by c) puts.mine, puts.not_taken)

        one_out : outs env mix G' c + 0 ≡ outs env mix G c + 1
        one_out =
            let more = taken_more c old n env.geometry.nodes n_owner G.node puts.among puts.untaken taken_with in
            omega (arith, more)

        only_then : HasOnly env mix c G' None lock None false None [] false true
        only_then =
            let left =
            only_left env mix c G change found.bucket.place (Some n) lock false puts.there (λ e. cc) puts.not_held
            (λ k q. inr (cc)) puts.holder puts.only in
            record {
              nodes = left.nodes;
              locks = left.locks;
              raising = left.raising ∙ puts.only.raising;
              slots = left.slots;
              pages_in = left.pages_in;
              works = left.works;
              reads = left.reads;
            }

        put_in : Step env mix c call words G op (holds_found n found) (holds_left lock) (KnowsLeft lock known)
        put_in = record {
          move = Rebinds change;
          ready = puts.ready;
          made = puts.made;
          does = record {
            behind_maps = puts.behind_maps;
            lock = ap Some (sym puts.there);
            left_lock = puts.left;
            left_second = refl;
            left_section = refl;
            left_worker = refl;
            left_node = inr refl;
            raised_is = sym puts.only.raising;
            changes = refl;
          };
          says = says;
          early = λ answer known. absurd (cc);
          right = λ answer unknown known.
              let same : ◌≡◌ {A = Option Answer} (Some (plain Rebound)) (Some answer) = known in
              subst (IsRight call (Some n)) (cc) (with_node n Rebound tt refl (λ e. cc));
          in_time = record { taken = λ node none some. absurd (cc); gone = λ node some none told. absurd (cc) };
          outs = one_out;
          returning = λ n is. absurd (cc);
          knows = plainly env mix only_then tt tt
              (puts.means (record { among = puts.among; taken = taken_then c old n n_owner G.node taken_with }));
        }

    -- ---- the first node is replaced in the chain

    module _ (n : ℕ) (found : FoundPort) (within : IsNodeOrNone env.geometry found.before)
        (k : KnowsList n found (Succeeds n owner) M G) where
      abbrev place : ℕ
      place = found.bucket.place

      abbrev word : ℕ
      word = found.bucket.word

      abbrev before : Option ℕ
      before = found.before

      abbrev m : ℕ
      m = found.node

      abbrev j : ℕ
      j = word_index env mix place

      abbrev chain_op : Op
      chain_op = first_store env mix place word (link_of n) before

      abbrev M_chain : Memory
      M_chain = mem env mix (applied words chain_op)

      -- the other nodes of the list, and of the bucket
      abbrev behind : List ℕ
      behind = k.means.bucket.behind

      abbrev fore : List ℕ
      fore = k.means.bucket.found.standing.stands.front

      abbrev rest : List ℕ
      rest = k.means.bucket.found.standing.stands.rear

      lock : HoldsLock env mix c G place word
      lock = k.means.bucket.found.standing.lock

      bound : G.bound port ≡ m ∷ behind
      bound = k.means.bucket.bound_to

      first : G.node m ≡ First j
      first =
          let s = k.means.bucket.found.standing.stands in
          whole.owned.member j m (subst (In m) (sym s.split) (in-middle m fore rest))

      apart : n ≢ m
      apart e = held_not_first (G.node n) c j k.means.node.has.mine (ap G.node e ∙ first)

      -- no node of the list is the call's own
      not_behind : (x : ℕ) → In x behind → x ≢ n
      not_behind x i e =
          let mine = k.means.node.has.mine in
          let listed = (whole.owned.bound_to port m behind bound).each x i in
          let z : Behind port ≡ NodeHeld c = sym listed ∙ ap G.node e ∙ mine in cc

      none : MovesNone env mix G c
      none = idle_moves_none env mix M G whole c k.only

      in_bucket : IsFoundIn env mix c port j m fore rest before M M_chain G behind
      in_bucket =
          releases.found_in env mix c port owner low words G all whole found (link_of n) k.means.bucket.found behind
          k.means.table none bound

      can : CanReplace env mix c port j m fore rest before M M_chain G behind n behind (Taken c)
      can =
          let node = k.means.node in
          let to = whole.owned.bound_to port m behind bound in
          let same : list_of M m ≡ list_of M n =
          segment_link (list_of M) (list_of M m) behind to.list ∙ sym k.means.bucket.means.list_is in
          record {
            among = node.has.among;
            differs = apart;
            key_is = node.key;
            chain_is = k.means.bucket.means.replaces.alike;
            from = inl node.has.mine;
            list = subst (λ link. IsSegment (list_of M) link behind 0) same to.list;
            distinct = (not_in_from n behind (λ i. not_behind n i refl), to.distinct.1);
            used = refl;
            stays = λ i e. cc;
            built = low;
            no_first = refl;
            no_others = λ d ne. taken_by_one d c ne;
            listed = λ x i. inr (i, not_behind x i);
            back = λ x i ne. i;
            back_one = λ p e. absurd (cc);
            single = λ one. whole.owned.single one port m behind bound;
          }

      write : IsWrite env.geometry M M_chain (relink_address j before)
          (relink_value (place_at env mix j) (link_of n) before)
      write = relink_write env mix place word (link_of n) before words all lock.bucket within

      abbrev chain_change : Change
      chain_change = removing.replacing env mix c port j m fore rest before M M_chain G n behind (Taken c)

      -- the first store of the relinking, behind which this lock is left
      pub chain_store : Step env mix c call words G chain_op (holds_found n found) (holds_left (lock_left place before))
          (KnowsLeft (lock_left place before) (known_left found before))
      chain_store =
          let node = k.means.node in
          let others = fore ++ n ∷ rest in
          put_in found chain_op n m [] behind chain_change.bucket (First j) (lock_left place before)
          (known_left found before) (record {
            only = k.only;
            there = place_at-index env mix place lock.bucket;
            behind_maps = relink_behind_maps env mix place word (link_of n) before words all lock.bucket within;
            bound_to = bound;
            none = tt;
            owner_is = k.means.bucket.means.owner_is;
            new_is = relink_leaves env mix place word (link_of n) before M M_chain write n OwnerWord node.has.among
                (λ e. cc) ∙ node.owner;
            among = list_among env mix M G whole port m behind bound m (inl refl);
            untaken = ap (is_taken_by c) first;
            differs = apart;
            mine = node.has.mine;
            not_taken = refl;
            not_held = λ e. cc;
            made = removing.replace env mix c port j m fore rest before M M_chain G whole behind in_bucket n behind (Taken c)
                can write;
            ready = inr (inl (removing.replacing_known env mix c port j m fore rest before M M_chain G behind in_bucket n
                behind (Taken c) can));
            left = relink_left_lock env mix place word (link_of n) before words all lock.bucket within (place_at env mix j)
                (G.bucket j) others;
            holder = holder_left env mix place word (link_of n) before c G lock chain_change others refl refl;
            means = releases.left_means env mix c port owner M_chain (changed G c chain_change) found before
                (lock_kept env mix place word (link_of n) before c G lock chain_change others refl refl);
          })

    -- ---- a later node is replaced in the list

    abbrev pub swap_op : ℕ → ℕ → Op
    swap_op n before = Store (place_of env.geometry (Node before ListLink)) (link_of n)

    abbrev SwapStep : ℕ → FoundPort → ℕ → ℕ → Type 0
    SwapStep n found old before =
        Step env mix c call words G (swap_op n before) (holds_found n found) (holds_left (Some found.bucket.place))
        (KnowsLeft (Some found.bucket.place) (locks_taken found old))

    pub swap_store : (n : ℕ) (found : FoundPort) (old before : ℕ)
        → KnowsList n found (Copied old (Some before) n owner) M G → SwapStep n found old before
    swap_store n found old before k =
        let is = k.means.bucket in
        let node = k.means.node in
        let stands = is.means.is.stands in
        let among = stands.among in
        let m = found.node in
        let place = found.bucket.place in
        let word = found.bucket.word in
        let j = word_index env mix place in
        let lock = is.found.standing.lock in
        let lies = lies_behind m is.behind old before among in
        let op = swap_op n before in
        let then = mem env mix (applied words op) in
        let before_in =
        before_among env mix c port place word m found.before M G whole is.found is.behind is.bound_to old before among in
        let mine =
        later_behind env mix c port place word m found.before M G whole is.found is.behind is.bound_to old before among in
        let link_is =
        later_link env mix c port place word m found.before M G whole is.found is.behind is.bound_to old before among in
        let none = idle_moves_none env mix M G whole c k.only in
        let behind_it =
        behind_first env mix c port place word m found.before M G whole is.found is.behind is.bound_to old before among then
        none
        (first_stays env mix c port place word m found.before M G whole is.found is.behind is.bound_to found.table
        (Some found.shape) k.means.table none) in
        let can : CanSwap env mix c port j m old before n lies.others among.rear M then G =
        record { has = node.has; key_is = node.key; list_is = is.means.list_is ∙ sym link_is } in
        let write : IsWrite env.geometry M then (Node before ListLink) (link_of n) =
        is_write env.geometry words (Node before ListLink) op all before_in refl in
        put_in found op n old (m ∷ lies.others) among.rear (G.bucket j) (Behind port) (Some place) (locks_taken found old)
        (record {
          only = k.only;
          there = place_at-index env mix place lock.bucket;
          behind_maps = node_behind_maps env.geometry before ListLink;
          bound_to = behind_it.bound_to;
          none = subst (NoOwner M owner) lies.front_is stands.none;
          owner_is = is.means.is.owner_is;
          new_is = write.others (Node n OwnerWord) node.has.among (λ e. cc) ∙ node.owner;
          among = (whole.owned.behind_in old port mine).among;
          untaken = ap (is_taken_by c) mine;
          differs = λ e. held_not_used (G.node n) c node.has.mine (ap is_used (ap G.node e ∙ mine));
          mine = node.has.mine;
          not_taken = refl;
          not_held = λ e. cc;
          made = swap_made env mix c port j m old before n lies.others among.rear M then G whole behind_it can low write;
          ready = swap_known env mix c port j m old before n lies.others among.rear M then G whole behind_it can;
          left = inl (refl, node_before_pages env.geometry before ListLink before_in);
          holder = λ e. refl;
          means = λ took. record {
            lock = lock_stays env mix c G (swapping env mix c port j m old before n lies.others among.rear M then G) place
                word (G.bucket j).nodes refl refl lock;
            took = took;
          };
        })
