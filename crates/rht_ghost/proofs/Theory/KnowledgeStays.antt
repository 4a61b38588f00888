-- What is known of nodes, tables and buckets outlives a step that leaves what it speaks of.
use Rattle.std.proofs.Common.{◌≡◌, ℕ, ◌/◌, ◌≤◌, List, [], ◌∷◌, ◌++◌, Option, Some, None, refl, sym, ◌∙◌, ap, subst, inl, inr, arith}
use Rattle.std.specs.Prelude.{IfSome}
use Rattle.rht_words.specs.declared.env.Env.{Env}
use Rattle.rht_words.specs.Places.{Node, NodeWord, ChainLink, KeyWord, OwnerWord, ListLink}
use Rattle.rht_words.specs.Ports.{owner_of}
use Rattle.rht_words.proofs.Memory.{Memory}
use Rattle.rht_words.specs.Members.{In}
use Rattle.rht_words.proofs.Members.{In-append_left, In-append_cases, in-middle}
use Rattle.rht_ghost.proofs.Theory.Ghosts.{NodeHeld, Ghost, IsSince, is_taken_by, table_at, table_of_page}
use Rattle.rht_ghost.proofs.Theory.Wholes.{chain_of, key_of, word_index, IsAt}
use Rattle.rht_ghost.proofs.Theory.Passed.{NoKey, NoKey-same, home-from, at-from}
use Rattle.rht_ghost.proofs.Theory.Knowns.{Armed, AtHome, AtNode, Collected, CollectedTo, Copied, CopiedTo, LinkBehind, Differing, Differs, FirstLink, Found, InList, InSlot, IsAmong, IsLeading, IsOwnersNode, KnownBucket, KnownList, KnownNode, KnownTable, Leads, LeadsTo, Listing, Locks, LocksTakenOut, Matching, Member, Missed, NoOwner, Nowhere, OnWay, Passes, Promotes, Replaces, Shaped, Stands, StandsInList, Succeeds, TakenOut, Unlocked, Unlocks, first_of_list, owners_of}
use Rattle.rht_ghost.proofs.Theory.Knowledge.{ArmedFor, BucketMeans, HasLock, HasNode, HasTakenOut, HoldsLock, IsArmed, IsDiffering, IsFound, IsMember, IsPassing, IsPlain, SpeaksOf, SpeaksOfList, speaks_of, IsReaching, IsReplacing, IsShaped, IsStanding, ListMeans, NodeMeans, TableMeans, bucket_at}
use Rattle.rht_ghost.proofs.Theory.WaysStay.{IsWayTo-from, IsRightBehind-from}
use Rattle.rht_ghost.proofs.Theory.Reliance.{ChainsStay, MembersUsed, TablesStay, since-low, WordStays}

module _ (env : Env) (mix : ℕ → ℕ → ℕ → ℕ) where
  -- ---- what is known outlives a step that leaves what it speaks of

  module _ (c : ℕ) (M M' : Memory) (G G' : Ghost) where
    -- the caller's nodes stay its own, with such of their words, where there are any such
    abbrev pub KeepsOwn : (NodeWord → Type 0) → Type 0
    KeepsOwn Such = (word : NodeWord) → Such word → (node : ℕ) → HasNode env mix c G node
        → HasNode env mix c G' node × (M' (Node node word) ≡ M (Node node word))

    -- of nodes: where the caller's stay its own, with their words
    module _ (mine : (node : ℕ) → HasNode env mix c G node → G'.node node ≡ NodeHeld c)
        (words : (node : ℕ) → HasNode env mix c G node → (word : NodeWord)
        → M' (Node node word) ≡ M (Node node word)) where
      known-stays : (node : ℕ) (word : NodeWord) (known : Option ℕ) → HasNode env mix c G node
          → IfSome known (λ value. M (Node node word) ≡ value)
          → IfSome known (λ value. M' (Node node word) ≡ value)
      known-stays node word None has is = tt
      known-stays node word (Some value) has is = words node has word ∙ is

      pub NodeMeans-stay : (known : Option KnownNode) → IfSome known (NodeMeans env mix c M G)
          → IfSome known (NodeMeans env mix c M' G')
      NodeMeans-stay None means = tt
      NodeMeans-stay (Some known) means = record {
        has = record { mine = mine known.node means.has; among = means.has.among };
        chain = known-stays known.node ChainLink known.chain means.has means.chain;
        key = known-stays known.node KeyWord known.key means.has means.key;
        owner = known-stays known.node OwnerWord known.owner means.has means.owner;
        list = known-stays known.node ListLink known.list means.has means.list;
      }

    -- of tables: where these stay, and so does to which of them the caller's section comes
    module _ (from : G'.from c ≡ G.from c) (stay : TablesStay env mix G G') where
      since-stays : (τ : ℕ) → IsSince (G.from c) τ → IsSince (G'.from c) τ
      since-stays τ = subst (λ f. IsSince f τ) (sym from)

      reaches : (τ : ℕ) → IsSince (G.from c) τ → stay.low ≤ τ
      reaches = since-low env mix stay c

      abbrev IsPassing-stay : (port slot : ℕ) → IsPassing env mix c G port slot → IsPassing env mix c G' port slot
      IsPassing-stay port slot means = record {
        at = at-from env mix stay.low G G' stay.grow slot means.at (reaches means.at.table means.since);
        since = since-stays means.at.table means.since;
        passed = stay.passed port means.at.table (reaches means.at.table means.since) means.passed;
      }

      shape-stays : (slot : ℕ) (shape : Option ℕ) (at : IsAt G slot)
          → IfSome shape (λ s. (G.table at.table).shape ≡ s) → IfSome shape (λ s. (G'.table at.table).shape ≡ s)
      shape-stays slot None at is = tt
      shape-stays slot (Some s) at is = (stay.grow.tables at.table at.attached).shape ∙ is

      abbrev IsShaped-stay : (port slot shape : ℕ) → IsShaped env mix c G port slot shape → IsShaped env mix c G' port slot shape
      IsShaped-stay port slot shape means = record {
        passing = IsPassing-stay port slot means.passing;
        shape_is = shape-stays slot (Some shape) means.passing.at means.shape_is;
      }

      pub TableMeans-stay : (known : KnownTable) → TableMeans env mix c G known → TableMeans env mix c G' known
      TableMeans-stay Nowhere means = tt
      TableMeans-stay (InSlot slot) means = record {
        at = at-from env mix stay.low G G' stay.grow slot means.at (reaches means.at.table means.since);
        since = since-stays means.at.table means.since;
      }
      TableMeans-stay (Passes port slot) means = IsPassing-stay port slot means
      TableMeans-stay (Shaped port slot shape) means = IsShaped-stay port slot shape means
      TableMeans-stay (OnWay port slot shape place early) means =
          let passing = means.shaped.passing in
          record {
            shaped = IsShaped-stay port slot shape means.shaped;
            to = IsWayTo-from env mix stay.low G G' stay.grow port passing.at.table place passing.at.attached
                (reaches passing.at.table passing.since) means.to;
            behind = IsRightBehind-from env mix stay.low G G' stay.grow passing.at.table early means.behind;
          }
      TableMeans-stay (AtHome port slot shape place) means =
          let passing = means.passing in
          record {
            passing = IsPassing-stay port slot passing;
            shape_is = shape-stays slot shape passing.at means.shape_is;
            bucket = means.bucket;
            here = home-from env mix stay.low G G' stay.grow port passing.at.table (word_index env mix place) passing.at.attached
                (reaches passing.at.table passing.since) means.here;
          }

    -- of buckets: where those that it has locked stay, and the keys of nodes in chains
    module _ (members : MembersUsed env mix G) (locks : (j : ℕ) → (G.bucket j).holder ≡ Some c
        → G'.bucket j ≡ G.bucket j)
        (lists : (j node : ℕ) → (G.bucket j).holder ≡ Some c → In node (G.bucket j).nodes
        → G'.bound (key_of M node) ≡ G.bound (key_of M node))
        (chains : ChainsStay env mix c M G M') (keys : WordStays env mix KeyWord M G M') (owners : WordStays env mix OwnerWord M G M')
        (taken : (node : ℕ) → is_taken_by c (G'.node node) ≡ is_taken_by c (G.node node))
        (stay : TablesStay env mix G G') (unbound : (port τ j : ℕ) → ArmedFor env mix G c port τ j → G'.bound port ≡ []) where
      key-stays_in : (j node : ℕ) → In node (G.bucket j).nodes → key_of M' node ≡ key_of M node
      key-stays_in j node i = let is = members.member j node i in keys node is.0 is.1

      HoldsLock-stay : (place word : ℕ) → HoldsLock env mix c G place word → HoldsLock env mix c G' place word
      HoldsLock-stay place word holds =
          let same = locks (word_index env mix place) holds.holder in
          record {
            bucket = holds.bucket;
            holder = ap (λ b. b.holder) same
                ∙ holds.holder;
            plain = ap (λ b. b.plain) same ∙ holds.plain;
            unarmed = ap (λ b. b.armed) same ∙ holds.unarmed;
            still = ap (λ b. b.out) same ∙ holds.still;
          }

      HasLock-stay : (place word : ℕ) → HasLock env mix c G place word → HasLock env mix c G' place word
      HasLock-stay place word holds =
          let same = locks (word_index env mix place) holds.holder in
          record {
            bucket = holds.bucket;
            holder = ap (λ b. b.holder) same ∙ holds.holder;
            plain = ap (λ b. b.plain) same ∙ holds.plain;
          }

      IsArmed-stay : (place word port : ℕ) → IsArmed env mix c G place word port → IsArmed env mix c G' place word port
      IsArmed-stay place word port is =
          let j = word_index env mix place in
          let armed = is.armed in
          let reaches : stay.low ≤ is.table =
          (let of : table_at G j ≡ is.table = ap table_of_page armed.of in
          omega (arith, members.armed j c armed.armed, of, stay.current)) in
          record {
            lock = HasLock-stay place word is.lock;
            table = is.table;
            armed = record {
              passed = stay.passed port is.table reaches armed.passed;
              here = home-from env mix stay.low G G' stay.grow port is.table j armed.passed.attached reaches armed.here;
              of = stay.grow.pages (j / 64) is.table reaches armed.of;
              armed = ap (λ b. b.armed) (locks j is.lock.holder) ∙ armed.armed;
              unbound = unbound port is.table j armed;
            };
          }

      nodes-stay : (place word : ℕ) → HoldsLock env mix c G place word
          → (bucket_at env mix G' place).nodes ≡ (bucket_at env mix G place).nodes
      nodes-stay place word holds = ap (λ b. b.nodes) (locks (word_index env mix place) holds.holder)

      NoKey-stay : (key j : ℕ) (nodes : List ℕ) → ((node : ℕ) → In node nodes → In node (G.bucket j).nodes)
          → NoKey M key nodes → NoKey M' key nodes
      NoKey-stay key j nodes all none = NoKey-same M M' key nodes
          (λ node i. key-stays_in j node (all node i)) none

      IsStanding-stay : (place word key node : ℕ) (before : Option ℕ)
          → IsStanding env mix c M G place word key node before
          → IsStanding env mix c M' G' place word key node before
      IsStanding-stay place word key node before means =
          let s = means.stands in
          let j = word_index env mix place in
          record {
            lock = HoldsLock-stay place word means.lock;
            stands = record {
              front = s.front;
              rear = s.rear;
              split = nodes-stay place word means.lock ∙ s.split;
              passed = NoKey-stay key j s.front
                  (λ other i. rw s.split (In-append_left other s.front (node ∷ s.rear) i)) s.passed;
              last = s.last;
            };
          }

      IsReaching-stay : (place word key node : ℕ) (before : Option ℕ) (count : ℕ)
          → IsReaching env mix c M G place word key node before count
          → IsReaching env mix c M' G' place word key node before count
      unfolding IsStanding-stay
      IsReaching-stay place word key node before count means = record {
        standing = IsStanding-stay place word key node before means.standing;
        counted = means.counted;
      }

      -- the key of the node at which it stands stays
      key-stays : (place word key node : ℕ) (before : Option ℕ) → IsStanding env mix c M G place word key node before
          → key_of M' node ≡ key_of M node
      key-stays place word key node before means =
          let j = word_index env mix place in
          key-stays_in j node (rw means.stands.split (in-middle node means.stands.front means.stands.rear))

      IsDiffering-stay : (place word key node : ℕ) (before : Option ℕ) (count : ℕ)
          → IsDiffering env mix c M G place word key node before count
          → IsDiffering env mix c M' G' place word key node before count
      unfolding IsStanding-stay
      IsDiffering-stay place word key node before count means = record {
        standing = IsStanding-stay place word key node before means.standing;
        differs = λ same. means.differs (sym (key-stays place word key node before means.standing) ∙ same);
        counted = means.counted;
      }

      IsMember-stay : (place word key node : ℕ) → IsMember env mix c M G place word key node
          → IsMember env mix c M' G' place word key node
      IsMember-stay place word key node means =
          let j = word_index env mix place in
          record {
            lock = HoldsLock-stay place word means.lock;
            there = rw (nodes-stay place word means.lock) means.there;
            key_is = key-stays_in j node means.there ∙ means.key_is;
          }

      NoOwner-stay : (owner : ℕ) (nodes : List ℕ) → ((node : ℕ) → In node nodes
          → M' (Node node OwnerWord) ≡ M (Node node OwnerWord))
          → NoOwner M owner nodes → NoOwner M' owner nodes
      NoOwner-stay owner [] same none = tt
      NoOwner-stay owner (node ∷ nodes) same none = (
        (λ is. none.0 (ap owner_of (sym (same node (inl refl))) ∙ is)),
        NoOwner-stay owner nodes
            (λ other i. same other (inr i)) none.1,
      )

      owners_of-stay : (nodes : List ℕ) → ((node : ℕ) → In node nodes
          → M' (Node node OwnerWord) ≡ M (Node node OwnerWord))
          → owners_of M' nodes ≡ owners_of M nodes
      owners_of-stay [] same = refl
      owners_of-stay (node ∷ nodes) same =
          ap (λ w. owner_of w ∷ owners_of M' nodes) (same node (inl refl))
          ∙ ap (λ rest. owner_of (M (Node node OwnerWord)) ∷ rest)
          (owners_of-stay nodes (λ other i. same other (inr i)))

      -- of a list: where the owners of its nodes stay, and their links in chains
      abbrev ListOwners : ℕ → List ℕ → Type 0
      ListOwners first behind = (node : ℕ) → In node (first ∷ behind) → M' (Node node OwnerWord) ≡ M (Node node OwnerWord)

      abbrev ListLinks : ℕ → List ℕ → Type 0
      ListLinks first behind = (node : ℕ) → In node (first ∷ behind) → chain_of M' node ≡ chain_of M node

      module _ (first : ℕ) (behind : List ℕ) (owner_words : ListOwners first behind) (links : ListLinks first behind) where
        none-stays : (node : ℕ) (before : Option ℕ) (owner : ℕ)
            → (is : StandsInList M (first ∷ behind) node before owner)
            → NoOwner M' owner is.among.front
        none-stays node before owner is = NoOwner-stay owner is.among.front
            (λ n i. owner_words n (subst (In n) (sym is.among.split)
            (In-append_left n is.among.front (node ∷ is.among.rear) i))) is.none

        abbrev Stands-stay : (node : ℕ) (before : Option ℕ) (owner : ℕ)
            → StandsInList M (first ∷ behind) node before owner
            → StandsInList M' (first ∷ behind) node before owner
        Stands-stay node before owner is = record { among = is.among; none = none-stays node before owner is }

        owner-stays : (node : ℕ) (before : Option ℕ) → (among : IsAmong (first ∷ behind) node before)
            → owner_of (M' (Node node OwnerWord)) ≡ owner_of (M (Node node OwnerWord))
        owner-stays node before among =
            ap owner_of (owner_words node (subst (In node) (sym among.split)
            (in-middle node among.front among.rear)))

        abbrev Matching-stay : (node : ℕ) (before : Option ℕ) (owner : ℕ)
            → IsOwnersNode M (first ∷ behind) node before owner
            → IsOwnersNode M' (first ∷ behind) node before owner
        Matching-stay node before owner is = record {
          stands = Stands-stay node before owner is.stands;
          owner_is = owner-stays node before is.stands.among ∙ is.owner_is;
        }

        first-owner : owner_of (M' (Node first OwnerWord)) ≡ owner_of (M (Node first OwnerWord))
        first-owner = ap owner_of (owner_words first (inl refl))

        Leads-stay : (second : Option ℕ) (owner : ℕ) → IsLeading M first behind second owner
            → IsLeading M' first behind second owner
        Leads-stay second owner is = record { owner_is = first-owner ∙ is.owner_is; second_is = is.second_is }

        -- the second node is one of the list
        second_in : (second : ℕ) (rest : List ℕ) → Some second ≡ first_of_list rest → In second rest
        second_in second [] is = absurd (cc)
        second_in second (node ∷ rest) is = inl (let same : second ≡ node = cc in same)

        -- and where such words of the caller's own node stay
        module _ (Such : NodeWord → Type 0) (own : KeepsOwn Such) where
          Replaces-stay : Such ChainLink → (node : ℕ) → IsReplacing env mix c M G first node
              → IsReplacing env mix c M' G' first node
          Replaces-stay speaks node is =
              let mine = own ChainLink speaks node is.has in
              record { has = mine.0; alike = mine.1 ∙ is.alike ∙ sym (links first (inl refl)) }

          ListMeans-stay : (known : KnownList) → SpeaksOfList env mix Such known → ListMeans env mix c M G first behind known
              → ListMeans env mix c M' G' first behind known
          ListMeans-stay (AtNode node before owner) speaks is = Stands-stay node before owner is
          ListMeans-stay (Differing node owner) speaks is = record {
            before = is.before;
            stands = Stands-stay node is.before owner is.stands;
            differs = λ e. is.differs (sym (owner-stays node is.before is.stands.among) ∙ e);
          }
          ListMeans-stay (Matching node before owner) speaks is = Matching-stay node before owner is
          ListMeans-stay (LinkBehind node before link owner) speaks is =
              record { is = Matching-stay node before owner is.is; link_is = is.link_is }
          ListMeans-stay (Copied node before copy owner) speaks is =
              let mine = own ListLink speaks copy is.has in
              record { is = Matching-stay node before owner is.is; has = mine.0; list_is = mine.1 ∙ is.list_is }
          ListMeans-stay (Leads second owner) speaks is = Leads-stay second owner is
          ListMeans-stay (LeadsTo second link owner) speaks is =
              record { leads = Leads-stay second owner is.leads; link_is = links first (inl refl) ∙ is.link_is }
          ListMeans-stay (Promotes second owner) speaks is = record {
            leads = Leads-stay (Some second) owner is.leads;
            alike = links second (inr (second_in second behind is.leads.second_is)) ∙ is.alike
                ∙ sym (links first (inl refl));
          }
          ListMeans-stay (FirstLink link) speaks is = links first (inl refl) ∙ is
          ListMeans-stay (Replaces node) speaks is = Replaces-stay speaks node is
          ListMeans-stay (CopiedTo copy link owner) speaks is =
              let mine = own ListLink speaks copy is.has in
              record {
                owner_is = first-owner ∙ is.owner_is;
                has = mine.0;
                list_is = mine.1 ∙ is.list_is;
                link_is = links first (inl refl) ∙ is.link_is;
              }
          ListMeans-stay (Succeeds copy owner) speaks is = record {
            owner_is = first-owner ∙ is.owner_is;
            list_is = (own ListLink speaks.1 copy is.replaces.has).1 ∙ is.list_is;
            replaces = Replaces-stay speaks.0 copy is.replaces;
          }
          ListMeans-stay (Collected node owners) speaks is = record {
            before = is.before;
            among = is.among;
            owners_are = is.owners_are ∙ sym (owners_of-stay is.among.front
                (λ n i. owner_words n (subst (In n) (sym is.among.split)
                (In-append_left n is.among.front (node ∷ is.among.rear) i))));
          }
          ListMeans-stay (CollectedTo node owners) speaks is = record {
            before = is.before;
            among = is.among;
            owners_are = is.owners_are ∙ sym (owners_of-stay (is.among.front ++ node ∷ []) (λ n i.
                owner_words n (subst (In n) (sym is.among.split)
                (elim (In-append_cases n is.among.front (node ∷ []) i) [
                  | inl l ↦ In-append_left n is.among.front (node ∷ is.among.rear) l
                  | inr r ↦ elim r [
                    | inl e ↦ rw e (in-middle node is.among.front is.among.rear)
                    | inr
                        none ↦ absurd none
                  ]
                ]))));
          }

      IsFound-stay : (place word key node : ℕ) (before : Option ℕ) → IsFound env mix c M G place word key node before
          → IsFound env mix c M' G' place word key node before
      IsFound-stay place word key node before means = record {
        standing = IsStanding-stay place word key node before means.standing;
        key_is = key-stays place word key node before means.standing ∙ means.key_is;
      }

      -- the first node of a list that was found is in its bucket
      found_there : (place word key node : ℕ) (before : Option ℕ) → IsFound env mix c M G place word key node before
          → In node (bucket_at env mix G place).nodes
      found_there place word key node before means =
          let s = means.standing.stands in rw s.split (in-middle node s.front s.rear)

      bound-stays : (place word key first : ℕ) (before : Option ℕ) → IsFound env mix c M G place word key first before
          → G'.bound key ≡ G.bound key
      bound-stays place word key first before found =
          ap G'.bound (sym found.key_is)
          ∙ lists (word_index env mix place) first found.standing.lock.holder
          (found_there place word key first before found)
          ∙ ap G.bound found.key_is

      list_links : (place word key first : ℕ) (before : Option ℕ) (behind : List ℕ)
          → IsFound env mix c M G place word key first before → G.bound key ≡ first ∷ behind → ListLinks first behind
      list_links place word key first before behind found bound node i =
          chains (word_index env mix place) first node found.standing.lock.holder
          (found_there place word key first before found)
          (rw found.key_is (rw bound i))

      list_owners : (key first : ℕ) (behind : List ℕ) → G.bound key ≡ first ∷ behind → ListOwners first behind
      list_owners key first behind bound node i = let is = members.bound key node (rw bound i) in owners
          node is.0 is.1

      TakenOut-stay : (node : ℕ) → HasTakenOut env mix c G node → HasTakenOut env mix c G' node
      TakenOut-stay node means = record { among = means.among; taken = taken node ∙ means.taken }

      -- where such words of the caller's own node stay
      pub BucketMeans-such : (Such : NodeWord → Type 0) → KeepsOwn Such → (known : KnownBucket) → SpeaksOf env mix Such known
          → BucketMeans env mix c M G known → BucketMeans env mix c M' G' known
      BucketMeans-such Such own Unlocked speaks means = tt
      BucketMeans-such Such own (Unlocks place word) speaks means = HasLock-stay place word means
      BucketMeans-such Such own (Armed place word port) speaks means = IsArmed-stay place word port means
      BucketMeans-such Such own (Locks place word) speaks means = HoldsLock-stay place word means
      BucketMeans-such Such own (Stands place word key node before count) speaks means = IsReaching-stay place word key
          node before count means
      BucketMeans-such Such own (Differs place word key node before count) speaks means = IsDiffering-stay place word key
          node before count means
      BucketMeans-such Such own (Missed place word key) speaks means = record {
        lock = HoldsLock-stay place word means.lock;
        none = rw (nodes-stay place word means.lock)
            (NoKey-stay key (word_index env mix place) (bucket_at env mix G place).nodes (λ node i. i) means.none);
      }
      BucketMeans-such Such own (Found place word key node before) speaks means = IsFound-stay place word key node
          before means
      BucketMeans-such Such own (Member place word key node) speaks means = IsMember-stay place word key node means
      BucketMeans-such Such own (Listing place word key node owner) speaks means =
          let j = word_index env mix place in
          let is = members.member j means.first means.member.there in
          record {
            first = means.first;
            behind = means.behind;
            member = IsMember-stay place word key means.first means.member;
            bound_to =
                ap G'.bound (sym means.member.key_is)
                ∙ lists j means.first means.member.lock.holder means.member.there
                ∙ ap G.bound means.member.key_is ∙ means.bound_to;
            listed = means.listed;
            owner_is = ap owner_of (owners means.first is.0 is.1) ∙ means.owner_is;
          }
      BucketMeans-such Such own (InList place word key first before known) speaks means = record {
        found = IsFound-stay place word key first before means.found;
        behind = means.behind;
        bound_to = bound-stays place word key first before means.found ∙ means.bound_to;
        means = ListMeans-stay first means.behind (list_owners key first means.behind means.bound_to)
            (list_links place word key first before means.behind means.found means.bound_to) Such own known speaks means.means;
      }
      BucketMeans-such Such own (TakenOut node) speaks means = TakenOut-stay node means
      BucketMeans-such Such own (LocksTakenOut place word node) speaks means =
          record { lock = HoldsLock-stay place word means.lock; took = TakenOut-stay node means.took }

      -- of what doesn't speak of the caller's own node, and of whatever it is, where that is still its own, with its words
      pub BucketMeans-stay : (known : KnownBucket) → IsPlain env mix known → BucketMeans env mix c M G known
          → BucketMeans env mix c M' G' known
      BucketMeans-stay known plain means = BucketMeans-such (λ word. ⊥) (λ word none. absurd none) known plain means

      pub BucketMeans-own : (known : KnownBucket) → KeepsOwn (λ word. Unit {0}) → BucketMeans env mix c M G known
          → BucketMeans env mix c M' G' known
      BucketMeans-own known own means =
          BucketMeans-such (λ word. Unit {0}) own known (speaks_of env mix (λ word. Unit {0}) (λ word. tt) known) means
