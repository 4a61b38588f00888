-- The store that puts a bind's node in front of the list of its port, in place of the first node.
use Rattle.std.proofs.Common.{◌≡◌, ◌⊎◌, ℕ, ◌+◌, ◌^◌, ◌<◌, ◌≤◌, List, [], ◌∷◌, length, Option, Some, None, Bool, true, false, refl, sym, ◌∙◌, ap, subst, inl, inr, arith}
use Rattle.std.proofs.Math.Nat.{mod-eq_of_lt}
use Rattle.rht_words.specs.declared.env.Env.{Env}
use Rattle.rht_words.specs.declared.op.Op.{Op}
use Rattle.rht_words.specs.declared.op.Op.TheVariants.{Store}
use Rattle.rht_words.specs.declared.config.Kind.TheVariants.{Listed}
use Rattle.rht_words.specs.declared.machine.Next.{Next}
use Rattle.rht_words.specs.declared.machine.Next.TheVariants.{Go}
use Rattle.rht_words.specs.Links.{link_of, plain_of}
use Rattle.rht_words.specs.Ports.{owner_of}
use Rattle.rht_words.specs.Operations.{op_place, applied}
use Rattle.rht_words.specs.Places.{Node, ChainLink, OwnerWord, ListLink, PageWord, nodes_at, pages_at, place_of, words_in}
use Rattle.rht_words.proofs.Memory.{Memory, IsWrite, is_write}
use Rattle.rht_words.specs.Members.{In}
use Rattle.rht_words.proofs.Members.{in-middle}
use Rattle.rht_words.proofs.PlacesApart.{parts_in_order}
use Rattle.rht_chain.specs.Relink.{RelinkModel, relink_at, has_relinked}
use Rattle.rht_chain.specs.declared.relink.RelinkAt.{RelinkAt}
use Rattle.rht_chain.specs.declared.relink.RelinkAt.TheVariants as relinks
use Rattle.rht_chain.specs.declared.locked.Locked.{Locked}
use Rattle.rht_model.specs.declared.history.Call.{Call}
use Rattle.rht_model.specs.declared.history.Call.TheVariants as calls
use Rattle.rht_model.specs.declared.history.Reply.{Reply}
use Rattle.rht_model.specs.declared.history.Reply.TheVariants.{Bound}
use Rattle.rht_model.specs.Multimap.{Multimap}
use Rattle.rht_model.specs.Answers.{plain, bind_reply, owners_bound}
use Rattle.rht_bind.specs.Bind.{plan_at, replacing, IsBindAtIn}
use Rattle.rht_bind.specs.BindHeld.{holds_section, holds_node, holds_claimed, holds_replacing}
use Rattle.rht_bind.specs.declared.bind.Claimed.{Claimed}
use Rattle.rht_bind.specs.declared.bind.FoundList.{FoundList}
use Rattle.rht_bind.specs.declared.bind.ending.Ending.TheVariants as endings
use Rattle.rht_bind.specs.declared.bind.BindAt.{BindAt}
use Rattle.rht_bind.specs.declared.bind.BindAt.TheVariants as at
use Rattle.rht_ghost.proofs.Theory.Ghosts.{put-same, Ghost}
use Rattle.rht_ghost.proofs.Theory.Wholes.{place_at, word_index, place_at-index, index-within, Whole, at-there}
use Rattle.rht_ghost.proofs.Theory.Knowns.{Nowhere, FirstLink}
use Rattle.rht_ghost.proofs.Theory.Knowledge.{plainly, HasOnly, HoldsLock, Knowing, idle_moves_none}
use Rattle.rht_ghost.proofs.Theory.Answering.{IsRight, keeps}
use Rattle.rht_ghost.proofs.Theory.Steps.{answered-map, Rebinds, Holding, mem, owners, owners_in, owners_in-stay, still_has, Step, reads}
use Rattle.rht_ghost.proofs.Moves.Relinking.{relink_address, relink_value}
use Rattle.rht_ghost.proofs.Pieces.ListFronts.{lock_left, change, fronted, front_known, front_made, front_only, front_locks, front_outs}
use Rattle.rht_ghost.proofs.Pieces.Rebounds.{node_before_pages}
use Rattle.rht_ghost.proofs.Pieces.NewNodes as nodes
use Rattle.rht_ghost.proofs.Pieces.Locks.{unlock_step}
use Rattle.rht_bind.proofs.BindKnowledge.{own, at_home, in_front, first_found, of_list, known_replacing, front_relink, IsRelinkAtOf}
use Rattle.rht_bind.proofs.BindLinks.{stored_bindings}
use Rattle.rht_bind.proofs.BindKnowledge as binds

-- the relinking begins before its store of the link
begins : (place word link : ℕ) (before : Option ℕ)
    → let state = relink_at place link before in
    (has_relinked before state ≡ false) × IsRelinkAtOf place word link before state
begins place word link None = (refl, refl)
begins place word link (Some node) = (refl, refl)

-- what a bind holds behind the store
abbrev holds_front : Bool → Option ℕ → Holding
holds_front attached lock =
    record (holds_section (Some (plain (Bound attached)))) { lock = lock }

-- and what comes then
abbrev bound_in_front : Claimed → BindAt
bound_in_front claimed = at.Closing (endings.Bound claimed.attempt.attached)

longer : (o : ℕ) (owners : List ℕ) → o ∷ owners ≡ owners → ⊥
longer o owners e = let same = ap length e in absurd (omega (arith, same))

module _ (env : Env) (mix : ℕ → ℕ → ℕ → ℕ) (c : ℕ) (port owner : ℕ) (once : Bool)
    (words : List ℕ) (G : Ghost) (all : length words ≡ words_in env.geometry)
    (whole : Whole env mix (mem env mix words) G) where
  abbrev call : Call
  call = calls.Bind port owner once

  abbrev M : Memory
  M = mem env mix words

  -- the owners of each port now
  abbrev now : Multimap
  now = owners env mix M G

  abbrev BindKnows : BindAt → Memory → Ghost → Type 0
  BindKnows = binds.BindKnows env mix c port owner once

  abbrev BindNext : BindAt × Next Reply → Memory → Ghost → Type 0
  BindNext = binds.BindNext env mix c port owner once

  abbrev BindStep : BindAt → Type 0
  BindStep = binds.BindStep env mix c port owner once words G

  -- ---- what comes before the store

  -- the node gets its link to the first one of the list
  pub list_linked : (list : FoundList) → BindKnows (at.ListLink list) M G → BindStep (at.ListLink list)
  list_linked list known =
      let claimed = list.claimed in
      answered-map env mix None (inl refl) (still_has refl)
      (λ M' G' w k. record { knowing = k; fits = known.fits })
      (nodes.fill_step env mix c (holds_node None (Some claimed.bucket.place))
      (at_home port owner claimed) (first_found port owner list) words G all whole tt
      (own port owner claimed.attempt.node) ListLink (link_of list.first) known.knowing)

  -- the link of that one was loaded
  pub front_loaded : (list : FoundList) → BindKnows (at.ChainLink list) M G → BindStep (at.ChainLink list)
  front_loaded list known =
      let is = known.knowing.means.bucket in
      let stands = is.standing.stands in
      let j = word_index env mix list.claimed.bucket.place in
      let there : In list.first (G.bucket j).nodes =
      rw stands.split (in-middle list.first stands.front stands.rear) in
      let owned = whole.owned.first_at list.first j (whole.owned.member j list.first there) in
      reads env mix whole refl refl (inl refl) (record {
        knowing =
            plainly env mix known.knowing.only known.knowing.means.node known.knowing.means.table (record {
              found = is;
              behind = owned.behind;
              bound_to = ap G.bound (sym is.key_is) ∙ owned.bound_to;
              means = refl;
            });
        fits = known.fits;
      })

  pub front_linked : (list : FoundList) (link : ℕ) → BindKnows (at.LinkBehind list link) M G
      → BindStep (at.LinkBehind list link)
  front_linked list link known =
      let claimed = list.claimed in
      let place = claimed.bucket.place in
      let first = begins place claimed.bucket.word (link_of claimed.attempt.node) list.before in
      let there = replacing env list in
      let op = plan_at env c (at.LinkBehind list link) in
      let Next : Memory → Ghost → Type 0 = BindNext (there, Go) in
      let holds = holds_claimed claimed in
      subst (λ t. Step env mix c call words G op holds (holds_replacing claimed t) Next) (sym first.0)
      (answered-map env mix None (inl refl) (still_has refl)
      (λ M' G' w k. let is = k.means.bucket in let node = k.means.node in record {
        knowing =
            subst
            (λ t. Knowing env mix c (holds_replacing claimed t) (known_replacing port owner list t) M' G')
            (sym first.0) (plainly env mix k.only (record {
              has = node.has;
              chain = tt;
              key = node.key;
              owner = node.owner;
              list = node.list;
            }) k.means.table (record {
              found = is.found;
              behind = is.behind;
              bound_to = is.bound_to;
              means = record { has = node.has; alike = node.chain ∙ sym is.means };
            }));
        fits = record { listed = known.fits; relink_is = refl; at_is = first.1 };
      })
      (nodes.fill_step env mix c (holds_node None (Some place)) (at_home port owner claimed)
      (of_list port owner list (FirstLink link)) words G all whole tt (in_front port owner list) ChainLink
      link known.knowing))

  -- ---- the store

  module _ (small : owner < 2 ^ 32) where
    module _ (list : FoundList) (op : Op)
        (k : Knowing env mix c (holds_claimed list.claimed) (known_replacing port owner list false) M G)
      where
        abbrev bucket : Locked
        bucket = list.claimed.bucket

        abbrev stored : Memory
        stored = mem env mix (applied words op)

        abbrev front : Ghost
        front =
            fronted env mix c port bucket.place bucket.word list.first list.claimed.attempt.node list.before
            M stored G whole k.means.bucket

        -- the store is that of the link to the node, in the place before the first one
        abbrev IsFrontWrite : Option ℕ → Type 0
        IsFrontWrite before =
            let j = word_index env mix bucket.place in
            IsWrite env.geometry M stored (relink_address j before)
            (relink_value (place_at env mix j) (link_of list.claimed.attempt.node) before)

        -- what the caller has behind it: no node, and the lock where a node is before
        record LeftInFront : Type 0 where
          only : HasOnly env mix c front None (lock_left bucket.place list.before) None false None [] false true
          locks : (node : ℕ) → list.before ≡ Some node → HoldsLock env mix c front bucket.place bucket.word

        front_left : LeftInFront
        front_left =
            let is = k.means.bucket in
            let n = list.claimed.attempt.node in
            record {
              only =
                  front_only env mix c port bucket.place bucket.word list.first n list.before
                  M stored G whole is
                  (record {
                    nodes = k.only.nodes;
                    locks = k.only.locks;
                    raising = k.only.raising;
                    slots = k.only.slots;
                    pages_in = k.only.pages_in;
                    works = k.only.works;
                    reads = k.only.reads;
                  });
              locks =
                  front_locks env mix c port bucket.place bucket.word list.first n list.before
                  M stored G whole is;
            }

        -- it is no owner's word
        front_owner : (before : Option ℕ) → IsFrontWrite before
            → stored (Node list.claimed.attempt.node OwnerWord) ≡ M (Node list.claimed.attempt.node OwnerWord)
        front_owner None write =
            write.others (Node list.claimed.attempt.node OwnerWord) k.means.node.has.among (λ e. cc)
        front_owner (Some node) write =
            write.others (Node list.claimed.attempt.node OwnerWord) k.means.node.has.among (λ e. cc)

        -- the lock is left, and the store is on a node's word; or it is left no more, and nobody holds it
        abbrev LeavesLock : Type 0
        LeavesLock =
            ((lock_left bucket.place list.before ≡ Some bucket.place) × (op_place op < pages_at env.geometry))
            ⊎ ((lock_left bucket.place list.before ≡ None) × (op_place op ≡ place_at env mix (word_index env mix bucket.place))
            × ((change env mix c port bucket.place bucket.word list.first list.claimed.attempt.node list.before M stored G whole k.means.bucket).bucket.holder ≡ None))

        front_stored : (After : Memory → Ghost → Type 0) → env.config.kind ≡ Listed
            → nodes_at env.geometry ≤ op_place op → LeavesLock → IsFrontWrite list.before
            → (LeftInFront → After stored front)
            → Step env mix c call words G op (holds_claimed list.claimed)
            (holds_front list.claimed.attempt.attached (lock_left bucket.place list.before)) After
        front_stored After listed behind_maps leaves write knows =
            let n = list.claimed.attempt.node in
            let is = k.means.bucket in
            let rest = list.first ∷ is.behind in
            let back = place_at-index env mix bucket.place is.found.standing.lock.bucket in
            let is_there = at-there k.means.table.passing.at in
            let made =
            front_made env mix c port bucket.place bucket.word list.first n list.before M stored G whole is
            listed k.means.node.key k.means.node.list (idle_moves_none env mix M G whole c k.only)
            k.means.table.passing.at.table k.means.table.passing.passed is_there k.means.table.here write in
            let before : now port ≡ owners_in env mix M rest = ap (owners_in env mix M) is.bound_to in
            let first : owner_of (stored (Node n OwnerWord)) ≡ owner =
            ap owner_of (front_owner list.before write ∙ k.means.node.owner)
            ∙ mod-eq_of_lt {n = owner} {m = 2 ^ 32} small in
            let here : owners_in env mix stored (n ∷ rest) ≡ owner ∷ now port =
            ap (λ o. o ∷ owners_in env mix stored rest) first
            ∙ ap (λ others. owner ∷ others)
            (owners_in-stay env mix c M stored G front whole made port rest is.bound_to ∙ sym before) in
            record {
              move =
                  Rebinds
                  (change env mix c port bucket.place bucket.word list.first n list.before M stored G whole
                  is);
              ready =
                  front_known env mix c port bucket.place bucket.word list.first n list.before M stored G
                  whole is
                  listed k.means.node.key k.means.node.list (idle_moves_none env mix M G whole c k.only)
                  k.means.table.passing.at.table k.means.table.passing.passed is_there k.means.table.here;
              made = made;
              does = record {
                behind_maps = behind_maps;
                lock = ap Some (sym back);
                left_lock = leaves;
                left_second = refl;
                left_section = refl;
                left_worker = refl;
                left_node = inr refl;
                raised_is = sym k.only.raising;
                changes = refl;
              };
              says = inr (record {
                unknown = refl;
                answer = plain (Bound list.claimed.attempt.attached);
                known = refl;
                answered = ap (λ kind. Some (plain (bind_reply kind (now port)))) listed;
                bindings =
                    stored_bindings env mix c port owner once words G all whole
                    (n ∷ rest) stored front made refl
                    (here ∙ sym (ap (λ kind. owners_bound kind owner (now port)) listed));
                port = port;
                differs = λ e.
                    longer owner (now port)
                    (sym here ∙ sym (ap (owners_in env mix stored) (put-same G.bound port (n ∷ rest))) ∙ e);
              });
              early = λ answer known. absurd (cc);
              right = λ answer unknown known.
                  subst (IsRight call (Some n))
                  (let same : Some (plain (Bound list.claimed.attempt.attached)) ≡ Some answer = known in cc)
                  (binds.with_node env mix c port owner once words G n
                  (Bound list.claimed.attempt.attached) tt refl (λ e. cc));
              in_time = record {
                taken = λ node none some. absurd (cc);
                gone = λ node some none told. absurd (cc);
              };
              outs =
                  ap (λ o. o + 0)
                  (front_outs env mix c port bucket.place bucket.word list.first n list.before
                  M stored G whole is);
              returning = λ n is. absurd (cc);
              knows = knows front_left;
            }

    -- state by state: the store of the link, which without a node before unlocks the bucket, or the
    -- unlocking behind it
    front_at : (claimed : Claimed) (first : ℕ) (before : Option ℕ) (state : RelinkAt)
        → let list : FoundList = record { claimed = claimed; first = first; before = before } in
        IsBindAtIn env (at.Replacing list (front_relink env list state))
        → BindKnows (at.Replacing list (front_relink env list state)) M G
        → BindStep (at.Replacing list (front_relink env list state))
    front_at claimed first None (relinks.ChainLink node) is known = absurd known.fits.at_is
    front_at claimed first None (relinks.Word word) is known =
        let list : FoundList = record { claimed = claimed; first = first; before = None } in
        let op = Store claimed.bucket.place word in
        let j = word_index env mix claimed.bucket.place in
        let there = known.knowing.means.bucket.found.standing.lock.bucket in
        let back : place_at env mix j ≡ claimed.bucket.place =
        place_at-index env mix claimed.bucket.place there in
        let value : word ≡ plain_of (place_at env mix j) (link_of claimed.attempt.node) =
        known.fits.at_is ∙ ap (λ p. plain_of p (link_of claimed.attempt.node)) (sym back) in
        front_stored list op known.knowing (BindNext (bound_in_front claimed, Go)) known.fits.listed
        (let order = parts_in_order env.geometry in omega (arith, back, order.nodes, order.pages)) (inr (refl, sym back, refl))
        (subst (IsWrite env.geometry M (mem env mix (applied words op)) (PageWord j)) value
        (is_write env.geometry words (PageWord j) op all (index-within env mix claimed.bucket.place there)
        (sym back)))
        (λ left. record { knowing = plainly env mix left.only tt tt tt; fits = tt })
    front_at claimed first (Some before) (relinks.ChainLink node) is known =
        let list : FoundList = record { claimed = claimed; first = first; before = Some before } in
        let op = Store (place_of env.geometry (Node node ChainLink)) (link_of claimed.attempt.node) in
        let next = at.Replacing list (front_relink env list (relinks.Word claimed.bucket.word)) in
        front_stored list op known.knowing (BindNext (next, Go)) known.fits.listed (omega arith)
        (inl (refl, node_before_pages env.geometry node ChainLink is.relink_in.at_in))
        (subst (λ m. IsWrite env.geometry M (mem env mix (applied words op)) (Node m ChainLink)
        (link_of claimed.attempt.node)) known.fits.at_is
        (is_write env.geometry words (Node node ChainLink) op all is.relink_in.at_in refl))
        (λ left. record {
          knowing = plainly env mix left.only tt tt (left.locks before refl);
          fits = record { listed = known.fits.listed; relink_is = refl; at_is = refl };
        })
    front_at claimed first (Some before) (relinks.Word word) is known =
        let place = claimed.bucket.place in
        let told = holds_front claimed.attempt.attached None in
        let Ends : Memory → Ghost → Type 0 = BindNext (bound_in_front claimed, Go) in
        subst (λ v. Step env mix c call words G (Store place v)
        (holds_front claimed.attempt.attached (Some place)) told Ends) (sym known.fits.at_is)
        (answered-map env mix told.answer (inl (keeps told.answer)) (still_has refl)
        (λ M' G' w k. record { knowing = k; fits = tt })
        (unlock_step env mix c told None Nowhere words G all whole refl place claimed.bucket.word
        known.knowing))

    pub front_step : (list : FoundList) (relink : RelinkModel) → IsBindAtIn env (at.Replacing list relink)
        → BindKnows (at.Replacing list relink) M G → BindStep (at.Replacing list relink)
    front_step list relink is known =
        subst (λ r. let here = at.Replacing list r in IsBindAtIn env here → BindKnows here M G
        → BindStep here)
        (sym known.fits.relink_is) (front_at list.claimed list.first list.before relink.at) is known
