-- What a bind decides under the lock of its bucket: that the port is bound already, that its way goes on in
-- the table behind, that its node doesn't go into this table, or that it is to be linked.
use Rattle.std.proofs.Common.{◌≡◌, ◌⊎◌, ℕ, ◌+◌, List, [], ◌∷◌, length, min, nat_le, Option, Some, None, Bool, cond, refl, sym, ◌∙◌, ap, subst, inl, inr, arith}
use Rattle.std.proofs.lemmas.Bool.{cases_eq, eq-eqb, ne_eqb}
use Rattle.rht_words.specs.declared.env.Env.{Env}
use Rattle.rht_words.specs.declared.config.Kind.TheVariants.{Single}
use Rattle.rht_words.specs.declared.machine.Next.{Next}
use Rattle.rht_words.specs.declared.machine.Next.TheVariants.{Go}
use Rattle.rht_words.specs.Links.{slot_of}
use Rattle.rht_words.specs.Ports.{owner_of}
use Rattle.rht_words.specs.Shapes.{size_of, unpacked}
use Rattle.rht_words.specs.Operations.{applied}
use Rattle.rht_words.specs.Places.{PortCount, Slot, FutureWord, Node, OwnerWord, words_in}
use Rattle.rht_words.proofs.Memory.{Memory}
use Rattle.rht_policy.specs.Thresholds.{is_above_100, is_above_max}
use Rattle.rht_chain.specs.declared.locked.Then.TheVariants.{Answer}
use Rattle.rht_model.specs.declared.history.Call.{Call}
use Rattle.rht_model.specs.declared.history.Call.TheVariants as calls
use Rattle.rht_model.specs.declared.history.Reply.{Reply}
use Rattle.rht_model.specs.declared.history.Reply.TheVariants.{Exists, TooBig}
use Rattle.rht_model.specs.Multimap.{Multimap}
use Rattle.rht_model.specs.Answers.{plain, bind_reply, owners_bound}
use Rattle.rht_bind.specs.Bind.{plan_at, unlocking, future_or_count, checked_count, IsBindAtIn}
use Rattle.rht_bind.specs.Growing.{unlocking_full}
use Rattle.rht_bind.specs.BindHeld.{holds_claimed}
use Rattle.rht_bind.specs.declared.bind.Claimed.{Claimed}
use Rattle.rht_bind.specs.declared.bind.growth.Full.{Full}
use Rattle.rht_bind.specs.declared.bind.growth.Full.TheVariants as full
use Rattle.rht_bind.specs.declared.bind.BindAt.{BindAt}
use Rattle.rht_bind.specs.declared.bind.BindAt.TheVariants as at
use Rattle.rht_ghost.proofs.Theory.Ghosts.{put-same, put-all, Ghost, table_at, table_of_page, with_armed, armed_by}
use Rattle.rht_ghost.proofs.Theory.Wholes.{key_of, place_at, word_index, Whole, at-there}
use Rattle.rht_ghost.proofs.Theory.Passed.{home-word, Passed-stays}
use Rattle.rht_ghost.proofs.Theory.Knowns.{KnownBucket}
use Rattle.rht_ghost.proofs.Theory.Knowledge.{plainly, HasLock, IsMember, Knowing, has_lock, idle_moves_none}
use Rattle.rht_ghost.proofs.Theory.KnowledgeStays.{TableMeans-stay}
use Rattle.rht_ghost.proofs.Theory.Frames.{Made, same_tables, same_grow, tables_stay}
use Rattle.rht_ghost.proofs.Theory.Answering.{IsLegalOn, learns}
use Rattle.rht_ghost.proofs.Theory.Steps.{by_test, mem, owners, owners_in, still_has, answered, reads, Arms, unchanged, silent}
use Rattle.rht_ghost.proofs.Theory.Readiness.{IsArming}
use Rattle.rht_ghost.proofs.Moves.Quiet.{armed_passes, arm}
use Rattle.rht_ghost.proofs.Pieces.Locates.{FutureIs, future_is, is_last}
use Rattle.rht_bind.proofs.BindKnowledge.{own, knows_of, at_home, missed, armed, known_of_bind}
use Rattle.rht_bind.proofs.BindKnowledge as binds

module _ (env : Env) (mix : ℕ → ℕ → ℕ → ℕ) (c : ℕ) (port owner : ℕ) (once : Bool)
    (words : List ℕ) (G : Ghost) (all : length words ≡ words_in env.geometry)
    (whole : Whole env mix (mem env mix words) G) where
  abbrev call : Call
  call = calls.Bind port owner once

  abbrev M : Memory
  M = mem env mix words

  -- the owners of each port now
  abbrev now : Multimap
  now = owners env mix M G

  abbrev BindKnows : BindAt → Memory → Ghost → Type 0
  BindKnows = binds.BindKnows env mix c port owner once

  abbrev BindNext : BindAt × Next Reply → Memory → Ghost → Type 0
  BindNext = binds.BindNext env mix c port owner once

  abbrev BindMoved : BindAt → BindAt × Next Reply → Type 0
  BindMoved = binds.BindMoved env mix c port owner once words G

  abbrev BindStep : BindAt → Type 0
  BindStep = binds.BindStep env mix c port owner once words G

  -- ---- the table behind

  -- where no table is behind that in which the port was looked for in vain, the bind is armed in its bucket
  arms : (claimed : Claimed) (count : ℕ) → G.bound port ≡ [] → (known : BindKnows (at.Future claimed count) M G)
      → known.knowing.means.table.passing.at.table + 1 ≡ G.attached
      → BindMoved (at.Future claimed count) (at.Count claimed, Go)
  arms claimed count unbound known last =
      let op = plan_at env c (at.Future claimed count) in
      let k = known.knowing in
      let home_is = k.means.table in
      let lock = k.means.bucket.lock in
      let j = word_index env mix claimed.bucket.place in
      let τ = home_is.passing.at.table in
      let of =
      (home-word env mix M G whole port τ j (at-there home_is.passing.at) home_is.here).of in
      let table : table_at G j ≡ τ = ap table_of_page of in
      let ready : IsArming env mix c j G = record {
        holder = lock.holder;
        current = omega (arith, whole.tables.current_in, table, last);
        last = omega (arith, table, last);
      } in
      let made = arm env mix c j M G whole (idle_moves_none env mix M G whole c k.only) ready in
      let G' = with_armed G j c in
      let b = armed_by (G.bucket j) c in
      let same : (applied words op) ≡ words = unchanged words op refl in
      answered env mix None (inl refl) (still_has refl)
      (silent env mix c words G op (holds_claimed claimed) (holds_claimed claimed)
      (BindNext (at.Count claimed, Go)) (Arms j) whole ready tt
      (subst (λ w. Made env mix c M G (mem env mix w) G') (sym same) made)
      (record { holds = refl; leaves = inl (λ bit l. refl) })
      (subst (λ w. BindNext (at.Count claimed, Go) (mem env mix w) G') (sym same) (record {
        knowing = plainly env mix (record {
          nodes = k.only.nodes;
          locks = λ i. put-all (λ n bucket. bucket.holder ≡ Some c
              → (Some claimed.bucket.place ≡ Some (place_at env mix n))
              ⊎ (◌≡◌ {A = Option ℕ} None (Some (place_at env mix n)))) G.bucket j b
              (k.only.locks j) (λ n ne. k.only.locks n) i;
          raising = k.only.raising;
          slots = k.only.slots;
          pages_in = k.only.pages_in;
          works = k.only.works;
          reads = k.only.reads;
        }) (record {
          has = record { mine = k.means.node.has.mine; among = k.means.node.has.among };
          chain = k.means.node.chain;
          key = k.means.node.key;
          owner = k.means.node.owner;
          list = k.means.node.list;
        }) (TableMeans-stay env mix c M M G G' refl
            (tables_stay env mix M G G' whole (same_tables env mix G G'.bucket G.node G.bound G.raised)
            (armed_passes env mix c j G ready)) (at_home port owner claimed) home_is) (record {
              lock = record {
                bucket = lock.bucket;
                holder = ap (λ x. x.holder) (put-same G.bucket j b) ∙ lock.holder;
                plain = ap (λ x. x.plain) (put-same G.bucket j b) ∙ lock.plain;
              };
              table = τ;
              armed = record {
                passed = Passed-stays env mix M G G' whole
                    (same_grow env mix G G' (same_tables env mix G G'.bucket G.node G.bound G.raised))
                    (armed_passes env mix c j G ready) port τ home_is.passing.passed;
                here = home_is.here;
                of = of;
                armed = ap (λ x. x.armed) (put-same G.bucket j b);
                unbound = unbound;
              };
            });
        fits = tt;
      })))

  -- the bucket is unlocked since the node doesn't go into it
  full_knows : (claimed : Claimed) (why : Full) (bucket : KnownBucket)
      → HasLock env mix c G claimed.bucket.place claimed.bucket.word
      → Knowing env mix c (holds_claimed claimed)
      (knows_of port owner (own port owner claimed.attempt.node) (at_home port owner claimed) bucket) M G
      → BindKnows (unlocking_full claimed why) M G
  full_knows claimed why bucket lock k =
      let passing = k.means.table.passing in
      record { knowing = plainly env mix k.only k.means.node (record { at = passing.at; since = passing.since }) lock; fits = tt }

  -- the future of a table in which the port was looked for in vain: where there is none, a chain that is
  -- full takes no node
  future_next : (claimed : Claimed) (count : ℕ) (future : Option ℕ)
      → FutureIs env mix c (holds_claimed claimed) (Some (own port owner claimed.attempt.node))
      (missed port owner claimed) words G whole port future
      → (known : BindKnows (at.Future claimed count) M G)
      → (future ≡ None → known.knowing.means.table.passing.at.table + 1 ≡ G.attached)
      → BindMoved (at.Future claimed count) (future_or_count claimed count future, Go)
  future_next claimed count None unbound known last =
      by_test (λ t. BindMoved (at.Future claimed count)
      (cond t (unlocking_full claimed full.Chain) (at.Count claimed), Go)) (nat_le 16 count)
      (λ t. reads env mix whole refl refl (inl refl)
      (full_knows claimed full.Chain (missed port owner claimed)
      (has_lock env mix c G claimed.bucket.place claimed.bucket.word known.knowing.means.bucket.lock)
      known.knowing))
      (λ t. arms claimed count unbound known (last refl))
  future_next claimed count (Some next) passing known last =
      reads env mix whole refl refl (inl refl) (record {
        knowing =
            plainly env mix known.knowing.only known.knowing.means.node passing
            (has_lock env mix c G claimed.bucket.place claimed.bucket.word known.knowing.means.bucket.lock);
        fits = tt;
      })

  pub future_loaded : (claimed : Claimed) (count : ℕ)
      → let here = at.Future claimed count in
      IsBindAtIn env here → BindKnows here M G → BindStep here
  future_loaded claimed count is known =
      future_next claimed count (slot_of (M (Slot claimed.table FutureWord)))
      (future_is env mix c (holds_claimed claimed) (Some (own port owner claimed.attempt.node))
      (missed port owner claimed) words G whole port claimed.table claimed.bucket.place
      claimed.bucket.word (Some claimed.shape) known.knowing known.knowing.means.bucket) known
      (is_last env mix c (holds_claimed claimed) (Some (own port owner claimed.attempt.node))
      (missed port owner claimed) words G whole port claimed.table claimed.bucket.place
      (Some claimed.shape) known.knowing)

  -- ---- the count

  -- the bucket is unlocked, and the answer told behind it
  unlocking_knows : (claimed : Claimed) (reply : Reply)
      → Knowing env mix c (holds_claimed claimed) (known_of_bind port owner (at.Count claimed)) M G
      → BindKnows (unlocking claimed (Answer reply)) M G
  unlocking_knows claimed reply k =
      record { knowing = plainly env mix k.only k.means.node tt k.means.bucket.lock; fits = tt }

  -- a count that is too great refuses the bind, and with one above the size the node doesn't go into the
  -- table
  pub count_next : (claimed : Claimed) → BindKnows (at.Count claimed) M G
      → BindMoved (at.Count claimed) (checked_count env claimed (M PortCount), Go)
  count_next claimed known =
      let count = M PortCount in
      let refused = unlocking claimed (Answer (TooBig count)) in
      let above = is_above_100 (min count 65536) (size_of (unpacked claimed.shape)) env.config.max in
      by_test
      (λ t. BindMoved (at.Count claimed)
      (cond t refused (cond above (unlocking_full claimed full.Table) (at.Link claimed)), Go))
      (is_above_max (min count 65536) env.config.max)
      (λ t. reads env mix whole refl refl
      (binds.refused env mix c port owner once words G claimed.attempt.node (TooBig count) tt refl
      (λ e. cc) refl tt refl)
      (unlocking_knows claimed (TooBig count) known.knowing))
      (λ f.
      by_test
      (λ t. BindMoved (at.Count claimed) (cond t (unlocking_full claimed full.Table) (at.Link claimed), Go))
      above
      (λ t. reads env mix whole refl refl (inl refl)
      (full_knows claimed full.Table (armed port owner claimed) known.knowing.means.bucket.lock
      known.knowing))
      (λ t. reads env mix whole refl refl (inl refl) (record { knowing = known.knowing; fits = tt })))

  -- ---- a port that is bound already

  -- in a table of one owner each the port is bound to the owner of a node of its bucket that has its key,
  -- and to no other
  bound_here : env.config.kind ≡ Single → (place word node : ℕ)
      → IsMember env mix c M G place word port node
      → now port ≡ owner_of (M (Node node OwnerWord)) ∷ []
  bound_here single place word node is =
      let j = word_index env mix place in
      let at = whole.owned.first_at node j (whole.owned.member j node is.there) in
      let alone = whole.owned.single single (key_of M node) node at.behind at.bound_to in
      ap (owners_in env mix M)
      (ap G.bound (sym is.key_is) ∙ at.bound_to ∙ ap (λ behind. node ∷ behind) alone)

  -- a port that is bound exists there, and a bind leaves it
  exists : env.config.kind ≡ Single → (first : ℕ) → now port ≡ first ∷ []
      → IsLegalOn env.config.kind c call now (plain (Exists first))
  exists single first bound = record {
    legal =
        inl (ap (λ kind. Some (plain (bind_reply kind (now port)))) single
        ∙ ap (λ list. Some (plain (bind_reply Single list))) bound);
    leaves = λ other. elim (cases_eq other port) [
      | inl e ↦
          ap (λ t. cond t (owners_bound env.config.kind owner (now port)) (now other)) (eq-eqb other port e)
          ∙ ap (λ kind. owners_bound kind owner (now port)) single ∙ ap (owners_bound Single owner) bound
          ∙ sym bound ∙ ap now (sym e)
      | inr ne ↦
          ap (λ t. cond t (owners_bound env.config.kind owner (now port)) (now other))
          (ne_eqb other port ne)
    ];
  }

  pub found_next : (claimed : Claimed) (found : ℕ) → BindKnows (at.FoundOwner claimed found) M G
      → BindStep (at.FoundOwner claimed found)
  found_next claimed found known =
      let first = owner_of (M (Node found OwnerWord)) in
      let is = known.knowing.means.bucket in
      let answer = unlocking claimed (Answer (Exists first)) in
      reads env mix whole refl refl
      (learns env.config.kind c call (Some claimed.attempt.node) now (plain (Exists first))
      (binds.with_node env mix c port owner once words G claimed.attempt.node (Exists first) tt refl
      (λ e. cc)) refl
      (exists known.fits first (bound_here known.fits claimed.bucket.place claimed.bucket.word found is)))
      (record {
        knowing =
            plainly env mix known.knowing.only known.knowing.means.node tt
            (has_lock env mix c G claimed.bucket.place claimed.bucket.word is.lock);
        fits = tt;
      })
