-- The store that links a bind's node, by which its port is bound to its first owner.
use Rattle.std.proofs.Common.{◌≡◌, ◌⊎◌, ℕ, ◌+◌, ◌^◌, ◌<◌, List, [], ◌∷◌, length, Option, Some, None, Bool, true, false, cond, refl, sym, ◌∙◌, ap, subst, inl, inr, arith}
use Rattle.std.proofs.lemmas.Bool.{cases_eq, eq-eqb, ne_eqb}
use Rattle.std.proofs.lemmas.Bool.Decides.{nat_tests}
use Rattle.std.proofs.Math.Nat.{mod-eq_of_lt}
use Rattle.rht_words.specs.declared.env.Env.{Env}
use Rattle.rht_words.specs.declared.op.Op.TheVariants.{Store}
use Rattle.rht_words.specs.declared.config.Kind.{Kind}
use Rattle.rht_words.specs.declared.config.Kind.TheVariants.{Single, Listed}
use Rattle.rht_words.specs.Links.{link_of, head_of, plain_of}
use Rattle.rht_words.specs.Ports.{IsPort, owner_of}
use Rattle.rht_words.specs.Operations.{applied}
use Rattle.rht_words.specs.Places.{Node, ChainLink, OwnerWord, PageWord, words_in}
use Rattle.rht_words.proofs.Memory.{Memory, IsWrite, is_write}
use Rattle.rht_chain.specs.Relink.{RelinkModel, relink_new}
use Rattle.rht_model.specs.declared.history.Call.{Call}
use Rattle.rht_model.specs.declared.history.Call.TheVariants as calls
use Rattle.rht_model.specs.declared.history.Reply.TheVariants.{Bound}
use Rattle.rht_model.specs.Multimap.{Multimap, Agree}
use Rattle.rht_model.specs.Answers.{plain, bind_reply, owners_bound}
use Rattle.rht_model.specs.Answers as answers
use Rattle.rht_bind.specs.Bind.{IsBindAtIn}
use Rattle.rht_bind.specs.Growing.{made}
use Rattle.rht_bind.specs.BindHeld.{holds_node, holds_claimed}
use Rattle.rht_bind.specs.declared.bind.Claimed.{Claimed}
use Rattle.rht_bind.specs.declared.bind.BindAt.{BindAt}
use Rattle.rht_bind.specs.declared.bind.BindAt.TheVariants as at
use Rattle.rht_ghost.proofs.Theory.Ghosts.{put, put-same, put-other, put-all, NodeHeld, First, Ghost, is_taken_by}
use Rattle.rht_ghost.proofs.Theory.Wholes.{place_at, word_index, place_at-index, index-within, Whole}
use Rattle.rht_ghost.proofs.Theory.Knowns.{AtHome, Armed}
use Rattle.rht_ghost.proofs.Theory.Knowledge.{plainly, HasOnly, Knowing, idle_moves_none}
use Rattle.rht_ghost.proofs.Theory.Frames.{Made}
use Rattle.rht_ghost.proofs.Theory.Answering.{IsRight}
use Rattle.rht_ghost.proofs.Theory.Steps.{answered-map, Links, mem, owners, owners_in, owners-stay, ghost_after, still_has, reowned-outs}
use Rattle.rht_ghost.proofs.Theory.Readiness.{linked_bucket, IsReady}
use Rattle.rht_ghost.proofs.Moves.Linking.{link_head}
use Rattle.rht_ghost.proofs.Pieces.NewNodes as nodes
use Rattle.rht_ghost.proofs.Pieces.PortCounts.{raise_step}
use Rattle.rht_bind.proofs.BindKnowledge.{holds_publishing, own, chained, knows_of, at_home, armed}
use Rattle.rht_bind.proofs.BindKnowledge as binds

-- a port that isn't bound gets its first owner in a table of either kind
first_owner : (owner : ℕ) (kind : Kind) → owners_bound kind owner [] ≡ owner ∷ []
first_owner owner Single = refl
first_owner owner Listed = refl

first_reply : (kind : Kind) → bind_reply kind [] ≡ Bound false
first_reply Single = refl
first_reply Listed = refl

plain_of-link : (place n : ℕ) → plain_of place (link_of n) ≡ link_of n
plain_of-link place n = grind (arith, nat_tests)

module _ (env : Env) (mix : ℕ → ℕ → ℕ → ℕ) (c : ℕ) (port owner : ℕ) (once : Bool)
    (words : List ℕ) (G : Ghost) (all : length words ≡ words_in env.geometry)
    (whole : Whole env mix (mem env mix words) G) where
  abbrev call : Call
  call = calls.Bind port owner once

  abbrev M : Memory
  M = mem env mix words

  -- the owners of each port now
  abbrev now : Multimap
  now = owners env mix M G

  abbrev BindKnows : BindAt → Memory → Ghost → Type 0
  BindKnows = binds.BindKnows env mix c port owner once

  abbrev BindStep : BindAt → Type 0
  BindStep = binds.BindStep env mix c port owner once words G

  -- from a store on by which the port has these owners, it has those that a bind is to give it, and all
  -- others what they had
  pub stored_bindings : (bound : List ℕ) (M' : Memory) (G' : Ghost) → Made env mix c M G M' G'
      → G'.bound ≡ put G.bound port bound
      → owners_in env mix M' bound ≡ owners_bound env.config.kind owner (now port)
      → Agree (owners env mix M' G') (answers.bindings_after env.config.kind now call)
  stored_bindings bound M' G' made is here other = elim (cases_eq other port) [
    | inl e ↦
        ap (owners_in env mix M') (ap (λ f. f other) is ∙ ap (put G.bound port bound) e
        ∙ put-same G.bound port bound) ∙ here
        ∙ sym (ap (λ t. cond t (owners_bound env.config.kind owner (now port)) (now other))
        (eq-eqb other port e))
    | inr ne ↦
        owners-stay env mix c M M' G G' whole made other
        (ap (λ f. f other) is ∙ put-other G.bound port bound other ne)
        ∙ sym (ap (λ t. cond t (owners_bound env.config.kind owner (now port)) (now other))
        (ne_eqb other port ne))
  ]

  -- ---- what comes before the store

  -- the node gets its link to the first one of the chain
  pub linking : (claimed : Claimed)
      → let here = at.Link claimed in
      IsBindAtIn env here → BindKnows here M G → BindStep here
  linking claimed is known =
      answered-map env mix None (inl refl) (still_has refl)
      (λ M' G' w k. record { knowing = k; fits = tt })
      (nodes.fill_step env mix c (holds_node None (Some claimed.bucket.place)) (at_home port owner claimed)
      (armed port owner claimed) words G all whole tt (own port owner claimed.attempt.node) ChainLink
      (head_of claimed.bucket.place claimed.bucket.word) known.knowing)

  module _ (small_port : IsPort port) (small : owner < 2 ^ 32) (low : c < env.geometry.callers) where
    -- the count is raised
    pub raising : (claimed : Claimed)
        → let here = at.Raise claimed in
        IsBindAtIn env here → BindKnows here M G → BindStep here
    raising claimed is known =
        answered-map env mix None (inl refl) (still_has refl)
        (λ M' G' w k. let table = k.means.table in record {
          knowing =
              plainly env mix k.only k.means.node
              (record { passing = table.passing; shape_is = tt; bucket = table.bucket; here = table.here })
              k.means.bucket;
          fits = refl;
        })
        (raise_step env mix c (holds_claimed claimed)
        (Some (chained port owner claimed.attempt.node claimed.bucket.place claimed.bucket.word))
        (at_home port owner claimed) (armed port owner claimed) words G all whole low known.knowing)

    -- ---- the store of the link

    -- what it needs
    publish_ready : (n table place word : ℕ)
        → Knowing env mix c (holds_publishing n place)
        (knows_of port owner (chained port owner n place word) (AtHome port table None place)
        (Armed place word port)) M G
        → IsReady env mix c n port (word_index env mix place) M G
    publish_ready n table place word k =
        let j = word_index env mix place in
        let is = k.means.bucket in
        let node = k.means.node in
        record {
          low = low;
          small = small_port;
          table = is.table;
          armed = is.armed;
          moves_none = idle_moves_none env mix M G whole c k.only;
          has = node.has;
          key = node.key;
          list = node.list;
          holder = is.lock.holder;
          chain =
              node.chain ∙ ap (λ p. head_of p word) (sym (place_at-index env mix place is.lock.bucket))
              ∙ ap (head_of (place_at env mix j)) (sym is.lock.plain);
          raised = k.only.raising;
        }

    -- nothing is held any more
    nothing_left : (n j place : ℕ) → place_at env mix j ≡ place
        → HasOnly env mix c G (Some n) (Some place) None true None [] false true
        → HasOnly env mix c (ghost_after env mix c (Links n port j) G) None None None false None [] false true
    nothing_left n j place is only = record {
      nodes =
          put-all (λ m o. o ≡ NodeHeld c → ◌≡◌ {A = Option ℕ} None (Some m)) G.node n (First j)
          (λ e. absurd (cc))
          (λ m ne holds. let q = only.nodes m holds in absurd (ne (cc)));
      locks =
          put-all (λ i b. b.holder ≡ Some c
          → (◌≡◌ {A = Option ℕ} None (Some (place_at env mix i)))
          ⊎ (◌≡◌ {A = Option ℕ} None (Some (place_at env mix i)))) G.bucket j (linked_bucket (G.bucket j) n)
          (λ e. absurd (cc))
          (λ i ne holds. elim (only.locks i holds) [
            | inl first ↦
                absurd (ne (let q : place ≡ place_at env mix i = cc in let r = is in omega (arith, q, r)))
            | inr second ↦ absurd (cc)
          ]);
      raising = put-same G.raised c false;
      slots = only.slots;
      pages_in = only.pages_in;
      works = only.works;
      reads = only.reads;
    }

    publish_at : (n table place word : ℕ) (kick : Bool)
        → BindKnows (at.Publish n table (relink_new env.geometry place word None (link_of n)) kick) M G
        → BindStep (at.Publish n table (relink_new env.geometry place word None (link_of n)) kick)
    publish_at n table place word kick known =
        let op = Store place (plain_of place (link_of n)) in
        let j = word_index env mix place in
        let M' = mem env mix (applied words op) in
        let ready = publish_ready n table place word known.knowing in
        let bucket = known.knowing.means.table.bucket in
        let is : place_at env mix j ≡ place = place_at-index env mix place bucket in
        let write : IsWrite env.geometry M M' (PageWord j) (link_of n) =
        subst (λ v. IsWrite env.geometry M M' (PageWord j) v) (plain_of-link place n)
        (is_write env.geometry words (PageWord j) op all (index-within env mix place bucket) (sym is)) in
        let made = link_head env mix c n port j M M' G whole ready write in
        let node = known.knowing.means.node in
        let owner_word : owner_of (M' (Node n OwnerWord)) ≡ owner =
        ap owner_of (write.others (Node n OwnerWord) node.has.among (λ e. cc) ∙ node.owner)
        ∙ mod-eq_of_lt {n = owner} {m = 2 ^ 32} small in
        let none : now port ≡ [] = ap (owners_in env mix M) ready.armed.unbound in
        let bindings = stored_bindings (n ∷ []) M' (ghost_after env mix c (Links n port j) G) made refl
        (ap (λ o. o ∷ []) owner_word ∙ sym (first_owner owner env.config.kind) ∙
        ap (owners_bound env.config.kind owner) (sym none)) in
        record {
          move = Links n port j;
          ready = ready;
          made = made;
          does = record { on = sym is; has = refl; lock = ap Some (sym is); raised = refl; holds = refl };
          says = inr (record {
            unknown = refl;
            answer = plain (Bound kick);
            known = refl;
            answered = ap (λ list. Some (plain (bind_reply env.config.kind list))) none ∙
                ap (λ reply. Some (plain reply)) (first_reply env.config.kind);
            bindings = bindings;
            port = port;
            differs = λ e.
                let q : ◌≡◌ {A = List ℕ} (owner_of (M' (Node n OwnerWord)) ∷ []) [] =
                sym (ap (owners_in env mix M') (put-same G.bound port (n ∷ []))) ∙ e ∙ none in
                cc;
          });
          early = λ answer known. absurd (cc);
          right = λ answer unknown known.
              subst (IsRight call (Some n))
              (let same : ◌≡◌ {A = Option answers.Answer} (Some (plain (Bound kick)))
              (Some answer) = known in
              cc)
              (binds.with_node env mix c port owner once words G n (Bound kick) tt refl (λ e. cc));
          in_time = record {
            taken = λ node none some. absurd (cc);
            gone = λ node some none told. absurd (cc);
          };
          outs =
              ap (λ o. o + 0)
              (reowned-outs env mix c n (First j) G (ap (is_taken_by c) ready.has.mine) refl);
          returning = λ n is. absurd (cc);
          knows = record {
            knowing = plainly env mix (nothing_left n j place is known.knowing.only) tt tt tt;
            fits = tt;
          };
        }

    pub publish_step : (n table : ℕ) (relink : RelinkModel) (kick : Bool)
        → BindKnows (at.Publish n table relink kick) M G
        → BindStep (at.Publish n table relink kick)
    publish_step n table relink kick known =
        subst (λ r. BindStep (at.Publish n table r kick)) (sym known.fits)
        (publish_at n table relink.place relink.word kick (record {
          knowing = record { only = known.knowing.only; means = known.knowing.means };
          fits = refl;
        }))
