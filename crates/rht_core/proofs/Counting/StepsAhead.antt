-- What an operation of a caller does to whether it has raised the count of ports, and to which ports are bound.
--
-- It makes the caller one that has raised it, and then it raised the count or took a port's last owner. Or it ends that, and then it lowered
-- the count or gave a port its first owner. Else it does none of the four. Each move of the ghost is of one of these three kinds. Where the
-- move itself doesn't say so, the count does: before and behind the operation it is the ports bound and the callers that have raised it.
use Rattle.std.proofs.Common.{◌≡◌, ◌≢◌, ◌⊎◌, ℕ, ◌^◌, ◌+◌, ◌<◌, ◌≤◌, Bool, true, false, List, [], ◌∷◌, length, map, refl, sym, ap, ◌∙◌, inl, inr, arith}
use Rattle.std.proofs.lemmas.Bool.{cases_eq}
use Rattle.rht_words.specs.declared.env.Env.{Env}
use Rattle.rht_words.specs.declared.op.Op.{Op}
use Rattle.rht_words.specs.declared.op.Op.TheVariants.{Add, Sub}
use Rattle.rht_words.specs.Members.{NotIn}
use Rattle.rht_words.specs.Operations.{op_place, old_of, word_after, applied}
use Rattle.rht_words.specs.Places.{PortCount, PageWord, place_of, nodes_at, words_in}
use Rattle.rht_words.proofs.EachElement.{AllByRecursion-weaker}
use Rattle.rht_words.proofs.Members.{count_below, count_below-same, count_below-more, count_below-most, not_in_from, AllByRecursion-In}
use Rattle.rht_words.proofs.Memory.{Memory, is_write}
use Rattle.rht_words.proofs.PlacesApart.{parts_in_order}
use Rattle.rht_words.proofs.WordChanges.{applied-other}
use Rattle.rht_model.specs.Multimap.{Multimap}
use Rattle.rht_stands.specs.StandsFor.{stands_for, AreBound, AreAllBound}
use Rattle.rht_ghost.proofs.Theory.Ghosts.{Ghost, is_first, put-same, put-other}
use Rattle.rht_ghost.proofs.Theory.Wholes.{firsts, raisers, Whole}
use Rattle.rht_ghost.proofs.Theory.Readiness.{Change, IsReady}
use Rattle.rht_ghost.proofs.Theory.Steps.{Move, Raises, Links, Lowers, Rebinds, Holding, ReadyFor, Does, ghost_after, mem}
use Rattle.rht_core.proofs.Meaning.BoundPorts.{stands_for_bound}
use Rattle.rht_core.proofs.Counting.CountedPorts.{firsts-AreAllBound}
use Rattle.rht_core.proofs.Reasons.TablesWalked.{nodes_behind}
use Rattle.rht_core.proofs.Reasons.UnboundSeen.{no_owner}

-- ---- how many ports are bound

-- whatever is bound here is bound there
abbrev AreIn : Multimap → Multimap → Type 0
AreIn here there = (port : ℕ) → there port ≡ [] → here port ≡ []

bound-in : (here there : Multimap) (count : ℕ) → AreIn here there → AreBound here count → AreBound there count
bound-in here there count among are = record {
  ports = are.ports;
  distinct = are.distinct;
  bound =
      AllByRecursion-weaker (λ port. here port ≢ []) (λ port. there port ≢ []) (λ port some none. some (among port none))
      are.ports are.bound;
  many = are.many;
}

-- so these are no more
fewer-bound : (here there : Multimap) (few many : ℕ) → AreIn here there → AreAllBound here few → AreAllBound there many → few ≤ many
fewer-bound here there few many among here_are there_are = there_are.most few (bound-in here there few among here_are.are)

-- and fewer where one is bound there alone
one_fewer : (here there : Multimap) (few many port : ℕ) → AreIn here there → here port ≡ [] → there port ≢ []
    → AreAllBound here few → AreAllBound there many → few + 1 ≤ many
unfolding bound-in
one_fewer here there few many port among none some here_are there_are =
    let are = here_are.are in
    let out : NotIn port are.ports =
    not_in_from port are.ports (λ i. AllByRecursion-In (λ p. here p ≢ []) port are.ports are.bound i none) in
    let in_there = bound-in here there few among are in
    let same = are.many in
    there_are.most (few + 1) (record {
      ports = port ∷ are.ports;
      distinct = (out, are.distinct);
      bound = (some, in_there.bound);
      many = omega (arith, same);
    })

-- ---- an operation

-- by what was bound before the operation and is bound behind it
module _ (env : Env) (op : Op) (was now : Multimap) where
  abbrev pub IsRaising : Type 0
  IsRaising = op ≡ Add (place_of env.geometry PortCount) 1

  abbrev pub IsSinking : Type 0
  IsSinking = op ≡ Sub (place_of env.geometry PortCount) 1

  -- a port has its first owner, or has had its last one
  abbrev pub HasFirst : Type 0
  HasFirst = (port : ℕ) × (was port ≡ []) × (now port ≢ [])

  abbrev pub HadLast : Type 0
  HadLast = (port : ℕ) × (was port ≢ []) × (now port ≡ [])

  -- the caller has raised the count by the operation, or not any more, or as before
  pub record GoesAhead (before after : Bool) : Type 0 where
    pub before_is : before ≡ false
    pub after_is : after ≡ true
    pub by : IsRaising ⊎ HadLast

  pub record FallsBack (before after : Bool) : Type 0 where
    pub after_is : after ≡ false
    pub by : IsSinking ⊎ HasFirst
    pub not : (IsRaising ⊎ HadLast) → ⊥

  pub record StaysSo (before after : Bool) : Type 0 where
    pub same : after ≡ before
    pub ahead : (IsRaising ⊎ HadLast) → ⊥
    pub back : (IsSinking ⊎ HasFirst) → ⊥

  abbrev pub Turns : Bool → Bool → Type 0
  Turns before after = GoesAhead before after ⊎ FallsBack before after ⊎ StaysSo before after

-- an empty list of owners is that of no nodes
map-none : (f : ℕ → ℕ) (nodes : List ℕ) → map f nodes ≡ [] → nodes ≡ []
map-none f [] is = refl
map-none f (n ∷ nodes) is = absurd (cc)

module _ (env : Env) (mix : ℕ → ℕ → ℕ → ℕ) where
  -- a port without an owner is bound to no node
  unbound : (words : List ℕ) (G : Ghost) → Whole env mix (mem env mix words) G → (port : ℕ)
      → stands_for env.geometry words port ≡ [] → G.bound port ≡ []
  unbound words G whole port none =
      map-none _ (G.bound port) (sym (stands_for_bound env mix words G whole port) ∙ none)

  module _ (c : ℕ) (words : List ℕ) (G G' : Ghost) (op : Op) (all : length words ≡ words_in env.geometry)
      (whole : Whole env mix (mem env mix words) G) (whole' : Whole env mix (mem env mix (applied words op)) G')
      (low : c < env.geometry.callers) where
    abbrev M : Memory
    M = mem env mix words

    abbrev M' : Memory
    M' = mem env mix (applied words op)

    abbrev was : Multimap
    was = stands_for env.geometry words

    abbrev now : Multimap
    now = stands_for env.geometry (applied words op)

    bound_now : AreAllBound now (firsts env mix G')
    bound_now = firsts-AreAllBound env mix (applied words op) G' whole'

    bound_was : AreAllBound was (firsts env mix G)
    bound_was = firsts-AreAllBound env mix words G whole

    -- what the ghosts have bound is what the words stand for
    none-stays : ((port : ℕ) → G.bound port ≡ [] → G'.bound port ≡ []) → AreIn now was
    none-stays stays port none = no_owner env mix (applied words op) G' whole' port (stays port (unbound words G whole port none))

    none-came : ((port : ℕ) → G'.bound port ≡ [] → G.bound port ≡ []) → AreIn was now
    none-came came port none = no_owner env mix words G whole port (came port (unbound (applied words op) G' whole' port none))

    -- where no port has its first owner, or has had its last one
    no-first : AreIn now was → HasFirst env op was now → ⊥
    no-first stays (port, none, some) = some (stays port none)

    no-last : AreIn was now → HadLast env op was now → ⊥
    no-last came (port, some, none) = some (came port none)

    -- the count has no great numbers
    few_count : M PortCount + 1 < 2 ^ 64
    few_count =
        let count = whole.counted in
        let few = count_below-most (λ n. is_first (G.node n)) env.geometry.nodes in
        let fewer = count_below-most G.raised env.geometry.callers in
        let within = env.geometry.within in
        omega (arith, count, few, fewer, within.nodes_within.1, within.callers_within.1)

    raised_word : IsRaising env op was now → M' PortCount ≡ M PortCount + 1
    raised_word is =
        let write = is_write env.geometry words PortCount op all tt (ap op_place is) in
        let word = write.same ∙ ap (word_after (M PortCount)) is in
        let few = few_count in
        omega (arith, word, few)

    -- where the count and the ports bound are as before, the operation is none on it
    not-raised : M' PortCount ≡ M PortCount → IsRaising env op was now → ⊥
    not-raised same is = let more = raised_word is in omega (arith, same, more)

    not-sunk : M' PortCount ≡ M PortCount → IsSinking env op was now → ⊥
    not-sunk same is =
        let write = is_write env.geometry words PortCount op all tt (ap op_place is) in
        let word = write.same ∙ ap (word_after (M PortCount)) is in
        let few = few_count in
        omega (arith, word, few, same)

    same_bound : AreIn now was → AreIn was now → firsts env mix G' ≡ firsts env mix G
    same_bound stays came =
        let more = fewer-bound now was _ _ stays bound_now bound_was in
        let less = fewer-bound was now _ _ came bound_was bound_now in
        omega (arith, more, less)

    -- ---- kinds of moves

    -- a move that binds nothing and raises nothing
    plain : G'.bound ≡ G.bound → G'.raised ≡ G.raised → StaysSo env op was now (G.raised c) (G'.raised c)
    plain bound raised =
        let stays = none-stays (λ port none. ap (λ b. b port) bound ∙ none) in
        let came = none-came (λ port none. sym (ap (λ b. b port) bound) ∙ none) in
        let firsts_same = same_bound stays came in
        let raisers_same : raisers env mix G' ≡ raisers env mix G =
        ap (λ has. count_below has env.geometry.callers) raised in
        let word = whole.counted in
        let word' = whole'.counted in
        let same : M' PortCount ≡ M PortCount = omega (arith, firsts_same, raisers_same, word, word') in
        record {
          same = ap (λ has. has c) raised;
          ahead = λ either. elim either [ inl is ↦ not-raised same is | inr last ↦ no-last came last ];
          back = λ either. elim either [ inl is ↦ not-sunk same is | inr first ↦ no-first stays first ];
        }

    -- an operation on another word than the count
    off_count : place_of env.geometry PortCount ≢ op_place op → M' PortCount ≡ M PortCount
    off_count apart = applied-other words op (place_of env.geometry PortCount) apart

    -- whoever else has raised the count has as before
    module _ (others : (d : ℕ) → d ≢ c → G'.raised d ≡ G.raised d) where
      raised_more : G.raised c ≡ false → G'.raised c ≡ true → raisers env mix G' ≡ raisers env mix G + 1
      raised_more before after = count_below-more G.raised G'.raised c env.geometry.callers low before after others

      raised_less : G.raised c ≡ true → G'.raised c ≡ false → raisers env mix G ≡ raisers env mix G' + 1
      raised_less before after =
          count_below-more G'.raised G.raised c env.geometry.callers low after before (λ d ne. sym (others d ne))

      raised_same : G'.raised c ≡ G.raised c → raisers env mix G' ≡ raisers env mix G
      raised_same same = count_below-same G.raised G'.raised env.geometry.callers (λ d l. elim (cases_eq d c) [
        | inl e ↦ ap G'.raised e ∙ same ∙ ap G.raised (sym e)
        | inr ne ↦ others d ne
      ])

      -- a store that changes what a port is bound to, and leaves it bound
      relinked : place_of env.geometry PortCount ≢ op_place op → AreIn now was → AreIn was now
          → StaysSo env op was now (G.raised c) (G'.raised c)
      relinked apart stays came =
          let same = off_count apart in
          let firsts_same = same_bound stays came in
          let word = whole.counted in
          let word' = whole'.counted in
          let raisers_same : raisers env mix G' ≡ raisers env mix G = omega (arith, same, firsts_same, word, word') in
          record {
            same = go (G.raised c) (G'.raised c) refl refl raisers_same;
            ahead = λ either. elim either [ inl is ↦ not-raised same is | inr last ↦ no-last came last ];
            back = λ either. elim either [ inl is ↦ not-sunk same is | inr first ↦ no-first stays first ];
          }
        where
          go : (before after : Bool) → G.raised c ≡ before → G'.raised c ≡ after → raisers env mix G' ≡ raisers env mix G
              → after ≡ before
          go true true b a same = refl
          go false false b a same = refl
          go false true b a same = let more = raised_more b a in absurd (omega (arith, same, more))
          go true false b a same = let less = raised_less b a in absurd (omega (arith, same, less))

      -- and one that unbinds a port
      unlinked : place_of env.geometry PortCount ≢ op_place op → AreIn now was
          → (port : ℕ) → was port ≢ [] → now port ≡ []
          → GoesAhead env op was now (G.raised c) (G'.raised c)
      unlinked apart stays port some none =
          let same = off_count apart in
          let fewer = one_fewer now was (firsts env mix G') (firsts env mix G) port stays none some bound_now bound_was in
          let word = whole.counted in
          let word' = whole'.counted in
          let more : raisers env mix G < raisers env mix G' = omega (arith, same, fewer, word, word') in
          let raises = go (G.raised c) (G'.raised c) refl refl more in
          record { before_is = raises.0; after_is = raises.1; by = inr (port, some, none) }
        where
          go : (before after : Bool) → G.raised c ≡ before → G'.raised c ≡ after → raisers env mix G < raisers env mix G'
              → (before ≡ false) × (after ≡ true)
          go false true b a more = (refl, refl)
          go true true b a more = let same = raised_same (a ∙ sym b) in absurd (omega (arith, same, more))
          go false false b a more = let same = raised_same (a ∙ sym b) in absurd (omega (arith, same, more))
          go true false b a more = let less = raised_less b a in absurd (omega (arith, less, more))

  -- ---- each move

  module _ (c : ℕ) (words : List ℕ) (G : Ghost) (op : Op) (h h' : Holding) (all : length words ≡ words_in env.geometry)
      (whole : Whole env mix (mem env mix words) G) (low : c < env.geometry.callers) (holds : G.raised c ≡ h.raised) where
    abbrev before : Multimap
    before = stands_for env.geometry words

    abbrev after : Multimap
    after = stands_for env.geometry (applied words op)

    abbrev Turned : Move → Type 0
    Turned move = Turns env op before after (G.raised c) ((ghost_after env mix c move G).raised c)

    -- the word of a node or of a bucket isn't the count
    off_nodes : nodes_at env.geometry ≤ op_place op → place_of env.geometry PortCount ≢ op_place op
    off_nodes behind same = let far = nodes_behind env.geometry in omega (arith, behind, same, far)

    module _ (change : Change)
        (whole' : Whole env mix (mem env mix (applied words op)) (ghost_after env mix c (Rebinds change) G))
        (behind : nodes_at env.geometry ≤ op_place op) where
      abbrev G' : Ghost
      G' = ghost_after env mix c (Rebinds change) G

      others : (d : ℕ) → d ≢ c → G'.raised d ≡ G.raised d
      others d ne = put-other G.raised c change.raised d ne

      -- a port that was bound to some node and is bound to some still
      kept : (first other : ℕ) (behind_it rest : List ℕ) → G.bound change.port ≡ first ∷ behind_it → change.nodes ≡ other ∷ rest
          → Turned (Rebinds change)
      kept first other behind_it rest was_so now_so =
          inr (inr (relinked c words G G' op all whole whole' low others (off_nodes behind)
          (none-stays c words G G' op all whole whole' low (λ port none. elim (cases_eq port change.port) [
            | inl e ↦ absurd (let both : ◌≡◌ {A = List ℕ} [] (first ∷ behind_it) = sym none ∙ ap G.bound e ∙ was_so in cc)
            | inr ne ↦ put-other G.bound change.port change.nodes port ne ∙ none
          ]))
          (none-came c words G G' op all whole whole' low (λ port none. elim (cases_eq port change.port) [
            | inl e ↦ absurd (let both : ◌≡◌ {A = List ℕ} [] (other ∷ rest) =
                sym none ∙ ap G'.bound e ∙ put-same G.bound change.port change.nodes ∙ now_so in cc)
            | inr ne ↦ sym (put-other G.bound change.port change.nodes port ne) ∙ none
          ]))))

      rebound : ReadyFor env mix c (mem env mix words) G (Rebinds change) → Turned (Rebinds change)
      rebound (inl is) =
          let now_none = put-same G.bound change.port change.nodes ∙ is.none in
          inr_ahead (unlinked c words G G' op all whole whole' low others (off_nodes behind)
          (none-stays c words G G' op all whole whole' low (λ port none. elim (cases_eq port change.port) [
            | inl e ↦ ap G'.bound e ∙ now_none
            | inr ne ↦ put-other G.bound change.port change.nodes port ne ∙ none
          ])) change.port
          (λ none. let both : ◌≡◌ {A = List ℕ} [] (is.first ∷ []) = sym (unbound words G whole change.port none) ∙ is.bound_to in cc)
          (no_owner env mix (applied words op) G' whole' change.port now_none))
        where
          inr_ahead : GoesAhead env op before after (G.raised c) (G'.raised c) → Turned (Rebinds change)
          inr_ahead goes = inl goes
      rebound (inr (inl is)) = kept change.one change.other is.behind is.tail is.bound_to is.now
      rebound (inr (inr (inl is))) = kept is.first is.first is.behind is.rest is.bound_to is.now
      rebound (inr (inr (inr is))) = kept is.first is.first is.behind is.rest is.bound_to is.now

    -- a node is linked
    linked_turns : (n port j : ℕ) → IsReady env mix c n port j (mem env mix words) G
        → Whole env mix (mem env mix (applied words op)) (ghost_after env mix c (Links n port j) G)
        → op_place op ≡ place_of env.geometry (PageWord j) → Turned (Links n port j)
    linked_turns n port j ready whole' on =
        let G' = ghost_after env mix c (Links n port j) G in
        let order = parts_in_order env.geometry in
        let far = nodes_behind env.geometry in
        let behind : nodes_at env.geometry ≤ op_place op = omega (arith, on, order.nodes, order.pages) in
        inr (inl (record {
          after_is = put-same G.raised c false;
          by = inr (
            port,
            no_owner env mix words G whole port ready.armed.unbound,
            λ none.
                let now_none = unbound (applied words op) G' whole' port none in
                let both : ◌≡◌ {A = List ℕ} [] (n ∷ []) = sym now_none ∙ put-same G.bound port (n ∷ []) in cc,
          );
          not = λ either. elim either [
            | inl is ↦ off_nodes behind (sym (ap op_place is))
            | inr last ↦ no-last c words G G' op all whole whole' low
                (none-came c words G G' op all whole whole' low (λ p none. elim (cases_eq p port) [
                  | inl e ↦ ap G.bound e ∙ ready.armed.unbound
                  | inr ne ↦ sym (put-other G.bound port (n ∷ []) p ne) ∙ none
                ])) last
          ];
        }))

    pub turned : (move : Move) → ReadyFor env mix c (mem env mix words) G move
        → Whole env mix (mem env mix (applied words op)) (ghost_after env mix c move G)
        → Does env mix move op (old_of words op) h h' → Turned move
    turned Raises ready whole' does =
        inl (record { before_is = holds ∙ does.low; after_is = put-same G.raised c true; by = inl does.adds })
    turned Lowers ready whole' does =
        inr (inl (record {
          after_is = put-same G.raised c false;
          by = inl does.subtracts;
          not = λ either. elim either [
            | inl is ↦ (let both = sym is ∙ does.subtracts in cc)
            | inr last ↦ no-last c words G (ghost_after env mix c Lowers G) op all whole whole' low
                (none-came c words G (ghost_after env mix c Lowers G) op all whole whole' low (λ port none. none)) last
          ];
        }))
    turned (Links n port j) ready whole' does = linked_turns n port j ready whole' does.on
    turned (Rebinds change) ready whole' does = rebound change whole' does.behind_maps ready
    turned move ready whole' does =
        inr (inr (plain c words G (ghost_after env mix c move G) op all whole whole' low refl refl))
