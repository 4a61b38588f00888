-- A tidying holds nothing, and has nodes that its caller's calls took out: each of its loads leaves them to it, and one that it gives back
-- it has no more.
use Rattle.std.proofs.Common.{◌≡◌, ℕ, suc, ◌+◌, ◌/◌, ◌%◌, ◌<◌, ◌≤◌, ◌++◌, false, ◌∷◌, List, length, drop, get_or, Option, Some, None, refl, sym, ap, ◌∙◌, subst, inl, inr, arith, drop-cons, length-append}
use Rattle.std.specs.Prelude.{◌==◌, nat_lt, if◌then◌else◌}
use Rattle.std.proofs.Math.ListN.{drop_of_length-le}
use Rattle.std.proofs.lemmas.Bool.{eq-eqb}
use Rattle.rht_words.specs.declared.env.Env.{Env}
use Rattle.rht_words.specs.declared.op.Op.{Op}
use Rattle.rht_words.specs.declared.op.Op.TheVariants.{Or}
use Rattle.rht_words.specs.declared.machine.Next.TheVariants.{Go, Done}
use Rattle.rht_words.specs.Held as held
use Rattle.rht_words.specs.Maps.{bit_of}
use Rattle.rht_words.specs.Members.{In, IsDistinct}
use Rattle.rht_words.specs.Operations.{old_of, word_after, applied}
use Rattle.rht_words.specs.Places.{NodeMap, place_of, words_in}
use Rattle.rht_words.proofs.Memory.{Memory, is_write}
use Rattle.rht_words.proofs.Members.{in-middle, in_and_not, NotIn-append, IsDistinct-cut, IsDistinct-without, In-append_cases, In-append_left, In-append_right, count_below-same, count_below-more}
use Rattle.rht_model.specs.declared.history.Call.TheVariants.{Tidy}
use Rattle.rht_model.specs.declared.history.Reply.{Reply}
use Rattle.rht_model.specs.declared.history.Reply.TheVariants.{Clear, Pending}
use Rattle.rht_model.specs.Answers.{plain}
use Rattle.rht_model.specs.Replies.{IsTidyReply, takes_out}
use Rattle.rht_grace.specs.Batch.{BatchModel, with_word, cleared}
use Rattle.rht_grace.specs.Tidy.{load_of, plan_at, after_at, giving, asking}
use Rattle.rht_grace.specs.declared.tidy.TidyAt.{TidyAt}
use Rattle.rht_grace.specs.declared.tidy.TidyAt.TheVariants as at
use Rattle.rht_callers.specs.Batches.{nodes_left}
use Rattle.rht_core.specs.Tidyings.{IsTidyingIn}
use Rattle.rht_core.proofs.Machines.TidyRanges.{Came, giving-so, asking-so, waiting_low}
use Rattle.rht_ghost.proofs.Theory.Ghosts.{put, put-same, put-other, put-all, Free, NodeHeld, Taken, Ghost, is_taken_by, taken_is, with_owner}
use Rattle.rht_ghost.proofs.Theory.Wholes.{outs, Whole}
use Rattle.rht_ghost.proofs.Theory.Knowns.{known_nothing}
use Rattle.rht_ghost.proofs.Theory.Knowledge.{Knowing, Only}
use Rattle.rht_ghost.proofs.Theory.Reliance.{Rely}
use Rattle.rht_ghost.proofs.Theory.Answering.{Tells, IsRight, none_early, told-says, told-right, told-outs}
use Rattle.rht_ghost.proofs.Theory.Steps.{Holding, bare, by_test, Step, mem, owners, owners-stay, still_has, reads, ReturnsNode}
use Rattle.rht_ghost.proofs.Moves.TakenNodes.{return_node}

-- These nodes, and as many, were taken out by the caller's calls, and none stands there twice.
pub record OwnsNodes (env : Env) (mix : ℕ → ℕ → ℕ → ℕ) (c : ℕ) (nodes : List ℕ) (G : Ghost) : Type 0 where
  pub out : (n : ℕ) → In n nodes → G.node n ≡ Taken c
  pub distinct : IsDistinct nodes
  pub many : outs env mix G c ≡ length nodes

-- what a tidying ends with is an answer of its kind, which takes no node out
tidy_right : (reply : Reply) → IsTidyReply reply → IsRight Tidy None (plain reply)
tidy_right (Clear count) is = record { replied = record { reply = tt; owners = refl }; tells = refl }
tidy_right (Pending caller section) is = record { replied = record { reply = tt; owners = refl }; tells = refl }
tidy_right _ is = absurd is

tells : (env : Env) (c : ℕ) (bindings : ℕ → List ℕ) (reply : Reply) → IsTidyReply reply
    → Tells env.config.kind c Tidy None bindings None (Some (plain reply))
tells env c bindings reply is = inr (record {
  learns = record { unknown = refl; answer = plain reply; known = refl; said = inr refl };
  right = tidy_right reply is;
  takes_none = none reply is;
})
  where
    none : (reply : Reply) → IsTidyReply reply → takes_out reply ≡ false
    none (Clear count) is = refl
    none (Pending caller section) is = refl
    none _ is = absurd is

module _ (env : Env) (mix : ℕ → ℕ → ℕ → ℕ) (c : ℕ) where
  -- the nodes of a caller stay its while others make operations
  pub OwnsNodes-rely : (nodes : List ℕ) (M M' : Memory) (G G' : Ghost) → Rely env mix c M G M' G' → OwnsNodes env mix c nodes G
      → OwnsNodes env mix c nodes G'
  OwnsNodes-rely nodes M M' G G' rely owns = record {
    out = λ n there. taken_is c (G'.node n) (rely.taken n ∙ ap (is_taken_by c) (owns.out n there) ∙ eq-eqb c c refl);
    distinct = owns.distinct;
    many =
        count_below-same (λ n. is_taken_by c (G.node n)) (λ n. is_taken_by c (G'.node n)) env.geometry.nodes (λ n l. rely.taken n)
        ∙ owns.many;
  }

  -- it has one that it gives back no more
  gives_one : (front : List ℕ) (n : ℕ) (rest : List ℕ) (G : Ghost) → n < env.geometry.nodes → OwnsNodes env mix c (front ++ n ∷ rest) G
      → OwnsNodes env mix c (front ++ rest) (with_owner G n Free)
  gives_one front n rest G low owns =
      let cut = IsDistinct-cut front n rest owns.distinct in
      let apart = NotIn-append n front rest cut.0 cut.1 in
      let more = fewer in
      let longer = length-append front (n ∷ rest) in
      let shorter = length-append front rest in
      let many = owns.many in
      record {
        out = λ m there.
            put-other G.node n Free m (λ same. in_and_not n (front ++ rest) (subst (λ k. In k (front ++ rest)) same there) apart)
            ∙ owns.out m (elim (In-append_cases m front rest there) [
              | inl left ↦ In-append_left m front (n ∷ rest) left
              | inr right ↦ In-append_right m front (n ∷ rest) (inr right)
            ]);
        distinct = IsDistinct-without front n rest owns.distinct;
        many = omega (arith, more, longer, shorter, many);
      }
    where
      fewer : outs env mix G c ≡ outs env mix (with_owner G n Free) c + 1
      fewer =
          count_below-more (λ m. is_taken_by c (put G.node n Free m)) (λ m. is_taken_by c (G.node m)) n env.geometry.nodes low
          (ap (is_taken_by c) (put-same G.node n Free))
          (ap (is_taken_by c) (owns.out n (in-middle n front rest)) ∙ eq-eqb c c refl)
          (λ m ne. ap (is_taken_by c) (sym (put-other G.node n Free m ne)))

  abbrev none_held : Holding
  none_held = held.holds_nothing

  abbrev held_with : Reply → Holding
  held_with reply = held.ended_with (plain reply)

  -- what it knows in a state, and what its caller knows once it has ended
  abbrev pub KnowsNone : Memory → Ghost → Type 0
  KnowsNone M G = Knowing env mix c none_held known_nothing M G

  pub record TidyKnows (batch : BatchModel) (state : TidyAt) (M : Memory) (G : Ghost) : Type 0 where
    pub knowing : KnowsNone M G
    pub owns : OwnsNodes env mix c (nodes_left batch state) G

  pub record TidyLeft (batch : BatchModel) (reply : Reply) (M : Memory) (G : Ghost) : Type 0 where
    pub knowing : Knowing env mix c (held_with reply) known_nothing M G
    pub owns : OwnsNodes env mix c (batch.fresh ++ batch.waiting) G

  abbrev pub TidyNext : Came → Memory → Ghost → Type 0
  TidyNext (batch, state, Go) M G = TidyKnows batch state M G
  TidyNext (batch, state, Done reply) M G = TidyLeft batch reply M G

  abbrev pub tidy_holds : Came → Holding
  tidy_holds (batch, state, Go) = none_held
  tidy_holds (batch, state, Done reply) = held_with reply

  -- an operation of a tidying, behind which this comes
  abbrev pub TidyMoved : List ℕ → Ghost → Op → Came → Type 0
  TidyMoved words G op came = Step env mix c Tidy words G op none_held (tidy_holds came) (TidyNext came)

  -- ---- the ways on

  module _ (Moved : Came → Type 0) (G : Ghost)
      (goes : (batch : BatchModel) (state : TidyAt) → OwnsNodes env mix c (nodes_left batch state) G → Moved (batch, state, Go))
      (ends : (batch : BatchModel) (state : TidyAt) (reply : Reply) → IsTidyReply reply
      → OwnsNodes env mix c (batch.fresh ++ batch.waiting) G
      → Moved (batch, state, Done reply))
    where
      clears : (batch : BatchModel) (index : ℕ) → length batch.waiting ≤ index → OwnsNodes env mix c (batch.fresh ++ drop index batch.waiting) G
          → Moved (cleared batch, at.Keeping 0, Done (Clear (length batch.waiting)))
      clears batch index past owns =
          ends (cleared batch) (at.Keeping 0) (Clear (length batch.waiting)) tt
          (subst (λ rest. OwnsNodes env mix c (batch.fresh ++ rest) G) (drop_of_length-le batch.waiting past) owns)

      giving_moves : (batch : BatchModel) (index : ℕ) → OwnsNodes env mix c (batch.fresh ++ drop index batch.waiting) G → Moved (giving batch index)
      giving_moves batch index owns =
          giving-so Moved batch index (λ low. goes batch (at.Giving index) owns) (λ past. clears batch index past owns)

      asking_moves : (batch : BatchModel) (from : ℕ) → OwnsNodes env mix c (batch.fresh ++ batch.waiting) G → Moved (asking batch from)
      asking_moves batch from owns =
          asking-so Moved batch from (λ caller there odd. goes batch (at.Asking caller) owns) (λ low. goes batch (at.Giving 0) owns)
          (λ none. clears batch 0 none owns)

  module _ (words : List ℕ) (G : Ghost) (all : length words ≡ words_in env.geometry) (whole : Whole env mix (mem env mix words) G)
      (batch : BatchModel) where
    abbrev M : Memory
    M = mem env mix words

    -- ---- a load

    module _ (op : Op) (same : word_after (old_of words op) op ≡ old_of words op) (knowing : KnowsNone M G) where
      load_goes : (next : BatchModel) (state : TidyAt) → OwnsNodes env mix c (nodes_left next state) G → TidyMoved words G op (next, state, Go)
      load_goes next state owns = reads env mix whole same refl (inl refl) (record { knowing = knowing; owns = owns })

      load_ends : (next : BatchModel) (state : TidyAt) (reply : Reply) → IsTidyReply reply
          → OwnsNodes env mix c (next.fresh ++ next.waiting) G → TidyMoved words G op (next, state, Done reply)
      load_ends next state reply is owns =
          reads env mix whole same refl (tells env c (owners env mix M G) reply is)
          (record { knowing = record { only = knowing.only; means = knowing.means }; owns = owns })

    -- ---- a node is given back

    module _ (n : ℕ) (front rest : List ℕ) (low : n < env.geometry.nodes) (owns : OwnsNodes env mix c (front ++ n ∷ rest) G)
        (knowing : KnowsNone M G) where
      abbrev op : Op
      op = Or (place_of env.geometry (NodeMap (n / 64))) (bit_of (n % 64))

      abbrev M' : Memory
      M' = mem env mix (applied words op)

      abbrev G' : Ghost
      G' = with_owner G n Free

      mine : G.node n ≡ Taken c
      mine = owns.out n (in-middle n front rest)

      owns_then : OwnsNodes env mix c (front ++ rest) G'
      owns_then = gives_one front n rest G low owns

      give_step : (after : Holding) (Knows : Memory → Ghost → Type 0) → bare after ≡ none_held → after.early ≡ None
          → Tells env.config.kind c Tidy None (owners env mix M' G') None after.answer → Knows M' G'
          → Step env mix c Tidy words G op none_held after Knows
      give_step after Knows same none told knows =
          let kind = env.config.kind in
          let bindings = owners env mix M' G' in
          let made = return_node env mix c n M M' G whole low mine (is_write env.geometry words (NodeMap (n / 64)) op all (omega (arith, low)) refl) in
          record {
            move = ReturnsNode n;
            ready = mine;
            made = made;
            does = record { among = low; giving = refl; holds = same };
            says = inl (record {
              agree = λ port. owners-stay env mix c M M' G G' whole made port refl;
              said = told-says kind c Tidy None None ⊥ bindings None after.answer (inl told);
            });
            early = none_early kind c Tidy ⊥ ⊥ bindings None after.early none;
            right = told-right kind c Tidy None None ⊥ bindings None after.answer (inl told);
            in_time = still_has (ap (λ (h : Holding). h.node) same);
            outs =
                let fewer = owns_then.many in
                let many = owns.many in
                let longer = length-append front (n ∷ rest) in
                let shorter = length-append front rest in
                let taken = told-outs kind c Tidy None None ⊥ bindings None after.answer (inl told) in
                omega (arith, fewer, many, longer, shorter, taken);
            returning = λ m is. refl;
            knows = knows;
          }

      knowing_then : {h : Holding} → bare h ≡ none_held → Knowing env mix c h known_nothing M' G'
      knowing_then {h} same = record {
        only = subst (λ (x : Holding). Only env mix c G' x) (sym same) (record {
          nodes = put-all (λ m o. o ≡ NodeHeld c → ◌≡◌ {A = Option ℕ} None (Some m)) G.node n Free (λ e. absurd (cc))
              (λ m ne is. knowing.only.nodes m is);
          locks = knowing.only.locks;
          raising = knowing.only.raising;
          slots = knowing.only.slots;
          pages_in = knowing.only.pages_in;
          works = knowing.only.works;
          reads = knowing.only.reads;
        });
        means = record { node = tt; table = tt; bucket = tt; making = tt; work = tt };
      }

      give_goes : (next : BatchModel) (state : TidyAt) → OwnsNodes env mix c (nodes_left next state) G' → TidyMoved words G op (next, state, Go)
      give_goes next state left =
          give_step none_held (TidyKnows next state) refl refl (inl refl) (record { knowing = knowing_then refl; owns = left })

      give_ends : (next : BatchModel) (state : TidyAt) (reply : Reply) → IsTidyReply reply
          → OwnsNodes env mix c (next.fresh ++ next.waiting) G' → TidyMoved words G op (next, state, Done reply)
      give_ends next state reply is left =
          give_step (held_with reply) (TidyLeft next reply) refl refl (tells env c (owners env mix M' G') reply is)
          (record { knowing = knowing_then refl; owns = left })

    -- ---- state by state

    pub tidy_step : (state : TidyAt) → IsTidyingIn env.geometry batch state → KnowsNone M G
        → OwnsNodes env mix c (nodes_left batch state) G
        → let op = plan_at env.geometry batch state in
        TidyMoved words G op (after_at env.geometry batch state (old_of words op))
    tidy_step (at.Keeping caller) within knowing owns =
        let op = load_of caller in
        let word = old_of words op in
        let next = with_word batch caller word in
        by_test (λ t. TidyMoved words G op (if t then (next, at.Keeping (caller + 1), Go) else asking next 0))
        (nat_lt (caller + 1) env.geometry.callers)
        (λ low. load_goes op refl knowing next (at.Keeping (caller + 1)) owns)
        (λ past. asking_moves (TidyMoved words G op) G (load_goes op refl knowing) (load_ends op refl knowing) next 0 owns)
    tidy_step (at.Asking caller) within knowing owns =
        let op = load_of caller in
        let word = old_of words op in
        let next = with_word batch caller 0 in
        by_test (λ t. TidyMoved words G op (if t then (batch, at.Asking caller, Done (Pending caller word)) else asking next (caller + 1)))
        (word == get_or batch.kept caller 0)
        (λ kept. load_ends op refl knowing batch (at.Asking caller) (Pending caller word) tt owns)
        (λ other. asking_moves (TidyMoved words G op) G (load_goes op refl knowing) (load_ends op refl knowing) next (caller + 1) owns)
    tidy_step (at.Giving index) within knowing owns =
        let n = get_or batch.waiting index 0 in
        let op = plan_at env.geometry batch (at.Giving index) in
        let low = waiting_low env.geometry batch (at.Giving index) index within in
        let rest = drop (index + 1) batch.waiting in
        let split : drop index batch.waiting ≡ n ∷ rest =
        drop-cons batch.waiting index 0 within.at_in
        ∙ ap (λ i. n ∷ drop i batch.waiting) (let next : suc index ≡ index + 1 = omega arith in next) in
        let has = subst (λ nodes. OwnsNodes env mix c (batch.fresh ++ nodes) G) split owns in
        giving_moves (TidyMoved words G op) (with_owner G n Free) (give_goes n batch.fresh rest low has knowing)
        (give_ends n batch.fresh rest low has knowing) batch (index + 1) (owns_then n batch.fresh rest low has knowing)
