-- When a bind is calm: it hasn't found the last table full, and gives no reply that refuses it but for want of a node.
--
-- By induction over its operations it stays so where the tables to which it comes are good enough for the ports that are bound: where no count
-- that it loads is above the size of the table in which it is, or as many as the table may hold. In its chains no 16 nodes are counted,
-- since as many ports would be bound. And it comes to no table that is nested, so its buckets are there. What makes a table good, and to
-- which ones it comes, is another matter.
use Rattle.std.proofs.Common.{◌≡◌, ℕ, ◌+◌, ◌<◌, ◌≤◌, Bool, true, false, cond, min, nat_le, List, [], ◌∷◌, length, refl, subst, inl, inr, arith}
use Rattle.std.specs.Prelude.{Option, Some, None, IfSome}
use Rattle.std.proofs.lemmas.Bool.{cases_eq, leb-true, both_ways}
use Rattle.rht_words.specs.declared.env.Env.{Env}
use Rattle.rht_words.specs.declared.config.Kind.{Kind}
use Rattle.rht_words.specs.declared.config.Kind.TheVariants.{Single, Listed}
use Rattle.rht_words.specs.declared.machine.Next.{Next}
use Rattle.rht_words.specs.declared.machine.Next.TheVariants.{Go, Done}
use Rattle.rht_words.specs.Links.{slot_of, table_of}
use Rattle.rht_words.specs.Machines.{GoesOrEnds}
use Rattle.rht_words.specs.Shapes.{unpacked, size_of}
use Rattle.rht_policy.specs.Thresholds.{is_above_100, is_above_max}
use Rattle.rht_model.specs.Answers.{is_refusal}
use Rattle.rht_model.specs.declared.history.Reply.{Reply}
use Rattle.rht_model.specs.declared.history.Reply.TheVariants.{NoNode}
use Rattle.rht_arena.specs.NewNode.{NewNodeModel, new_node_after}
use Rattle.rht_nest.specs.Tables.{is_nested}
use Rattle.rht_nest.specs.Place.{flat_place, nested_place}
use Rattle.rht_policy.specs.Mix.{bucket_of}
use Rattle.rht_nest.specs.Locate.{LocateModel, locate_after_at, located_at}
use Rattle.rht_nest.specs.declared.locate.LocateAt.{LocateAt}
use Rattle.rht_nest.specs.declared.locate.LocateAt.TheVariants as locates
use Rattle.rht_nest.specs.declared.locate.Located.{Located}
use Rattle.rht_chain.specs.Probe.{ProbeModel, probe_after}
use Rattle.rht_chain.specs.Relink.{RelinkModel, relink_after}
use Rattle.rht_chain.specs.declared.probe.Probed.{Probed}
use Rattle.rht_chain.specs.declared.locked.Then.{Then}
use Rattle.rht_chain.specs.declared.locked.Then.TheVariants.{Table, Answer}
use Rattle.rht_bind.specs.Bind.{after_at, filled, located, bound_already, found_or_future, probed, replaced, future_or_count, published, unlocked}
use Rattle.rht_bind.specs.Growing.{unlocking_full}
use Rattle.rht_bind.specs.declared.bind.Attempt.{Attempt}
use Rattle.rht_bind.specs.declared.bind.Claimed.{Claimed}
use Rattle.rht_bind.specs.declared.bind.FoundList.{FoundList}
use Rattle.rht_bind.specs.declared.bind.growth.Full.TheVariants as full
use Rattle.rht_bind.specs.declared.bind.ending.Ending.{Ending}
use Rattle.rht_bind.specs.declared.bind.ending.Ending.TheVariants as endings
use Rattle.rht_bind.specs.Endings.{closed}
use Rattle.rht_bind.specs.BindHeld.{answer_of_ending}
use Rattle.rht_bind.specs.declared.bind.BindAt.{BindAt}
use Rattle.rht_bind.specs.declared.bind.BindAt.TheVariants as at
use Rattle.rht_core.specs.Jobs.{binds}
use Rattle.rht_core.specs.ResizeCauses.{AreCounted}
use Rattle.rht_stands.specs.StandsFor.{stands_for, AreBound}
use Rattle.rht_core.specs.Traces.{Did}
use Rattle.rht_ghost.proofs.Theory.Steps.{by_test}
use Rattle.rht_core.proofs.Tracing.TracedJobs.{Performs}
use Rattle.rht_core.proofs.Reasons.BindsSeen.{SawAt}
use Rattle.rht_core.proofs.Counting.SparedSlots.{SparesSlots, by_load, at_node, at_section, new_node-spares, give_node-spares, locate-spares, probe-spares, relink-spares, unlock-spares}
use Rattle.rht_words.specs.Places.{ChainLink, ListLink}
use Rattle.rht_bind.specs.Bind.{plan_at, IsBindAtIn}

module _ (env : Env) (Good Come : ℕ → Type 0) where
  -- the reply is no refusal but for want of a node
  abbrev pub CalmReply : Reply → Type 0
  CalmReply reply = is_refusal reply ≡ true → reply ≡ NoNode

  -- behind an unlocking it goes on in a table to which it comes, or has such a reply
  abbrev CalmThen : Then Reply → Type 0
  CalmThen (Table table) = Come table
  CalmThen (Answer reply) = CalmReply reply

  -- it looks for a bucket, in a table whose shape is good once it is known; no way leads over entries
  abbrev CalmLocate : LocateAt → Type 0
  CalmLocate locates.Shape = Unit {0}
  CalmLocate (locates.Seed shape) = Good shape
  CalmLocate (locates.Early shape place) = ⊥
  CalmLocate (locates.Entry shape early place) = ⊥

  abbrev pub CalmBind : BindAt → Type 0
  CalmBind (at.Filling new) = Unit {0}
  CalmBind (at.Opening attempt) = Unit {0}
  CalmBind (at.CurrentTable attempt) = Unit {0}
  CalmBind (at.Locating attempt locate) = Come locate.table × CalmLocate locate.at
  CalmBind (at.Entering attempt table shape place grow) = ⊥
  CalmBind (at.Probing attempt table shape probe) = Good shape
  CalmBind (at.FoundOwner claimed found) = Unit {0}
  CalmBind (at.ListLink list) = Unit {0}
  CalmBind (at.ChainLink list) = Unit {0}
  CalmBind (at.LinkBehind list link) = Unit {0}
  CalmBind (at.Replacing list relink) = Unit {0}
  CalmBind (at.Future claimed length) = Good claimed.shape
  CalmBind (at.Count claimed) = Good claimed.shape
  CalmBind (at.Link claimed) = Unit {0}
  CalmBind (at.Raise claimed) = Unit {0}
  CalmBind (at.Publish node table relink kick) = Unit {0}
  CalmBind (at.Unlocking attempt table unlock next) = CalmThen next
  CalmBind (at.UnlockingFull growing unlock) = ⊥
  CalmBind (at.Root growing) = ⊥
  CalmBind (at.GrowthCount growing root) = ⊥
  CalmBind (at.Making growing size make) = ⊥
  CalmBind (at.FutureAgain growing refusal) = ⊥
  CalmBind (at.Attaching growing slot shape) = ⊥
  CalmBind (at.Unmaking attempt unmake answer) = ⊥
  CalmBind (at.Closing ending) = IfSome (answer_of_ending ending) CalmReply
  CalmBind (at.Giving give reply) = CalmReply reply

  abbrev pub CalmNext : BindAt × Next Reply → Type 0
  CalmNext next = GoesOrEnds CalmBind CalmReply next

  -- what the word has to say that a calm bind finds
  pub record IsCalmAt (state : BindAt) (old : ℕ) : Type 0 where
    pub current : (attempt : Attempt) → state ≡ at.CurrentTable attempt → Come (table_of old)
    pub shape : (attempt : Attempt) (locate : LocateModel) → state ≡ at.Locating attempt locate → locate.at ≡ locates.Shape
        → Come locate.table → Good old
    pub flat : (attempt : Attempt) (locate : LocateModel) (shape : ℕ) → state ≡ at.Locating attempt locate
        → locate.at ≡ locates.Seed shape → Good shape → is_nested shape ≡ false
    pub further : (claimed : Claimed) (length next : ℕ) → state ≡ at.Future claimed length → slot_of old ≡ Some next → Come next
    pub few : (claimed : Claimed) → state ≡ at.Count claimed → is_above_max (min old 65536) env.config.max ≡ false
    pub below : (claimed : Claimed) → state ≡ at.Count claimed → Good claimed.shape
        → is_above_100 (min old 65536) (size_of (unpacked claimed.shape)) env.config.max ≡ false

  -- ---- an operation

  calm-filled : (new : NewNodeModel) (next : Next (Option ℕ)) → CalmNext (filled new next)
  calm-filled new Go = tt
  calm-filled new (Done None) = λ is. refl
  calm-filled new (Done (Some node)) = tt

  calm-bound : (kind : Kind) (claimed : Claimed) (first : ℕ) (before : Option ℕ) → CalmBind (bound_already kind claimed first before)
  calm-bound Single claimed first before = tt
  calm-bound Listed claimed first before = tt

  calm-found : (kind : Kind) (claimed : Claimed) (found before : Option ℕ) (length : ℕ) → Good claimed.shape
      → CalmBind (found_or_future kind claimed found before length)
  calm-found kind claimed None before length good = good
  calm-found kind claimed (Some node) before length good = calm-bound kind claimed node before

  calm-probed : (kind : Kind) (attempt : Attempt) (table shape : ℕ) (probe : ProbeModel) (next : Next Probed) → Good shape
      → CalmBind (probed kind attempt table shape probe next)
  calm-probed kind attempt table shape probe Go good = good
  calm-probed kind attempt table shape probe (Done end) good =
      let claimed : Claimed = record { attempt = attempt; table = table; shape = shape; bucket = end.bucket } in
      calm-found kind claimed end.seen.found end.seen.before end.seen.length good

  calm-replaced : (list : FoundList) (relink : RelinkModel) (next : Next (Unit {0})) → CalmBind (replaced list relink next)
  calm-replaced list relink Go = tt
  calm-replaced list relink (Done done) = λ is. absurd (cc)

  calm-published : (node table : ℕ) (kick : Bool) (relink : RelinkModel) (next : Next (Unit {0}))
      → CalmBind (published node table kick relink next)
  calm-published node table kick relink Go = tt
  calm-published node table kick relink (Done done) = λ is. absurd (cc)

  calm-unlocked : (attempt : Attempt) (next : Then Reply) → CalmThen next → CalmBind (unlocked env attempt next)
  calm-unlocked attempt (Table table) calm = (calm, tt)
  calm-unlocked attempt (Answer reply) calm = calm

  -- a good table is flat, so a bucket that is looked for is there
  calm-located : (mix : ℕ → ℕ → ℕ → ℕ) (port : ℕ) (attempt : Attempt) (m : LocateModel) (state : LocateAt) (word : ℕ) → Come m.table
      → CalmLocate state → (state ≡ locates.Shape → Good word)
      → ((shape : ℕ) → state ≡ locates.Seed shape → is_nested shape ≡ false)
      → let next = locate_after_at mix port m state word in CalmBind (located env port attempt next.0 next.1)
  calm-located mix port attempt m locates.Shape word come calm good flat = (come, good refl)
  calm-located mix port attempt m (locates.Seed shape) word come calm good flat =
      by_test (λ t. let next = cond {A = LocateModel × Next Located} t
      (record m { at = locates.Early shape (nested_place m.geometry shape (bucket_of mix port shape word)) }, Go)
      (m, Done (located_at shape (flat_place m.geometry shape (bucket_of mix port shape word)))) in
      CalmBind (located env port attempt next.0 next.1))
      (is_nested shape) (λ t. absurd (both_ways (is_nested shape) (flat shape refl) t)) (λ f. calm)
  calm-located mix port attempt m (locates.Early shape place) word come calm good flat = absurd calm
  calm-located mix port attempt m (locates.Entry shape early place) word come calm good flat = absurd calm

  -- a chain of 16 nodes would bind as many ports
  module _ (words_at : ℕ → List ℕ) (few : (i : ℕ) → AreBound (stands_for env.geometry (words_at i)) 16 → ⊥) where
    none-counted : (port place number : ℕ) (steps : List Did) (nodes : List ℕ) → number ≤ 15 → 16 ≤ number + length nodes
        → AreCounted env.geometry words_at port place number steps nodes → ⊥
    none-counted port place number [] [] low many counts = omega (arith, low, many)
    none-counted port place number [] (node ∷ nodes) low many counts = absurd (cc)
    none-counted port place number (did ∷ steps) [] low many counts = omega (arith, low, many)
    none-counted port place number (did ∷ steps) (node ∷ nodes) low many (inr counts) =
        none-counted port place number steps (node ∷ nodes) low many counts.1
    none-counted port place number (did ∷ steps) (node ∷ nodes) low many (inl counts) = elim (cases_eq number 15) [
      | inl last ↦
          few did.index (subst (λ n. AreBound (stands_for env.geometry (words_at did.index)) (n + 1)) last counts.0.bound)
      | inr other ↦
          none-counted port place (number + 1) steps nodes (omega (arith, low, other)) (omega (arith, many)) counts.1
    ]

    calm-future : (mix : ℕ → ℕ → ℕ → ℕ) (port : ℕ) (claimed : Claimed) (length : ℕ) (future : Option ℕ) (steps : List Did) (by : ℕ)
        → SawAt env words_at mix port by (at.Future claimed length) steps → Good claimed.shape
        → ((next : ℕ) → future ≡ Some next → Come next) → CalmBind (future_or_count claimed length future)
    calm-future mix port claimed length (Some next) steps by saw good come = come next refl
    calm-future mix port claimed length None steps by saw good come =
        by_test (λ t. CalmBind (cond t (unlocking_full claimed full.Chain) (at.Count claimed))) (nat_le 16 length)
        (λ t.
        let counted = saw.saw.counted in
        let many = counted.many in
        let enough = leb-true 16 length t in
        none-counted port claimed.bucket.place 0 saw.walked.last.behind counted.nodes (omega arith) (omega (arith, many, enough))
        counted.counted)
        (λ f. good)

    calm-closed : (ending : Ending) → IfSome (answer_of_ending ending) CalmReply → CalmNext (closed env ending)
    calm-closed (endings.Bound kick) calm = calm
    calm-closed (endings.Answered node reply) calm = calm
    calm-closed (endings.Anew attempt) calm = tt

    -- a calm bind stays calm, or ends so
    pub calm-bind : (mix : ℕ → ℕ → ℕ → ℕ) (port owner : ℕ) (once : Bool) (state : BindAt) (steps : List Did) (did : Did)
        (by : ℕ) → Performs mix env (binds port owner once state) did → SawAt env words_at mix port by state steps → CalmBind state
        → IsCalmAt state did.old → CalmNext (after_at mix env port once state did.old)
    calm-bind mix port owner once (at.Filling new) steps did by does saw calm is =
        calm-filled (new_node_after new did.old).0 (new_node_after new did.old).1
    calm-bind mix port owner once (at.Opening attempt) steps did by does saw calm is = tt
    calm-bind mix port owner once (at.CurrentTable attempt) steps did by does saw calm is = (is.current attempt refl, tt)
    calm-bind mix port owner once (at.Locating attempt locate) steps did by does saw calm is =
        calm-located mix port attempt locate locate.at did.old calm.0 calm.1 (λ shape. is.shape attempt locate refl shape calm.0)
        (λ shape seed. is.flat attempt locate shape refl seed (subst CalmLocate seed calm.1))
    calm-bind mix port owner once (at.Probing attempt table shape probe) steps did by does saw calm is =
        calm-probed env.config.kind attempt table shape (probe_after probe did.old).0 (probe_after probe did.old).1 calm
    calm-bind mix port owner once (at.FoundOwner claimed found) steps did by does saw calm is = λ refused. absurd (cc)
    calm-bind mix port owner once (at.ListLink list) steps did by does saw calm is = tt
    calm-bind mix port owner once (at.ChainLink list) steps did by does saw calm is = tt
    calm-bind mix port owner once (at.LinkBehind list link) steps did by does saw calm is = tt
    calm-bind mix port owner once (at.Replacing list relink) steps did by does saw calm is =
        calm-replaced list (relink_after relink).0 (relink_after relink).1
    calm-bind mix port owner once (at.Future claimed length) steps did by does saw calm is =
        calm-future mix port claimed length (slot_of did.old) steps by saw calm (λ next further. is.further claimed length next refl further)
    calm-bind mix port owner once (at.Count claimed) steps did by does saw calm is =
        rw (is.few claimed refl, is.below claimed refl calm) tt
    calm-bind mix port owner once (at.Link claimed) steps did by does saw calm is = tt
    calm-bind mix port owner once (at.Raise claimed) steps did by does saw calm is = tt
    calm-bind mix port owner once (at.Publish node table relink kick) steps did by does saw calm is =
        calm-published node table kick (relink_after relink).0 (relink_after relink).1
    calm-bind mix port owner once (at.Unlocking attempt table unlock next) steps did by does saw calm is =
        calm-unlocked attempt next calm
    calm-bind mix port owner once (at.Closing ending) steps did by does saw calm is = calm-closed ending calm
    calm-bind mix port owner once (at.Giving give reply) steps did by does saw calm is = calm
    calm-bind mix port owner once _ steps did by does saw calm is = absurd calm

  -- its operations leave the words of slots
  pub bind-spares : (c : ℕ) → c < 16 → (state : BindAt) → IsBindAtIn env state → CalmBind state → SparesSlots (plan_at env c state)
  bind-spares c few (at.Filling new) within calm = new_node-spares new.geometry new.key new.owner new.at
  bind-spares c few (at.Opening attempt) within calm = at_section few _ refl
  bind-spares c few (at.Closing ending) within calm = at_section few _ refl
  bind-spares c few (at.CurrentTable attempt) within calm = by_load _ _ refl
  bind-spares c few (at.Locating attempt locate) within calm = locate-spares locate.geometry locate.table locate.at
  bind-spares c few (at.Probing attempt table shape probe) within calm = probe-spares env.geometry probe.at within.probe_in.at_in
  bind-spares c few (at.FoundOwner claimed found) within calm = by_load _ _ refl
  bind-spares c few (at.ListLink list) within calm = at_node env.geometry list.claimed.attempt.node ListLink _ refl
  bind-spares c few (at.ChainLink list) within calm = by_load _ _ refl
  bind-spares c few (at.LinkBehind list link) within calm = at_node env.geometry list.claimed.attempt.node ChainLink _ refl
  bind-spares c few (at.Replacing list relink) within calm = relink-spares env.geometry relink relink.at within.relink_in.place_in
  bind-spares c few (at.Future claimed length) within calm = by_load _ _ refl
  bind-spares c few (at.Count claimed) within calm = by_load _ _ refl
  bind-spares c few (at.Link claimed) within calm = at_node env.geometry claimed.attempt.node ChainLink _ refl
  bind-spares c few (at.Raise claimed) within calm = inr (inr (inl refl))
  bind-spares c few (at.Publish node table relink kick) within calm = relink-spares env.geometry relink relink.at within.relink_in.place_in
  bind-spares c few (at.Unlocking attempt table unlock next) within calm = unlock-spares env.geometry unlock within.unlock_in
  bind-spares c few (at.Giving give reply) within calm = give_node-spares give
  bind-spares c few _ within calm = absurd calm
