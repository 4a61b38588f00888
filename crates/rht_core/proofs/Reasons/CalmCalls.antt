-- What calls come to while no table was made and few ports are bound: no bind finds a table full, and no resizing finds one due.
--
-- A call is calm while it has met none but the first table, and nothing that leads to another one. By induction over the operations of a
-- call it stays so: which table is the current one and its future are as at opening, and so is its shape; a count that is loaded is below
-- its size; and in its chains no 16 nodes are counted, since as many ports would be bound.
use Rattle.std.proofs.Common.{◌≡◌, ◌≢◌, ℕ, ◌+◌, ◌*◌, ◌/◌, ◌^◌, ◌<◌, ◌≤◌, Bool, true, false, cond, min, max, nat_lt, List, refl, sym, ap, ◌∙◌, subst, arith}
use Rattle.std.specs.Prelude.{Option, Some, None, ◌==◌, ◌&&◌}
use Rattle.std.proofs.lemmas.Bool.{and_parts, ltb-true, leb-true, ne_eqb}
use Rattle.rht_words.specs.declared.env.Env.{Env}
use Rattle.rht_words.specs.declared.geometry.Geometry.{Geometry}
use Rattle.rht_words.specs.declared.machine.Next.{Next}
use Rattle.rht_words.specs.declared.machine.Next.TheVariants.{Go, Done}
use Rattle.rht_words.specs.Links.{slot_of, table_of}
use Rattle.rht_words.specs.Machines.{GoesOrEnds}
use Rattle.rht_words.specs.Opening.{first_slot, opening_word}
use Rattle.rht_words.specs.Operations.{old_of}
use Rattle.rht_words.specs.Places.{CurrentTable, PortCount, Slot, ShapeWord, FutureWord, StateWord, word_at}
use Rattle.rht_words.specs.Shapes.{unpacked, size_of}
use Rattle.rht_words.specs.Sizes.{first_size, wished_size}
use Rattle.rht_words.proofs.OpeningLaws.{opens_flat}
use Rattle.rht_policy.specs.Sizes.{most_ports}
use Rattle.rht_policy.specs.Thresholds.{is_above_75, is_above_100, is_above_max, is_below_30, may_grow}
use Rattle.rht_model.specs.Answers.{is_refusal}
use Rattle.rht_model.specs.Endings.{Ending}
use Rattle.rht_model.specs.declared.history.Call.{Call}
use Rattle.rht_model.specs.declared.history.Reply.{Reply}
use Rattle.rht_model.specs.declared.history.Reply.TheVariants.{Elsewhere}
use Rattle.rht_nest.specs.Locate.{LocateModel, locate_plan}
use Rattle.rht_nest.specs.declared.locate.LocateAt.TheVariants as locates
use Rattle.rht_bind.specs.declared.bind.Claimed.{Claimed}
use Rattle.rht_bind.specs.declared.bind.BindAt.{BindAt}
use Rattle.rht_bind.specs.declared.bind.BindAt.TheVariants as at
use Rattle.rht_move.specs.declared.last_table.Last.{Last}
use Rattle.rht_move.specs.declared.last_table.LastTableAt.{LastTableAt}
use Rattle.rht_move.specs.declared.last_table.LastTableAt.TheVariants as last_tables
use Rattle.rht_move.specs.LastTable.{LastTableModel, last_table_plan_at, last_table_after_at, next_or_shape}
use Rattle.rht_nest.specs.Tables.{is_nested}
use Rattle.rht_reclaim.specs.ReturnTables.{ReturnTablesModel, return_tables_plan_at, return_tables_after_at, return_tables_after, state_seen, IsReturnTablesAtIn}
use Rattle.rht_reclaim.specs.declared.return_tables.ReturnTablesAt.{ReturnTablesAt}
use Rattle.rht_reclaim.specs.declared.return_tables.ReturnTablesAt.TheVariants as return_tables
use Rattle.rht_move.specs.Choice.{choice_of, is_sparse}
use Rattle.rht_move.specs.declared.work.choice.Choice.{Choice}
use Rattle.rht_move.specs.declared.work.choice.Choice.TheVariants as choices
use Rattle.rht_move.specs.declared.work.Due.TheVariants as dues
use Rattle.rht_move.specs.declared.work.Outcome.TheVariants as outcomes
use Rattle.rht_move.specs.declared.work.ending.Ending.TheVariants as endings
use Rattle.rht_move.specs.declared.work.WorkAt.{WorkAt}
use Rattle.rht_move.specs.declared.work.WorkAt.TheVariants as work_at
use Rattle.rht_move.specs.Work as work
use Rattle.rht_core.proofs.Reasons.CalmWalks.{CalmWalk}
use Rattle.rht_core.specs.Jobs.{Job, binds, works, walks}
use Rattle.rht_core.specs.FewPorts.{IsNoTableMade, IsCallTaken}
use Rattle.rht_stands.specs.StandsFor.{stands_for, AreBound}
use Rattle.rht_core.specs.Traces.{Did}
use Rattle.rht_ghost.proofs.Theory.Steps.{by_test}
use Rattle.rht_core.proofs.Tracing.TracedJobs.{hard, found_as, Performs}
use Rattle.rht_core.proofs.Reasons.CalmBinds.{CalmBind, IsCalmAt}
use Rattle.rht_bind.specs.Bind.{plan_at, IsBindAtIn}

-- ---- few ports in a table that begins with 64 buckets or more

module _ (env : Env) where
  -- the count of ports is below 32, and no 16 ports are bound
  pub record HasFew (words : List ℕ) : Type 0 where
    pub count : word_at env.geometry words PortCount ≤ 31
    pub bound : AreBound (stands_for env.geometry words) 16 → ⊥

  -- the table's config
  pub record IsRoomy : Type 0 where
    pub first : 64 ≤ first_size env.config
    pub keeps_size : env.config.shrink ≡ false

  -- the shape is that of the first table
  abbrev pub IsFirst : ℕ → Type 0
  IsFirst shape = shape ≡ opening_word env (Slot 0 ShapeWord)

  first-size : (shape : ℕ) → IsFirst shape → size_of (unpacked shape) ≡ first_size env.config
  first-size shape is =
      ap (λ s. size_of (unpacked s)) is ∙ ap size_of (opens_flat env).shape ∙ (opens_flat env).size

  first-flat : (shape : ℕ) → IsFirst shape → is_nested shape ≡ false
  first-flat shape is = ap is_nested is ∙ ap (λ s. nat_lt 0 s.nest) (opens_flat env).shape

  -- no slot has a future at opening
  opening-future : (slot : ℕ) → opening_word env (Slot slot FutureWord) ≡ 0
  opening-future slot =
      by_test (λ t. cond t (first_slot env FutureWord) 0 ≡ 0) (slot == 0) (λ t. refl) (λ f. refl)

  -- a table may hold twice as many ports as the first one has buckets, or more
  pub most-many : 16 ≤ first_size env.config → 32 ≤ most_ports env.config.max
  most-many first =
      by_test (λ t. 16 ≤ cond t uncut (min uncut most) → 32 ≤ cond t (2 ^ 31) twice) (most == 0)
      (λ t l. omega arith)
      (λ f l. by_test (λ t. 32 ≤ cond t (2 * most) (2 ^ 31)) (nat_lt most (2 ^ 30)) (λ t. omega (arith, l)) (λ f. omega arith)) first
    where
      most : ℕ
      most = env.config.max

      twice : ℕ
      twice = cond (nat_lt most (2 ^ 30)) (2 * most) (2 ^ 31)

      uncut : ℕ
      uncut = max (wished_size env.config.hint) env.config.min

  -- so few are fewer than it may hold
  pub below-max : (count : ℕ) → 16 ≤ first_size env.config → count ≤ 31 → is_above_max (min count 65536) env.config.max ≡ false
  below-max count first few = go (is_above_max (min count 65536) env.config.max) refl
    where
      go : (b : Bool) → is_above_max (min count 65536) env.config.max ≡ b → b ≡ false
      go false is = refl
      go true is =
          let above = leb-true (most_ports env.config.max) (min count 65536) is in
          absurd (omega (arith, above, few, most-many first))

  -- and a table isn't full by no more ports than it has buckets
  pub below-size : (count shape : ℕ) → count ≤ size_of (unpacked shape)
      → is_above_100 (min count 65536) (size_of (unpacked shape)) env.config.max ≡ false
  below-size count shape few = go (is_above_100 (min count 65536) (size_of (unpacked shape)) env.config.max) refl
    where
      go : (b : Bool) → is_above_100 (min count 65536) (size_of (unpacked shape)) env.config.max ≡ b → b ≡ false
      go false is = refl
      go true is =
          let size = size_of (unpacked shape) in
          let parts = and_parts (nat_lt size (min count 65536)) (may_grow size env.config.max) is in
          let above = ltb-true size (min count 65536) parts.0 in
          absurd (omega (arith, above, few))

  module _ (roomy : IsRoomy) where
    -- nor is the first table due to grow by them
    below-growth : (count shape : ℕ) → count ≤ 31 → IsFirst shape
        → is_above_75 (min count 65536) (size_of (unpacked shape)) env.config.max ≡ false
    below-growth count shape few first = go (is_above_75 (min count 65536) (size_of (unpacked shape)) env.config.max) refl
      where
        go : (b : Bool) → is_above_75 (min count 65536) (size_of (unpacked shape)) env.config.max ≡ b → b ≡ false
        go false is = refl
        go true is =
            let size = size_of (unpacked shape) in
            let parts = and_parts (nat_lt (size / 4 * 3) (min count 65536)) (may_grow size env.config.max) is in
            let above = ltb-true (size / 4 * 3) (min count 65536) parts.0 in
            absurd (omega (arith, above, few, first-size shape first, roomy.first))

    -- nothing is due
    none-due : (count shape : ℕ) (alone : Bool) → count ≤ 31 → IsFirst shape
        → choice_of env count shape alone ≡ choices.Nothing
    none-due count shape alone few first =
        let ports = min count 65536 in
        let size = size_of (unpacked shape) in
        let sparse : is_sparse env ports size ≡ false =
        ap (λ b. b && is_below_30 ports size env.config.min) roomy.keeps_size in
        rw (below-growth count shape few first, sparse, first-flat shape first) refl
    -- ---- calm calls

  abbrev pub IsZero : ℕ → Type 0
  IsZero table = table ≡ 0

  abbrev CalmSeek : LastTableAt → Type 0
  CalmSeek (last_tables.Future table) = table ≡ 0
  CalmSeek (last_tables.Shape table) = table ≡ 0

  -- a resizing finds no retired table
  abbrev pub CalmReturns : ReturnTablesAt → Type 0
  CalmReturns (return_tables.State slot) = Unit {0}
  CalmReturns _ = ⊥

  abbrev pub CalmWork : WorkAt → Type 0
  CalmWork work_at.WorkLock = Unit {0}
  CalmWork (work_at.Returning returns) = CalmReturns returns.at
  CalmWork work_at.Opening = Unit {0}
  CalmWork work_at.CurrentTable = Unit {0}
  CalmWork (work_at.LastTable root seek) = CalmSeek seek.at
  CalmWork (work_at.Count root last) = IsFirst last.shape
  CalmWork (work_at.RootFuture root due) = due ≡ dues.Nothing
  CalmWork (work_at.Closing ending) = ending ≡ endings.LettingGo outcomes.Idle
  CalmWork (work_at.LettingGo outcome) = outcome ≡ outcomes.Idle
  CalmWork _ = ⊥

  -- of the other calls nothing is said
  abbrev pub CalmJob : Job → Type 0
  CalmJob (binds port owner once state) = CalmBind env IsFirst IsZero state
  CalmJob (works state) = CalmWork state
  CalmJob (walks from limit room state) = CalmWalk from state
  CalmJob _ = Unit {0}

  abbrev pub CalmEnd : Call → Ending → Type 0
  CalmEnd call ending = IsCallTaken call ending.answer.reply

  -- ---- an operation, in words in which no table was made and few ports are bound

  module _ (mix : ℕ → ℕ → ℕ → ℕ) (roomy : IsRoomy) (did : Did) (words : List ℕ) (opened : IsNoTableMade env words) (has : HasFew words)
    where
      -- what is loaded of the words
      pub future-none : (slot : ℕ) → slot < 8 → slot_of (word_at env.geometry words (Slot slot FutureWord)) ≡ None
      future-none slot l = ap slot_of (opened.slots slot FutureWord l tt ∙ opening-future slot)

      shape-first : (slot : ℕ) → slot ≡ 0 → IsFirst (word_at env.geometry words (Slot slot ShapeWord))
      shape-first slot is =
          ap (λ s. word_at env.geometry words (Slot s ShapeWord)) is ∙ opened.slots 0 ShapeWord (omega arith) tt

      current-first : table_of (word_at env.geometry words CurrentTable) ≡ 0
      current-first = ap table_of opened.current

      -- so a bind stays calm
      pub few-calm : (port owner : ℕ) (once : Bool) (state : BindAt)
          → (does : Performs mix env (binds port owner once state) did) → does.words ≡ words
          → IsCalmAt env IsFirst IsZero state did.old
      few-calm port owner once state does now = record {
        current = λ attempt is. ap table_of (found ∙ ap (λ s. old_of words (plan_at env does.caller s)) is) ∙ current-first;
        shape = λ attempt locate is shape zero.
            found ∙ ap (λ s. old_of words (plan_at env does.caller s)) is ∙ loads locate shape ∙ shape-first locate.table zero;
        flat = λ attempt locate shape is seed first. first-flat shape first;
        further = λ claimed length next is further.
            let within = subst (IsBindAtIn env) is does.within.at_in in
            let none =
            ap slot_of (found ∙ ap (λ s. old_of words (plan_at env does.caller s)) is) ∙ future-none claimed.table within.table_in in
            let both : ◌≡◌ {A = Option ℕ} None (Some next) = sym none ∙ further in
            absurd (cc);
        few = λ claimed is. below-max did.old (omega (arith, roomy.first)) (low claimed is);
        below = λ claimed is first. below-size did.old claimed.shape
            (omega (arith, low claimed is, first-size claimed.shape first, roomy.first));
      }
        where
          found : did.old ≡ old_of words (plan_at env does.caller state)
          found = found_as mix env does ∙ ap (λ w. old_of w (plan_at env does.caller state)) now

          loads : (m : LocateModel) → m.at ≡ locates.Shape → old_of words (locate_plan m) ≡ word_at env.geometry words (Slot m.table ShapeWord)
          loads m shape = rw shape refl

          low : (claimed : Claimed) → state ≡ at.Count claimed → did.old ≤ 31
          low claimed is = omega (arith, found ∙ ap (λ s. old_of words (plan_at env does.caller s)) is, has.count)

      -- ---- an operation of a resizing

      abbrev CalmWorkNext : WorkAt × Next Reply → Type 0
      CalmWorkNext next = GoesOrEnds CalmWork (λ reply. is_refusal reply ≡ true → reply ≡ Elsewhere) next

      calm-lock : (lock : ℕ) → CalmWorkNext (work.lock_seen env.geometry lock)
      calm-lock lock =
          by_test (λ t. CalmWorkNext (cond t (work.returning env.geometry, Go) (work_at.WorkLock, Done Elsewhere))) (lock == 0)
          (λ t. tt) (λ f is. refl)

      -- no slot has a retired table
      unretired : (slot : ℕ) → slot < 8 → word_at env.geometry words (Slot slot StateWord) ≢ 2
      unretired slot l two = opening (sym (opened.slots slot StateWord l tt) ∙ two)
        where
          opening : opening_word env (Slot slot StateWord) ≡ 2 → ⊥
          opening =
              by_test (λ t. cond t (first_slot env StateWord) 0 ≡ 2 → ⊥) (slot == 0) (λ t is. omega (arith, is)) (λ f is. omega (arith, is))

      -- so it goes from slot to slot
      calm-state : (slot state : ℕ) → state ≢ 2 → CalmReturns (state_seen slot state).0
      calm-state slot state other =
          rw (ne_eqb state 2 other)
          (by_test (λ t. CalmReturns (cond {A = ReturnTablesAt × Next (Unit {0})} t (return_tables.State (slot + 1), Go) (return_tables.State slot, Done tt)).0)
          (nat_lt (slot + 1) 8) (λ t. tt) (λ f. tt))

      calm-returns : (g : Geometry) (state : ReturnTablesAt) (word : ℕ) → CalmReturns state
          → ((slot : ℕ) → state ≡ return_tables.State slot → word ≢ 2) → CalmReturns (return_tables_after_at g state word).0
      calm-returns g (return_tables.State slot) word calm unlike = calm-state slot word (unlike slot refl)
      calm-returns g _ word calm unlike = absurd calm

      calm-returned : (returns : ReturnTablesModel) (next : Next (Unit {0})) → CalmReturns returns.at → CalmWork (work.returned returns next)
      calm-returned returns Go calm = calm
      calm-returned returns (Done done) calm = tt

      calm-last : (root : ℕ) (seek : LastTableModel) (state : LastTableAt) (word : ℕ) → CalmSeek state
          → ((slot : ℕ) → state ≡ last_tables.Future slot → slot ≡ 0 → slot_of word ≡ None)
          → ((slot : ℕ) → state ≡ last_tables.Shape slot → slot ≡ 0 → IsFirst word)
          → let next = last_table_after_at seek state word in CalmWork (work.last_seen root next.0 next.1)
      calm-last root seek (last_tables.Future slot) word calm none first =
          subst (λ f. CalmSeek (next_or_shape slot f)) (sym (none slot refl calm)) calm
      calm-last root seek (last_tables.Shape slot) word calm none first = first slot refl calm

      calm-begun : (root : ℕ) (last : Last) (choice : Choice) → choice ≡ choices.Nothing → CalmWork (work.begun env root last choice)
      calm-begun root last choice is = rw is refl

      pub calm-work : (state : WorkAt) → (does : Performs mix env (works state) did) → does.words ≡ words → CalmWork state
          → CalmWorkNext (work.after_at mix env state did.old)
      calm-work work_at.WorkLock does now calm = calm-lock did.old
      calm-work (work_at.Returning returns) does now calm =
          let plan : did.op ≡ return_tables_plan_at env.geometry returns.at =
          hard mix env refl does ∙ ap (λ (h : Geometry). return_tables_plan_at h returns.at) does.within.geometry_same in
          let found : did.old ≡ old_of words (return_tables_plan_at env.geometry returns.at) =
          does.found ∙ ap (old_of does.words) plan ∙ ap (λ w. old_of w (return_tables_plan_at env.geometry returns.at)) now in
          let after = return_tables_after returns did.old in
          calm-returned after.0 after.1
          (calm-returns returns.geometry returns.at did.old calm
          (λ slot is two.
          let low : slot < 8 = subst (IsReturnTablesAtIn env.geometry) is does.within.at_in in
          unretired slot low (sym (found ∙ ap (λ s. old_of words (return_tables_plan_at env.geometry s)) is) ∙ two)))
      calm-work work_at.Opening does now calm = tt
      calm-work work_at.CurrentTable does now calm =
          ap table_of (found_as mix env does) ∙ ap (λ w. table_of (word_at env.geometry w CurrentTable)) now
          ∙ current-first
      calm-work (work_at.LastTable root seek) does now calm =
          let plan : did.op ≡ last_table_plan_at env.geometry seek.at =
          hard mix env refl does ∙ ap (λ (h : Geometry). last_table_plan_at h seek.at) does.within.seek_in.geometry_same in
          let found : did.old ≡ old_of words (last_table_plan_at env.geometry seek.at) =
          does.found ∙ ap (old_of does.words) plan ∙ ap (λ w. old_of w (last_table_plan_at env.geometry seek.at)) now in
          calm-last root seek seek.at did.old calm
          (λ slot is zero. ap slot_of (found ∙ ap (λ s. old_of words (last_table_plan_at env.geometry s)) is)
          ∙ future-none slot (omega (arith, zero)))
          (λ slot is zero. found ∙ ap (λ s. old_of words (last_table_plan_at env.geometry s)) is ∙ shape-first slot zero)
      calm-work (work_at.Count root last) does now calm =
          let found : did.old ≡ word_at env.geometry words PortCount =
          found_as mix env does ∙ ap (λ w. word_at env.geometry w PortCount) now in
          calm-begun root last (choice_of env did.old last.shape (root == last.table))
          (none-due roomy did.old last.shape (root == last.table) (omega (arith, found, has.count)) calm)
      calm-work (work_at.RootFuture root due) does now calm =
          let found : did.old ≡ word_at env.geometry words (Slot root FutureWord) =
          found_as mix env does ∙ ap (λ w. word_at env.geometry w (Slot root FutureWord)) now in
          subst (λ f. CalmWork (work.future_or_idle root due f)) (sym (ap slot_of found ∙ future-none root does.within)) refl
      calm-work (work_at.Closing ending) does now calm = subst (λ e. CalmWork (work.closed e)) (sym calm) refl
      calm-work (work_at.LettingGo outcome) does now calm = rw calm (λ is. absurd (cc))
      calm-work _ does now calm = absurd calm
