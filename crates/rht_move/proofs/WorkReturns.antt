-- How a worker gives retired tables back: from slot to slot, of a retired table from caller to caller, and once no section comes to it any
-- more from page to page.
use Rattle.std.proofs.Common.{◌≡◌, ℕ, ◌+◌, ◌*◌, ◌/◌, ◌%◌, ◌<◌, ◌≤◌, ◌==◌, Bool, true, false, List, [], length, cond, nat_lt, Option, Some, None, refl, sym, ◌∙◌, ap, subst, inl, arith}
use Rattle.std.proofs.lemmas.Bool.{cond_both, eqb-true, eqb-false, eq-eqb, ne_eqb, ltb-false}
use Rattle.rht_words.specs.declared.env.Env.{Env}
use Rattle.rht_words.specs.declared.op.Op.{Op}
use Rattle.rht_words.specs.declared.geometry.Geometry.{Geometry}
use Rattle.rht_words.specs.declared.machine.Next.{Next}
use Rattle.rht_words.specs.declared.machine.Next.TheVariants.{Go}
use Rattle.rht_words.specs.Links.{page_of}
use Rattle.rht_words.specs.Operations.{old_of, word_after}
use Rattle.rht_words.specs.Places.{Slot, ShapeWord, PageWord, words_in}
use Rattle.rht_words.proofs.Memory.{Memory}
use Rattle.rht_arena.specs.PageRuns.{IsRunWord}
use Rattle.rht_arena.specs.GiveRun.{GiveRunModel, give_run_new, give_run_plan, give_run_after, pages_of_give_run}
use Rattle.rht_nest.specs.Tables.{is_nested, run_first, run_pages}
use Rattle.rht_nest.specs.Place.{top_page, top_entries, is_deep}
use Rattle.rht_reclaim.specs.GiveTable.{GiveTableModel, give_table_new, give_table_plan_at, give_table_after_at, run_returned, next_top, next_leaf, top_seen, leaf_seen, IsGiveTableAtIn}
use Rattle.rht_reclaim.specs.ReturnTables.{ReturnTablesModel, return_tables_plan_at, return_tables_after_at, next_slot, next_caller, given_back, IsReturnTablesAtIn, IsReturnTablesIn}
use Rattle.rht_reclaim.specs.ReturnHeld.{is_first_word}
use Rattle.rht_reclaim.specs.declared.give_table.GiveTableAt.{GiveTableAt}
use Rattle.rht_reclaim.specs.declared.give_table.GiveTableAt.TheVariants as gives
use Rattle.rht_reclaim.specs.declared.return_tables.ReturnTablesAt.{ReturnTablesAt}
use Rattle.rht_reclaim.specs.declared.return_tables.ReturnTablesAt.TheVariants as returns
use Rattle.rht_model.specs.declared.history.Call.TheVariants as calls
use Rattle.rht_model.specs.declared.history.Reply.{Reply}
use Rattle.rht_move.specs.declared.work.WorkAt.{WorkAt}
use Rattle.rht_move.specs.declared.work.WorkAt.TheVariants as at
use Rattle.rht_move.specs.Work.{returned}
use Rattle.rht_move.specs.WorkHeld.{holds_work_lock, held_of_work}
use Rattle.rht_ghost.proofs.Theory.Ghosts.{Ghost}
use Rattle.rht_ghost.proofs.Theory.Wholes.{Whole}
use Rattle.rht_ghost.proofs.Theory.Knowns.{Known, KnownMaking, MakesNothing, HasBack, KnownWork, Works, Asks, Compares, GivesBack, Over, InRun, AtTop, AtLeaf, ClearsLeaf, ClearsTop}
use Rattle.rht_ghost.proofs.Theory.Knowledge.{WorkMeans, Knowing}
use Rattle.rht_ghost.proofs.Theory.Steps.{Holding, mem, SilentStep, Step}
use Rattle.rht_ghost.proofs.Pieces.WorkSteps.{knows_work, work_loads}
use Rattle.rht_ghost.proofs.Pieces.ReturnLoads.{kept_even, kept_odd, left_seen, works_alone, all_asked, shape_flat, shape_nested, top_none, top_deep, top_shallow, tops_done, leaf_none, leaf_some, leaves_done}
use Rattle.rht_ghost.proofs.Pieces.ReturnStores.{about, withdraw_leaf_step, withdraw_top_step, give_page_step, take_back_run_step, take_back_top_step, give_rest_step, free_slot_step}
use Rattle.rht_ghost.proofs.Pieces.PageRuns.{given_behind}
use Rattle.rht_move.proofs.WorkLeads.{leads, learning}
use Rattle.rht_ghost.proofs.Pieces.ReturnLoads as loading
use Rattle.rht_ghost.proofs.Pieces.ReturnStores as storing
use Rattle.rht_move.proofs.WorkKnowledge as works

module _ (env : Env) (mix : ℕ → ℕ → ℕ → ℕ) (c : ℕ) (words : List ℕ) (G : Ghost)
    (all : length words ≡ words_in env.geometry) (whole : Whole env mix (mem env mix words) G) where
  abbrev M : Memory
  M = mem env mix words

  abbrev g : Geometry
  g = env.geometry

  abbrev WorkKnows : WorkAt → Memory → Ghost → Type 0
  WorkKnows = works.WorkKnows env mix c

  abbrev WorkNext : WorkAt × Next Reply → Memory → Ghost → Type 0
  WorkNext = works.WorkNext env mix c

  -- what the call holds with this slot and these pages, and what it knows of them and of the work
  abbrev holding : Option ℕ → List ℕ → Holding
  holding = storing.holding env mix c holds_work_lock

  abbrev knowing : Option ℕ → List ℕ → KnownMaking → KnownWork → Memory → Ghost → Type 0
  knowing = storing.knowing env mix c holds_work_lock

  -- the worker in a state of the giving back
  abbrev here : ReturnTablesAt → WorkAt
  here state = at.Returning (record { geometry = g; at = state })

  -- where it stands behind an operation, and what that leads to
  abbrev next_of : ReturnTablesAt × Next (Unit {0}) → WorkAt
  next_of r = returned (record { geometry = g; at = r.0 }) r.1

  abbrev Leads : Op → Option ℕ → List ℕ → WorkAt → Type 0
  Leads op slot pages next = Step env mix c calls.Work words G op (holding slot pages) (held_of_work next) (WorkNext (next, Go))

  -- an operation behind which this is known of the work alone
  abbrev Moved : Op → Option ℕ → List ℕ → KnownWork → Type 0
  Moved op slot pages known =
      SilentStep env mix c words G op (holding slot pages) (holding None []) (knowing None [] MakesNothing known)

  -- it leads to a state in which just that is known
  alone : {op : Op} {slot : Option ℕ} {pages : List ℕ} (known more : KnownWork) (next : WorkAt)
      → held_of_work next ≡ holding None [] → works.known_of_work next ≡ knows_work MakesNothing more
      → ((M' : Memory) (G' : Ghost) → Whole env mix M' G' → WorkMeans env mix c M' G' known → WorkMeans env mix c M' G' more)
      → Moved op slot pages known → Leads op slot pages next
  alone {op} {slot} {pages} known more next holds is learns step =
      leads next (inl (ap (λ (x : Holding). x.answer) holds)) refl
      (holds ∙ ap (λ a. record holds_work_lock { answer = a }) (sym (ap (λ (x : Holding). x.answer) holds))) is
      (learning known more learns step)

  -- ---- the next slot, or the section

  slot_leads : {op : Op} {slot : Option ℕ} {pages : List ℕ} (state : ReturnTablesAt) (s : ℕ) → Moved op slot pages Works
      → Leads op slot pages (next_of (next_slot state s))
  slot_leads {op} {slot} {pages} state s step =
      cond_both {A = ReturnTablesAt × Next (Unit {0})} (nat_lt (s + 1) 8) _ _ (λ r. Leads op slot pages (next_of r))
      (λ t. alone Works Works (here (returns.State (s + 1))) refl refl (λ M' G' w k. k) step)
      (λ f. alone Works Works at.Opening refl refl (λ M' G' w k. k) step)

  -- ---- the next caller, or the table is given back

  caller_leads : {op : Op} (s caller : ℕ) → Moved op None [] (Asks s (caller + 1))
      → Leads op None [] (next_of (next_caller g s caller))
  caller_leads {op} s caller step =
      cond_both {A = ReturnTablesAt × Next (Unit {0})} (nat_lt (caller + 1) g.callers) _ _ (λ r. Leads op None [] (next_of r))
      (λ t. alone (Asks s (caller + 1)) (Asks s (caller + 1)) (here (returns.KeptWord s (caller + 1))) refl refl
      (λ M' G' w k. k) step)
      (λ f. alone (Asks s (caller + 1)) (GivesBack s Over) (here (returns.Giving (give_table_new g s))) refl refl
      (λ M' G' w k. all_asked env mix c M' G' w s (caller + 1) (ltb-false (caller + 1) g.callers f) k) step)

  -- a load behind which this is known
  loaded : {op : Op} (known more : KnownWork) → word_after (old_of words op) op ≡ old_of words op
      → knowing None [] MakesNothing known M G → (WorkMeans env mix c M G known → WorkMeans env mix c M G more)
      → Moved op None [] more
  loaded {op} known more same knows learns =
      work_loads env mix c holds_work_lock words G all whole None MakesNothing op known more same knows learns

  abbrev Next_step : ReturnTablesAt → Type 0
  Next_step state =
      let op = return_tables_plan_at g state in
      Step env mix c calls.Work words G op (held_of_work (here state))
      (held_of_work (next_of (return_tables_after_at g state (old_of words op))))
      (WorkNext (next_of (return_tables_after_at g state (old_of words op)), Go))

  state_loaded : (s : ℕ) → s < 8 → WorkKnows (here (returns.State s)) M G → Next_step (returns.State s)
  state_loaded s l known =
      let op = return_tables_plan_at g (returns.State s) in
      let word = old_of words op in
      cond_both {A = ReturnTablesAt × Next (Unit {0})} (word == 2) _ _ (λ r. Leads op None [] (next_of r))
      (λ t. alone (Asks s 0) (Asks s 0) (here (returns.KeptWord s 0)) refl refl (λ M' G' w k. k)
      (loaded Works (Asks s 0) refl known
      (loading.state_seen env mix c M G whole s l (eqb-true word 2 t) known.only.slots)))
      (λ f. slot_leads (returns.State s) s (loaded Works Works refl known (λ k. k)))

  kept_loaded : (s caller : ℕ) → caller < g.callers → WorkKnows (here (returns.KeptWord s caller)) M G
      → Next_step (returns.KeptWord s caller)
  kept_loaded s caller l known =
      let op = return_tables_plan_at g (returns.KeptWord s caller) in
      let kept = old_of words op in
      let few = g.within.callers_within in
      cond_both {A = ReturnTablesAt × Next (Unit {0})} (kept % 2 == 1) _ _ (λ r. Leads op None [] (next_of r))
      (λ t. alone (Compares s caller kept) (Compares s caller kept) (here (returns.SectionWord s caller kept)) refl refl
      (λ M' G' w k. k)
      (loaded (Asks s caller) (Compares s caller kept) refl known
      (kept_odd env mix c M G whole s caller (omega (arith, l, few.1)))))
      (λ f. caller_leads s caller (loaded (Asks s caller) (Asks s (caller + 1)) refl known
      (kept_even env mix c M G whole s caller (eqb-false (kept % 2) 1 f))))

  section_loaded : (s caller kept : ℕ) → WorkKnows (here (returns.SectionWord s caller kept)) M G
      → Next_step (returns.SectionWord s caller kept)
  section_loaded s caller kept known =
      let state = returns.SectionWord s caller kept in
      let op = return_tables_plan_at g state in
      let word = old_of words op in
      cond_both {A = ReturnTablesAt × Next (Unit {0})} (word == kept) _ _ (λ r. Leads op None [] (next_of r))
      (λ t. slot_leads state s (loaded (Compares s caller kept) Works refl known (works_alone env mix c M G whole)))
      (λ f. caller_leads s caller (loaded (Compares s caller kept) (Asks s (caller + 1)) refl known
      (left_seen env mix c M G whole s caller kept (eqb-false word kept f))))

  -- ---- a table is given back

  module _ (s : ℕ) where
    abbrev giving : GiveTableAt → GiveTableModel
    giving state = record { geometry = g; slot = s; at = state }

    abbrev gives_at : GiveTableAt → WorkAt
    gives_at state = here (returns.Giving (giving state))

    -- behind an entry of the top page
    top_leads : {op : Op} {pages : List ℕ} (shape top : ℕ) → Moved op None pages (GivesBack s (AtTop shape (top + 1)))
        → Leads op None pages (gives_at (next_top shape top))
    top_leads {op} {pages} shape top step =
        let known = GivesBack s (AtTop shape (top + 1)) in
        cond_both {A = GiveTableAt} (nat_lt (top + 1) (top_entries shape)) _ _ (λ state. Leads op None pages (gives_at state))
        (λ t. alone known known (gives_at (gives.TopEntry shape (top + 1))) refl refl (λ M' G' w k. k) step)
        (λ f. alone known (GivesBack s (AtTop shape 64)) (gives_at (gives.GiveTop shape)) refl refl
        (λ M' G' w k. tops_done env mix c M' G' w s shape (top + 1) (ltb-false (top + 1) (top_entries shape) f) k) step)

    -- behind one of a page of entries
    leaf_leads : {op : Op} {pages : List ℕ} (shape top page leaf : ℕ)
        → Moved op None pages (GivesBack s (AtLeaf shape top page (leaf + 1)))
        → Leads op None pages (gives_at (next_leaf shape top page leaf))
    leaf_leads {op} {pages} shape top page leaf step =
        let known = GivesBack s (AtLeaf shape top page (leaf + 1)) in
        cond_both {A = GiveTableAt} (nat_lt (leaf + 1) 64) _ _ (λ state. Leads op None pages (gives_at state))
        (λ t. alone known known (gives_at (gives.LeafEntry shape top page (leaf + 1))) refl refl (λ M' G' w k. k) step)
        (λ f. alone known (GivesBack s (ClearsTop shape top page)) (gives_at (gives.ClearTop shape top page)) refl refl
        (λ M' G' w k. leaves_done env mix c M' G' w s shape top page (leaf + 1) (ltb-false (leaf + 1) 64 f) k) step)

    abbrev Give_step : GiveTableAt → Type 0
    Give_step state =
        let op = give_table_plan_at g s state in
        let r = give_table_after_at g state (old_of words op) in
        let next = next_of (given_back (record (giving state) { at = r.0 }) r.1) in
        Step env mix c calls.Work words G op (held_of_work (gives_at state)) (held_of_work next) (WorkNext (next, Go))

    -- a flat table's run, of which no page was given so far
    run_begins : (give : GiveRunModel) (is : is_first_word give ≡ true)
        → (held_of_work (gives_at (gives.Run give)) ≡ holding None [])
        × (works.known_of_work (gives_at (gives.Run give)) ≡ knows_work MakesNothing (GivesBack s (InRun give.first give.pages)))
    run_begins give is = (
      ap (λ t. holding (cond t None (Some s)) (cond t [] (pages_of_give_run give))) is,
      ap (λ t. knows_work (cond t MakesNothing (HasBack s (pages_of_give_run give)))
          (cond t (GivesBack s (InRun give.first give.pages)) Works)) is,
    )

    -- and one of which some were
    run_goes_on : (give : GiveRunModel) (is : is_first_word give ≡ false)
        → (held_of_work (gives_at (gives.Run give)) ≡ holding (Some s) (pages_of_give_run give))
        × (works.known_of_work (gives_at (gives.Run give)) ≡ knows_work (HasBack s (pages_of_give_run give)) Works)
    run_goes_on give is = (
      ap (λ t. holding (cond t None (Some s)) (cond t [] (pages_of_give_run give))) is,
      ap (λ t. knows_work (cond t MakesNothing (HasBack s (pages_of_give_run give)))
          (cond t (GivesBack s (InRun give.first give.pages)) Works)) is,
    )

    shape_loaded : WorkKnows (gives_at gives.Shape) M G → Give_step gives.Shape
    shape_loaded known =
        let op = give_table_plan_at g s gives.Shape in
        let shape = M (Slot s ShapeWord) in
        let run = give_run_new g (run_first g shape) (run_pages g shape) in
        let begins = run_begins run (eq-eqb (run_first g shape / 64) (run_first g shape / 64) refl) in
        cond_both {A = GiveTableAt} (is_nested shape) _ _ (λ state. Leads op None [] (gives_at state))
        (λ t. alone (GivesBack s (AtTop shape 0)) (GivesBack s (AtTop shape 0)) (gives_at (gives.TopEntry shape 0)) refl refl
        (λ M' G' w k. k)
        (loaded (GivesBack s Over) (GivesBack s (AtTop shape 0)) refl known (shape_nested env mix c M G whole s t)))
        (λ f. alone (GivesBack s (InRun (run_first g shape) (run_pages g shape)))
        (GivesBack s (InRun (run_first g shape) (run_pages g shape))) (gives_at (gives.Run run)) begins.0 begins.1
        (λ M' G' w k. k)
        (loaded (GivesBack s Over) (GivesBack s (InRun (run_first g shape) (run_pages g shape))) refl known
        (shape_flat env mix c M G whole s f)))

    -- what the call has behind an operation of a run's giving back
    abbrev rest : GiveRunModel × Next (Unit {0}) → List ℕ
    rest = given_behind env mix c holds_work_lock (about env mix c holds_work_lock words G all whole Works) words G all whole

    -- behind the first word of a run others come, or the slot is freed
    run_leads : {op : Op} {slot : Option ℕ} {pages : List ℕ} (give : GiveRunModel) (word : ℕ) → give.first / 64 ≤ give.index
        → let r = give_run_after give word in
        SilentStep env mix c words G op (holding slot pages) (holding (Some s) (rest r))
        (knowing (Some s) (rest r) (HasBack s (rest r)) Works)
        → Leads op slot pages (gives_at (run_returned r.0 r.1))
    run_leads {op} {slot} {pages} give word past =
        let next = record give { index = give.index + 1 } in
        let on = run_goes_on next (ne_eqb (give.index + 1) (give.first / 64) (λ e. absurd (omega (arith, e, past)))) in
        cond_both {A = GiveRunModel × Next (Unit {0})} (nat_lt (64 * (give.index + 1)) (give.first + give.pages)) _ _
        (λ r. SilentStep env mix c words G op (holding slot pages) (holding (Some s) (rest r))
        (knowing (Some s) (rest r) (HasBack s (rest r)) Works) → Leads op slot pages (gives_at (run_returned r.0 r.1)))
        (λ t step. leads (gives_at (gives.Run next)) (inl (ap (λ (x : Holding). x.answer) on.0)) refl
        (on.0 ∙ ap (λ a. record (holding (Some s) (pages_of_give_run next)) { answer = a })
        (sym (ap (λ (x : Holding). x.answer) on.0))) on.1 step)
        (λ f step. leads (gives_at gives.FreeSlot) (inl refl) refl refl refl step)

    run_given : (give : GiveRunModel) → IsGiveTableAtIn g (gives.Run give) → WorkKnows (gives_at (gives.Run give)) M G
        → Give_step (gives.Run give)
    run_given give is known = go (is_first_word give) refl
      where
        here_is : (h : Holding) (k : Known) → held_of_work (gives_at (gives.Run give)) ≡ h
            → works.known_of_work (gives_at (gives.Run give)) ≡ k → Knowing env mix c h k M G
        here_is h k held is_known =
            subst (λ x. Knowing env mix c x k M G) held
            (subst (λ x. Knowing env mix c (held_of_work (gives_at (gives.Run give))) x M G) is_known known)

        from_here : (slot : Option ℕ) (pages : List ℕ) → held_of_work (gives_at (gives.Run give)) ≡ holding slot pages
            → let r = give_run_after give (old_of words (give_run_plan give)) in
            Leads (give_run_plan give) slot pages (gives_at (run_returned r.0 r.1)) → Give_step (gives.Run give)
        from_here slot pages held =
            let r = give_run_after give (old_of words (give_run_plan give)) in
            let next = gives_at (run_returned r.0 r.1) in
            subst (λ x. Step env mix c calls.Work words G (give_run_plan give) x (held_of_work next) (WorkNext (next, Go)))
            (sym held)

        go : (first : Bool) → is_first_word give ≡ first → Give_step (gives.Run give)
        go true e =
            let begins = run_begins give e in
            let same : give.index ≡ give.first / 64 = eqb-true give.index (give.first / 64) e in
            let new : give_run_new g give.first give.pages ≡ give =
            ap (λ i. record { geometry = g; first = give.first; pages = give.pages; index = i }) (sym same)
            ∙ ap (λ k. record { geometry = k; first = give.first; pages = give.pages; index = give.index }) (sym is.geometry_same) in
            from_here None [] begins.0
            (run_leads give (old_of words (give_run_plan give)) (omega (arith, same))
            (subst (λ m. let r = give_run_after m (old_of words (give_run_plan m)) in
            SilentStep env mix c words G (give_run_plan m) (holding None []) (holding (Some s) (rest r))
            (knowing (Some s) (rest r) (HasBack s (rest r)) Works)) new
            (take_back_run_step env mix c holds_work_lock words G all whole refl s give.first give.pages is.run
            (subst (IsRunWord give.first give.pages) same is.word)
            (here_is (holding None []) (knows_work MakesNothing (GivesBack s (InRun give.first give.pages))) begins.0 begins.1))))
        go false e =
            let on = run_goes_on give e in
            let past : give.first / 64 ≤ give.index = (let from = is.word.from in omega (arith, from)) in
            from_here (Some s) (pages_of_give_run give) on.0
            (run_leads give (old_of words (give_run_plan give)) past
            (give_rest_step env mix c holds_work_lock words G all whole s give is
            (here_is (holding (Some s) (pages_of_give_run give)) (knows_work (HasBack s (pages_of_give_run give)) Works) on.0 on.1)))

    -- ---- of a nested one

    top_loaded : (shape top : ℕ) → top < 64 → WorkKnows (gives_at (gives.TopEntry shape top)) M G
        → (led : Option ℕ) → page_of g.pages (M (PageWord (64 * top_page g shape + top))) ≡ led
        → Leads (give_table_plan_at g s (gives.TopEntry shape top)) None [] (gives_at (top_seen shape top led))
    top_loaded shape top l known None led =
        top_leads shape top (loaded (GivesBack s (AtTop shape top)) (GivesBack s (AtTop shape (top + 1))) refl known
        (top_none env mix c M G whole s shape top l led))
    top_loaded shape top l known (Some page) led =
        let op = give_table_plan_at g s (gives.TopEntry shape top) in
        let before = GivesBack s (AtTop shape top) in
        cond_both {A = GiveTableAt} (is_deep shape) _ _ (λ state. Leads op None [] (gives_at state))
        (λ t.
        let known_then = GivesBack s (AtLeaf shape top page 0) in
        alone known_then known_then (gives_at (gives.LeafEntry shape top page 0)) refl refl (λ M' G' w k. k)
        (loaded before known_then refl known (top_deep env mix c M G whole s shape top page l t led)))
        (λ f.
        let known_then = GivesBack s (ClearsTop shape top page) in
        alone known_then known_then (gives_at (gives.ClearTop shape top page)) refl refl (λ M' G' w k. k)
        (loaded before known_then refl known (top_shallow env mix c M G whole s shape top page l f led)))

    leaf_loaded : (shape top page leaf : ℕ) → top < 64 → leaf < 64 → WorkKnows (gives_at (gives.LeafEntry shape top page leaf)) M G
        → (led : Option ℕ) → page_of g.pages (M (PageWord (64 * page + leaf))) ≡ led
        → Leads (give_table_plan_at g s (gives.LeafEntry shape top page leaf)) None [] (gives_at (leaf_seen shape top page leaf led))
    leaf_loaded shape top page leaf l k known None led =
        leaf_leads shape top page leaf
        (loaded (GivesBack s (AtLeaf shape top page leaf)) (GivesBack s (AtLeaf shape top page (leaf + 1))) refl known
        (leaf_none env mix c M G whole s shape top page leaf l k led))
    leaf_loaded shape top page leaf l k known (Some below) led =
        let known_then = GivesBack s (ClearsLeaf shape top page leaf below) in
        alone known_then known_then (gives_at (gives.ClearLeaf shape top page leaf below)) refl refl (λ M' G' w k. k)
        (loaded (GivesBack s (AtLeaf shape top page leaf)) known_then refl known
        (leaf_some env mix c M G whole s shape top page leaf below l k led))

    -- ---- state by state

    give_step : (state : GiveTableAt) → IsGiveTableAtIn g state → WorkKnows (gives_at state) M G → Give_step state
    give_step gives.Shape is known = shape_loaded known
    give_step (gives.Run give) is known = run_given give is known
    give_step (gives.TopEntry shape top) is known =
        top_loaded shape top is known (page_of g.pages (M (PageWord (64 * top_page g shape + top)))) refl
    give_step (gives.LeafEntry shape top page leaf) is known =
        leaf_loaded shape top page leaf is.above.top_in is.leaf_in known (page_of g.pages (M (PageWord (64 * page + leaf)))) refl
    give_step (gives.ClearLeaf shape top page leaf below) is known =
        leads (gives_at (gives.GiveLeaf shape top page leaf below)) (inl refl) refl refl refl
        (withdraw_leaf_step env mix c holds_work_lock words G all whole refl s shape top page leaf below is.entry.above.top_in
        is.entry.leaf_in known)
    give_step (gives.GiveLeaf shape top page leaf below) is known =
        leaf_leads shape top page leaf
        (give_page_step env mix c holds_work_lock words G all whole below is.below_in
        (GivesBack s (AtLeaf shape top page (leaf + 1))) known)
    give_step (gives.ClearTop shape top page) is known =
        leads (gives_at (gives.GivePage shape top page)) (inl refl) refl refl refl
        (withdraw_top_step env mix c holds_work_lock words G all whole refl s shape top page is.top_in known)
    give_step (gives.GivePage shape top page) is known =
        top_leads shape top
        (give_page_step env mix c holds_work_lock words G all whole page is.page_in (GivesBack s (AtTop shape (top + 1))) known)
    give_step (gives.GiveTop shape) is known =
        leads (gives_at gives.FreeSlot) (inl refl) refl refl refl
        (take_back_top_step env mix c holds_work_lock words G all whole refl s shape known)
    give_step gives.FreeSlot is known =
        slot_leads (returns.Giving (giving gives.FreeSlot)) s (free_slot_step env mix c holds_work_lock words G all whole s known)

  -- ---- all states

  return_step_at : (state : ReturnTablesAt) → IsReturnTablesAtIn g state → WorkKnows (here state) M G → Next_step state
  return_step_at (returns.State s) is known = state_loaded s is known
  return_step_at (returns.KeptWord s caller) is known = kept_loaded s caller is.caller_in known
  return_step_at (returns.SectionWord s caller kept) is known = section_loaded s caller kept known
  return_step_at (returns.Giving give) is known =
      subst (λ (k : Geometry). Next_step (returns.Giving (record { geometry = k; slot = give.slot; at = give.at })))
      (sym is.geometry_same) (give_step give.slot give.at is.at_in known)

  -- an operation of the giving back: what the caller knows at its state leads to what it knows behind it
  pub return_step : (m : ReturnTablesModel) → IsReturnTablesIn g m → WorkKnows (at.Returning m) M G
      → works.WorkStep env mix c words G (at.Returning m)
  return_step m is known =
      subst (λ (k : Geometry). works.WorkStep env mix c words G (at.Returning (record { geometry = k; at = m.at })))
      (sym is.geometry_same) (return_step_at m.at is.at_in known)
