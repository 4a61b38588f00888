-- How a resizing comes to the last table, and has one attached behind it where one is due.
use Rattle.std.proofs.Common.{◌≡◌, ℕ, ◌<◌, ◌==◌, ◌||◌, Bool, true, false, List, length, cond, Option, Some, None, refl, sym, ◌∙◌, ap, subst, inl, arith}
use Rattle.std.proofs.lemmas.Bool.{cond_both, or_parts, eqb-true, eqb-false}
use Rattle.rht_words.specs.declared.env.Env.{Env}
use Rattle.rht_words.specs.declared.op.Op.{Op}
use Rattle.rht_words.specs.declared.geometry.Geometry.{Geometry}
use Rattle.rht_words.specs.declared.machine.Next.{Next}
use Rattle.rht_words.specs.declared.machine.Next.TheVariants.{Go, Done}
use Rattle.rht_words.specs.Held as held
use Rattle.rht_words.specs.Links.{table_of, slot_of, future_of}
use Rattle.rht_words.specs.Operations.{old_of, applied}
use Rattle.rht_words.specs.Places.{CurrentTable, Slot, ShapeWord, FutureWord, words_in}
use Rattle.rht_words.proofs.Memory.{Memory, is_write}
use Rattle.rht_nest.proofs.TablePages.{pages_of_table-shape}
use Rattle.rht_nest.specs.Make.{MakeModel, make_plan, make_after_at}
use Rattle.rht_nest.specs.declared.make.MakeAt.{MakeAt}
use Rattle.rht_nest.specs.Unmake.{UnmakeModel, unmake_new, unmake_plan, unmake_after_at}
use Rattle.rht_nest.specs.declared.unmake.UnmakeAt.{UnmakeAt}
use Rattle.rht_model.specs.declared.history.Call.TheVariants as calls
use Rattle.rht_model.specs.declared.history.Reply.{Reply}
use Rattle.rht_model.specs.declared.history.Reply.TheVariants as replies
use Rattle.rht_model.specs.Multimap.{Multimap}
use Rattle.rht_model.specs.Answers.{plain}
use Rattle.rht_move.specs.declared.last_table.Last.{Last}
use Rattle.rht_move.specs.declared.last_table.LastTableAt.{LastTableAt}
use Rattle.rht_move.specs.declared.last_table.LastTableAt.TheVariants as seeks
use Rattle.rht_move.specs.declared.work.choice.Choice.{Choice}
use Rattle.rht_move.specs.declared.work.choice.Choice.TheVariants.{Attach, Later, Nothing}
use Rattle.rht_move.specs.declared.work.Wanted.{Wanted}
use Rattle.rht_move.specs.declared.work.Due.TheVariants as dues
use Rattle.rht_move.specs.declared.work.Outcome.TheVariants.{NoTable}
use Rattle.rht_move.specs.declared.work.WorkAt.{WorkAt}
use Rattle.rht_move.specs.declared.work.WorkAt.TheVariants as at
use Rattle.rht_nest.specs.Tables.{is_nested}
use Rattle.rht_move.specs.Choice.{chosen, choice_of}
use Rattle.rht_move.specs.LastTable.{last_table_new, next_or_shape}
use Rattle.rht_move.specs.Work.{plan_at, returning, letting_go, begun, made, not_made, unmade, IsWorkAtIn}
use Rattle.rht_move.specs.WorkHeld.{holds_work, holds_table, held_of_work}
use Rattle.rht_ghost.proofs.Theory.Ghosts.{Ghost}
use Rattle.rht_ghost.proofs.Theory.Wholes.{Whole}
use Rattle.rht_ghost.proofs.Theory.Knowns.{MakesNothing, NoAim, Onward, From, KnownWork, Works, Rooted}
use Rattle.rht_ghost.proofs.Theory.Knowledge.{Knowing}
use Rattle.rht_ghost.proofs.Theory.Answering.{Tells}
use Rattle.rht_ghost.proofs.Theory.Steps.{answered-map, Holding, mem, owners, SilentStep, with_knowledge, Step, still_has}
use Rattle.rht_ghost.proofs.Pieces.Makes.{slot_made, made_with, known_made, make_step, slot_given, pages_given, known_given, unmake_step}
use Rattle.rht_ghost.proofs.Pieces.Attaches.{attach_step, lose_attach_step}
use Rattle.rht_ghost.proofs.Pieces.WorkLoads.{last_sought, root_seen, from_root, root_alone, other_behind, future_behind, last_seen}
use Rattle.rht_ghost.proofs.Pieces.WorkSteps.{knows_work}
use Rattle.rht_ghost.proofs.Pieces.WorkStores.{take_work_step, lose_work_step}
use Rattle.rht_move.specs.LastTable.{LastTableModel}
use Rattle.rht_move.proofs.WorkKnowledge.{last_aim, known_of_work}
use Rattle.rht_move.proofs.WorkLeads.{says, knows_that, leads, learning, load_early}
use Rattle.rht_move.proofs.WorkKnowledge as works
use Rattle.rht_move.proofs.WorkLeads as leading

last_aim-next : (slot : ℕ) (next : Option ℕ) → last_aim (next_or_shape slot next) ≡ last_sought slot next
last_aim-next slot None = refl
last_aim-next slot (Some next) = refl

-- a table that has to wait is due where the last one isn't the only one
later_other : (size smaller : ℕ) (full sparse alone nested : Bool)
    → chosen size smaller full sparse alone nested ≡ Later → alone ≡ false
later_other size smaller full sparse false nested is = refl
later_other size smaller true sparse true nested is = absurd (cc)
later_other size smaller false true true nested is = absurd (cc)
later_other size smaller false false true true is = absurd (cc)
later_other size smaller false false true false is = absurd (cc)

module _ (env : Env) (mix : ℕ → ℕ → ℕ → ℕ) (c : ℕ) (words : List ℕ) (G : Ghost)
    (all : length words ≡ words_in env.geometry) (whole : Whole env mix (mem env mix words) G) where
  abbrev M : Memory
  M = mem env mix words

  -- the owners of each port now
  abbrev now : Multimap
  now = owners env mix M G

  abbrev WorkKnows : WorkAt → Memory → Ghost → Type 0
  WorkKnows = works.WorkKnows env mix c

  abbrev WorkNext : WorkAt × Next Reply → Memory → Ghost → Type 0
  WorkNext = works.WorkNext env mix c

  abbrev WorkMoved : WorkAt → WorkAt × Next Reply → Type 0
  WorkMoved = works.WorkMoved env mix c words G

  abbrev WorkStep : WorkAt → Type 0
  WorkStep = works.WorkStep env mix c words G

  abbrev knowing : Holding → KnownWork → Memory → Ghost → Type 0
  knowing = leading.knowing env mix c

  -- ---- the work lock, and the last table

  pub take_lock : WorkKnows at.WorkLock M G → WorkStep at.WorkLock
  take_lock known =
      let word = old_of words (plan_at env c at.WorkLock) in
      cond_both (word == 0) _ _ (λ r. WorkMoved at.WorkLock r)
      (λ t. leads (returning env.geometry) (inl refl) refl refl refl
      (take_work_step env mix c held.holds_nothing words G all whole (eqb-true word 0 t) known))
      (λ f.
      answered-map env mix (Some (plain replies.Elsewhere)) (says replies.Elsewhere tt refl refl)
      (still_has refl)
      (λ M' G' w k. record { only = k.only; means = k.means })
      (lose_work_step env mix c held.holds_nothing words G all whole (eqb-false word 0 f) known))

  pub root_loaded : WorkKnows at.CurrentTable M G → WorkStep at.CurrentTable
  root_loaded known =
      let root = table_of (M CurrentTable) in
      load_early all whole Works (Rooted root (From root))
      (at.LastTable root (last_table_new env.geometry root)) refl known
      (λ k. from_root env mix c M G whole root (root_seen env mix c M G whole k)) refl refl

  seek_last : (root : ℕ) (state : LastTableAt)
      → let here = at.LastTable root (record { geometry = env.geometry; at = state }) in
      WorkKnows here M G → WorkStep here
  seek_last root (seeks.Future slot) known =
      let next = slot_of (M (Slot slot FutureWord)) in
      load_early all whole (Rooted root (From slot)) (Rooted root (last_sought slot next))
      (at.LastTable root (record { geometry = env.geometry; at = next_or_shape slot next })) refl known
      (last_seen env mix c M G whole root slot) refl
      (ap (λ aim. knows_work MakesNothing (Rooted root aim)) (last_aim-next slot next))
  seek_last root (seeks.Shape slot) known =
      load_early all whole (Rooted root (From slot)) (Rooted root (From slot))
      (at.Count root (record { table = slot; shape = M (Slot slot ShapeWord) })) refl known
      (λ k. k) refl refl

  pub seeking_last : (root : ℕ) (seek : LastTableModel)
      → let here = at.LastTable root seek in
      IsWorkAtIn env here → WorkKnows here M G → WorkStep here
  seeking_last root seek is known =
      subst (λ (g : Geometry). WorkStep (at.LastTable root (record { geometry = g; at = seek.at })))
      (sym is.seek_in.geometry_same) (seek_last root seek.at known)

  -- ---- a table that is due

  begin_due : (root : ℕ) (last : Last) (choice : Choice)
      → choice_of env (old_of words (plan_at env c (at.Count root last))) last.shape
      (root == last.table) ≡ choice
      → WorkKnows (at.Count root last) M G → WorkMoved (at.Count root last) (begun env root last choice, Go)
  begin_due root last (Attach size) is known =
      load_early all whole (Rooted root (From last.table)) (Rooted root (From last.table))
      (begun env root last (Attach size)) refl known (λ k. k) refl refl
  begin_due root last Later is known =
      let other = later_other _ _ _ _ (root == last.table) (is_nested last.shape) is in
      load_early all whole (Rooted root (From last.table)) (Rooted root Onward)
      (begun env root last Later) refl known
      (other_behind env mix c M G whole root last.table (eqb-false root last.table other)) refl refl
  begin_due root last Nothing is known =
      load_early all whole (Rooted root (From last.table)) (Rooted root NoAim)
      (begun env root last Nothing) refl known
      (root_alone env mix c M G whole root (From last.table)) refl refl

  pub count_loaded : (root : ℕ) (last : Last)
      → let here = at.Count root last in
      WorkKnows here M G → WorkStep here
  count_loaded root last known =
      begin_due root last
      (choice_of env (old_of words (plan_at env c (at.Count root last))) last.shape (root == last.table))
      refl known

  -- where there is none the call is refused, or the current table is moved
  none_made : (op : Op) (h : Holding) (wanted : Wanted) → h.node ≡ None → h.answer ≡ None
      → SilentStep env mix c words G op h holds_work
      (knowing holds_work (Rooted wanted.root (From wanted.last.table)))
      → Step env mix c calls.Work words G op h (held_of_work (not_made wanted))
      (WorkNext (not_made wanted, Go))
  none_made op h wanted node unknown step =
      let known = Rooted wanted.root (From wanted.last.table) in
      cond_both ((wanted.root == wanted.last.table) || is_nested wanted.last.shape) _ _
      (λ next. Step env mix c calls.Work words G op h (held_of_work next) (WorkNext (next, Go)))
      (λ t. leads (letting_go (NoTable wanted.size))
      (told (replies.NoTable wanted.size) (says (replies.NoTable wanted.size) tt refl refl))
      (sym node) refl refl
      (learning known Works (λ M' G' w k. record { works = k.works; more = tt }) step))
      (λ f.
      let other = eqb-false wanted.root wanted.last.table (or_parts _ _ f).0 in
      leads (at.RootFuture wanted.root dues.Later)
      (subst (λ a. Tells env.config.kind c calls.Work h.node now a None) (sym unknown) (inl refl))
      (sym node) refl refl
      (learning known (Rooted wanted.root Onward)
      (λ M' G' w k. other_behind env mix c M' G' w wanted.root wanted.last.table other k) step))
    where
      told : (reply : Reply) → Tells env.config.kind c calls.Work None now None (Some (plain reply))
          → Tells env.config.kind c calls.Work h.node now h.answer (Some (plain reply))
      told reply tells =
          subst (λ n. Tells env.config.kind c calls.Work n now h.answer (Some (plain reply))) (sym node)
          (subst (λ a. Tells env.config.kind c calls.Work None now a (Some (plain reply)))
          (sym unknown) tells)

  made_leads : (wanted : Wanted) (make : MakeModel) (r : MakeAt × Next (Option (ℕ × ℕ)))
      → let known = knows_work MakesNothing (Rooted wanted.root (From wanted.last.table)) in
      let pages = made_with env mix c holds_work known words G all whole make.exponent r in
      SilentStep env mix c words G (make_plan make) (held_of_work (at.Making wanted make))
      (holds_table (slot_made r) pages)
      (λ M' G'. Knowing env mix c (holds_table (slot_made r) pages)
      (record known { making = known_made make.exponent make.seed r }) M' G')
      → WorkMoved (at.Making wanted make) (made wanted (record make { at = r.0 }) r.1, Go)
  made_leads wanted make (state, Go) step =
      let next = at.Making wanted (record make { at = state }) in
      leads next (inl refl) refl refl refl step
  made_leads wanted make (state, Done None) step =
      none_made (make_plan make) (held_of_work (at.Making wanted make)) wanted refl refl step
  made_leads wanted make (state, Done (Some table)) step =
      let next = at.Attaching wanted.root wanted.last.table table.0 table.1 in
      let is = pages_of_table-shape env.geometry table.1 step.knows.means.making.fits in
      leads next (inl refl) refl refl refl
      (subst (λ ps. SilentStep env mix c words G (make_plan make) (held_of_work (at.Making wanted make))
      (holds_table (Some table.0) ps)
      (λ M' G'. Knowing env mix c (holds_table (Some table.0) ps) (known_of_work next) M' G')) is step)

  pub make_due : (wanted : Wanted) (make : MakeModel) → IsWorkAtIn env (at.Making wanted make)
      → WorkKnows (at.Making wanted make) M G → WorkStep (at.Making wanted make)
  make_due wanted make is known =
      let word = old_of words (make_plan make) in
      subst (λ (g : Geometry). let r = make_after_at g make.exponent make.nested make.at word in
      WorkMoved (at.Making wanted make) (made wanted (record make { at = r.0 }) r.1, Go))
      (sym is.make_in.geometry_same)
      (made_leads wanted make (make_after_at env.geometry make.exponent make.nested make.at word)
      (make_step env mix c holds_work
      (knows_work MakesNothing (Rooted wanted.root (From wanted.last.table))) words G all
      whole make is.make_in is.seed_same known))

  -- what is known while the table is attached that was made, with its pages in the other form
  pub attach_due : (root last slot shape : ℕ) → last < 8 → WorkKnows (at.Attaching root last slot shape) M G
      → WorkStep (at.Attaching root last slot shape)
  attach_due root last slot shape l known =
      let state = at.Attaching root last slot shape in
      let op = plan_at env c state in
      let word = old_of words op in
      let about = knows_work MakesNothing (Rooted root (From last)) in
      let is = pages_of_table-shape env.geometry shape known.means.making.fits in
      let knows = subst (λ ps. Knowing env mix c (holds_table (Some slot) ps) (known_of_work state) M G)
      (sym is) known in
      cond_both (word == 0) _ _ (λ next. WorkMoved state (next, Go))
      (λ t.
      let none = eqb-true word 0 t in
      let step =
      subst (λ ps. SilentStep env mix c words G op (holds_table (Some slot) ps) holds_work
      (knowing holds_work (Rooted root (From last)))) is
      (attach_step env mix c holds_work about words G all whole last slot shape
      known.means.work.more.aim_is.at none knows) in
      let write = is_write env.geometry words (Slot last FutureWord) op all (l, tt) refl in
      let future : mem env mix (applied words op) (Slot last FutureWord) ≡ future_of slot =
      write.same ∙ ap (λ w. cond (w == 0) (future_of slot) w) none in
      leads (at.RootFuture root dues.Attached) (inl refl) refl refl refl
      (with_knowledge env mix c words G op (held_of_work state) holds_work
      (knowing holds_work (Rooted root (From last)))
      (knowing holds_work (Rooted root Onward)) step
      (knows_that env mix c holds_work _ _ (Rooted root (From last)) (Rooted root Onward) step.knows
      (future_behind env mix c _ _ step.made.whole root last
      (λ e. absurd (omega (arith, future, e))) step.knows.means.work))))
      (λ f.
      let next = at.Unmaking root (unmake_new env.geometry slot shape) in
      let some = eqb-false word 0 f in
      leads next (inl refl) refl refl refl
      (subst (λ ps. SilentStep env mix c words G op (holds_table (Some slot) ps) (held_of_work next)
      (λ M' G'. Knowing env mix c (held_of_work next) (known_of_work next) M' G'))
      is (lose_attach_step env mix c holds_work
      (knows_work MakesNothing (Rooted root Onward)) words G all whole last slot
      shape some (record {
        only = knows.only;
        means = record {
          node = tt;
          table = tt;
          bucket = tt;
          making = knows.means.making;
          work = future_behind env mix c M G whole root last some knows.means.work;
        };
      }))))

  unmade_leads : (root : ℕ) (unmake : UnmakeModel) (r : UnmakeAt × Next (Unit {0}))
      → let about = knows_work MakesNothing (Rooted root Onward) in
      let pages = pages_given env mix c holds_work about words G all whole r in
      let slot = slot_given env mix c holds_work about words G all whole unmake.slot r in
      SilentStep env mix c words G (unmake_plan unmake) (held_of_work (at.Unmaking root unmake))
      (holds_table slot pages)
      (λ M' G'. Knowing env mix c (holds_table slot pages)
      (record about { making = known_given env mix c holds_work about words G all whole unmake.slot r }) M'
      G')
      → WorkMoved (at.Unmaking root unmake) (unmade root (record unmake { at = r.0 }) r.1, Go)
  unmade_leads root unmake (state, Go) step =
      let next = at.Unmaking root (record unmake { at = state }) in
      leads next (inl refl) refl refl refl step
  unmade_leads root unmake (state, Done done) step =
      leads (at.RootFuture root dues.Later) (inl refl) refl refl refl step

  pub unmake_due : (root : ℕ) (unmake : UnmakeModel)
      → let here = at.Unmaking root unmake in
      IsWorkAtIn env here → WorkKnows here M G → WorkStep here
  unmake_due root unmake is known =
      unmade_leads root unmake (unmake_after_at unmake.at (old_of words (unmake_plan unmake)))
      (unmake_step env mix c holds_work
      (knows_work MakesNothing (Rooted root Onward)) words G all whole unmake is.unmake_in known)
