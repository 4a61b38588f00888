-- How a bind grows the table: it wants a further one, makes it, attaches it or gives it back, and ends or
-- begins its next attempt.
use Rattle.std.proofs.Common.{◌≡◌, ◌≢◌, ℕ, ◌+◌, ◌<◌, List, [], length, min, nat_eq, ◌*◌, ◌-◌, ◌==◌, Option, Some, None, Bool, true, cond, refl, sym, ◌∙◌, ap, subst, inl}
use Rattle.std.specs.Prelude.{option_map}
use Rattle.std.proofs.lemmas.Bool.{ne_eqb, eqb-true, eqb-false, both_ways}
use Rattle.rht_words.specs.declared.env.Env.{Env}
use Rattle.rht_words.specs.declared.op.Op.{Op}
use Rattle.rht_words.specs.declared.machine.Next.{Next}
use Rattle.rht_words.specs.declared.machine.Next.TheVariants.{Go, Done}
use Rattle.rht_words.specs.declared.geometry.Geometry.{Geometry}
use Rattle.rht_words.specs.Links.{table_of, future_of}
use Rattle.rht_words.specs.Operations.{old_of, word_after, applied}
use Rattle.rht_words.specs.Places.{PortCount, Slot, SeedWord, FutureWord, SerialWord, words_in}
use Rattle.rht_words.proofs.Memory.{Memory, IsWrite, is_write}
use Rattle.rht_words.specs.Members.{In}
use Rattle.rht_policy.specs.Thresholds.{is_above_75}
use Rattle.rht_nest.specs.Tables.{pages_of_shape}
use Rattle.rht_nest.specs.Make.{MakeModel, make_plan, make_after_at, slot_of_make, pages_of_make}
use Rattle.rht_nest.specs.declared.make.MakeAt.{MakeAt}
use Rattle.rht_nest.specs.Unmake.{UnmakeModel, unmake_new, unmake_plan, unmake_after_at, pages_of_unmake}
use Rattle.rht_nest.specs.declared.unmake.UnmakeAt.{UnmakeAt}
use Rattle.rht_nest.proofs.TablePages.{page_of_table, pages_of_table-shape, pages_of_unmake-table}
use Rattle.rht_model.specs.declared.history.Call.{Call}
use Rattle.rht_model.specs.declared.history.Call.TheVariants as calls
use Rattle.rht_model.specs.declared.history.Reply.{Reply}
use Rattle.rht_model.specs.declared.history.Reply.TheVariants.{Again, Busy, NoTable}
use Rattle.rht_model.specs.Multimap.{Multimap}
use Rattle.rht_model.specs.Answers.{plain}
use Rattle.rht_bind.specs.Bind.{plan_at, IsBindAtIn}
use Rattle.rht_bind.specs.Endings.{answering}
use Rattle.rht_bind.specs.Growing.{want_or_busy, making, size_grown, made, ended_attempt, behind_attempt, refused_or_found, has_attached, unmade}
use Rattle.rht_bind.specs.BindHeld.{held_of_bind, holds_node}
use Rattle.rht_bind.specs.declared.bind.Attempt.{Attempt}
use Rattle.rht_bind.specs.declared.bind.growth.Growing.{Growing}
use Rattle.rht_bind.specs.declared.bind.growth.Refusal.{Refusal}
use Rattle.rht_bind.specs.declared.bind.growth.Refusal.TheVariants as refusals
use Rattle.rht_bind.specs.declared.bind.BindAt.{BindAt}
use Rattle.rht_bind.specs.declared.bind.BindAt.TheVariants as at
use Rattle.rht_ghost.proofs.Theory.Ghosts.{put_in, put_in-all, PageOf, PageHeld, slot_holder, Live, is_page_for, made_table, put, put-all, Ghost}
use Rattle.rht_ghost.proofs.Theory.Wholes.{Whole, IsAt, at-there}
use Rattle.rht_ghost.proofs.Theory.Knowns.{Nowhere, Unlocked, MakesNothing, HasMade}
use Rattle.rht_ghost.proofs.Theory.Knowledge.{plainly, Knowing}
use Rattle.rht_ghost.proofs.Theory.Answering.{Tells, keeps}
use Rattle.rht_ghost.proofs.Theory.Steps.{answered-map, Attaches, Holding, by_test, mem, owners, SilentStep, still_has, answered, reads, silent}
use Rattle.rht_ghost.proofs.Theory.Readiness.{IsAttaching}
use Rattle.rht_ghost.proofs.Theory.TableFrames.{Knowing-retabled}
use Rattle.rht_ghost.proofs.Moves.Slots.{table_word-apart}
use Rattle.rht_ghost.proofs.Moves.Attaching.{is_page-for, attach, attached_kept}
use Rattle.rht_ghost.proofs.Pieces.Holdings.{holding, knowing}
use Rattle.rht_ghost.proofs.Pieces.Makes.{known_made, slot_made, made_with, make_step, known_given, slot_given, pages_given, unmake_step}
use Rattle.rht_bind.proofs.BindKnowledge.{own, knows_of, wants_table, known_of_bind}
use Rattle.rht_bind.proofs.BindKnowledge as binds

-- what a bind holds behind an attempt that has ended so
abbrev holds_behind : ℕ → Option Reply → Holding
holds_behind n answer = record (holds_node (Some n) None) { answer = option_map plain answer }

module _ (env : Env) (mix : ℕ → ℕ → ℕ → ℕ) (c : ℕ) (port owner : ℕ) (once : Bool)
    (words : List ℕ) (G : Ghost) (all : length words ≡ words_in env.geometry)
    (whole : Whole env mix (mem env mix words) G) where
  abbrev call : Call
  call = calls.Bind port owner once

  abbrev M : Memory
  M = mem env mix words

  -- the owners of each port now
  abbrev now : Multimap
  now = owners env mix M G

  abbrev BindKnows : BindAt → Memory → Ghost → Type 0
  BindKnows = binds.BindKnows env mix c port owner once

  abbrev BindNext : BindAt × Next Reply → Memory → Ghost → Type 0
  BindNext = binds.BindNext env mix c port owner once

  abbrev BindMoved : BindAt → BindAt × Next Reply → Type 0
  BindMoved = binds.BindMoved env mix c port owner once words G

  abbrev BindStep : BindAt → Type 0
  BindStep = binds.BindStep env mix c port owner once words G

  -- ---- a further table is wanted

  -- the count tells the size that is wanted, or the bind is refused
  pub want_next : (growing : Growing) (root : ℕ) → BindKnows (at.GrowthCount growing root) M G
      → BindMoved (at.GrowthCount growing root) (want_or_busy env growing root (M PortCount), Go)
  want_next growing root known =
      let from = at.GrowthCount growing root in
      let size = size_grown growing in
      let busy = at.FutureAgain growing (refusals.Busy root) in
      let same = nat_eq root growing.table in
      let makes : (wanted : ℕ) → BindMoved from (making env growing wanted, Go) =
      λ wanted. reads env mix whole refl refl (inl refl)
      (record { knowing = record { only = known.knowing.only; means = known.knowing.means }; fits = tt }) in
      by_test
      (λ t. BindMoved from
      (cond t (making env growing (2 * size)) (cond same (making env growing size) busy), Go))
      (is_above_75 (min (M PortCount) 65536) size env.config.max)
      (λ t. makes (2 * size))
      (λ f.
      by_test (λ t. BindMoved from (cond t (making env growing size) busy, Go)) same
      (λ t. makes size)
      (λ t. reads env mix whole refl refl (inl refl) (record { knowing = known.knowing; fits = tt })))

  -- ---- the end of an attempt

  -- what an attempt tells that has led to this table: a bind that tries but once has its answer, and another
  -- none
  attempt_tells : (n table : ℕ)
      → Tells env.config.kind c call (Some n) now None (option_map plain (ended_attempt once table))
  attempt_tells n table =
      by_test (λ t. Tells env.config.kind c call (Some n) now None
      (option_map plain (cond t (Some (Again table)) None))) once
      (λ is. binds.refused env mix c port owner once words G n (Again table) is refl (λ e. cc) refl tt
      refl)
      (λ is. inl refl)

  -- behind it the bind has its node, and knows nothing of a table
  behind_holds : (attempt : Attempt) (answer : Option Reply)
      → held_of_bind (behind_attempt attempt answer) ≡ holds_behind attempt.node answer
  behind_holds attempt None = refl
  behind_holds attempt (Some reply) = refl

  behind_knows : (attempt : Attempt) (answer : Option Reply) (M' : Memory) (G' : Ghost)
      → Knowing env mix c (holds_behind attempt.node answer)
      (knows_of port owner (own port owner attempt.node) Nowhere Unlocked) M' G'
      → BindKnows (behind_attempt attempt answer) M' G'
  behind_knows attempt None M' G' k = record { knowing = k; fits = tt }
  behind_knows attempt (Some reply) M' G' k = record { knowing = k; fits = tt }

  -- the future of the last table was loaded again: a bind is refused where there is none
  refused_by : (growing : Growing) (refusal : Refusal) (reply : Reply)
      → Tells env.config.kind c call (Some growing.attempt.node) now None (Some (plain reply))
      → BindKnows (at.FutureAgain growing refusal) M G
      → BindMoved (at.FutureAgain growing refusal) (answering growing.attempt.node reply, Go)
  refused_by growing refusal reply tells known =
      reads env mix whole refl refl tells
      (record { knowing = plainly env mix known.knowing.only known.knowing.means.node tt tt; fits = tt })

  pub refused_next : (growing : Growing) (refusal : Refusal) (future : Option ℕ)
      → BindKnows (at.FutureAgain growing refusal) M G
      → BindMoved (at.FutureAgain growing refusal) (refused_or_found once growing refusal future, Go)
  refused_next growing (refusals.Busy root) None known =
      let n = growing.attempt.node in
      let reply = Busy root growing.table in
      refused_by growing (refusals.Busy root) reply
      (binds.refused env mix c port owner once words G n reply tt refl (λ e. cc) refl tt refl) known
  refused_next growing (refusals.NoTable size) None known =
      let n = growing.attempt.node in
      let reply = NoTable size in
      refused_by growing (refusals.NoTable size) reply
      (binds.refused env mix c port owner once words G n reply tt refl (λ e. cc) refl tt refl) known
  refused_next growing why (Some table) known =
      let n = growing.attempt.node in
      let answer = ended_attempt once table in
      rw (behind_holds growing.attempt answer)
      (reads env mix whole refl refl (attempt_tells n table)
      (behind_knows growing.attempt answer M G
      (plainly env mix known.knowing.only known.knowing.means.node tt tt)))

  -- ---- the table is made, or given back

  -- the making goes on, or it has ended, with a table or without
  made_next : (growing : Growing) (size : ℕ) (make : MakeModel) (r : MakeAt × Next (Option (ℕ × ℕ)))
      → let h = holds_node (Some growing.attempt.node) None in
      let k = wants_table port owner growing in
      SilentStep env mix c words G (make_plan make)
      (holding env mix c h k (slot_of_make make.at) (pages_of_make make.exponent make.at))
      (holding env mix c h k (slot_made r) (made_with env mix c h k words G all whole make.exponent r))
      (knowing env mix c h k (slot_made r) (made_with env mix c h k words G all whole make.exponent r)
      (known_made make.exponent make.seed r))
      → BindMoved (at.Making growing size make) (made growing size (record make { at = r.0 }) r.1, Go)
  made_next growing size make (state, Go) step =
      answered-map env mix None (inl refl) (still_has refl)
      (λ M' G' w k. record { knowing = k; fits = tt }) step
  made_next growing size make (state, Done None) step =
      answered-map env mix None (inl refl) (still_has refl)
      (λ M' G' w k. record { knowing = k; fits = tt }) step
  made_next growing size make (state, Done (Some table)) step =
      let h = holds_node (Some growing.attempt.node) None in
      let k = wants_table port owner growing in
      let same = pages_of_table-shape env.geometry table.1 step.knows.means.making.fits in
      answered-map env mix None (inl refl) (still_has refl)
      (λ M' G' w k. record { knowing = k; fits = tt })
      (subst (λ pages. SilentStep env mix c words G (make_plan make) (held_of_bind (at.Making growing size make))
      (holding env mix c h k (Some table.0) pages)
      (knowing env mix c h k (Some table.0) pages (HasMade table.0 table.1))) same step)

  pub making_step : (growing : Growing) (size : ℕ) (make : MakeModel)
      → let here = at.Making growing size make in
      IsBindAtIn env here → BindKnows here M G → BindStep here
  making_step growing size make is known =
      let old = old_of words (make_plan make) in
      subst (λ (g : Geometry). let r = make_after_at g make.exponent make.nested make.at old in
      BindMoved (at.Making growing size make) (made growing size (record make { at = r.0 }) r.1, Go))
      (sym is.make_in.geometry_same)
      (made_next growing size make
      (make_after_at env.geometry make.exponent make.nested make.at old)
      (make_step env mix c (holds_node (Some growing.attempt.node) None)
      (wants_table port owner growing) words G all whole
      make is.make_in is.seed_same known.knowing))

  -- the table is given back, and then the attempt has ended
  unmade_next : (attempt : Attempt) (unmake : UnmakeModel) (answer : Option Reply)
      (r : UnmakeAt × Next (Unit {0}))
      → let h = holds_behind attempt.node answer in
      let k = knows_of port owner (own port owner attempt.node) Nowhere Unlocked in
      SilentStep env mix c words G (unmake_plan unmake)
      (holding env mix c h k (Some unmake.slot) (pages_of_unmake unmake.at))
      (holding env mix c h k (slot_given env mix c h k words G all whole unmake.slot r)
      (pages_given env mix c h k words G all whole r))
      (knowing env mix c h k (slot_given env mix c h k words G all whole unmake.slot r)
      (pages_given env mix c h k words G all whole r)
      (known_given env mix c h k words G all whole unmake.slot r))
      → BindMoved (at.Unmaking attempt unmake answer)
      (unmade attempt answer (record unmake { at = r.0 }) r.1, Go)
  unmade_next attempt unmake answer (state, Go) step =
      let told = option_map plain answer in
      answered-map env mix told (inl (keeps told)) (still_has refl)
      (λ M' G' w k. record { knowing = k; fits = tt }) step
  unmade_next attempt unmake answer (state, Done done) step =
      let told = option_map plain answer in
      rw (behind_holds attempt answer)
      (answered-map env mix told (inl (keeps told)) (still_has refl)
      (λ M' G' w k. behind_knows attempt answer M' G' k) step)

  pub unmaking : (attempt : Attempt) (unmake : UnmakeModel) (answer : Option Reply)
      → let here = at.Unmaking attempt unmake answer in
      IsBindAtIn env here → BindKnows here M G → BindStep here
  unmaking attempt unmake answer is known =
      unmade_next attempt unmake answer
      (unmake_after_at unmake.at (old_of words (unmake_plan unmake)))
      (unmake_step env mix c (holds_behind attempt.node answer)
      (knows_of port owner (own port owner attempt.node) Nowhere Unlocked) words G all whole unmake
      is.unmake_in known.knowing)

  -- ---- the table is attached

  module _ (growing : Growing) (slot shape : ℕ) (within : growing.table < 8)
      (known : BindKnows (at.Attaching growing slot shape) M G) where
    abbrev op : Op
    op = plan_at env c (at.Attaching growing slot shape)

    abbrev n : ℕ
    n = growing.attempt.node

    abbrev found : ℕ
    found = M (Slot growing.table FutureWord)

    abbrev at_last : IsAt G growing.table
    at_last = known.knowing.means.table.at

    abbrev τ : ℕ
    τ = at_last.table

    -- what the bind holds with the table, and what it knows
    abbrev has_table_made : Holding
    has_table_made = held_of_bind (at.Attaching growing slot shape)

    abbrev seed : ℕ
    seed = M (Slot slot SeedWord)

    abbrev serial : ℕ
    serial = M (Slot slot SerialWord)

    -- a page that it has is one of the run
    of_run : (p : ℕ) → In p (pages_of_shape shape) → is_page_for shape p ≡ true
    of_run p has =
        let is = page_of_table shape p has in
        is_page-for shape p is.from is.below

    -- where it found none behind it, the table in that slot is the last one
    won : found ≡ 0
        → BindMoved (at.Attaching growing slot shape)
        (behind_attempt (has_attached growing.attempt) (ended_attempt once slot), Go)
    won none =
        let is_there = at-there at_last in
        let made_is = known.knowing.means.making in
        let M' = mem env mix (applied words op) in
        let ready : IsAttaching env mix c slot shape seed serial M G = record { made = made_is; seed_is = refl; serial_is = refl } in
        let value : word_after (old_of words op) op ≡ future_of slot =
        ap (λ w. cond (w == 0) (future_of slot) w) none in
        let here : IsWrite env.geometry M M' (Slot growing.table FutureWord) (future_of slot) =
        subst (λ v. IsWrite env.geometry M M' (Slot growing.table FutureWord) v) value
        (is_write env.geometry words (Slot growing.table FutureWord) op all (within, tt) refl) in
        let none_there : M (Slot (G.table τ).slot FutureWord) ≡ 0 =
        subst (λ s. M (Slot s FutureWord) ≡ 0) (sym at_last.slot_is) none in
        let write : IsWrite env.geometry M M' (Slot (G.table τ).slot FutureWord) (future_of slot) =
        subst (λ s. IsWrite env.geometry M M' (Slot s FutureWord) (future_of slot)) (sym at_last.slot_is) here in
        let made =
        attach env mix c slot shape seed serial τ M M' G whole ready is_there none_there write in
        let kept =
        attached_kept env mix c slot shape seed serial τ M M' G whole ready is_there none_there write in
        let answer = ended_attempt once slot in
        let attempt = has_attached growing.attempt in
        let next = behind_attempt attempt answer in
        let k = known.knowing in
        rw (behind_holds attempt answer)
        (answered env mix (option_map plain answer) (attempt_tells n slot) (still_has refl)
        (silent env mix c words G op has_table_made (holds_node (Some n) None) (BindNext (next, Go))
        (Attaches slot shape seed serial) whole ready tt made
        (record {
          last = growing.table;
          within = within;
          attaching = refl;
          found = none;
          has = refl;
          holds = refl;
        })
        (let left =
        Knowing-retabled env mix M M' G (put G.table G.attached (made_table slot shape seed serial))
        (G.attached + 1) (put G.slot slot (Live G.attached))
        (put_in (is_page_for shape) (PageOf G.attached) G.page) whole kept
        (Slot (G.table τ).slot FutureWord) (future_of slot) write
        (table_word-apart G (G.table τ).slot FutureWord tt) c
        has_table_made (known_of_bind port owner (at.Attaching growing slot shape)) None [] MakesNothing k
        (put-all (λ s o. slot_holder o ≡ Some c → ◌≡◌ {A = Option ℕ} None (Some s)) G.slot slot (Live G.attached)
        (λ e. absurd (cc)) (λ s ne held. let same = k.only.slots s held in absurd (ne (cc))))
        (λ p. put_in-all (λ q o. o ≡ PageHeld c → In q []) (is_page_for shape) (PageOf G.attached) G.page
        (λ q there e. absurd (cc))
        (λ q there held. absurd (both_ways (is_page_for shape q) there (of_run q (k.only.pages_in q held))))
        p) tt in
        behind_knows attempt answer M' _ (plainly env mix left.only left.means.node tt tt))))

    lost : found ≢ 0
        → BindMoved (at.Attaching growing slot shape) (
          at.Unmaking growing.attempt (unmake_new env.geometry slot shape)
              (ended_attempt once (table_of (found - 1))),
          Go,
        )
    lost some =
        let answer = ended_attempt once (table_of (found - 1)) in
        let k = known.knowing in
        let pages = pages_of_unmake-table env.geometry shape slot
        ∙ pages_of_table-shape env.geometry shape k.means.making.fits in
        reads env mix whole
        (ap (λ t. cond t (future_of slot) found) (ne_eqb found 0 some))
        (ap (λ ps. record (holds_behind n answer) { slot = Some slot; pages = ps }) pages)
        (attempt_tells n (table_of (found - 1)))
        (record {
          knowing = record {
            only = record {
              nodes = k.only.nodes;
              locks = k.only.locks;
              raising = k.only.raising;
              slots = k.only.slots;
              pages_in = λ p held. subst (In p) (sym pages) (k.only.pages_in p held);
              works = k.only.works;
              reads = k.only.reads;
            };
            means = record {
              node = k.means.node;
              table = tt;
              bucket = tt;
              making = record {
                slot = record { has = k.means.making.has; shape = tt; seed = tt; future = tt; serial = tt };
                mine = λ p given.
                    let is = page_of_table shape p (subst (In p) pages given) in
                    k.means.making.run p is.from is.below;
              };
              work = tt;
            };
          };
          fits = tt;
        })

  pub attaching : (growing : Growing) (slot shape : ℕ)
      → let here = at.Attaching growing slot shape in
      IsBindAtIn env here → BindKnows here M G → BindStep here
  attaching growing slot shape is known =
      let found = M (Slot growing.table FutureWord) in
      let within = is.growing_in.table_in in
      by_test (λ t. BindMoved (at.Attaching growing slot shape) (
        cond t (behind_attempt (has_attached growing.attempt) (ended_attempt once slot))
            (at.Unmaking growing.attempt (unmake_new env.geometry slot shape)
            (ended_attempt once (table_of (found - 1)))),
        Go,
      )) (found == 0)
      (λ t. won growing slot shape within known (eqb-true found 0 t))
      (λ f. lost growing slot shape within known (eqb-false found 0 f))
