-- What one operation makes of the draws of serials: it draws one for its caller, or attaches the caller's table, which has the caller's
-- draw from then on, or leaves all draws.
use Rattle.rht_callers.specs.Locals.{soft}
use Rattle.rht_core.proofs.Machines.HeldSteps.{soft-none}
use Rattle.std.proofs.Common.{◌≡◌, ◌≢◌, ℕ, suc, ◌+◌, ◌%◌, ◌^◌, ◌<◌, ◌⊎◌, cond, refl, sym, ap, ◌∙◌, subst, inl, inr, arith}
use Rattle.std.specs.Prelude.{Option, Some, None, ◌==◌}
use Rattle.std.proofs.lemmas.Bool.{eq-eqb, ne_eqb}
use Rattle.rht_words.specs.declared.op.Op.{Op}
use Rattle.rht_words.specs.declared.op.Op.TheVariants.{Add}
use Rattle.rht_words.specs.declared.env.Env.{Env}
use Rattle.rht_ghost.proofs.Pieces.HeldSections.{of_its_own}
use Rattle.rht_words.specs.Operations.{op_place, old_of, word_after, applied}
use Rattle.rht_words.specs.Places.{NextSerial, Slot, SerialWord}
use Rattle.rht_words.proofs.Memory.{Memory, is_write}
use Rattle.rht_core.specs.Jobs.{Job, job_of, job_plan, job_after, told, held_of, held_next}
use Rattle.rht_core.specs.Runs.{Core, World, local_of, planned_in, view_of}
use Rattle.rht_ghost.proofs.Theory.Ghosts.{Ghost, put, put-all, put-same, put-other, table_at, Table, made_table}
use Rattle.rht_ghost.proofs.Theory.Reliance.{HoldingsStay}
use Rattle.rht_ghost.proofs.Theory.Departures.{withdrawn_table}
use Rattle.rht_ghost.proofs.Theory.Ways.{entered_table}
use Rattle.rht_ghost.proofs.Theory.Steps.{Move, Attaches, Enters, Withdraws, ReadyFor, Does, ghost_after, mem}
use Rattle.rht_core.proofs.Events.Invariants.{Knows, Inv, StepOf}
use Rattle.rht_core.proofs.Events.RangesInRuns.{AllIn}
use Rattle.rht_core.proofs.Counting.AttachingJobs.{IsAttachingJob, job-attaches}
use Rattle.rht_core.proofs.Counting.SerialDraws.{SparesSerial, spared_serial, DrawsJob, job-draws, job-adds, adds-not_spared}
use Rattle.rht_core.proofs.Counting.TableDraws.{AreDrawn, SameSerials, AreGrown, still-drawn, more-drawn, attached-drawn}
use Rattle.rht_core.proofs.Counting.DrawnJobs.{IsOfDraw, DrawnLeft, IsMakingJob, attaching-makes, attaching-draws, attaching-has, job-on, job-still}

-- ---- moves of the ghost

pub record IsAttach (move : Move) : Type 0 where
  pub slot : ℕ
  pub shape : ℕ
  pub seed : ℕ
  pub serial : ℕ
  pub is : move ≡ Attaches slot shape seed serial

module _ (env : Env) (mix : ℕ → ℕ → ℕ → ℕ) where
  -- a table is attached, or all have the serials that they had
  moved-serials : (c : ℕ) (move : Move) (G : Ghost) → SameSerials G (ghost_after env mix c move G) ⊎ IsAttach move
  moved-serials c (Attaches slot shape seed serial) G =
      inr (record { slot = slot; shape = shape; seed = seed; serial = serial; is = refl })
  moved-serials c (Enters j p) G = inl (record {
    attached = refl;
    serials = put-all (λ i t. t.serial ≡ (G.table i).serial) G.table (table_at G j) (entered_table (G.table (table_at G j)) j p) refl
        (λ i other. refl);
  })
  moved-serials c (Withdraws j p) G = inl (record {
    attached = refl;
    serials = put-all (λ i t. t.serial ≡ (G.table i).serial) G.table (table_at G j) (withdrawn_table (G.table (table_at G j)) j) refl
        (λ i other. refl);
  })
  moved-serials c _ G = inl (record { attached = refl; serials = λ τ. refl })

  -- what another caller's job has still holds
  pub left-still : (k : ℕ) (M M' : Memory) (G G' : Ghost) → HoldingsStay env mix k M G M' G' → (held : Option ℕ) (job : Option Job)
      → Knows env mix k job M G → DrawnLeft M held job → DrawnLeft M' held job
  left-still k M M' G G' stay held None knows left = tt
  left-still k M M' G G' stay held (Some job) knows left = job-still env mix k M M' G G' stay held job knows left

  -- ---- draws

  module _ (L : Type 0) where
    abbrev pub memory_of : World L → Memory
    memory_of w = mem env mix w.core.words

    -- the invariant, with a draw for each table and for each caller that has one
    pub record HasDrawn (w : World L) (drawn : ℕ) : Type 0 where
      pub ghost : Ghost
      pub inv : Inv env mix L w.core ghost
      pub all : AllIn L mix env w.core
      pub of_table : ℕ → ℕ
      pub of_caller : ℕ → Option ℕ
      pub drawn_are : AreDrawn drawn (memory_of w NextSerial) ghost of_table of_caller
      pub jobs : (c : ℕ) → DrawnLeft (memory_of w) (of_caller c) (job_of (view_of w c).local.doing)

    -- the same with another number that is the same
    abbrev pub recount : (w : World L) (n m : ℕ) → n ≡ m → HasDrawn w n → HasDrawn w m
    recount w n m same has = record {
      ghost = has.ghost;
      inv = has.inv;
      all = has.all;
      of_table = has.of_table;
      of_caller = has.of_caller;
      drawn_are = subst (λ i. AreDrawn i (memory_of w NextSerial) has.ghost has.of_table has.of_caller) same has.drawn_are;
      jobs = has.jobs;
    }

    -- the draws by words, callers and ghost
    pub record DrawsAt (core : Core L) (H : Ghost) (count : ℕ) : Type 0 where
      pub of_table : ℕ → ℕ
      pub of_caller : ℕ → Option ℕ
      pub drawn_are : AreDrawn count (mem env mix core.words NextSerial) H of_table of_caller
      pub jobs : (c : ℕ) → DrawnLeft (mem env mix core.words) (of_caller c) (job_of (local_of core c).doing)

    -- it is so of a later world, whose tables have grown
    pub record IsLater (w : World L) (drawn : ℕ) (has : HasDrawn w drawn) (v : World L) (count : ℕ) : Type 0 where
      pub now : HasDrawn v count
      pub grown : AreGrown has.ghost has.of_table now.ghost now.of_table

    module _ (w : World L) (drawn : ℕ) (has : HasDrawn w drawn) where
      abbrev M : Memory
      M = memory_of w

      -- what one operation leaves: the ghost, and the draws
      module _ (c : ℕ) (op : Op) (is : planned_in w.core c ≡ Some op) (of : StepOf env mix L w.core has.ghost c op) where
        abbrev pub after : Memory
        after = mem env mix (applied w.core.words op)

        abbrev pub G' : Ghost
        G' = ghost_after env mix c of.step.move has.ghost

        -- one of the three
        pub record StepDraws : Type 0 where
          pub count : ℕ
          pub counts : count ≡ drawn + cond (M NextSerial == after NextSerial) 0 1
          pub by : (count ≡ drawn) ⊎ ((count ≡ drawn + 1) × (op ≡ Add 3 1))
          pub of_table : ℕ → ℕ
          pub of_caller : ℕ → Option ℕ
          pub drawn_are : AreDrawn count (after NextSerial) G' of_table of_caller
          pub others : (k : ℕ) → k ≢ c → of_caller k ≡ has.of_caller k
          pub same : (τ : ℕ) → τ < has.ghost.attached → of_table τ ≡ has.of_table τ
          pub left : DrawnLeft after (of_caller c) (told (job_after mix env of.job (old_of w.core.words op))).0

        -- it has left the next serial, or has added one to it
        none-counted : after NextSerial ≡ M NextSerial → drawn ≡ drawn + cond (M NextSerial == after NextSerial) 0 1
        none-counted same =
            let none : cond {A = ℕ} (M NextSerial == after NextSerial) 0 1 ≡ 0 =
            ap (λ t. cond {A = ℕ} t 0 1) (eq-eqb (M NextSerial) (after NextSerial) (sym same)) in
            omega (arith, none)

        one-counted : after NextSerial ≡ (M NextSerial + 1) % 2 ^ 64
            → drawn + 1 ≡ drawn + cond (M NextSerial == after NextSerial) 0 1
        one-counted adds =
            let next = has.drawn_are.next in
            let one : cond {A = ℕ} (M NextSerial == after NextSerial) 0 1 ≡ 1 =
            ap (λ t. cond {A = ℕ} t 0 1) (ne_eqb (M NextSerial) (after NextSerial) (λ same. omega (arith, same, adds, next))) in
            omega (arith, one)

        added : op ≡ Add 3 1 → after NextSerial ≡ (M NextSerial + 1) % 2 ^ 64
        added adds =
            (is_write env.geometry w.core.words NextSerial op of.all tt (ap op_place adds)).same
            ∙ ap (word_after (M NextSerial)) adds

        plan_rests : op ≡ job_plan env c of.job
        plan_rests = of.plan ∙ ap (λ over. soft over (job_plan env c of.job)) (has.inv.rests c) ∙ soft-none (job_plan env c of.job)

        -- what is left of the job
        on : (now : Option ℕ) → (DrawsJob of.job → IsOfDraw now (M NextSerial))
            → (IsMakingJob of.job → (DrawsJob of.job → ⊥) → now ≡ has.of_caller c)
            → DrawnLeft after now (told (job_after mix env of.job (old_of w.core.words op))).0
        on now draws_so same =
            subst (λ o. DrawnLeft (mem env mix (applied w.core.words o)) now (told (job_after mix env of.job (old_of w.core.words o))).0)
            (sym plan_rests)
            (job-on env mix c w.core.words of.all (has.of_caller c) now of.job of.within
            (λ d. subst (IsOfDraw now) (sym (ap (old_of w.core.words) (job-adds env c of.job d))) (draws_so d)) same
            (subst (DrawnLeft M (has.of_caller c)) of.is (has.jobs c)))

        -- the caller's table is attached
        attach-draws : IsAttach of.step.move → StepDraws
        attach-draws at =
            let does = subst (λ m. Does env mix m op (old_of w.core.words op) (of_its_own (local_of w.core c).held (held_of of.job))
            (of_its_own (local_of w.core c).held (held_next (job_after mix env of.job (old_of w.core.words op))))) at.is of.step.does in
            let ready = subst (ReadyFor env mix c M has.ghost) at.is of.step.ready in
            let there = job-attaches env c does.last at.slot does.within of.job does.has (sym plan_rests ∙ does.attaching) in
            let same : after NextSerial ≡ M NextSerial = elim (job-draws env c mix of.few of.job of.within) [
              | inl spares ↦ spared_serial w.core.words op (subst SparesSerial (sym plan_rests) spares)
              | inr draws_it ↦ absurd (attaching-draws at.slot of.job there draws_it)
            ] in
            go at ready.serial_is there same (has.of_caller c) refl
            (attaching-has M (has.of_caller c) at.slot of.job there (subst (DrawnLeft M (has.of_caller c)) of.is (has.jobs c)))
          where
            go : (at : IsAttach of.step.move) → M (Slot at.slot SerialWord) ≡ at.serial → IsAttachingJob of.job at.slot
                → after NextSerial ≡ M NextSerial → (held : Option ℕ) → has.of_caller c ≡ held
                → IsOfDraw held (M (Slot at.slot SerialWord)) → StepDraws
            go at serial there same None is of_draw = absurd of_draw
            go at serial there same (Some draw) is of_draw =
                let G = has.ghost in
                let new = made_table at.slot at.shape at.seed at.serial in
                let moved : G' ≡ ghost_after env mix c (Attaches at.slot at.shape at.seed at.serial) G =
                ap (λ m. ghost_after env mix c m G) at.is in
                record {
                  count = drawn;
                  counts = none-counted same;
                  by = inl refl;
                  of_table = put has.of_table G.attached draw;
                  of_caller = put has.of_caller c None;
                  drawn_are = attached-drawn drawn (M NextSerial) (after NextSerial) G G' has.of_table has.of_caller c draw at.serial same
                      (ap (λ (H : Ghost). H.attached) moved)
                      (λ τ l. ap (λ (H : Ghost). (H.table τ).serial) moved
                      ∙ ap (λ (t : Table). t.serial) (put-other G.table G.attached new τ (omega (arith, l))))
                      (ap (λ (H : Ghost). (H.table G.attached).serial) moved ∙ ap (λ (t : Table). t.serial) (put-same G.table G.attached new))
                      is (sym serial ∙ of_draw) has.drawn_are;
                  others = λ k ne. put-other has.of_caller c None k ne;
                  same = λ τ l. put-other has.of_table G.attached draw τ (omega (arith, l));
                  left = on (put has.of_caller c None c)
                      (λ draws_it. absurd (attaching-draws at.slot of.job there draws_it))
                      (λ making none. absurd (attaching-makes at.slot of.job there making));
                }

        -- or it draws a serial, or none
        quiet-draws : SameSerials has.ghost G' → StepDraws
        quiet-draws tables = elim (job-draws env c mix of.few of.job of.within) [
          | inl spares ↦
              let same = spared_serial w.core.words op (subst SparesSerial (sym plan_rests) spares) in
              record {
                count = drawn;
                counts = none-counted same;
                by = inl refl;
                of_table = has.of_table;
                of_caller = has.of_caller;
                drawn_are = still-drawn drawn (M NextSerial) (after NextSerial) has.ghost G' has.of_table has.of_caller same tables
                    has.drawn_are;
                others = λ k ne. refl;
                same = λ τ l. refl;
                left = on (has.of_caller c) (λ d. absurd (adds-not_spared (job_plan env c of.job) (job-adds env c of.job d) spares))
                    (λ making none. refl);
              }
          | inr draws_it ↦
              let adds = added (plan_rests ∙ job-adds env c of.job draws_it) in
              record {
                count = drawn + 1;
                counts = one-counted adds;
                by = inr (refl, plan_rests ∙ job-adds env c of.job draws_it);
                of_table = has.of_table;
                of_caller = put has.of_caller c (Some drawn);
                drawn_are =
                    still-drawn (drawn + 1) (after NextSerial) (after NextSerial) has.ghost G' has.of_table
                    (put has.of_caller c (Some drawn)) refl tables
                    (more-drawn drawn (M NextSerial) (after NextSerial) has.ghost has.of_table has.of_caller c adds has.drawn_are);
                others = λ k ne. put-other has.of_caller c (Some drawn) k ne;
                same = λ τ l. refl;
                left = subst (λ now. DrawnLeft after now (told (job_after mix env of.job (old_of w.core.words op))).0)
                    (sym (put-same has.of_caller c (Some drawn)))
                    (on (Some drawn) (λ d. has.drawn_are.next) (λ making none. absurd (none draws_it)));
              }
        ]

        pub step-draws : StepDraws
        step-draws = elim (moved-serials c of.step.move has.ghost) [
          | inl tables ↦ quiet-draws tables
          | inr at ↦ attach-draws at
        ]

        pub step-grown : AreGrown has.ghost has.of_table G' step-draws.of_table
        step-grown =
            let grow = (of.step.made.others (suc c) (λ e. absurd (omega (arith, e)))).tables.grow in
            record {
              attached = grow.attached;
              current = grow.current;
              slots = λ τ l. (grow.tables τ l).slot;
              draws = step-draws.same;
            }

        -- what the others have still holds
        pub others-left : (k : ℕ) → k ≢ c → DrawnLeft after (step-draws.of_caller k) (job_of (view_of w k).local.doing)
        others-left k ne =
            subst (λ held. DrawnLeft after held (job_of (view_of w k).local.doing)) (sym (step-draws.others k ne))
            (left-still k M after has.ghost G' (of.step.made.others k ne).holdings (has.of_caller k) (job_of (view_of w k).local.doing)
            (has.inv.each k) (has.jobs k))
