-- A caller that holds its section open over its calls may look ports up, walk, and read the count. Each operation of such a call leads from what
-- the caller knows to what it knows next: one by which its machine would open or close the section loads the word, and each other one is its
-- machine's.
use Rattle.std.proofs.Common.{◌≡◌, ℕ, ◌+◌, ◌-◌, ◌<◌, ◌≤◌, List, length, Option, Some, None, Bool, true, false, refl, sym, ap, ◌∙◌, subst, inl, inr, arith}
use Rattle.std.specs.Prelude.{◌==◌, ◌&&◌, nat_le, nat_lt, if◌then◌else◌}
use Rattle.std.proofs.lemmas.Bool.{cond_both, lt-ltb, le-leb, leb-true, ltb-true, eqb-true, and_parts}
use Rattle.rht_words.specs.declared.env.Env.{Env}
use Rattle.rht_words.specs.declared.geometry.Geometry.{Geometry}
use Rattle.rht_words.specs.declared.op.Op.{Op}
use Rattle.rht_words.specs.declared.op.Op.TheVariants.{Load, Store, Exchange, Add, Sub, And, Or}
use Rattle.rht_words.specs.Held as held
use Rattle.rht_words.specs.Operations.{op_place, old_of}
use Rattle.rht_words.specs.Places.{Section, place_of, words_in}
use Rattle.rht_words.proofs.Memory.{Memory}
use Rattle.rht_model.specs.Answers.{Answer, plain}
use Rattle.rht_model.specs.declared.history.Call.TheVariants.{Tidy, Work}
use Rattle.rht_model.specs.declared.history.Cursor.{Cursor}
use Rattle.rht_model.specs.declared.history.Reply.{Reply}
use Rattle.rht_nest.specs.Reach.{ReachModel, reach_plan}
use Rattle.rht_nest.specs.declared.reach.ReachAt.{ReachAt}
use Rattle.rht_nest.specs.declared.reach.ReachAt.TheVariants as reaches
use Rattle.rht_find.specs.declared.find.FindAt.{FindAt}
use Rattle.rht_find.specs.declared.find.FindAt.TheVariants as find_at
use Rattle.rht_walk.specs.Walk.{Pairs, reply_of, room_after}
use Rattle.rht_walk.specs.declared.walk.WalkAt.{WalkAt}
use Rattle.rht_walk.specs.declared.walk.WalkAt.TheVariants as walk_at
use Rattle.rht_walk.specs.declared.walk.WalkEnd.TheVariants as ends
use Rattle.rht_callers.specs.Locals.{turns_section, soft, may_hold}
use Rattle.rht_core.specs.Jobs.{Job, finds, binds, lists, releases, rebinds, works, tidies, walks, counts, call_of, job_plan, job_after, held_of}
use Rattle.rht_ghost.proofs.Theory.Answering.{KeepsAnswer}
use Rattle.rht_ghost.proofs.Theory.Ghosts.{Ghost}
use Rattle.rht_ghost.proofs.Theory.Knowledge.{IsOpenAs, outside-none}
use Rattle.rht_ghost.proofs.Theory.Knowns.{known_nothing}
use Rattle.rht_ghost.proofs.Theory.Steps.{mem, reads}
use Rattle.rht_ghost.proofs.Theory.Wholes.{Whole}
use Rattle.rht_ghost.proofs.Pieces.HeldSections.{TurnsNone, is_in, knowing-turned, step-own}
use Rattle.rht_core.proofs.Machines.JobSteps.{JobIn, JobKnows, JobStepOver, job_step}

-- a call in its own section is in one, and who is in none is in none of its own
pub is_in-true : (over : Bool) → is_in over true ≡ true
is_in-true false = refl
is_in-true true = refl

pub not_in : (over section : Bool) → is_in over section ≡ false → section ≡ false
not_in false section is = is
not_in true section is = absurd (cc)

-- ---- operations in a hold

-- one that turns no section word stays
soft-same : (g : Geometry) (op : Op) → TurnsNone g op → soft true op ≡ op
soft-same g (Load place) none = refl
soft-same g (Store place value) none = refl
soft-same g (Exchange place old new) none = refl
soft-same g (Sub place by) none = refl
soft-same g (And place mask) none = refl
soft-same g (Or place mask) none = refl
soft-same g (Add place by) none =
    cond_both (turns_section place by && true) _ _ (λ op. op ≡ Add place by)
    (λ t.
    let both = and_parts (turns_section place by) true t in
    let parts = and_parts (nat_le 8 place && nat_lt place 24) (by == 1) both.0 in
    let bounds = and_parts (nat_le 8 place) (nat_lt place 24) parts.0 in
    let above : 8 ≤ place = leb-true 8 place bounds.0 in
    let one : by ≡ 1 = eqb-true by 1 parts.1 in
    let there : place ≡ 8 + (place - 8) = omega (arith, above) in
    absurd (none (place - 8) (ap (λ p. Add p by) there ∙ ap (Add (8 + (place - 8))) one)))
    (λ f. refl)

-- it is on the same word
pub soft-old : (over : Bool) (op : Op) (words : List ℕ) → old_of words (soft over op) ≡ old_of words op
soft-old over (Load place) words = refl
soft-old over (Store place value) words = refl
soft-old over (Exchange place old new) words = refl
soft-old over (Sub place by) words = refl
soft-old over (And place mask) words = refl
soft-old over (Or place mask) words = refl
soft-old over (Add place by) words =
    cond_both (turns_section place by && over) _ _ (λ op. old_of words op ≡ old_of words (Add place by)) (λ t. refl) (λ f. refl)

-- and where it isn't a load it is the machine's
abbrev pub IsNoLoad : Op → Type 0
IsNoLoad (Load place) = ⊥
IsNoLoad _ = Unit {0}

pub hard-op : (over : Bool) (op op' : Op) → IsNoLoad op' → soft over op ≡ op' → op' ≡ op
hard-op over (Load place) op' none is = sym is
hard-op over (Store place value) op' none is = sym is
hard-op over (Exchange place old new) op' none is = sym is
hard-op over (Sub place by) op' none is = sym is
hard-op over (And place mask) op' none is = sym is
hard-op over (Or place mask) op' none is = sym is
hard-op over (Add place by) op' none is =
    cond_both (turns_section place by && over) _ _ (λ op. op ≡ op' → op' ≡ Add place by)
    (λ t same. absurd (subst IsNoLoad (sym same) none)) (λ f same. sym same) is

-- in no hold each one does
pub soft-none : (op : Op) → soft false op ≡ op
soft-none (Load place) = refl
soft-none (Store place value) = refl
soft-none (Exchange place old new) = refl
soft-none (Sub place by) = refl
soft-none (And place mask) = refl
soft-none (Or place mask) = refl
soft-none (Add place by) =
    cond_both (turns_section place by && false) _ _ (λ op. op ≡ Add place by)
    (λ t. let both = and_parts (turns_section place by) false t in let none = both.1 in cc)
    (λ f. refl)

-- one that turns the caller's own section loads its word
soft-turning : (g : Geometry) (c : ℕ) → c < 16 → soft true (Add (place_of g (Section c)) 1) ≡ Load (place_of g (Section c))
soft-turning g c low =
    let above : nat_le 8 (8 + c) ≡ true = le-leb 8 (8 + c) (omega arith) in
    let below : nat_lt (8 + c) 24 ≡ true = lt-ltb (8 + c) 24 (omega (arith, low)) in
    ap (λ b. if b && nat_lt (8 + c) 24 && 1 == 1 && true then Load (8 + c) else Add (8 + c) 1) above
    ∙ ap (λ b. if true && b && 1 == 1 && true then Load (8 + c) else Add (8 + c) 1) below

-- finding the bucket turns no section
pub soft-reach : (over : Bool) (reach : ReachModel) → soft over (reach_plan reach) ≡ reach_plan reach
soft-reach over reach = go reach.at
  where
    go : (state : ReachAt) → soft over (reach_plan (record reach { at = state })) ≡ reach_plan (record reach { at = state })
    go reaches.Shape = refl
    go (reaches.Seed shape) = refl
    go (reaches.Entry place) = refl

-- no hold allows a tidying
pub none_over : (over : Bool) → may_hold over Tidy ≡ true → over ≡ false
none_over false may = refl
none_over true may = absurd (cc)

-- nor a resizing
pub no_work : (over : Bool) → may_hold over Work ≡ true → over ≡ false
no_work false may = refl
no_work true may = absurd (cc)

-- ---- jobs

-- what a caller does it may do, where it holds its section open
abbrev pub MayHold : Bool → Job → Type 0
MayHold over job = may_hold over (call_of job) ≡ true

module _ (env : Env) (mix : ℕ → ℕ → ℕ → ℕ) (c : ℕ) (low : c < env.geometry.callers) (words : List ℕ) (G : Ghost)
    (all : length words ≡ words_in env.geometry) (whole : Whole env mix (mem env mix words) G) where
  abbrev M : Memory
  M = mem env mix words

  -- the operation that is made leads on, whether its caller holds its section open or not
  abbrev pub HeldStep : Bool → Job → Type 0
  HeldStep over job =
      let op = soft over (job_plan env c job) in
      JobStepOver env mix c over words G op job (job_after mix env job (old_of words op))

  few : c < 16
  few = let callers = env.geometry.within.callers_within in omega (arith, low, callers.1)

  -- an operation of any job that turns no section
  pub unturned : (job : Job) → TurnsNone env.geometry (job_plan env c job) → JobIn env mix c job → JobKnows env mix c job M G
      → HeldStep true job
  unturned job none within knows =
      subst (λ op. JobStepOver env mix c true words G op job (job_after mix env job (old_of words op)))
      (sym (soft-same env.geometry (job_plan env c job) none))
      (step-own env mix none (job_step env mix c low words G all whole job within (λ turns. absurd (none c turns)) knows))

  keeps : (reply : Reply) → KeepsAnswer (Some (plain reply)) (Some (plain reply))
  keeps reply = record { reply = refl; owners = refl }

  -- ---- look-ups

  reach_turns_none : (reach : ReachModel) → TurnsNone env.geometry (reach_plan reach)
  reach_turns_none reach d is = go reach.at is
    where
      go : (state : ReachAt) → reach_plan (record reach { at = state }) ≡ Add (place_of env.geometry (Section d)) 1 → ⊥
      go reaches.Shape is = cc
      go (reaches.Seed shape) is = cc
      go (reaches.Entry place) is = cc

  module _ (over : IsOpenAs true (G.from c)) where
    -- at its first operation a look-up finds the section open, and leaves it so at its last one
    pub held_find_step : (port : ℕ) (state : FindAt) → JobIn env mix c (finds port state) → JobKnows env mix c (finds port state) M G
        → HeldStep true (finds port state)
    held_find_step port find_at.Opening within knows =
        subst (λ op. JobStepOver env mix c true words G op (finds port find_at.Opening)
        (job_after mix env (finds port find_at.Opening) (old_of words op))) (sym (soft-turning env.geometry c few))
        (reads env mix whole refl refl (inl refl) (record {
          knowing = knowing-turned env mix c held.holds_nothing known_nothing true M G over knows.knowing;
          fits = tt;
        }))
    held_find_step port (find_at.Closing reply) within knows =
        let job = finds port (find_at.Closing reply) in
        subst (λ op. JobStepOver env mix c true words G op job (job_after mix env job (old_of words op))) (sym (soft-turning env.geometry c few))
        (reads env mix whole refl refl (inl (keeps reply)) (record {
          knowing = knowing-turned env mix c (held_of job) known_nothing false M G over knows.knowing;
          leaves = tt;
        }))
    held_find_step port (find_at.Locating reach) within knows =
        unturned (finds port (find_at.Locating reach)) (reach_turns_none reach) within knows
    held_find_step port find_at.CurrentTable within knows = unturned (finds port find_at.CurrentTable) (λ d is. cc) within knows
    held_find_step port (find_at.Heading head) within knows = unturned (finds port (find_at.Heading head)) (λ d is. cc) within knows
    held_find_step port (find_at.Key head node visited) within knows =
        unturned (finds port (find_at.Key head node visited)) (λ d is. cc) within knows
    held_find_step port (find_at.Link head node visited) within knows =
        unturned (finds port (find_at.Link head node visited)) (λ d is. cc) within knows
    held_find_step port (find_at.Future table) within knows = unturned (finds port (find_at.Future table)) (λ d is. cc) within knows
    held_find_step port (find_at.Owner node) within knows = unturned (finds port (find_at.Owner node)) (λ d is. cc) within knows

    -- so does a walk
    held_walk_step : (from : Option Cursor) (limit : ℕ) (room : Pairs) (state : WalkAt) → JobIn env mix c (walks from limit room state)
        → JobKnows env mix c (walks from limit room state) M G → HeldStep true (walks from limit room state)
    held_walk_step from limit room walk_at.Opening within knows =
        let job = walks from limit room walk_at.Opening in
        subst (λ op. JobStepOver env mix c true words G op job (job_after mix env job (old_of words op))) (sym (soft-turning env.geometry c few))
        (reads env mix whole refl refl (inl refl) (record {
          knowing = knowing-turned env mix c held.holds_nothing known_nothing true M G over knows.knowing;
          fits = tt;
        }))
    held_walk_step from limit room (walk_at.Closing (ends.Walked next)) within knows =
        let job = walks from limit room (walk_at.Closing (ends.Walked next)) in
        subst (λ op. JobStepOver env mix c true words G op job (job_after mix env job (old_of words op))) (sym (soft-turning env.geometry c few))
        (reads env mix whole refl refl (inl (keeps (reply_of room (ends.Walked next)))) (record {
          knowing = knowing-turned env mix c (held_of job) known_nothing false M G over knows.knowing;
          leaves = tt;
        }))
    held_walk_step from limit room (walk_at.Closing (ends.Again table)) within knows =
        let job = walks from limit room (walk_at.Closing (ends.Again table)) in
        subst (λ op. JobStepOver env mix c true words G op job (job_after mix env job (old_of words op))) (sym (soft-turning env.geometry c few))
        (reads env mix whole refl refl (inl (keeps (reply_of room (ends.Again table)))) (record {
          knowing = knowing-turned env mix c (held_of job) known_nothing false M G over knows.knowing;
          leaves = tt;
        }))
    held_walk_step from limit room walk_at.CurrentTable within knows = unturned _ (λ d is. cc) within knows
    held_walk_step from limit room (walk_at.Serial table) within knows = unturned _ (λ d is. cc) within knows
    held_walk_step from limit room (walk_at.Shape table serial) within knows = unturned _ (λ d is. cc) within knows
    held_walk_step from limit room (walk_at.Entry visit way) within knows = unturned _ (λ d is. cc) within knows
    held_walk_step from limit room (walk_at.Heading visit place) within knows = unturned _ (λ d is. cc) within knows
    held_walk_step from limit room (walk_at.Key chain node) within knows = unturned _ (λ d is. cc) within knows
    held_walk_step from limit room (walk_at.Owner chain node port) within knows = unturned _ (λ d is. cc) within knows
    held_walk_step from limit room (walk_at.Link chain node) within knows = unturned _ (λ d is. cc) within knows
    held_walk_step from limit room (walk_at.StrangeEnd visit) within knows = unturned _ (λ d is. cc) within knows
    held_walk_step from limit room (walk_at.TableEnd table) within knows = unturned _ (λ d is. cc) within knows

    -- whatever a caller may do in a hold
    over_step : (job : Job) → MayHold true job → JobIn env mix c job → JobKnows env mix c job M G → HeldStep true job
    over_step (finds port state) may within knows = held_find_step port state within knows
    over_step (walks from limit room state) may within knows = held_walk_step from limit room state within knows
    over_step counts may within knows = unturned counts (λ d is. cc) within knows
    over_step _ may within knows = absurd (cc)

  -- each operation of a job leads from what the caller knows to what it knows next
  pub held_step : (over : Bool) (job : Job) → MayHold over job → IsOpenAs (is_in over (held_of job).section) (G.from c)
      → JobIn env mix c job → JobKnows env mix c job M G → HeldStep over job
  held_step true job may is_open within knows = over_step is_open job may within knows
  held_step false job may is_open within knows =
      subst (λ op. JobStepOver env mix c false words G op job (job_after mix env job (old_of words op)))
      (sym (soft-none (job_plan env c job)))
      (job_step env mix c low words G all whole job within
      (λ turns outside. outside-none (G.from c) (subst (λ b. IsOpenAs b (G.from c)) outside is_open)) knows)

-- ---- what is made in a hold

module _ (env : Env) (c : ℕ) (few : c < 16) where
  -- the operation loads its word
  abbrev pub Loads : Op → Type 0
  Loads op = op ≡ Load (op_place op)

  turning_loads : Loads (soft true (Add (place_of env.geometry (Section c)) 1))
  turning_loads = subst Loads (sym (soft-turning env.geometry c few)) refl

  reach_loads : (reach : ReachModel) → Loads (soft true (reach_plan reach))
  reach_loads reach = go reach.at
    where
      go : (state : ReachAt) → Loads (soft true (reach_plan (record reach { at = state })))
      go reaches.Shape = refl
      go (reaches.Seed shape) = refl
      go (reaches.Entry place) = refl

  find_loads : (port : ℕ) (state : FindAt) → Loads (soft true (job_plan env c (finds port state)))
  find_loads port find_at.Opening = turning_loads
  find_loads port (find_at.Closing reply) = turning_loads
  find_loads port (find_at.Locating reach) = reach_loads reach
  find_loads port _ = refl

  walk_loads : (from : Option Cursor) (limit : ℕ) (room : Pairs) (state : WalkAt) → Loads (soft true (job_plan env c (walks from limit room state)))
  walk_loads from limit room walk_at.Opening = turning_loads
  walk_loads from limit room (walk_at.Closing end) = turning_loads
  walk_loads from limit room _ = refl

  -- all that a call makes in a hold are loads
  pub held_loads : (job : Job) → MayHold true job → Loads (soft true (job_plan env c job))
  held_loads (finds port state) may = find_loads port state
  held_loads (walks from limit room state) may = walk_loads from limit room state
  held_loads counts may = refl
  held_loads _ may = absurd (cc)
