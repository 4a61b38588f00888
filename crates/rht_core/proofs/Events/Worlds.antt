-- What an event does to the words and to each caller, and inductions over the events of a run.
-- An event of one caller changes what that caller sees of itself and nothing that another sees. All
-- else that holds of runs goes through these equations.
use Rattle.std.proofs.Common.{◌≡◌, ◌≢◌, ℕ, suc, ◌<◌, ◌≤◌, Bool, true, false, cond, ◌&&◌, ◌==◌, nat_lt, List, [], ◌∷◌, ◌++◌, length, take, refl, sym, ap, ◌∙◌, subst, append_assoc}
use Rattle.std.specs.Prelude.{Option, Some, None, slice_set}
use Rattle.std.proofs.lemmas.Bool.{eq-eqb, ne_eqb, ltb-true, and_parts}
use Rattle.std.proofs.lemmas.List.{append-nil, take-append-le, get_or-set_same, get_or-set_other}
use Rattle.std.specs.List.{slice_get}
use Rattle.std.proofs.Math.Seq.{take-append_seam, take-suc}
use Rattle.std.proofs.lemmas.Option.{slice_get_within, get_or_from_slice_get}
use Rattle.rht_words.specs.declared.op.Op.{Op}
use Rattle.rht_words.specs.declared.env.Env.{Env}
use Rattle.rht_words.specs.Operations.{old_of, applied}
use Rattle.rht_words.proofs.EachElement.{AllByRecursion-append}
use Rattle.rht_model.specs.declared.history.Call.{Call}
use Rattle.rht_core.specs.declared.event.Event.{Event}
use Rattle.rht_core.specs.declared.event.Event.TheVariants.{Begin, Step}
use Rattle.rht_core.specs.declared.book.Book.{Book}
use Rattle.rht_callers.specs.declared.local.Local.{Local}
use Rattle.rht_callers.specs.declared.local.Doing.{Doing}
use Rattle.rht_callers.specs.Locals.{fresh, is_idle, may_hold, may_begin, machine_from, begin_with, plan_of, local_after, ending_of}
use Rattle.rht_core.specs.Runs.{Core, World, View, view_of, local_in, local_of, beginning, beginning_in, with_machine, planned, planned_in, with_step, book_at, book_begun, book_after, books_begun, books_stepped, core_step, world_step, run_from, run_of, opening, IsAdmitted, IsAdmittedEvent}
use Rattle.rht_core.specs.Laws.{view_begun, view_stepped, Extends}

-- ---- lists of events

-- from the events that are past, the others come one by one
induct_along : (P : List Event → Type 0)
    → ((events : List Event) (event : Event) → P events → P (events ++ event ∷ []))
    → (past rest : List Event) → P past → P (past ++ rest)
induct_along P more past [] p = subst P (sym (append-nil past)) p
induct_along P more past (event ∷ rest) p =
    subst P (append_assoc past (event ∷ []) rest)
    (induct_along P more (past ++ event ∷ []) rest (more past event p))

-- what holds of no events, and of events with one more where it held of them, holds of all
pub induct_by_last : (P : List Event → Type 0) → P []
    → ((events : List Event) (event : Event) → P events → P (events ++ event ∷ [])) → (events : List Event)
    → P events
induct_by_last P none more events = induct_along P more [] events none

-- the first events stay the first ones where one more comes
pub take-push : (events : List Event) (event : Event) (n : ℕ) → n ≤ length events
    → take n (events ++ event ∷ []) ≡ take n events
take-push events event n l = take-append-le n events (event ∷ []) l

-- and before the one more there were all others
pub take-push_all : (events : List Event) (event : Event)
    → take (length events) (events ++ event ∷ []) ≡ events
take-push_all events event = take-append_seam events (event ∷ [])

-- ---- functions changed at one place

pub changed-same : {A : Type 0} (f : ℕ → A) (c : ℕ) (a : A) → cond (c == c) a (f c) ≡ a
changed-same f c a = ap (λ v. cond v a (f c)) (eq-eqb c c refl)

pub changed-other : {A : Type 0} (f : ℕ → A) (c : ℕ) (a : A) (k : ℕ) → k ≢ c → cond (k == c) a (f k) ≡ f k
changed-other f c a k n = ap (λ v. cond v a (f k)) (ne_eqb k c n)

-- ---- what a caller begins with and plans

-- a choice that gives something was made so, and gives that
pub cond_none : {A : Type 0} (b : Bool) (option : Option A) (a : A) → cond b option None ≡ Some a
    → (b ≡ true) × (option ≡ Some a)
cond_none true option a is = (refl, is)
cond_none false option a is = absurd (cc)

module _ {M : Type 0} where
  -- who begins is enrolled and idle, and has a machine for the call
  pub record CanBegin (env : Env) (enrolled : ℕ) (locals : List (Local M)) (c : ℕ) (call : Call) (start : ℕ)
      (machine : Doing M)
      : Type 0 where
    pub below : c < enrolled
    pub idle : is_idle (local_in env locals c) ≡ true
    pub may : may_hold (local_in env locals c).held call ≡ true
    pub machine_is : machine_from env c (local_in env locals c).batch call start ≡ Some machine

  pub beginning-some : (env : Env) (enrolled : ℕ) (locals : List (Local M)) (c : ℕ) (call : Call) (start : ℕ)
      (machine : Doing M)
      → beginning env enrolled locals c call start ≡ Some machine → CanBegin env enrolled locals c call start machine
  beginning-some env enrolled locals c call start machine is =
      let parts =
      cond_none (nat_lt c enrolled && may_begin (local_in env locals c) call) (machine_from env c (local_in env locals c).batch call start) machine is in
      let both = and_parts (nat_lt c enrolled) (may_begin (local_in env locals c) call) parts.0 in
      let begins = and_parts (is_idle (local_in env locals c)) (may_hold (local_in env locals c).held call) both.1 in
      record { below = ltb-true c enrolled both.0; idle = begins.0; may = begins.1; machine_is = parts.1 }

  -- who plans an operation is enrolled
  pub record CanStep (env : Env) (enrolled : ℕ) (locals : List (Local M)) (c : ℕ) (op : Op) : Type 0 where
    pub below : c < enrolled
    pub plan : plan_of (local_in env locals c) ≡ Some op

  pub planned-some : (env : Env) (enrolled : ℕ) (locals : List (Local M)) (c : ℕ) (op : Op)
      → planned env enrolled locals c ≡ Some op → CanStep env enrolled locals c op
  planned-some env enrolled locals c op is =
      let parts = cond_none (nat_lt c enrolled) (plan_of (local_in env locals c)) op is in
      record { below = ltb-true c enrolled parts.0; plan = parts.1 }

-- ---- what an event does

module _ (M : Type 0) (mix : ℕ → ℕ → ℕ → ℕ) (w : World M) where
  -- what a caller is doing and its calls, as it sees them
  abbrev pair : Local M → Book → View M
  pair local book = record { local = local; book = book }

  module _ (c : ℕ) (call : Call) (start : ℕ) where
    -- the world after a caller has begun with this
    abbrev began_with : Option (Doing M) → World M
    began_with machine = record {
      core = record w.core { locals = with_machine w.core.env w.core.locals c machine };
      books = books_begun w.books c call machine;
    }

    -- one that can't be changes nothing
    pub begin_none : beginning_in w.core c call start ≡ None → world_step mix w (Begin c call start) ≡ w
    begin_none is = ap began_with is

    -- who begins has the machine and the call
    pub begin_self : (machine : Doing M) → beginning_in w.core c call start ≡ Some machine
        → c < length w.core.locals
        → view_of (world_step mix w (Begin c call start)) c ≡ view_begun call machine (view_of w c)
    begin_self machine is below =
        let begun = begin_with (local_of w.core c) machine in
        let local : local_in w.core.env (slice_set w.core.locals c begun) c ≡ begun =
        get_or-set_same w.core.locals c begun (fresh w.core.env) below in
        let book : book_at w.books c (book_begun call (w.books c)) c ≡ book_begun call (w.books c) =
        changed-same w.books c (book_begun call (w.books c)) in
        ap (λ o. view_of (began_with o) c) is ∙ (λ i. pair (local i) (book i))

    -- another caller sees nothing of it
    began_other : (k : ℕ) → k ≢ c → (machine : Option (Doing M))
        → view_of (began_with machine) k ≡ view_of w k
    began_other k other None = refl
    began_other k other (Some machine) =
        let begun = begin_with (local_of w.core c) machine in
        let local : local_in w.core.env (slice_set w.core.locals c begun) k ≡ local_of w.core k =
        get_or-set_other w.core.locals c k begun (fresh w.core.env) other in
        let book : book_at w.books c (book_begun call (w.books c)) k ≡ w.books k =
        changed-other w.books c (book_begun call (w.books c)) k other in
        (λ i. pair (local i) (book i))

    pub begin_other : (k : ℕ) → k ≢ c → view_of (world_step mix w (Begin c call start)) k ≡ view_of w k
    begin_other k other = began_other k other (beginning_in w.core c call start)

  module _ (c : ℕ) where
    -- the world after a caller has performed this
    abbrev stepped_with : Option Op → World M
    stepped_with op = record {
      core = (with_step mix w.core c op).0;
      books = books_stepped mix w c op;
    }

    -- a step of a caller that plans nothing changes nothing
    pub step_none : planned_in w.core c ≡ None → world_step mix w (Step c) ≡ w
    step_none is = ap stepped_with is

    -- one of a caller that plans an operation performs it
    pub step_words : (op : Op) → planned_in w.core c ≡ Some op
        → (world_step mix w (Step c)).core.words ≡ applied w.core.words op
    step_words op is = ap (λ o. (stepped_with o).core.words) is

    -- who steps goes on with the old word
    pub step_self : (op : Op) → planned_in w.core c ≡ Some op → c < length w.core.locals
        → view_of (world_step mix w (Step c)) c ≡ view_stepped mix (old_of w.core.words op) (view_of w c)
    step_self op is below =
        let next = local_after mix (local_of w.core c) (old_of w.core.words op) in
        let after = book_after (ending_of next.0 next.1) (w.books c) in
        let local : local_in w.core.env (slice_set w.core.locals c next.0) c ≡ next.0 =
        get_or-set_same w.core.locals c next.0 (fresh w.core.env) below in
        let book : book_at w.books c after c ≡ after = changed-same w.books c after in
        ap (λ o. view_of (stepped_with o) c) is ∙ (λ i. pair (local i) (book i))

    -- another caller sees nothing of it
    stepped_other : (k : ℕ) → k ≢ c → (op : Option Op) → view_of (stepped_with op) k ≡ view_of w k
    stepped_other k other None = refl
    stepped_other k other (Some op) =
        let next = local_after mix (local_of w.core c) (old_of w.core.words op) in
        let after = book_after (ending_of next.0 next.1) (w.books c) in
        let local : local_in w.core.env (slice_set w.core.locals c next.0) k ≡ local_of w.core k =
        get_or-set_other w.core.locals c k next.0 (fresh w.core.env) other in
        let book : book_at w.books c after k ≡ w.books k = changed-other w.books c after k other in
        (λ i. pair (local i) (book i))

    pub step_other : (k : ℕ) → k ≢ c → view_of (world_step mix w (Step c)) k ≡ view_of w k
    step_other k other = stepped_other k other (planned_in w.core c)

-- ---- runs

module _ (M : Type 0) (mix : ℕ → ℕ → ℕ → ℕ) where
  -- a run of events behind others goes on from what the others leave
  pub run_from-append : (w : World M) (past rest : List Event)
      → run_from mix w (past ++ rest) ≡ run_from mix (run_from mix w past) rest
  run_from-append w [] rest = refl
  run_from-append w (event ∷ past) rest = run_from-append (world_step mix w event) past rest

  -- the words after an operation that a caller plans
  pub stepped_words : (core : Core M) (c : ℕ) (op : Op) (plan : Option Op) → planned_in core c ≡ plan
      → plan ≡ Some op
      → (core_step mix core (Step c)).0.words ≡ applied core.words op
  stepped_words core c op plan is some = rw (is ∙ some) refl

  pub run_of-push : (env : Env) (events : List Event) (event : Event)
      → ◌≡◌ {A = World M} (run_of mix env (events ++ event ∷ []))
      (world_step mix (run_of mix env events) event)
  run_of-push env events event = run_from-append (opening env) events (event ∷ [])

  -- behind one more of these events the world is changed by it
  pub run_of-next : (env : Env) (events : List Event) (n : ℕ) (event : Event) → slice_get events n ≡ Some event
      → ◌≡◌ {A = World M} (run_of mix env (take (suc n) events)) (world_step mix (run_of mix env (take n events)) event)
  run_of-next env events n event is =
      ap (run_of {M = M} mix env)
      (take-suc events n event (slice_get_within events n event is)
      ∙ ap (λ e. take n events ++ e ∷ []) (get_or_from_slice_get events n event event is))
      ∙ run_of-push env (take n events) event

  -- what each event keeps holds behind all of them
  pub run_keeps : (P : World M → Type 0) → ((w : World M) (event : Event) → P w → P (world_step mix w event))
      → (w : World M) (events : List Event) → P w → P (run_from mix w events)
  run_keeps P keeps w [] p = p
  run_keeps P keeps w (event ∷ events) p = run_keeps P keeps (world_step mix w event) events (keeps w event p)

  -- the same where only admitted events keep it
  pub run_keeps_admitted : (P : World M → Type 0)
      → ((w : World M) (event : Event) → IsAdmittedEvent event → P w → P (world_step mix w event))
      → (w : World M) (events : List Event) → IsAdmitted events → P w → P (run_from mix w events)
  run_keeps_admitted P keeps w [] admitted p = p
  run_keeps_admitted P keeps w (event ∷ events) admitted p =
      run_keeps_admitted P keeps (world_step mix w event) events admitted.1 (keeps w event admitted.0 p)

  pub extends : Extends M mix
  extends env events event admitted more = record {
    admitted = AllByRecursion-append IsAdmittedEvent events (event ∷ []) admitted
        (more, tt);
    world = run_of-push env events event;
  }
