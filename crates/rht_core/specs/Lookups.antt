-- What holds of look-ups in every run: how many operations they take, and that a port which stays bound meanwhile is found. They read in one
-- read section. What they, readings of the count, tidyings and walks never do. And how many operations tidyings and walks take.
use Rattle.std.specs.Prelude.{◌≡◌, ◌≢◌, ◌⊎◌, ℕ, ◌+◌, ◌<◌, ◌≤◌, Option, List, [], ◌∷◌, ◌++◌, length, map, slice_index, Some}
use Rattle.std.specs.List.{AllByRecursion}
use Rattle.rht_words.specs.declared.op.Op.TheVariants.{Load}
use Rattle.rht_words.specs.declared.env.Env.{Env}
use Rattle.rht_words.specs.declared.geometry.Geometry.{Geometry}
use Rattle.rht_words.specs.Operations.{op_place}
use Rattle.rht_words.specs.Places.{WorkLock, Slot, ShapeWord, IsBucketPlace, place_of}
use Rattle.rht_model.specs.declared.history.Call.{Call}
use Rattle.rht_model.specs.declared.history.Call.TheVariants.{Find, Count, Tidy, Walk}
use Rattle.rht_model.specs.declared.history.Cursor.{Cursor}
use Rattle.rht_model.specs.declared.history.Reply.TheVariants.{Found}
use Rattle.rht_model.specs.Answers.{find_reply}
use Rattle.rht_find.specs.FindBound.{find_bound}
use Rattle.rht_grace.specs.TidyLaws.{tidy_bound}
use Rattle.rht_walk.specs.WalkLaws.{walk_bound}
use Rattle.rht_words.specs.Shapes.{unpacked, size_of}
use Rattle.rht_core.specs.declared.event.Event.{Event}
use Rattle.rht_core.specs.Runs.{IsAdmitted}
use Rattle.rht_core.specs.Traces.{Did, Past, Traced, traced_of, behind_call}
use Rattle.rht_core.specs.Seen.{LoadsWord, TurnsSection}
use Rattle.rht_core.specs.RunHistories.{bindings_behind}

-- ---- how many operations

-- a look-up has no more operations than the bound
abbrev pub IsShort : Env → Call → List Did → Type 0
IsShort env call steps = (port : ℕ) → call ≡ Find port → length steps ≤ find_bound env

-- nor a tidying than two for each caller, one for each node, and one
abbrev pub IsShortTidying : Env → Call → List Did → Type 0
IsShortTidying env call steps = call ≡ Tidy → length steps ≤ tidy_bound env.geometry

-- at most one of these operations is so
abbrev pub IsAtMostOne : (Did → Type 0) → List Did → Type 0
IsAtMostOne Is [] = Unit {0}
IsAtMostOne Is (did ∷ steps) = (Is did → AllByRecursion (λ other. ¬ Is other) steps) × IsAtMostOne Is steps

-- A look-up loads the shape of each slot at most once: it doesn't meet a slot again, though that may have another table meanwhile.
abbrev pub MeetsEachOnce : Env → Call → List Did → Type 0
MeetsEachOnce env call steps =
    (port slot : ℕ) → call ≡ Find port → slot < 8 → IsAtMostOne (LoadsWord env.geometry (Slot slot ShapeWord)) steps

-- the shape that a walk found: its fourth operation loads it
abbrev pub shape_found : List Did → ℕ
shape_found steps = slice_index (map (λ (did : Did). did.old) steps) 3

-- nor a walk than six, and for each bucket of the table of which it found the shape four and three for each node
abbrev pub IsShortWalk : Env → Call → List Did → Type 0
IsShortWalk env call steps =
    (from : Option Cursor) (limit : ℕ) → call ≡ Walk from limit
    → length steps ≤ walk_bound env.geometry (size_of (unpacked (shape_found steps)))

-- ---- what is never done

-- the operation only loads where it is on a bucket's word, and it isn't on the work lock
pub record IsHarmless (g : Geometry) (did : Did) : Type 0 where
  pub buckets : IsBucketPlace g (op_place did.op) → did.op ≡ Load (op_place did.op)
  pub work : op_place did.op ≢ place_of g WorkLock

-- the call is a look-up, a reading of the count, a tidying or a walk
abbrev pub IsLockFree : Call → Type 0
IsLockFree call =
    ((port : ℕ) × (call ≡ Find port))
    ⊎ (call ≡ Count)
    ⊎ (call ≡ Tidy)
    ⊎ ((from : Option Cursor) × (limit : ℕ) × (call ≡ Walk from limit))

-- so it is of each operation of such a call
abbrev pub IsHarmlessCall : Env → Call → List Did → Type 0
IsHarmlessCall env call steps = IsLockFree call → AllByRecursion (IsHarmless env.geometry) steps

-- ---- reading in one section

-- the operation loads a word
abbrev pub IsLoad : Did → Type 0
IsLoad did = did.op ≡ Load (op_place did.op)

-- with the first of these operations this caller opens its read section, and all others load words
pub record IsReading (g : Geometry) (c : ℕ) (steps : List Did) : Type 0 where
  pub opening : Did
  pub loads : List Did
  pub split : steps ≡ opening ∷ loads
  pub opens : TurnsSection g c opening
  pub only : AllByRecursion IsLoad loads

-- and with the last one it closes the section
pub record HasRead (g : Geometry) (c : ℕ) (steps : List Did) : Type 0 where
  pub opening : Did
  pub loads : List Did
  pub closing : Did
  pub split : steps ≡ opening ∷ loads ++ closing ∷ []
  pub opens : TurnsSection g c opening
  pub only : AllByRecursion IsLoad loads
  pub closes : TurnsSection g c closing

module _ (M : Type 0) (mix : ℕ → ℕ → ℕ → ℕ) where
  -- of the calls of this caller that have ended, and of the one in progress
  pub record EachCall (So : Call → List Did → Type 0) (r : Traced M) (c : ℕ) : Type 0 where
    pub past : AllByRecursion (λ past. So past.done.call past.steps) (r.traces c).past
    pub now : (call : Call) → (r.world.books c).call ≡ Some call → So call (r.traces c).steps

  -- In every run no look-up, ended or in progress, has more operations than the bound: also where a lock is held for good.
  abbrev pub Bounded : Type 0
  Bounded =
      (env : Env) (events : List Event) (c : ℕ) → IsAdmitted events
      → EachCall (IsShort env) (traced_of mix env events) c

  -- And none looks at more than the eight slots.
  abbrev pub MeetsFewTables : Type 0
  MeetsFewTables =
      (env : Env) (events : List Event) (c : ℕ) → IsAdmitted events
      → EachCall (MeetsEachOnce env) (traced_of mix env events) c

  -- and no tidying
  abbrev pub TidiesSoon : Type 0
  TidiesSoon =
      (env : Env) (events : List Event) (c : ℕ) → IsAdmitted events
      → EachCall (IsShortTidying env) (traced_of mix env events) c

  -- and no walk
  abbrev pub WalksSoon : Type 0
  WalksSoon =
      (env : Env) (events : List Event) (c : ℕ) → IsAdmitted events
      → EachCall (IsShortWalk env) (traced_of mix env events) c

  -- A look-up that has ended answered what was so at a moment of its call: behind one of the events from its beginning to its last operation
  -- the words stood for these owners of its port, whoever made the event. The look-up may be taken to take effect there.
  pub record AnswersMoment (env : Env) (events : List Event) (past : Past) (port : ℕ) : Type 0 where
    pub at : ℕ
    pub begun : past.begin ≤ at
    pub before : at < behind_call past
    pub reply : past.done.reply ≡ find_reply (bindings_behind M mix env events (at + 1) port)

  -- and it found its port where that was bound behind each of these events
  abbrev pub IsFoundThroughout : Env → List Event → Past → Type 0
  IsFoundThroughout env events past =
      (port : ℕ) → past.done.call ≡ Find port
      → ((i : ℕ) → past.begin ≤ i → i < behind_call past → bindings_behind M mix env events (i + 1) port ≢ [])
      → (owner : ℕ) × (past.done.reply ≡ Found owner)

  -- in every run each look-up that has ended did
  abbrev pub TakesEffect : Type 0
  TakesEffect =
      (env : Env) (events : List Event) (c : ℕ) → IsAdmitted events
      → AllByRecursion (λ past. (port : ℕ) → past.done.call ≡ Find port → AnswersMoment env events past port)
      ((traced_of {M = M} mix env events).traces c).past

  abbrev pub FindsWhatStays : Type 0
  FindsWhatStays =
      (env : Env) (events : List Event) (c : ℕ) → IsAdmitted events
      → AllByRecursion (IsFoundThroughout env events) ((traced_of {M = M} mix env events).traces c).past

  -- in every run a look-up, a reading of the count, a tidying and a walk change no bucket's word, and don't touch the work lock
  abbrev pub Harmless : Type 0
  Harmless =
      (env : Env) (events : List Event) (c : ℕ) → IsAdmitted events
      → EachCall (IsHarmlessCall env) (traced_of mix env events) c

  -- in every run a look-up reads in one section of its caller's own: it is opened before the first load and closed behind the last one
  pub record ReadsInOneSection (env : Env) (r : Traced M) (c : ℕ) : Type 0 where
    pub past : AllByRecursion (λ past. (port : ℕ) → past.done.call ≡ Find port → HasRead env.geometry c past.steps) (r.traces c).past
    pub now : (port : ℕ) → (r.world.books c).call ≡ Some (Find port)
        → ((r.traces c).steps ≡ []) ⊎ IsReading env.geometry c (r.traces c).steps

  abbrev pub ReadsInside : Type 0
  ReadsInside =
      (env : Env) (events : List Event) (c : ℕ) → IsAdmitted events → ReadsInOneSection env (traced_of mix env events) c
