-- What a call that has ended has let go: the work lock, the locks of buckets and its read section, whatever its reply.
-- A lock is the lowest bit of its word. What such a bit is, it is by its value at opening and by the calls that turned it an odd number of
-- times. So once each call has ended, and none of them did, every lock is free, whatever the order of their operations. In the same way the
-- lowest bit of a section word says that its caller is in a read section.
use Rattle.std.specs.Prelude.{◌≡◌, ℕ, ◌*◌, ◌%◌, ◌<◌, ◌⊎◌, List}
use Rattle.std.specs.List.{AllByRecursion}
use Rattle.rht_words.specs.declared.env.Env.{Env}
use Rattle.rht_words.specs.declared.geometry.Geometry.{Geometry}
use Rattle.rht_words.specs.Places.{WorkLock, Section, PageWord, place_of}
use Rattle.rht_model.specs.declared.history.Call.{Call}
use Rattle.rht_core.specs.declared.event.Event.{Event}
use Rattle.rht_core.specs.Runs.{IsAdmitted}
use Rattle.rht_core.specs.Traces.{Did, Past, traced_of}
use Rattle.rht_core.specs.Seen.{words_before}
use Rattle.rht_core.specs.Refused.{turns, IsEvenIn, MayAttach, EnteredWhenTaken}

-- a bind entered a page at this entry, when it had taken the page: by the words before, the entry was one of a nested table and led to none
pub record HasEnteredAt (g : Geometry) (words_at : ℕ → List ℕ) (call : Call) (steps : List Did) (entry : ℕ) : Type 0 where
  pub may : MayAttach call
  pub page : ℕ
  pub entered : EnteredWhenTaken g words_at entry page steps

module _ (M : Type 0) (mix : ℕ → ℕ → ℕ → ℕ) where
  -- A caller's call has let go of the work lock, of the lock of each bucket, and of the caller's read section. Where the word of
  -- a page is an entry its lowest bit is no lock: it is left turned only where the call itself entered a page there; or by one
  -- operation with which a resizing cleared the entry of a retired table, all others having turned it an even number of times.
  pub record HasLetGo (env : Env) (events : List Event) (c : ℕ) (past : Past) : Type 0 where
    pub work : turns (place_of env.geometry WorkLock) 0 past.steps % 2 ≡ 0
    pub buckets : (index : ℕ) → index < 64 * env.geometry.pages
        → HasEnteredAt env.geometry (words_before M mix env events) past.done.call past.steps index
        ⊎ IsEvenIn env.geometry (words_before M mix env events) past.done.call (place_of env.geometry (PageWord index)) 0 past.steps
    pub section : turns (place_of env.geometry (Section c)) 0 past.steps % 2 ≡ 0

  -- in every run each call that has ended has let go of its locks and its section
  abbrev pub LetGo : Type 0
  LetGo =
      (env : Env) (events : List Event) (c : ℕ) → IsAdmitted events
      → AllByRecursion (HasLetGo env events c) ((traced_of {M = M} mix env events).traces c).past
