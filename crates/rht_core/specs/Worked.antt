-- What a resizing leaves that is alone: while it is made no other caller is in the middle of a call. And which retired tables one
-- gives back, whoever else is about.
use Rattle.std.specs.Prelude.{◌≡◌, ◌≢◌, ℕ, ◌%◌, ◌<◌, ◌≤◌, ◌⊎◌, Bool, true, false, List, [], ◌∷◌, take}
use Rattle.std.specs.List.{Any, Contains}
use Rattle.rht_words.specs.declared.env.Env.{Env}
use Rattle.rht_words.specs.declared.geometry.Geometry.{Geometry}
use Rattle.rht_words.specs.Links.{table_of}
use Rattle.rht_words.specs.Places.{CurrentTable, WorkLock, Section, Slot, StateWord, LoadedSection, word_at}
use Rattle.rht_words.specs.Shapes.{unpacked, size_of}
use Rattle.rht_policy.specs.Thresholds.{is_above_75}
use Rattle.rht_model.specs.declared.history.Call.TheVariants.{Work}
use Rattle.rht_model.specs.declared.history.Reply.TheVariants.{Moved, Idle, Elsewhere}
use Rattle.rht_nest.specs.Tables.{is_nested}
use Rattle.rht_core.specs.declared.event.Event.{Event}
use Rattle.rht_callers.specs.Locals.{is_idle}
use Rattle.rht_core.specs.Runs.{local_of, run_of, IsAdmitted}
use Rattle.rht_core.specs.Traces.{Did, Past, traced_of, behind_call}
use Rattle.rht_stands.specs.StandsFor.{in_force, shape_of, stands_for, AreAllBound}
use Rattle.rht_core.specs.Due.{is_due_to_shrink}
use Rattle.rht_core.specs.WorkCauses.{TakesWorkLock, StoresCurrent}
use Rattle.rht_core.specs.Returned.{ReturnsSlot}

-- Nothing is due: one table is in force, and it is flat; the ports bound are neither too many for its size, where it may grow,
-- nor too few, where shrinking is on; and nobody has the work lock.
pub record IsSettled (env : Env) (words : List ℕ) : Type 0 where
  pub ports : ℕ
  pub bound : AreAllBound (stands_for env.geometry words) ports
  pub table : ℕ
  pub alone : in_force env.geometry words ≡ table ∷ []
  pub flat : is_nested (shape_of env.geometry words table) ≡ false
  pub not_full : is_above_75 ports (size_of (unpacked (shape_of env.geometry words table))) env.config.max ≡ false
  pub not_sparse : is_due_to_shrink env ports (size_of (unpacked (shape_of env.geometry words table))) ≡ false
  pub unlocked : word_at env.geometry words WorkLock ≡ 0

-- one of these operations made this table the current one, which it is behind them; before them another one was
pub record HasReplaced (g : Geometry) (steps : List Did) (before after : List ℕ) : Type 0 where
  pub table : ℕ
  pub stored : Any (StoresCurrent g table) steps
  pub current : table_of (word_at g after CurrentTable) ≡ table
  pub another : table_of (word_at g before CurrentTable) ≢ table

-- the table in this slot is retired
abbrev pub IsRetired : Geometry → List ℕ → ℕ → Type 0
IsRetired g words slot = (slot < 8) × (word_at g words (Slot slot StateWord) ≡ 2)

-- By the words that are kept in this slot each caller but this one has left the section in which it could come to the slot's
-- table: an even word was kept of it, or its section word is another one now.
abbrev pub HaveOthersLeft : Geometry → List ℕ → ℕ → ℕ → Type 0
HaveOthersLeft g words c slot =
    (other : ℕ) → other < g.callers → other ≢ c
    → (word_at g words (Slot slot (LoadedSection other)) % 2 ≡ 0)
    ⊎ (word_at g words (Section other) ≢ word_at g words (Slot slot (LoadedSection other)))

module _ (M : Type 0) (mix : ℕ → ℕ → ℕ → ℕ) where
  -- from the call's beginning up to its end no other caller is in a call
  abbrev pub IsAloneDuring : Env → List Event → ℕ → Past → Type 0
  IsAloneDuring env events c past =
      (index other : ℕ) → past.begin ≤ index → index ≤ behind_call past → other ≢ c
      → is_idle (local_of (run_of {M = M} mix env (take index events)).core other) ≡ true

  -- the words behind so many events
  abbrev pub words_behind : Env → List Event → ℕ → List ℕ
  words_behind env events n = (run_of {M = M} mix env (take n events)).core.words

  -- A resizing that was alone and answered that nothing was due left nothing due; one that answered that it moved made another
  -- table the current one. And each table that was retired as the call began it has given back, but where it found another caller
  -- at work.
  pub record HasWorked (env : Env) (events : List Event) (past : Past) : Type 0 where
    pub idle : past.done.reply ≡ Idle → IsSettled env (words_behind env events (behind_call past))
    pub moved : (again : Bool) → past.done.reply ≡ Moved again
        → HasReplaced env.geometry past.steps (words_behind env events past.begin) (words_behind env events (behind_call past))
    pub returned : past.done.reply ≢ Elsewhere → (slot : ℕ) → IsRetired env.geometry (words_behind env events past.begin) slot
        → Any (ReturnsSlot env.geometry slot) past.steps

  -- in every run each resizing has worked so that has ended with no other caller in a call
  abbrev pub Worked : Type 0
  Worked =
      (env : Env) (events : List Event) (c : ℕ) (past : Past) → IsAdmitted events
      → Contains ((traced_of {M = M} mix env events).traces c).past past
      → past.done.call ≡ Work
      → IsAloneDuring env events c past
      → HasWorked env events past

  -- With its first operation the call took the work lock, and the table in this slot was retired then. From there up to the
  -- call's end the others have left the sections in which they could come to it.
  pub record IsToReturn (env : Env) (events : List Event) (c slot : ℕ) (past : Past) : Type 0 where
    pub lock : Did
    pub behind : List Did
    pub first : past.steps ≡ lock ∷ behind
    pub took : TakesWorkLock env.geometry lock
    pub retired : IsRetired env.geometry (words_behind env events lock.index) slot
    pub left : (index : ℕ) → lock.index ≤ index → index ≤ behind_call past
        → HaveOthersLeft env.geometry (words_behind env events index) c slot

  -- in every run each resizing that has ended has given each such table back, whoever else was in a call
  abbrev pub GivesRetiredBack : Type 0
  GivesRetiredBack =
      (env : Env) (events : List Event) (c slot : ℕ) (past : Past) → IsAdmitted events
      → Contains ((traced_of {M = M} mix env events).traces c).past past
      → past.done.call ≡ Work
      → IsToReturn env events c slot past
      → Any (ReturnsSlot env.geometry slot) past.steps
