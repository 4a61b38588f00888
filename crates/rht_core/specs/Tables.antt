-- What is true of each table in force, in every run: how many buckets it has, what its slot says, and which serial it has.
use Rattle.std.specs.Prelude.{◌≡◌, ◌≢◌, ◌⊎◌, ℕ, ◌+◌, ◌-◌, ◌%◌, ◌^◌, ◌<◌, ◌≤◌, ◌==◌, List, [], ◌∷◌, ◌++◌, cond}
use Rattle.rht_words.specs.declared.env.Env.{Env}
use Rattle.rht_words.specs.Members.{In, IsDistinct}
use Rattle.rht_words.specs.Places.{CurrentTable, NextSerial, Slot, SlotWord, SeedWord, FutureWord, SerialWord, StateWord, word_at}
use Rattle.rht_words.specs.declared.shape.Shape.{Shape}
use Rattle.rht_words.specs.Shapes.{unpacked, size_of}
use Rattle.rht_nest.specs.Tables.{table_pages}
use Rattle.rht_core.specs.declared.event.Event.{Event}
use Rattle.rht_core.specs.Runs.{World, opening, world_step, run_of, IsAdmitted}
use Rattle.rht_stands.specs.StandsFor.{in_force, shape_of}

-- ---- one table

module _ (env : Env) where
  -- The exponent is one that is read as it is. The table is flat; or it is nested, has 128 buckets or more, and takes so many bits of a
  -- bucket's number at its top page that each further level takes six. The pages with which it was made are there.
  pub record IsShapeRight (shape : Shape) : Type 0 where
    pub low : 2 ≤ shape.exponent
    pub high : shape.exponent ≤ 17
    pub nest : (shape.nest ≡ 0) ⊎ ((7 ≤ shape.exponent) × (shape.nest ≡ (shape.exponent - 1) % 6 + 1))
    pub within : shape.page + table_pages shape ≤ env.geometry.pages

module _ (env : Env) (words : List ℕ) where
  -- this word of a slot
  abbrev pub slot_word : ℕ → SlotWord → ℕ
  slot_word slot word = word_at env.geometry words (Slot slot word)

  -- how many buckets the table in this slot has
  abbrev pub table_size : ℕ → ℕ
  table_size slot = size_of (unpacked (shape_of env.geometry words slot))

  -- The table has the config's least number of buckets or more, and 2^17 at most; where the config names a greatest number, no more than
  -- that. Its slot is taken and not retired. Its seed is the config's and its serial together, in 32 bits.
  pub record IsTableRight (slot : ℕ) : Type 0 where
    pub shape : IsShapeRight env (unpacked (shape_of env.geometry words slot))
    pub least : env.config.min ≤ table_size slot
    pub most : table_size slot ≤ 131072
    pub greatest : env.config.max ≢ 0 → table_size slot ≤ env.config.max
    pub state : slot_word slot StateWord ≡ 1
    pub seed : slot_word slot SeedWord ≡ (env.config.seed + slot_word slot SerialWord) % 2 ^ 32

  -- ---- all of them

  -- the last of these slots has a table without a future
  pub record EndsSomewhere (tables : List ℕ) : Type 0 where
    pub front : List ℕ
    pub last : ℕ
    pub split : tables ≡ front ++ last ∷ []
    pub none : slot_word last FutureWord ≡ 0

  -- The word of the current table names one of the eight slots. Each table in force is right, none is met twice along the futures, and the
  -- last one has no future.
  pub record AreTablesRight : Type 0 where
    pub current : word_at env.geometry words CurrentTable < 8
    pub each : (slot : ℕ) → In slot (in_force env.geometry words) → IsTableRight slot
    pub distinct : IsDistinct (in_force env.geometry words)
    pub ends : EndsSomewhere (in_force env.geometry words)

  -- So many serials were drawn, the first table's at opening, and the next one is of that number. Each table in force has one of
  -- these draws, and no two tables in force have the same. A serial is the number of its draw, cut to 64 bits.
  pub record AreNumbered (drawn : ℕ) : Type 0 where
    pub next : word_at env.geometry words NextSerial ≡ drawn % 2 ^ 64
    pub draw : ℕ → ℕ
    pub before : (slot : ℕ) → In slot (in_force env.geometry words) → draw slot < drawn
    pub serial : (slot : ℕ) → In slot (in_force env.geometry words) → slot_word slot SerialWord ≡ draw slot % 2 ^ 64
    pub apart : (one other : ℕ) → In one (in_force env.geometry words) → In other (in_force env.geometry words)
        → draw one ≡ draw other → one ≡ other

-- ---- how many serials were drawn

-- the word of the next serial
abbrev pub next_serial : {M : Type 0} → World M → ℕ
next_serial w = word_at w.core.env.geometry w.core.words NextSerial

module _ (M : Type 0) (mix : ℕ → ℕ → ℕ → ℕ) where
  -- how many of these events, which follow on this world, draw one: an event does so that changes the next serial
  abbrev pub drawn_from : World M → List Event → ℕ
  drawn_from w [] = 0
  drawn_from w (event ∷ events) =
      cond (next_serial w == next_serial (world_step mix w event)) 0 1 + drawn_from (world_step mix w event) events

  -- how many serials a run has drawn, with that of the first table
  abbrev pub drawn_in : Env → List Event → ℕ
  drawn_in env events = 1 + drawn_from (opening env) events

-- ---- the law

module _ (M : Type 0) (mix : ℕ → ℕ → ℕ → ℕ) where
  -- in every run the tables in force are right, and each has a serial of its own
  abbrev pub Tables : Type 0
  Tables =
      (env : Env) (events : List Event) → IsAdmitted events
      → let w : World M = run_of mix env events in
      AreTablesRight env w.core.words × AreNumbered env w.core.words (drawn_in M mix env events)

  -- the words behind these events
  abbrev pub words_behind : Env → List Event → List ℕ
  words_behind env events = (run_of {M = M} mix env events).core.words

  -- a table that was in force, and one that is, are one table: they have the same slot, which was in force in between
  pub record IsStill (env : Env) (before between : List Event) (one other : ℕ) : Type 0 where
    pub same : one ≡ other
    pub stayed : In one (in_force env.geometry (words_behind env (before ++ between)))

  -- No serial comes back, where fewer than 2^64 were drawn: a table in force that has the serial of one that was in force before is that one.
  abbrev pub NeverAgain : Type 0
  NeverAgain =
      (env : Env) (before between behind : List Event) → IsAdmitted (before ++ between ++ behind)
      → drawn_in M mix env (before ++ between ++ behind) < 2 ^ 64 → (one other : ℕ)
      → In one (in_force env.geometry (words_behind env before))
      → In other (in_force env.geometry (words_behind env (before ++ between ++ behind)))
      → slot_word env (words_behind env before) one SerialWord
      ≡ slot_word env (words_behind env (before ++ between ++ behind)) other SerialWord
      → IsStill env before between one other
