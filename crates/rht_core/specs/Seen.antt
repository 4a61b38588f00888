-- What the operations of a call show of tables, of the count of ports and of their caller's read section.
use Rattle.std.specs.Prelude.{◌≡◌, ◌≢◌, ℕ, Some, ◌+◌, ◌<◌, ◌≤◌, ◌==◌, ◌&&◌, not, List, ◌∷◌, ◌++◌, take, count_by}
use Rattle.std.specs.List.{AllByRecursion, range_with_len}
use Rattle.rht_words.specs.declared.op.Op.TheVariants.{Load, Add}
use Rattle.rht_words.specs.declared.env.Env.{Env}
use Rattle.rht_words.specs.declared.geometry.Geometry.{Geometry}
use Rattle.rht_words.specs.Links.{table_of, slot_of}
use Rattle.rht_words.specs.Places.{Address, CurrentTable, PortCount, Section, Slot, ShapeWord, FutureWord, IsAddress, place_of}
use Rattle.rht_core.specs.declared.event.Event.{Event}
use Rattle.rht_callers.specs.Locals.{is_idle}
use Rattle.rht_core.specs.Runs.{Core, local_of, run_of}
use Rattle.rht_core.specs.Traces.{Did}
use Rattle.rht_stands.specs.StandsFor.{stands_for, AreBound}

-- how many callers but this one are in the middle of a call
abbrev pub others_in_call : {M : Type 0} → Core M → ℕ → ℕ
others_in_call core c =
    count_by (λ other. not (other == c) && not (is_idle (local_of core other))) (range_with_len 0 core.env.geometry.callers)

-- the operation loads this word of the table
pub record LoadsWord (g : Geometry) (address : Address) (did : Did) : Type 0 where
  pub there : IsAddress g address
  pub loads : did.op ≡ Load (place_of g address)

-- and that is the current table's, which is in this slot
abbrev pub LoadsCurrent : Geometry → ℕ → Did → Type 0
LoadsCurrent g table did = LoadsWord g CurrentTable did × (table_of did.old ≡ table)

-- the operation doesn't load which table is the current one
abbrev pub IsNoCurrentLoad : Geometry → Did → Type 0
IsNoCurrentLoad g did = did.op ≢ Load (place_of g CurrentTable)

-- the operation adds 1 to the section word of this caller
abbrev pub TurnsSection : Geometry → ℕ → Did → Type 0
TurnsSection g c did = did.op ≡ Add (place_of g (Section c)) 1

-- the operation neither opens nor closes a read section
abbrev pub TurnsNoSection : Geometry → Did → Type 0
TurnsNoSection g did = (caller : ℕ) → caller < 16 → TurnsSection g caller did → ⊥

-- nor does it load which table is the current one
abbrev pub StaysInSection : Geometry → Did → Type 0
StaysInSection g did = IsNoCurrentLoad g did × TurnsNoSection g did

-- one of these operations is so, and none before it opened or closed a read section
pub record AnyInSection (g : Geometry) (Is : Did → Type 0) (steps : List Did) : Type 0 where
  pub before : List Did
  pub at : Did
  pub behind : List Did
  pub split : steps ≡ before ++ at ∷ behind
  pub inside : AllByRecursion (TurnsNoSection g) before
  pub is : Is at

-- The operations came to the table of this slot from their last load of the current table on, in the section in which they made that. It
-- found this one, or from it they came to another one, and then loaded this one as its future.
pub data CameTo (g : Geometry) : ℕ → List Did → Type 0 where
  as_current :
      (table : ℕ) (before : List Did) (at : Did) (behind steps : List Did)
      → LoadsCurrent g table at
      → steps ≡ before ++ at ∷ behind
      → AllByRecursion (StaysInSection g) behind
      → CameTo g table steps
  as_future :
      (front table : ℕ) (before : List Did) (at : Did) (behind steps : List Did)
      → CameTo g front before
      → LoadsWord g (Slot front FutureWord) at
      → slot_of at.old ≡ Some table
      → steps ≡ before ++ at ∷ behind
      → AllByRecursion (StaysInSection g) behind
      → CameTo g table steps

-- the operation doesn't load the shape of a table
abbrev pub IsNoShapeLoad : Geometry → Did → Type 0
IsNoShapeLoad g did = (table : ℕ) → table < 8 → did.op ≢ Load (place_of g (Slot table ShapeWord))

-- The last table of which these operations loaded the shape is that of this slot, and this shape was found. They had come to
-- that table before, from their last load of the current table up to then, in one section.
pub record LastWalked (g : Geometry) (table shape : ℕ) (steps : List Did) : Type 0 where
  pub before : List Did
  pub at : Did
  pub behind : List Did
  pub split : steps ≡ before ++ at ∷ behind
  pub reached : CameTo g table before
  pub table_in : table < 8
  pub loaded : at.op ≡ Load (place_of g (Slot table ShapeWord))
  pub found : at.old ≡ shape
  pub last : AllByRecursion (IsNoShapeLoad g) behind

module _ (M : Type 0) (mix : ℕ → ℕ → ℕ → ℕ) where
  -- the words before the event with this number
  abbrev pub words_before : Env → List Event → ℕ → List ℕ
  words_before env events index = (run_of {M = M} mix env (take index events)).core.words

  -- At the event of this operation just so many ports were bound, and no more. They are at most the count, and with the other
  -- callers in mid-call at least that.
  pub record CountedAt (env : Env) (events : List Event) (c count : ℕ) (did : Did) : Type 0 where
    pub bound : ℕ
    pub are_bound : AreBound (stands_for env.geometry (words_before env events did.index)) bound
    pub most : (more : ℕ) → AreBound (stands_for env.geometry (words_before env events did.index)) more → more ≤ bound
    pub few : bound ≤ count
    pub enough : count ≤ bound + others_in_call (run_of {M = M} mix env (take did.index events)).core c

  -- the operation loaded this count of ports, and so many there were
  pub record SawCount (env : Env) (events : List Event) (c count : ℕ) (did : Did) : Type 0 where
    pub loaded : did.op ≡ Load (place_of env.geometry PortCount)
    pub found : did.old ≡ count
    pub counted : CountedAt env events c count did
