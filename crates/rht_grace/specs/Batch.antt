-- A caller's batch: its nodes that were taken out and aren't given back yet, and the section words for which some of
-- them wait.
use Rattle.std.specs.Prelude.{◌≡◌, ℕ, ◌+◌, ◌%◌, ◌<◌, ◌==◌, List, [], ◌∷◌, ◌++◌, length, replicate, drop, slice_set, Option, None, Some, if◌then◌else◌}
use Rattle.std.specs.List.{AllByRecursion}
use Rattle.rht_words.specs.declared.geometry.Geometry.{Geometry}
use Rattle.rht_words.specs.Members.{IsDistinct}

-- What contracts see of a batch: the nodes that wait for nothing yet and those that wait, the latest last, and for each
-- caller the section word that is kept for those that wait.
pub record BatchModel : Type 0 where
  pub geometry : Geometry
  pub fresh : List ℕ
  pub waiting : List ℕ
  pub kept : List ℕ

-- its nodes are the table's, none of them stands there twice, and a section word is kept for each caller
pub record IsBatch (batch : BatchModel) : Type 0 where
  pub among : AllByRecursion (λ node. node < batch.geometry.nodes) (batch.fresh ++ batch.waiting)
  pub distinct : IsDistinct (batch.fresh ++ batch.waiting)
  pub callers : length batch.kept ≡ batch.geometry.callers

-- it begins without nodes
abbrev pub batch_new : Geometry → BatchModel
batch_new g = record { geometry = g; fresh = []; waiting = []; kept = replicate g.callers 0 }

-- one fresh node more
abbrev pub with_fresh : BatchModel → ℕ → BatchModel
with_fresh batch node = record batch { fresh = batch.fresh ++ node ∷ [] }

-- the fresh nodes wait from now on, and no others
abbrev pub turned : BatchModel → BatchModel
turned batch = record batch { fresh = []; waiting = batch.fresh }

-- this word is kept of a caller
abbrev pub with_word : BatchModel → ℕ → ℕ → BatchModel
with_word batch caller word = record batch { kept = slice_set batch.kept caller word }

-- none waits any more
abbrev pub cleared : BatchModel → BatchModel
cleared batch = record batch { waiting = [] }

-- the first of these words that is odd, where they are those from this caller on: whose it is
abbrev pub odd_among : ℕ → List ℕ → Option ℕ
odd_among caller [] = None
odd_among caller (word ∷ words) = if word % 2 == 1 then Some caller else odd_among (caller + 1) words

-- the first caller from this one on of whom an odd word is kept
abbrev pub first_odd : List ℕ → ℕ → Option ℕ
first_odd kept caller = odd_among caller (drop caller kept)
