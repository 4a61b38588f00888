-- To which tables the way to a port's bucket has come.
use Rattle.std.specs.Prelude.{ℕ, Option, List, [], ◌∷◌}
use Rattle.rht_words.specs.Standing.{if_one}
use Rattle.rht_nest.specs.Locate.{LocateModel}
use Rattle.rht_nest.specs.declared.locate.LocateAt.{LocateAt}
use Rattle.rht_nest.specs.declared.locate.LocateAt.TheVariants as at

-- to the table behind, once its future was loaded, where it has one
abbrev pub tables_behind : LocateAt → List ℕ
tables_behind at.Shape = []
tables_behind (at.Seed shape) = []
tables_behind (at.Early shape place) = []
tables_behind (at.Entry shape early place) = if_one early

-- to the table in which the bucket is looked for
abbrev pub tables_of_locate : LocateModel → List ℕ
tables_of_locate m = m.table ∷ tables_behind m.at
