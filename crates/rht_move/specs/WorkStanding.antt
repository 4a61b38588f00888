-- Where a worker stands in each of its states: at the current table, at the one behind it, and at the table to which it brings an entry, once
-- it has come to these. And at the entry, and the one before it. A table that it makes isn't among these.
use Rattle.std.specs.Prelude.{ℕ, List, [], ◌∷◌}
use Rattle.rht_words.specs.Standing.{Standing, stands_nowhere, stands_in, stands_at, if_one}
use Rattle.rht_move.specs.declared.last_table.LastTableAt.{LastTableAt}
use Rattle.rht_move.specs.declared.last_table.LastTableAt.TheVariants as seeks
use Rattle.rht_move.specs.declared.last_entry.Entry.{Entry}
use Rattle.rht_move.specs.declared.rehash.Rehash.{Rehash}
use Rattle.rht_move.specs.declared.work.WorkAt.{WorkAt}
use Rattle.rht_move.specs.declared.work.WorkAt.TheVariants as at

-- the search for the last table stands at a table
abbrev pub table_of_seek : LastTableAt → ℕ
table_of_seek (seeks.Future table) = table
table_of_seek (seeks.Shape table) = table

-- the tables of a move, and these
abbrev pub tables_of : Rehash → List ℕ → List ℕ
tables_of rehash more = rehash.root ∷ rehash.future ∷ more

-- an entry, and the one before it
abbrev pub nodes_of : Entry → List ℕ
nodes_of entry = entry.node ∷ if_one entry.before

abbrev pub standing_of_work : WorkAt → Standing
standing_of_work at.WorkLock = stands_nowhere
standing_of_work (at.Returning returns) = stands_nowhere
standing_of_work at.Opening = stands_nowhere
standing_of_work at.CurrentTable = stands_nowhere
standing_of_work (at.LastTable root seek) = stands_in (root ∷ table_of_seek seek.at ∷ [])
standing_of_work (at.Count root last) = stands_in (root ∷ last.table ∷ [])
standing_of_work (at.Making wanted make) = stands_in (wanted.root ∷ wanted.last.table ∷ [])
standing_of_work (at.Attaching root last slot shape) = stands_in (root ∷ last ∷ [])
standing_of_work (at.Unmaking root unmake) = stands_in (root ∷ [])
standing_of_work (at.RootFuture root due) = stands_in (root ∷ [])
standing_of_work (at.RootShape root future again) = stands_in (root ∷ future ∷ [])
standing_of_work (at.Entry rehash number place) = stands_in (tables_of rehash [])
standing_of_work (at.Locking rehash number lock) = stands_in (tables_of rehash [])
standing_of_work (at.EntryTable emptying seek) = stands_in (tables_of emptying.rehash (table_of_seek seek.at ∷ []))
standing_of_work (at.Seed emptying last) = stands_in (tables_of emptying.rehash (last.table ∷ []))
standing_of_work (at.BucketWord emptying target) = stands_in (tables_of emptying.rehash (target.table ∷ []))
standing_of_work (at.Walking emptying target walk) =
    stands_at (tables_of emptying.rehash (target.table ∷ [])) (walk.node ∷ if_one walk.before)
standing_of_work (at.Key emptying target entry) =
    stands_at (tables_of emptying.rehash (target.table ∷ [])) (nodes_of entry)
standing_of_work (at.LockingSecond emptying entry table lock) =
    stands_at (tables_of emptying.rehash (table ∷ [])) (nodes_of entry)
standing_of_work (at.EntryLink emptying entry second) =
    stands_at (tables_of emptying.rehash (second.table ∷ [])) (nodes_of entry)
standing_of_work (at.Linking emptying entry second) =
    stands_at (tables_of emptying.rehash (second.table ∷ [])) (nodes_of entry)
standing_of_work (at.CuttingOff emptying entry) = stands_at (tables_of emptying.rehash []) (nodes_of entry)
standing_of_work (at.Unlocking rehash number unlock stop) = stands_in (tables_of rehash [])
standing_of_work (at.Publishing rehash) = stands_in (tables_of rehash [])
standing_of_work (at.NewFuture rehash) = stands_in (rehash.future ∷ [])
standing_of_work (at.Closing ending) = stands_nowhere
standing_of_work (at.Retiring root again) = stands_nowhere
standing_of_work (at.KeepingSections keep again) = stands_nowhere
standing_of_work (at.LettingGo outcome) = stands_nowhere
