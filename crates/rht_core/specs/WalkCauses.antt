-- Why a walk was answered as it was: it has done what it answers, whatever it found. Without a cursor its first bucket is bucket 0.
use Rattle.std.specs.Prelude.{ℕ, Option, List, map}
use Rattle.rht_words.specs.declared.env.Env.{Env}
use Rattle.rht_model.specs.declared.history.Cursor.{Cursor}
use Rattle.rht_model.specs.declared.history.Reply.{Reply}
use Rattle.rht_walk.specs.WalkLaws.{EndsRightly}
use Rattle.rht_core.specs.Traces.{Did, performed_of}

-- The operations of a walk of this caller from this cursor, which ended with this reply and these pairs. They open its section, load which
-- table is the current one, its serial and its shape, and close the section last. Between these lie the loads of buckets and of their chains.
-- `Walked`: the pairs are the keys and owners that were loaded, in order, as many as there are nodes at most. With a cursor, that is of the
-- walked table, at a later bucket that it has, and enough pairs were kept. Without one all buckets were walked, and the last load found no
-- table behind. `Again`: there are no pairs; the walked table's future was loaded last and leads there, or this is the walked table itself
-- and the cursor doesn't fit it.
abbrev pub SawForWalk : Env → ℕ → Option Cursor → ℕ → Reply → List (ℕ × ℕ) → List Did → Type 0
SawForWalk env c from limit reply pairs steps =
    EndsRightly env.geometry c from limit env.geometry.nodes
    (record { reply = reply; room = record { items = pairs; limit = env.geometry.nodes } }) (map performed_of steps)
