-- Tidying, by which a caller's waiting nodes are given back: what each state performs, and what comes after it.
use Rattle.std.specs.Prelude.{◌≡◌, ℕ, ◌+◌, ◌<◌, ◌==◌, nat_lt, length, slice_index, Option, None, Some, if◌then◌else◌}
use Rattle.rht_words.specs.declared.op.Op.{Op}
use Rattle.rht_words.specs.declared.op.Op.TheVariants.{Load}
use Rattle.rht_words.specs.declared.machine.Next.{Next}
use Rattle.rht_words.specs.declared.machine.Next.TheVariants.{Go, Done}
use Rattle.rht_words.specs.declared.geometry.Geometry.{Geometry}
use Rattle.rht_words.specs.Places.{section_place}
use Rattle.rht_model.specs.declared.history.Reply.{Reply}
use Rattle.rht_model.specs.declared.history.Reply.TheVariants.{Clear, Pending}
use Rattle.rht_arena.specs.GiveNode.{give_node_plan}
use Rattle.rht_grace.specs.Batch.{BatchModel, turned, with_word, cleared, first_odd}
use Rattle.rht_grace.specs.declared.tidy.TidyAt.{TidyAt}
use Rattle.rht_grace.specs.declared.tidy.TidyAt.TheVariants as at

-- what contracts see of the machine
pub record TidyModel : Type 0 where
  pub geometry : Geometry
  pub batch : BatchModel
  pub at : TidyAt

-- the load of a caller's section word, and the giving back of a node
abbrev pub load_of : ℕ → Op
load_of caller = Load (section_place caller)

abbrev pub give_of : Geometry → ℕ → Op
give_of g node = give_node_plan (record { geometry = g; node = node })

-- the state's one operation
abbrev pub plan_at : Geometry → BatchModel → TidyAt → Op
plan_at g batch (at.Keeping caller) = load_of caller
plan_at g batch (at.Asking caller) = load_of caller
plan_at g batch (at.Giving index) = give_of g (slice_index batch.waiting index)

abbrev pub tidy_plan : TidyModel → Op
tidy_plan m = plan_at m.geometry m.batch m.at

-- the waiting nodes are given back from the one at this place on; behind the last one none waits
abbrev pub giving : BatchModel → ℕ → BatchModel × TidyAt × Next Reply
giving batch index =
    if nat_lt index (length batch.waiting) then (batch, at.Giving index, Go)
    else (cleared batch, at.Keeping 0, Done (Clear (length batch.waiting)))

-- a caller of whom an odd word is kept is asked; where there is none the nodes are given back
abbrev pub ask : BatchModel → Option ℕ → BatchModel × TidyAt × Next Reply
ask batch (Some caller) = (batch, at.Asking caller, Go)
ask batch None = giving batch 0

-- the callers are asked from this one on
abbrev pub asking : BatchModel → ℕ → BatchModel × TidyAt × Next Reply
asking batch caller = ask batch (first_odd batch.kept caller)

-- the section words are loaded from this caller's on; behind the last one the callers are asked
abbrev pub keeping : Geometry → BatchModel → ℕ → BatchModel × TidyAt × Next Reply
keeping g batch caller = if nat_lt caller g.callers then (batch, at.Keeping caller, Go) else asking batch 0

-- Who was asked has the word that is kept still, so that the nodes have to wait. Or it has another one: it has left the
-- section that it was in, and isn't asked again.
abbrev pub asked : BatchModel → ℕ → ℕ → BatchModel × TidyAt × Next Reply
asked batch caller word =
    if word == slice_index batch.kept caller then (batch, at.Asking caller, Done (Pending caller word))
    else asking (with_word batch caller 0) (caller + 1)

-- what comes after a state that found this word
abbrev pub after_at : Geometry → BatchModel → TidyAt → ℕ → BatchModel × TidyAt × Next Reply
after_at g batch (at.Keeping caller) word = keeping g (with_word batch caller word) (caller + 1)
after_at g batch (at.Asking caller) word = asked batch caller word
after_at g batch (at.Giving index) word = giving batch (index + 1)

abbrev pub moved : TidyModel → BatchModel × TidyAt × Next Reply → TidyModel × Next Reply
moved m (batch, at, next) = (record m { batch = batch; at = at }, next)

abbrev pub tidy_after : TidyModel → ℕ → TidyModel × Next Reply
tidy_after m word = moved m (after_at m.geometry m.batch m.at word)

-- It begins with the loads that are kept where no node waits, and the fresh ones wait from then on. Where some wait
-- their words are kept already, and it begins with the callers that are to be asked, or gives the nodes back.
abbrev pub asked_at : Option ℕ → TidyAt
asked_at (Some caller) = at.Asking caller
asked_at None = at.Giving 0

abbrev pub begun : BatchModel → BatchModel × TidyAt
begun batch =
    if length batch.waiting == 0 then (turned batch, at.Keeping 0) else (batch, asked_at (first_odd batch.kept 0))

abbrev pub tidy_new : Geometry → BatchModel → TidyModel
tidy_new g batch = record { geometry = g; batch = (begun batch).0; at = (begun batch).1 }

-- ---- what a tidying names

-- its callers are there, and its place is that of a waiting node
abbrev pub IsTidyAtIn : BatchModel → TidyAt → Type 0
IsTidyAtIn batch (at.Keeping caller) = caller < batch.geometry.callers
IsTidyAtIn batch (at.Asking caller) = caller < batch.geometry.callers
IsTidyAtIn batch (at.Giving index) = (index < length batch.waiting) × (index < batch.geometry.nodes)

-- the batch is of this table
pub record IsTidyIn (g : Geometry) (batch : BatchModel) (at : TidyAt) : Type 0 where
  pub same_geometry : batch.geometry ≡ g
  pub at_in : IsTidyAtIn batch at
