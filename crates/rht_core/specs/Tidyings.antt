-- What a tidying names: callers that are there, and a batch of the table, with a section word for each caller.
use Rattle.std.specs.Prelude.{◌≡◌, ◌<◌, ◌++◌, length}
use Rattle.std.specs.List.{AllByRecursion}
use Rattle.rht_words.specs.declared.geometry.Geometry.{Geometry}
use Rattle.rht_words.specs.declared.env.Env.{Env}
use Rattle.rht_grace.specs.Batch.{BatchModel}
use Rattle.rht_grace.specs.Tidy.{TidyModel}
use Rattle.rht_grace.specs.declared.tidy.TidyAt.{TidyAt}
use Rattle.rht_grace.specs.declared.tidy.TidyAt.TheVariants as at

-- its callers are there, and its place is that of a waiting node
abbrev pub IsTidyPlace : Geometry → BatchModel → TidyAt → Type 0
IsTidyPlace g batch (at.Keeping caller) = caller < g.callers
IsTidyPlace g batch (at.Asking caller) = caller < g.callers
IsTidyPlace g batch (at.Giving index) = index < length batch.waiting

pub record IsTidyingIn (g : Geometry) (batch : BatchModel) (state : TidyAt) : Type 0 where
  pub same_geometry : batch.geometry ≡ g
  pub among : AllByRecursion (λ node. node < g.nodes) (batch.fresh ++ batch.waiting)
  pub words : length batch.kept ≡ g.callers
  pub at_in : IsTidyPlace g batch state

-- it is one in this table
pub record IsTidyingOf (env : Env) (m : TidyModel) : Type 0 where
  pub same_geometry : m.geometry ≡ env.geometry
  pub at_in : IsTidyingIn env.geometry m.batch m.at
