-- What contracts see of an adapter.
use Rattle.std.specs.Prelude.{ℕ}

-- a reader or a writer that is used as a source or a sink, and how many calls of the adapter failed
pub record Adapted (inner : Type 0) : Type 0 where
  pub through : inner
  pub faults : ℕ
