-- What contracts see of the sources and sinks that keep bytes in memory.
use Rattle.std.specs.Prelude.{ℕ, ◌+◌, ◌-◌, ◌^◌, ◌<◌, ◌≤◌, min, List, length, drop, take, ◌++◌, Contains}

-- a counter after one more, which stops at its last value
abbrev pub counted : ℕ → ℕ
counted n = min (n + 1) (2 ^ 64 - 1)

-- the calls of a source or a sink: how many were made, the numbers of those that are to fail, counted from 1, and how many failed
pub record CallCounts : Type 0 where
  pub made : ℕ
  pub fails : List ℕ
  pub faults : ℕ

-- the next call is to fail
abbrev pub IsToFail : CallCounts → Type 0
IsToFail calls = Contains calls.fails (counted calls.made)

-- the calls after one that did not fail
abbrev pub after_success : CallCounts → CallCounts
after_success calls = record calls { made = counted calls.made }

-- the calls after one that failed
abbrev pub after_failure : CallCounts → CallCounts
after_failure calls = record calls { made = counted calls.made; faults = counted calls.faults }

-- a source in memory: the bytes that are left, the most that a call gives, and its calls
pub record MemoryInput : Type 0 where
  pub left : List ℕ
  pub piece : ℕ
  pub calls : CallCounts

-- a sink in memory: the bytes that it holds, the most that it can hold, and its calls
pub record MemoryOutput : Type 0 where
  pub held : List ℕ
  pub room : ℕ
  pub calls : CallCounts

-- a room after n bytes were put at its front
abbrev pub filled : List ℕ → List ℕ → ℕ → List ℕ
filled bytes room n = take n bytes ++ drop n room

-- the source after it gave n bytes
abbrev pub after_take : MemoryInput → ℕ → MemoryInput
after_take source n = record source { left = drop n source.left; calls = after_success source.calls }

-- the source after a call that failed
abbrev pub after_failed_take : MemoryInput → MemoryInput
after_failed_take source = record source { calls = after_failure source.calls }

-- the sink after it was put these bytes
abbrev pub after_put : MemoryOutput → List ℕ → MemoryOutput
after_put sink bytes = record sink { held = sink.held ++ bytes; calls = after_success sink.calls }

-- the sink after a call that failed
abbrev pub after_failed_put : MemoryOutput → MemoryOutput
after_failed_put sink = record sink { calls = after_failure sink.calls }

-- there is a piece, and the sink has no room
abbrev pub IsTooFull : MemoryOutput → List ℕ → Type 0
IsTooFull sink piece = (0 < length piece) × (sink.room ≤ length sink.held)
