-- What is known of the bytes and of the faults of a source or a sink.
-- The bytes that a source has left and those that a sink holds are told by some and not by others.
-- std's words on known bytes say how they change; the words here add the faults.
use Rattle.std.specs.Prelude.{ℕ, ◌-◌, ◌^◌, ◌<◌, ◌≤◌, ◌⊎◌, List, take, Option, Result, OnOk, OnErr}
use Rattle.std.specs.Io.KnownBytes.{Appends}

-- a count of faults rose in a call: it is greater after the call, or it stands at the last value of a counter
abbrev pub Rose : ℕ → ℕ → Type 0
Rose before after = (before < after) ⊎ (2 ^ 64 - 1 ≤ after)

-- known bytes grow by a prefix of these bytes
abbrev pub AppendsPrefix : Option (List ℕ) → Option (List ℕ) → List ℕ → Type 0
AppendsPrefix old new bytes = (n : ℕ) × Appends old new (take n bytes)

-- The sink was put this text. On Failed it was put a prefix of it, and its faults rose.
pub record Puts {S E : Type 0} (held : S → Option (List ℕ)) (faults : S
    → ℕ) (old new : S) (r : Result (Unit {0}) E) (text : List ℕ) : Type 0 where
  pub whole : OnOk r (Appends (held old) (held new) text)
  pub prefix : OnErr r (AppendsPrefix (held old) (held new) text)
  pub failed : OnErr r (Rose (faults old) (faults new))
  pub kept : faults old ≤ faults new

-- the line was put, or the sink's faults rose and a prefix of it was
abbrev pub PutsLine : Option (List ℕ) → Option (List ℕ) → ℕ → ℕ → List ℕ → Type 0
PutsLine old new before after line = Appends old new line ⊎ (Rose before after × AppendsPrefix old new line)
