-- What a call holds between two of its operations, beside the words that it was told.
use Rattle.std.specs.Prelude.{ℕ, Bool, false, Option, None, Some, List, []}

-- An answer is what the call will say once it has ended: it is held from the operation on that decides it.
pub record Held (Answer : Type 0) : Type 0 where
  -- a node that it has taken, and has neither linked nor given back
  pub node : Option ℕ
  -- the places of the bucket words that it has locked: of the first, and of a second one while it moves an entry
  pub lock : Option ℕ
  pub second : Option ℕ
  -- it is in its read section
  pub section : Bool
  -- it has raised the count of ports for a node that it hasn't linked yet, or has still to lower it
  pub raised : Bool
  -- it has the work lock, and has begun to move entries
  pub worker : Bool
  pub moving : Bool
  -- a slot and pages that it has taken, and has neither attached nor given back
  pub slot : Option ℕ
  pub pages : List ℕ
  -- its answer, once it is known
  pub answer : Option Answer
  -- the answer that it will have should the page be missing on its way, known from the load of a future that leads to no table
  pub early : Option Answer

-- nothing is held, and no answer is known
abbrev pub holds_nothing : {Answer : Type 0} → Held Answer
holds_nothing = record {
  node = None;
  lock = None;
  second = None;
  section = false;
  raised = false;
  worker = false;
  moving = false;
  slot = None;
  pages = [];
  answer = None;
  early = None;
}

-- the call has ended with this answer, and holds nothing
abbrev pub ended_with : {Answer : Type 0} → Answer → Held Answer
ended_with answer = record holds_nothing { answer = Some answer }
