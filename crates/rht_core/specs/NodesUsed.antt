-- How many calls of a run have taken a node, or may have; and that a call finds none only where these are as many as the nodes.
use Rattle.std.specs.Prelude.{◌≡◌, ℕ, ◌+◌, ◌≤◌, ◌&&◌, not, Bool, true, false, Option, Some, None, List, sum_by, count_by, cond}
use Rattle.std.specs.List.{AllByRecursion, range_with_len}
use Rattle.rht_words.specs.declared.env.Env.{Env}
use Rattle.rht_model.specs.declared.finished.Finished.{Finished}
use Rattle.rht_model.specs.declared.history.Call.{Call}
use Rattle.rht_model.specs.declared.history.Call.TheVariants.{Bind, Find, All, Release, Rebind, Walk, Work, Tidy, Count}
use Rattle.rht_model.specs.declared.history.Reply.{Reply}
use Rattle.rht_model.specs.declared.history.Reply.TheVariants.{Bound, Exists, Found, Missing, Listed, Released, Absent, Rebound, TooBig, Again, Busy, NoTable, NoNode, Pending, Elsewhere, Walked, Moved, Idle, Clear, Counted}
use Rattle.rht_core.specs.declared.book.Book.{Book}
use Rattle.rht_core.specs.declared.event.Event.{Event}
use Rattle.rht_core.specs.Runs.{World, run_of, IsAdmitted}

-- the call needs a node
abbrev pub needs_node : Call → Bool
needs_node (Bind port owner once) = true
needs_node (Rebind port owner new) = true
needs_node (Find port) = false
needs_node (All port) = false
needs_node (Release port owner) = false
needs_node (Walk from limit) = false
needs_node Work = false
needs_node Tidy = false
needs_node Count = false

-- the reply is that there is no free node
abbrev pub is_no_node : Reply → Bool
is_no_node NoNode = true
is_no_node (Bound kick) = false
is_no_node (Exists owner) = false
is_no_node (Found owner) = false
is_no_node Missing = false
is_no_node (Listed len) = false
is_no_node (Released kick) = false
is_no_node Absent = false
is_no_node Rebound = false
is_no_node (TooBig count) = false
is_no_node (Again table) = false
is_no_node (Busy root last) = false
is_no_node (NoTable size) = false
is_no_node (Pending caller section) = false
is_no_node Elsewhere = false
is_no_node (Walked len next) = false
is_no_node (Moved again) = false
is_no_node Idle = false
is_no_node (Clear returned) = false
is_no_node (Counted count) = false

-- a call that has ended took a node: it needs one, and wasn't answered that there is none
abbrev pub took_node : Finished → Bool
took_node done = needs_node done.call && not (is_no_node done.reply)

-- the call in progress may have taken one
abbrev pub may_take_node : Option Call → Bool
may_take_node None = false
may_take_node (Some call) = needs_node call

-- how many of a caller's calls took one, or may have
abbrev pub takers_of : Book → ℕ
takers_of book = count_by took_node book.finished + cond (may_take_node book.call) 1 0

-- and of all callers
abbrev pub takers : {M : Type 0} → World M → ℕ
takers w = sum_by (λ c. takers_of (w.books c)) (range_with_len 0 w.core.env.geometry.callers)

-- where the call found none, as many calls as there are nodes took one, or may have
abbrev pub IsForWant : {M : Type 0} → Env → World M → Finished → Type 0
IsForWant env w done = done.reply ≡ NoNode → env.geometry.nodes ≤ takers w

module _ (M : Type 0) (mix : ℕ → ℕ → ℕ → ℕ) where
  -- in every run it is so of each call that has ended
  abbrev pub Nodes : Type 0
  Nodes =
      (env : Env) (events : List Event) (c : ℕ) → IsAdmitted events
      → let w : World M = run_of mix env events in AllByRecursion (IsForWant env w) (w.books c).finished
