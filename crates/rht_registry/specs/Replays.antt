-- The text of a replay: the run that a script's schedule makes of its table, event by event, and what is printed of that.
-- The same replay with its events in place of its lines says which run that is.
-- The run is made by `core_step`, as every run is; so nothing is said here of machines, of words or of what they mean.
-- A worker W, counted from 1, is the caller c = W - 1.
use Rattle.std.specs.Prelude.{◌≡◌, ℕ, zero, suc, ◌+◌, ◌-◌, ◌==◌, ◌&&◌, ◌||◌, nat_lt, if◌then◌else◌, Bool, true, false, Option, Some, None, is_some, List, [], ◌∷◌, ◌++◌, map, replicate, codes}
use Rattle.std.specs.List.{list_all, flat_map, range_with_len}
use Rattle.rht_words.specs.declared.op.Op.{Op}
use Rattle.rht_words.specs.declared.env.Env.{Env}
use Rattle.rht_words.specs.declared.geometry.Geometry.{Geometry}
use Rattle.rht_words.specs.Places.{Node, KeyWord, word_at}
use Rattle.rht_model.specs.declared.history.Call.{Call}
use Rattle.rht_model.specs.declared.history.Reply.{Reply}
use Rattle.rht_model.specs.Multimap.{Port}
use Rattle.rht_model.specs.Listing.{listing_of}
use Rattle.rht_core.specs.declared.event.Event.{Event}
use Rattle.rht_core.specs.declared.event.Event.TheVariants.{Enroll, Begin, Step}
use Rattle.rht_core.specs.declared.event.Stepped.{Stepped}
use Rattle.rht_callers.specs.declared.local.Local.{Local}
use Rattle.rht_core.specs.Locals.{is_idle}
use Rattle.rht_core.specs.Runs.{Core, local_of, core_step, run_of, IsAdmitted}
use Rattle.rht_core.specs.StandsFor.{stands_for}
use Rattle.rht_core.specs.Closing.{current_size, nodes_met}
use Rattle.rht_core.specs.Serving.{calls_of}
use Rattle.rht_script.specs.declared.script.Script.{Script}
use Rattle.rht_script.specs.declared.script.Sched.{Sched}
use Rattle.rht_script.specs.declared.script.Sched.TheVariants as lines
use Rattle.rht_script.specs.Text.{reply_line, bound_text}
use Rattle.rht_script.specs.OperationText.{operation_line, open_line, size_line}

-- the events that a replay makes at most
unfoldable pub most_events : ℕ
most_events = 1000000

-- How far a replay has come: the words and what each caller is doing, the commands of each caller that it hasn't begun, how many events
-- were made, and whether the limit has ended the replay.
pub record Playing (M : Type 0) : Type 0 where
  pub core : Core M
  pub left : ℕ → List Call
  pub made : ℕ
  pub over : Bool

-- the commands that are left, with others for this caller
abbrev pub left_at : (ℕ → List Call) → ℕ → List Call → ℕ → List Call
left_at left c calls = λ other. if other == c then calls else left other

-- no command is left
abbrev pub has_none : List Call → Bool
has_none [] = true
has_none (call ∷ calls) = false

-- ---- the lines of one event

-- an operation has a line where operations are shown
abbrev pub did_text : Bool → ℕ → Option (Op × ℕ) → List ℕ
did_text true worker (Some did) = operation_line worker did.0 did.1
did_text true worker None = []
did_text false worker did = []

-- an event that ended a call has a reply line, with the lists in its caller's rooms
abbrev pub ended_text : {M : Type 0} → ℕ → Local M → Option Reply → List ℕ
ended_text worker local None = []
ended_text worker local (Some reply) = reply_line worker reply local.owners.items local.pairs.items true

-- the operation's line comes before the reply line; where the limit stands in an event's place its line is that
abbrev pub event_text : {M : Type 0} → Bool → ℕ → Local M → Option Stepped → List ℕ
event_text shown worker local None = codes "limit\n"
event_text shown worker local (Some stepped) = did_text shown worker stepped.did ++ ended_text worker local stepped.reply

-- the caller is in no call, and has no command left
abbrev pub is_through : {M : Type 0} → Playing M → ℕ → Bool
is_through p c = is_idle (local_of p.core c) && has_none (p.left c)

-- of so many calls that are still to end an event may have ended one
abbrev pub still_to_end : ℕ → Option Stepped → ℕ
still_to_end calls None = calls
still_to_end calls (Some stepped) = if is_some stepped.reply then calls - 1 else calls

-- ---- parts of a replay, each with its lines, or with its events

module _ {A B : Type 0} where
  -- one part, and then the next one
  abbrev pub and_then : A × List B → (A → A × List B) → A × List B
  and_then first next = let second = next first.0 in (second.0, first.1 ++ second.1)

  -- a part so many times
  abbrev pub times : ℕ → (A → A × List B) → A → A × List B
  times zero part a = (a, [])
  times (suc n) part a = and_then (part a) (times n part)

-- the beginning of a caller's next command, where one is left
abbrev pub given_events : ℕ → List Call → List Event
given_events c [] = []
given_events c (call ∷ calls) = Begin c call 0 ∷ []

module _ {M : Type 0} (mix : ℕ → ℕ → ℕ → ℕ) where
  -- ---- one event

  -- a caller is given its next command, without an operation; where none is left nothing happens
  abbrev pub given : Playing M → ℕ → List Call → Playing M
  given p c [] = p
  given p c (call ∷ calls) = record p { core = (core_step mix p.core (Begin c call 0)).0; left = left_at p.left c calls }

  -- that is, a caller that is in no call
  abbrev pub readied : Playing M → ℕ → Playing M
  readied p c = if is_idle (local_of p.core c) then given p c (p.left c) else p

  -- then it performs one operation; where it is in no call even now nothing happens, and the event counts all the same
  abbrev pub turn_of : Playing M → ℕ → Playing M × Option Stepped
  turn_of p c =
      let next = core_step mix p.core (Step c) in (record p { core = next.0; made = p.made + 1 }, Some next.1)

  -- An event of a caller, and what it did. Where one too many would begin none does, and the replay is over.
  abbrev pub event_of : Playing M → ℕ → Playing M × Option Stepped
  event_of p c = if nat_lt p.made most_events then turn_of (readied p c) c else (record p { over = true }, None)

  -- the lines of an event
  abbrev pub lines_at : Bool → ℕ → Playing M → List ℕ
  lines_at shown c p = let event = event_of p c in event_text shown (c + 1) (local_of event.0.core c) event.1

  -- the same of a caller that is in no call
  abbrev pub readied_events : Playing M → ℕ → List Event
  readied_events p c = if is_idle (local_of p.core c) then given_events c (p.left c) else []

  -- the events of a run that are made for one event of a replay: the beginning and the operation; behind the limit none
  abbrev pub events_at : Bool → ℕ → Playing M → List Event
  events_at shown c p = if nat_lt p.made most_events then readied_events p c ++ Step c ∷ [] else []

  -- ---- the lines of a schedule, with what is kept of each event: the lines that are printed, or the events of the run

  module _ {B : Type 0} (kept : Bool → ℕ → Playing M → List B) where
    -- an event, with what is kept of it
    abbrev pub event_with : Bool → ℕ → Playing M → Playing M × List B
    event_with shown c p = ((event_of p c).0, kept shown c p)

    -- one event of `step` or `skip`; behind the limit there is none
    abbrev pub stepping_with : Bool → ℕ → Playing M → Playing M × List B
    stepping_with shown c p = if p.over then (p, []) else event_with shown c p

    -- one event of `finish`, with the number of calls that are still to end; where none is, or the caller is through, there is none
    abbrev pub finishing_with : ℕ → ℕ × Playing M → (ℕ × Playing M) × List B
    finishing_with c (calls, p) =
        if calls == 0 || p.over || is_through p c then ((calls, p), [])
        else (let event = event_of p c in ((still_to_end calls event.1, event.0), kept false c p))

    -- A line of a schedule. Of the events of `finish` the limit ends the last one, so that there are no more than these.
    abbrev pub line_with : Sched → Playing M → Playing M × List B
    line_with (lines.Step worker number) p = times number (stepping_with true (worker - 1)) p
    line_with (lines.Skip worker number) p = times number (stepping_with false (worker - 1)) p
    line_with (lines.Finish worker number) p =
        let last = times (most_events + 1) (finishing_with (worker - 1)) (number, p) in (last.0.1, last.1)

    -- line by line
    abbrev pub schedule_with : List Sched → Playing M → Playing M × List B
    schedule_with [] p = (p, [])
    schedule_with (line ∷ schedule) p = and_then (line_with line p) (schedule_with schedule)

  -- with the lines that are printed
  abbrev pub stepping : Bool → ℕ → Playing M → Playing M × List ℕ
  stepping = stepping_with lines_at

  abbrev pub finishing : ℕ → ℕ × Playing M → (ℕ × Playing M) × List ℕ
  finishing = finishing_with lines_at

  abbrev pub line_played : Sched → Playing M → Playing M × List ℕ
  line_played = line_with lines_at

  abbrev pub schedule_played : List Sched → Playing M → Playing M × List ℕ
  schedule_played = schedule_with lines_at

  -- ---- the whole

  -- all callers have enrolled, in their order, which counts as no event; all commands are left
  abbrev pub playing_from : Env → List (ℕ × Call) → Playing M
  playing_from env commands = record {
    core = (run_of mix env (replicate env.geometry.callers Enroll)).core;
    left = λ c. calls_of (c + 1) commands;
    made = 0;
    over = false;
  }

-- ---- the end

-- what the words stand for: the ports among the key words of the nodes that are met, in rising order, each with its owners
abbrev pub bound_in : Geometry → List ℕ → List (Port × List ℕ)
bound_in g words = listing_of (map (λ node. word_at g words (Node node KeyWord)) (nodes_met g words)) (stands_for g words)

module _ {M : Type 0} where
  -- all callers, in their order
  abbrev pub callers_of : Core M → List ℕ
  callers_of core = range_with_len 0 core.env.geometry.callers

  -- a caller has a line where it is in a call
  abbrev pub open_text : Core M → ℕ → List ℕ
  open_text core c = if is_idle (local_of core c) then [] else open_line (c + 1)

  -- Where no caller is in a call the lines are those of what is bound, as at the end of a run of the commands. Else there is a line for
  -- each caller in a call, and the size of the current table.
  abbrev pub end_text : Core M → List ℕ
  end_text core =
      let size = current_size core.env.geometry core.words in
      if list_all (λ c. is_idle (local_of core c)) (callers_of core)
      then bound_text (bound_in core.env.geometry core.words) size
      else flat_map (open_text core) (callers_of core) ++ size_line size

-- ---- the replay of a script, on a table with this environment

module _ (M : Type 0) (mix : ℕ → ℕ → ℕ → ℕ) (env : Env) (script : Script) where
  -- how far it comes, with its lines
  abbrev pub replayed : Playing M × List ℕ
  replayed = schedule_played mix script.schedule.items (playing_from mix env script.commands.items)

  -- its text
  abbrev pub replay_text : List ℕ
  replay_text = replayed.1 ++ end_text replayed.0.core

  -- its events: all callers enrol, and then come those of the schedule
  abbrev pub replay_events : List Event
  replay_events =
      replicate env.geometry.callers Enroll
      ++ (schedule_with {M = M} mix (events_at mix) script.schedule.items (playing_from mix env script.commands.items)).1

  -- These are the events of a run, in which each number is of its type. That run ends where the replay does, so whatever is so in
  -- every run is so of it.
  pub record IsInRun : Type 0 where
    pub admitted : IsAdmitted replay_events
    pub end : (run_of {M = M} mix env replay_events).core ≡ replayed.0.core
