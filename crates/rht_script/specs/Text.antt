-- The text of replies and of last bindings, byte by byte. Every line ends with a line feed.
use Rattle.std.specs.Prelude.{ℕ, Bool, false, ◌&&◌, ◌==◌, if◌then◌else◌, Option, None, Some, List, [], ◌++◌, length, codes, decimal}
use Rattle.std.specs.List.{flat_map, enumerate_from}
use Rattle.rht_model.specs.declared.history.Cursor.{Cursor}
use Rattle.rht_model.specs.declared.bindings.Closed.{Closed}
use Rattle.rht_model.specs.Multimap.{Port}
use Rattle.rht_model.specs.Endings.{Ending}
use Rattle.rht_script.specs.declared.done.Done.{Done}
use Rattle.rht_script.specs.declared.script.ScriptFault.{ScriptFault}
use Rattle.rht_script.specs.PortWords.{port_text}
use Rattle.rht_model.specs.declared.history.Reply.{Reply}
use Rattle.rht_model.specs.declared.history.Reply.TheVariants.{Bound, Exists, Found, Missing, Listed, Released, Absent, Rebound, TooBig, Again, Busy, NoTable, NoNode, Pending, Elsewhere, Walked, Moved, Idle, Clear, Counted}

-- a number after a space
abbrev pub spaced : ℕ → List ℕ
spaced number = codes " " ++ decimal number

-- a name and its number
abbrev pub named : List ℕ → ℕ → List ℕ
named name number = name ++ spaced number

-- each owner after a space
abbrev pub owners_text : List ℕ → List ℕ
owners_text owners = flat_map spaced owners

-- a port and its first owner, after a space
abbrev pub pair_text : Port × ℕ → List ℕ
pair_text pair = codes " " ++ port_text pair.0 ++ codes "=" ++ decimal pair.1

-- a word that is there only in some cases
abbrev pub only_if : Bool → List ℕ → List ℕ
only_if case text = if case then text else []

-- how a walk ends: with a cursor there is more
abbrev pub walk_end : Option Cursor → List ℕ
walk_end None = codes " end"
walk_end (Some next) = codes " more"

-- a reply without its worker; a kick is shown only where kicks are
abbrev pub reply_text : Reply → List ℕ → List (Port × ℕ) → Bool → List ℕ
reply_text (Bound kick) owners pairs kicks = codes "bound" ++ only_if (kick && kicks) (codes " kick")
reply_text (Exists owner) owners pairs kicks = codes "exists" ++ spaced owner
reply_text (Found owner) owners pairs kicks = codes "found" ++ spaced owner
reply_text Missing owners pairs kicks = codes "missing"
reply_text (Listed len) owners pairs kicks = codes "list" ++ owners_text owners
reply_text (Released kick) owners pairs kicks = codes "released" ++ only_if (kick && kicks) (codes " kick")
reply_text Absent owners pairs kicks = codes "absent"
reply_text Rebound owners pairs kicks = codes "rebound"
reply_text (TooBig count) owners pairs kicks = codes "toobig" ++ spaced count
reply_text (Again table) owners pairs kicks = codes "walk again" ++ spaced table
reply_text (Busy root last) owners pairs kicks = codes "busy" ++ spaced root ++ spaced last
reply_text (NoTable size) owners pairs kicks = codes "notable" ++ spaced size
reply_text NoNode owners pairs kicks = codes "nonode"
reply_text (Pending caller section) owners pairs kicks = codes "pending" ++ spaced caller ++ spaced section
reply_text Elsewhere owners pairs kicks = codes "elsewhere"
reply_text (Walked len next) owners pairs kicks = codes "walk" ++ flat_map pair_text pairs ++ walk_end next
reply_text (Moved again) owners pairs kicks = codes "moved" ++ only_if again (codes " again")
reply_text Idle owners pairs kicks = codes "idle"
reply_text (Clear returned) owners pairs kicks = codes "clear" ++ spaced returned
reply_text (Counted count) owners pairs kicks = codes "count" ++ spaced count

-- a reply line: the worker, and the reply
abbrev pub reply_line : ℕ → Reply → List ℕ → List (Port × ℕ) → Bool → List ℕ
reply_line worker reply owners pairs kicks =
    decimal worker ++ codes ": " ++ reply_text reply owners pairs kicks ++ codes "\n"

-- the line of a command that was done: its number, its worker, and the reply; a kick isn't shown
abbrev pub done_line : Done → List ℕ
done_line done = decimal done.number ++ codes " " ++ reply_line done.worker done.reply done.owners [] false

-- the line of a bound port: its owners, the first one first
abbrev pub port_line : Port × List ℕ → List ℕ
port_line pair = codes "port " ++ port_text pair.0 ++ codes ":" ++ owners_text pair.1 ++ codes "\n"

-- the last line: the size in buckets, and the number of bound ports
abbrev pub last_line : ℕ → ℕ → List ℕ
last_line size keys = named (codes "size") size ++ named (codes " keys") keys ++ codes "\n"

-- the lines of the last bindings: a line for each port, and the last line
abbrev pub closed_text : Closed → List ℕ
closed_text closed = flat_map port_line closed.bindings.pairs ++ last_line closed.size closed.keys

-- the text of commands that were done, in this order, and of what is bound at the end
abbrev pub dones_text : List Done → Closed → List ℕ
dones_text dones closed = flat_map done_line dones ++ closed_text closed

-- the line of a worker's command that ended so
abbrev pub ending_line : ℕ → Ending → List ℕ
ending_line worker ending = reply_line worker ending.answer.reply ending.answer.owners ending.pairs false

-- the lines of a worker of this number, whose commands ended so
abbrev pub worker_text : ℕ × List Ending → List ℕ
worker_text worker = flat_map (ending_line worker.0) worker.1

-- the lines of what is bound at the end: a line for each port, and the last line
abbrev pub bound_text : List (Port × List ℕ) → ℕ → List ℕ
bound_text bound size = flat_map port_line bound ++ last_line size (length bound)

-- The printed text of a run: how the commands of each worker ended, the first worker's before the second's,
-- and then what is bound at the end, in a table of this size.
abbrev pub run_text : List (List Ending) → List (Port × List ℕ) → ℕ → List ℕ
run_text workers bound size = flat_map worker_text (enumerate_from 1 workers) ++ bound_text bound size

-- what is wrong, by the number of the cause
abbrev pub cause_text : ℕ → List ℕ
cause_text cause =
    if cause == 1 then codes "no table line"
    else if cause == 2 then codes "unknown or missing word"
    else if cause == 3 then codes "bad number"
    else if cause == 4 then codes "number out of range"
    else if cause == 5 then codes "too many lines"
    else if cause == 6 then codes "line too long"
    else if cause == 8 then codes "options do not agree"
    else codes "script too long"

-- the line of a script's first fault
abbrev pub fault_line : ScriptFault → List ℕ
fault_line fault = named (codes "rht: line") fault.line ++ codes ": " ++ cause_text fault.cause ++ codes "\n"
