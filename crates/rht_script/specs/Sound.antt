-- Which scripts can be run: those whose config a table can be opened with, and whose lines fit it.
use Rattle.std.specs.Prelude.{ℕ, ◌≤◌, IsTrue, Bool, true, ◌&&◌, ◌==◌, not, is_none, vec_len}
use Rattle.std.specs.List.{list_all}
use Rattle.rht_words.specs.declared.config.Config.{Config}
use Rattle.rht_words.specs.Settled.{IsSettled}
use Rattle.rht_model.specs.declared.history.Call.{Call}
use Rattle.rht_model.specs.declared.history.Call.TheVariants.{Bind, Find, All, Release, Rebind, Walk, Work, Tidy, Count}
use Rattle.rht_script.specs.declared.script.Script.{Script}
use Rattle.rht_script.specs.declared.script.Sched.{Sched}
use Rattle.rht_script.specs.declared.script.Sched.TheVariants.{Step, Skip, Finish}
use Rattle.rht_script.specs.Grammar.{most_lines}
use Rattle.rht_script.specs.CommandLines.{owner_limits, worker_limits}
use Rattle.rht_script.specs.PortWords.{IsForm, is_port_in}
use Rattle.rht_script.specs.ScheduleLines.{event_limits}
use Rattle.rht_script.specs.Spelling.{is_within}

-- a bind is tried until it ends, and a walk goes over the whole table
abbrev pub is_sound_call : Config → Call → Bool
is_sound_call config (Bind port owner once) = not once
is_sound_call config (Walk from limit) = is_none from && limit == config.nodes
is_sound_call config _ = true

-- scripts of this form can name the call's port, and its owners are within their limits
abbrev pub has_sound_numbers : ℕ → Call → Bool
has_sound_numbers form (Bind port owner once) = is_port_in form port && is_within owner_limits owner
has_sound_numbers form (Find port) = is_port_in form port
has_sound_numbers form (All port) = is_port_in form port
has_sound_numbers form (Release port owner) = is_port_in form port && is_within owner_limits owner
has_sound_numbers form (Rebind port owner new) =
    is_port_in form port && (is_within owner_limits owner && is_within owner_limits new)
has_sound_numbers form (Walk from limit) = true
has_sound_numbers form Work = true
has_sound_numbers form Tidy = true
has_sound_numbers form Count = true

-- the command is a worker's, scripts of this form have its numbers, and its call can be run
abbrev pub is_sound_command : ℕ → Config → ℕ × Call → Bool
is_sound_command form config command =
    is_within (worker_limits config) command.0 && (has_sound_numbers form command.1 && is_sound_call config command.1)

-- the line of a schedule is a worker's, and its number is within its limits
abbrev pub is_sound_line : Config → Sched → Bool
is_sound_line config (Step worker number) = is_within (worker_limits config) worker && is_within
    event_limits number
is_sound_line config (Skip worker number) = is_within (worker_limits config) worker && is_within
    event_limits number
is_sound_line config (Finish worker number) = is_within (worker_limits config) worker && is_within
    event_limits number

-- The config is settled, there is such a form, and each command and each line of the schedule fits them.
pub record IsSoundScript (script : Script) : Type 0 where
  pub settled : IsSettled script.config
  pub form : IsForm script.form
  pub few : vec_len script.commands ≤ most_lines
  pub commands : IsTrue (list_all (is_sound_command script.form script.config) script.commands.items)
  pub schedule : IsTrue (list_all (is_sound_line script.config) script.schedule.items)
