-- Which lease scripts can be run: those whose config a table can be opened with, and whose commands fit it.
use Rattle.std.specs.Prelude.{ℕ, ◌≤◌, ◌&&◌, not, Bool, true, false, IsTrue, vec_len}
use Rattle.std.specs.List.{list_all}
use Rattle.rht_words.specs.declared.config.Config.{Config}
use Rattle.rht_words.specs.Settled.{IsSettled}
use Rattle.rht_model.specs.declared.history.Call.{Call}
use Rattle.rht_model.specs.declared.history.Call.TheVariants.{Bind, Find, All, Release, Rebind, Walk, Work, Tidy, Count}
use Rattle.rht_script.specs.CommandLines.{worker_limits}
use Rattle.rht_script.specs.Grammar.{most_lines}
use Rattle.rht_script.specs.Spelling.{is_within}
use Rattle.rht_lease.specs.declared.lease.LeaseCall.{LeaseCall}
use Rattle.rht_lease.specs.declared.lease.LeaseCall.TheVariants.{Plain, Lease, Renew, Cancel, Sweep}
use Rattle.rht_lease.specs.declared.lease.LeaseScript.{LeaseScript}

-- lease scripts have the call: it is about a port, and a bind is tried until it ends; or it reads the count
abbrev pub is_plain_call : Call → Bool
is_plain_call (Bind port owner once) = not once
is_plain_call (Find port) = true
is_plain_call (All port) = true
is_plain_call (Release port owner) = true
is_plain_call (Rebind port owner new) = true
is_plain_call (Walk from limit) = false
is_plain_call Work = false
is_plain_call Tidy = false
is_plain_call Count = true

-- a plain call is such as lease scripts have
abbrev pub is_sound_ask : LeaseCall → Bool
is_sound_ask (Plain call) = is_plain_call call
is_sound_ask (Lease lease) = true
is_sound_ask (Renew lease) = true
is_sound_ask (Cancel port owner) = true
is_sound_ask (Sweep now) = true

-- the command is one of the workers', and its plain call is such as lease scripts have
abbrev pub is_sound_command : Config → ℕ × LeaseCall → Bool
is_sound_command config command = is_within (worker_limits config) command.0 && is_sound_ask command.1

-- The config is settled, there are not too many commands, and each fits it.
pub record IsSoundLeases (script : LeaseScript) : Type 0 where
  pub settled : IsSettled script.config
  pub few : vec_len script.commands ≤ most_lines
  pub commands : IsTrue (list_all (is_sound_command script.config) script.commands.items)
