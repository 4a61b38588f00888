-- Which resume scripts can be run: those whose config a table can be opened with, and whose commands fit it.
use Rattle.std.specs.Prelude.{ℕ, ◌≤◌, ◌&&◌, Bool, IsTrue, vec_len}
use Rattle.std.specs.List.{list_all}
use Rattle.rht_words.specs.declared.config.Config.{Config}
use Rattle.rht_words.specs.declared.limits.Limits.{Limits}
use Rattle.rht_words.specs.Settled.{IsSettled}
use Rattle.rht_script.specs.CommandLines.{worker_limits}
use Rattle.rht_script.specs.Grammar.{most_lines}
use Rattle.rht_script.specs.Sound.{is_sound_call}
use Rattle.rht_script.specs.Spelling.{is_within}
use Rattle.rht_resume.specs.declared.resume.ResumeCall.{ResumeCall}
use Rattle.rht_resume.specs.declared.resume.ResumeCall.TheVariants.{Plain, Next}
use Rattle.rht_resume.specs.declared.resume.ResumeScript.{ResumeScript}

-- a piece is asked for with 1 pair or more, and with as many as there are nodes at most
abbrev pub limits_of_pieces : Config → Limits
limits_of_pieces config = record { least = 1; greatest = config.nodes }

-- a plain call is such as scripts have, and a piece has a size that may be asked for
abbrev pub is_sound_ask : Config → ResumeCall → Bool
is_sound_ask config (Plain call) = is_sound_call config call
is_sound_ask config (Next limit) = is_within (limits_of_pieces config) limit

-- the command is one of the workers', and what it asks is such as resume scripts have
abbrev pub is_sound_command : Config → ℕ × ResumeCall → Bool
is_sound_command config command = is_within (worker_limits config) command.0 && is_sound_ask config command.1

-- The config is settled, there are not too many commands, and each fits it.
pub record IsSoundResume (script : ResumeScript) : Type 0 where
  pub settled : IsSettled script.config
  pub few : vec_len script.commands ≤ most_lines
  pub commands : IsTrue (list_all (is_sound_command script.config) script.commands.items)
