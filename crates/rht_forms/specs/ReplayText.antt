-- The text that `replay` prints for what a script says: that of the script's replay.
use Rattle.std.specs.Prelude.{◌≡◌, ℕ, List}
use Rattle.rht_words.specs.declared.env.Env.{Env}
use Rattle.rht_words.specs.Settled.{plain_ways}
use Rattle.rht_policy.specs.Mix.{mix_named}
use Rattle.rht_run.specs.ServedRuns.{tag_of}
use Rattle.rht_script.specs.declared.script.Script.{Script}
use Rattle.rht_script.specs.Grammar.{Said}
use Rattle.rht_script.specs.Reading.{said_by}
use Rattle.rht_registry.specs.Replays.{replay_text, IsInRun}

-- The text is that of the replay of a script which says this, by the hash that it names.
pub record IsReplayText (said : Said) (text : List ℕ) : Type 0 where
  pub script : Script
  pub says : said_by script ≡ said
  -- it is replayed on a table of its config, in the plain ways
  pub env : Env
  pub config_same : env.config ≡ said.config
  pub ways_plain : env.ways ≡ plain_ways
  pub written : text ≡ replay_text (tag_of said.config.hash) (mix_named said.config) env script
  -- it is a run of that table, so whatever is so in every run is so of it
  pub in_run : IsInRun (tag_of said.config.hash) (mix_named said.config) env script
  -- and every such table gives the same text
  pub one_text : (other : Env) → other.config ≡ said.config → other.ways ≡ plain_ways
      → replay_text (tag_of said.config.hash) (mix_named said.config) other script ≡ text
