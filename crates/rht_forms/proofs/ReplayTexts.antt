-- What a script's replay writes is what the form `replay` prints.
use Rattle.std.proofs.Common.{ℕ, Option, Result, List, refl}
use Rattle.rht_policy.specs.Mix.{mix_named}
use Rattle.rht_run.specs.ServedRuns.{tag_of}
use Rattle.rht_script.specs.declared.script.Script.{Script}
use Rattle.rht_script.specs.Reading.{said_by}
use Rattle.rht_registry.specs.declared.replaying.ReplayError.{ReplayError}
use Rattle.rht_registry.specs.Replays.{replay_text}
use Rattle.rht_registry.specs.Players.{Writes, IsReplayed}
use Rattle.rht_forms.specs.declared.form.Form.TheVariants.{Replay}
use Rattle.rht_forms.specs.Input.{IsScriptRead}
use Rattle.rht_forms.specs.Forms.{Prints}

-- where the script was read
pub Prints-replayed : {O : Type 0} (held : O → Option (List ℕ)) (ofaults : O → ℕ) (o o' : O) (r : Result (Unit {0}) ReplayError)
    (script : Script) (left left_after : Option (List ℕ)) → IsScriptRead left left_after (said_by script)
    → IsReplayed (tag_of script.config.hash) (mix_named script.config) script held ofaults o o' r
    → (text : List ℕ) × Prints Replay left left_after text × Writes held ofaults o o' r text
unfolding Prints
Prints-replayed held ofaults o o' r script left left_after read replayed = (
  replay_text (tag_of script.config.hash) (mix_named script.config) replayed.env script,
  record {
    said = said_by script;
    read = read;
    is_text = record {
      script = script;
      says = refl;
      env = replayed.env;
      config_same = replayed.config_same;
      ways_plain = replayed.ways_plain;
      written = refl;
      in_run = replayed.in_run;
      one_text = replayed.one_text;
    };
  },
  replayed.text,
)
