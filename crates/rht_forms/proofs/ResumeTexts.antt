-- What is printed of a resume script's commands is what the form `resume` prints.
use Rattle.std.proofs.Common.{◌≡◌, ℕ, List, Option, refl, arith}
use Rattle.rht_words.specs.declared.config.Hash.{Hash}
use Rattle.rht_model.specs.declared.bindings.Closed.{Closed}
use Rattle.rht_run.specs.ServedRuns.{tag_of}
use Rattle.rht_resume.specs.declared.resume.ResumeScript.{ResumeScript}
use Rattle.rht_resume.specs.declared.outcome.ResumeOutcome.{ResumeOutcome}
use Rattle.rht_resume.specs.Answers.{Answer, all_calls}
use Rattle.rht_resume.specs.Resuming.{IsResumedBy, IsResuming}
use Rattle.rht_resume.specs.Reading.{said_by_resume}
use Rattle.rht_resume.specs.Scripts.{IsSoundResume}
use Rattle.rht_resume.proofs.ResumeRuns.{calls_of-all}
use Rattle.rht_resume.proofs.ScriptLaws.{outnumbers, takes_all, as_model}
use Rattle.rht_resume.proofs.SoundScripts.{commands_of-one}
use Rattle.rht_resume.specs.Text.{resume_text}
use Rattle.rht_forms.specs.declared.form.Form.TheVariants.{Resume}
use Rattle.rht_forms.specs.Input.{IsResumeRead}
use Rattle.rht_forms.specs.Forms.{Prints}
use Rattle.rht_forms.proofs.RunTexts.{HasRun-hash}

-- what was done by the hash that the config names was done rightly, and all that follows for its run is so
pub IsResuming-hash : (hash : Hash) (script : ResumeScript) (outcome : ResumeOutcome) → script.config.hash ≡ hash
    → IsResumedBy (tag_of hash) script outcome
    → IsResuming script.config script.auto script.commands.items outcome.replies.items outcome.closed
IsResuming-hash hash script outcome is resumed = record {
  endings = resumed.endings;
  answered = resumed.answered;
  run = HasRun-hash hash script.config script.auto (all_calls script.commands.items resumed.endings) resumed.endings outcome.closed is
      resumed.served;
}

pub Prints-resumed : (left left_after : Option (List ℕ)) (script : ResumeScript) (answers : List (List Answer)) (closed : Closed)
    → IsSoundResume script → IsResumeRead left left_after (said_by_resume script)
    → IsResuming script.config script.auto script.commands.items answers closed
    → Prints Resume left left_after (resume_text answers closed)
unfolding Prints
Prints-resumed left left_after script answers closed sound read resuming = record {
  said = said_by_resume script;
  read = read;
  is_text = record {
    answers = answers;
    closed = closed;
    resuming = resuming;
    same_calls = λ i below. calls_of-all script.commands.items i resuming.endings
        (let workers = resuming.run.served.workers in omega (arith, below, workers));
    in_script_order = λ one. commands_of-one script.config script.commands.items one sound.commands;
    outnumbered = outnumbers script.config script.commands.items resuming.endings;
    roomy = takes_all script.config script.auto script.commands.items answers closed resuming;
    small = as_model script.config script.auto script.commands.items answers closed resuming;
    written = refl;
  };
}
