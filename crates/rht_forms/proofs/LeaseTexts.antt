-- What is printed of a lease script's commands is what the form `lease` prints.
use Rattle.std.proofs.Common.{◌≡◌, ℕ, List, Option, refl, arith}
use Rattle.rht_words.specs.declared.config.Hash.{Hash}
use Rattle.rht_model.specs.declared.bindings.Closed.{Closed}
use Rattle.rht_run.specs.ServedRuns.{tag_of}
use Rattle.rht_lease.specs.declared.lease.LeaseScript.{LeaseScript}
use Rattle.rht_lease.specs.declared.outcome.LeaseOutcome.{LeaseOutcome}
use Rattle.rht_lease.specs.Answers.{Answer, all_calls}
use Rattle.rht_lease.specs.Leasing.{IsLeasedBy, IsLeasing}
use Rattle.rht_lease.specs.Reading.{said_by_leases}
use Rattle.rht_lease.specs.Scripts.{IsSoundLeases}
use Rattle.rht_lease.proofs.LeaseRuns.{calls_of-all}
use Rattle.rht_lease.proofs.ScriptLaws.{outnumbers, takes_all, as_model}
use Rattle.rht_lease.proofs.SoundScripts.{commands_of-one}
use Rattle.rht_lease.specs.Text.{lease_text}
use Rattle.rht_forms.specs.declared.form.Form.TheVariants.{Lease}
use Rattle.rht_forms.specs.Input.{IsLeaseRead}
use Rattle.rht_forms.specs.Forms.{Prints}
use Rattle.rht_forms.proofs.RunTexts.{HasRun-hash}

-- what was done by the hash that the config names was done rightly, and all that follows for its run is so
pub IsLeasing-hash : (hash : Hash) (script : LeaseScript) (outcome : LeaseOutcome) → script.config.hash ≡ hash
    → IsLeasedBy (tag_of hash) script outcome
    → IsLeasing script.config script.auto script.commands.items outcome.replies.items outcome.closed
IsLeasing-hash hash script outcome is leased = record {
  endings = leased.endings;
  answered = leased.answered;
  run = HasRun-hash hash script.config script.auto (all_calls script.commands.items outcome.replies.items) leased.endings outcome.closed is
      leased.served;
}

pub Prints-leased : (left left_after : Option (List ℕ)) (script : LeaseScript) (answers : List (List Answer)) (closed : Closed)
    → IsSoundLeases script → IsLeaseRead left left_after (said_by_leases script) → IsLeasing script.config script.auto script.commands.items answers closed
    → Prints Lease left left_after (lease_text answers closed)
unfolding Prints
Prints-leased left left_after script answers closed sound read leasing = record {
  said = said_by_leases script;
  read = read;
  is_text = record {
    answers = answers;
    closed = closed;
    leasing = leasing;
    same_calls = λ i below. calls_of-all script.commands.items i answers
        (let workers = leasing.answered.workers in omega (arith, below, workers));
    in_script_order = λ one. commands_of-one script.config script.commands.items one sound.commands;
    outnumbered = outnumbers script.config script.commands.items answers;
    roomy = takes_all script.config script.auto script.commands.items answers closed leasing;
    small = as_model script.config script.auto script.commands.items answers closed leasing;
    written = refl;
  };
}
