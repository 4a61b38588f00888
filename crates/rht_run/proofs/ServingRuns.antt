-- What is so of a run that serves commands of its table's callers, by the laws of every run: a history tells of it, each call has its cause,
-- nothing is given back that an open section could reach, and where the table is roomy no command is refused. No case is taken, neither
-- of the hash nor of a call.
use Rattle.std.proofs.Common.{ℕ, Bool, List, sym, ◌∙◌, ap, subst}
use Rattle.rht_words.specs.declared.config.Config.{Config}
use Rattle.rht_policy.specs.Mix.{mix_named}
use Rattle.rht_model.specs.declared.bindings.Closed.{Closed}
use Rattle.rht_model.specs.declared.history.Call.{Call}
use Rattle.rht_model.specs.Endings.{Ending}
use Rattle.rht_core.specs.Runs.{World, IsAdmitted}
use Rattle.rht_core.specs.Serving.{IsServedRun}
use Rattle.rht_core.proofs.Finding.LookupLaws.{finds_what_stays}
use Rattle.rht_core.proofs.Histories.NeverRefused.{roomy_takes_all, one_worker_as_model}
use Rattle.rht_core.proofs.Histories.ToldHistories.{told}
use Rattle.rht_core.proofs.Reasons.CausesInRuns.{causes}
use Rattle.rht_core.proofs.Returning.SafeInRuns.{safe}
use Rattle.rht_core.proofs.Tracing.TracesInRuns.{remembers}
use Rattle.rht_run.specs.ServedRuns.{tag_of, HasRun}

pub HasRun-served : (config : Config) (auto : Bool) (commands : List (ℕ × Call)) (endings : List (List Ending)) (closed : Closed)
    → IsServedRun (tag_of config.hash) (mix_named config) config auto commands endings closed
    → HasRun config auto commands endings closed
HasRun-served config auto commands endings closed served =
    let M : Type 0 = tag_of config.hash in
    let mix = mix_named config in
    let has = told M mix config auto commands endings closed served in
    let tells = has.1 in
    let admitted = served.admitted in
    let traced = remembers M mix served.env served.events admitted in
    record {
      served = served;
      history = has.0;
      tells = tells;
      caused = λ c. record {
        traced = (traced.traces c).past ∙ ap (λ (w : World M). (w.books c).finished) traced.world ∙ sym (tells.dones_are c);
        causes = causes M mix served.env served.events c admitted;
      };
      found = λ c. finds_what_stays M mix served.env served.events c admitted;
      safe = safe M mix served.env served.events admitted;
      roomy = roomy_takes_all M mix config auto commands endings closed served;
      small = one_worker_as_model M mix config auto commands endings closed served;
    }
