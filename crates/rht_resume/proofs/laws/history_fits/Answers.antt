use Rattle.rht_policy.specs.Mix.{mix_named}
use Rattle.rht_core.proofs.Histories.ToldHistories.{told}
use Rattle.rht_resume.specs.Answers.{all_calls}
use Rattle.rht_resume.proofs.laws.history_fits.Goals as goal

pub returns : goal.returns
returns g c script outcome resumed =
    told g.row.M.Denot (mix_named script.config) script.config script.auto (all_calls script.commands.items resumed.endings) resumed.endings
    outcome.closed resumed.served
