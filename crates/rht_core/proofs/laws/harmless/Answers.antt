use Rattle.rht_core.proofs.Finding.HarmlessCalls.{harmless}
use Rattle.rht_core.proofs.Finding.ReadsInside.{reads_inside}
use Rattle.rht_core.proofs.laws.harmless.Goals as goal

pub returns-clause-locks : goal.returns-clause-locks
returns-clause-locks g c = harmless g.row.M.Denot g.M.Mix.mix_of

pub returns-clause-reads : goal.returns-clause-reads
returns-clause-reads g c = reads_inside g.row.M.Denot g.M.Mix.mix_of
