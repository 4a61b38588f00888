use Rattle.rht_resume.specs.Pieces.{begun}
use Rattle.rht_resume.proofs.NextWalks.{IsNextUnderway}
use Rattle.rht_resume.proofs.resumed.Resumed.next.Given as goal

-- so many walks are made, and it isn't over
abbrev pub invariant-loop : goal.invariant-loop
invariant-loop g l =
    IsNextUnderway g.M.Mix.mix_of l.table l.limit (begun l.fn.self.spot) l.fn.self.nodes l.self l.counter l.initial.pass l.pass
