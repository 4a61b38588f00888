use Rattle.std.proofs.Common.{take}
use Rattle.rht_check.proofs.JudgedClaims.{AreJudged}
use Rattle.rht_check.proofs.judging.check.Given as goal

-- the claims so far are right, with the bindings that they leave and the commands that the workers have left
abbrev pub invariant-loop-i : goal.invariant-loop-i
invariant-loop-i l =
    AreJudged l.claim.script.config.kind l.claim.script.commands.items (take l.i l.claim.claims.items) l.left l.bindings
