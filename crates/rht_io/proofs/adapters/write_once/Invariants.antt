use Rattle.std.specs.Io.KnownBytes.{Keeps}
use Rattle.rht_io.proofs.adapters.write_once.Given as goal

-- an interrupted write appended nothing
abbrev pub invariant-loop : goal.invariant-loop
invariant-loop g l = Keeps (g.W.Write.contents l.initial.output) (g.W.Write.contents l.output)
