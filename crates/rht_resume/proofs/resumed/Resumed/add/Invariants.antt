use Rattle.std.proofs.Common.{◌≡◌, ◌++◌, take}
use Rattle.rht_resume.proofs.resumed.Resumed.add.Given as goal

-- the pairs so far are added
abbrev pub invariant-loop-pair : goal.invariant-loop-pair
invariant-loop-pair l = record {
  pairs : l.self-inside.pairs.items ≡ l.fn.self.pairs ++ take l.pair-index l.more;
  nodes : l.self-inside.pairs.limit ≡ l.fn.self.nodes;
  spot : l.self-inside.spot ≡ l.fn.self.spot;
}
