-- At which nodes of a chain a walk and a relinking stand.
use Rattle.std.specs.Prelude.{ℕ, Option, List, [], ◌∷◌}
use Rattle.rht_words.specs.Standing.{if_one}
use Rattle.rht_chain.specs.declared.locked_walk.LockedWalkAt.{LockedWalkAt}
use Rattle.rht_chain.specs.declared.locked_walk.LockedWalkAt.TheVariants as walks
use Rattle.rht_chain.specs.declared.probe.ProbeAt.{ProbeAt}
use Rattle.rht_chain.specs.declared.probe.ProbeAt.TheVariants as probes
use Rattle.rht_chain.specs.declared.relink.RelinkAt.{RelinkAt}
use Rattle.rht_chain.specs.declared.relink.RelinkAt.TheVariants as relinks

-- at a node, and at the one before it, where there is one
abbrev pub nodes_of_walk : Option ℕ → LockedWalkAt → List ℕ
nodes_of_walk before (walks.Key node) = node ∷ if_one before
nodes_of_walk before (walks.ChainLink node) = node ∷ if_one before

-- at none until the bucket is locked
abbrev pub nodes_of_probe : ProbeAt → List ℕ
nodes_of_probe (probes.Locking lock) = []
nodes_of_probe (probes.Walking bucket walk) = nodes_of_walk walk.before walk.at

-- at the node that gets another link; at none once the bucket's word does
abbrev pub nodes_of_relink : RelinkAt → List ℕ
nodes_of_relink (relinks.ChainLink before) = before ∷ []
nodes_of_relink (relinks.Word word) = []
