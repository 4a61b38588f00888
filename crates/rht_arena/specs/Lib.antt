-- how a free node is taken
pub mod TakeNode
-- how a node is taken and its words are stored
pub mod NewNode
-- how a node is given back
pub mod GiveNode
-- runs of pages
pub mod PageRuns
-- how a run of free pages is taken
pub mod TakeRun
-- how a run of pages is given back
pub mod GiveRun
-- what the other machines rely on: nodes
pub mod Laws
-- the order in which a search loads the words of the node map
pub mod LookingOnce
-- and runs of pages
pub mod RunLaws
