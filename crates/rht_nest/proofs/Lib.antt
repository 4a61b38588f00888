-- a bucket's word is one of the pages', the buckets of flat tables stand in a row, and no two have one place
pub mod BucketsApart
-- the way to a bucket of a nested table stays in its pages
pub mod Places
-- what is so of one operation
pub mod OneOfSteps
-- the finding of a bucket's place ends at the place that is read from the words, or where no page is
pub mod PlacesRead
-- where no place is read from the words, the way ends at the entry that leads to no page
pub mod MissingEntries
-- the finding of a bucket stays in its table, and works on the slot's words
pub mod Locates
-- and so does that of a call that knows nothing of the tables before
pub mod Reaches
-- the growing of a nested table stays in range
pub mod Grows
-- what comes of a machine that holds another one
pub mod PieceRuns
-- runs seen in turn, with operations before and behind
pub mod TurnsJoined
-- what the taking of a run has shown once it has ended
pub mod RunsLooked
-- a page that is answered is there, and none is where each was seen taken
pub mod GrowsEnter
-- the making and the giving back of a table stay in range
pub mod MakesStay
-- and on which words they work
pub mod MakesPlanned
-- how a making ends once a slot is taken
pub mod MakesEnd
-- no table is made exactly where no slot or no pages were to be had
pub mod MakesInTurn
-- a table that is answered was made of a slot and pages that were free
pub mod MakesMade
-- a table that is given back gives its pages and its slot back
pub mod UnmakesGive
-- the pages of a table, and those that its giving back has to give
pub mod TablePages
