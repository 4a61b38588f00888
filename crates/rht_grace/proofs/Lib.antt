-- entering and leaving are on the caller's own section word
pub mod SectionsPlanned
-- each turns the lowest bit of that word
mod SectionsTurned
-- the nodes of a batch stay the table's, and none of them stands there twice
pub mod BatchNodes
-- which caller is asked first
pub mod OddWords
-- what comes of a tidying, operation by operation
pub mod TidyRuns
-- it gives back all nodes that wait
mod TidyGiving
-- it gives back what it says
pub mod TidyAnswers
-- it ends soon
pub mod TidyBounds
-- each of its operations is one of two, on one of the table's words
pub mod TidyPlanned
