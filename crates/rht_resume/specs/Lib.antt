-- which piece comes of what a resumed walk's calls are answered, and where the walk is then
pub mod Pieces
-- which resume scripts can be run
pub mod Scripts
-- what commands are answered
pub mod Answers
-- how answers are kept
pub mod KeptAnswers
-- what the words of a line stand for
pub mod ResumeLines
-- which bytes are a resume script, and where other bytes have their first fault
pub mod Reading
-- what calls of a resumed walk and commands of a worker leave of its pass
pub mod ServedPieces
-- what the commands of all workers leave
pub mod Resuming
-- the text of that
pub mod Text
-- what follows for resumed walks and for the calls that commands stand for
pub mod Laws
