-- which bytes are a script and what it says, and where other bytes have their first fault
pub mod Grammar
-- what the words of a table line stand for
pub mod TableLines
-- what the words of a command line stand for
pub mod CommandLines
-- what the words of a schedule line stand for
pub mod ScheduleLines
-- what the words of any line below the table line stand for
pub mod ScriptLines
-- bytes as lines, lines as words, and words as numbers
pub mod Spelling
-- ports as words: how they are read, and how they are printed
pub mod PortWords
-- where a line ends, and where its next word stands
pub mod Parts
-- which options have numbers within their limits
pub mod Allowed
-- what the reader's cursors give
pub mod Cursors
-- what a text says whose lines below the table line are commands of any kind
pub mod Commands
-- what `read` answers
pub mod Reading
-- which scripts can be run
pub mod Sound
-- dealt scripts, whose commands any worker may do: which bytes are one, and which can be run
pub mod Dealt
-- what today's words can say, and how it is spelled plainly
pub mod Plain
-- the script that is made from a number
pub mod Generated
-- what follows from the grammar, in the words of scripts
pub mod Laws
-- the text of replies and of last bindings
pub mod Text
-- the text of a replay's operations, and of what it leaves open
pub mod OperationText
-- the line that sums up the run of a script made from a number
pub mod SummaryText
-- what a step of writing text does
pub mod Writing
