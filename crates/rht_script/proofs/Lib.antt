-- a text taken apart at line feeds and at blanks
pub mod PiecesLemmas
-- where a line ends and where its next word stands, as places of the whole text
pub mod PlaceLemmas
-- numbers read digit by digit
pub mod NumberLemmas
-- the config of options is settled
pub mod ConfigLemmas
-- the options of words, one setting further
pub mod OptionLemmas
-- what a line's number and its length say of it
pub mod LineLemmas
-- what holds of each line below the table line that is read
pub mod ReadLines
-- the two ways to read bytes, and the parts of a text, read one after another
pub mod ReadingLemmas
-- the first fault of an input, and the lines before it and behind it
pub mod FirstFaults
-- what is read follows from the words of the lines that aren't skipped
pub mod Meanings
-- plain words, and numbers in decimal
pub mod PlainWords
-- a port is read back from its text
pub mod PortTexts
-- what is spelled plainly is read back
pub mod PlainScripts
-- whatever is read can be said
pub mod SayableScripts
-- how a text of commands of any kind is read, and that it can be run
pub mod CommandTexts
-- a dealt script that is read can be run
pub mod DealtScripts
-- the script of a number can be said, and what it has
pub mod GeneratedCommands
-- inputs, and what the definitions give for them
pub mod WorkedInputs
-- dealt scripts, and what the definitions give for them
pub mod WorkedDeals
-- what is said so far, before the lines still to be read
pub mod LinesSoFar
-- pieces of a text that are added one after another
pub mod AddedPieces
-- a list whose items are added one after another
pub mod AddedLists
-- what stands at a place of bindings
pub mod PlacesOfBindings
-- what stands at a place of replies and of workers
pub mod WorkerLines
-- sums of the summary line while they are made
pub mod Summaries
