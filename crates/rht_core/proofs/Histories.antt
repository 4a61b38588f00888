-- an entry is put into a numbered history where it changes nothing, behind it, or gets another reply
pub mod NumberedEntries
-- what the words stand for after so many events
pub mod Behind
-- histories beside runs
pub mod GoodHistories
-- the entries of one caller in a history beside a run
pub mod CallerEntries
-- the entry of a call that ends
pub mod CallEnds
-- what is kept of each caller's entries
pub mod FittingCallers
-- in every run there is a history that fits it
pub mod FittingRuns
-- a call that is alone stands behind all others in a history that fits
pub mod AloneCalls
-- one call alone meets the model, and has its cause
pub mod AloneLaw
-- entries of callers and of calls that have ended, with no run
pub mod ToldEntries
-- a run that serves commands has a history that tells so
pub mod ToldHistories
-- what calls leave and are answered where none is refused: lists alone, with no run
pub mod AnsweredInOrder
-- some commands with how they ended
pub mod WorkedAnswers
-- a small run, with a history that fits it and five that do not
pub mod WorkedFits
-- binds of few ports in a table with buckets and nodes enough: no command about bindings is refused
pub mod NeverRefused
-- a resizing that was alone and answers that it moved made another table the current one
pub mod LoneResizings
-- in every run a work gives each retired table back to which no other caller's section comes
pub mod ReturnedTables
-- a resizing that was alone and found nothing due leaves nothing due
pub mod SettledTables
-- where all binds of a run are of some ports, no other port is ever bound
pub mod BoundAmong
