-- the answers of a `next`, one after another
pub mod PieceLemmas
-- one walk of it
pub mod WalkSteps
-- all walks of it
pub mod NextWalks
-- how answers are kept when one more is
pub mod KeptLists
-- a resume script that is read can be run
pub mod SoundScripts
-- what stands at a place of answers and of workers
pub mod AnswerLines
-- what comes of a `next`, whatever its walks were answered
pub mod PieceLaws
-- the endings of a worker's calls, cut into those of its commands
pub mod AnswerLemmas
-- a worker's finished calls decide how the calls ended that its commands stand for
pub mod DecidedAnswers
-- how a pass gets on by the calls that commands stand for
pub mod ServedCommands
-- a worker with one command more
pub mod WorkedCommands
-- what all workers leave is a run
pub mod ResumeRuns
-- what the words of a table that stays show bucket by bucket
pub mod StillBuckets
-- a resumed walk over words that stay shows just what is bound
pub mod QuietWalks
-- a piece shows what its walks do, each pair bound behind some event
pub mod BoundPieces
-- a `next` makes few walks
pub mod FewWalks
-- what a walk of limit 1 answers that finds them
pub mod StillWalks
-- what the current table shows where no table is behind it
pub mod CurrentBound
-- what a resumed walk shows over buckets that stay as they are
pub mod WholePieces
-- what the commands say of the calls that they stand for
pub mod ScriptLaws
