-- what a release and a rebind make of a port's owners
pub mod OwnerLists
-- a worker's commands among those of all
pub mod WorkersCommands
-- where a worker's next command stands, and what taking it leaves
pub mod NextCommands
-- an ordered map as bindings
pub mod PortMaps
-- the entries of an ordered map, listed
pub mod ListedPorts
-- claims judged one by one
pub mod JudgedClaims
-- texts that are put one after another
pub mod PutTexts
-- what the calls that read a line answer, in the words of the definitions
pub mod LinesRead
-- owners read word by word
pub mod OwnersRead
-- what was read so far, before what the lines say that are left
pub mod ClaimsRead
-- a claimed history that is read can be judged
pub mod SoundClaims
-- the parts of a claimed history, read one after another
pub mod ClaimReadings
-- the entries of claims, told otherwise
pub mod WholeHistories
-- claims have one verdict
pub mod OneVerdict
-- claimed histories and their verdicts, as the definitions have them
pub mod WorkedClaims
