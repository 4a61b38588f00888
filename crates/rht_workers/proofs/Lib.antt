-- what the workers leave, place by place
pub mod PlacesLeft
-- the commands of a worker, and the calls of all
pub mod WorkerCommands
-- how a pass gets on by the calls that commands stand for
pub mod ServedEach
-- what all workers leave has served the calls of all
pub mod WorkersRuns
