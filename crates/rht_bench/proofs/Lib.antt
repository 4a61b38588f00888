-- the passes of a new table are ready
pub mod ReadyPasses
