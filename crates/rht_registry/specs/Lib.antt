-- what the workers of a script leave
pub mod Outcomes
-- the text of a replay
pub mod Replays
-- what a program that replays keeps and writes
pub mod Players
