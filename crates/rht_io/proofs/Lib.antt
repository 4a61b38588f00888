-- what follows from the words on told bytes and on faults
pub mod ToldLemmas
-- what a source in memory gives
pub mod MemoryLemmas
