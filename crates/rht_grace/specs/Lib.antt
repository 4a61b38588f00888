-- entering a read section, and leaving it
pub mod Sections
-- the nodes that a caller took out, and the section words for which they wait
pub mod Batch
-- how they are given back
pub mod Tidy
-- what those rely on who wait for read sections
pub mod Laws
-- and who tidy
pub mod TidyLaws
