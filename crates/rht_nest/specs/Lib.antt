-- where the word of a bucket is
pub mod Place
-- finding the word of a port's bucket
pub mod Locate
-- the same for a call that knows nothing of the tables before
pub mod Reach
-- what a call knows early of its answer
pub mod Early
-- entering a page that is missing on the way to one
pub mod Grow
-- the shapes, pages and seeds of tables
pub mod Tables
-- making a table
pub mod Make
-- giving one back
pub mod Unmake
-- what the other machines rely on
pub mod Laws
-- those that look for a bucket of a nested table
pub mod PlaceLaws
-- and those that enter a missing page
pub mod GrowLaws
-- and what those rely on that make one
pub mod MakeLaws
-- to which tables a way has come
pub mod LocateTables
