-- the size of a smaller table is one of tables
pub mod TableSizes
-- a word rotated to the left, as a sum
pub mod Rotations
-- mixes worked out by computation
pub mod WorkedMixes
