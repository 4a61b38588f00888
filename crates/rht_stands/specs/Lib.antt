-- what the words stand for
pub mod StandsFor
-- what the words say at a table's closing
pub mod Closing
