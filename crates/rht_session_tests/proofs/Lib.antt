-- a handle alone is of one table
pub mod OneHandle
