-- what is known of the bytes and of the faults of a source or a sink
pub mod Told
-- what contracts see of the sources and sinks that keep bytes in memory
pub mod Memory
-- what contracts see of an adapter
pub mod Adapter
