-- going along links finds what the whole chain holds
pub mod FirstNodes
-- going along links marks the nodes that are met
pub mod MarkedNodes
