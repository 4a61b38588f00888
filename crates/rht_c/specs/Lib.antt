-- what exports do
pub mod Exports
