pub mod Pushed
pub mod EndPorts
pub mod LowTrees
pub mod ReadForms
pub mod FormedConversion
pub mod FormedPuts
pub mod KnownVerdicts
