pub mod PortLists
pub mod Implied
pub mod FormedNames
pub mod FormedSides
pub mod FormedRules
pub mod FormedPolicies
pub mod FormedItems
pub mod FormedResources
