pub mod ShortNames
pub mod FormedHosts
pub mod HostLeads
pub mod HostAt
mod PortTruth
mod KeptAlong
mod Related
pub mod HostWalks
mod HostWanted
pub mod HostAgree
mod KnownHosts
