pub mod FailsafePorts
pub mod HostVerdict
pub mod HostTables
pub mod HostRuns
pub mod HostForms
pub mod HostFields
