pub mod ExitStatus
pub mod Silent
