pub mod Standing
pub mod ActiveBenches
pub mod MembersBenches
pub mod ResolverBenches
pub mod ScannerBenches
