pub mod Cuts
pub mod Asking
pub mod Clips
pub mod ReadForms
