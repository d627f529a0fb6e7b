pub mod ReadForms
