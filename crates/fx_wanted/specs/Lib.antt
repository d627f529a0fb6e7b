pub mod PendingKeys
