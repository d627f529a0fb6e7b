mod Lists
mod Mapped
mod SomeEntry
mod Made
mod Summing
pub mod Items
pub mod Defining
pub mod Given
mod RulesTold
mod EndpointsTold
mod MembersTold
mod UsesTold
mod SetsTold
pub mod Viewing
pub mod RulesApart
pub mod OwnInterfaces
pub mod Starting
pub mod OneKey
mod ItemsAt
pub mod TakenTies
pub mod ItemTies
pub mod RuleTies
pub mod UpdateTies
pub mod Brought
pub mod WaitTies
mod LiveSelectors
mod ListedItems
mod Untouched
mod TestSums
pub mod UpdateTests
