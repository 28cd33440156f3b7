pub mod DeclaredLemmas
pub mod EditLists
pub mod ItemWalking
pub mod ItemsLeft
pub mod TypedLemmas
pub mod WorkLaws
pub mod WorkLemmas
pub mod Working
