-- Laws of the calls on packed states.
pub mod CallLaws
pub mod Theorems
pub mod Claims
