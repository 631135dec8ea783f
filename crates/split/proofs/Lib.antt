-- Laws of splitting and joining.
pub mod SplitLaws
pub mod JoinLaws
pub mod Theorems
pub mod Claims
