-- Laws of the unit's state and its services.
pub mod StateLaws
pub mod ServiceLaws
pub mod AfterLaws
pub mod ReactionLaws
pub mod Days
