-- Laws of the unit's call.
pub mod StoreFacts
pub mod SentLaws
pub mod ReplyLaws
pub mod CallLaws
pub mod BoundLaws
pub mod Given
pub mod Days
