-- The calls for C hosts: ends as flags, the answers of a store, and the unit's and the tool's calls on packed states.
pub mod Ends
pub mod Held
pub mod Calls
pub mod Claims
