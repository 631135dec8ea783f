-- Laws of the table, of days and of names.
pub mod Entries
pub mod TableLaws
pub mod NameLaws
pub mod DayLaws
pub mod Claims
