-- What a timetable tells of a pair.
pub mod Timetable
