mod FoundMembers
mod Endings
mod Escapes
mod Events
mod Failures
mod Headings
mod Keys
mod LastAt
pub mod LastCut
mod MemberLists
mod Readings
mod StartLines
mod Times
mod Values
