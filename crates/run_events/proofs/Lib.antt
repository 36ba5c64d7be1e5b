pub mod EmptyLists
pub mod SubRunIds
