pub mod KeyLaws
pub mod Entries
pub mod IdLaws
pub mod LowDocuments
pub mod ReadCarried
pub mod FormBack
pub mod NamesInTurn
pub mod TextLines
mod ControllersBack
pub mod SaidBack
pub mod ToldBack
pub mod DocumentBack
pub mod Spelling
