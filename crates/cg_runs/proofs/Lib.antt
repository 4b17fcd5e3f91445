pub mod ShortcutLaws
pub mod ReplayLaws
