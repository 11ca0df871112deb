pub mod KeyPress
pub mod Keyboard
pub mod NumberTyping
pub mod PromptKeys
pub mod Prompts
pub mod StoredLines
