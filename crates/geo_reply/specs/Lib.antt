pub mod ReplyText
pub mod Written
