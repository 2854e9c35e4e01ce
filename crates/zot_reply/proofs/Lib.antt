pub mod FieldLemmas
pub mod PageLemmas
pub mod RefusalLemmas
pub mod ReplyLemmas
pub mod TextLemmas
pub mod ValueLemmas
