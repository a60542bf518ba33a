-- What the questions' private functions answer, and that each question has one answer.
pub mod Parts
pub mod Only
