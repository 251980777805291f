-- Laws of the gate's answers, and what is known of a parsed command.
pub mod Tests
pub mod Parses
pub mod Late
