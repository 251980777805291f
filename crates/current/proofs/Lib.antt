-- Laws of what a command shows: by the gate's answer, by the action, and that it lies inside.
pub mod Showing
pub mod Gate
pub mod Inside
