-- What is due for a source is due for one that binds alike.
pub mod SameDue
