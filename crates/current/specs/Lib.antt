pub mod Shows
pub mod Current
