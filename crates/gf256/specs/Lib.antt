pub mod Polynomials
pub mod Powers
pub mod Linear
pub mod Division
pub mod Field
pub mod Tables
