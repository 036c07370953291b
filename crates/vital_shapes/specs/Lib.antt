pub mod Reading
pub mod Taking
pub mod Expressions
pub mod Declarations
pub mod Statements
pub mod Shapes
pub mod Standing
pub mod Taken
