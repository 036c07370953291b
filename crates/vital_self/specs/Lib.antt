pub mod Lines
pub mod Draws
pub mod Library
pub mod Netlist
pub mod Stimuli
pub mod SelfTexts
