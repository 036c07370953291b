pub mod Rising
pub mod Least
pub mod Sends
pub mod Kept
pub mod OneRun
pub mod SomeRun
pub mod PortNetworks
pub mod PortRuns
mod RowParts
mod NetworkRows
mod PortRows
mod HandingRows
mod WireRows
mod BufferParts
mod PathRows
mod GlitchRows
mod GateParts
mod GateRows
mod LoopRows
mod Texts
mod Activations
mod ProcessCells
mod Picked
mod EventLemmas
mod Keeping
mod Handing
mod Lifting
mod StimulusLemmas
mod Steps
mod RunLemmas
mod PartLemmas
mod CycleLemmas
mod NameLemmas
mod KernelLemmas
mod Activating
mod EffectLemmas
mod FirstLemmas
mod Handed
pub mod ListenerLemmas
pub mod RisingNumbers
pub mod TriggeredLemmas
pub mod SensitivityLemmas
mod ListenerRows
mod Rows
pub mod ListLemmas
pub mod InputLemmas
pub mod PlaceLemmas
pub mod ProcessRunLemmas
pub mod FoundLemmas
pub mod StartLemmas
pub mod KeptLemmas
pub mod Turns
pub mod PortsNamed
pub mod DriverNumbers
pub mod DriverCounts
pub mod DrivenBits
pub mod PlacedCells
pub mod AlikeCells
pub mod SoundNetworks
