pub mod Driver
pub mod DueLists
pub mod Agendas
pub mod Queues
pub mod OneQueue
