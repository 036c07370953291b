pub mod Lists
pub mod Laws
pub mod AloneLaws
pub mod CallLaws
pub mod Both
