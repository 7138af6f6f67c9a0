pub mod ControlRows
pub mod Front
pub mod Laws
pub mod PldmRows
