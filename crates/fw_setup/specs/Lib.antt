pub mod ForecastLaws
pub mod Forecasts
pub mod Nodes
pub mod Paths
pub mod Stocks
