pub mod Recent
