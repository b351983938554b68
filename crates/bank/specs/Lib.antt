pub mod Bank
