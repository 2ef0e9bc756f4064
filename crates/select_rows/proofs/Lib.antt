pub mod More
