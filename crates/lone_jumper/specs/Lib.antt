pub mod LoneJumper
