pub mod Relups
