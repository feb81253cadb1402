pub mod Cutting
pub mod Reading
pub mod LineParts
pub mod Driving
pub mod Worked
