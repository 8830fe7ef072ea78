pub mod Refusals
pub mod Read
pub mod Keeps
pub mod Steps
pub mod Filters
pub mod Accepted
pub mod Voices
pub mod Opened
pub mod States
pub mod Puts
pub mod New
pub mod OwnFigure
pub mod Nearness
pub mod Walk
pub mod Counts
pub mod Sound
pub mod Stands
pub mod Course
pub mod Place
pub mod Line
pub mod Alike
pub mod Agreement
pub mod Click
pub mod Ruling
pub mod Cover
pub mod Literals
pub mod OwnLiterals
pub mod Waits
pub mod Pedal
mod Twins
pub mod Withdrawn
mod Announced
mod Told
mod Beside
pub mod Numbers
pub mod Many
pub mod Live
pub mod Itself
pub mod Sample
pub mod Plucks
mod Loop
mod Fade
mod Fading
pub mod Silence
pub mod Instances
