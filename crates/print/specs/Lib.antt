pub mod Printed
pub mod Printer
