pub mod Resumes
