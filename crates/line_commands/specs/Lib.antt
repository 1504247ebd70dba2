pub mod CommandWritten
