-- The checksum of RFC 1950.
pub mod Adler
