-- The formats, what tells one diagnostic from another, and the names of files as paths.
pub mod Gnu
pub mod Caret
pub mod Github
pub mod Checkstyle
pub mod Junit
pub mod Fingerprint
pub mod Uri
pub mod Json
pub mod Sarif
pub mod Gitlab
pub mod Rdjson
