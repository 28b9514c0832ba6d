pub mod FieldLaws
pub mod FormatLaws
pub mod RecordLaws
pub mod WriteLaws
