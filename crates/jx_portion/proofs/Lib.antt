pub mod FieldLaws
pub mod Laws
pub mod Loop
pub mod RecordLaws
pub mod Said
