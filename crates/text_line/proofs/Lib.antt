pub mod OctetLaws
pub mod HexLaws
pub mod FieldLaws
pub mod LineLaws
pub mod Once
