-- The laws of a table's slice.
pub mod ListLaws
pub mod FigureLaws
pub mod LayoutLaws
pub mod HeldLaws
pub mod RowLaws
pub mod MarkLaws
pub mod LentLaws
pub mod SoundLaws
pub mod StoredLaws
