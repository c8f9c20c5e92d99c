pub mod WriteLaws
pub mod EitherLaws
pub mod StoreLaws
pub mod ClearLaws
pub mod QuietLaws
pub mod AcceptLaws
pub mod NamedLaws
