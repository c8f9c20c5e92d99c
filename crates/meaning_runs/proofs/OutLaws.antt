-- What holds of the outcome of a chain of steps, passed on from `meaning` to the theory.
pub use Rattle.meaning.proofs.OutLaws.{AllOut, if_holds, needs_all, if_all, then_all, any_all}
