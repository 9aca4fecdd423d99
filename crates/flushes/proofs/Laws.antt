-- What crates above cite: a proof for each record of specs/Laws.antt.
pub use Rattle.flushes.proofs.Translator.{translator_laws}
pub use Rattle.flushes.proofs.Possible.{flush_crash_laws, own_writes_laws}
pub use Rattle.flushes.proofs.Modules.{module_laws}
