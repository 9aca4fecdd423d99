-- What crates above cite: a proof for each record of specs/Laws.antt.
pub use Rattle.lines.proofs.Digits.{decimal_laws}
pub use Rattle.lines.proofs.Format.{line_laws}
pub use Rattle.lines.proofs.Pieces.{input_laws, piece_laws}
