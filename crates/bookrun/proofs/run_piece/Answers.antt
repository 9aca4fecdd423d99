use Rattle.lines.proofs.Laws.{piece_laws}
use Rattle.bookrun.proofs.run_piece.Goals as goal

-- what stands behind a newline is less than what was there before
pub loop-behind-smaller : goal.loop-behind-smaller
loop-behind-smaller g c = (piece_laws.line_goes_on _ _ _ _ c.in-Some.ensures).0
