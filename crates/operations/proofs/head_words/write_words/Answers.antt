use Rattle.std.proofs.Common.{◌≡◌, ℕ, suc, ◌+◌, ◌*◌, ◌≤◌, List, [], ◌∷◌, ◌++◌, length, set, take, drop, append_assoc, ◌∙◌, arith}
use Rattle.std.proofs.Math.Seq.{sets-eq}
use Rattle.operations.proofs.head_words.write_words.Goals as goal

-- five words set, one after the other
five_words : (ws : List ℕ) (i a b c d e : ℕ) → i + 5 ≤ length ws
    → set (set (set (set (set ws i a) (i + 1) b) (i + 2) c) (i + 3) d) (i + 4) e ≡ take i ws ++ ((a ∷ b ∷ c ∷ d ∷ e ∷ []) ++ drop (i + 5) ws)
five_words ws i a b c d e h =
    let one : i + 1 ≡ suc i = omega arith in
    let two : i + 2 ≡ suc (suc i) = omega arith in
    let three : i + 3 ≡ suc (suc (suc i)) = omega arith in
    let four : i + 4 ≡ suc (suc (suc (suc i))) = omega arith in
    rw (one, two, three, four) (sets-eq (a ∷ b ∷ c ∷ d ∷ e ∷ []) ws i h ∙ append_assoc (take i ws) _ _)

pub returns : goal.returns
returns c = let a = c.args in five_words a.words.now (5 * a.h) _ _ _ _ _ (omega arith)
