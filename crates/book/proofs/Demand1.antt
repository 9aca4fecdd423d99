-- Demand 1: a refusal has one of the operation's numbers, hands out nothing and leaves everything.
use mathlib.Core.Path.{◌≡◌, refl}
use mathlib.Core.Bool.{true, false}
use mathlib.Core.Logic.{◌⊎◌, inl, inr, ◌↔◌, ◌≢◌}
use mathlib.Core.List.{List, ◌∷◌, map, Memᴰ}
use Prim.Native.Nat.{ℕ, ◌<◌}
use lib.Dec.{eqb, ltb}
use borrow.Author.Tests.{eqb-true, eqb-false, ltb-true, eq-eqb, lt-ltb}
use Rattle.tree.specs.Test.{is}
use Rattle.book.specs.Refusals.{Refusal, refusal, ◌gives◌}
use Rattle.book.specs.State.{State, Operation, format, recover, open_reel, claim, fill, commit, abandon, remove, retire, tidy, query, has, list, convert}
use Rattle.book.specs.Checks.{refusals}
use Rattle.book.specs.Perform.{leaves, past_checks, clears, perform}
use Rattle.book.specs.Demands.{numbers, ClearsMap, unsound, BorrowsScratch, by_list, by_retire, by_tidy, by_convert, Leaves, as_before, map_cleared, Refused, Demand1}
use Rattle.tree.proofs.Laws.{pool_laws}
use Rattle.tree.proofs.Cases.{test, true_not_false, or-true, or_left, or_right}
use Rattle.book.proofs.Refusals.{refusal_listed}
use Rattle.book.proofs.Performed.{answer_is, work_refused, left_refused}

-- a third test that never holds, as in Has, which borrows nothing, may be left out
without_third : (a b : Refusal) (n : ℕ) (rs : List Refusal) → let all = a ∷ b ∷ (is false gives n) ∷ rs in
    refusal all ≢ 0 → Memᴰ (refusal all) (map (λ r. r.number) (a ∷ b ∷ rs))
unfolding refusal
without_third a b n rs = refusal_listed (a ∷ b ∷ rs)

-- the numbers of an operation's tests are the paper's
numbered : (op : Operation) (s : State) → refusal (refusals op s) ≢ 0 → Memᴰ (refusal (refusals op s)) (numbers op)
unfolding refusals
numbered (format words table slots nodes) s = refusal_listed _
numbered (recover words) s = refusal_listed _
numbered (open_reel words script reel) s = refusal_listed _
numbered (claim words script h reel f) s = refusal_listed _
numbered (fill script h) s = refusal_listed _
numbered (commit script h) s = refusal_listed _
numbered (abandon script h) s = refusal_listed _
numbered (remove script reel f) s = refusal_listed _
numbered (query (has reel f)) s = without_third _ _ _ _
numbered (query (list scratch room reel)) s = refusal_listed _
numbered (query (convert scratch copy)) s = refusal_listed _
numbered (retire words scratch script reel) s = refusal_listed _
numbered (tidy words scratch script reel) s = refusal_listed _

cleared_at : {words n : ℕ} → ClearsMap (recover words) n → n ≡ 4
cleared_at unsound = refl

left_by : (op : Operation) (s : State) (n : ℕ) → Leaves s op n (leaves op s n)
unfolding leaves
left_by (format words table slots nodes) s n = as_before {op = format words table slots nodes} {n = n} (λ c. elim c [ ]) refl
left_by (recover words) s n = elim (test (eqb n 4)) [
  | inl e ↦ rw (e, eqb-true n 4 e) (map_cleared refl refl (pool_laws.length_clear words) (pool_laws.clear_word words))
  | inr e ↦ rw e (as_before {op = recover words} {n = n} (λ c. eqb-false n 4 e (cleared_at c)) refl)
]
left_by (open_reel words script reel) s n = as_before {op = open_reel words script reel} {n = n} (λ c. elim c [ ]) refl
left_by (claim words script h reel f) s n = as_before {op = claim words script h reel f} {n = n} (λ c. elim c [ ]) refl
left_by (fill script h) s n = as_before {op = fill script h} {n = n} (λ c. elim c [ ]) refl
left_by (commit script h) s n = as_before {op = commit script h} {n = n} (λ c. elim c [ ]) refl
left_by (abandon script h) s n = as_before {op = abandon script h} {n = n} (λ c. elim c [ ]) refl
left_by (remove script reel f) s n = as_before {op = remove script reel f} {n = n} (λ c. elim c [ ]) refl
left_by (query q) s n = as_before {op = query q} {n = n} (λ c. elim c [ ]) refl
left_by (retire words scratch script reel) s n = as_before {op = retire words scratch script reel} {n = n} (λ c. elim c [ ]) refl
left_by (tidy words scratch script reel) s n = as_before {op = tidy words scratch script reel} {n = n} (λ c. elim c [ ]) refl

-- an end that is none of 1, 2 and 3
past_checks_lem : (n : ℕ) → (past_checks n ≡ true) ↔ ((n ≡ 0) ⊎ (3 < n))
past_checks_lem n = (
  λ h. elim (or-true (eqb n 0) (ltb 3 n) h) [ inl e ↦ inl (eqb-true n 0 e) | inr e ↦ inr (ltb-true 3 n e) ],
  λ h. elim h [ inl e ↦ or_left (ltb 3 n) (eq-eqb n 0 e) | inr l ↦ or_right (eqb n 0) (lt-ltb 3 n l) ],
)

clears_scratch : (op : Operation) (n : ℕ) → (clears op n ≡ true) ↔ (BorrowsScratch op × ((n ≡ 0) ⊎ (3 < n)))
unfolding clears
clears_scratch (query (list scratch room reel)) n = (λ h. (by_list, (past_checks_lem n).0 h), λ x. (past_checks_lem n).1 x.1)
clears_scratch (retire words scratch script reel) n = (λ h. (by_retire, (past_checks_lem n).0 h), λ x. (past_checks_lem n).1 x.1)
clears_scratch (tidy words scratch script reel) n = (λ h. (by_tidy, (past_checks_lem n).0 h), λ x. (past_checks_lem n).1 x.1)
clears_scratch (format words table slots nodes) n = (λ h. absurd (true_not_false h refl), λ x. elim x.0 [ ])
clears_scratch (recover words) n = (λ h. absurd (true_not_false h refl), λ x. elim x.0 [ ])
clears_scratch (open_reel words script reel) n = (λ h. absurd (true_not_false h refl), λ x. elim x.0 [ ])
clears_scratch (claim words script h reel f) n = (λ h. absurd (true_not_false h refl), λ x. elim x.0 [ ])
clears_scratch (fill script h) n = (λ h. absurd (true_not_false h refl), λ x. elim x.0 [ ])
clears_scratch (commit script h) n = (λ h. absurd (true_not_false h refl), λ x. elim x.0 [ ])
clears_scratch (abandon script h) n = (λ h. absurd (true_not_false h refl), λ x. elim x.0 [ ])
clears_scratch (remove script reel f) n = (λ h. absurd (true_not_false h refl), λ x. elim x.0 [ ])
clears_scratch (query (convert scratch copy)) n = (λ h. (by_convert, (past_checks_lem n).0 h), λ x. (past_checks_lem n).1 x.1)
clears_scratch (query (has reel f)) n = (λ h. absurd (true_not_false h refl), λ x. elim x.0 [ ])

refused : (op : Operation) (s : State) → (perform op s).answer ≢ 0 → Refused op s
refused op s h = let w = work_refused op s h in record {
  number = rw (answer_is op s) (numbered op s (rw (answer_is op s) at h));
  no_store = rw w;
  none_handed = rw w;
  places_left_lem = left_refused op s h;
  left = rw w (left_by op s (perform op s).answer);
}

pub demand1 : Demand1
unfolding perform
demand1 = record { refused = refused; scratch = λ op s. clears_scratch op (perform op s).answer }
