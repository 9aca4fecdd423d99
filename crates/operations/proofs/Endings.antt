-- How an operation ends: refused, or done.
use mathlib.Core.Path.{◌≡◌, refl, sym, ◌∙◌, ap}
use mathlib.Core.Logic.{◌≢◌}
use mathlib.Core.List.{List, []}
use Prim.Native.Nat.{ℕ}
use borrow.Author.Tests.{ne_eqb}
use Rattle.tree.specs.Memory.{Store, segmented, written}
use Rattle.tree.specs.Subtree.{listed}
use Rattle.tree.proofs.Memory.{segment_laws}
use Rattle.book.specs.Refusals.{refusal}
use Rattle.book.specs.State.{State, Operation, format, recover, open_reel, claim, fill, commit, abandon, remove, retire, tidy, query, leaving, Outcome, scratch_after, copy_after}
use Rattle.book.specs.Checks.{refusals}
use Rattle.book.specs.Perform.{granted, leaves, clears, left_by, perform}
use Rattle.operations.specs.Ends.{Buffers, all_buffers, ended_telling, ended, count_in, found, ends}
use Rattle.operations.proofs.ScriptWords.{words_of}

-- nothing is handed back where there is no script and no value
none_handed : (op : Operation) (s : State) → count_in op (leaving s) ≡ 0
none_handed (format map table slots nodes) s = refl
none_handed (recover map) s = refl
none_handed (open_reel map script reel) s = sym (words_of [])
none_handed (claim map script h reel f) s = sym (words_of [])
none_handed (fill script h) s = sym (words_of [])
none_handed (commit script h) s = sym (words_of [])
none_handed (abandon script h) s = sym (words_of [])
none_handed (remove script reel f) s = sym (words_of [])
none_handed (retire map scratch script reel) s = sym (words_of [])
none_handed (tidy map scratch script reel) s = sym (words_of [])
none_handed (query q) s = refl

-- where there is no script its buffer stays
pub no_script : (op : Operation) (o : Outcome) (b : Buffers) → o.work.script ≡ []
    → found op o b
    ≡ ended_telling o.answer (count_in op o.work) o.places_left_lem o.work.handed.path_nodes o.work.after
    (all_buffers (scratch_after o.cleared b.scratch) b.script (listed o.work.handed.listing b.list) (copy_after o.work.handed.copy b.copy))
unfolding found
no_script op o b e =
    ap (λ ws. ended_telling o.answer (count_in op o.work) o.places_left_lem o.work.handed.path_nodes o.work.after
    (all_buffers (scratch_after o.cleared b.scratch) ws (listed o.work.handed.listing b.list) (copy_after o.work.handed.copy b.copy)))
    (ap (λ (segs : List (List Store)). written (segmented segs) b.script) e ∙ segment_laws.none_written b.script)

module _ (op : Operation) (s : State) (b : Buffers) where
  pub refused_with : (n : ℕ) → refusal (refusals op s) ≡ n → n ≢ 0
      → ends op s b ≡ found op (record { answer = n; work = leaving (leaves op s n); cleared = clears op n; places_left_lem = 0 }) b
  unfolding ends perform
  refused_with n e z = rw (e, ne_eqb n 0 z)

  -- a refusal hands back nothing; the scratch map is cleared or not
  pub refused_any : (n : ℕ) → refusal (refusals op s) ≡ n → n ≢ 0
      → ends op s b ≡ ended n 0 (leaves op s n) (all_buffers (scratch_after (clears op n) b.scratch) b.script b.list b.copy)
  unfolding listed
  refused_any n e z = refused_with n e z ∙ no_script op _ b refl ∙ rw (none_handed op (leaves op s n)) refl

  -- one that leaves the state as it was
  pub refused : (n : ℕ) → refusal (refusals op s) ≡ n → n ≢ 0 → leaves op s n ≡ s
      → ends op s b ≡ ended n 0 s (all_buffers (scratch_after (clears op n) b.scratch) b.script b.list b.copy)
  refused n e z l = refused_any n e z ∙ ap (λ s'. ended n 0 s' (all_buffers (scratch_after (clears op n) b.scratch) b.script b.list b.copy)) l

  pub done : refusal (refusals op s) ≡ 0 → ends op s b ≡ found op (record { answer = 0; work = granted op s; cleared = clears op 0; places_left_lem = left_by op s }) b
  unfolding ends perform
  done e = rw e refl
