-- Scripts, over any state: bounded, inside the image, ending in a barrier, and carried out as words.
use mathlib.Core.Path.{◌≡◌, refl, sym, ◌∙◌}
use mathlib.Core.Logic.{◌⊎◌, inl, inr, ◌≢◌}
use mathlib.Core.List.Memᴰ
use mathlib.Core.List.{List, []}
use Prim.Native.Nat.{ℕ, ◌-◌, ◌^◌, ◌<◌}
use native.Mathlib.Omega.{arith}
use native.Mathlib.Decide.{ℕ_discrete}
use lib.ListN.{length}
use Rattle.tree.specs.Memory.{reads, Entry, encode, stores, segmented, apply, Inside, Fit}
use Rattle.tree.specs.declared.layout.Geometry.{Geometry}
use Rattle.tree.specs.Layout.{bad_image, slots_at, nodes_at, geometry_of}
use Rattle.tree.specs.Fingerprint.{rule_of}
use Rattle.book.specs.Refusals.{refusal}
use Rattle.book.specs.State.{State, Operation, format, recover, open_reel, claim, fill, commit, abandon, remove, retire, tidy, query, Query, has, list, convert, arguments, Work}
use Rattle.book.specs.Checks.{query_refusals, refusals}
use Rattle.book.specs.CarryOut.{carry, carried}
use Rattle.tree.specs.Recovery.{recover_stores}
use Rattle.book.specs.Perform.{format_stores, given_stores, granted, perform}
use Rattle.book.specs.Demands.{WritesImage, by_format, by_recover, GoodScript, Scripts}
use Rattle.tree.proofs.Memory.{script_laws, apply_laws, segment_laws, ends_in_barrier, length_segmented}
use Rattle.book.proofs.Refusals.{Denies, denied, passes, first_passed}
use Rattle.book.proofs.Performed.{answer_is, work_granted, work_refused}
use Rattle.book.proofs.Done.{refused_image}
use Rattle.book.proofs.Stored.{same_geometry}
use Rattle.book.proofs.Mended.{kept}
use Rattle.book.proofs.Formatted.{blank, made_geometry}
use Rattle.book.proofs.Recovery.{mended_image, mended_words}
use Rattle.book.proofs.Entries.{each_entry}
use Rattle.book.proofs.TidyFound.{tidy_found}
use Rattle.book.proofs.Inside.{sized, find_inside, path_room, run_inside, target_fits}
use Rattle.book.proofs.Writes.{Writes, Good, no_stores, good_open, good_retire, good_tidy, good_claim, good_fill, good_commit, good_abandon, good_remove}

-- what an answered operation leaves to be carried out: a good script, and an image of the same length with its header in range
record Answered (s : State) (w : Work) : Type 0 where
  script : Good (length s.image) w.script
  words : length w.after.image ≡ length s.image
  header : Denies (bad_image (length w.after.image) (geometry_of (reads w.after.image)))

-- an answered operation stores by its script alone, or writes the image itself and has no script
writes_one_way : (op : Operation) (s : State) → (WritesImage op × ((granted op s).script ≡ [])) ⊎ ((granted op s).after.image ≡ s.image)
unfolding granted
writes_one_way (format words table slots nodes) s = inl (by_format, refl)
writes_one_way (recover words) s = inl (by_recover, refl)
writes_one_way (open_reel words script reel) s = inr refl
writes_one_way (claim words script h reel f) s = inr refl
writes_one_way (fill script h) s = inr refl
writes_one_way (commit script h) s = inr refl
writes_one_way (abandon script h) s = inr refl
writes_one_way (remove script reel f) s = inr refl
writes_one_way (query q) s = inr refl
writes_one_way (retire words scratch script reel) s = inr refl
writes_one_way (tidy words scratch script reel) s = inr refl

-- Recover stores to locate words alone
recovered : (im : List ℕ) (g : Geometry) → geometry_of (reads (mended_image g im)) ≡ geometry_of (reads im)
recovered im g =
    let a = mended_words g im in
    sym (same_geometry (reads im) (reads (mended_image g im)) (kept a slots_at (λ n. omega arith)) (kept a nodes_at (λ n. omega arith)))

-- ---- an answered operation

-- every order that only reads tests the image first
query_header : (q : Query) (image : List ℕ) → refusal (query_refusals q image) ≡ 0 → Denies (bad_image (length image) (geometry_of (reads image)))
query_header (has reel f) image h = first_passed _ _ (omega arith) h
query_header (list scratch room reel) image h = first_passed _ _ (omega arith) h
query_header (convert scratch copy) image h = (first_passed _ _ (omega arith) h).0

answered : (op : Operation) (s : State) → Fit s.image → Fit s.heads → Fit (arguments op) → refusal (refusals op s) ≡ 0 → Answered s (granted op s)
unfolding refusals granted
answered (format words table slots nodes) s a b c h =
    let p = passes _ (omega arith) h in
    let g' : Geometry = record { slots = slots; nodes = nodes } in
    let n = apply_laws.length_apply (blank g' s.image) (stores (given_stores table)) ∙ apply_laws.length_apply s.image (stores (format_stores g')) in
    record {
      script = no_stores _;
      words = n;
      header = rw (n, made_geometry table g' s.image (omega (arith, (sized _ _ p.0).length))) p.0;
    }
answered (recover words) s a b c h =
    let p = passes _ (omega arith) h in
    let g = geometry_of (reads s.image) in
    let n = apply_laws.length_apply s.image (stores (recover_stores g (reads s.image))) in
    record { script = no_stores _; words = n; header = rw (n, recovered s.image g) p.0 }
answered (open_reel words script reel) s a b c h =
    let p = passes _ (omega arith) h in
    record { script = good_open (sized _ _ p.0) _ _ reel p.1.1.1.1.1.0 p.1.1.1.1.1.1.0 (c 0); words = refl; header = p.0 }
answered (claim words script h reel f) s a b c e =
    let m = reads s.image in
    let p = passes _ (omega arith) e in
    let room = p.1.1.1.1.1.1.1 in
    record {
      script = good_claim (sized _ _ p.0) m a _ _ f (path_room _ m _ f room.0.0) room.0.1 (run_inside _ (reads s.pool) _ room.1.1.1.0);
      words = refl;
      header = p.0;
    }
answered (fill script h) s a b c e =
    let p = passes _ (omega arith) e in
    let in_pool = p.1.1.1.1.1.1.0 in
    let good = good_fill (sized _ _ p.0) (reads s.image) a _ in_pool.0 in_pool.1 (target_fits s.heads h b) in
    record { script = good; words = refl; header = p.0 }
answered (commit script h) s a b c e =
    let p = passes _ (omega arith) e in
    let in_pool = p.1.1.1.1.1.1.0 in
    record { script = good_commit (sized _ _ p.0) (reads s.image) a _ _ in_pool.0 in_pool.1; words = refl; header = p.0 }
answered (abandon script h) s a b c e =
    let p = passes _ (omega arith) e in
    let in_pool = p.1.1.1.1.1.1.0 in
    record { script = good_abandon (sized _ _ p.0) (reads s.image) a _ _ in_pool.0 in_pool.1; words = refl; header = p.0 }
answered (remove script reel f) s a b c h =
    let p = passes _ (omega arith) h in
    let m = reads s.image in
    let good = good_remove (sized _ _ p.0) m a _ (find_inside _ m (rule_of m) _ f p.1.1.1.1.1.1.1.0) in
    record { script = good; words = refl; header = p.0 }
answered (query q) s a b c h = record { script = no_stores _; words = refl; header = query_header q s.image h }
answered (retire words scratch script reel) s a b c h =
    let p = passes _ (omega arith) h in
    record { script = good_retire (sized _ _ p.0) _ p.1.1.1.1.0; words = refl; header = p.0 }
answered (tidy words scratch script reel) s a b c h =
    let p = passes _ (omega arith) h in
    let f = tidy_found s words scratch script reel (answer_is (tidy words scratch script reel) s ∙ h) in
    rw f.work (record { script = good_tidy (sized _ _ p.0) f.parent.node f.inside; words = refl; header = p.0 })

-- ---- any operation

-- carried out as words
carries : (m : List ℕ) (es : List Entry) → Denies (bad_image (length m) (geometry_of (reads m))) → Inside (length m) es
    → carry m (encode es) ≡ carried 0 (apply m es)
unfolding carry
carries m es d i = rw (denied (bad_image (length m) (geometry_of (reads m))) d, script_laws.carried_out m es i)

good_refused : (op : Operation) (s : State) → (perform op s).answer ≢ 0 → GoodScript op s
good_refused op s h = let w = work_refused op s h in record {
  one_way = inr (refused_image op s h);
  short = rw w (omega (arith, length_segmented []));
  ends_in_barrier = ends_in_barrier (perform op s).work.script;
  inside = λ i v x. absurd (Memᴰ.not-nil (rw (w, segment_laws.no_segment) at x));
  fits = λ i v x. absurd (Memᴰ.not-nil (rw (w, segment_laws.no_segment) at x));
  carried_out = λ z. absurd (h z);
}

good_answered : (op : Operation) (s : State) → (perform op s).work ≡ granted op s → Answered s (perform op s).work → GoodScript op s
good_answered op s q a =
    let w = (perform op s).work in
    let P = Writes (length s.image) in
    let z = sized _ _ a.header in
    let n = a.words in
    let each = each_entry P w.script a.script.each in
    let short : length s.image < 2 ^ 64 - 2 = omega arith in
    let inside : Inside (length s.image) (segmented w.script) = λ i v x. let t = each i v x in (t.0, λ q. omega arith, λ q. omega arith) in
    record {
      one_way = rw q (writes_one_way op s);
      short = omega (arith, length_segmented w.script, a.script.few);
      ends_in_barrier = ends_in_barrier w.script;
      inside = inside;
      fits = λ i v x. (each i v x).1;
      carried_out = λ e. carries w.after.image (segmented w.script) a.header (rw n inside);
    }

-- every script is good
pub scripts : Scripts
scripts op s a b c = elim (ℕ_discrete (perform op s).answer 0) [
  | yes h ↦ good_answered op s (work_granted op s h) (rw (work_granted op s h) (answered op s a b c (rw (answer_is op s) at h)))
  | no h ↦ good_refused op s h
]
