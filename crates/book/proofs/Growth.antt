-- Which nodes the slots reach, in every history: from what each operation does to them.
use mathlib.Core.Path.{◌≡◌, refl, sym, ◌∙◌, ap}
use mathlib.Core.Bool.{Bool, false}
use mathlib.Core.Logic.{◌⊎◌, inl, inr, ◌≢◌}
use mathlib.Core.List.Memᴰ
use mathlib.Core.List.{List, []}
use Prim.Native.Nat.{ℕ, ◌+◌, ◌/◌, ◌<◌}
use native.Mathlib.Omega.{arith}
use native.Mathlib.Decide.{ℕ_discrete}
use Rattle.tree.specs.Memory.{reads, is_set, segmented, apply, passed, Module, entries_on, Fit}
use Rattle.tree.specs.Layout.{geometry_of, locate_at}
use Rattle.tree.specs.Path.{way_of}
use Rattle.tree.specs.Fingerprint.{rule_of, is_given}
use Rattle.tree.specs.Slots.{slot_of}
use Rattle.tree.specs.Lookup.{find}
use Rattle.tree.proofs.Memory.{crash_laws, crash_none, passed_or, module_laws}
use Rattle.tree.proofs.Cases.{true_not_false}
use Rattle.tree.proofs.Reach.{slot_filled, one_node}
use Rattle.book.specs.Heads.{head_at, target_of}
use Rattle.book.specs.State.{State, Operation, fill, commit, abandon, remove, query, Query, arguments}
use Rattle.book.specs.Checks.{refusals}
use Rattle.book.specs.Perform.{found_spot, fill_script, remove_script, granted, perform}
use Rattle.book.specs.Table.{Table}
use Rattle.book.specs.Agrees.{Reached, Agrees}
use Rattle.book.specs.Histories.{done, answered_format, Interrupted, Recovered}
use Rattle.book.specs.Growth.{shape_in, ReachesIn, size_in, SameNodes, ClaimGrows, finds_clear, scales_up, branches_out, Grows, Growth}
use Rattle.book.proofs.Refusals.{passes}
use Rattle.book.proofs.Performed.{answer_is, work_granted}
use Rattle.book.proofs.Demand1.{demand1}
use Rattle.book.proofs.Done.{done_granted, refused_image, done_image}
use Rattle.book.proofs.Rooms.{root_way, way_ends}
use Rattle.book.proofs.Entries.{Each}
use Rattle.book.proofs.View.{View}
use Rattle.book.proofs.Showing.{shows_view}
use Rattle.book.proofs.Formatted.{format_agrees}
use Rattle.book.proofs.SameNodes.{nodes_equal, nodes_on, nodes_back, recovered_nodes, interrupted_nodes, ended_nodes, Nodes, Quiet, quiet_nodes}
use Rattle.book.proofs.StepOpen.{grows_open}
use Rattle.book.proofs.StepClaim.{slot_in, work_is, asked_now, claim_step}
use Rattle.book.proofs.StepRetire.{grows_retire}
use Rattle.book.proofs.StepTidy.{grows_tidy}
use Rattle.book.proofs.Assembly.{Steps, Scripted, opens, claims, fills, commits, abandons, removes, asks, retires, tidies, Kind, formats, recovers, scripted, kind, granted_image, agreed}
use Rattle.book.proofs.Placed.{script_alone, no_reels}

-- ---- operations that store to no next and to no size

fill_quiet : (s : State) (script h : ℕ) → (perform (fill script h) s).answer ≡ 0
    → Each (Each (Quiet (geometry_of (reads s.image)))) (granted (fill script h) s).script
unfolding refusals granted fill_script
fill_quiet s script h e =
    let p = passes (refusals (fill script h) s) (omega arith) (sym (answer_is (fill script h) s) ∙ e) in
    let in_pool = p.1.1.1.1.1.1.0 in
    let x = target_of (head_at s.heads h) in (
      ((x.node, 16 + x.place, omega arith, omega arith, omega arith, omega arith), tt),
      (((x.node, 8 + x.place / 8, omega arith, omega arith, omega arith, omega arith), tt), tt),
    )

commit_quiet : (s : State) (script h : ℕ) → Each (Each (Quiet (geometry_of (reads s.image)))) (granted (commit script h) s).script
unfolding granted
commit_quiet s script h = ((((target_of (head_at s.heads h)).node, 2, refl, omega arith, omega arith, omega arith), tt), tt)

abandon_quiet : (s : State) (script h : ℕ) → Each (Each (Quiet (geometry_of (reads s.image)))) (granted (abandon script h) s).script
unfolding granted
abandon_quiet s script h = ((((target_of (head_at s.heads h)).node, 1, refl, omega arith, omega arith, omega arith), tt), tt)

remove_quiet : (s : State) (script reel f : ℕ) → Each (Each (Quiet (geometry_of (reads s.image)))) (granted (remove script reel f) s).script
unfolding granted remove_script
remove_quiet s script reel f =
    let m = reads s.image in
    let x = found_spot (find (rule_of m) (geometry_of m) m (slot_of (geometry_of m) m reel) f) in
    (((x.node, 2, refl, omega arith, omega arith, omega arith), tt), (((x.node, 1, refl, omega arith, omega arith, omega arith), tt), tt))

query_quiet : (s : State) (q : Query) → Each (Each (Quiet (geometry_of (reads s.image)))) (granted (query q) s).script
unfolding granted
query_quiet s q = tt

-- ---- an answered operation that has a script

grows : {s : State} {t : Table} {op : Operation} → Agrees s t → Scripted op → Fit (arguments op) → (perform op s).answer ≡ 0
    → Nodes s.image (granted op s).script (Grows op s.image)
grows a (opens {words} {script} {reel}) fit h = grows_open a words script reel fit h
grows {s} a (claims {words} {script} {h = k} {reel} {f}) fit h =
    let n = (claim_step a words script k reel f (fit 2) h).nodes in
    rw (work_is s words script k reel f) (record {
      final = (slot_in s reel, (asked_now a words script k reel f (fit 2) h).has, n.final);
      crash = n.crash;
    })
grows {s} a (fills {script} {h = k}) fit h = quiet_nodes (fill_quiet s script k h) (λ im' x. x)
grows {s} a (commits {script} {h = k}) fit h = quiet_nodes (commit_quiet s script k) (λ im' x. x)
grows {s} a (abandons {script} {h = k}) fit h = quiet_nodes (abandon_quiet s script k) (λ im' x. x)
grows {s} a (removes {script} {reel} {f}) fit h = quiet_nodes (remove_quiet s script reel f) (λ im' x. x)
grows {s} a (asks {q}) fit h = quiet_nodes (query_quiet s q) (λ im' x. x)
grows a (retires {words} {scratch} {script} {reel}) fit h = grows_retire a words scratch script reel h
grows a (tidies {words} {scratch} {script} {reel}) fit h = grows_tidy a words scratch script reel h

-- ---- any operation

-- an image without reels has no node
none_reached : {im : List ℕ} {o : Bool} → View (geometry_of (reads im)) o im [] → (n : ℕ) → Reached (geometry_of (reads im)) (reads im) n → ⊥
none_reached v n r = Memᴰ.not-nil ((v.same.present _).0 (r.slot, record { open_slot = slot_filled r.there; number = refl })).1

end_image : {op : Operation} (s : State) → Scripted op → (perform op s).answer ≡ 0 → (done op s).image ≡ apply s.image (segmented (granted op s).script)
end_image {op} s x h = ap (λ y. y.image) (done_granted op s h) ∙ ap (λ i. apply i (segmented (granted op s).script)) (granted_image s x)

answered_grows : {s : State} {t : Table} {op : Operation} → Agrees s t → Fit (arguments op) → Kind op → (perform op s).answer ≡ 0
    → Grows op s.image (done op s).image
answered_grows {s} a fit (formats {words} {slots} {nodes} {table}) h =
    none_reached (rw (no_reels (is_given table) slots nodes) at (shows_view (format_agrees words table slots nodes s a.shows.fits h).shows))
answered_grows {s} a fit (recovers {words}) h = recovered_nodes words s
answered_grows {s} a fit (scripted x) h = rw (end_image s x h) (grows a x fit h).final

refused_nodes : (op : Operation) (s : State) → (perform op s).answer ≢ 0 → SameNodes s.image (done op s).image
refused_nodes op s h = nodes_equal (done_image op s h)

-- what a crash leaves, before the recoveries
abbrev Left : Module → Operation → State → (k : ℕ) (m : List ℕ) → Type 0
Left on op s k m = ((passed (entries_on on (segmented (perform op s).work.script)) k → ⊥) × SameNodes s.image m) ⊎ SameNodes (done op s).image m

answered_left : {s : State} {t : Table} {op : Operation} {k : ℕ} {m : List ℕ} {on : Module} → Agrees s t → Fit (arguments op) → Kind op → (perform op s).answer ≡ 0
    → Interrupted on op s k m → Left on op s k m
answered_left a fit formats h c = absurd (c.unsteady (rw h answered_format))
answered_left {s} {k = k} {m = m} a fit (recovers {words}) h c =
    inr (nodes_on (nodes_back (recovered_nodes words s)) (interrupted_nodes words s k m c))
answered_left {s} {op = op} {k = k} {m = m} {on = on} a fit (scripted x) h c =
    let w = work_granted op s h in
    let segs = (granted op s).script in
    let crash = rw w at (script_alone c (ap (λ y. y.after.image) w ∙ granted_image s x)) in
    elim (passed_or (entries_on on (segmented (perform op s).work.script)) k) [
      | inl p ↦ inr (nodes_equal (crash_laws.all_passed s.image segs _ m (rw w at ((module_laws.passed_alike on (perform op s).work.script k).0 p)) crash ∙ sym (end_image s x h)))
      | inr n ↦ elim ((grows a x fit h).crash _ m crash) [ inl u ↦ inl (n, u) | inr u ↦ inr (rw (end_image s x h) u) ]
    ]

left : {s : State} {t : Table} {k : ℕ} {m : List ℕ} {on : Module} → Agrees s t → (op : Operation) → Fit (arguments op) → Interrupted on op s k m → Left on op s k m
left {s} {k = k} {m = m} a op fit c = elim (ℕ_discrete (perform op s).answer 0) [
  | yes h ↦ answered_left a fit (kind op) h c
  | no h ↦ inr (nodes_equal (crash_none s.image _ m (rw (demand1.refused op s h).no_store at (script_alone c (refused_image op s h)))
      ∙ sym (done_image op s h)))
]

interrupted_left : {s s' : State} {t : Table} {m : List ℕ} {on : Module} → Agrees s t → (op : Operation) → Fit (arguments op) → (k : ℕ) → Interrupted on op s k m
    → Recovered on m s' → Left on op s k s'.image
interrupted_left a op fit k c r = elim (left a op fit c) [
  | inl x ↦ inl (x.0, nodes_on x.1 (ended_nodes r))
  | inr x ↦ inr (nodes_on x (ended_nodes r))
]

pub growth_from : {on : Module} → Steps → Growth on
growth_from steps s t f = let a = agreed steps f in record {
  answered = λ op fit h. answered_grows a fit (kind op) h;
  refused = λ op h. refused_nodes op s h;
  interrupted = interrupted_left a;
}

-- ---- what it shuts out

-- a claim that finds a clear place, anywhere on its frame's path, changes no node: it neither branches out nor scales up first
pub clear_grows_nothing : {im im' : List ℕ} {slot n p : ℕ} (d f : ℕ) → ClaimGrows im im' slot f → ReachesIn im slot (way_of d f) n → p < size_in im n
    → is_set (reads im (locate_at (shape_in im) n)) p ≡ false → SameNodes im im'
clear_grows_nothing d f (finds_clear d' x' l' e' a) x l e = a
clear_grows_nothing {p = p} d f (scales_up x' ends small full a) x l e =
    let r = rw (← root_way f) at x' in
    let q : d ≡ 0 = omega (arith, way_ends f 0 d r ends x) in
    let o = one_node (rw (q, root_way) at x) x' in
    absurd (true_not_false (full p (rw o at l)) (rw o at e))
clear_grows_nothing {p = p} d f (branches_out {d = d'} y run a) x l e =
    let low = way_ends f d' d y.there y.ends x in
    absurd (true_not_false (y.full d _ (omega arith) x p l) e)
