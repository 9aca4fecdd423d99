-- The memory module with line flushes: either module has the same histories, and nothing is pending when an operation has ended.
use mathlib.Core.Path.{◌≡◌, sym, ◌∙◌, ap}
use mathlib.Core.Logic.{inl, inr}
use mathlib.Core.List.{List}
use Prim.Native.Nat.{ℕ}
use Rattle.tree.specs.Memory.{reads, segmented, Module, plain, ours_on}
use Rattle.tree.specs.Recovery.{recover_stores}
use Rattle.tree.proofs.Memory.{crash_laws, translator_laws, own_writes_laws, module_laws}
use Rattle.book.specs.State.{State, Operation, recover, memory, shape}
use Rattle.book.specs.Perform.{perform}
use Rattle.book.specs.Table.{Table}
use Rattle.book.specs.Histories.{Interrupted, Attempts, none_yet, refused, interrupted, Recovered, Starts, formatted, found, Follows, started, performed, before, after}
use Rattle.book.specs.Flushing.{Flushing}
use Rattle.book.proofs.Fixed.{fixed}
use Rattle.book.proofs.Modules.{our_crash}

-- ---- a history there is one on the present module

cut_as_far : {on : Module} {op : Operation} {s : State} {k : ℕ} {m : List ℕ} → Interrupted on op s k m
    → Interrupted plain op s (ours_on on (segmented (perform op s).work.script) k) m
cut_as_far c = record { unsteady = c.unsteady; itself = c.itself; same_length = c.same_length; old_or_new = c.old_or_new; script = our_crash c }

attempts_here : {on : Module} {m m' : List ℕ} → Attempts on m m' → Attempts plain m m'
attempts_here none_yet = none_yet
attempts_here (refused words s q h a) = refused words s q h (attempts_here a)
attempts_here (interrupted words s k q c a) = interrupted words s _ q (cut_as_far c) (attempts_here a)

recovered_here : {on : Module} {m : List ℕ} {s : State} → Recovered on m s → Recovered plain m s
recovered_here r = record {
  left = r.left;
  attempts = attempts_here r.attempts;
  words = r.words;
  from = r.from;
  image = r.image;
  answered = r.answered;
  is = r.is;
}

starts_here : {on : Module} {s : State} {t : Table} → Starts on s t → Starts plain s t
starts_here (formatted words table slots nodes s fit h) = formatted words table slots nodes s fit h
starts_here (found v r) = found v (recovered_here r)

follows_here : {on : Module} {s : State} {t : Table} → Follows on s t → Follows plain s t
follows_here (started x) = started (starts_here x)
follows_here (performed f op fit) = performed (follows_here f) op fit
follows_here {on} (before {s = s} f op fit k c r n a) =
    before (follows_here f) op fit _ (cut_as_far c) (recovered_here r) (λ p. n ((module_laws.passed_alike on (perform op s).work.script k).1 p)) a
follows_here (after f op fit k c r a) = after (follows_here f) op fit _ (cut_as_far c) (recovered_here r) a

-- ---- and one there, here

-- as far into the script
record Left (on : Module) (op : Operation) (s : State) (k : ℕ) (m : List ℕ) : Type 0 where
  far : ℕ
  same : ours_on on (segmented (perform op s).work.script) far ≡ k
  interrupts : Interrupted on op s far m

left_there : (on : Module) {op : Operation} {s : State} {k : ℕ} {m : List ℕ} → Interrupted plain op s k m → Left on op s k m
left_there on {op} {s} {k} {m} c =
    let segs = (perform op s).work.script in
    let r = module_laws.as_far_lem on segs k (crash_laws.within c.itself (segmented segs) k m c.script) in
    record {
      far = r.0;
      same = r.2;
      interrupts = record {
        unsteady = c.unsteady;
        itself = c.itself;
        same_length = c.same_length;
        old_or_new = c.old_or_new;
        script = module_laws.as_possible on c.itself segs r.0 m r.1 (rw r.2 c.script);
      };
    }

attempts_there : (on : Module) {m m' : List ℕ} → Attempts plain m m' → Attempts on m m'
attempts_there on none_yet = none_yet
attempts_there on (refused words s q h a) = refused words s q h (attempts_there on a)
attempts_there on (interrupted words s k q c a) = interrupted words s _ q (left_there on c).interrupts (attempts_there on a)

recovered_there : (on : Module) {m : List ℕ} {s : State} → Recovered plain m s → Recovered on m s
recovered_there on r = record {
  left = r.left;
  attempts = attempts_there on r.attempts;
  words = r.words;
  from = r.from;
  image = r.image;
  answered = r.answered;
  is = r.is;
}

starts_there : (on : Module) {s : State} {t : Table} → Starts plain s t → Starts on s t
starts_there on (formatted words table slots nodes s fit h) = formatted words table slots nodes s fit h
starts_there on (found v r) = found v (recovered_there on r)

follows_there : (on : Module) {s : State} {t : Table} → Follows plain s t → Follows on s t
follows_there on (started x) = started (starts_there on x)
follows_there on (performed f op fit) = performed (follows_there on f) op fit
follows_there on (before {s = s} f op fit k c r n a) =
    let l = left_there on c in
    before (follows_there on f) op fit l.far l.interrupts (recovered_there on r)
    (λ p. n (rw l.same at ((module_laws.passed_alike on (perform op s).work.script l.far).0 p))) a
follows_there on (after f op fit k c r a) = after (follows_there on f) op fit _ (left_there on c).interrupts (recovered_there on r) a

-- ---- nothing is pending

pub flushing_laws : Flushing
flushing_laws = record {
  cut_as_far = λ on op s k m c. cut_as_far c;
  left_there = λ on op s k m c. let l = left_there on c in (l.far, l.interrupts);
  same_recoveries = λ on m s. (λ r. recovered_here r, λ r. recovered_there on r);
  same_histories = λ on s t. (λ f. follows_here f, λ f. follows_there on f);
  script_lasts = λ op s m c. let segs = (perform op s).work.script in let ours = translator_laws.in_segments segs in
      (translator_laws.all_lasting (perform op s).work.after.image (segmented segs) m ours.0 ours.1).0 c;
  recover_cut = λ words s lines k m h c i. elim ((own_writes_laws.torn s.image (recover_stores (shape s) (memory s)) lines k m c).each i) [
    | inl q ↦ inl q
    | inr x ↦
        let r = fixed.recovers words s h in
        let w = (r.stores i (reads m i)).0 x in
        inr (w.is ∙ sym (r.equal w.node w.reached) ∙ ap (memory (perform (recover words) s).work.after) (sym w.at))
  ];
}
