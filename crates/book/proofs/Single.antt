-- Steps whose script stores one word at a time.
use mathlib.Core.Path.{◌≡◌, ◌∙◌}
use mathlib.Core.Logic.{◌⊎◌, inl, inr}
use mathlib.Core.List.{List}
use Prim.Native.Nat.{ℕ}
use Rattle.tree.specs.Memory.{reads, Store, segmented, single, set_all, CrashImage}
use Rattle.tree.specs.Layout.{geometry_of}
use Rattle.tree.proofs.Memory.{crash_laws, apply_single}
use Rattle.book.specs.State.{State, Operation}
use Rattle.book.specs.Perform.{granted, writing}
use Rattle.book.specs.Table.{Table, table_work}
use Rattle.book.specs.Agrees.{Shows, Agrees}
use Rattle.book.proofs.View.{View}
use Rattle.book.proofs.Step.{Keeps, Step}
use Rattle.book.proofs.Keeps.{Keeping, keeps_of, keeps_itself}
use Rattle.book.proofs.Claims.{AgreesBy, agrees_of}
use Rattle.book.proofs.Showing.{shows_view, view_shows}
use Rattle.book.proofs.Crashed.{falls_through, AfterEach, through_each}

-- agreement in the image's own geometry
pub agrees_by : {s : State} {t : Table} → Agrees s t → AgreesBy (geometry_of (reads s.image)) s t
agrees_by a = record {
  map_words_lem = a.map_words_lem;
  marks = a.marks;
  head_words = a.head_words;
  table_heads = a.table_heads;
  heads = a.heads;
  apart = a.apart;
  locates = a.locates;
}

-- ---- the step

-- what a crash may leave
pub record Left (ws im : List ℕ) (t t' : Table) (im' : List ℕ) : Type 0 where
  pub shows : Shows im' t ⊎ Shows im' t'
  pub keeps : Keeps ws im im'

left_itself : {ws im : List ℕ} {t t' : Table} → Shows im t → Left ws im t t' im
left_itself v = record { shows = inl v; keeps = keeps_itself (shows_view v) }

-- an image by its view: of the table before, and of the one after
module _ {ws im im' : List ℕ} {t : Table} (v : Shows im t) where
  pub left_old : {t' : Table} → View (geometry_of (reads im)) t.own im' t.reels → Keeping ws (geometry_of (reads im)) (reads im) (reads im')
      → Left ws im t t' im'
  left_old w k = record { shows = inl (view_shows w v.slots v.nodes); keeps = keeps_of (shows_view v) w.header k }

  pub left_new : {t' : Table} → View (geometry_of (reads im)) t'.own im' t'.reels → t.slots ≡ t'.slots → t.nodes ≡ t'.nodes
      → Keeping ws (geometry_of (reads im)) (reads im) (reads im') → Left ws im t t' im'
  left_new w p q k = record { shows = inr (view_shows w (v.slots ∙ p) (v.nodes ∙ q)); keeps = keeps_of (shows_view v) w.header k }

pub agrees_new : {im : List ℕ} {s' : State} {t t' : Table} → Shows im t → View (geometry_of (reads im)) t'.own s'.image t'.reels
    → t.slots ≡ t'.slots → t.nodes ≡ t'.nodes → AgreesBy (geometry_of (reads im)) s' t' → Agrees s' t'
agrees_new v w p q a = agrees_of w.header.geometry (view_shows w (v.slots ∙ p) (v.nodes ∙ q)) a

pub step_of : {op : Operation} {s : State} {t : Table} (ss : List Store) (pool heads : List ℕ) (t' : Table) → Shows s.image t
    → granted op s ≡ writing (single ss) (record { image = s.image; pool = pool; heads = heads }) → (table_work op t).after ≡ t'
    → AfterEach (Left s.heads s.image t t') s.image ss
    → Agrees (record { image = set_all s.image ss; pool = pool; heads = heads }) t' → Step op s t
step_of {op} {s} {t} ss pool heads t' v e f each a = record {
  final = rw (e, f, apply_single s.image ss) a;
  crash = rw (e, f) (λ k im' c. (left k im' c).shows);
  keeps = rw e (λ k im' c. (left k im' c).keeps);
}
  where
    left : (k : ℕ) (im' : List ℕ) → CrashImage s.image (segmented (single ss)) k im' → Left s.heads s.image t t' im'
    left k im' c =
        falls_through (Left s.heads s.image t t') (crash_laws.falls_in s.image (single ss) k im' c)
        (through_each (Left s.heads s.image t t') s.image ss (left_itself v) each)
