-- Room made for a claim, by a scale-up or a branch-out: the book agrees with the same table.
use mathlib.Core.Path.{◌≡◌, refl, sym, ◌∙◌}
use mathlib.Core.Bool.{true}
use mathlib.Core.Logic.{◌⊎◌, ◌↔◌}
use mathlib.Core.List.{List}
use Prim.Native.Nat.{ℕ, ◌<◌}
use lib.ListN.{length}
use Rattle.tree.specs.Memory.{reads, is_set}
use Rattle.tree.specs.declared.layout.Geometry.{Geometry}
use Rattle.tree.specs.Layout.{locate_at}
use Rattle.tree.specs.Node.{held}
use Rattle.tree.specs.Slots.{Filled}
use Rattle.tree.specs.Reach.{Reaches, root}
use Rattle.tree.specs.Pool.{used}
use Rattle.tree.proofs.Reach.{slot_filled}
use Rattle.book.specs.declared.Target.{Target}
use Rattle.book.specs.State.{State}
use Rattle.book.specs.Table.{Table}
use Rattle.book.specs.Agrees.{Reached, Claims, ClaimsPlace, Agrees}
use Rattle.book.proofs.Showing.{view_shows}
use Rattle.book.proofs.Reading.{sizes_of}
use Rattle.book.proofs.Claims.{SameClaim, head_on, agrees_of}
use Rattle.book.proofs.Keeps.{within_frames}
use Rattle.book.proofs.Still.{Still}
use Rattle.book.proofs.Claiming.{Asked}
use Rattle.tree.specs.Fingerprint.{rule_of}

-- the image and the map with the room made
pub record Makes (g : Geometry) (s : State) (t : Table) (im' pool' : List ℕ) : Type 0 where
  pub still : Still g t.own t.reels s.image im'
  pub map_words_lem : length pool' ≡ length s.pool
  pub marks : (k : ℕ) → (used pool' k ≡ true) ↔ Reached g (reads im') k
  pub ways : {i : ℕ} {w : List ℕ} {k : ℕ} → Reaches g (reads s.image) i w k → Reaches g (reads im') i w k
  pub rule : rule_of (reads s.image) ≡ rule_of (reads im')
  pub carries : (x : Target) (reel f : ℕ) → Claims g (reads s.image) x reel f → SameClaim g (reads s.image) (reads im') x
  pub locates : (k q : ℕ) → Reached g (reads im') k → q < 64
      → (is_set (reads im' (locate_at g k)) q ≡ true) ↔ ((held g (reads im') k q ≡ true) ⊎ ((i : ℕ) × ClaimsPlace s.heads i k q))

module _ {s : State} {t : Table} {h reel f slot : ℕ} {im' pool' : List ℕ}
    (a : Asked s t h reel f slot) (l : Makes (sizes_of s.image) s t im' pool') where
  abbrev made : State
  made = record { image = im'; pool = pool'; heads = s.heads }

  geometry_made : sizes_of im' ≡ sizes_of s.image
  geometry_made = l.still.view.header.geometry

  agrees_made : Agrees made t
  agrees_made = agrees_of geometry_made (view_shows l.still.view a.agrees.shows.slots a.agrees.shows.nodes) (record {
    map_words_lem = l.map_words_lem ∙ a.agrees.map_words_lem;
    marks = l.marks;
    head_words = a.agrees.head_words;
    table_heads = a.agrees.table_heads;
    heads = λ k b. head_on l.rule (λ x r f b c. l.carries x r f c) (a.agrees.heads k b);
    apart = a.agrees.apart;
    locates = l.locates;
  })

  -- so that the claim may be asked of it
  pub asked_made : Asked made t h reel f slot
  asked_made =
      let b : Filled (sizes_of s.image) (reads im') slot = slot_filled (l.ways (root a.has.open_slot refl)) in
      record {
        agrees = agrees_made;
        low = a.low;
        idle = a.idle;
        has = rw geometry_made (record { open_slot = b; number = sym (l.still.within.reels b) ∙ a.has.number });
        other_frame = a.other_frame;
        word = a.word;
        absent = rw geometry_made (λ x. a.absent (within_frames l.still.within x));
      }
