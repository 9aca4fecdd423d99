-- Books with every head idle, the map of the reached nodes, and equal bitmaps: they agree with a table of idle heads.
use mathlib.Core.Path.{◌≡◌, refl, sym, subst}
use mathlib.Core.Bool.{Bool, true}
use mathlib.Core.Logic.{inl, inr, ◌↔◌}
use mathlib.Core.List.{List}
use Prim.Native.Nat.{ℕ}
use lib.ListN.{length, replicate, length-replicate}
use Rattle.tree.specs.Memory.{reads}
use Rattle.tree.specs.declared.layout.Geometry.{Geometry}
use Rattle.tree.specs.Layout.{map_words, geometry_of, locate_at, set_at}
use Rattle.tree.specs.Pool.{used}
use Rattle.book.specs.Heads.{head_count, head_at, idle_heads, is_idle}
use Rattle.book.specs.Table.{Table, Reel, idle, all_idle}
use Rattle.book.specs.Agrees.{Agrees, Reached, both_idle}
use Rattle.book.proofs.View.{View}
use Rattle.book.proofs.Heads.{idle_heads_lem, length_idle, idle_nothing, replicate_idle}
use Rattle.book.proofs.Showing.{view_shows}

-- the table of some reels with every head idle
abbrev pub idle_table : Geometry → Bool → List Reel → Table
idle_table g o rs = record { slots = g.slots; nodes = g.nodes; own = o; reels = rs; heads = replicate head_count idle }

pub idle_table_lem : {g : Geometry} (t : Table) → g.slots ≡ t.slots → g.nodes ≡ t.nodes → idle_table g t.own t.reels ≡ all_idle t
unfolding all_idle
idle_table_lem t p q = rw (p, q)

pub record Settled (g : Geometry) (o : Bool) (im pool : List ℕ) (rs : List Reel) : Type 0 where
  pub view : View g o im rs
  pub map_words_lem : length pool ≡ map_words g
  pub marks : (n : ℕ) → (used pool n ≡ true) ↔ Reached g (reads im) n
  pub equal : (n : ℕ) → Reached g (reads im) n → reads im (locate_at g n) ≡ reads im (set_at g n)

idle_head : (h : ℕ) → is_idle (head_at idle_heads h) ≡ true
idle_head h = rw (idle_heads_lem h) refl

settled : {o : Bool} {im pool : List ℕ} {rs : List Reel} → Settled (geometry_of (reads im)) o im pool rs
    → Agrees (record { image = im; pool = pool; heads = idle_heads }) (idle_table (geometry_of (reads im)) o rs)
settled a = record {
  shows = view_shows a.view refl refl;
  map_words_lem = a.map_words_lem;
  marks = a.marks;
  head_words = length_idle;
  table_heads = length-replicate head_count idle;
  heads = λ h l. rw (idle_heads_lem h, replicate_idle head_count h) both_idle;
  apart = λ h h' l l' x y o. absurd (idle_nothing (idle_head h) x);
  locates = λ n p r l. rw (a.equal n r) (λ e. inl e, λ o. elim o [ inl e ↦ e | inr c ↦ absurd (idle_nothing (idle_head c.0) c.1.about) ]);
}

pub agrees_settled : {g : Geometry} {o : Bool} {im pool : List ℕ} {rs : List Reel} → Settled g o im pool rs
    → Agrees (record { image = im; pool = pool; heads = idle_heads }) (idle_table g o rs)
agrees_settled {o = o} {im = im} {pool = pool} {rs = rs} a =
    let q = a.view.header.geometry in
    subst (λ g. Agrees (record { image = im; pool = pool; heads = idle_heads }) (idle_table g o rs)) q (settled (subst (λ g. Settled g o im pool rs) (sym q) a))
