use Rattle.std.proofs.Common.{◌≡◌, ◌∙◌, sym, ap, arith, ℕ, List, length, Bool, false}
use Rattle.tree.specs.Memory.{stores, apply}
use Rattle.tree.specs.Test.{holds}
use Rattle.tree.specs.Lists.{up_to}
use Rattle.tree.specs.Layout.{Sized, bad_image, root_at}
use Rattle.book.specs.Perform.{given_stores}
use Rattle.operations.proofs.Passed.{sized_image}
use Rattle.images.proofs.Formatting.{zeros, sizes, sized_still, image_refused, map_refused, table_refused, formatted}
use Rattle.images.proofs.format.format.Goals as goal

-- an image that passed 1 has its geometry's length
fits : (im : List ℕ) (slots nodes : ℕ) {b : Bool} → b ≡ holds (bad_image (length im) (sizes slots nodes)) → b ≡ false → Sized im (sizes slots nodes)
fits im slots nodes e fine = sized_image im (sizes slots nodes) (sym e ∙ fine)

pub returns-then-bad_image : goal.returns-then-bad_image
returns-then-bad_image c heads = image_refused _ _ _ heads _ _ (sym c.bad_image.ensures ∙ c.if-bad_image.true)

pub map_words-requires : goal.map_words-requires
map_words-requires c = (fits c.args.image.now c.args.slots c.args.nodes c.bad_image.ensures c.if-bad_image.false).nodes_limit

pub returns-then-pool-map_words : goal.returns-then-pool-map_words
returns-then-pool-map_words c heads =
    map_refused _ _ _ heads _ _ (sym c.bad_image.ensures ∙ c.if-bad_image.false) (λ q. c.if-pool-map_words.true (q ∙ sym c.map_words.ensures))

pub returns-then-bad_given : goal.returns-then-bad_given
returns-then-bad_given c heads =
    table_refused _ _ _ heads _ _ (sym c.bad_image.ensures ∙ c.if-bad_image.false) (c.if-pool-map_words.false ∙ c.map_words.ensures)
    (sym c.bad_given.ensures ∙ c.if-bad_given.true)

pub put_header-requires : goal.put_header-requires
put_header-requires c = fits c.args.image.now c.args.slots c.args.nodes c.bad_image.ensures c.if-bad_image.false

pub clear_roots-requires : goal.clear_roots-requires
clear_roots-requires c = sized_still c.put_header.auto.image (fits c.args.image.now c.args.slots c.args.nodes c.bad_image.ensures c.if-bad_image.false)

pub put_table-requires : goal.put_table-requires
put_table-requires c =
    let s = fits c.args.image.now c.args.slots c.args.nodes c.bad_image.ensures c.if-bad_image.false in
    let header = sized_still {im' = c.put_header.new.image} c.put_header.auto.image s in
    let roots = sized_still {im' = c.clear_roots.new.image} c.clear_roots.auto.image header in
    (omega (arith, roots.words), sym c.bad_given.ensures ∙ c.if-bad_given.false)

pub returns : goal.returns
returns c heads =
    let a = c.args in
    formatted a.image.now a.pool.now a.table.now heads a.slots a.nodes (sym c.bad_image.ensures ∙ c.if-bad_image.false)
    (c.if-pool-map_words.false ∙ c.map_words.ensures) c.put_table.new.image _ (sym c.bad_given.ensures ∙ c.if-bad_given.false)
    (c.put_table.ensures ∙ ap (λ (im : List ℕ). apply im (stores (given_stores a.table.now)))
    (c.clear_roots.ensures ∙ ap (λ (im : List ℕ). apply im (stores (zeros root_at (up_to a.slots)))) c.put_header.ensures))
    c.clear_map.ensures
