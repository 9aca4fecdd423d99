-- Converting: the image of the other edition, word for word. Slots, nodes and places stay where they are; what is stale becomes 0.
use Rattle.std.specs.Prelude.{Bool, cond, List, map, ℕ, ◌+◌, ◌-◌, ◌*◌, ◌/◌, ◌%◌, length, eqb, ltb}
use Rattle.memory.specs.Words.{Memory, reads}
use Rattle.tree.specs.Lists.{up_to, has_key}
use Rattle.tree.specs.declared.layout.Geometry.{Geometry}
use Rattle.tree.specs.Layout.{edition_at, geometry_of, reel_at, node_at, next_at, set_at, level_at, size_at}
use Rattle.tree.specs.Fingerprint.{Rule, fingerprint, rule_for, bytes_to}
use Rattle.tree.specs.Node.{held, frame}
use Rattle.tree.specs.Slots.{filled}
use Rattle.tree.specs.Subtree.{all_trees}

-- the other edition: 2 of 1, and 1 of 2
unfoldable pub other_edition : ℕ → ℕ
other_edition e = cond (eqb e 1) 2 1

-- word i of the header: the new edition, R, N, then 0
unfoldable pub new_header : (edition : ℕ) → Memory → ℕ → ℕ
new_header e m i = cond (eqb i edition_at) e (cond (ltb i 3) (m i) 0)

-- word i of the slots: an empty slot becomes two zero words
unfoldable pub new_slot : Memory → ℕ → ℕ
new_slot m i = cond (filled m ((i - reel_at 0) / 2)) (m i) 0

module _ (g : Geometry) (m : Memory) where
  -- a node is reached from some filled slot
  unfoldable pub is_reached : ℕ → Bool
  is_reached n = has_key (λ v. v.node) n (all_trees g m)

  -- a place's frame, and its fingerprint made anew; 0 where no frame is held
  unfoldable pub new_frame : (n p : ℕ) → ℕ
  new_frame n p = cond (held g m n p) (frame g m n p) 0

  unfoldable pub new_print : Rule → (n p : ℕ) → ℕ
  new_print r n p = cond (held g m n p) (fingerprint r (frame g m n p)) 0

  -- word k of a reached node: next; set, for locate too; level; size; 0 in words 5 to 7; fingerprints; frames
  unfoldable pub new_word : Rule → (n k : ℕ) → ℕ
  new_word r n k =
      cond (eqb k 0) (m (next_at g n))
      (cond (ltb k 3) (m (set_at g n))
      (cond (eqb k 3) (m (level_at g n))
      (cond (eqb k 4) (m (size_at g n))
      (cond (ltb k 8) 0
      (cond (ltb k 16) (bytes_to (λ j. new_print r n (8 * (k - 8) + j)) 8)
      (new_frame n (k - 16)))))))

  -- word k of any node: one that is not reached becomes 80 zero words
  unfoldable pub new_node_word : Rule → (n k : ℕ) → ℕ
  new_node_word r n k = cond (is_reached n) (new_word r n k) 0

-- the image as one of an edition: word i
unfoldable pub converted : (edition : ℕ) → Geometry → Memory → Memory
converted e g m i =
    cond (ltb i (reel_at 0)) (new_header e m i)
    (cond (ltb i (node_at g 0)) (new_slot m i)
    (new_node_word g m (rule_for e) ((i - node_at g 0) / 80) ((i - node_at g 0) % 80)))

-- the second image's words: as many, of the other edition
unfoldable pub converted_image : List ℕ → List ℕ
converted_image image =
    let m = reads image in
    map (converted (other_edition (m edition_at)) (geometry_of m) m) (up_to (length image))
