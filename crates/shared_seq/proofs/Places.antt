-- A list of two parts with a value between, where one of them is cut or changed at a place.
use Rattle.std.proofs.Common.{◌≡◌, ◌≢◌, ℕ, suc, ◌+◌, ◌-◌, ◌<◌, ◌≤◌, List, [], ◌∷◌, ◌++◌, length, take, drop, sym, ◌∙◌, ap, append_assoc, length-append, refl, arith}
use Rattle.std.proofs.Math.Seq.{drop-append-add, set-append_seam, take-append-add}
use Rattle.std.proofs.lemmas.List.{drop-append-le, set-append_left, set-append_right, take-append-le}
use Rattle.std.proofs.lemmas.List.Edits.{remove-append_left, remove-append_right}
use Rattle.std.specs.List.{insert, remove}
use Rattle.std.specs.Prelude.{slice_set}
use Rattle.shared_seq.specs.Tree.{IsFork, IsGapInPart, IsJoinedTree, IsKeptPart, IsWay, Tree, around, other_tree_side}
use Rattle.shared_seq.specs.declared.side.Side.{Side}
use Rattle.shared_seq.specs.declared.side.Side.TheVariants.{Left, Right}

module _ (part other : List ℕ) (value i at : ℕ) where
  module _ (place : (at ≡ i) × (i ≤ length part)) where
    take_before : take i (part ++ value ∷ other) ≡ take at part
    take_before = rw place.0 (take-append-le i part (value ∷ other) place.1)

    drop_before : drop i (part ++ value ∷ other) ≡ drop at part ++ value ∷ other
    drop_before = rw place.0 (drop-append-le i part (value ∷ other) place.1)

  module _ (place : i ≡ length other + (at + 1)) where
    beyond : i ≡ length other + suc at
    beyond = omega (arith, place)

    take_after : take i (other ++ value ∷ part) ≡ other ++ value ∷ take at part
    take_after = rw beyond (take-append-add other (value ∷ part) (suc at))

    drop_after : drop i (other ++ value ∷ part) ≡ drop at part
    drop_after = rw beyond (drop-append-add other (value ∷ part) (suc at))

  insert_in : (s : Side) → IsGapInPart s part other i at → (v : ℕ) → insert (around s part value other) i v ≡ around s (insert part at v) value other
  insert_in Left place v = rw (take_before place, drop_before place) (sym (append_assoc (take at part) (v ∷ drop at part) (value ∷ other)))
  insert_in Right place v = rw (take_after place, drop_after place) (append_assoc other (value ∷ take at part) (v ∷ drop at part))

  set_in : (s : Side) → IsGapInPart s part other i at → at < length part → (v : ℕ) → slice_set (around s part value other) i v ≡ around s (slice_set part at v) value other
  set_in Left place within v = rw (← place.0) (set-append_left part (value ∷ other) at v within)
  set_in Right place within v =
      let less : i - length other ≡ suc at = omega (arith, place) in
      set-append_right other (value ∷ part) (length other) i v refl (omega (arith, place)) ∙ ap (λ k. other ++ slice_set (value ∷ part) k v) less

  set_between : (s : Side) → IsGapInPart s part other i at → i < length part + length other + 1 → length part ≤ at
      → (v : ℕ) → slice_set (around s part value other) i v ≡ around s part v other
  set_between Left place within past v =
      let here : i ≡ length part = omega (arith, place.0, place.1, past) in
      rw here (set-append_seam part value other v)
  set_between Right place within past v = absurd (omega (arith, place, within, past))

  remove_in : (s : Side) → IsGapInPart s part other i at → at < length part → remove (around s part value other) i ≡ around s (remove part at) value other
  remove_in Left place within = rw (← place.0) (remove-append_left part (value ∷ other) at within)
  remove_in Right place within =
      let less : i - length other ≡ suc at = omega (arith, place) in
      remove-append_right other (value ∷ part) (length other) i refl (omega (arith, place)) ∙ ap (λ k. other ++ remove (value ∷ part) k) less

  remove_between : (s : Side) → IsGapInPart s part other i at → i < length part + length other + 1 → length part ≤ at
      → remove (around s part value other) i ≡ part ++ other
  remove_between Left place within past =
      let less : i - length part ≡ 0 = omega (arith, place.1) in
      remove-append_right part (value ∷ other) (length part) i refl (omega (arith, place.0, past)) ∙ ap (λ k. part ++ remove (value ∷ other) k) less
  remove_between Right place within past = absurd (omega (arith, place, within, past))

-- two lists with a value between, given on the other side
turned : (s : Side) (xs ys : List ℕ) (v : ℕ) → around (other_tree_side s) xs v ys ≡ around s ys v xs
turned Left xs ys v = refl
turned Right xs ys v = refl

-- the same of trees: a value inserted in one part or removed from it, t being what it is then joined to
module _ (s : Side) (tree part other : Tree) (value i at : ℕ) (way : IsWay tree i s part value other at) where
  module _ (new t : Tree) (joined : IsJoinedTree s new value other t) where
    pub inserted : (v : ℕ) → new.items ≡ insert part.items at v → t.items ≡ insert tree.items i v
    inserted v changed = joined.items ∙ rw (changed, way.fork.items) (sym (insert_in part.items other.items value i at s way.place v))

    pub removed : new.items ≡ remove part.items at → at < length part.items → t.items ≡ remove tree.items i
    removed changed within = joined.items ∙ rw (changed, way.fork.items) (sym (remove_in part.items other.items value i at s way.place within))

  -- a value changed in one part, or between them, t being a fork then
  pub changed : (new t : Tree) (v : ℕ) → IsFork (other_tree_side s) other value new t → new.items ≡ slice_set part.items at v → at < length part.items
      → t.items ≡ slice_set tree.items i v
  changed new t v fork is within = fork.items ∙ turned s other.items new.items value
      ∙ rw (is, way.fork.items) (sym (set_in part.items other.items value i at s way.place within v))

  pub changed_between : (t : Tree) (v : ℕ) → IsFork s part v other t → i < length tree.items → length part.items ≤ at → t.items ≡ slice_set tree.items i v
  changed_between t v fork within past =
      fork.items ∙ rw way.fork.items (sym (set_between part.items other.items value i at s way.place (omega (arith, within, way.fork.long)) past v))

  -- the value between removed
  pub removed_between : i < length tree.items → length part.items ≤ at → part.items ++ other.items ≡ remove tree.items i
  removed_between within past = rw way.fork.items (sym (remove_between part.items other.items value i at s way.place (omega (arith, within, way.fork.long)) past))

-- a piece of the part alone,
module _ (tree part other new : Tree) (value i at v : ℕ) where
  pub kept_alone : (s : Side) → IsWay tree i s part value other at → IsKeptPart s part at v new → IsKeptPart s tree i v new
  kept_alone Left way is = record {
    items = is.items ∙ rw way.fork.items (ap (λ xs. xs ++ v ∷ []) (sym (take_before part.items other.items value i at way.place)));
    long = omega (arith, is.long, way.place.0);
    at_most_one_higher = omega (arith, is.at_most_one_higher, way.fork.height);
  }
  kept_alone Right way is = record {
    items = is.items ∙ rw way.fork.items (ap (λ xs. v ∷ xs) (sym (drop_after part.items other.items value i at way.place)));
    long = omega (arith, is.long, way.place, way.fork.long);
    at_most_one_higher = omega (arith, is.at_most_one_higher, way.fork.height);
  }

  -- and t, a piece of it that is joined to the other part
  pub kept_joined : (kept s : Side) (t : Tree) → kept ≢ s → IsWay tree i s part value other at → IsKeptPart kept part at v new → IsJoinedTree s new value other t
      → IsKeptPart kept tree i v t
  kept_joined Left Left t apart way is joined = absurd (apart refl)
  kept_joined Right Right t apart way is joined = absurd (apart refl)
  kept_joined Left Right t apart way is joined = record {
    items = joined.items ∙ rw (is.items, way.fork.items, take_after part.items other.items value i at way.place) (sym (append_assoc other.items (value ∷ take at part.items) (v ∷ [])));
    long = ap length joined.items ∙ length-append other.items (value ∷ new.items) ∙ omega (arith, is.long, way.place);
    at_most_one_higher = omega (arith, is.at_most_one_higher, way.fork.height, joined.at_most_one_higher);
  }
  kept_joined Right Left t apart way is joined = record {
    items = joined.items ∙ rw (is.items, way.fork.items, drop_before part.items other.items value i at way.place) refl;
    long = ap length joined.items ∙ length-append new.items (value ∷ other.items) ∙ omega (arith, is.long, way.place.0, way.place.1, way.fork.long);
    at_most_one_higher = omega (arith, is.at_most_one_higher, way.fork.height, joined.at_most_one_higher);
  }
