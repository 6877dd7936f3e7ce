-- Two lists of triangles one after the other: the numbers of the triangles, and the tree that they make together.
use Rattle.std.proofs.Common.{◌≡◌, ◌⊎◌, inl, inr, refl, sym, ap, subst, ◌∙◌, ℕ, ◌+◌, ◌-◌, ◌<◌, ◌≤◌, List, ◌++◌, length, arith}
use Rattle.std.proofs.lemmas.Bool.{cases_lt}
use Rattle.std.proofs.lemmas.List.{get_or-append-add, get_or_append_left, length-append}
use Rattle.meshes.proofs.Joins.JoinedTrees.{Both, IsBridge, joined_tree}
use Rattle.meshes.proofs.Walks.{Renames, tree_of_same, tree_renamed, IsPlace, Touch, share_back, tree_of_paths, tree_of_walks}
use Rattle.meshes.specs.Prelude.{IsTree, ShareSide, tri_at}
use Rattle.meshes.specs.declared.tri.Tri.{Tri}

-- number n is that of triangle k of a part
pub record IsPlaceOf (part : List Tri) (f : ℕ → ℕ) (n : ℕ) : Type 0 where
  pub k : ℕ
  pub in_part : k < length part
  pub is : f k ≡ n

-- triangle k of the part is triangle f k of the list
pub record IsPart (tris part : List Tri) (f : ℕ → ℕ) : Type 0 where
  pub in_list : (k : ℕ) → k < length part → f k < length tris
  pub same : (k : ℕ) → k < length part → tri_at tris (f k) ≡ tri_at part k
  pub once : (k l : ℕ) → f k ≡ f l → k ≡ l

-- the list has the triangles of two parts, and no others
pub record AreParts (tris ts us : List Tri) (f g : ℕ → ℕ) : Type 0 where
  pub first : IsPart tris ts f
  pub second : IsPart tris us g
  pub apart : (k l : ℕ) → k < length ts → l < length us → ¬ (f k ≡ g l)
  pub cases : (n : ℕ) → n < length tris → IsPlaceOf ts f n ⊎ IsPlaceOf us g n

-- the parts the other way round
pub parts_back : {tris ts us : List Tri} {f g : ℕ → ℕ} → AreParts tris ts us f g → AreParts tris us ts g f
parts_back p = record {
  first = p.second;
  second = p.first;
  apart = λ k l h i e. p.apart l k i h (sym e);
  cases = λ n h. elim (p.cases n h) [ inl at ↦ inr at | inr at ↦ inl at ];
}

-- the number in the whole list of triangle k of the first list, and of the second
abbrev pub as_first : ℕ → ℕ
as_first k = k

abbrev pub as_second : List Tri → ℕ → ℕ
as_second ts k = length ts + k

module _ (ts us : List Tri) where
  -- the triangles of the first list,
  pub at_first : (k : ℕ) → k < length ts → tri_at (ts ++ us) k ≡ tri_at ts k
  at_first k h = get_or_append_left ts us (record { a = 0; b = 0; c = 0 }) k h

  -- and of the second
  pub at_second : (k : ℕ) → tri_at (ts ++ us) (length ts + k) ≡ tri_at us k
  at_second k = get_or-append-add ts us k (record { a = 0; b = 0; c = 0 })

  -- a number is one of the first list or the second
  number_cases : (n : ℕ) → n < length (ts ++ us) → IsPlaceOf ts as_first n ⊎ IsPlaceOf us (as_second ts) n
  number_cases n h = elim (cases_lt n (length ts)) [
    | inl within ↦ inl (record { k = n; in_part = within; is = refl })
    | inr past ↦ inr (record { k = n - length ts; in_part = omega (arith, length-append ts us); is = omega arith })
  ]

  -- the two lists are the parts of the whole one
  pub are_parts : AreParts (ts ++ us) ts us as_first (as_second ts)
  are_parts = record {
    first = record { in_list = λ k h. omega (arith, length-append ts us); same = at_first; once = λ k l e. e };
    second = record { in_list = λ k h. omega (arith, length-append ts us); same = λ k h. at_second k; once = λ k l e. omega arith };
    apart = λ k l h i e. omega arith;
    cases = number_cases;
  }

-- ---- the tree

-- the numbers of the second list in the whole one
abbrev IsLater : List Tri → List Tri → ℕ → Type 0
IsLater ts us n = (length ts ≤ n) × (n < length ts + length us)

-- triangles share a side, of whichever lists they are read
touch_same : {t u v w : Tri} → t ≡ v → u ≡ w → ShareSide t u → ShareSide v w
touch_same {t} {u} {v} {w} d e s = subst (λ x. ShareSide x w) d (subst (λ y. ShareSide t y) e s)

module _ (ts us : List Tri) where
  -- triangle n of the whole list, past the first
  at_later : (n : ℕ) → length ts ≤ n → tri_at (ts ++ us) n ≡ tri_at us (n - length ts)
  at_later n h =
      let e : n ≡ length ts + (n - length ts) = omega arith in
      ap (tri_at (ts ++ us)) e ∙ at_second ts us (n - length ts)

  -- the first list keeps its numbers,
  first_renamed : Renames (IsPlace ts) (Touch ts) (IsPlace ts) (Touch (ts ++ us)) (λ k. k) (λ k. k)
  first_renamed = record {
    goes = λ a h. h;
    comes = λ a h. h;
    there = λ a h. refl;
    back = λ a h. refl;
    joins = λ a b h k s. touch_same (sym (at_first ts us a h)) (sym (at_first ts us b k)) s;
    joined = λ a b h k s. touch_same (at_first ts us a h) (at_first ts us b k) s;
  }

  -- the second has later ones,
  second_renamed : Renames (IsPlace us) (Touch us) (IsLater ts us) (Touch (ts ++ us)) (λ k. length ts + k) (λ n. n - length ts)
  second_renamed = record {
    goes = λ a h. (omega arith, omega arith);
    comes = λ a h. omega arith;
    there = λ a h. omega arith;
    back = λ a h. omega arith;
    joins = λ a b h k s. touch_same (sym (at_second ts us a)) (sym (at_second ts us b)) s;
    joined = λ a b h k s. touch_same (at_later a h.0) (at_later b k.0) s;
  }

  -- and the whole list has both
  both_goes : (a : ℕ) → Both (IsPlace ts) (IsLater ts us) a → IsPlace (ts ++ us) a
  both_goes a (inl h) = omega (arith, length-append ts us)
  both_goes a (inr h) = omega (arith, length-append ts us)

  both_comes : (a : ℕ) → IsPlace (ts ++ us) a → Both (IsPlace ts) (IsLater ts us) a
  both_comes a h = elim (cases_lt a (length ts)) [
    | inl within ↦ inl within
    | inr past ↦ inr (past, omega (arith, length-append ts us))
  ]

-- triangle k of the first list and triangle l of the second share a side, and no others across the lists do
pub record ShareOneSide (ts us : List Tri) (k l : ℕ) : Type 0 where
  pub in_first : k < length ts
  pub in_second : l < length us
  pub share : ShareSide (tri_at ts k) (tri_at us l)
  pub only : (m n : ℕ) → m < length ts → n < length us → ShareSide (tri_at ts m) (tri_at us n) → (m ≡ k) × (n ≡ l)

module _ (ts us : List Tri) (k l : ℕ) (s : ShareOneSide ts us k l) where
  -- two triangles across the lists that share a side
  across : (a b : ℕ) → IsPlace ts a → IsLater ts us b → Touch (ts ++ us) a b → (a ≡ k) × (b - length ts ≡ l)
  across a b h i touch =
      s.only a (b - length ts) h (omega (arith, i.0, i.1))
      (touch_same (at_first ts us a h) (at_later ts us b i.0) touch)

  -- are the two
  bridge : IsBridge (IsPlace ts) (IsLater ts us) (Touch (ts ++ us)) k (length ts + l)
  bridge = record {
    apart = λ a h i. omega (arith, i.0);
    near = s.in_first;
    far = (omega arith, omega (arith, s.in_second));
    joined = touch_same (sym (at_first ts us k s.in_first)) (sym (at_second ts us l)) s.share;
    only_near = λ a b h i touch. (across a b h i touch).0;
    only_far = λ a b h i touch. omega (arith, (across a b h i touch).1, i.0);
    back_near = λ a b h i touch. (across a b h i (share_back _ _ touch)).0;
  }

  -- two trees of triangles that share one side are one tree
  pub tree_joined : IsTree ts → IsTree us → IsTree (ts ++ us)
  tree_joined first second =
      let P = IsPlace ts in
      let Q = IsLater ts us in
      let R = Touch (ts ++ us) in
      let p = tree_renamed P (Touch ts) P R (λ n. n) (λ n. n) (first_renamed ts us) (tree_of_walks ts first) in
      let q = tree_renamed (IsPlace us) (Touch us) Q R (λ n. length ts + n) (λ n. n - length ts) (second_renamed ts us) (tree_of_walks us second) in
      let both = joined_tree P Q R (λ a b t. share_back _ _ t) k (length ts + l) bridge p q in
      tree_of_paths (ts ++ us)
      (tree_of_same (Both P Q) (IsPlace (ts ++ us)) R (both_goes ts us) (both_comes ts us) both)
