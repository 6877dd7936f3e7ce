-- A list of triangles without one of them: the numbers of the others, their sides, and their tree, where that one is a leaf.
use Rattle.std.proofs.Common.{◌≡◌, inl, inr, sym, ap, subst, ◌∙◌, ℕ, ◌+◌, ◌<◌, List, [], ◌∷◌, length}
use Rattle.std.proofs.lemmas.Bool.{cases_eq}
use Rattle.meshes.proofs.Walks.{IsPath, IsTreeOn, Renames, tree_renamed, IsPlace, Touch, share_back, tree_of_paths, tree_of_walks}
use Rattle.meshes.specs.Prelude.{HasSide, HasSideBetween, IsSideOfOne, IsSideOfTwo, IsTree, ShareSide, tri_at}
use Rattle.meshes.specs.declared.tri.Tri.{Tri}
use Rattle.meshes.specs.Laws.{IsLeaf}

-- the rest is the list without triangle k: its triangle m is triangle f m of the list, and triangle n of the list is its triangle g n
pub record IsRest (tris rest : List Tri) (k : ℕ) (f g : ℕ → ℕ) : Type 0 where
  pub count : length rest + 1 ≡ length tris
  pub old_in : (m : ℕ) → m < length rest → f m < length tris
  pub old_not : (m : ℕ) → ¬ (f m ≡ k)
  pub same : (m : ℕ) → m < length rest → tri_at tris (f m) ≡ tri_at rest m
  pub new_in : (n : ℕ) → n < length tris → ¬ (n ≡ k) → g n < length rest
  pub there : (n : ℕ) → ¬ (n ≡ k) → f (g n) ≡ n
  pub back : (m : ℕ) → g (f m) ≡ m

module _ (tris rest : List Tri) (k : ℕ) (f g : ℕ → ℕ) (r : IsRest tris rest k f g) where
  -- another triangle of the list, as one of the rest
  pub same_new : (n : ℕ) → n < length tris → ¬ (n ≡ k) → tri_at rest (g n) ≡ tri_at tris n
  same_new n within not = sym (r.same (g n) (r.new_in n within not)) ∙ ap (tri_at tris) (r.there n not)

  -- a side of one triangle, another one than k, is one in the rest,
  pub rest_of_one : (i j n : ℕ) → ¬ (n ≡ k) → IsSideOfOne tris i j n → IsSideOfOne rest i j (g n)
  rest_of_one i j n not one = record {
    in_list = r.new_in n one.in_list not;
    has = subst (λ t. HasSide t i j) (sym (same_new n one.in_list not)) one.has;
    only = λ m within has.
        sym (r.back m) ∙ ap g (one.only (f m) (r.old_in m within) (subst (λ t. HasSideBetween t i j) (sym (r.same m within)) has));
  }

  -- so is a side of two others,
  pub rest_of_two : (i j n o : ℕ) → ¬ (n ≡ k) → ¬ (o ≡ k) → IsSideOfTwo tris i j n o → IsSideOfTwo rest i j (g n) (g o)
  rest_of_two i j n o not other two = record {
    in_list = r.new_in n two.in_list not;
    other_in_list = r.new_in o two.other_in_list other;
    different = λ e. two.different (sym (r.there n not) ∙ ap f e ∙ r.there o other);
    has = subst (λ t. HasSide t i j) (sym (same_new n two.in_list not)) two.has;
    other_has = subst (λ t. HasSide t j i) (sym (same_new o two.other_in_list other)) two.other_has;
    only = λ m within has.
        elim (two.only (f m) (r.old_in m within) (subst (λ t. HasSideBetween t i j) (sym (r.same m within)) has)) [
          | inl e ↦ inl (sym (r.back m) ∙ ap g e)
          | inr e ↦ inr (sym (r.back m) ∙ ap g e)
        ];
  }

  -- and a side that k shared with another one is one of that alone
  pub rest_of_shared : (i j o : ℕ) → IsSideOfTwo tris i j k o → IsSideOfOne rest j i (g o)
  rest_of_shared i j o two =
      let not : ¬ (o ≡ k) = λ e. two.different (sym e) in
      record {
        in_list = r.new_in o two.other_in_list not;
        has = subst (λ t. HasSide t j i) (sym (same_new o two.other_in_list not)) two.other_has;
        only = λ m within has.
            elim (two.only (f m) (r.old_in m within) (turned (subst (λ t. HasSideBetween t j i) (sym (r.same m within)) has))) [
              | inl e ↦ absurd (r.old_not m e)
              | inr e ↦ sym (r.back m) ∙ ap g e
            ];
      }
    where
      turned : {t : Tri} → HasSideBetween t j i → HasSideBetween t i j
      turned (inl h) = inr h
      turned (inr h) = inl h

  -- ---- the tree

  module _ (leaf : IsLeaf tris k) where
    -- the numbers of the others
    abbrev IsOther : ℕ → Type 0
    IsOther n = (n < length tris) × (¬ (n ≡ k))

    -- a path between two others does not visit k,
    avoids : (a : ℕ) (bs : List ℕ) (c : ℕ) → IsOther a → ¬ (c ≡ k) → IsPath (IsPlace tris) (Touch tris) a bs c → IsPath IsOther (Touch tris) a bs c
    avoids a [] c at_a not p = p
    avoids a (b ∷ []) c at_a not p = ((p.0, λ e. not (sym p.3 ∙ e)), p.1, p.2, p.3)
    avoids a (b ∷ d ∷ ds) c at_a not p = elim (cases_eq b k) [
      | inr other ↦ ((p.0, other), p.1, p.2, avoids b (d ∷ ds) c (p.0, other) not p.3)
      | inl same ↦
          let from_k : Touch tris k a = share_back (tri_at tris a) (tri_at tris k) (subst (Touch tris a) same p.1) in
          let to_d : Touch tris k d = subst (λ x. Touch tris x d) same p.3.1 in
          let is_a = leaf.only a at_a.0 at_a.1 from_k in
          let d_not : ¬ (d ≡ k) = λ e. p.3.2.0 (same ∙ sym e) in
          let is_d = leaf.only d p.3.0 d_not to_d in
          absurd (p.2.1.0 (is_a ∙ sym is_d))
    ]

    -- and one over others is one in the list
    among : (a : ℕ) (bs : List ℕ) (c : ℕ) → IsPath IsOther (Touch tris) a bs c → IsPath (IsPlace tris) (Touch tris) a bs c
    among a [] c p = p
    among a (b ∷ bs) c p = (p.0.0, p.1, p.2, among b bs c p.3)

    -- so the others are a tree,
    others_tree : IsTreeOn (IsPlace tris) (Touch tris) → IsTreeOn IsOther (Touch tris)
    others_tree tree a c at_a at_c =
        let one = tree a c at_a.0 at_c.0 in
        record {
          path = one.path;
          is_path = avoids a one.path c at_a at_c.1 one.is_path;
          only = λ other p. one.only other (among a other c p);
        }

    -- which keeps its sides in the rest
    renamed : Renames IsOther (Touch tris) (IsPlace rest) (Touch rest) g f
    renamed = record {
      goes = λ a h. r.new_in a h.0 h.1;
      comes = λ a h. (r.old_in a h, r.old_not a);
      there = λ a h. r.there a h.1;
      back = λ a h. r.back a;
      joins = λ a b h i s.
          subst (λ t. ShareSide t (tri_at rest (g b))) (sym (same_new a h.0 h.1))
          (subst (λ t. ShareSide (tri_at tris a) t) (sym (same_new b i.0 i.1)) s);
      joined = λ a b h i s.
          subst (λ t. ShareSide t (tri_at tris (f b))) (sym (r.same a h))
          (subst (λ t. ShareSide (tri_at rest a) t) (sym (r.same b i)) s);
    }

    pub rest_tree : IsTree tris → IsTree rest
    rest_tree tree =
        tree_of_paths rest
        (tree_renamed IsOther (Touch tris) (IsPlace rest) (Touch rest) g f renamed (others_tree (tree_of_walks tris tree)))
