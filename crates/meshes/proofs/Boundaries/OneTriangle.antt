-- A tiled piece with a triangle all of whose sides are edges of the piece: it has three vertices, and no other triangle.
use Rattle.std.proofs.Common.{◌≡◌, ◌≢◌, ◌⊎◌, inl, inr, refl, sym, ap, ◌∙◌, ℕ, ◌<◌, List, [], ◌∷◌, length, get_or, arith}
use Rattle.std.specs.List.{Contains}
use Rattle.plane.specs.Point.{Point}
use Rattle.meshes.proofs.Boundaries.Counts.{one_count}
use Rattle.meshes.proofs.Boundaries.PartTilings.{IsEdgeBetween, IsPartTiling, IsSideOfOneIn}
use Rattle.meshes.proofs.Boundaries.TwoParts.{IsTreeFor}
use Rattle.meshes.proofs.Joins.{contains_cases, edge_places, next_place, place_of}
use Rattle.meshes.proofs.Sides.{corners_differ}
use Rattle.meshes.proofs.Walks.{IsPath, Touch}
use Rattle.meshes.specs.Prelude.{HasSideBetween, tri_at}
use Rattle.meshes.specs.declared.tri.Tri.{Tri}

-- ---- the third corner

-- a triangle with a side between v and w has two others, from there to a third corner
pub third_corner : (t : Tri) (v w : ℕ) → HasSideBetween t v w → (c : ℕ) × HasSideBetween t w c × HasSideBetween t c v
third_corner t v w (inl (inl h)) = (t.c, inl (inr (inl (h.1, refl))), inl (inr (inr (refl, h.0))))
third_corner t v w (inl (inr (inl h))) = (t.a, inl (inr (inr (h.1, refl))), inl (inl (refl, h.0)))
third_corner t v w (inl (inr (inr h))) = (t.b, inl (inl (h.1, refl)), inl (inr (inl (refl, h.0))))
third_corner t v w (inr (inl h)) = (t.c, inr (inr (inr (refl, h.0))), inr (inr (inl (h.1, refl))))
third_corner t v w (inr (inr (inl h))) = (t.a, inr (inl (refl, h.0)), inr (inr (inr (h.1, refl))))
third_corner t v w (inr (inr (inr h))) = (t.b, inr (inr (inl (refl, h.0))), inr (inl (h.1, refl)))

-- of three numbers two are corners of each triangle on them with three corners, beside each other
side_of_three : (t : Tri) (v w u : ℕ) → (t.a ≡ v) ⊎ (t.a ≡ w) ⊎ (t.a ≡ u) → (t.b ≡ v) ⊎ (t.b ≡ w) ⊎ (t.b ≡ u) → (t.c ≡ v) ⊎ (t.c ≡ w) ⊎ (t.c ≡ u)
    → t.a ≢ t.b → t.b ≢ t.c → t.c ≢ t.a → HasSideBetween t v w
side_of_three t v w u a b c ab bc ca = grind arith

-- ---- three vertices

module _ (corners : List Point) (v w : ℕ) (rest : List ℕ) (tris : List Tri) (P : ℕ → Type 0) (tiling : IsPartTiling corners (v ∷ w ∷ rest) tris P)
    (c : ℕ) (has : Contains (v ∷ w ∷ rest) c) (differs : ¬ (c ≡ v)) where
  -- where the second vertex has edges to the first and to c, c is the third,
  third_place : IsEdgeBetween (v ∷ w ∷ rest) w c → (p : ℕ) → p < length (v ∷ w ∷ rest) → get_or (v ∷ w ∷ rest) p 0 ≡ c → p ≡ 2
  third_place (inl e) p in_p is =
      let at = edge_places corners (v ∷ w ∷ rest) tiling.cover.simple 1 p w c (omega (arith, tiling.some)) in_p refl is e in
      elim (next_place e.place (length (v ∷ w ∷ rest)) e.in_piece) [
        | inl next ↦ omega (arith, next.1, at.0, at.1)
        | inr next ↦ absurd (omega (arith, next.0, at.0, tiling.some))
      ]
  third_place (inr e) p in_p is =
      let at = edge_places corners (v ∷ w ∷ rest) tiling.cover.simple p 1 c w in_p (omega (arith, tiling.some)) is refl e in
      elim (next_place e.place (length (v ∷ w ∷ rest)) e.in_piece) [
        | inl next ↦
            let first : p ≡ 0 = omega (arith, next.1, at.0, at.1) in
            absurd (differs (sym is ∙ ap (λ n. get_or (v ∷ w ∷ rest) n 0) first))
        | inr next ↦ absurd (omega (arith, next.1, at.1))
      ]

  -- and where c has one to the first too, there are three
  pub three_vertices : IsEdgeBetween (v ∷ w ∷ rest) w c → IsEdgeBetween (v ∷ w ∷ rest) c v → length rest ≡ 1
  three_vertices second (inl e) =
      let (p, in_p, is) = place_of (v ∷ w ∷ rest) c has in
      let third = third_place second p in_p is in
      let at = edge_places corners (v ∷ w ∷ rest) tiling.cover.simple p 0 c v in_p (omega arith) is refl e in
      elim (next_place e.place (length (v ∷ w ∷ rest)) e.in_piece) [
        | inl next ↦ absurd (omega (arith, next.1, at.1))
        | inr next ↦ omega (arith, next.0, at.0, third)
      ]
  three_vertices second (inr e) =
      let (p, in_p, is) = place_of (v ∷ w ∷ rest) c has in
      let third = third_place second p in_p is in
      let at = edge_places corners (v ∷ w ∷ rest) tiling.cover.simple 0 p v c (omega arith) in_p refl is e in
      elim (next_place e.place (length (v ∷ w ∷ rest)) e.in_piece) [
        | inl next ↦ absurd (omega (arith, next.1, at.0, at.1, third))
        | inr next ↦ absurd (omega (arith, next.0, at.0))
      ]

-- ---- one triangle

module _ (corners : List Point) (v w u : ℕ) (tris : List Tri) (P : ℕ → Type 0) (tiling : IsPartTiling corners (v ∷ w ∷ u ∷ []) tris P)
    (k : ℕ) (one : IsSideOfOneIn tris P v w k) where
  -- a vertex is one of the three
  among : (i : ℕ) → Contains (v ∷ w ∷ u ∷ []) i → (i ≡ v) ⊎ (i ≡ w) ⊎ (i ≡ u)
  among i h = elim (contains_cases v (w ∷ u ∷ []) i h) [
    | inl e ↦ inl (sym e)
    | inr h ↦ elim (contains_cases w (u ∷ []) i h) [
      | inl e ↦ inr (inl (sym e))
      | inr h ↦ elim (contains_cases u [] i h) [ inl e ↦ inr (inr (sym e)) | inr h ↦ absurd (omega (arith, h.1)) ]
    ]
  ]

  -- so each triangle has a side between the first two, as one alone does
  only_one : (l : ℕ) → P l → l ≡ k
  only_one l within =
      let t = tri_at tris l in
      let is = tiling.cover.triangles l within in
      let differ = corners_differ corners t is.counterclockwise in
      one.only l within (side_of_three t v w u (among t.a is.has_a) (among t.b is.has_b) (among t.c is.has_c) differ.0 differ.1 differ.2)

  -- a path goes nowhere
  no_step : (a : ℕ) (bs : List ℕ) (c : ℕ) → P a → IsPath P (Touch tris) a bs c → bs ≡ []
  no_step a [] c within p = refl
  no_step a (b ∷ bs) c within p = absurd (p.2.0 (only_one a within ∙ sym (only_one b p.0)))

  -- so it is a tree of one
  pub one_is_tree : IsTreeFor tris P 3
  one_is_tree = record {
    count = 1;
    counted = one_count P (length tris) k (tiling.in_list k one.in_part) one.in_part only_one;
    two_fewer = refl;
    tree = λ a c in_a in_c. record {
      path = [];
      is_path = only_one a in_a ∙ sym (only_one c in_c);
      only = λ other p. no_step a other c in_a p;
    };
  }
