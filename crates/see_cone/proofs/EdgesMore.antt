-- One more edge of a triangle that was reached, and the edges in their order.
use Rattle.std.proofs.Common.{◌≡◌, inl, inr, refl, sym, ap, subst, ◌∙◌, ℕ, ◌+◌, ◌%◌, ◌<◌, ◌≤◌, List, [], ◌∷◌, ◌++◌, length, length-append, arith, Bool, false, None}
use Rattle.std.proofs.lemmas.Bool.{cases_eq}
use Rattle.std.proofs.lemmas.Bool.Decides.{nat_tests}
use Rattle.std.proofs.lemmas.Cmp.{nat_cmp_total, on_total, then_total}
use Rattle.std.proofs.lemmas.List.{get_or_append_left, get_or_default, get_or_push}
use Rattle.std.proofs.lemmas.List.Elements.{Contains-append_left, Contains-push, Contains-get_or}
use Rattle.std.proofs.lemmas.List.MinMax.{ranks_by}
use Rattle.std.proofs.lemmas.List.Sorted.{Contains-permutation, IsPermutation-sym, sorted_far}
use Rattle.std.proofs.lemmas.Map.Keys.{IsDistinct-IsPermutation, IsDistinct-from_apart, apart_from_distinct}
use Rattle.std.specs.Cmp.{IsTotalOrder}
use Rattle.std.specs.List.{Contains, IsDistinct}
use Rattle.std.specs.Ordering.{is_lt, nat_cmp, ordering_then}
use Rattle.std.specs.Prelude.{IsPermutation, IsSorted, nat_eq}
use Rattle.std.specs.declared.cmp.Ordering.{Ordering}
use Rattle.plane.specs.Point.{Point}
use Rattle.meshes.proofs.Sides.{edge_of_one}
use Rattle.meshes.specs.Fits.{Fits, IsSideOfOne}
use Rattle.meshes.specs.Mesh.{side_begin, side_end}
use Rattle.meshes.specs.Side.{tri_at}
use Rattle.meshes.specs.declared.tri.Tri.{Tri}
use Rattle.tri_mesh.proofs.Neighbours.{has_side_numbered}
use Rattle.see_cone.proofs.SidesBeyond.{begins_differ}
use Rattle.see_cone.specs.Reached.{AreDifferent, AreBoundaryEdges, AreSorted, IsEarly, IsPlaced, IsSideListed, cone_there, placed_at, tri_there}
use Rattle.see_cone.specs.declared.edges.Placed.{Placed}
use Rattle.see_cone.specs.declared.reached.Reached.{Reached}

-- no edge
abbrev none : Placed
none = record { edge = 0; place = 0 }

module _ (tris : List Tri) (reached : List Reached) where
  -- of no triangles
  pub no_edges : AreBoundaryEdges tris reached 0 0 []
  no_edges = record {
    placed = λ j h. absurd (omega arith);
    early = λ j h. absurd (omega arith);
    once = λ j l less h. absurd (omega arith);
    all = λ p h. absurd (omega arith);
    next = λ side h. absurd (omega arith);
  }

  -- what is early is so before a later place or side
  early_side : (bound sides : ℕ) (x : Placed) → IsEarly tris reached bound sides x → IsEarly tris reached bound (sides + 1) x
  early_side bound sides x (inl h) = inl h
  early_side bound sides x (inr h) = inr (h.0, h.1, omega (arith, h.2), h.3)

  early_next : (bound sides : ℕ) (x : Placed) → IsEarly tris reached bound sides x → IsEarly tris reached (bound + 1) 0 x
  early_next bound sides x (inl h) = inl (omega arith)
  early_next bound sides x (inr h) = inl (omega (arith, h.0))

  module _ (p : ℕ) (edges : List Placed) where
    -- all sides of the triangle at one more place,
    pub edges_next : AreBoundaryEdges tris reached p 3 edges → AreBoundaryEdges tris reached (p + 1) 0 edges
    edges_next are = record {
      placed = are.placed;
      early = λ j h. early_next p 3 (placed_at edges j) (are.early j h);
      once = are.once;
      all = λ m h cone side number. elim (cases_eq m p) [
        | inl last ↦ subst (λ n. IsSideListed tris reached edges n side) (sym last) (are.next side number)
        | inr other ↦ are.all m (omega arith) cone side number
      ];
      next = λ side h. absurd (omega arith);
    }

    -- or none, where it has no cone
    pub edges_skip : cone_there reached p ≡ None → AreBoundaryEdges tris reached p 0 edges → AreBoundaryEdges tris reached (p + 1) 0 edges
    edges_skip is_none are = record {
      placed = are.placed;
      early = λ j h. early_next p 0 (placed_at edges j) (are.early j h);
      once = are.once;
      all = λ m h cone side number. elim (cases_eq m p) [
        | inl last ↦ absurd (cone (ap (cone_there reached) last ∙ is_none))
        | inr other ↦ are.all m (omega arith) cone side number
      ];
      next = λ side h. absurd (omega arith);
    }

    module _ (side : ℕ) (are : AreBoundaryEdges tris reached p side edges) where
      -- a side that another triangle has too is no edge
      pub edges_same : ¬ IsSideOfOne tris (side_begin (tri_at tris (tri_there reached p)) side) (side_end (tri_at tris (tri_there reached p)) side)
          (tri_there reached p) → AreBoundaryEdges tris reached p (side + 1) edges
      edges_same not_one = record {
        placed = are.placed;
        early = λ j h. early_side p side (placed_at edges j) (are.early j h);
        once = are.once;
        all = are.all;
        next = λ t h. elim (cases_eq t side) [
          | inl last ↦ λ one. absurd (not_one
              (subst (λ s. IsSideOfOne tris (side_begin (tri_at tris (tri_there reached p)) s) (side_end (tri_at tris (tri_there reached p)) s)
              (tri_there reached p)) last one))
          | inr other ↦ are.next t (omega arith)
        ];
      }

      -- another side is one more edge
      module _ (corners : List Point) (fits : Fits corners tris) (different : AreDifferent tris reached) (below : p < length reached)
          (number : side < 3)
          (one : IsSideOfOne tris (side_begin (tri_at tris (tri_there reached p)) side) (side_end (tri_at tris (tri_there reached p)) side)
          (tri_there reached p)) where
        abbrev here : Placed
        here = record { edge = side_begin (tri_at tris (tri_there reached p)) side; place = p }

        abbrev more : List Placed
        more = edges ++ here ∷ []

        long : length more ≡ length edges + 1
        long = length-append edges (here ∷ [])

        at_earlier : (j : ℕ) → j < length edges → placed_at more j ≡ placed_at edges j
        at_earlier j h = get_or_append_left edges (here ∷ []) none j h

        at_last : (j : ℕ) → j ≡ length edges → placed_at more j ≡ here
        at_last j is = get_or_push edges here none j (sym is)

        -- what holds of the edges holds of all with one more
        each_more : (P : Placed → Type 0) → ((j : ℕ) → j < length edges → P (placed_at edges j)) → P here
            → (j : ℕ) → j < length more → P (placed_at more j)
        each_more P before is j h = elim (cases_eq j (length edges)) [
          | inl last ↦ subst P (sym (at_last j last)) is
          | inr other ↦
              let earlier : j < length edges = omega (arith, long) in
              subst P (sym (at_earlier j earlier)) (before j earlier)
        ]

        -- it is new
        is_new : (j : ℕ) → j < length edges → ¬ ((placed_at edges j).edge ≡ here.edge)
        is_new j h same =
            let x = placed_at edges j in
            let is = are.placed j h in
            let k = tri_there reached p in
            let n = length corners in
            let x_end : is.end ≡ (x.edge + 1) % n = (edge_of_one corners tris fits x.edge is.end (tri_there reached x.place) is.alone).1 in
            let end : side_end (tri_at tris k) side ≡ (here.edge + 1) % n = (edge_of_one corners tris fits here.edge _ k one).1 in
            let ends : is.end ≡ side_end (tri_at tris k) side = x_end ∙ ap (λ i. (i + 1) % n) same ∙ sym end in
            let alone : IsSideOfOne tris here.edge (side_end (tri_at tris k) side) (tri_there reached x.place) =
            subst (λ e. IsSideOfOne tris here.edge e (tri_there reached x.place)) ends
            (subst (λ i. IsSideOfOne tris i is.end (tri_there reached x.place)) same is.alone) in
            let tri : k ≡ tri_there reached x.place = alone.only k (different.in_list p below) (inl (has_side_numbered (tri_at tris k) side number)) in
            let place : p ≡ x.place = different.once p x.place below is.below tri in
            elim (are.early j h) [
              | inl early ↦ omega arith
              | inr other ↦
                  begins_differ corners tris fits k (different.in_list p below) other.1 side other.2 number (sym other.3 ∙ same)
            ]

        pub edges_more : AreBoundaryEdges tris reached p (side + 1) more
        edges_more = record {
          placed = each_more (IsPlaced tris reached) are.placed (record { below = below; end = _; alone = one });
          early = each_more (IsEarly tris reached p (side + 1)) (λ j h. early_side p side (placed_at edges j) (are.early j h))
              (inr (refl, side, omega arith, refl));
          once = λ j l less h.
              let j_in : j < length edges = omega (arith, long) in
              λ same. elim (cases_eq l (length edges)) [
                | inl last ↦ is_new j j_in (ap (λ (x : Placed). x.edge) (sym (at_earlier j j_in)) ∙ same ∙ ap (λ (x : Placed). x.edge) (at_last l last))
                | inr other ↦
                    let l_in : l < length edges = omega (arith, long) in
                    are.once j l less l_in
                    (ap (λ (x : Placed). x.edge) (sym (at_earlier j j_in)) ∙ same ∙ ap (λ (x : Placed). x.edge) (at_earlier l l_in))
              ];
          all = λ m h cone t n is. Contains-append_left edges (here ∷ []) _ (are.all m h cone t n is);
          next = λ t h. elim (cases_eq t side) [
            | inl last ↦ λ _. subst (λ s. Contains more (record { edge = side_begin (tri_at tris (tri_there reached p)) s; place = p })) (sym last)
                (Contains-push edges here)
            | inr other ↦ λ is. Contains-append_left edges (here ∷ []) _ (are.next t (omega arith) is)
          ];
        }

-- ---- the edges in their order

-- the order by the edge, and then by the place
abbrev pub placed_cmp : Placed → Placed → Ordering
placed_cmp x y = ordering_then (nat_cmp x.edge y.edge) (nat_cmp x.place y.place)

placed_cmp_total : IsTotalOrder placed_cmp
placed_cmp_total = then_total (on_total (λ (x : Placed). x.edge) nat_cmp_total) (on_total (λ (x : Placed). x.place) nat_cmp_total)

-- what does not come before has no lower number
not_before : (a b : ℕ) (rest : Ordering) → is_lt (ordering_then (nat_cmp a b) rest) ≡ false → b ≤ a
not_before a b rest not = grind (arith, nat_tests)

-- whether two have one edge
abbrev is_one : Placed → Placed → Bool
is_one x y = nat_eq x.edge y.edge

one_back : (x y : Placed) → is_one x y ≡ is_one y x
one_back x y = numbers x.edge y.edge
  where
    numbers : (a b : ℕ) → nat_eq a b ≡ nat_eq b a
    numbers a b = grind (arith, nat_tests)

differ : (a b : ℕ) → nat_eq a b ≡ false → ¬ (a ≡ b)
differ a b is_not same = grind (arith, nat_tests)

not_one : (a b : ℕ) → ¬ (a ≡ b) → nat_eq a b ≡ false
not_one a b other = grind (arith, nat_tests)

module _ (tris : List Tri) (reached : List Reached) (edges sorted : List Placed) (are : AreBoundaryEdges tris reached (length reached) 0 edges)
    (moved : IsPermutation edges sorted) (up : IsSorted placed_cmp sorted) where
  -- none is there twice, in the one order
  all_apart : IsDistinct is_one edges
  all_apart = IsDistinct-from_apart is_one edges (λ i j d less within.
      not_one _ _ (λ same. are.once i j less within
      (ap (λ (x : Placed). x.edge) (get_or_default edges i none d (omega (arith, less, within))) ∙ same
      ∙ ap (λ (x : Placed). x.edge) (get_or_default edges j d none within))))

  -- and in the other
  moved_apart : (j l : ℕ) → j < l → l < length sorted → ¬ ((placed_at sorted j).edge ≡ (placed_at sorted l).edge)
  moved_apart j l less within =
      differ _ _ (apart_from_distinct is_one sorted j l none (IsDistinct-IsPermutation is_one one_back edges sorted moved all_apart) less within)

  -- what holds of each in the one order does in the other
  each_moved : (P : Placed → Type 0) → ((j : ℕ) → j < length edges → P (placed_at edges j)) → (j : ℕ) → j < length sorted → P (placed_at sorted j)
  each_moved P each j h =
      let x = placed_at sorted j in
      let (i, within, is) = Contains-permutation sorted edges x (IsPermutation-sym edges sorted moved) (Contains-get_or sorted j none h) in
      subst P (get_or_default edges i none x within ∙ is) (each i within)

  pub edges_sorted : AreSorted tris reached sorted
  edges_sorted = record {
    are = record {
      placed = each_moved (IsPlaced tris reached) are.placed;
      early = each_moved (IsEarly tris reached (length reached) 0) are.early;
      once = moved_apart;
      all = λ p h cone side number one. Contains-permutation edges sorted _ moved (are.all p h cone side number one);
      next = λ side h. absurd (omega arith);
    };
    rising = λ j l less h.
        let other = moved_apart j l less h in
        let not_less : (placed_at sorted j).edge ≤ (placed_at sorted l).edge =
        not_before _ _ _ (sorted_far (λ x y. is_lt (placed_cmp x y)) (ranks_by placed_cmp_total (λ (x : Placed). x)) sorted up j l none
        (omega arith) h) in
        omega arith;
  }
