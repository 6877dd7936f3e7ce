-- Parts of a walk over triangles, and the first of its triangles with a point.
-- Parts of a walk: they are walks, and points that see each other do so over each side that the walk crosses between their triangles.
use Rattle.std.proofs.Common.{◌≡◌, ◌⊎◌, inl, inr, sym, subst, ap, ◌∙◌, ℕ, zero, suc, ◌+◌, ◌<◌, ◌≤◌, List, length, get_or, take, drop, arith}
use Rattle.std.proofs.Common.{◌-◌}
use Rattle.std.proofs.lemmas.Bool.{cases_lt}
use Rattle.std.proofs.lemmas.List.{get_or-drop, get_or-take, length-drop, length-take-le}
use Rattle.plane.specs.Prelude.{IsPoint, Meet, Point, Triple, whole}
use Rattle.rings.specs.Prelude.{Sees, vertex}
use Rattle.ring_laws.proofs.Triangles.{in_or_not}
use Rattle.meshes.proofs.Sight.{sleeve_law}
use Rattle.meshes.proofs.Walks.{Touch}
use Rattle.meshes.specs.Prelude.{Fits, HasSideBetween, IsInTri, IsWalk, tri_at}
use Rattle.meshes.specs.declared.tri.Tri.{Tri}
use Rattle.meshes.specs.Laws.{CrossesSide, walk_tri}
use Rattle.funnels.specs.Corner.{IsFirstWith}

-- ---- the front and the rest

module _ (tris : List Tri) (walk : List ℕ) (w : IsWalk tris walk) where
  -- the front of a walk is a walk,
  pub walk_front : (n : ℕ) → 0 < n → n ≤ length walk → IsWalk tris (take n walk)
  walk_front n some within =
      let long = length-take-le n walk within in
      let at = λ (i : ℕ) (h : i < n). get_or-take n walk i 0 h in
      record {
        some = omega (arith, long);
        in_list = λ i h. omega (arith, at i (omega (arith, long)), w.in_list i (omega (arith, long)));
        once = λ i j h k same. w.once i j h (omega (arith, long)) (sym (at i (omega (arith, long))) ∙ same ∙ at j (omega (arith, long)));
        sharing = λ i h.
            let first = at i (omega (arith, long)) in
            let next = at (i + 1) (omega (arith, long)) in
            subst (λ a. Touch tris a (get_or (take n walk) (i + 1) 0)) (sym first)
            (subst (λ b. Touch tris (get_or walk i 0) b) (sym next) (w.sharing i (omega (arith, long))));
      }

  -- and so is the rest
  pub walk_rest : (n : ℕ) → n < length walk → IsWalk tris (drop n walk)
  walk_rest n within =
      let long = length-drop n walk in
      let at = λ (i : ℕ). get_or-drop n walk i 0 in
      record {
        some = omega (arith, long);
        in_list = λ i h. omega (arith, at i, w.in_list (n + i) (omega (arith, long)));
        once = λ i j h k same. w.once (n + i) (n + j) (omega arith) (omega (arith, long)) (sym (at i) ∙ same ∙ at j);
        sharing = λ i h.
            let place : n + (i + 1) ≡ n + i + 1 = omega arith in
            subst (λ a. Touch tris a (get_or (drop n walk) (i + 1) 0)) (sym (at i))
            (subst (λ b. Touch tris (get_or walk (n + i) 0) b) (sym (at (i + 1)))
            (subst (λ m. Touch tris (get_or walk (n + i) 0) (get_or walk m 0)) (sym place) (w.sharing (n + i) (omega (arith, long)))));
      }

-- a side that the one walk crosses, the other does at a place with the same two triangles
pub crossed_moved : (tris : List Tri) (walk other : List ℕ) (m n i j : ℕ) → n + 1 < length other → get_or other n 0 ≡ get_or walk m 0
    → get_or other (n + 1) 0 ≡ get_or walk (m + 1) 0 → CrossesSide tris walk m i j → CrossesSide tris other n i j
crossed_moved tris walk other m n i j within first next c = record {
  has_next = within;
  of_this = subst (λ k. HasSideBetween (tri_at tris k) i j) (sym first) c.of_this;
  of_next = subst (λ k. HasSideBetween (tri_at tris k) i j) (sym next) c.of_next;
}

module _ (corners : List Point) (tris : List Tri) (walk : List ℕ) (n : ℕ) where
  -- the rest has the triangles from there on,
  pub rest_in : (x : Triple) (l : ℕ) → IsInTri corners (walk_tri tris walk (n + l)) x → IsInTri corners (walk_tri tris (drop n walk) l) x
  rest_in x l = subst (λ k. IsInTri corners (tri_at tris k) x) (sym (get_or-drop n walk l 0))

  -- and crosses the sides from there on
  pub rest_crossed : (m i j : ℕ) → CrossesSide tris walk (n + m) i j → CrossesSide tris (drop n walk) m i j
  rest_crossed m i j c =
      let place : n + (m + 1) ≡ n + m + 1 = omega arith in
      crossed_moved tris walk (drop n walk) (n + m) m i j (omega (arith, c.has_next, length-drop n walk)) (get_or-drop n walk m 0)
      (get_or-drop n walk (m + 1) 0 ∙ ap (λ l. get_or walk l 0) place) c

-- ---- walks that begin alike

module _ (corners : List Point) (tris : List Tri) (walk other : List ℕ) (shorter : length walk ≤ length other)
    (alike : (l : ℕ) → l < length walk → get_or other l 0 ≡ get_or walk l 0) where
  -- a triangle of the one is one of the other
  pub alike_in : (x : Triple) (l : ℕ) → l < length walk → IsInTri corners (walk_tri tris walk l) x → IsInTri corners (walk_tri tris other l) x
  alike_in x l h = subst (λ k. IsInTri corners (tri_at tris k) x) (sym (alike l h))

  -- and the other way round,
  pub alike_back : (x : Triple) (l : ℕ) → l < length walk → IsInTri corners (walk_tri tris other l) x → IsInTri corners (walk_tri tris walk l) x
  alike_back x l h = subst (λ k. IsInTri corners (tri_at tris k) x) (alike l h)

  -- so the first one with a point is so in the other,
  pub alike_first : (x : Triple) (m : ℕ) → IsFirstWith corners tris walk x m → IsFirstWith corners tris other x m
  alike_first x m f = record {
    within = omega (arith, f.within);
    has = alike_in x m f.within f.has;
    least = λ l h inside. f.least l h (alike_back x l (omega (arith, f.within)) inside);
  }

  -- and a side that the one crosses, the other one does
  pub alike_crossed : (m i j : ℕ) → CrossesSide tris walk m i j → CrossesSide tris other m i j
  alike_crossed m i j c =
      crossed_moved tris walk other m m i j (omega (arith, c.has_next)) (alike m (omega (arith, c.has_next))) (alike (m + 1) c.has_next) c

-- ---- the first triangle with a point

module _ (corners : List Point) (tris : List Tri) (walk : List ℕ) (x : Triple) where
  -- there is one among the first n triangles, or none of these has the point
  seek : (n : ℕ) → n ≤ length walk → ((m : ℕ) × IsFirstWith corners tris walk x m) ⊎ ((l : ℕ) → l < n → ¬ IsInTri corners (walk_tri tris walk l) x)
  seek zero h = inr (λ l k. absurd (omega arith))
  seek (suc n) h = elim (seek n (omega arith)) [
    | inl found ↦ inl found
    | inr none ↦
        let t = walk_tri tris walk n in
        elim (in_or_not (vertex corners t.a) (vertex corners t.b) (vertex corners t.c) x) [
          | inl inside ↦ inl (n, record { within = omega arith; has = inside; least = none })
          | inr outside ↦ inr (λ l k inside. elim (cases_lt l n) [
            | inl less ↦ none l less inside
            | inr more ↦
                let same : l ≡ n = omega arith in outside (subst (λ i. IsInTri corners (walk_tri tris walk i) x) same inside)
          ])
        ]
  ]

  -- where some triangle has the point, there is a first one
  pub first_with : (l : ℕ) → l < length walk → IsInTri corners (walk_tri tris walk l) x → (m : ℕ) × IsFirstWith corners tris walk x m
  first_with l h inside = elim (seek (length walk) (omega arith)) [ inl found ↦ found | inr none ↦ absurd (none l h inside) ]

  -- which is at one place
  pub one_first : (m n : ℕ) → IsFirstWith corners tris walk x m → IsFirstWith corners tris walk x n → m ≡ n
  one_first m n f g = elim (cases_lt m n) [
    | inl less ↦ absurd (g.least m less f.has)
    | inr more ↦ elim (cases_lt n m) [ inl less ↦ absurd (f.least n less g.has) | inr other ↦ omega arith ]
  ]

-- the part of a list from place k to place l
abbrev pub part_of : List ℕ → ℕ → ℕ → List ℕ
part_of walk k l = take (l - k + 1) (drop k walk)

module _ (walk : List ℕ) (k l : ℕ) (order : k ≤ l) (within : l < length walk) where
  -- how long it is,
  pub part_length : length (part_of walk k l) ≡ l - k + 1
  part_length = length-take-le (l - k + 1) (drop k walk) (omega (arith, length-drop k walk))

  -- and what is at its places
  pub part_at : (i j : ℕ) → i + k ≡ j → j ≤ l → get_or (part_of walk k l) i 0 ≡ get_or walk j 0
  part_at i j e h =
      get_or-take (l - k + 1) (drop k walk) i 0 (omega arith) ∙ get_or-drop k walk i 0 ∙ ap (λ n. get_or walk n 0) (omega arith)

  module _ (tris : List Tri) (w : IsWalk tris walk) where
    -- part of a walk is a walk
    pub part_is_walk : IsWalk tris (part_of walk k l)
    part_is_walk =
        walk_front tris (drop k walk) (walk_rest tris walk w k (omega arith)) (l - k + 1) (omega arith) (omega (arith, length-drop k walk))

    -- a side that the walk crosses on that part is one that the part crosses
    part_crosses : (m i j : ℕ) → k ≤ m → m < l → CrossesSide tris walk m i j → CrossesSide tris (part_of walk k l) (m - k) i j
    part_crosses m i j h less =
        crossed_moved tris walk (part_of walk k l) m (m - k) i j (omega (arith, part_length))
        (part_at (m - k) m (omega arith) (omega arith))
        (part_at (m - k + 1) (m + 1) (omega arith) (omega arith))

    module _ (corners : List Point) (fits : Fits corners tris) where
      -- so a segment in the ring between their triangles meets it
      pub meets_on_part : (m i j : ℕ) → k ≤ m → m < l → CrossesSide tris walk m i j → (p q : Triple) → IsPoint p → IsPoint q
          → IsInTri corners (walk_tri tris walk k) p → IsInTri corners (walk_tri tris walk l) q → Sees corners p q
          → Meet p q (whole (vertex corners i)) (whole (vertex corners j))
      meets_on_part m i j h less c p q at_p at_q in_p in_q sees =
          let first : IsInTri corners (walk_tri tris (part_of walk k l) 0) p =
          subst (λ n. IsInTri corners (tri_at tris n) p) (sym (part_at 0 k (omega arith) order)) in_p in
          let last : IsInTri corners (walk_tri tris (part_of walk k l) (length (part_of walk k l) - 1)) q =
          subst (λ n. IsInTri corners (tri_at tris n) q)
          (sym (part_at (length (part_of walk k l) - 1) l (omega (arith, part_length)) (omega arith))) in_q in
          (sleeve_law corners tris fits (part_of walk k l) part_is_walk p q at_p at_q first last).0 sees (m - k) i j (part_crosses m i j h less c)
