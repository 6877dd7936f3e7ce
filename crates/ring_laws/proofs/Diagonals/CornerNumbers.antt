-- The vertices in the triangle at a corner of a ring, by their numbers and as points.
use Rattle.std.proofs.Common.{◌≡◌, ◌⊎◌, inl, inr, sym, subst, ◌∙◌, ℕ, ◌<◌, ◌≤ℤ◌, List, [], ◌∷◌, ◌++◌, length, take, drop}
use Rattle.std.proofs.lemmas.List.{take-append-drop}
use Rattle.plane.specs.Point.{Point}
use Rattle.rings.proofs.Vertices.{HasPoint, distinct_between, Farthest, has_cases, has_left, has_number, has_swapped, number_of, vertex_in_range}
use Rattle.rings.specs.Apart.{IsApartRing}
use Rattle.rings.specs.Ring.{origin, vertex}
use Rattle.ring_laws.proofs.Ears.{distinct_corner}
use Rattle.ring_laws.proofs.Simple.{InTriangle, height}
use Rattle.ring_laws.specs.CutRule.{IsFarthestInCorner, IsInCorner}

-- p and q are u and w, in some order
abbrev pub AreBoth : {A : Type 0} → A → A → A → A → Type 0
AreBoth u w p q = ((p ≡ u) × (q ≡ w)) ⊎ ((p ≡ w) × (q ≡ u))

-- so what is neither u nor w is neither p nor q,
neither_of : {u w p q y : Point} → AreBoth u w p q → ¬ (y ≡ u) → ¬ (y ≡ w) → (¬ (y ≡ p)) × (¬ (y ≡ q))
neither_of (inl (is_u, is_w)) not_u not_w = (λ e. not_u (e ∙ is_u), λ e. not_w (e ∙ is_w))
neither_of (inr (is_w, is_u)) not_u not_w = (λ e. not_w (e ∙ is_w), λ e. not_u (e ∙ is_u))

-- and back
pub neither_back : {u w p q y : Point} → AreBoth u w p q → ¬ (y ≡ p) → ¬ (y ≡ q) → (¬ (y ≡ u)) × (¬ (y ≡ w))
neither_back (inl (is_u, is_w)) not_p not_q = (λ e. not_p (e ∙ sym is_u), λ e. not_q (e ∙ sym is_w))
neither_back (inr (is_w, is_u)) not_p not_q = (λ e. not_q (e ∙ sym is_u), λ e. not_p (e ∙ sym is_w))

-- a ring whose parts in the other order are v, w, ms and u; v is vertex i
module _ (ring : List Point) (i : ℕ) (v w : Point) (ms : List Point) (u : Point) (are : drop i ring ++ take i ring ≡ v ∷ w ∷ (ms ++ u ∷ []))
    (is_v : vertex ring i ≡ v) (apart : IsApartRing (v ∷ w ∷ (ms ++ u ∷ []))) where
  -- a point of ms is a vertex of the ring, and neither u nor v nor w
  record Number (y : Point) : Type 0 where
    pub number : ℕ
    pub in_ring : number < length ring
    pub is : vertex ring number ≡ y
    pub not_u : ¬ (y ≡ u)
    pub not_v : ¬ (y ≡ v)
    pub not_w : ¬ (y ≡ w)

  -- each has its number,
  point_number : (y : Point) → HasPoint ms y → Number y
  point_number y has =
      let differ = distinct_corner v w ms u apart in
      let in_rest = has_left y ms (u ∷ []) has in
      let in_ring : HasPoint ring y =
      subst (λ rs. HasPoint rs y) (take-append-drop i ring)
      (has_swapped y (drop i ring) (take i ring) (subst (λ rs. HasPoint rs y) (sym are) (inr (inr in_rest)))) in
      let (j, within, is) = number_of ring y in_ring in
      record {
        number = j;
        in_ring = within;
        is = vertex_in_range ring j origin within ∙ is origin;
        not_u = λ e. distinct_between ms (u ∷ []) differ.1.1 y has (inl (sym e));
        not_v = λ e. differ.0 (inr (subst (HasPoint (ms ++ u ∷ [])) e in_rest));
        not_w = λ e. differ.1.0 (subst (HasPoint (ms ++ u ∷ [])) e in_rest);
      }

  -- and each other vertex is one of them
  pub has_other : (k : ℕ) → k < length ring → ¬ (vertex ring k ≡ u) → ¬ (vertex ring k ≡ v) → ¬ (vertex ring k ≡ w) → HasPoint ms (vertex ring k)
  has_other k within not_u not_v not_w =
      let y = vertex ring k in
      let in_ring : HasPoint ring y = subst (HasPoint ring) (sym (vertex_in_range ring k origin within)) (has_number ring k origin within) in
      go (subst (λ rs. HasPoint rs y) are
      (has_swapped y (take i ring) (drop i ring) (subst (λ rs. HasPoint rs y) (sym (take-append-drop i ring)) in_ring)))
    where
      go : HasPoint (v ∷ w ∷ (ms ++ u ∷ [])) (vertex ring k) → HasPoint ms (vertex ring k)
      go (inl e) = absurd (not_v (sym e))
      go (inr (inl e)) = absurd (not_w (sym e))
      go (inr (inr h)) = elim (has_cases (vertex ring k) ms (u ∷ []) h) [
        | inl has ↦ has
        | inr l ↦ elim l [ inl e ↦ absurd (not_u (sym e)) | inr none ↦ absurd none ]
      ]

  module _ (p q : Point) (both : AreBoth u w p q) where
    -- a point of ms in the triangle has a number in the corner
    pub in_corner : (y : Point) → HasPoint ms y → InTriangle p v q y → (j : ℕ) × IsInCorner ring i p q j × (vertex ring j ≡ y)
    in_corner y has inside =
        let n = point_number y has in
        let neither = neither_of both n.not_u n.not_w in (
          n.number,
          record {
            in_ring = n.in_ring;
            in_triangle = rw (n.is, is_v) inside;
            not_first = λ e. neither.0 (sym n.is ∙ e);
            not_middle = λ e. n.not_v (sym n.is ∙ e ∙ is_v);
            not_last = λ e. neither.1 (sym n.is ∙ e);
          },
          n.is,
        )

    -- so no point of ms is in it, where no number is,
    pub none_of : ((j : ℕ) → ¬ IsInCorner ring i p q j) → (y : Point) → HasPoint ms y → ¬ InTriangle p v q y
    none_of none y has inside = let (j, corner, is) = in_corner y has inside in none j corner

    -- and the farthest number is the farthest of them
    abbrev pub far_of : (k : ℕ) → IsFarthestInCorner ring i p q k → Farthest (InTriangle p v q) (height p q) ms
    far_of k far =
        let neither = neither_back both far.in_corner.not_first far.in_corner.not_last in
        record {
          point = vertex ring k;
          has_point = has_other k far.in_corner.in_ring neither.0 (λ e. far.in_corner.not_middle (e ∙ sym is_v)) neither.1;
          chosen = subst (λ (c : Point). InTriangle p c q (vertex ring k)) is_v far.in_corner.in_triangle;
          farthest = λ y has inside.
              let (j, corner, is) = in_corner y has inside in
              subst (λ (c : Point). height p q c ≤ℤ height p q (vertex ring k)) is (far.farthest j corner);
        }
