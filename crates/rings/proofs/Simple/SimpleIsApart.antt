-- A simple ring is one with different vertices whose edges share no more than their ends.
use Rattle.std.proofs.Common.{List, length, ◌≡◌, ◌⊎◌, inl, inr, refl, sym, subst, ap, ◌∙◌, ℕ, ◌+◌, ◌<◌, ◌*ℤ◌, arith}
use Rattle.std.proofs.lemmas.Bool.{cases_eq, cases_order}
use Rattle.integer_algebra.proofs.Decisions.{both_or_not, equal_or_not}
use Rattle.plane.proofs.Points.{whole_is_point}
use Rattle.plane.proofs.Segments.{on_first_end}
use Rattle.plane.specs.Point.{IsSame, Point, Triple, whole}
use Rattle.rings.proofs.Vertices.{meet_swapped, edge_at, edge_number, has_edge_at, vertex_after_last}
use Rattle.rings.specs.Apart.{IsApartRing, IsCommonEnd, MeetAtEnds}
use Rattle.rings.specs.Prelude.{Edge, edges_of, HasEdge, HasEnd, IsOnEdge, IsSimple, vertex}

-- ---- decisions

-- two triples stand for the same point or not
pub same_or_not : (p q : Triple) → IsSame p q ⊎ (¬ IsSame p q)
same_or_not p q =
    elim (both_or_not (equal_or_not (p.X *ℤ q.W) (q.X *ℤ p.W)) (equal_or_not (p.Y *ℤ q.W) (q.Y *ℤ p.W))) [
      | inl h ↦ inl (record { same_x = h.0; same_y = h.1 })
      | inr n ↦ inr (λ s. n (s.same_x, s.same_y))
    ]

-- ---- from simple to apart

-- x is where edge j follows edge i
abbrev Between : List Point → ℕ → ℕ → Triple → Type 0
Between ring i j x = (j ≡ i + 1) × IsSame x (whole (vertex ring j))

-- x is vertex 0, where the first edge follows the last
abbrev Round : List Point → ℕ → ℕ → Triple → Type 0
Round ring i j x = ((i ≡ 0) × (j + 1 ≡ length ring)) × IsSame x (whole (vertex ring 0))

module _ (ring : List Point) (simple : IsSimple ring) (i j : ℕ) (less : i < j) (within : j < length ring) where
  -- no two vertices are equal
  differ : ¬ (vertex ring i ≡ vertex ring j)
  differ e = go (cases_eq j (i + 1)) (both_or_not (cases_eq i 0) (cases_eq (j + 1) (length ring)))
    where
      go : (j ≡ i + 1) ⊎ (¬ (j ≡ i + 1)) → ((i ≡ 0) × (j + 1 ≡ length ring)) ⊎ (¬ ((i ≡ 0) × (j + 1 ≡ length ring))) → ⊥
      go (inl next) k = simple i j less within (inl (e ∙ ap (vertex ring) next))
      go (inr far) (inl (first, last)) =
          simple i j less within (inr (inl (sym e ∙ ap (vertex ring) first ∙ sym (vertex_after_last ring j last))))
      go (inr far) (inr not) =
          simple i j less within (inr (inr (record {
            point = whole (vertex ring i);
            rational = whole_is_point (vertex ring i);
            on_first = on_first_end (whole (vertex ring i)) (whole (vertex ring (i + 1)));
            on_second =
                subst (λ (v : Point). IsOnEdge ring j (whole v)) (sym e)
                (on_first_end (whole (vertex ring j)) (whole (vertex ring (j + 1))));
            not_between = λ next same. far next;
            not_round = λ first last same. not (first, last);
          })))

  -- a point on two edges is their common end
  meet : MeetAtEnds (edge_at ring i) (edge_at ring j)
  meet x at on_first on_second =
      go (both_or_not (cases_eq j (i + 1)) (same_or_not x (whole (vertex ring j))))
      (both_or_not (both_or_not (cases_eq i 0) (cases_eq (j + 1) (length ring))) (same_or_not x (whole (vertex ring 0))))
    where
      go : Between ring i j x ⊎ (¬ Between ring i j x) → Round ring i j x ⊎ (¬ Round ring i j x)
          → IsCommonEnd (edge_at ring i) (edge_at ring j) x
      go (inl (next, same)) k =
          record { end = vertex ring j; of_first = inr (ap (vertex ring) (sym next)); of_second = inl refl; same = same }
      go (inr n) (inl ((first, last), same)) =
          record { end = vertex ring 0; of_first = inl (ap (vertex ring) first); of_second = inr (vertex_after_last ring j last); same = same }
      go (inr n) (inr m) = absurd (simple i j less within (inr (inr (record {
        point = x;
        rational = at;
        on_first = on_first;
        on_second = on_second;
        not_between = λ next same. n (next, same);
        not_round = λ first last same. m ((first, last), same);
      }))))

-- the edges of a simple ring are apart, and its vertices different
pub apart_of_simple : (ring : List Point) → IsSimple ring → IsApartRing ring
apart_of_simple ring simple = record {
  distinct = differ ring simple;
  apart = λ e f has_e has_f.
      let (i, i_within, is_e) = edge_number ring e has_e in
      let (j, j_within, is_f) = edge_number ring f has_f in
      elim (cases_order i j) [
        | inl same ↦ inl (sym is_e ∙ ap (edge_at ring) same ∙ is_f)
        | inr (inl less) ↦ inr (subst (MeetAtEnds e) is_f (subst (λ d. MeetAtEnds d (edge_at ring j)) is_e (meet ring simple i j less j_within)))
        | inr (inr less) ↦
            inr (meet_swapped f e (subst (MeetAtEnds f) is_e (subst (λ d. MeetAtEnds d (edge_at ring i)) is_f (meet ring simple j i less i_within))))
      ];
}

-- ---- from apart to simple

module _ (ring : List Point) (apart : IsApartRing ring) where
  -- the vertex after a vertex is another
  next_differs : (k : ℕ) → 1 < length ring → k < length ring → ¬ (vertex ring k ≡ vertex ring (k + 1))
  next_differs k some within e = elim (cases_eq (k + 1) (length ring)) [
    | inl last ↦ apart.distinct 0 k (omega arith) within (sym (e ∙ vertex_after_last ring k last))
    | inr not ↦ apart.distinct k (k + 1) (omega arith) (omega arith) e
  ]

  -- edges with a common end are next to each other, and that is the end
  shared_at : (i j : ℕ) → i < j → j < length ring → (x : Triple) → IsCommonEnd (edge_at ring i) (edge_at ring j) x
      → Between ring i j x ⊎ Round ring i j x
  shared_at i j less within x h = go h.of_first h.of_second (cases_eq j (i + 1)) (cases_eq i 0) (cases_eq (j + 1) (length ring))
    where
      at : {v : Point} → h.end ≡ v → IsSame x (whole v)
      at e = subst (λ (v : Point). IsSame x (whole v)) e h.same

      go : HasEnd (edge_at ring i) h.end → HasEnd (edge_at ring j) h.end → (j ≡ i + 1) ⊎ (¬ (j ≡ i + 1)) → (i ≡ 0) ⊎ (¬ (i ≡ 0))
          → (j + 1 ≡ length ring) ⊎ (¬ (j + 1 ≡ length ring)) → Between ring i j x ⊎ Round ring i j x
      go (inl e) (inl f) next first last = absurd (apart.distinct i j less within (e ∙ sym f))
      go (inr e) (inl f) (inl next) first last = inl (next, at (sym f))
      go (inr e) (inl f) (inr not) first last = absurd (apart.distinct (i + 1) j (omega arith) within (e ∙ sym f))
      go (inl e) (inr f) next first (inr not) = absurd (apart.distinct i (j + 1) (omega arith) (omega arith) (e ∙ sym f))
      go (inl e) (inr f) next (inl first) (inl last) = inr ((first, last), at (sym f ∙ vertex_after_last ring j last))
      go (inl e) (inr f) next (inr not) (inl last) =
          absurd (apart.distinct 0 i (omega arith) (omega arith) (sym (e ∙ sym f ∙ vertex_after_last ring j last)))
      go (inr e) (inr f) next first (inr not) = absurd (apart.distinct (i + 1) (j + 1) (omega arith) (omega arith) (e ∙ sym f))
      go (inr e) (inr f) next first (inl last) =
          absurd (apart.distinct 0 (i + 1) (omega arith) (omega arith) (sym (e ∙ sym f ∙ vertex_after_last ring j last)))

  -- so no edge has equal ends
  pub proper_edges : 1 < length ring → (e : Edge) → HasEdge (edges_of ring) e → ¬ (e.from ≡ e.to)
  proper_edges some e has same =
      let (i, within, is) = edge_number ring e has in
      next_differs i some within ((λ k. (is k).from) ∙ same ∙ (λ k. (sym is k).to))

  -- such a ring is simple
  pub simple_of_apart : IsSimple ring
  simple_of_apart i j less within (inl e) = next_differs i (omega arith) (omega arith) e
  simple_of_apart i j less within (inr (inl e)) = next_differs j (omega arith) within e
  simple_of_apart i j less within (inr (inr shared)) =
      elim (apart.apart (edge_at ring i) (edge_at ring j) (has_edge_at ring i (omega arith)) (has_edge_at ring j within)) [
        | inl same ↦ apart.distinct i j less within (λ k. (same k).from)
        | inr meets ↦
            elim (shared_at i j less within shared.point (meets shared.point shared.rational shared.on_first shared.on_second)) [
              | inl (next, same) ↦ shared.not_between next same
              | inr ((first, last), same) ↦ shared.not_round first last same
            ]
      ]
