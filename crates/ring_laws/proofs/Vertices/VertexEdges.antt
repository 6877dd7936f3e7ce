-- The two edges at a vertex of a ring with different vertices.
use Rattle.std.proofs.Common.{◌≡◌, ◌⊎◌, inl, inr, refl, sym, subst, ap, ◌∙◌, ℕ, zero, suc, ◌+◌, ◌-◌, ◌<◌, ◌≤◌, List, length, arith}
use Rattle.std.proofs.Math.Nat.{add-mod_right}
use Rattle.std.proofs.lemmas.Bool.{cases_lt}
use Rattle.std.specs.Prelude.{slice_index_or}
use Rattle.plane.proofs.CornerLists.{IsNext, not_second_next}
use Rattle.plane.specs.Point.{Point}
use Rattle.rings.proofs.Vertices.{edge_at, edge_number, has_edge_at, vertex_round, one_to_one}
use Rattle.rings.specs.Apart.{IsApartRing}
use Rattle.rings.specs.Prelude.{Edge, edge, edges_of, HasEdge, HasEnd, origin, vertex}

-- ---- numbers

-- the next number determines the one before
one_before : (n i k j : ℕ) → i < n → k < n → IsNext n i j → IsNext n k j → i ≡ k
one_before n i k j in_i in_k (inl e) (inl f) = omega arith
one_before n i k j in_i in_k (inl e) (inr f) = absurd (omega (arith, f.1))
one_before n i k j in_i in_k (inr e) (inl f) = absurd (omega (arith, e.1))
one_before n i k j in_i in_k (inr e) (inr f) = omega (arith, e.0, f.0)

-- ---- vertices

-- vertex number comes before vertex r
record Before (ring : List Point) (r : ℕ) : Type 0 where
  number : ℕ
  in_ring : number < length ring
  next : IsNext (length ring) number r
  is : vertex ring number ≡ vertex ring (r + (length ring - 1))
  leads : vertex ring (number + 1) ≡ vertex ring r

-- each vertex has one before it,
before : (ring : List Point) (r : ℕ) → r < length ring → Before ring r
before ring zero h = record {
  number = length ring - 1;
  in_ring = omega arith;
  next = inr (omega arith, refl);
  is = ap (vertex ring) (omega arith);
  leads = ap (vertex ring) (omega arith) ∙ vertex_round ring (omega arith);
}
before ring (suc j) h =
    let round : j + length ring ≡ suc j + (length ring - 1) = omega arith in
    record {
      number = j;
      in_ring = omega arith;
      next = inl (omega arith);
      is = ap (λ k. slice_index_or ring k origin) (sym (add-mod_right j (length ring))) ∙ ap (vertex ring) round;
      leads = ap (vertex ring) (omega arith);
    }

-- and one after it
after : (ring : List Point) (r : ℕ) → r < length ring
    → (k : ℕ) × (k < length ring) × IsNext (length ring) r k × (vertex ring (r + 1) ≡ vertex ring k)
after ring r h = elim (cases_lt (r + 1) (length ring)) [
  | inl within ↦ (r + 1, within, inl refl, refl)
  | inr last ↦
      let end : r + 1 ≡ length ring = omega arith in
      (0, omega arith, inr (end, refl), ap (vertex ring) end ∙ vertex_round ring (omega arith))
]

module _ (ring : List Point) (apart : IsApartRing ring) where
  -- equal vertices have one number,
  pub same_number : (i j : ℕ) → i < length ring → j < length ring → vertex ring i ≡ vertex ring j → i ≡ j
  same_number = one_to_one (vertex ring) (length ring) apart.distinct

  -- and so do those before them
  same_before : (i j : ℕ) → i < length ring → j < length ring → vertex ring (i + 1) ≡ vertex ring (j + 1) → i ≡ j
  same_before i j in_i in_j same =
      let (k, in_k, next_i, is_k) = after ring i in_i in
      let (l, in_l, next_j, is_l) = after ring j in_j in
      let one : k ≡ l = same_number k l in_k in_l (sym is_k ∙ same ∙ is_l) in
      one_before (length ring) i j l in_i in_j (subst (IsNext (length ring) i) one next_i) next_j

-- ---- the edges at a vertex

-- v has the edges from u and to w, and no others
pub record HasEdgesAt (ring : List Point) (u v w : Point) : Type 0 where
  pub first : HasEdge (edges_of ring) (edge u v)
  pub second : HasEdge (edges_of ring) (edge v w)
  pub only : (e : Edge) → HasEdge (edges_of ring) e → HasEnd e v → (edge u v ≡ e) ⊎ (edge v w ≡ e)
  pub differ : ¬ (u ≡ w)

-- so it is at each vertex
pub edges_at : (ring : List Point) → IsApartRing ring → 3 ≤ length ring → (r : ℕ) → r < length ring
    → HasEdgesAt ring (vertex ring (r + (length ring - 1))) (vertex ring r) (vertex ring (r + 1))
edges_at ring apart three r h =
    let p = before ring r h in
    let (k, in_k, next, is_k) = after ring r h in
    let first : edge_at ring p.number ≡ edge (vertex ring (r + (length ring - 1))) (vertex ring r) = λ i. edge (p.is i) (p.leads i) in
    record {
      first = subst (HasEdge (edges_of ring)) first (has_edge_at ring p.number p.in_ring);
      second = has_edge_at ring r h;
      only = λ e has end.
          let (i, within, is_e) = edge_number ring e has in
          elim end [
            | inl from ↦
                let one : i ≡ r = same_number ring apart i r within h (ap (λ (f : Edge). f.from) is_e ∙ from) in
                inr (ap (edge_at ring) (sym one) ∙ is_e)
            | inr to ↦
                let one : i ≡ p.number =
                same_before ring apart i p.number within p.in_ring (ap (λ (f : Edge). f.to) is_e ∙ to ∙ sym p.leads) in
                inl (sym first ∙ ap (edge_at ring) (sym one) ∙ is_e)
          ];
      differ = λ same.
          not_second_next (length ring) p.number r k three p.next next
          (same_number ring apart p.number k p.in_ring in_k (p.is ∙ same ∙ is_k));
    }
