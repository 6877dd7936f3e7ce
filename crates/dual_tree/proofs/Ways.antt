-- Ways toward the first place of an order: two of them that have met are a walk from where the one began to where the other did.
use Rattle.std.proofs.Common.{◌≡◌, refl, sym, ap, subst, ◌∙◌, ℕ, ◌<◌, ◌≤◌, inl, inr, List, [], ◌∷◌, ◌++◌, length, reverse, arith}
use Rattle.std.proofs.lemmas.Grind.{reverse_onto}
use Rattle.std.proofs.lemmas.List.{append_assoc, reverse-append, reverse-reverse}
use Rattle.meshes.proofs.Walks.{IsNew, IsPath, IsPlace, Touch, between_of_path, share_back}
use Rattle.meshes.specs.Mesh.{side_begin, side_end}
use Rattle.meshes.specs.Side.{IsWalkBetween, tri_at}
use Rattle.meshes.specs.declared.tri.Tri.{Tri}
use Rattle.tri_mesh.proofs.Neighbours.{has_side_numbered}
use Rattle.tri_mesh.specs.Outward.{IsOutward, at_place, outward_at}
use Rattle.tri_mesh.specs.declared.outward.Outward.{Outward}
use Rattle.dual_tree.specs.Ways.{IsApproachStep}
use Rattle.dual_tree.specs.declared.walk.Way.{Way}

-- the triangles are at places after p
abbrev pub AreBehind : List Outward → ℕ → List ℕ → Type 0
AreBehind order p [] = Unit {0}
AreBehind order p (k ∷ ks) = ((q : ℕ) × (p < q) × (q < length order) × (at_place order q ≡ k)) × AreBehind order p ks

-- no number is in both lists
abbrev pub AreApart : List ℕ → List ℕ → Type 0
AreApart [] ys = Unit {0}
AreApart (x ∷ xs) ys = IsNew x ys × AreApart xs ys

-- from the triangle at place p over others, which are behind it, to a triangle
pub record IsWay (tris : List Tri) (order : List Outward) (p : ℕ) (rest : List ℕ) (end : ℕ) : Type 0 where
  pub below : p < length order
  pub path : IsPath (IsPlace tris) (Touch tris) (at_place order p) rest end
  pub behind : AreBehind order p rest

-- two such ways, from p to the triangle `from` and from q to the triangle `to`, apart from each other
pub record AreWays (tris : List Tri) (order : List Outward) (from to p : ℕ) (front : List ℕ) (q : ℕ) (back : List ℕ) : Type 0 where
  pub first : IsWay tris order p front from
  pub second : IsWay tris order q back to
  pub front_behind : AreBehind order q front
  pub back_behind : AreBehind order p back
  pub apart : AreApart front back

-- what is apart stays so with a number that is new to the first list
apart_more : (xs ys : List ℕ) (y : ℕ) → AreApart xs ys → IsNew y xs → AreApart xs (y ∷ ys)
apart_more [] ys y apart new = tt
apart_more (x ∷ xs) ys y apart new = (((λ same. new.0 (sym same)), apart.0), apart_more xs ys y apart.1 new.1)

-- what is behind a place is behind the places before it
behind_nearer : (order : List Outward) (p q : ℕ) (ks : List ℕ) → q ≤ p → AreBehind order p ks → AreBehind order q ks
behind_nearer order p q [] before behind = tt
behind_nearer order p q (k ∷ ks) before behind =
    let b = behind.0 in ((b.0, omega (arith, b.1), b.2, b.3), behind_nearer order p q ks before behind.1)

-- ---- paths that meet

module _ (tris : List Tri) (from to : ℕ) (from_below : from < length tris) where
  -- two paths from one triangle that are apart are a walk, the first read backward
  pub walk_over : (front : List ℕ) (k : ℕ) (back : List ℕ) → k < length tris → IsPath (IsPlace tris) (Touch tris) k front from
      → IsPath (IsPlace tris) (Touch tris) k back to → AreApart front back → IsWalkBetween tris from to (reverse front ++ k ∷ back)
  walk_over [] k back k_below p q apart =
      subst (λ l. IsWalkBetween tris from to (l ∷ back)) (sym p)
      (between_of_path tris from back to from_below (subst (λ l. IsPath (IsPlace tris) (Touch tris) l back to) p q))
  walk_over (x ∷ xs) k back k_below p q apart =
      let k_new : IsNew k xs = p.2.1 in
      let x_new : IsNew x (k ∷ back) = ((λ same. p.2.0 (sym same)), apart.0) in
      let touch : Touch tris x k = share_back (tri_at tris k) (tri_at tris x) p.1 in
      let over = walk_over xs x (k ∷ back) p.0 p.3 (k_below, touch, x_new, q) (apart_more xs back k apart.1 k_new) in
      subst (IsWalkBetween tris from to)
      (sym (ap (λ ys. ys ++ k ∷ back) (reverse_onto xs x []) ∙ append_assoc (reverse xs) (x ∷ []) (k ∷ back))) over

-- ---- steps toward the first place

module _ (tris : List Tri) (home : ℕ) (order : List Outward) (o : IsOutward tris home order) where
  -- the triangle at a place is none of those behind it
  new_to_behind : (p q : ℕ) (ks : List ℕ) → q ≤ p → p < length order → q < length order → AreBehind order p ks → IsNew (at_place order q) ks
  new_to_behind p q [] before p_below q_below behind = tt
  new_to_behind p q (k ∷ ks) before p_below q_below behind =
      let b = behind.0 in (
        (λ same. let one : q ≡ b.0 = o.once q b.0 q_below b.2 (same ∙ sym b.3) in omega (arith, b.1)),
        new_to_behind p q ks before p_below q_below behind.1,
      )

  -- a way goes on from a later place
  pub way_goes_on : (p : ℕ) (rest : List ℕ) (end : ℕ) → 0 < p → IsWay tris order p rest end
      → IsWay tris order (outward_at order p).toward (at_place order p ∷ rest) end
  way_goes_on p rest end some way =
      let joined = o.joined p some way.below in
      let here = outward_at order p in
      let q = here.toward in
      let q_below : q < length order = omega (arith, joined.earlier, way.below) in
      let behind : AreBehind order q (at_place order p ∷ rest) =
      ((p, joined.earlier, way.below, refl), behind_nearer order p q rest (omega (arith, joined.earlier)) way.behind) in
      let touch : Touch tris (at_place order q) (at_place order p) = record {
        i = side_end (tri_at tris here.tri) here.side;
        j = side_begin (tri_at tris here.tri) here.side;
        of_first = joined.shared;
        of_second = inr (has_side_numbered (tri_at tris here.tri) here.side joined.side);
      } in
      record {
        below = q_below;
        path = (o.in_list p way.below, touch, new_to_behind q q (at_place order p ∷ rest) (omega arith) q_below q_below behind, way.path);
        behind = behind;
      }

  module _ (from to : ℕ) where
    -- two ways stay apart where the one that is further out goes on
    front_goes_on : (p : ℕ) (front : List ℕ) (q : ℕ) (back : List ℕ) → q < p → AreWays tris order from to p front q back
        → AreWays tris order from to (outward_at order p).toward (at_place order p ∷ front) q back
    front_goes_on p front q back further ways =
        let below = ways.first.below in
        let earlier = (o.joined p (omega arith) below).earlier in
        record {
          first = way_goes_on p front from (omega arith) ways.first;
          second = ways.second;
          front_behind = ((p, further, below, refl), ways.front_behind);
          back_behind = behind_nearer order p (outward_at order p).toward back (omega (arith, earlier)) ways.back_behind;
          apart = (new_to_behind p p back (omega arith) below below ways.back_behind, ways.apart);
        }

    back_goes_on : (p : ℕ) (front : List ℕ) (q : ℕ) (back : List ℕ) → p < q → AreWays tris order from to p front q back
        → AreWays tris order from to p front (outward_at order q).toward (at_place order q ∷ back)
    back_goes_on p front q back further ways =
        let below = ways.second.below in
        let earlier = (o.joined q (omega arith) below).earlier in
        record {
          first = ways.first;
          second = way_goes_on q back to (omega arith) ways.second;
          front_behind = behind_nearer order q (outward_at order q).toward front (omega (arith, earlier)) ways.front_behind;
          back_behind = ((q, further, below, refl), ways.back_behind);
          apart = apart_more front back (at_place order q) ways.apart (new_to_behind q q front (omega arith) below below ways.front_behind);
        }

    -- that is, where they come nearer,
    pub ways_nearer : (front back new_front new_back : Way) → IsApproachStep order front back new_front new_back
        → AreWays tris order from to front.place (reverse front.left.items) back.place (reverse back.left.items)
        → AreWays tris order from to new_front.place (reverse new_front.left.items) new_back.place (reverse new_back.left.items)
    ways_nearer front back new_front new_back (inl nearer) ways =
        let went = nearer.1 in
        let stayed = nearer.2 in
        rw (went.place, went.left, stayed.place, stayed.left, reverse-append front.left.items (at_place order front.place ∷ []))
        (front_goes_on front.place (reverse front.left.items) back.place (reverse back.left.items) nearer.0 ways)
    ways_nearer front back new_front new_back (inr nearer) ways =
        let went = nearer.1 in
        let stayed = nearer.2 in
        rw (went.place, went.left, stayed.place, stayed.left, reverse-append back.left.items (at_place order back.place ∷ []))
        (back_goes_on front.place (reverse front.left.items) back.place (reverse back.left.items) nearer.0 ways)

    -- where they meet they are a walk
    pub ways_meet : from < length tris → (p q : ℕ) (front back : List ℕ) → p ≡ q
        → AreWays tris order from to p (reverse front) q back → IsWalkBetween tris from to (front ++ at_place order p ∷ back)
    ways_meet from_below p q front back met ways =
        let second : IsPath (IsPlace tris) (Touch tris) (at_place order p) back to = rw met ways.second.path in
        subst (λ xs. IsWalkBetween tris from to (xs ++ at_place order p ∷ back)) (reverse-reverse front)
        (walk_over tris from to from_below (reverse front) (at_place order p) back
        (o.in_list p ways.first.below) ways.first.path second ways.apart)
