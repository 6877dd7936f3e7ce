-- The triangles of lists that are made of others, and triangles read from another corner.
use Rattle.std.proofs.Common.{◌⊎◌, inl, inr, refl, subst, ℕ, zero, suc, ◌<◌, List, [], ◌∷◌, ◌++◌, length, arith}
use Rattle.plane.specs.Point.{Point}
use Rattle.meshes.specs.Side.{HasSide, tri_at}
use Rattle.meshes.specs.declared.tri.Tri.{Tri}
use Rattle.cut_tri.specs.Cut.{IsCutTriangulation}
use Rattle.cut_tri.specs.Triangles.{HasRound, HasTriangle}

-- ---- lists

module _ (i j k : ℕ) where
  -- a triangle of a list is the first one or one of the others,
  pub has_cases : (t : Tri) (ts : List Tri) → HasTriangle (t ∷ ts) i j k → HasRound t i j k ⊎ HasTriangle ts i j k
  has_cases t ts (zero, less, round) = inl round
  has_cases t ts (suc l, less, round) = inr (l, omega (arith, less), round)

  -- and the other way round
  pub has_first : (t : Tri) (ts : List Tri) → HasRound t i j k → HasTriangle (t ∷ ts) i j k
  has_first t ts round = (zero, omega arith, round)

  pub has_other : (t : Tri) (ts : List Tri) → HasTriangle ts i j k → HasTriangle (t ∷ ts) i j k
  has_other t ts (l, less, round) = (suc l, omega (arith, less), round)

  -- a triangle of two lists is one of the first or of the second,
  pub has_either : (ts us : List Tri) → HasTriangle (ts ++ us) i j k → HasTriangle ts i j k ⊎ HasTriangle us i j k
  has_either [] us has = inr has
  has_either (t ∷ ts) us has = elim (has_cases t (ts ++ us) has) [
    | inl round ↦ inl (has_first t ts round)
    | inr other ↦ elim (has_either ts us other) [ inl h ↦ inl (has_other t ts h) | inr h ↦ inr h ]
  ]

  -- and the other way round
  pub has_left : (ts us : List Tri) → HasTriangle ts i j k → HasTriangle (ts ++ us) i j k
  has_left [] us (l, less, round) = absurd (omega (arith, less))
  has_left (t ∷ ts) us has = elim (has_cases t ts has) [
    | inl round ↦ has_first t (ts ++ us) round
    | inr other ↦ has_other t (ts ++ us) (has_left ts us other)
  ]

  pub has_right : (ts us : List Tri) → HasTriangle us i j k → HasTriangle (ts ++ us) i j k
  has_right [] us has = has
  has_right (t ∷ ts) us has = has_other t (ts ++ us) (has_right ts us has)

-- ---- corners

-- a triangle has its corners round it
pub own_round : (t : Tri) → HasRound t t.a t.b t.c
own_round t = record { first = inl (refl, refl); second = inr (inl (refl, refl)); third = inr (inr (refl, refl)) }

module _ (t u : Tri) (round : HasRound t u.a u.b u.c) where
  -- the sides of a triangle are those of another one with its corners round it,
  pub side_of_round : (i j : ℕ) → HasSide u i j → HasSide t i j
  side_of_round i j (inl e) = subst (λ n. HasSide t n j) e.0 (subst (λ n. HasSide t u.a n) e.1 round.first)
  side_of_round i j (inr (inl e)) = subst (λ n. HasSide t n j) e.0 (subst (λ n. HasSide t u.b n) e.1 round.second)
  side_of_round i j (inr (inr e)) = subst (λ n. HasSide t n j) e.0 (subst (λ n. HasSide t u.c n) e.1 round.third)

  -- so that has all corners round it that this one has
  pub round_of_round : (i j k : ℕ) → HasRound u i j k → HasRound t i j k
  round_of_round i j k is = record {
    first = side_of_round i j is.first;
    second = side_of_round j k is.second;
    third = side_of_round k i is.third;
  }

-- ---- the cut triangulation

-- each triangle of a list of those of the cut is one of any other such list, and has its sides there
pub same_triangles : (corners : List Point) (tris others : List Tri) → IsCutTriangulation corners tris → IsCutTriangulation corners others
    → (k : ℕ) → k < length tris → (l : ℕ) × (l < length others) × ((i j : ℕ) → HasSide (tri_at tris k) i j → HasSide (tri_at others l) i j)
same_triangles corners tris others cut cut_too k less =
    let t = tri_at tris k in
    let (l, in_list, round) = (cut_too t.a t.b t.c).1 ((cut t.a t.b t.c).0 (k, less, own_round t)) in
    (l, in_list, side_of_round (tri_at others l) t round)
