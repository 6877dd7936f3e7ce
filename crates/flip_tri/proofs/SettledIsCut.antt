-- Where no diagonal is to be flipped, the triangles are those of the cut: each triangle of the cut is one of them, and there are as many.
use Rattle.std.proofs.Common.{◌≡◌, inl, inr, sym, subst, ◌∙◌, ℕ, ◌<◌, ◌≤◌, List, length, arith}
use Rattle.plane.specs.Point.{Point}
use Rattle.rings.specs.Orientation.{IsCounterclockwise}
use Rattle.rings.specs.Simple.{IsSimple}
use Rattle.meshes.proofs.Sides.{fitting_sides}
use Rattle.meshes.proofs.Walks.{IsPlace}
use Rattle.meshes.specs.Fits.{Fits}
use Rattle.meshes.specs.Side.{HasSide, tri_at}
use Rattle.meshes.specs.declared.tri.Tri.{Tri}
use Rattle.cut_tri.proofs.SomeCut.{some_cut_triangulation}
use Rattle.cut_tri.proofs.TriangleLists.{own_round}
use Rattle.cut_tri.proofs.WholePiece.{all_is_piece}
use Rattle.cut_tri.specs.Cut.{IsCutTriangulation}
use Rattle.cut_tri.specs.Triangles.{HasRound, HasTriangle}
use Rattle.flip_tri.proofs.DirectedTilings.{mesh_tiles}
use Rattle.flip_tri.proofs.OneToOne.{all_paired}
use Rattle.flip_tri.proofs.Rounds.{IsReadFrom, read_from}
use Rattle.flip_tri.proofs.SettledCut.{HasThis, cut_within}
use Rattle.flip_tri.specs.Flip.{HasNoFlips}

-- ---- a triangle and another one with its corners round it

module _ (t u : Tri) where
  -- the sides of the other one are those of the triangle,
  side_back : (i j : ℕ) → IsReadFrom t u.a u.b u.c → HasSide t i j → HasSide u i j
  side_back i j (inl is) (inl e) = inl (sym is.0 ∙ e.0, sym is.1 ∙ e.1)
  side_back i j (inl is) (inr (inl e)) = inr (inl (sym is.1 ∙ e.0, sym is.2 ∙ e.1))
  side_back i j (inl is) (inr (inr e)) = inr (inr (sym is.2 ∙ e.0, sym is.0 ∙ e.1))
  side_back i j (inr (inl is)) (inl e) = inr (inr (sym is.2 ∙ e.0, sym is.0 ∙ e.1))
  side_back i j (inr (inl is)) (inr (inl e)) = inl (sym is.0 ∙ e.0, sym is.1 ∙ e.1)
  side_back i j (inr (inl is)) (inr (inr e)) = inr (inl (sym is.1 ∙ e.0, sym is.2 ∙ e.1))
  side_back i j (inr (inr is)) (inl e) = inr (inl (sym is.1 ∙ e.0, sym is.2 ∙ e.1))
  side_back i j (inr (inr is)) (inr (inl e)) = inr (inr (sym is.2 ∙ e.0, sym is.0 ∙ e.1))
  side_back i j (inr (inr is)) (inr (inr e)) = inl (sym is.0 ∙ e.0, sym is.1 ∙ e.1)

  -- so are the corners round it
  round_back : (i j k : ℕ) → IsReadFrom t u.a u.b u.c → HasRound t i j k → HasRound u i j k
  round_back i j k is round = record {
    first = side_back i j is round.first;
    second = side_back j k is round.second;
    third = side_back k i is round.third;
  }

-- ---- two lists that fit a polygon

module _ (corners : List Point) (tris cut : List Tri) (fits : Fits corners tris) (cut_fits : Fits corners cut)
    (all : (m : ℕ) → m < length cut → HasThis tris (tri_at cut m)) where
  -- triangle l of the first list has the corners of triangle m of the second one round it
  abbrev IsPair : ℕ → ℕ → Type 0
  IsPair m l = HasRound (tri_at tris l) (tri_at cut m).a (tri_at cut m).b (tri_at cut m).c

  -- it is read from one of them
  pair_read : (m l : ℕ) → l < length tris → IsPair m l → IsReadFrom (tri_at tris l) (tri_at cut m).a (tri_at cut m).b (tri_at cut m).c
  pair_read m l less pair =
      read_from corners (tri_at tris l) (tri_at cut m).a (tri_at cut m).b (tri_at cut m).c pair (fits.triangles l less).counterclockwise

  -- the lists are equally long
  same_count : length cut ≡ length tris
  same_count = omega (arith, fits.count, cut_fits.count)

  -- where each triangle of the second list is one of the first, each of the first is one of the second: no two of the second have a side
  -- in one direction, so no two are one of the first
  pub has_back : (i j k : ℕ) → HasTriangle tris i j k → HasTriangle cut i j k
  has_back i j k (l, less, round) =
      let n : ℕ = length cut in
      let InList = λ (m o : ℕ). (o < length tris) × IsPair m o in
      let (m, below, is) = all_paired n InList (record {
        each = λ m below. let (o, in_list, pair) = all m below in (o, subst (λ (c : ℕ). o < c) (sym same_count) in_list, (in_list, pair));
        once = λ p q o p_below q_below first second.
            let t = tri_at cut p in
            (fitting_sides corners cut cut_fits).once t.a t.b p q p_below q_below (own_round t).first
            (side_back (tri_at tris o) (tri_at cut q) t.a t.b (pair_read q o second.0 second.1) first.1.first);
      }) l (subst (λ (c : ℕ). l < c) (sym same_count) less) in
      (m, below, round_back (tri_at tris l) (tri_at cut m) i j k (pair_read m l is.0 is.1) round)

-- ---- the triangles of a mesh in which no diagonal is to be flipped

-- they are the cut triangulation
pub settled_is_cut : (corners : List Point) (tris : List Tri) → 3 ≤ length corners → IsSimple corners → IsCounterclockwise corners → Fits corners tris
    → HasNoFlips corners tris → IsCutTriangulation corners tris
settled_is_cut corners tris some simple way fits settled =
    let (cut, cut_fits, is_cut) = some_cut_triangulation corners some simple way in
    let all = all_is_piece corners some simple way in
    let has = λ (i j k : ℕ). cut_within corners tris settled i j k _ all (IsPlace tris) (mesh_tiles corners _ tris all.polygon.some fits) in
    let each = λ (m : ℕ) (less : m < length cut).
    let t = tri_at cut m in has t.a t.b t.c ((is_cut t.a t.b t.c).0 (m, less, own_round t)) in
    λ i j k. (λ found. (is_cut i j k).0 (has_back corners tris cut fits cut_fits each i j k found), has i j k)
