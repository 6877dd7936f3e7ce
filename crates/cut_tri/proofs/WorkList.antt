-- The pieces that are still to be cut: how they complete a mesh, and how much is still to be done, after one cut more.
use Rattle.std.proofs.Common.{◌≡◌, sym, ap, subst, ◌∙◌, ℕ, ◌+◌, ◌-◌, ◌*◌, ◌<◌, ◌≤◌, List, [], ◌∷◌, ◌++◌, length, map, reverse, Vec, Global, arith}
use Rattle.std.proofs.lemmas.List.{append_assoc, map-append, reverse-append}
use Rattle.std.proofs.lemmas.List.FromFn.{length-range_with_len}
use Rattle.std.specs.List.{range_with_len}
use Rattle.plane.specs.Point.{Point}
use Rattle.meshes.specs.Fits.{Fits}
use Rattle.meshes.specs.declared.tri.Tri.{Tri}
use Rattle.cut_tri.proofs.AllowedSteps.{allowed, allowed_for, ear_allowed, parts_allowed, size_allowed, triangle_allowed}
use Rattle.cut_tri.proofs.Completion.{ArePieces, Completes, effort}
use Rattle.cut_tri.specs.Cut.{IsCutTriangulation}
use Rattle.cut_tri.specs.Cutting.{AreDiagonalPieces, IsCutOf, IsEarCut, IsTriangle}
use Rattle.cut_tri.specs.Piece.{IsPiece}
use Rattle.cut_tri.specs.WorkList.{IsTakenOver, last_first}
use Rattle.cut_tri.specs.declared.cut.Remains.{Remains}
use Rattle.cut_tri.specs.declared.cut.Remains.TheVariants.{Triangle, Ear, Parts}

-- the last piece of a work list is the first that is still to be cut
pub last_first-push : (work : List (Vec ℕ Global)) (piece : Vec ℕ Global) → last_first (work ++ piece ∷ []) ≡ piece.items ∷ last_first work
last_first-push work piece =
    ap reverse (map-append (λ (v : Vec ℕ Global). v.items) work (piece ∷ []))
    ∙ reverse-append (map (λ (v : Vec ℕ Global). v.items) work) (piece.items ∷ [])

-- triangles and pieces that complete a mesh of the ring, with less effort than before
pub record IsNearer (corners : List Point) (before : ℕ) (done : List Tri) (pieces : List (List ℕ)) : Type 0 where
  pub are_pieces : ArePieces corners pieces
  pub completes : Completes corners done pieces
  pub less : effort pieces < before

module _ (corners : List Point) (piece : List ℕ) (pieces : List (List ℕ)) (done : List Tri) (is_piece : IsPiece corners piece)
    (are_pieces : ArePieces corners pieces) (completes : Completes corners done (piece ∷ pieces)) where
  -- a triangle fits the piece
  with_triangle : (tri : Tri) → IsTriangle corners piece tri → IsNearer corners (effort (piece ∷ pieces)) (done ++ tri ∷ []) pieces
  with_triangle tri is = record {
    are_pieces = are_pieces;
    completes = completes (tri ∷ []) is.fits is.cut;
    less = omega (arith, is_piece.polygon.some);
  }

  -- a triangle is cut off
  with_ear : (tri : Tri) (rest : List ℕ) → IsEarCut corners piece tri rest → IsNearer corners (effort (piece ∷ pieces)) (done ++ tri ∷ []) (rest ∷ pieces)
  with_ear tri rest is = record {
    are_pieces = (is.rest_is_piece, are_pieces);
    completes = λ ts fit cut.
        subst (λ us. Completes corners us pieces) (sym (append_assoc done (tri ∷ []) ts)) (completes (tri ∷ ts) (is.fits ts fit) (is.cut ts cut));
    less = let some = is.rest_is_piece.polygon.some in omega (arith, is.shorter);
  }

  -- the piece is cut in two
  with_parts : (first second : List ℕ) → AreDiagonalPieces corners piece first second → IsNearer corners (effort (piece ∷ pieces)) done (first ∷ second ∷ pieces)
  with_parts first second are = record {
    are_pieces = (are.first_is_piece, (are.second_is_piece, are_pieces));
    completes = λ ts fit cut us fit_too cut_too.
        subst (λ vs. Completes corners vs pieces) (sym (append_assoc done ts us))
        (completes (ts ++ us) (are.fits ts us fit fit_too) (are.cut ts us cut cut_too));
    less = let some = are.first_is_piece.polygon.some in let more = are.second_is_piece.polygon.some in omega (arith, are.lengths);
  }

  -- so it is nearer whatever is left of the piece
  pub nearer : (remains : Remains) (done_after : List Tri) (pieces_after : List (List ℕ)) → IsCutOf corners piece remains
      → IsTakenOver remains done pieces done_after pieces_after → IsNearer corners (effort (piece ∷ pieces)) done_after pieces_after
  nearer (Triangle tri) done_after pieces_after is taken =
      subst (λ ts. IsNearer corners (effort (piece ∷ pieces)) ts pieces_after) (sym taken.0)
      (subst (IsNearer corners (effort (piece ∷ pieces)) (done ++ tri ∷ [])) (sym taken.1) (with_triangle tri is))
  nearer (Ear tri rest) done_after pieces_after is taken =
      subst (λ ts. IsNearer corners (effort (piece ∷ pieces)) ts pieces_after) (sym taken.0)
      (subst (IsNearer corners (effort (piece ∷ pieces)) (done ++ tri ∷ [])) (sym taken.1) (with_ear tri rest.items is))
  nearer (Parts first second) done_after pieces_after is taken =
      subst (λ ts. IsNearer corners (effort (piece ∷ pieces)) ts pieces_after) (sym taken.0)
      (subst (IsNearer corners (effort (piece ∷ pieces)) done) (sym taken.1) (with_parts first.items second.items is))

-- a cut is allowed, with what is left of the piece
cut_allowed : (corners : List Point) (piece : List ℕ) (pieces : List (List ℕ)) (done : List Tri) (remains : Remains) (done_after : List Tri)
    (pieces_after : List (List ℕ)) → 3 ≤ length piece → IsCutOf corners piece remains → IsTakenOver remains done pieces done_after pieces_after
    → 260 * length piece + allowed pieces_after ≤ allowed (piece ∷ pieces) + 777
cut_allowed corners piece pieces done (Triangle tri) done_after pieces_after some is taken =
    let three : length piece ≡ 3 = sym is.fits.count in
    let none = ap (λ n. allowed_for (n - 3)) three in
    subst (λ ps. 260 * length piece + allowed ps ≤ allowed (piece ∷ pieces) + 777) (sym taken.1) (omega (arith, three, none, triangle_allowed))
cut_allowed corners piece pieces done (Ear tri rest) done_after pieces_after some is taken =
    let more = is.rest_is_piece.polygon.some in
    let m : ℕ = length rest.items - 3 in
    let size : length piece - 3 ≡ m + 1 = omega (arith, is.shorter, more) in
    subst (λ ps. 260 * length piece + allowed ps ≤ allowed (piece ∷ pieces) + 777) (sym taken.1)
    (omega (arith, is.shorter, more, ear_allowed m, ap allowed_for size))
cut_allowed corners piece pieces done (Parts first second) done_after pieces_after some is taken =
    let more = is.first_is_piece.polygon.some in
    let also = is.second_is_piece.polygon.some in
    let m : ℕ = length first.items - 3 in
    let n : ℕ = length second.items - 3 in
    let size : length piece - 3 ≡ m + n + 1 = omega (arith, is.lengths, more, also) in
    subst (λ ps. 260 * length piece + allowed ps ≤ allowed (piece ∷ pieces) + 777) (sym taken.1)
    (omega (arith, is.lengths, more, also, parts_allowed m n, ap allowed_for size))

-- ---- the work list

module _ (corners : List Point) where
  -- at the start it has the piece of all vertices
  pub at_start : (none work : List (Vec ℕ Global)) (piece : Vec ℕ Global) (done : List Tri) → none ≡ [] → work ≡ none ++ piece ∷ []
      → piece.items ≡ range_with_len 0 (length corners)
      → done ≡ [] → IsPiece corners (range_with_len 0 (length corners)) → ArePieces corners (last_first work) × Completes corners done (last_first work)
  at_start none work piece done none_is work_is piece_is done_is is_piece =
      subst (λ ws. ArePieces corners (last_first ws) × Completes corners done (last_first ws)) (sym (work_is ∙ ap (λ ws. ws ++ piece ∷ []) none_is))
      (subst (λ xs. ArePieces corners (xs ∷ []) × Completes corners done (xs ∷ [])) (sym piece_is)
      (subst (λ ts. ArePieces corners (range_with_len 0 (length corners) ∷ []) × Completes corners ts (range_with_len 0 (length corners) ∷ [])) (sym done_is)
      ((is_piece, tt), λ ts fit cut. (fit, cut))))

  -- and so much is allowed for it
  pub allowed_at_start : (none work : List (Vec ℕ Global)) (piece : Vec ℕ Global) → none ≡ [] → work ≡ none ++ piece ∷ []
      → piece.items ≡ range_with_len 0 (length corners) → allowed (last_first work) ≡ allowed_for (length corners - 3)
  allowed_at_start none work piece none_is work_is piece_is =
      let one : last_first work ≡ piece.items ∷ [] = ap last_first (work_is ∙ ap (λ ws. ws ++ piece ∷ []) none_is) in
      let size : length piece.items ≡ length corners = ap length piece_is ∙ length-range_with_len 0 (length corners) in
      let same = ap (λ n. allowed_for (n - 3)) size in
      let alone : allowed (piece.items ∷ []) ≡ allowed_for (length corners - 3) = omega (arith, same) in
      ap allowed one ∙ alone

  module _ (work rest : List (Vec ℕ Global)) (piece : Vec ℕ Global) (done : List Tri) (is : work ≡ rest ++ piece ∷ [])
      (so_far : ArePieces corners (last_first work) × Completes corners done (last_first work)) where
    -- the pieces are the last one and the others
    pieces_are : last_first work ≡ piece.items ∷ last_first rest
    pieces_are = ap last_first is ∙ last_first-push rest piece

    -- the last one is a piece
    last_is_piece : IsPiece corners piece.items
    last_is_piece = (subst (ArePieces corners) pieces_are so_far.0).0

    -- to cut it comes nearer
    pub one_step : (remains : Remains) (done_after : List Tri) (pieces_after : List (List ℕ)) → IsCutOf corners piece.items remains
        → IsTakenOver remains done (last_first rest) done_after pieces_after → IsNearer corners (effort (last_first work)) done_after pieces_after
    one_step remains done_after pieces_after is_cut taken =
        subst (λ n. IsNearer corners n done_after pieces_after) (sym (ap effort pieces_are))
        (nearer corners piece.items (last_first rest) done last_is_piece (subst (ArePieces corners) pieces_are so_far.0).1
        (subst (Completes corners done) pieces_are so_far.1) remains done_after pieces_after is_cut taken)

    -- and keeps within what is allowed,
    module _ (before after : ℕ) (most : after + 777 ≤ before + 260 * length piece.items) where
      pub allowed_before : (remains : Remains) (done_after : List Tri) (pieces_after : List (List ℕ)) → IsCutOf corners piece.items remains
          → IsTakenOver remains done (last_first rest) done_after pieces_after → after + allowed pieces_after ≤ before + allowed (last_first work)
      allowed_before remains done_after pieces_after is_cut taken =
          subst (λ ps. after + allowed pieces_after ≤ before + allowed ps) (sym pieces_are)
          (omega (
            arith,
            most,
            cut_allowed corners piece.items (last_first rest) done remains done_after pieces_after last_is_piece.polygon.some is_cut taken,
          ))

      -- also where memory is wanting
      pub allowed_once : after ≤ before + allowed (last_first work)
      allowed_once = subst (λ ps. after ≤ before + allowed ps) (sym pieces_are) (omega (arith, most, size_allowed (length piece.items)))

  -- in the end the triangles fit, as many as there are vertices but two, and are those into which the ring is cut
  pub at_end : (work : List (Vec ℕ Global)) (done : List Tri) → length work ≡ 0 → Completes corners done (last_first work)
      → Fits corners done × (length done + 2 ≡ length corners) × IsCutTriangulation corners done
  at_end [] done none (fits, cut) = (fits, fits.count ∙ length-range_with_len 0 (length corners), cut)
  at_end (v ∷ work) done none completes = absurd (omega arith)
