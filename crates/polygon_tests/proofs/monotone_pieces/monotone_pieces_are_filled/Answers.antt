use Rattle.std.proofs.Common.{[], ◌∷◌, refl}
use Rattle.polygon_tests.proofs.monotone_pieces.KnownPieces.{piece_row}
use Rattle.polygon_tests.proofs.monotone_pieces.monotone_pieces_are_filled.Goals as goal

pub has_triangles-requires : goal.has_triangles-requires
has_triangles-requires g c = record { row = piece_row _ _ [] (0 ∷ 1 ∷ 2 ∷ []) 0 (1 ∷ []) 2 [] refl refl refl refl refl refl refl }

pub has_triangles-requires-2 : goal.has_triangles-requires-2
has_triangles-requires-2 g c = record { row = piece_row _ _ [] (0 ∷ 1 ∷ 2 ∷ 4 ∷ 3 ∷ []) 0 (1 ∷ 2 ∷ []) 4 (3 ∷ []) refl refl refl refl refl refl refl }

pub has_triangles-requires-3 : goal.has_triangles-requires-3
has_triangles-requires-3 g c = record { row = piece_row _ _ [] (0 ∷ 1 ∷ 4 ∷ 3 ∷ 2 ∷ []) 0 (1 ∷ []) 4 (3 ∷ 2 ∷ []) refl refl refl refl refl refl refl }

pub has_triangles-requires-4 : goal.has_triangles-requires-4
has_triangles-requires-4 g c = record { row = piece_row _ _ [] (0 ∷ 1 ∷ 2 ∷ 3 ∷ 4 ∷ []) 0 (1 ∷ 2 ∷ 3 ∷ []) 4 [] refl refl refl refl refl refl refl }

pub has_triangles-requires-5 : goal.has_triangles-requires-5
has_triangles-requires-5 g c = record { row = piece_row _ _ (4 ∷ 3 ∷ 2 ∷ 1 ∷ []) (0 ∷ []) 0 [] 4 (3 ∷ 2 ∷ 1 ∷ []) refl refl refl refl refl refl refl }

pub has_triangles-requires-6 : goal.has_triangles-requires-6
has_triangles-requires-6 g c = record { row = piece_row _ _ [] (0 ∷ 1 ∷ 2 ∷ 3 ∷ 4 ∷ 5 ∷ []) 0 (1 ∷ 2 ∷ 3 ∷ 4 ∷ []) 5 [] refl refl refl refl refl refl refl }

pub has_triangles-requires-7 : goal.has_triangles-requires-7
has_triangles-requires-7 g c = record { row = piece_row _ _ [] (0 ∷ 1 ∷ 3 ∷ 5 ∷ 6 ∷ 4 ∷ 2 ∷ []) 0 (1 ∷ 3 ∷ 5 ∷ []) 6 (4 ∷ 2 ∷ []) refl refl refl refl refl refl refl }

pub has_triangles-requires-8 : goal.has_triangles-requires-8
has_triangles-requires-8 g c = record { row = piece_row _ _ (5 ∷ 6 ∷ 4 ∷ 2 ∷ []) (0 ∷ 1 ∷ 3 ∷ []) 0 (1 ∷ 3 ∷ 5 ∷ []) 6 (4 ∷ 2 ∷ []) refl refl refl refl refl refl refl }

pub has_triangles-requires-9 : goal.has_triangles-requires-9
has_triangles-requires-9 g c = record { row = piece_row _ _ [] (0 ∷ 3 ∷ 5 ∷ 6 ∷ 7 ∷ 4 ∷ 2 ∷ 1 ∷ []) 0 (3 ∷ 5 ∷ 6 ∷ []) 7 (4 ∷ 2 ∷ 1 ∷ []) refl refl refl refl refl refl refl }

pub has_triangles-requires-10 : goal.has_triangles-requires-10
has_triangles-requires-10 g c = record { row = piece_row _ _ (5 ∷ []) (2 ∷ 4 ∷ []) 2 (4 ∷ []) 5 [] refl refl refl refl refl refl refl }
