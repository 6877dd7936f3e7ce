-- The pieces that are still to be cut, and how they and the triangles take over what a cut leaves. No public clause cites this
-- module.
use Rattle.std.specs.Prelude.{◌≡◌, ℕ, List, [], ◌∷◌, ◌++◌, map, reverse, Vec}
use Rattle.std.specs.declared.alloc.Global.{Global}
use Rattle.meshes.specs.declared.tri.Tri.{Tri}
use Rattle.cut_tri.specs.declared.cut.Remains.{Remains}
use Rattle.cut_tri.specs.declared.cut.Remains.TheVariants.{Triangle, Ear, Parts}

-- what a cut leaves is taken over: triangles come to those that are done, and pieces before those that are still to be cut
abbrev pub IsTakenOver : Remains → List Tri → List (List ℕ) → List Tri → List (List ℕ) → Type 0
IsTakenOver (Triangle tri) done pieces done_after pieces_after = (done_after ≡ done ++ tri ∷ []) × (pieces_after ≡ pieces)
IsTakenOver (Ear tri rest) done pieces done_after pieces_after = (done_after ≡ done ++ tri ∷ []) × (pieces_after ≡ rest.items ∷ pieces)
IsTakenOver (Parts first second) done pieces done_after pieces_after = (done_after ≡ done) × (pieces_after ≡ first.items ∷ second.items ∷ pieces)

-- the numbers of the pieces of a work list, of the last piece first
abbrev pub last_first : List (Vec ℕ Global) → List (List ℕ)
last_first work = reverse (map (λ piece. piece.items) work)
