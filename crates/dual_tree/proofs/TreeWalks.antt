-- Walks in a tree: there is one between each two triangles.
use Rattle.std.proofs.Common.{◌≡◌, refl, sym, ap, ◌∙◌, ℕ, ◌<◌, List, [], ◌∷◌, length, arith}
use Rattle.std.specs.Prelude.{Err, IfOk, Ok, Result}
use Rattle.meshes.proofs.Walks.{between_of_path}
use Rattle.meshes.specs.Side.{IsTree, IsWalkBetween}
use Rattle.meshes.specs.Sleeve.{IsOneOf, Sleeve}
use Rattle.meshes.specs.declared.tri.Tri.{Tri}

-- what follows where a call succeeds
pub if_ok_map : {T E : Type 0} (r : Result T E) (P Q : T → Type 0) → IfOk r P → ((x : T) → P x → Q x) → IfOk r Q
if_ok_map (Ok x) P Q p f = f x p
if_ok_map (Err e) P Q p f = tt

pub if_ok_both : {T E : Type 0} (r : Result T E) (P Q R : T → Type 0) → IfOk r P → IfOk r Q → ((x : T) → P x → Q x → R x) → IfOk r R
if_ok_both (Ok x) P Q R p q f = f x p q
if_ok_both (Err e) P Q R p q f = tt

-- two walks between two triangles of a tree are one
pub one_walk : (tris : List Tri) (from to : ℕ) → IsTree tris → from < length tris → to < length tris → (walk other : List ℕ)
    → IsWalkBetween tris from to walk → IsWalkBetween tris from to other → other ≡ walk
one_walk tris from to tree from_below to_below walk other w v =
    let one = tree from to from_below to_below in one.only other v ∙ sym (one.only walk w)

-- so a sleeve from a triangle to itself has no diagonal
pub no_diagonal : (tris : List Tri) (k : ℕ) → IsTree tris → k < length tris → (s : Sleeve) → IsOneOf tris s → IsWalkBetween tris k k s.walk
    → length s.diagonals ≡ 0
no_diagonal tris k tree below s is w =
    let alone : s.walk ≡ k ∷ [] = one_walk tris k k tree below below (k ∷ []) s.walk (between_of_path tris k [] k below refl) w in
    let long : length s.walk ≡ 1 = ap length alone in
    omega (arith, is.count)
