use Rattle.std.proofs.Common.{◌≡◌, sym, subst, ◌∙◌, ℕ, List, length}
use Rattle.meshes.specs.Side.{IsWalkBetween}
use Rattle.meshes.specs.Sleeve.{IsOneOf}
use Rattle.dual_tree.proofs.SightLines.{sees_through}
use Rattle.dual_tree.proofs.TreeWalks.{if_ok_both, if_ok_map, no_diagonal, one_walk}
use Rattle.dual_tree.proofs.sleeves.sleeve.Goals as goal
use Rattle.dual_tree.specs.Sight.{SeesThrough}

pub returns-clause-only : goal.returns-clause-only
returns-clause-only c =
    let tris = c.args.mesh.now in
    let found = c.in_ok-walk.walk.items in
    let between = c.in_ok-walk.ensures in
    if_ok_map c.along.result (λ sleeve. sleeve.walk ≡ found)
    (λ sleeve. (walk : List ℕ) → IsWalkBetween tris c.args.from c.args.to walk → walk ≡ sleeve.walk)
    c.along.ensures.walk
    (λ sleeve is walk w.
    one_walk tris c.args.from c.args.to c.count-count.ensures.tree c.requires.from c.requires.to found walk between w ∙ sym is)

pub returns-clause-same : goal.returns-clause-same
returns-clause-same c =
    let tris = c.args.mesh.now in
    let found = c.in_ok-walk.walk.items in
    let between = c.in_ok-walk.ensures in
    if_ok_both c.along.result (λ sleeve. sleeve.walk ≡ found) (IsOneOf tris)
    (λ sleeve. c.args.from ≡ c.args.to → length sleeve.diagonals ≡ 0)
    c.along.ensures.walk c.along.ensures.of_mesh
    (λ sleeve walk of_mesh same.
    no_diagonal tris c.args.from c.count-count.ensures.tree c.requires.from sleeve of_mesh (rw (walk, same) (rw same at between)))

pub returns-clause-sight : goal.returns-clause-sight
returns-clause-sight c =
    let tris = c.args.mesh.now in
    let found = c.in_ok-walk.walk.items in
    let between = c.in_ok-walk.ensures in
    if_ok_both c.along.result (λ sleeve. sleeve.walk ≡ found) (IsOneOf tris) (SeesThrough tris c.args.from c.args.to)
    c.along.ensures.walk c.along.ensures.of_mesh
    (λ sleeve walk of_mesh.
    sees_through tris sleeve of_mesh c.args.from c.args.to (subst (IsWalkBetween tris c.args.from c.args.to) (sym walk) between))
