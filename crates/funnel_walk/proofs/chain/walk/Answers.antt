use Rattle.std.proofs.Common.{◌≡◌, sym, ap, subst, ◌∙◌, ◌-◌, ◌++◌, [], ◌∷◌, length, get_or, arith}
use Rattle.std.proofs.lemmas.Bool.{false≢true}
use Rattle.plane.specs.Point.{whole}
use Rattle.meshes.specs.Fits.{IsInTri}
use Rattle.meshes.specs.Side.{tri_at}
use Rattle.exact_plane.specs.declared.turns.Spot.TheVariants.{Goal}
use Rattle.funnel_walk.proofs.PathNames.{own_names, path_named}
use Rattle.funnel_walk.proofs.ShortWalks.{goes_named, stays_named}
use Rattle.funnel_walk.proofs.chain.walk.Given.{Over}
use Rattle.funnel_walk.proofs.chain.walk.Goals as goal
use Rattle.funnel_walk.specs.Walked.{AppendsTaut}

-- where the two points are one, the start's name is all
stays : (g : Over) (c : goal.After-push_reserved g) → AppendsTaut (g.T.Turns.corners c.args.board.now) (g.T.Turns.start c.args.board.now)
    (g.T.Turns.goal c.args.board.now) c.args.out.now.items c.push_reserved.new.self.items
stays g c =
    let walk = c.requires.of_mesh.walk in
    stays_named _ _ c.requires.fits _ (walk.in_list 0 walk.some) _ _ c.requires.start (c.same.ensures.same.0 c.if-same.true) _ _
    c.push_reserved.ensures.items

pub returns-then-same-clause-path : goal.returns-then-same-clause-path
returns-then-same-clause-path g c = path_named _ _ c.requires.fits _ _ _ _ (stays g c)

pub returns-then-same-clause-own_names : goal.returns-then-same-clause-own_names
returns-then-same-clause-own_names g c = own_names _ _ c.requires.fits _ _ _ _ (stays g c)

-- and where they are in one triangle, both names
goes : (g : Over) (c : goal.After-push_reserved-then-len-eq0-2 g) → AppendsTaut (g.T.Turns.corners c.args.board.now)
    (g.T.Turns.start c.args.board.now) (g.T.Turns.goal c.args.board.now) c.args.out.now.items c.push_reserved-then-len-eq0-2.new.self.items
goes g c =
    let walk = c.requires.of_mesh.walk in
    let triangles = c.args.sleeve.now.walk in
    let one : length triangles - 1 ≡ 0 = omega (arith, c.requires.of_mesh.count, c.len.ensures.number, c.if-len-eq0.true) in
    goes_named _ _ c.requires.fits _ (walk.in_list 0 walk.some) _ _ c.requires.start
    (λ same. false≢true (sym c.if-same.false ∙ c.same.ensures.same.1 same))
    (subst (λ i. IsInTri (g.T.Turns.corners c.args.board.now) (tri_at c.args.mesh.now (get_or triangles i 0)) (whole (g.T.Turns.goal c.args.board.now))) one
    c.requires.goal) _ _
    (c.push_reserved-then-len-eq0-2.ensures.items ∙ ap (λ ns. ns ++ Goal ∷ []) c.push_reserved-then-len-eq0.ensures.items)

pub returns-then-len-eq0-clause-path : goal.returns-then-len-eq0-clause-path
returns-then-len-eq0-clause-path g c = path_named _ _ c.requires.fits _ _ _ _ (goes g c)

pub returns-then-len-eq0-clause-own_names : goal.returns-then-len-eq0-clause-own_names
returns-then-len-eq0-clause-own_names g c = own_names _ _ c.requires.fits _ _ _ _ (goes g c)

pub returns-else-len-eq0-clause-path : goal.returns-else-len-eq0-clause-path
returns-else-len-eq0-clause-path g c = path_named _ _ c.requires.fits _ _ _ _ c.walk_on.ensures.taut

pub returns-else-len-eq0-clause-own_names : goal.returns-else-len-eq0-clause-own_names
returns-else-len-eq0-clause-own_names g c = own_names _ _ c.requires.fits _ _ _ _ c.walk_on.ensures.taut
