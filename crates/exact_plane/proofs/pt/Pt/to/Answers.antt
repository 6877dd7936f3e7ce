-- The difference of two coordinates fits, since both are within the limit.
use Rattle.std.proofs.Common.{◌≡◌, ap, arith}
use Rattle.std.proofs.lemmas.Int.{ints}
use Rattle.plane.specs.Point.{Point}
use Rattle.exact_plane.proofs.pt.Pt.to.Goals as goal

pub returns-clause-x : goal.returns-clause-x
returns-clause-x c =
    let here : c.self.inside.x ≡ c.args.self.now.x = ap (λ (p : Point). p.x) c.self.view_is in
    let there : c.other.inside.x ≡ c.args.other.now.x = ap (λ (p : Point). p.x) c.other.view_is in
    omega (arith, ints)

pub returns-clause-y : goal.returns-clause-y
returns-clause-y c =
    let here : c.self.inside.y ≡ c.args.self.now.y = ap (λ (p : Point). p.y) c.self.view_is in
    let there : c.other.inside.y ≡ c.args.other.now.y = ap (λ (p : Point). p.y) c.other.view_is in
    omega (arith, ints)
