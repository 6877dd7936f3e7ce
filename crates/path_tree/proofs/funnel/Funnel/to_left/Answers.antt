use Rattle.std.proofs.Common.{◌≡◌, sym, ap, subst, ◌∙◌, ◌+◌, ◌-◌, ◌∷◌, drop, arith}
use Rattle.path_tree.proofs.FunnelNumbers.{funnel_to_left}
use Rattle.path_tree.proofs.funnel.Funnel.to_left.Goals as goal
use Rattle.path_tree.specs.Listed.{IsFunnelAt}

pub returns-clause-funnel : goal.returns-clause-funnel
returns-clause-funnel g c corners start tris k i j next d fits beyond w reached shared =
    let f = c.args.self.now in
    let list_is : c.in_ok-then_skip.field-0 ≡ c.args.m ∷ drop c.args.place f.list =
    c.in_ok-then_skip.ensures.list ∙ ap (λ l. c.args.m ∷ drop c.args.place l.list) c.self.view_is in
    subst (λ a. IsFunnelAt corners start c.args.m j (d + 1) (record { list = c.in_ok-then_skip.field-0; apex = a }))
    (omega (arith, c.saturating_sub.ensures, ap (λ l. l.apex) c.self.view_is))
    (subst (λ l. IsFunnelAt corners start c.args.m j (d + 1) (record { list = l; apex = f.apex - c.args.place + 1 })) (sym list_is)
    (funnel_to_left corners start tris k i j c.args.m next d fits beyond f w c.args.place reached shared))
