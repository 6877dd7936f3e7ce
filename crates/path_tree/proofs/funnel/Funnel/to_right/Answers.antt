use Rattle.std.proofs.Common.{◌≡◌, sym, ap, subst, ◌∙◌, ◌+◌, [], ◌∷◌, ◌++◌, min, take}
use Rattle.path_tree.proofs.FunnelNumbers.{funnel_to_right}
use Rattle.path_tree.proofs.funnel.Funnel.to_right.Goals as goal
use Rattle.path_tree.specs.Listed.{IsFunnelAt}

pub returns-clause-funnel : goal.returns-clause-funnel
returns-clause-funnel g c corners start tris k i j next d fits beyond w reached shared =
    let f = c.args.self.now in
    let list_is : c.in_ok-take_then.field-0 ≡ take (c.args.place + 1) f.list ++ c.args.m ∷ [] =
    c.in_ok-take_then.ensures.list ∙ ap (λ l. take (c.args.place + 1) l.list ++ c.args.m ∷ []) c.self.view_is in
    let apex_is : c.min.result ≡ min f.apex c.args.place = c.min.ensures ∙ ap (λ l. min l.apex c.args.place) c.self.view_is in
    subst (IsFunnelAt corners start i c.args.m (d + 1)) (λ t. record { list = sym list_is t; apex = sym apex_is t })
    (funnel_to_right corners start tris k i j c.args.m next d fits beyond f w c.args.place reached shared)
