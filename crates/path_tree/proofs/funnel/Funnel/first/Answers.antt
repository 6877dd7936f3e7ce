use Rattle.std.proofs.Common.{sym, ap, subst, ◌∙◌, [], ◌∷◌, ◌++◌, arith}
use Rattle.std.proofs.lemmas.Bool.{false≢true}
use Rattle.rings.proofs.Vertices.{vertex_in_range}
use Rattle.rings.specs.Ring.{origin}
use Rattle.path_tree.proofs.FunnelNumbers.{first_at_left, first_at_right, first_between}
use Rattle.path_tree.proofs.funnel.Funnel.first.Goals as goal
use Rattle.path_tree.specs.Listed.{IsFunnelAt}

pub returns-then-same-clause-funnel : goal.returns-then-same-clause-funnel
returns-then-same-clause-funnel g c tris home next fits in_start shared =
    let corners = g.T.Turns.corners c.args.board.now in
    let start = g.T.Turns.start c.args.board.now in
    let there = c.same.ensures.same.0 c.if-same.true
    ∙ sym (vertex_in_range corners c.args.left origin (omega (arith, c.requires.left, c.requires.count))) in
    subst (λ l. IsFunnelAt corners start c.args.left c.args.right 1 (record { list = l; apex = 0 }))
    (sym (c.in_ok-list.ensures.list ∙ ap (λ l. l ++ c.args.right ∷ []) c.in_ok-source.ensures.list))
    (first_at_left corners start tris home next c.args.left c.args.right fits in_start shared c.args.n c.requires.count there)

pub returns-then-same-2-clause-funnel : goal.returns-then-same-2-clause-funnel
returns-then-same-2-clause-funnel g c tris home next fits in_start shared =
    let corners = g.T.Turns.corners c.args.board.now in
    let start = g.T.Turns.start c.args.board.now in
    let there = c.same-2.ensures.same.0 c.if-same-2.true
    ∙ sym (vertex_in_range corners c.args.right origin (omega (arith, c.requires.right, c.requires.count))) in
    subst (λ l. IsFunnelAt corners start c.args.left c.args.right 1 (record { list = l; apex = 1 }))
    (sym (c.in_ok-front.ensures.list ∙ ap (λ l. c.args.left ∷ l) c.in_ok-source.ensures.list))
    (first_at_right corners start tris home next c.args.left c.args.right fits in_start shared c.args.n c.requires.count there)

pub returns-clause-funnel : goal.returns-clause-funnel
returns-clause-funnel g c tris home next fits in_start shared =
    let corners = g.T.Turns.corners c.args.board.now in
    let start = g.T.Turns.start c.args.board.now in
    let left_is = vertex_in_range corners c.args.left origin (omega (arith, c.requires.left, c.requires.count)) in
    let right_is = vertex_in_range corners c.args.right origin (omega (arith, c.requires.right, c.requires.count)) in
    subst (λ l. IsFunnelAt corners start c.args.left c.args.right 1 (record { list = l; apex = 1 }))
    (sym (c.in_ok-list-2.ensures.list ∙ ap (λ l. l ++ c.args.right ∷ []) (c.in_ok-front.ensures.list
    ∙ ap (λ l. c.args.left ∷ l) c.in_ok-source.ensures.list)))
    (first_between corners start tris home next c.args.left c.args.right fits in_start shared c.args.n c.requires.count
    (λ same. false≢true (sym c.if-same.false ∙ c.same.ensures.same.1 (same ∙ left_is)))
    (λ same. false≢true (sym c.if-same-2.false ∙ c.same-2.ensures.same.1 (same ∙ right_is))))
