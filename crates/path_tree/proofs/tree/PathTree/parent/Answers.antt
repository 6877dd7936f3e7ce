use Rattle.std.proofs.Common.{◌≡◌, sym, ap, subst, ◌∙◌, None, length, arith}
use Rattle.std.proofs.lemmas.List.{get_or_read}
use Rattle.rings.specs.Ring.{vertex}
use Rattle.path_tree.specs.Grown.{IsFromNamed, before_at}
use Rattle.path_tree.proofs.tree.PathTree.parent.Goals as goal

pub returns : goal.returns
returns c corners start tris grown =
    let tree = c.args.self.now in
    let i = c.args.i in
    let before = c.self.inside.before.items in
    let same = c.self.view_is in
    let read : before_at tree i ≡ c.index.result.now =
    ap (λ t. before_at t i) (sym same)
    ∙ sym (get_or_read before i c.index.result.now (omega (arith, c.requires, ap (λ t. length t.before) same)) c.index.ensures None) in
    subst (IsFromNamed corners start (vertex corners i)) read (grown.parents i (omega (arith, c.requires, grown.vertices)))
