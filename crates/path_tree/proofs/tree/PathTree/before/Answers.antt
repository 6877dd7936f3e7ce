use Rattle.std.proofs.Common.{sym, subst, ◌<◌, length}
use Rattle.path_tree.proofs.GrownPaths.{kept_vertex}
use Rattle.path_tree.specs.Grown.{IsFromNamed, IsKept, kept_point}
use Rattle.path_tree.proofs.tree.PathTree.before.Goals as goal

pub returns-in-Corner : goal.returns-in-Corner
returns-in-Corner c = record {
  before = λ corners start tris grown.
      let result = c.parent.result in
      let below : c.in-Corner.i < length c.args.self.now.before = subst (IsKept c.args.self.now) c.in-Corner.is c.requires.kept in
      subst (λ at. IsFromNamed corners start (kept_point corners start at) result) (sym c.in-Corner.is)
      (subst (λ p. IsFromNamed corners start p result) (kept_vertex corners start tris c.args.self.now grown c.in-Corner.i below)
      (c.parent.ensures corners start tris grown));
}
