use Rattle.std.proofs.Common.{rules, length-append}
use Rattle.shared_seq.specs.Tree.{IsBalancedTree, tree_at}
use Rattle.shared_seq.proofs.Heights.{fork_is_tree}
use Rattle.shared_seq.proofs.node.Node.between.Goals as goal

pub invariant_of-node : goal.invariant_of-node
invariant_of-node g c =
    let left : IsBalancedTree (tree_at c.args.left) = search rules in
    let right : IsBalancedTree (tree_at c.args.right) = search rules in
    let before = c.of-children.ensures.before in
    let after = c.of-children.ensures.after in
    record {
      height_is = search rules;
      count_is = search (rules, length-append);
      near = rw (before, after) c.requires.near;
      tree = rw (before, after) (fork_is_tree (tree_at c.args.left) (tree_at c.args.right) c.args.value left right c.requires.near c.requires.short);
    }
