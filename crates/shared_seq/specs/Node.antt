-- What a node of the tree holds, and what a node keeps beside it. No public clause cites it.
use Rattle.std.specs.Prelude.{◌≡◌, ℕ, length}
use Rattle.shared_seq.specs.Tree.{DifferByAtMost, IsBalancedTree, Tree, empty_tree, forked}
use Rattle.shared_seq.specs.declared.node.Children.{Children}
use Rattle.shared_seq.specs.declared.node.Children.TheVariants.{Neither, Left, Right, Both}

-- the trees before and after the value of a node
abbrev pub tree_before : Children → Tree
tree_before Neither = empty_tree
tree_before (Left l) = l.value
tree_before (Right r) = empty_tree
tree_before (Both l r) = l.value

abbrev pub tree_after : Children → Tree
tree_after Neither = empty_tree
tree_after (Left l) = empty_tree
tree_after (Right r) = r.value
tree_after (Both l r) = r.value

-- the tree of a node
abbrev pub tree_of : Children → ℕ → Tree
tree_of children value = forked (tree_before children) value (tree_after children)

-- the height and the count are those of the tree, which is balanced
pub record IsNode (children : Children) (value height count : ℕ) : Type 0 where
  pub height_is : height ≡ (tree_of children value).height
  pub count_is : count ≡ length (tree_of children value).items
  pub near : DifferByAtMost 1 (tree_before children).height (tree_after children).height
  pub tree : IsBalancedTree (tree_of children value)
