-- What a list keeps beside its tree. No public clause cites it.
use Rattle.std.specs.Prelude.{◌≡◌, ℕ, Option, length}
use Rattle.std.specs.declared.rc.Rc.{Rc}
use Rattle.shared_seq.specs.Tree.{IsBalancedTree, Tree, tree_at}

-- the length is that of the tree, which is balanced
pub record IsSeq {A : Type 0} (root : Option (Rc Tree A)) (len : ℕ) : Type 0 where
  pub len_is : len ≡ length (tree_at root).items
  pub tree : IsBalancedTree (tree_at root)
