use Rattle.std.proofs.Common.{◌≡◌, ◌+◌, ◌-◌, length, vec_capacity}
use Rattle.path_tree.proofs.GrownPaths.{IsGoneBack}
use Rattle.path_tree.proofs.tree.PathTree.chain_into.Given as goal

abbrev pub invariant-loop-before : goal.invariant-loop-before
invariant-loop-before l =
    IsGoneBack l.self l.fn.last l.at l.fn.out.items l.out.items × (l.given ≡ length l.fn.out.items)
    × (vec_capacity l.out ≡ vec_capacity l.fn.out)

abbrev pub decreases-loop-before : goal.decreases-loop-before
decreases-loop-before l = length l.self.before + l.given - length l.out.items
