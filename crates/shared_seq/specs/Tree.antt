-- A height-balanced tree as its values in order and its height (Adelson-Velsky and Landis 1962). No public clause cites it.
use Rattle.std.specs.Prelude.{◌≡◌, ℕ, ◌+◌, ◌-◌, ◌*◌, ◌^◌, ◌<◌, ◌≤◌, max, List, [], ◌∷◌, ◌++◌, drop, length, take, Option, Some, None, option_copied}
use Rattle.std.specs.Borrow.{Bor}
use Rattle.std.specs.declared.rc.Rc.{Rc}
use Rattle.shared_seq.specs.declared.side.Side.{Side}
use Rattle.shared_seq.specs.declared.side.Side.TheVariants.{Left, Right}

pub record Tree : Type 0 where
  pub items : List ℕ
  pub height : ℕ

-- the tree with no value
abbrev pub empty_tree : Tree
empty_tree = record { items = []; height = 0 }

-- the tree below a node, the one with no value where there is no node
abbrev pub tree_at : {A : Type 0} → Option (Rc Tree A) → Tree
tree_at None = empty_tree
tree_at (Some root) = root.value

-- and where the node is lent
abbrev pub lent_at : {A : Type 0} → Option (Bor (Rc Tree A)) → Tree
lent_at root = tree_at (option_copied root)

-- it has not too many values, and its height is small beside their number
pub record IsBalancedTree (tree : Tree) : Type 0 where
  pub short : length tree.items < 2 ^ 31
  pub full : 2 ^ tree.height ≤ (length tree.items + 1) * (length tree.items + 1)
  pub low : tree.height < 63

-- neither height is more than this above the other
abbrev pub DifferByAtMost : ℕ → ℕ → ℕ → Type 0
DifferByAtMost by l r = (l ≤ r + by) × (r ≤ l + by)

-- there is room for a value between two trees, and neither is more than this above the other
pub record HaveRoomBetween (by : ℕ) (one other : Tree) : Type 0 where
  pub short : length one.items + length other.items + 1 < 2 ^ 31
  pub near : DifferByAtMost by one.height other.height

-- a fork over two trees, with a value between
abbrev pub forked : Tree → ℕ → Tree → Tree
forked l v r = record { items = l.items ++ v ∷ r.items; height = max l.height r.height + 1 }

abbrev pub other_tree_side : Side → Side
other_tree_side Left = Right
other_tree_side Right = Left

-- two lists with a value between, the first one given on this side
abbrev pub around : Side → List ℕ → ℕ → List ℕ → List ℕ
around Left xs v ys = xs ++ v ∷ ys
around Right xs v ys = ys ++ v ∷ xs

-- a tree is a fork over two and a value, the first one given on this side
pub record IsFork (side : Side) (one : Tree) (value : ℕ) (other tree : Tree) : Type 0 where
  pub items : tree.items ≡ around side one.items value other.items
  pub height : tree.height ≡ max one.height other.height + 1
  pub near : DifferByAtMost 1 one.height other.height
  pub long : length tree.items ≡ length one.items + length other.items + 1
  pub short : length tree.items < 2 ^ 31

-- where the gap before place i of two lists with a value between is, the first one given on this side: before this place of that one
abbrev pub IsGapInPart : Side → List ℕ → List ℕ → ℕ → ℕ → Type 0
IsGapInPart Left part other i at = (at ≡ i) × (i ≤ length part)
IsGapInPart Right part other i at = i ≡ length other + (at + 1)

-- the part of a fork, on this side, that the gap before place i of the tree is in, before this place, and the other part
pub record IsWay (tree : Tree) (i : ℕ) (side : Side) (part : Tree) (value : ℕ) (other : Tree) (at : ℕ) : Type 0 where
  pub fork : IsFork side part value other tree
  pub place : IsGapInPart side part.items other.items i at

-- a tree with the values of two and one between, the first one given on this side, as high as the higher one or one more; where
-- the two differ by at most one, as high as a fork over them
pub record IsJoinedTree (side : Side) (one : Tree) (value : ℕ) (other tree : Tree) : Type 0 where
  pub items : tree.items ≡ around side one.items value other.items
  pub not_lower : max one.height other.height ≤ tree.height
  pub at_most_one_higher : tree.height ≤ max one.height other.height + 1
  pub as_fork : DifferByAtMost 1 one.height other.height → tree.height ≡ max one.height other.height + 1

-- a tree with the values of three and one between each two, the first one given on this side, one higher than the one in the middle
pub record IsTurnedTree (side : Side) (outer : Tree) (middle : ℕ) (inner : Tree) (value : ℕ) (low tree : Tree) : Type 0 where
  pub items : tree.items ≡ around side outer.items middle (around side inner.items value low.items)
  pub height : tree.height ≡ inner.height + 1

-- the first i values of a list and then this one, where the left side is kept, or this one and then the rest; and how many they are
abbrev pub kept_items : Side → ℕ → ℕ → List ℕ → List ℕ
kept_items Left i value items = take i items ++ value ∷ []
kept_items Right i value items = value ∷ drop i items

abbrev pub kept_length : Side → ℕ → ℕ → ℕ
kept_length Left i n = i + 1
kept_length Right i n = n - i + 1

-- a tree with these values of another one, at most one higher
pub record IsKeptPart (kept : Side) (tree : Tree) (i value : ℕ) (piece : Tree) : Type 0 where
  pub items : piece.items ≡ kept_items kept i value tree.items
  pub long : length piece.items ≡ kept_length kept i (length tree.items)
  pub at_most_one_higher : piece.height ≤ tree.height + 1

-- the height after one more value: as before, or one more
abbrev pub IsGrownHeight : ℕ → ℕ → Type 0
IsGrownHeight before after = (before ≤ after) × (after ≤ before + 1)
