-- Trees that are made of the parts of another one, and how high they are.
use Rattle.std.proofs.Common.{◌≡◌, ℕ, ◌+◌, ◌<◌, ◌≤◌, max, List, ◌∷◌, ◌++◌, inl, inr, refl, sym, ◌∙◌, ap, append_assoc, length, length-append, arith}
use Rattle.std.proofs.lemmas.Bool.{cases_lt}
use Rattle.shared_seq.specs.Tree.{DifferByAtMost, IsFork, IsGrownHeight, IsJoinedTree, IsTurnedTree, Tree, around}
use Rattle.shared_seq.specs.declared.side.Side.{Side}
use Rattle.shared_seq.specs.declared.side.Side.TheVariants.{Left, Right}

-- of three lists with a value between each two, the last two may be put together first
around_twice : (s : Side) (xs ys zs : List ℕ) (v w : ℕ) → around s xs v (around s ys w zs) ≡ around s (around s xs v ys) w zs
around_twice Left xs ys zs v w = sym (append_assoc xs (v ∷ ys) (w ∷ zs))
around_twice Right xs ys zs v w = append_assoc zs (w ∷ ys) (v ∷ xs)

-- two lists and a value between have so many values
pub around_length : (s : Side) (xs ys : List ℕ) (v : ℕ) → length (around s xs v ys) ≡ length xs + length ys + 1
around_length Left xs ys v = omega (arith, length-append xs (v ∷ ys))
around_length Right xs ys v = omega (arith, length-append ys (v ∷ xs))

-- a fork is a tree that is joined
pub fork_joined : (s : Side) (one other tree : Tree) (value : ℕ) → IsFork s one value other tree → IsJoinedTree s one value other tree
fork_joined s one other tree value fork = record {
  items = fork.items;
  not_lower = omega (arith, fork.height);
  at_most_one_higher = omega (arith, fork.height);
  as_fork = λ near. fork.height;
}

module _ (s : Side) (outer inner high low : Tree) (middle value : ℕ) (fork : IsFork s outer middle inner high) where
  -- what is made of its outer part and of a tree with the values of its inner part and more has all values
  values : (new : List ℕ) (t : List ℕ) → new ≡ around s inner.items value low.items → t ≡ around s outer.items middle new → t ≡ around s high.items value low.items
  values new t is all = all ∙ ap (around s outer.items middle) is ∙ around_twice s outer.items inner.items low.items middle value
      ∙ ap (λ xs. around s xs value low.items) (sym fork.items)

  -- a tree two higher than another one, turned where its outer part is not lower,
  pub turned_once : (new t : Tree) → high.height ≡ low.height + 2 → inner.height ≤ outer.height → IsFork s inner value low new → IsFork s outer middle new t
      → IsJoinedTree s high value low t
  turned_once new t two not_lower is all = record {
    items = values new.items t.items is.items all.items;
    not_lower = omega (arith, fork.height, is.height, all.height);
    at_most_one_higher = omega (arith, fork.height, is.height, all.height);
    as_fork = λ near. absurd (omega (arith, near.0));
  }

  -- and where it is lower
  pub turned_twice : (t : Tree) → high.height ≡ low.height + 2 → outer.height < inner.height → IsTurnedTree s outer middle inner value low t
      → IsJoinedTree s high value low t
  turned_twice t two lower is = record {
    items = values (around s inner.items value low.items) t.items refl is.items;
    not_lower = omega (arith, fork.height, is.height);
    at_most_one_higher = omega (arith, fork.height, is.height);
    as_fork = λ near. absurd (omega (arith, near.0));
  }

  -- a tree that is joined to the inner part of a higher one
  pub hung : (new t : Tree) → low.height + 1 < high.height → IsJoinedTree s inner value low new → IsJoinedTree s outer middle new t
      → IsJoinedTree s high value low t
  hung new t lower is all = record {
    items = values new.items t.items is.items all.items;
    not_lower = elim (cases_lt (outer.height + 1) new.height) [
      | inl apart ↦ omega (arith, fork.height, fork.near.1, is.at_most_one_higher, all.not_lower)
      | inr near ↦ omega (arith, fork.height, fork.near.0, fork.near.1, is.not_lower, all.as_fork (omega (arith, fork.near.0, is.not_lower), near))
    ];
    at_most_one_higher = omega (arith, fork.height, fork.near.0, is.at_most_one_higher, all.at_most_one_higher);
    as_fork = λ near. absurd (omega (arith, near.0));
  }

-- the fork of two forks over the parts of a tree and one more on each side
pub turned_inner : (s : Side) (outer first second inner low one other t : Tree) (middle top value : ℕ) → IsFork s first top second inner
    → inner.height ≡ outer.height + 1 → inner.height ≡ low.height + 1 → IsFork s outer middle first one → IsFork s second value low other
    → IsFork s one top other t → IsTurnedTree s outer middle inner value low t
turned_inner s outer first second inner low one other t middle top value fork higher over is_one is_other all = record {
  items = all.items ∙ ap (λ xs. around s xs top other.items) is_one.items ∙ sym (around_twice s outer.items first.items other.items middle top)
      ∙ ap (λ xs. around s outer.items middle (around s first.items top xs)) is_other.items
      ∙ ap (around s outer.items middle) (around_twice s first.items second.items low.items top value ∙ ap (λ xs. around s xs value low.items) (sym fork.items));
  height = omega (arith, fork.height, is_one.height, is_other.height, all.height);
}

-- two trees that differ by at most one, joined around the first value of the second one
module _ (left right rest t : Tree) (first : ℕ) (parts : right.items ≡ first ∷ rest.items) (all : IsJoinedTree Left left first rest t) where
  pub joined_items : t.items ≡ left.items ++ right.items
  joined_items = all.items ∙ ap (λ xs. left.items ++ xs) (sym parts)

pub joined_height : (left right rest t : Tree) (first : ℕ) → DifferByAtMost 1 left.height right.height → IsGrownHeight rest.height right.height
    → IsJoinedTree Left left first rest t → IsGrownHeight t.height (max left.height right.height + 1)
joined_height left right rest t first near grown all = elim (cases_lt (rest.height + 1) left.height) [
  | inl apart ↦ (omega (arith, near.0, near.1, grown.0, grown.1, all.at_most_one_higher), omega (arith, near.0, near.1, grown.0, grown.1, all.not_lower))
  | inr close ↦
      let height = all.as_fork (close, omega (arith, near.1, grown.0)) in
      (omega (arith, near.0, near.1, grown.0, grown.1, height), omega (arith, near.0, near.1, grown.0, grown.1, height))
]

-- a tree whose left part is without its first value
pub without_first : (left right rest tree t : Tree) (first value : ℕ) → IsFork Left left value right tree → left.items ≡ first ∷ rest.items
    → IsJoinedTree Left rest value right t → tree.items ≡ first ∷ t.items
without_first left right rest tree t first value fork parts all =
    fork.items ∙ ap (λ xs. xs ++ value ∷ right.items) parts ∙ ap (λ xs. first ∷ xs) (sym all.items)

pub without_first_height : (left right rest tree t : Tree) (value : ℕ) → IsFork Left left value right tree → IsGrownHeight rest.height left.height
    → IsJoinedTree Left rest value right t → IsGrownHeight t.height tree.height
without_first_height left right rest tree t value fork grown all = elim (cases_lt (rest.height + 1) right.height) [
  | inl apart ↦ (
    omega (arith, fork.height, fork.near.1, grown.0, grown.1, all.at_most_one_higher),
    omega (arith, fork.height, fork.near.1, grown.0, grown.1, all.not_lower),
  )
  | inr close ↦
      let height = all.as_fork (omega (arith, fork.near.0, grown.0), close) in
      (omega (arith, fork.height, grown.0, grown.1, height), omega (arith, fork.height, grown.0, grown.1, height))
]
