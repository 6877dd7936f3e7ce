-- A cursor on each chain of a monotone piece. No public clause cites this module. This project's own.
use Rattle.std.specs.Prelude.{ℕ, ◌+◌, List, [], ◌∷◌, ◌++◌, reverse, take, drop, slice_index}
use Rattle.mono_fill.specs.declared.side.Side.{Side}
use Rattle.mono_fill.specs.declared.side.Side.TheVariants.{Lower, Upper}

-- a list, counted round from a place on
abbrev pub read_from : ℕ → List ℕ → List ℕ
read_from place xs = drop place xs ++ take place xs

-- read the other way round from its first item
abbrev pub turned : List ℕ → List ℕ
turned [] = []
turned (x ∷ xs) = x ∷ reverse xs

-- a piece, read from its least vertex on along this chain
abbrev pub along_chain : Side → List ℕ → List ℕ
along_chain Lower ring = ring
along_chain Upper ring = turned ring

-- ranks, a piece read from its least vertex on, and how many vertices after that are taken of each chain
pub record Cursors : Type 0 where
  pub ranks : List ℕ
  pub ring : List ℕ
  pub lower : ℕ
  pub upper : ℕ

-- how many are taken of this chain
abbrev pub taken : Side → Cursors → ℕ
taken Lower c = c.lower
taken Upper c = c.upper

-- the next vertex of it
abbrev pub ahead : Side → Cursors → ℕ
ahead side c = slice_index (along_chain side c.ring) (taken side c + 1)

-- the cursors after one more of it is taken
abbrev pub one_more : Side → Cursors → Cursors
one_more Lower c = record { ranks = c.ranks; ring = c.ring; lower = c.lower + 1; upper = c.upper }
one_more Upper c = record { ranks = c.ranks; ring = c.ring; lower = c.lower; upper = c.upper + 1 }

-- the cursors at the least vertex
abbrev pub at_least : List ℕ → List ℕ → Cursors
at_least ranks ring = record { ranks = ranks; ring = ring; lower = 0; upper = 0 }
