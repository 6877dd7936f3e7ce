-- Partings as functions of the vertices, and classes that are given round the ring. No public clause cites this module. This project's
-- own.
use Rattle.std.specs.Prelude.{◌≡◌, ◌≢◌, ℕ, zero, suc, ◌+◌, ◌-◌, ◌<◌, ◌==◌, if◌then◌else◌, List, length, slice_index_or}
use Rattle.meshes.specs.Side.{tri_at}
use Rattle.meshes.specs.declared.tri.Tri.{Tri}
use Rattle.guards3.specs.Guards.{class_of}

-- the classes 0, 1 and 2, each once
pub record AreThreeClasses (x y z : ℕ) : Type 0 where
  pub first : x < 3
  pub second : y < 3
  pub third : z < 3
  pub x_y : x ≢ y
  pub y_z : y ≢ z
  pub z_x : z ≢ x

-- each triangle has one corner in each of the classes that f gives
abbrev pub PartsInThree : List Tri → (ℕ → ℕ) → Type 0
PartsInThree tris f = (k : ℕ) → k < length tris → AreThreeClasses (f (tri_at tris k).a) (f (tri_at tris k).b) (f (tri_at tris k).c)

-- f and g give the corners of the triangle the same classes
pub record AgreeAt (f g : ℕ → ℕ) (t : Tri) : Type 0 where
  pub a : f t.a ≡ g t.a
  pub b : f t.b ≡ g t.b
  pub c : f t.c ≡ g t.c

-- f gives the corners of triangle 0 the classes 0, 1 and 2
pub record IsFrom012 (tris : List Tri) (f : ℕ → ℕ) : Type 0 where
  pub a : f (tri_at tris 0).a ≡ 0
  pub b : f (tri_at tris 0).b ≡ 1
  pub c : f (tri_at tris 0).c ≡ 2

-- the corners of the triangle are below a number
pub record HasCorners (count : ℕ) (t : Tri) : Type 0 where
  pub a : t.a < count
  pub b : t.b < count
  pub c : t.c < count

-- ---- how many triangles meet at a vertex

-- 1 where the two are one, and else 0
abbrev pub one_if : ℕ → ℕ → ℕ
one_if i j = if i == j then 1 else 0

-- how many corners of the first triangles, k of them, vertex i is
abbrev pub corner_count : List Tri → ℕ → ℕ → ℕ
corner_count tris zero i = 0
corner_count tris (suc k) i = corner_count tris k i + one_if (tri_at tris k).a i + one_if (tri_at tris k).b i + one_if (tri_at tris k).c i

-- 0 for an even number, 1 for an odd one
abbrev pub parity : ℕ → ℕ
parity zero = 0
parity (suc n) = 1 - parity n

-- each vertex is marked by 1 exactly where its number is odd, and else by 0
abbrev pub AreMarks : List ℕ → (ℕ → ℕ) → Type 0
AreMarks marks count = (i : ℕ) → i < length marks → slice_index_or marks i 0 ≡ parity (count i)

-- ---- the class after two others

-- where the mark of the vertex between is 0, that of the first of the two, and else the one that they leave
abbrev pub class_after : ℕ → ℕ → ℕ → ℕ
class_after before here mark = if mark == 0 then before else 3 - before - here

-- f gives vertices 0 and 1 the classes 0 and 1, and each later one the class after those of the two before it
pub record IsByMarks (marks : List ℕ) (f : ℕ → ℕ) : Type 0 where
  pub first : f 0 ≡ 0
  pub second : f 1 ≡ 1
  pub later : (i : ℕ) → i + 2 < length marks → f (i + 2) ≡ class_after (f i) (f (i + 1)) (slice_index_or marks (i + 1) 0)

-- the classes are those that any f gives that is by the marks
abbrev pub AreGivenBy : List ℕ → List ℕ → Type 0
AreGivenBy marks classes = (f : ℕ → ℕ) → IsByMarks marks f → (i : ℕ) → i < length marks → class_of classes i ≡ f i
