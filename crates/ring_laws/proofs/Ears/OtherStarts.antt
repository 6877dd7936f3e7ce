-- A ring read from one of its vertices on, with the vertices beside it.
use Rattle.std.proofs.Common.{◌≡◌, sym, subst, ap, ◌∙◌, ℕ, ◌+◌, ◌-◌, ◌<◌, ◌≤◌, List, [], ◌∷◌, ◌++◌, length, take, drop, arith}
use Rattle.std.proofs.lemmas.List.{get_or_at, length-append, length-take-le, take-append-drop}
use Rattle.plane.specs.Point.{Point}
use Rattle.rings.proofs.Inside.{apart_rotated, vertex_rotated}
use Rattle.rings.proofs.Vertices.{vertex_in_range}
use Rattle.rings.specs.Apart.{IsApartRing}
use Rattle.rings.specs.Ring.{origin, vertex}
use Rattle.ring_laws.proofs.Ears.LeastVertex.{FromVertex, from_vertex}

-- vertex j of the ring from vertex i on
vertex_from : (ring : List Point) (i j : ℕ) → i ≤ length ring → j < length ring → vertex (drop i ring ++ take i ring) j ≡ vertex ring (i + j)
vertex_from ring i j within less =
    let both = take-append-drop i ring in
    let size : j < length (drop i ring ++ take i ring) =
    omega (arith, length-append (drop i ring) (take i ring), length-append (take i ring) (drop i ring), ap length both) in
    vertex_rotated (take i ring) (drop i ring) j size ∙ (λ k. vertex (both k) (length-take-le i ring within k + j))

-- the neighbours of a first vertex
second_vertex : (v w : Point) (rest : List Point) → vertex (v ∷ w ∷ rest) 1 ≡ w
second_vertex v w rest = vertex_in_range (v ∷ w ∷ rest) 1 origin (omega arith)

-- are the second vertex and the last
last_vertex : (v w : Point) (ms : List Point) (u : Point) (n : ℕ) → n ≡ length (v ∷ w ∷ (ms ++ u ∷ [])) → vertex (v ∷ w ∷ (ms ++ u ∷ [])) (n - 1) ≡ u
last_vertex v w ms u n size =
    let count : length (v ∷ w ∷ ms) ≡ n - 1 = omega (arith, length-append ms (u ∷ [])) in
    vertex_in_range (v ∷ w ∷ (ms ++ u ∷ [])) (n - 1) origin (omega arith) ∙ get_or_at (v ∷ w ∷ ms) u [] origin (n - 1) count

-- vertex i first, w after it, and u before it
pub record ReadFrom (ring : List Point) (i : ℕ) : Type 0 where
  pub w : Point
  pub ms : List Point
  pub u : Point
  pub is : drop i ring ++ take i ring ≡ vertex ring i ∷ w ∷ (ms ++ u ∷ [])
  pub before : vertex ring (i + (length ring - 1)) ≡ u
  pub after : vertex ring (i + 1) ≡ w
  pub size : length ring ≡ length ms + 3

-- each ring of three vertices or more can be read so
pub read_from : (ring : List Point) (i : ℕ) → 3 ≤ length ring → i < length ring → ReadFrom ring i
read_from ring i some within = from_parts (from_vertex ring i some within)
  where
    from_parts : FromVertex ring i → ReadFrom ring i
    from_parts from =
        let both = take-append-drop i ring in
        let first = from.w ∷ (from.ms ++ from.u ∷ []) in
        let size : length ring ≡ length (vertex ring i ∷ first) =
        omega (arith, ap length both, ap length from.is, length-append (drop i ring) (take i ring), length-append (take i ring) (drop i ring)) in
        record {
          w = from.w;
          ms = from.ms;
          u = from.u;
          is = from.is;
          before =
              sym (vertex_from ring i (length ring - 1) (omega arith) (omega arith)) ∙ ap (λ rs. vertex rs (length ring - 1)) from.is
              ∙ last_vertex (vertex ring i) from.w from.ms from.u (length ring) size;
          after =
              sym (vertex_from ring i 1 (omega arith) (omega arith)) ∙ ap (λ rs. vertex rs 1) from.is
              ∙ second_vertex (vertex ring i) from.w (from.ms ++ from.u ∷ []);
          size = omega (arith, length-append from.ms (from.u ∷ []));
        }

-- the ring so read is apart where the ring is
pub apart_from : (ring : List Point) (i : ℕ) (r : ReadFrom ring i) → IsApartRing ring → IsApartRing (vertex ring i ∷ r.w ∷ (r.ms ++ r.u ∷ []))
apart_from ring i r apart =
    subst IsApartRing r.is (apart_rotated (take i ring) (drop i ring) (subst IsApartRing (sym (take-append-drop i ring)) apart))
