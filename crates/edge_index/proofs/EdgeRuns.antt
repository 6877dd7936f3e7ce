-- Runs of edges: with one edge more, joined, and apart from a segment.
use Rattle.std.proofs.Common.{◌≡◌, inl, inr, subst, ℕ, ◌+◌, ◌*◌, ◌≤◌, ◌<◌, List, length, arith}
use Rattle.std.proofs.lemmas.Bool.{cases_lt}
use Rattle.std.specs.List.{All, Contains}
use Rattle.std.specs.Prelude.{slice_index}
use Rattle.plane.specs.Point.{Point}
use Rattle.rings.specs.Ring.{vertex}
use Rattle.rings.specs.Simple.{HasEqualEnds}
use Rattle.edge_index.specs.Candidates.{AreLeftOut, ListsEdges}
use Rattle.edge_index.specs.Covers.{CoversEdge, IsApart, IsInCover}
use Rattle.edge_index.specs.Runs.{IsRun}
use Rattle.edge_index.specs.declared.cover.Cover.{Cover}
use Rattle.edge_index.specs.declared.runs.Run.{Run}

-- what is in the first cover is in the second
abbrev pub IsWider : Cover → Cover → Type 0
IsWider b c = (q : Point) → IsInCover b q → IsInCover c q

in_wider : (ring : List Point) (b c : Cover) (e : ℕ) → IsWider b c → CoversEdge ring b e → CoversEdge ring c e
in_wider ring b c e wider h = record { from = wider (vertex ring e) h.from; to = wider (vertex ring (e + 1)) h.to }

module _ (ring : List Point) (edges : List ℕ) where
  -- the edges of a run and the next one, where the cover is wider and has that edge
  pub run_with_edge : (a c : Run) (k : ℕ) → a.end ≡ k → c.first ≡ a.first → c.end ≡ k + 1 → a.last ≤ c.last → slice_index edges k ≤ c.last
      → IsWider a.cover c.cover → CoversEdge ring c.cover (slice_index edges k) → (HasEqualEnds ring (slice_index edges k) → ⊥)
      → IsRun ring edges a → IsRun ring edges c
  run_with_edge a c k at first end last above wider within differ in_a = record {
    covered = λ m from below. elim (cases_lt m a.end) [
      | inl less ↦ in_wider ring a.cover c.cover (slice_index edges m) wider (in_a.covered m (omega (arith, from, first)) less)
      | inr not ↦ subst (λ (k : ℕ). CoversEdge ring c.cover (slice_index edges k)) (omega (arith, below, not, at, end)) within
    ];
    differ = λ m from below. elim (cases_lt m a.end) [
      | inl less ↦ in_a.differ m (omega (arith, from, first)) less
      | inr not ↦ subst (λ (k : ℕ). HasEqualEnds ring (slice_index edges k) → ⊥) (omega (arith, below, not, at, end)) differ
    ];
    not_above = λ m from below. elim (cases_lt m a.end) [
      | inl less ↦ omega (arith, in_a.not_above m (omega (arith, from, first)) less, last)
      | inr not ↦ subst (λ (k : ℕ). slice_index edges k ≤ c.last) (omega (arith, below, not, at, end)) above
    ];
  }

  -- and those of two, the second behind the first
  pub run_with_run : (a b c : Run) → b.first ≡ a.end → c.first ≡ a.first → c.end ≡ b.end → a.last ≤ c.last → b.last ≤ c.last
      → IsWider a.cover c.cover → IsWider b.cover c.cover → IsRun ring edges a → IsRun ring edges b → IsRun ring edges c
  run_with_run a b c at first end last_a last_b wider_a wider_b in_a in_b = record {
    covered = λ m from below. elim (cases_lt m a.end) [
      | inl less ↦ in_wider ring a.cover c.cover (slice_index edges m) wider_a (in_a.covered m (omega (arith, from, first)) less)
      | inr not ↦ in_wider ring b.cover c.cover (slice_index edges m) wider_b (in_b.covered m (omega (arith, not, at)) (omega (arith, below, end)))
    ];
    differ = λ m from below. elim (cases_lt m a.end) [
      | inl less ↦ in_a.differ m (omega (arith, from, first)) less
      | inr not ↦ in_b.differ m (omega (arith, not, at)) (omega (arith, below, end))
    ];
    not_above = λ m from below. elim (cases_lt m a.end) [
      | inl less ↦ omega (arith, in_a.not_above m (omega (arith, from, first)) less, last_a)
      | inr not ↦ omega (arith, in_b.not_above m (omega (arith, not, at)) (omega (arith, below, end)), last_b)
    ];
  }

  -- an edge that is apart from the cover is apart from each edge
  pub run_passed : (run : Run) (i : ℕ) → IsApart (vertex ring i) (vertex ring (i + 1)) run.cover → IsRun ring edges run
      → AreLeftOut ring edges i run.first run.end
  run_passed run i apart is k from below =
      let e = slice_index edges k in
      let covered = is.covered k from below in
      inr (record { apart = λ meet. apart (vertex ring e) (vertex ring (e + 1)) covered.from covered.to meet; differ = is.differ k from below })

-- the edges of a list by their kinds are its edges
pub edges_by_kinds : (ring : List Point) (kinds edges : List ℕ) → length kinds ≡ length ring → ((e : ℕ) → e < length kinds → Contains edges e)
    → All (λ e. e < length kinds) edges → length edges ≤ 2 * length ring → ListsEdges ring edges
edges_by_kinds ring kinds edges all each range few = record {
  each = λ e below. each e (omega (arith, all, below));
  range = subst (λ n. All (λ e. e < n) edges) all range;
  few = few;
}
