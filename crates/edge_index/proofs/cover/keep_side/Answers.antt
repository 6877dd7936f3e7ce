use Rattle.std.proofs.Common.{inl, inr, ◌≡◌, ℤ, ◌*ℤ◌, ◌≤ℤ◌, arith}
use Rattle.exact_plane.proofs.Registers.{read}
use Rattle.edge_index.proofs.LineNumbers.{above_sum, below_sum, bound_read, gap_fits, least_small, left_small, most_small, offset_product, right_small, sum_fits, sum_negative, sum_positive}
use Rattle.edge_index.proofs.Multiples.{long_read}
use Rattle.edge_index.proofs.cover.keep_side.Goals as goal

pub multiples-right-requires-clause-first : goal.multiples-right-requires-clause-first
multiples-right-requires-clause-first c =
    let slab = c.args.slab.now in
    offset_product c.args.by slab.least slab.greatest c.args.by c.requires.by slab.least_fits slab.greatest_fits slab.least slab.least_fits

pub multiples-right-requires-clause-second : goal.multiples-right-requires-clause-second
multiples-right-requires-clause-second c =
    let slab = c.args.slab.now in
    offset_product c.args.by slab.least slab.greatest c.args.by c.requires.by slab.least_fits slab.greatest_fits slab.greatest slab.greatest_fits

pub overflow_sub-least : goal.overflow_sub-least
overflow_sub-least c =
    let s = c.args in
    let k = c.requires in
    let slab = s.slab.now in
    gap_fits c.multiples-least.result.0 c.multiples-right.result.1 s.line
    (least_small s.slope s.low s.high _ k.slope k.low k.high c.multiples-least.ensures.least_is)
    (left_small s.by slab.least slab.greatest _ k.by slab.least_fits slab.greatest_fits c.multiples-right.ensures.greatest_is) k.line

pub overflow_add-least : goal.overflow_add-least
overflow_add-least c =
    let s = c.args in
    let k = c.requires in
    let slab = s.slab.now in
    sum_fits c.multiples-least.result.0 c.multiples-right.result.1 s.line
    (least_small s.slope s.low s.high _ k.slope k.low k.high c.multiples-least.ensures.least_is)
    (left_small s.by slab.least slab.greatest _ k.by slab.least_fits slab.greatest_fits c.multiples-right.ensures.greatest_is) k.line

pub overflow_sub-result : goal.overflow_sub-result
overflow_sub-result c =
    let s = c.args in
    let k = c.requires in
    let slab = s.slab.now in
    gap_fits c.multiples-least.result.1 c.multiples-right.result.0 s.line
    (most_small s.slope s.low s.high _ k.slope k.low k.high c.multiples-least.ensures.greatest_is)
    (right_small s.by slab.least slab.greatest _ k.by slab.least_fits slab.greatest_fits c.multiples-right.ensures.least_is) k.line

pub overflow_add-result : goal.overflow_add-result
overflow_add-result c =
    let s = c.args in
    let k = c.requires in
    let slab = s.slab.now in
    sum_fits c.multiples-least.result.1 c.multiples-right.result.0 s.line
    (most_small s.slope s.low s.high _ k.slope k.low k.high c.multiples-least.ensures.greatest_is)
    (right_small s.by slab.least slab.greatest _ k.by slab.least_fits slab.greatest_fits c.multiples-right.ensures.least_is) k.line

pub returns-then-least-left-gt0 : goal.returns-then-least-left-gt0
returns-then-least-left-gt0 c =
    let s = c.args in
    let k = c.requires in
    let slab = s.slab.now in
    let x = c.multiples-least in
    let y = c.multiples-right in
    let slope : read s.slope ≡ s.slope = long_read s.slope (omega (arith, k.slope)) in
    let low : read s.low ≡ s.low = long_read s.low (omega (arith, k.low)) in
    let high : read s.high ≡ s.high = long_read s.high (omega (arith, k.high)) in
    let by : read s.by ≡ s.by = long_read s.by (omega (arith, k.by)) in
    let least : (t : ℤ) → s.low ≤ℤ t → t ≤ℤ s.high → x.result.0 ≤ℤ (s.slope *ℤ t) = λ t. rw (slope, low, high) at (x.ensures.least t) in
    let left : (h : ℤ) → slab.least ≤ℤ h → h ≤ℤ slab.greatest → (s.by *ℤ h) ≤ℤ y.result.1 =
    λ h. rw (by, bound_read slab.least slab.least_fits, bound_read slab.greatest slab.greatest_fits) at (y.ensures.greatest h) in
    record {
      side = λ all. inl (λ t h from to above below.
          above_sum (s.slope *ℤ t) (s.by *ℤ h) x.result.0 y.result.1 s.line (least t from to) (left h above below)
          (sum_positive x.result.0 y.result.1 s.line (least_small s.slope s.low s.high _ k.slope k.low k.high x.ensures.least_is)
          (left_small s.by slab.least slab.greatest _ k.by slab.least_fits slab.greatest_fits y.ensures.greatest_is) k.line all));
    }

pub returns-else-least-left-gt0 : goal.returns-else-least-left-gt0
returns-else-least-left-gt0 c =
    let s = c.args in
    let k = c.requires in
    let slab = s.slab.now in
    let x = c.multiples-least in
    let y = c.multiples-right in
    let slope : read s.slope ≡ s.slope = long_read s.slope (omega (arith, k.slope)) in
    let low : read s.low ≡ s.low = long_read s.low (omega (arith, k.low)) in
    let high : read s.high ≡ s.high = long_read s.high (omega (arith, k.high)) in
    let by : read s.by ≡ s.by = long_read s.by (omega (arith, k.by)) in
    let most : (t : ℤ) → s.low ≤ℤ t → t ≤ℤ s.high → (s.slope *ℤ t) ≤ℤ x.result.1 = λ t. rw (slope, low, high) at (x.ensures.greatest t) in
    let right : (h : ℤ) → slab.least ≤ℤ h → h ≤ℤ slab.greatest → y.result.0 ≤ℤ (s.by *ℤ h) =
    λ h. rw (by, bound_read slab.least slab.least_fits, bound_read slab.greatest slab.greatest_fits) at (y.ensures.least h) in
    record {
      side = λ all. inr (λ t h from to above below.
          below_sum (s.slope *ℤ t) (s.by *ℤ h) x.result.1 y.result.0 s.line (most t from to) (right h above below)
          (sum_negative x.result.1 y.result.0 s.line (most_small s.slope s.low s.high _ k.slope k.low k.high x.ensures.greatest_is)
          (right_small s.by slab.least slab.greatest _ k.by slab.least_fits slab.greatest_fits y.ensures.least_is) k.line all));
    }
