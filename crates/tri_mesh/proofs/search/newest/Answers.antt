use Rattle.std.proofs.Common.{◌≡◌, sym, ap, ◌∙◌, ◌+◌, ◌-◌, ◌++◌, ◌∷◌, [], append_assoc, arith}
use Rattle.std.specs.List.{range_with_len}
use Rattle.plane.proofs.Lists.{range_grown}
use Rattle.tri_mesh.proofs.search.newest.Goals as goal

pub loop-place-preserved : goal.loop-place-preserved
loop-place-preserved c =
    let inv = c.loop-place.invariant in
    let first = c.args.first in
    let n = c.loop-place.place - first in
    let one : first + n ≡ c.loop-place.place = omega (arith, inv.low) in
    let on : n + 1 ≡ c.loop-place.place + 1 - first = omega (arith, inv.low) in
    record {
      low = omega (arith, inv.low);
      items = c.in_ok-push.ensures.items
          ∙ ap (λ xs. xs ++ c.loop-place.place ∷ []) inv.items
          ∙ append_assoc c.args.later.now.items (range_with_len first n) (c.loop-place.place ∷ [])
          ∙ ap (λ x. c.args.later.now.items ++ (range_with_len first n ++ x ∷ [])) (sym one)
          ∙ ap (λ xs. c.args.later.now.items ++ xs) (sym (range_grown first n))
          ∙ ap (λ k. c.args.later.now.items ++ range_with_len first k) on;
    }

pub returns : goal.returns
returns c =
    let inv = c.loop-place.invariant in
    let first = c.args.first in
    let n = c.loop-place.place - first in
    let end : c.loop-place.place ≡ c.args.end - 1 = omega (arith, c.loop-place.auto.place-end, c.loop-place-test.false) in
    let one : first + n ≡ c.args.end - 1 = omega (arith, inv.low, end) in
    let on : n + 1 ≡ c.args.end - first = omega (arith, inv.low, end) in
    record {
      waiting = ap (λ xs. xs ++ (c.args.end - 1) ∷ []) inv.items
          ∙ append_assoc c.args.later.now.items (range_with_len first n) ((c.args.end - 1) ∷ [])
          ∙ ap (λ x. c.args.later.now.items ++ (range_with_len first n ++ x ∷ [])) (sym one)
          ∙ ap (λ xs. c.args.later.now.items ++ xs) (sym (range_grown first n))
          ∙ ap (λ k. c.args.later.now.items ++ range_with_len first k) on;
    }
