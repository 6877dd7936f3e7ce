use Rattle.std.proofs.Common.{◌≡◌, sym, ap, subst, ◌∙◌, ℕ, ◌<◌, ◌⊎◌, [], ◌∷◌, ◌++◌, length, arith}
use Rattle.std.proofs.lemmas.List.Elements.{Contains-push}
use Rattle.std.specs.List.{Contains}
use Rattle.tri_mesh.proofs.AllReached.{all_reached, rooted_all}
use Rattle.tri_mesh.proofs.Waiting.{first_inner, first_waits, none_waits, waiting_new, waits_inner, waits_more, waits_smaller}
use Rattle.tri_mesh.proofs.search.Search.from.Goals as goal
use Rattle.tri_mesh.specs.Outward.{outward_at}
use Rattle.tri_mesh.specs.Search.{IsDone, IsReached}

pub loop-next-init : goal.loop-next-init
loop-next-init c =
    let tris = c.args.tris.now in
    let order = c.in_ok-search.search.order.items in
    let s = c.in_ok-search.ensures in
    let none = sym c.new-later.ensures.items in
    record {
      search = s.search;
      some = omega (arith, s.one);
      first = s.first;
      inner = subst (λ xs. (p : ℕ) → Contains (xs ++ 0 ∷ []) p → p < length order) none (first_inner tris order s.one);
      left = subst (λ xs. (p : ℕ) → p < length order → Contains (xs ++ 0 ∷ []) p ⊎ IsDone tris order (outward_at order p).tri) none
          (first_waits tris order s.one);
      room = s.room;
    }

pub expand-requires-clause-place : goal.expand-requires-clause-place
expand-requires-clause-place c =
    let place = c.in-Some.place in
    (rw c.in-Some.is at c.loop-next.invariant.inner) place (Contains-push c.loop-next.later.items place)

pub loop-next-smaller : goal.loop-next-smaller
loop-next-smaller c =
    let tris = c.args.tris.now in
    let order = c.loop-next.search.order.items in
    let after = c.expand.new.self.order.items in
    let e = c.expand.ensures in
    let later = c.loop-next.later.items in
    let first : c.len-first.result ≡ length order = omega (arith, c.len-first.ensures, c.loop-next.search.order.ok.0) in
    let end : c.len.result ≡ length after = omega (arith, c.len.ensures, c.expand.new.self.order.ok.0) in
    let new = waiting_new _ later _ _ (length order) (length after) first end c.in_ok-next.ensures.waiting in
    rw (new, c.in-Some.is)
    (waits_smaller tris order after e.grown later c.in-Some.place (rw c.in-Some.is at c.loop-next.invariant.left) e.done
    (length tris) c.loop-next.invariant.search.count e.search.count)

pub loop-next-preserved : goal.loop-next-preserved
loop-next-preserved c =
    let tris = c.args.tris.now in
    let inv = c.loop-next.invariant in
    let order = c.loop-next.search.order.items in
    let after = c.expand.new.self.order.items in
    let e = c.expand.ensures in
    let later = c.loop-next.later.items in
    let place = c.in-Some.place in
    let first : c.len-first.result ≡ length order = omega (arith, c.len-first.ensures, c.loop-next.search.order.ok.0) in
    let end : c.len.result ≡ length after = omega (arith, c.len.ensures, c.expand.new.self.order.ok.0) in
    let new = waiting_new _ later _ _ (length order) (length after) first end c.in_ok-next.ensures.waiting in
    let left = rw c.in-Some.is at inv.left in
    record {
      search = e.search;
      some = omega (arith, inv.some, e.grown.longer);
      first = ap (λ o. o.tri) (e.grown.kept 0 inv.some) ∙ inv.first;
      inner = rw new (waits_inner tris order after e.grown later place left e.done (rw c.in-Some.is at inv.inner));
      left = rw new (waits_more tris order after e.grown later place left e.done);
      room = omega (arith, e.same_room, inv.room);
    }

pub returns : goal.returns
returns c =
    let tris = c.args.tris.now in
    let inv = c.loop-next.invariant in
    let order = c.loop-next.search.order.items in
    let done = none_waits tris order (rw c.in_default.is at inv.left) in
    let first : IsReached order c.args.home = (0, inv.some, inv.first) in
    rooted_all tris c.args.home order c.loop-next.search.places.items inv.search
    (λ k below. all_reached tris order done c.args.home k c.requires.keeps.tree c.requires.home below first)
    inv.first
