use Rattle.std.proofs.Common.{◌≡◌, inl, inr, ap, sym, subst, ◌∙◌, ℕ, ◌*◌, ◌<◌, List, [], length, get_or, map, arith}
use Rattle.std.proofs.lemmas.Bool.{cases_eq, false≢true}
use Rattle.std.proofs.lemmas.List.{length-map, take_all}
use Rattle.std.proofs.lemmas.List.Elements.{All-contains, All-map, All-more}
use Rattle.std.specs.List.{All}
use Rattle.shared_walks.proofs.AllNumbers.{keys_below, no_key}
use Rattle.shared_walks.proofs.FoundPaths.{all_found, finds_none, finds_then, start_cost}
use Rattle.shared_walks.proofs.paths.paths_from.Goals as goal
use Rattle.shared_walks.proofs.paths.paths_from.Goals.{then-is_missing+in_ok-walk_to, else-is_missing}
use Rattle.shared_walks.specs.Several.{AreAllNumbers, listed}
use Rattle.shared_walks.specs.declared.outward.Key.{Key}

pub loop-key-init : goal.loop-key-init
loop-key-init g c = record {
  finds = finds_none _ _ _ _ _ _ (record {
    count = length-map c.in_ok-found.found.items (λ chain. chain.items) ∙ c.in_ok-found.ensures.count;
    each = λ k below. inl (c.in_ok-found.ensures.none k);
  });
  fronts = λ k d within. absurd (omega (arith, within));
  each = λ k d within. absurd (omega (arith, within));
}

-- the number of each key is below that of the points
number_below : (n i : ℕ) (keys moved : List Key) → moved ≡ keys → AreAllNumbers n (map (λ k. k.number) keys) → i < length moved
    → (get_or moved i no_key).number < n
number_below n i keys moved same all within =
    keys_below n moved (subst (λ l. AreAllNumbers n (map (λ (k : Key). k.number) l)) (sym same) all) i no_key within

pub of-requires-clause-numbers : goal.of-requires-clause-numbers
of-requires-clause-numbers g c = rw c.deref.ensures.value (keys_below _ _ c.in_ok-keys.ensures)

pub is_missing-requires : goal.is_missing-requires
is_missing-requires g c =
    let below = number_below _ c.loop-key.key-index _ _ c.deref-key-items.ensures.value c.in_ok-keys.ensures c.loop-key-test.true in
    let count = length-map c.loop-key.found.items (λ chain. chain.items) in
    omega (arith, below, c.requires.held.count, count, c.loop-key.invariant.finds.so_far.count, ap length c.deref-in-loop-key.ensures.value)

pub walk_to-requires-clause-within : goal.walk_to-requires-clause-within
walk_to-requires-clause-within g c =
    let below = number_below _ c.loop-key.key-index _ _ c.deref-key-items.ensures.value c.in_ok-keys.ensures c.loop-key-test.true in
    omega (arith, below, c.requires.held.count)

pub loop-key-preserved : goal.loop-key-preserved
loop-key-preserved g c =
    let inv = c.loop-key.invariant in
    let old = listed c.loop-key.found.items in
    let keys = c.deref-key-items.result.now in
    let i = c.loop-key.key-index in
    let k = (get_or keys i no_key).number in
    let within : i < length keys = c.loop-key-test.true in
    let asked = rw c.deref-in-loop-key.ensures.value at c.is_missing.ensures in
    elim c.if-is_missing.branch [
      | then-is_missing+in_ok-walk_to w ↦ rw (w.fronts-is, w.found-is, w.steps-is) (record {
        finds = finds_then _ _ _ _ _ _ _ _ inv.finds _ _ w.in_ok-walk_to.ensures.found;
        fronts = w.in_ok-walk_to.ensures.fronts;
        each = All-more (λ (key : Key). 0 < length (get_or (listed w.walk_to.new.found.items) key.number [])) keys i no_key within
            (λ j d before. w.in_ok-walk_to.ensures.found.kept _ (inv.each j d before)) w.in_ok-walk_to.ensures.served;
      })
      | else-is_missing w ↦ rw (w.fronts-is, w.found-is, w.steps-is) (record {
        finds = inv.finds;
        fronts = inv.fronts;
        each = All-more (λ (key : Key). 0 < length (get_or old key.number [])) keys i no_key within inv.each (elim (cases_eq (length (get_or old k [])) 0) [
          | inl none ↦ absurd (false≢true (sym w.if-is_missing.false ∙ asked.1 none))
          | inr some ↦ omega (arith, some)
        ]);
      })
    ]

pub returns-clause-paths : goal.returns-clause-paths
returns-clause-paths g c =
    let keys = c.in_ok-keys.keys.items in
    let found = listed c.loop-key.found.items in
    let walked = rw c.deref-key-items.ensures.value at c.loop-key.invariant.each in
    let ended = rw c.deref-key-items.ensures.value at c.loop-key-test.false in
    let each : All (λ (key : Key). 0 < length (get_or found key.number [])) keys =
    subst (All (λ (key : Key). 0 < length (get_or found key.number []))) (take_all _ keys (omega (arith, ended))) walked in
    let all = All-map (λ k. 0 < length (get_or found k [])) (λ (key : Key). key.number) keys each in
    all_found _ _ _ _ c.loop-key.invariant.finds.so_far
    (λ k below. All-contains (λ j. 0 < length (get_or found j [])) (map (λ (key : Key). key.number) keys) k all
    (c.in_ok-keys.ensures.each k (omega (arith, below, c.requires.held.count))))

pub returns-clause-steps : goal.returns-clause-steps
returns-clause-steps g c =
    let none = c.in_ok-found.found.items in
    let cost = start_cost (listed none) _ (4 * length c.args.stops.now.ring.now.corners) (length-map none (λ chain. chain.items) ∙ c.in_ok-found.ensures.count) in
    omega (arith, cost, c.loop-key.invariant.finds.paid)

pub returns-in_err-walk_to-clause-steps : goal.returns-in_err-walk_to-clause-steps
returns-in_err-walk_to-clause-steps g c =
    let none = c.in_ok-found.found.items in
    let cost = start_cost (listed none) _ (4 * length c.args.stops.now.ring.now.corners) (length-map none (λ chain. chain.items) ∙ c.in_ok-found.ensures.count) in
    omega (arith, cost, c.loop-key.invariant.finds.paid, c.walk_to.ensures.steps)
