use Rattle.std.proofs.Common.{◌≡◌, ℕ, ◌+◌, List, ◌++◌, length, take, drop, min, sym, arith}
use Rattle.std.proofs.lemmas.List.{take_at, drop-drop, take-append-drop, length-take-le, take_rest}
use Rattle.geo_io.proofs.sure_source.SureSourceSource.read_some.Goals as goal

-- what was left is what was put at the front of a slice, and what is left then
front_and_rest : (bytes copied behind : List ℕ) (given count most : ℕ) → count ≡ min (length (drop given bytes)) most
    → copied ≡ take count (drop given bytes) → drop given bytes ≡ take count (copied ++ behind) ++ drop (given + count) bytes
front_and_rest bytes copied behind given count most least same =
    let left = drop given bytes in
    let size : length copied ≡ count = rw same (length-take-le count left (omega arith)) in
    rw (take_at copied behind count size, same, ← drop-drop count given bytes) (sym (take-append-drop count left))

pub returns-clause-gives : goal.returns-clause-gives
returns-clause-gives c =
    let least = rw (c.deref.ensures.value, take_rest) at c.min-count.ensures in
    let same = rw (c.deref.ensures.value, take_rest) at c.copy_from_slice.ensures.after in
    rw (← c.self.view_is) (front_and_rest _ _ _ _ _ _ least same)
