-- A text that may have lost its end after a fault begins as before.
use Rattle.std.proofs.Common.{◌≡◌, ◌∙◌, sym, ap, ℕ, List, ◌++◌, length, take, drop, Result, Ok, Err, arith}
use Rattle.std.specs.Prelude.{OnErr}
use Rattle.std.proofs.Math.Seq.{take-append_seam}
use Rattle.std.proofs.lemmas.List.{length-append, take-append-drop, take-append-le}

-- where a fault left the front of a text to which something was appended
pub front_of : (old more mid out : List ℕ) → mid ≡ old ++ more → take (length mid) out ≡ mid → take (length old) out ≡ old
front_of old more mid out appended front =
    let rest = drop (length mid) out in
    let whole : out ≡ (old ++ more) ++ rest = sym (take-append-drop (length mid) out) ∙ ap (λ (t : List ℕ). t ++ rest) (front ∙ appended) in
    ap (take (length old)) whole
    ∙ take-append-le (length old) (old ++ more) rest (omega (arith, length-append old more))
    ∙ take-append_seam old more

pub front_after : {T E : Type 0} (r : Result T E) (old more mid out : List ℕ) → mid ≡ old ++ more → take (length mid) out ≡ mid
    → OnErr r (take (length old) out ≡ old)
front_after (Ok x) old more mid out appended front = tt
front_after (Err e) old more mid out appended front = front_of old more mid out appended front
