-- Texts that begin as before.
use Rattle.std.proofs.Common.{◌≡◌, ◌∙◌, ap, append_assoc, ℕ, ◌+◌, ◌≤◌, List, ◌++◌, length, take, Result, Ok, Err, arith}
use Rattle.std.specs.Prelude.{IfOk, IsErr, OnErr, OnOk}
use Rattle.std.proofs.Math.Seq.{take-append_seam, take-length}
use Rattle.geo_text.proofs.LineFronts.{front_of}

-- and where nothing more was appended
pub front_kept : {T E : Type 0} (r : Result T E) (old more out : List ℕ) → out ≡ old ++ more → OnErr r (take (length old) out ≡ old)
front_kept (Ok x) old more out appended = tt
front_kept (Err e) old more out appended = ap (take (length old)) appended ∙ take-append_seam old more

-- after a fault that left the text as it was
pub front_same : {T E : Type 0} (r : Result T E) (old out : List ℕ) → out ≡ old → OnErr r (take (length old) out ≡ old)
front_same (Ok x) old out same = tt
front_same (Err e) old out same = ap (take (length old)) same ∙ take-length old

-- or may have left it so
pub front_fault : {T E : Type 0} (r : Result T E) (old more mid out : List ℕ) → mid ≡ old ++ more → OnErr r (out ≡ mid)
    → OnErr r (take (length old) out ≡ old)
front_fault (Ok x) old more mid out appended same = tt
front_fault (Err e) old more mid out appended same = ap (take (length old)) (same ∙ appended) ∙ take-append_seam old more

-- what was appended to an appended text
pub then_written : (old a mid b out : List ℕ) → mid ≡ old ++ a → out ≡ mid ++ b → out ≡ old ++ (a ++ b)
then_written old a mid b out first second = second ∙ ap (λ t. t ++ b) first ∙ append_assoc old a b

-- what holds anyway holds under an Err, and under an Ok
pub err_since : {T E P : Type 0} (r : Result T E) → P → OnErr r P
err_since (Ok x) h = tt
err_since (Err e) h = h

pub ok_since : {T E P : Type 0} (r : Result T E) → P → OnOk r P
ok_since (Ok x) h = h
ok_since (Err e) h = tt

-- nothing is asked of the value where there is none
pub none_of_err : {T E : Type 0} (P : T → Type 0) (r : Result T E) → IsErr r → IfOk r P
none_of_err P (Ok x) fault = absurd cc
none_of_err P (Err e) fault = tt

pub ok_of_err : {T E : Type 0} (P : Type 0) (r : Result T E) → IsErr r → OnOk r P
ok_of_err P (Ok x) fault = absurd cc
ok_of_err P (Err e) fault = tt

-- what was taken is no more than with something beside it
pub no_more : (n more : ℕ) → n ≤ n + more
no_more n more = omega arith

-- a fault further on left a front of an appended text
pub front_through : {T E : Type 0} (r : Result T E) (old more out new : List ℕ) → out ≡ old ++ more → OnErr r (take (length out) new ≡ out)
    → OnErr r (take (length old) new ≡ old)
front_through (Ok x) old more out new appended front = tt
front_through (Err e) old more out new appended front = front_of old more out new appended front
