-- How far a loop that hands bytes to a sink has come.
use Rattle.std.proofs.Common.{◌≡◌, ℕ, ◌+◌, List, [], ◌++◌, Option, length, take, drop, refl, ap, ◌∙◌, append_assoc, length-append, arith}
use Rattle.std.proofs.KnownBytes.{Appends-trans}
use Rattle.std.proofs.Math.Seq.{take-append-add}
use Rattle.std.proofs.lemmas.List.{take-append-drop}
use Rattle.std.specs.Io.KnownBytes.{Appends}
use Rattle.geo_io.specs.Transfers.{AppendsFront}

-- the bytes without the rest were taken
pub record HandedOver (bytes rest : List ℕ) (entry now : Option (List ℕ)) : Type 0 where
  pub front : List ℕ
  pub split : bytes ≡ front ++ rest
  pub taken : Appends entry now front

module _ (bytes rest : List ℕ) (entry now : Option (List ℕ)) (so_far : HandedOver bytes rest entry now) where
  -- where there are no bytes, there is no rest
  pub no_rest : bytes ≡ [] → length rest ≡ 0
  no_rest none = omega (arith, simp length-append at (ap length so_far.split), ap length none)

  -- one more call takes the front of the rest
  pub more_handed : (next : Option (List ℕ)) (count : ℕ) → Appends now next (take count rest) → HandedOver bytes (drop count rest) entry next
  more_handed next count more = record {
    front = so_far.front ++ take count rest;
    split = so_far.split ∙ rw (append_assoc, take-append-drop) refl;
    taken = Appends-trans entry now next so_far.front (take count rest) so_far.taken more;
  }

  -- a call that failed took some of the front of the rest
  pub front_handed : (next : Option (List ℕ)) → AppendsFront now next rest → AppendsFront entry next bytes
  front_handed next last =
      let front = so_far.front ++ take last.count rest in
      let first : take (length so_far.front + last.count) bytes ≡ front = rw so_far.split (take-append-add so_far.front rest last.count) in
      record {
        count = length so_far.front + last.count;
        front = rw first (Appends-trans entry now next so_far.front (take last.count rest) so_far.taken last.front);
      }
