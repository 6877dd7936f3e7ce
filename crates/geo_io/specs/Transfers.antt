-- What a source gave and a sink took in a call. This project's own.
use Rattle.std.specs.Io.KnownBytes.{Appends, Consumes}
use Rattle.std.specs.Prelude.{ℕ, ◌<◌, ◌≤◌, List, Option, length, take}

-- some bytes were given, and they were the first of those that were left
pub record GivesFront (entry exit : Option (List ℕ)) : Type 0 where
  pub given : List ℕ
  pub first : Consumes entry exit given

-- more bytes than this were given, and they were the first of those that were left
pub record GivesMoreThan (limit : ℕ) (entry exit : Option (List ℕ)) : Type 0 where
  pub given : List ℕ
  pub more : limit < length given
  pub first : Consumes entry exit given

-- at most this many bytes were given, and they were the first of those that were left
pub record GivesAtMost (bound : ℕ) (entry exit : Option (List ℕ)) : Type 0 where
  pub given : List ℕ
  pub few : length given ≤ bound
  pub first : Consumes entry exit given

-- some of the first of these bytes were taken, after those before
pub record AppendsFront (entry exit : Option (List ℕ)) (bytes : List ℕ) : Type 0 where
  pub count : ℕ
  pub front : Appends entry exit (take count bytes)
