-- Owners read word by word: those so far, before those of the words that are left.
use Rattle.std.proofs.Common.{Result, Ok, Err, List, ◌++◌}
use Rattle.rht_script.specs.declared.cause.Cause.{Cause}

-- these, and then what is read
abbrev pub with_front : {X : Type 0} → List X → Result (List X) Cause → Result (List X) Cause
with_front front (Ok others) = Ok (front ++ others)
with_front front (Err cause) = Err cause
