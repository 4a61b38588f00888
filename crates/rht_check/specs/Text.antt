-- The text of a verdict, byte by byte. Every line ends with a line feed.
use Rattle.std.specs.Prelude.{ℕ, List, ◌++◌, length, codes}
use Rattle.std.specs.List.{flat_map}
use Rattle.rht_model.specs.Multimap.{Port}
use Rattle.rht_script.specs.Text.{named, port_line}
use Rattle.rht_check.specs.declared.claim.Verdict.{Verdict}
use Rattle.rht_check.specs.declared.claim.Verdict.TheVariants.{Legal, Extra, Wrong, Unfinished}

-- how many ports are bound
abbrev pub keys_line : ℕ → List ℕ
keys_line count = named (codes "keys") count ++ codes "\n"

-- a history that is accepted: a line for each port that it leaves bound, and how many these are
abbrev pub accepted_text : List (Port × List ℕ) → List ℕ
accepted_text pairs = codes "legal\n" ++ (flat_map port_line pairs ++ keys_line (length pairs))

-- any other verdict is one line
abbrev pub verdict_text : Verdict → List ℕ
verdict_text (Legal bindings) = accepted_text bindings.pairs
verdict_text (Extra number) = named (codes "claim") number ++ codes ": extra\n"
verdict_text (Wrong number) = named (codes "claim") number ++ codes ": wrong\n"
verdict_text (Unfinished worker) = named (codes "worker") worker ++ codes ": unfinished\n"
