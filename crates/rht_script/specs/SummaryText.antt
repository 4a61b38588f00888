-- The line that sums up the run of a script that was made from a number: how many of its replies are of each sort, and what is bound at
-- the end.
use Rattle.std.specs.Prelude.{ℕ, ◌≤◌, Bool, true, false, List, [], ◌∷◌, ◌++◌, length, codes, All, count_by, sum_by, flat_map}
use Rattle.rht_model.specs.declared.history.Reply.{Reply}
use Rattle.rht_model.specs.declared.history.Reply.TheVariants.{Bound, Exists, Found, Missing, Released}
use Rattle.rht_words.specs.Ports.{number_of}
use Rattle.rht_model.specs.Endings.{Ending}
use Rattle.rht_model.specs.Multimap.{Port}
use Rattle.rht_script.specs.declared.writer.summary.Sort.{Sort}
use Rattle.rht_script.specs.declared.writer.summary.Sort.TheVariants as sorts
use Rattle.rht_script.specs.Text.{named}

-- the name that the line has for the replies of a sort
abbrev pub sort_name : Sort → List ℕ
sort_name sorts.Any = codes " commands"
sort_name sorts.Bound = codes " bound"
sort_name sorts.Exists = codes " exists"
sort_name sorts.Found = codes " found"
sort_name sorts.Missing = codes " missing"
sort_name sorts.Released = codes " released"

-- the reply is of the sort
abbrev pub is_of : Sort → Reply → Bool
is_of sorts.Any reply = true
is_of sorts.Bound (Bound kick) = true
is_of sorts.Bound _ = false
is_of sorts.Exists (Exists owner) = true
is_of sorts.Exists _ = false
is_of sorts.Found (Found owner) = true
is_of sorts.Found _ = false
is_of sorts.Missing Missing = true
is_of sorts.Missing _ = false
is_of sorts.Released (Released kick) = true
is_of sorts.Released _ = false

-- how many of the endings of a worker's commands have a reply of the sort
abbrev pub count_of : Sort → List Ending → ℕ
count_of sort endings = count_by (λ ending. is_of sort ending.answer.reply) endings

-- how many of all workers' have one
abbrev pub how_many : Sort → List (List Ending) → ℕ
how_many sort endings = sum_by (count_of sort) endings

-- a sort's name, and how many replies are of it
abbrev pub sort_text : List (List Ending) → Sort → List ℕ
sort_text endings sort = named (sort_name sort) (how_many sort endings)

-- the sum of the numbers of the ports that are bound, whatever their nets
abbrev pub sum_of_ports : List (Port × List ℕ) → ℕ
sum_of_ports bound = sum_by (λ pair. number_of pair.0) bound

-- how many ports are bound, and the sum of their numbers
abbrev pub bound_sums : List (Port × List ℕ) → List ℕ
bound_sums bound = named (codes " keys") (length bound) ++ named (codes " sum") (sum_of_ports bound) ++ codes "\n"

-- the sorts, in the order of the line
abbrev pub all_sorts : List Sort
all_sorts = sorts.Any ∷ sorts.Bound ∷ sorts.Exists ∷ sorts.Found ∷ sorts.Missing ∷ sorts.Released ∷ []

-- the line of this number
abbrev pub summary_line : ℕ → List (List Ending) → List (Port × List ℕ) → List ℕ
summary_line number endings bound =
    named (codes "gen") number ++ codes ":" ++ flat_map (sort_text endings) all_sorts ++ bound_sums bound

-- So few workers and replies that the counts are below 2^64.
pub record AreCountable (endings : List (List Ending)) : Type 0 where
  pub workers : length endings ≤ 65536
  pub replies : All (λ own. length own ≤ 4294967296) endings
