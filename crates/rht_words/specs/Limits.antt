-- Within which limits the numbers of a table lie. Settled configs, and the options of a script, take them from here.
use Rattle.std.specs.Prelude.{ℕ, ◌≤◌}
use Rattle.rht_words.specs.declared.limits.Limits.{Limits}

-- the number is one of those from the least to the greatest
abbrev pub IsWithin : ℕ → ℕ → ℕ → Type 0
IsWithin least greatest number = (least ≤ number) × (number ≤ greatest)

-- the number is within these limits
abbrev pub IsWithinLimits : Limits → ℕ → Type 0
IsWithinLimits limits number = IsWithin limits.least limits.greatest number

-- the objects that can be bound at one time
abbrev pub node_limits : Limits
node_limits = record { least = 1; greatest = 65536 }

-- the pages that buckets are kept in
abbrev pub page_limits : Limits
page_limits = record { least = 4; greatest = 4096 }

-- the callers that can use a table at one time
abbrev pub caller_limits : Limits
caller_limits = record { least = 1; greatest = 16 }

-- the ports that are expected, where something is said of them
abbrev pub hint_limits : Limits
hint_limits = record { least = 1; greatest = 65536 }

-- the least size before it is rounded
abbrev pub min_limits : Limits
min_limits = record { least = 1; greatest = 65536 }

-- the greatest size, where there is one
abbrev pub max_limits : Limits
max_limits = record { least = 4; greatest = 131072 }

-- the seed of the first table's hash
abbrev pub seed_limits : Limits
seed_limits = record { least = 0; greatest = 4294967295 }

-- how often a look-up walks one bucket again
abbrev pub rewalk_limits : Limits
rewalk_limits = record { least = 0; greatest = 255 }

-- the least number of buckets that a table has
abbrev pub least_size : ℕ
least_size = 4

-- the words of a page, each of which is a bucket
abbrev pub page_words : ℕ
page_words = 64

-- a table may have so many nodes, pages and callers
pub record IsGeometry (nodes pages callers : ℕ) : Type 0 where
  pub nodes_within : IsWithinLimits node_limits nodes
  pub pages_within : IsWithinLimits page_limits pages
  pub callers_within : IsWithinLimits caller_limits callers
