-- The text of a replay's lines that are no replies, byte by byte: its operations, the workers that are in a call at the end, and the size
-- of the table then. Every line ends with a line feed.
use Rattle.std.specs.Prelude.{ℕ, List, ◌++◌, codes, decimal}
use Rattle.rht_words.specs.declared.op.Op.{Op}
use Rattle.rht_words.specs.declared.op.Op.TheVariants.{Load, Store, Exchange, Add, Sub, And, Or}
use Rattle.rht_script.specs.Text.{spaced, named}

-- An operation without its worker: its name, its place, its own numbers, and last the word that it found. A store doesn't show that word.
abbrev pub operation_text : Op → ℕ → List ℕ
operation_text (Load place) old = named (codes "load") place ++ spaced old
operation_text (Store place value) old = named (codes "store") place ++ spaced value
operation_text (Exchange place from to) old = named (codes "cas") place ++ spaced from ++ spaced to ++ spaced old
operation_text (Add place by) old = named (codes "add") place ++ spaced by ++ spaced old
operation_text (Sub place by) old = named (codes "sub") place ++ spaced by ++ spaced old
operation_text (And place mask) old = named (codes "and") place ++ spaced mask ++ spaced old
operation_text (Or place mask) old = named (codes "or") place ++ spaced mask ++ spaced old

-- the line of an operation that a worker has performed
abbrev pub operation_line : ℕ → Op → ℕ → List ℕ
operation_line worker op old = decimal worker ++ codes " " ++ operation_text op old ++ codes "\n"

-- the line of a worker that is in a call at the end
abbrev pub open_line : ℕ → List ℕ
open_line worker = named (codes "open") worker ++ codes "\n"

-- the line of the size of the current table, in buckets
abbrev pub size_line : ℕ → List ℕ
size_line size = named (codes "size") size ++ codes "\n"
