-- The seven operations on one word. A sum or a difference is what 64 bits keep of it.
use Rattle.std.specs.Prelude.{ℕ, ◌+◌, ◌-◌, ◌%◌, ◌^◌, ◌==◌, bit_and, bit_or, List, slice_index, slice_set, if◌then◌else◌}
use Rattle.rht_words.specs.declared.op.Op.{Op}
use Rattle.rht_words.specs.declared.op.Op.TheVariants.{Load, Store, Exchange, Add, Sub, And, Or}

-- the place of the word on which the operation works
abbrev pub op_place : Op → ℕ
op_place (Load place) = place
op_place (Store place value) = place
op_place (Exchange place old new) = place
op_place (Add place by) = place
op_place (Sub place by) = place
op_place (And place mask) = place
op_place (Or place mask) = place

-- the value that the operation brings; a load brings none, which counts as 0
abbrev pub op_value : Op → ℕ
op_value (Load place) = 0
op_value (Store place value) = value
op_value (Exchange place old new) = new
op_value (Add place by) = by
op_value (Sub place by) = by
op_value (And place mask) = mask
op_value (Or place mask) = mask

-- what the operation makes of a word
abbrev pub word_after : ℕ → Op → ℕ
word_after word (Load place) = word
word_after word (Store place value) = value
word_after word (Exchange place old new) = if word == old then new else word
word_after word (Add place by) = (word + by) % 2 ^ 64
word_after word (Sub place by) = (word + (2 ^ 64 - by)) % 2 ^ 64
word_after word (And place mask) = bit_and word mask
word_after word (Or place mask) = bit_or word mask

-- what an operation on these words answers: the word before it
abbrev pub old_of : List ℕ → Op → ℕ
old_of words op = slice_index words (op_place op)

-- the words after an operation on them, which changes one word alone
abbrev pub applied : List ℕ → Op → List ℕ
applied words op = slice_set words (op_place op) (word_after (old_of words op) op)
