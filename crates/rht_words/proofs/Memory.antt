-- The words as a function of what they are there for. An operation changes it at one address.
use Rattle.std.proofs.Common.{◌≡◌, ◌≢◌, ℕ, List, length}
use Rattle.rht_words.specs.Operations.{op_place, word_after, applied}
use Rattle.rht_words.specs.Places.{Address, IsAddress, place_of, words_in, word_at}
use Rattle.rht_words.specs.declared.op.Op.{Op}
use Rattle.rht_words.specs.declared.geometry.Geometry.{Geometry}
use Rattle.rht_words.proofs.WordChanges.{changes_one_word}

-- what each word is
abbrev pub Memory : Type 0
Memory = Address → ℕ

-- the word of this address has this value afterwards, and all others are as they were
pub record IsWrite (g : Geometry) (before after : Memory) (address : Address) (value : ℕ) : Type 0 where
  pub same : after address ≡ value
  pub others : (other : Address) → IsAddress g other → other ≢ address → after other ≡ before other

-- an operation on the word of an address
pub is_write : (g : Geometry) (words : List ℕ) (address : Address) (op : Op) → length words ≡ words_in g
    → IsAddress g address → op_place op ≡ place_of g address
    → IsWrite g (word_at g words) (word_at g (applied words op)) address
    (word_after (word_at g words address) op)
is_write g words address op whole there is =
    let changes = changes_one_word g words address op whole there is in
    record { same = changes.changed; others = changes.others }
