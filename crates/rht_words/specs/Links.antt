-- What the links in words say, and what a bucket's word says. Reading is total: a word that no run
-- gives is read as something harmless, mostly as saying nothing.
use Rattle.std.specs.Prelude.{ℕ, ◌+◌, ◌-◌, ◌*◌, ◌/◌, ◌%◌, ◌^◌, ◌==◌, ◌&&◌, nat_lt, nat_le, min, Option, Some, None, if◌then◌else◌}

-- the link to a node
abbrev pub link_of : ℕ → ℕ
link_of node = 2 * node + 2

-- the marker that ends the chain of the bucket whose word has this place
abbrev pub marker_of : ℕ → ℕ
marker_of place = (2 * place + 1) % 2 ^ 64

-- the node to which the link leads, where there are so many nodes; none for a marker, the end of a list and a node past the last
abbrev pub node_of : ℕ → ℕ → Option ℕ
node_of nodes link =
    if (link % 2 == 0) && nat_le 2 link && nat_lt (link / 2 - 1) nodes then Some (link / 2 - 1) else None

-- the bucket word without its lock
abbrev pub unlocked : ℕ → ℕ
unlocked word = word - word % 2

-- the first link of the chain of a bucket with this word: an empty bucket's is its marker
abbrev pub head_of : ℕ → ℕ → ℕ
head_of place word = if unlocked word == 0 then marker_of place else unlocked word

-- the unlocked word of a bucket whose chain has this first link
abbrev pub plain_of : ℕ → ℕ → ℕ
plain_of place head = if head == marker_of place then 0 else head

-- the slot that the word of the current table names
abbrev pub table_of : ℕ → ℕ
table_of word = min word 7

-- the future word that leads to a slot, and the slot to which a future word leads
abbrev pub future_of : ℕ → ℕ
future_of slot = slot + 1

abbrev pub slot_of : ℕ → Option ℕ
slot_of future = if nat_le 1 future && nat_le future 8 then Some (future - 1) else None

-- the entry of a nested table that leads to a page, and the page to which an entry leads, where there are so many pages
abbrev pub entry_of : ℕ → ℕ
entry_of page = page + 1

abbrev pub page_of : ℕ → ℕ → Option ℕ
page_of pages entry = if nat_le 1 entry && nat_le entry pages then Some (entry - 1) else None
