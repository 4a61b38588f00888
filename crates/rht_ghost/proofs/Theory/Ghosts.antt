-- What the words of a run don't say, or say only to who follows every link: who holds each lock, node,
-- page and slot, which table each slot has, which nodes each bucket has, and which nodes each port is bound to.
-- It stands in no definition of a run. The invariant says that there is such a ghost after each event.
use Rattle.std.proofs.Common.{◌≡◌, ◌≢◌, ◌⊎◌, ℕ, ◌/◌, List, [], ◌∷◌, refl, sym, ap, ◌∙◌, inl, inr, Bool, true, false, cond, Option, Some, None, ◌==◌}
use Rattle.std.specs.Prelude.{◌+◌, ◌*◌, ◌%◌, ◌≤◌, ◌&&◌, if◌then◌else◌}
use Rattle.std.specs.Int.{bit_at}
use Rattle.std.proofs.lemmas.Bool.{cases_eq, eqb-true, eq-eqb}
use Rattle.rht_words.specs.Links.{entry_of}
use Rattle.rht_words.specs.Shapes.{unpacked}
use Rattle.rht_arena.specs.PageRuns.{is_in_run}
use Rattle.rht_nest.specs.Tables.{is_nested, table_pages}

-- ---- functions changed at one place

unfoldable pub put : {A : Type 0} → (ℕ → A) → ℕ → A → ℕ → A
put f j v i = cond (i == j) v (f i)

pub put-same : {A : Type 0} → (f : ℕ → A) (j : ℕ) (v : A) → put f j v j ≡ v
unfolding put
put-same f j v = rw (eq-eqb j j refl) refl

pub put-other : {A : Type 0} → (f : ℕ → A) (j : ℕ) (v : A) (i : ℕ) → i ≢ j → put f j v i ≡ f i
unfolding put
put-other f j v i ne = go (i == j) refl
  where
    go : (t : Bool) → (i == j) ≡ t → cond (i == j) v (f i) ≡ f i
    go true e = absurd (ne (eqb-true i j e))
    go false e = rw e refl

-- what is true of the new value at the changed place, and of the old values elsewhere, is true everywhere
pub put-all : {A : Type 0} → (P : ℕ → A → Type 0) (f : ℕ → A) (j : ℕ) (v : A) → P j v
    → ((i : ℕ) → i ≢ j → P i (f i)) → (i : ℕ) → P i (put f j v i)
put-all P f j v here other i =
    elim (cases_eq i j) as (λ t. P i (put f j v i)) [
      | inl e ↦ rw (e, put-same f j v) here
      | inr ne ↦
          rw (put-other f j v i ne) (other i ne)
    ]

-- a function changed at all places of which this is so
unfoldable pub put_in : {A : Type 0} → (ℕ → Bool) → A → (ℕ → A) → ℕ → A
put_in there v f i = cond (there i) v (f i)

pub put_in-there : {A : Type 0} → (there : ℕ → Bool) (v : A) (f : ℕ → A) (i : ℕ) → there i ≡ true
    → put_in there v f i ≡ v
unfolding put_in
put_in-there there v f i is = rw is refl

pub put_in-other : {A : Type 0} → (there : ℕ → Bool) (v : A) (f : ℕ → A) (i : ℕ) → there i ≡ false
    → put_in there v f i ≡ f i
unfolding put_in
put_in-other there v f i is = rw is refl

pub put_in-all : {A : Type 0} → (P : ℕ → A → Type 0) (there : ℕ → Bool) (v : A) (f : ℕ → A)
    → ((i : ℕ) → there i ≡ true → P i v) → ((i : ℕ) → there i ≡ false → P i (f i)) → (i : ℕ)
    → P i (put_in there v f i)
unfolding put_in
put_in-all P there v f here other i = go (there i) refl
  where
    go : (t : Bool) → there i ≡ t → P i (cond t v (f i))
    go true is = here i is
    go false is = other i is

-- ---- ghosts

-- What a page of a table has: the words of buckets in a row, as in a flat table. Or, in a nested one, the words of the buckets whose
-- numbers have these low bits; the entries behind the entry of the top page that these low bits pick; or the entries of the top page.
pub data Part : Type 0 where
  Row : Part
  Leaf : ℕ → Part
  Middle : ℕ → Part
  Top : Part

-- its words are entries
abbrev pub has_entries : Part → Bool
has_entries Row = false
has_entries (Leaf low) = false
has_entries (Middle low) = true
has_entries Top = true

-- A table that has been attached: its slot, what its words say, and where the words of its buckets stand among those of all
-- pages. A bucket whose page is missing has no word. And of its own pages, what each has; and to which page each of their entries leads,
-- by the entry's number among the words of all pages. An entry behind which the page is missing leads to none.
pub record Table : Type 0 where
  pub slot : ℕ
  pub shape : ℕ
  pub seed : ℕ
  pub serial : ℕ
  pub place : ℕ → Option ℕ
  pub part : ℕ → Part
  pub entry : ℕ → Option ℕ

-- A bucket: its nodes in the order of its chain, its word without the lock, and who holds the lock. An entry that is on its way
-- out of it, and the bind that has found in it that no table is behind.
pub record Bucket : Type 0 where
  pub nodes : List ℕ
  pub plain : ℕ
  pub holder : Option ℕ
  pub out : Option ℕ
  pub armed : Option ℕ

-- a bucket of which nothing is known but that its word is 0, as that of each word of the pages that no table has
abbrev pub blank_bucket : Bucket
blank_bucket = record { nodes = []; plain = 0; holder = None; out = None; armed = None }

-- Who has a node: nobody; a caller that took it; the chain of a bucket, whole or on the way out; the list behind a port's first
-- node; or the call that took it out
pub data Owner : Type 0 where
  Free : Owner
  NodeHeld : ℕ → Owner
  First : ℕ → Owner
  Leaving : ℕ → Owner
  Behind : ℕ → Owner
  Taken : ℕ → Owner

-- who has a page: nobody, a caller that took it, or a table
pub data PageOwner : Type 0 where
  PageFree : PageOwner
  PageHeld : ℕ → PageOwner
  PageOf : ℕ → PageOwner

-- Who has a slot: nobody; a caller that took it; a table, which is in use, is being retired, or is retired; or the caller that gives back
-- what was such a table's
pub data SlotOwner : Type 0 where
  SlotFree : SlotOwner
  SlotHeld : ℕ → SlotOwner
  Live : ℕ → SlotOwner
  Retiring : ℕ → SlotOwner
  Retired : ℕ → SlotOwner
  Back : ℕ → SlotOwner

-- Tables by the order in which they were attached, how many there were, and which of them is the current one. Buckets by the
-- index of their word among those of all pages, nodes, pages and slots by their numbers, what is bound by ports, and for each
-- caller whether it has raised the count of ports for a node that it hasn't linked yet, or has still to
-- lower it for one that it has taken out; and of each that has its read section open, which table was the current one when it was opened
pub record Ghost : Type 0 where
  pub table : ℕ → Table
  pub attached : ℕ
  pub current : ℕ
  pub bucket : ℕ → Bucket
  pub node : ℕ → Owner
  pub bound : ℕ → List ℕ
  pub page : ℕ → PageOwner
  pub slot : ℕ → SlotOwner
  pub worker : Option ℕ
  pub raised : ℕ → Bool
  pub from : ℕ → Option ℕ

-- the state word of a slot
abbrev pub state_word : SlotOwner → ℕ
state_word SlotFree = 0
state_word (SlotHeld c) = 1
state_word (Live τ) = 1
state_word (Retiring τ) = 2
state_word (Retired τ) = 2
state_word (Back c) = 2

-- 1 where a lock is held
abbrev pub lock_bit : Option ℕ → ℕ
lock_bit None = 0
lock_bit (Some c) = 1

-- the node is in the chain of a bucket, whole or on the way out
abbrev pub is_first : Owner → Bool
is_first Free = false
is_first (NodeHeld c) = false
is_first (First j) = true
is_first (Leaving j) = true
is_first (Behind k) = false
is_first (Taken c) = false

-- the node is a port's, its first one or one behind that, or was one and has been taken out
abbrev pub is_used : Owner → Bool
is_used Free = false
is_used (NodeHeld c) = false
is_used (First j) = true
is_used (Leaving j) = true
is_used (Behind k) = true
is_used (Taken c) = true

abbrev pub IsUsed : Owner → Type 0
IsUsed owner = is_used owner ≡ true

-- the node is in a port's list: its first one, or one behind that
abbrev pub is_listed : Owner → Bool
is_listed Free = false
is_listed (NodeHeld c) = false
is_listed (First j) = true
is_listed (Leaving j) = true
is_listed (Behind k) = true
is_listed (Taken c) = false

abbrev pub IsListedNode : Owner → Type 0
IsListedNode owner = is_listed owner ≡ true

-- the node was taken out of a port's list by a call of this caller
abbrev pub is_taken_by : ℕ → Owner → Bool
is_taken_by c Free = false
is_taken_by c (NodeHeld d) = false
is_taken_by c (First j) = false
is_taken_by c (Leaving j) = false
is_taken_by c (Behind k) = false
is_taken_by c (Taken d) = d == c

-- the bucket in which a node is that is some port's first
abbrev pub seat_of : Owner → Option ℕ
seat_of Free = None
seat_of (NodeHeld c) = None
seat_of (First j) = Some j
seat_of (Leaving j) = Some j
seat_of (Behind k) = None
seat_of (Taken c) = None

-- the bucket in which the first of these nodes is
abbrev pub seat_in : (ℕ → Owner) → List ℕ → Option ℕ
seat_in node [] = None
seat_in node (n ∷ behind) = seat_of (node n)

-- the bucket in which the port's first node is
abbrev pub seat : Ghost → ℕ → Option ℕ
seat G port = seat_in G.node (G.bound port)

-- the table that has a page; some table where none has
abbrev pub table_of_page : PageOwner → ℕ
table_of_page PageFree = 0
table_of_page (PageHeld c) = 0
table_of_page (PageOf τ) = τ

-- the table of which the bucket is
abbrev pub table_at : Ghost → ℕ → ℕ
table_at G j = table_of_page (G.page (j / 64))

-- the word of a page that has this owner, of which this is the number, is a table's entry
abbrev pub is_entry_of : (ℕ → Table) → PageOwner → ℕ → Bool
is_entry_of table PageFree p = false
is_entry_of table (PageHeld c) p = false
is_entry_of table (PageOf τ) p = has_entries ((table τ).part p)

-- the word with this number among those of all pages is an entry
abbrev pub is_entry : Ghost → ℕ → Bool
is_entry G j = is_entry_of G.table (G.page (j / 64)) (j / 64)

-- the word of an entry that leads to a page, or to none
abbrev pub entry_word : Option ℕ → ℕ
entry_word None = 0
entry_word (Some page) = entry_of page

-- a table has the slot
abbrev pub has_table : SlotOwner → Bool
has_table SlotFree = false
has_table (SlotHeld c) = false
has_table (Live τ) = true
has_table (Retiring τ) = true
has_table (Retired τ) = true
has_table (Back c) = false

-- the caller that has a slot: it took it, or gives it back
abbrev pub slot_holder : SlotOwner → Option ℕ
slot_holder SlotFree = None
slot_holder (SlotHeld c) = Some c
slot_holder (Live τ) = None
slot_holder (Retiring τ) = None
slot_holder (Retired τ) = None
slot_holder (Back c) = Some c

-- the table that has a slot and isn't retired
abbrev pub unretired : SlotOwner → Option ℕ
unretired SlotFree = None
unretired (SlotHeld c) = None
unretired (Live τ) = Some τ
unretired (Retiring τ) = Some τ
unretired (Retired τ) = None
unretired (Back c) = None

-- the table that has a slot; some table where none has
abbrev pub table_of_slot : SlotOwner → ℕ
table_of_slot SlotFree = 0
table_of_slot (SlotHeld c) = 0
table_of_slot (Live τ) = τ
table_of_slot (Retiring τ) = τ
table_of_slot (Retired τ) = τ
table_of_slot (Back c) = 0

-- such a table has the slot
pub unretired-has : (o : SlotOwner) (τ : ℕ) → unretired o ≡ Some τ → (has_table o ≡ true) × (table_of_slot o ≡ τ)
unretired-has (Live σ) τ is = (refl, let same : σ ≡ τ = cc in same)
unretired-has (Retiring σ) τ is = (refl, let same : σ ≡ τ = cc in same)
unretired-has _ τ is = absurd (cc)

-- who has a slot is one caller, and then no table has it
pub held-no_table : (o : SlotOwner) (c : ℕ) → slot_holder o ≡ Some c → has_table o ≡ false
held-no_table (SlotHeld d) c is = refl
held-no_table (Back d) c is = refl
held-no_table _ c is = absurd (cc)

-- which of the tables has the slot
abbrev pub index_at : Ghost → ℕ → ℕ
index_at G slot = table_of_slot (G.slot slot)

-- a section that was opened while this table was the current one comes to that one
abbrev pub IsSince : Option ℕ → ℕ → Type 0
IsSince None τ = ⊥
IsSince (Some low) τ = low ≤ τ

-- no open section comes to the table
abbrev pub IsOver : Ghost → ℕ → Type 0
IsOver G τ = (d : ℕ) → IsSince (G.from d) τ → ⊥

-- the node is some port's first
pub record HasSeat (G : Ghost) (n : ℕ) : Type 0 where
  pub bucket : ℕ
  pub seat : seat_of (G.node n) ≡ Some bucket

-- who has a seat stays there, or is on its way out
abbrev pub IsSeated : Owner → ℕ → Type 0
IsSeated o j = (o ≡ First j) ⊎ (o ≡ Leaving j)

pub seated : (o : Owner) (j : ℕ) → seat_of o ≡ Some j → IsSeated o j
seated (First i) j is = inl (let same : i ≡ j = cc in ap First same)
seated (Leaving i) j is = inr (let same : i ≡ j = cc in ap Leaving same)
seated _ j is = absurd (cc)

-- such a node is used, and is in a chain
pub seat-used : (o : Owner) (j : ℕ) → seat_of o ≡ Some j → IsUsed o
seat-used (First i) j is = refl
seat-used (Leaving i) j is = refl
seat-used _ j is = absurd (cc)

-- and in a list
pub seat-listed : (o : Owner) (j : ℕ) → seat_of o ≡ Some j → IsListedNode o
seat-listed (First j) k is = refl
seat-listed (Leaving j) k is = refl
seat-listed _ j is = absurd (cc)

-- one that is in a list is a port's
pub listed-used : (o : Owner) → is_listed o ≡ true → IsUsed o
listed-used (First j) is = refl
listed-used (Leaving j) is = refl
listed-used (Behind k) is = refl
listed-used _ is = absurd (cc)

-- one that is no port's is in no list
pub unused-unlisted : (o : Owner) → is_used o ≡ false → is_listed o ≡ false
unused-unlisted Free is = refl
unused-unlisted (NodeHeld c) is = refl
unused-unlisted _ is = absurd (cc)

-- and one that is in no list is in no chain
pub unlisted-not_first : (o : Owner) → is_listed o ≡ false → is_first o ≡ false
unlisted-not_first (First j) is = absurd (cc)
unlisted-not_first (Leaving j) is = absurd (cc)
unlisted-not_first (Behind k) is = absurd (cc)
unlisted-not_first _ is = refl

-- who has a seat is in a chain
pub seat-first : (o : Owner) (j : ℕ) → seat_of o ≡ Some j → is_first o ≡ true
seat-first (First i) j is = refl
seat-first (Leaving i) j is = refl
seat-first _ j is = absurd (cc)

-- and who is in a chain has a seat
pub first-seat : (o : Owner) → is_first o ≡ true → (j : ℕ) × (seat_of o ≡ Some j)
first-seat (First j) is = (j, refl)
first-seat (Leaving j) is = (j, refl)
first-seat o is = absurd (cc)

-- and is in a list
pub first-listed : (o : Owner) → is_first o ≡ true → is_listed o ≡ true
first-listed (First j) is = refl
first-listed (Leaving j) is = refl
first-listed o is = absurd (cc)

-- who is in no chain has no seat
pub not_first-seatless : (o : Owner) → is_first o ≡ false → seat_of o ≡ None
not_first-seatless (First j) is = absurd (cc)
not_first-seatless (Leaving j) is = absurd (cc)
not_first-seatless o is = refl

-- a node that was taken out by one caller counts for no other
pub taken_by_one : (c d : ℕ) → c ≢ d → is_taken_by c (Taken d) ≡ false
taken_by_one c d ne = go (d == c) refl
  where
    go : (t : Bool) → (d == c) ≡ t → (d == c) ≡ false
    go true e = absurd (ne (sym (eqb-true d c e)))
    go false e = e

-- a node that counts as taken out by this caller is
pub taken_is : (c : ℕ) (o : Owner) → is_taken_by c o ≡ true → o ≡ Taken c
taken_is c (Taken d) is = ap Taken (eqb-true d c is)
taken_is c _ is = absurd (cc)

-- one owner is not another
pub held_not_used : (o : Owner) (d : ℕ) → o ≡ NodeHeld d → IsUsed o → ⊥
held_not_used o d held used = let e = sym used ∙ ap is_used held in cc

pub behind_one : (o : Owner) (k l : ℕ) → o ≡ Behind k → o ≡ Behind l → k ≡ l
behind_one o k l first second = let e : Behind k ≡ Behind l = sym first ∙ second in cc

pub held_not_first : (o : Owner) (d j : ℕ) → o ≡ NodeHeld d → o ≡ First j → ⊥
held_not_first o d j held first = let e = sym held ∙ first in cc

pub held_by_one : (o : Owner) (c d : ℕ) → o ≡ NodeHeld c → o ≡ NodeHeld d → c ≡ d
held_by_one o c d first second = let e : NodeHeld c ≡ NodeHeld d = sym first ∙ second in cc

-- none is not some, and a thing is not another one
pub none-some : {A : Type 0} {x : A} {o : Option A} → o ≡ None → o ≡ Some x → ⊥
none-some e f = let z = sym e ∙ f in cc

pub some-same : {A : Type 0} (x y : A) → Some x ≡ Some y → x ≡ y
some-same x y e = cc

-- ---- ghosts after a move

-- a bucket with another holder, in which nobody is armed
abbrev pub held_by : Bucket → Option ℕ → Bucket
held_by b holder = record b { holder = holder; armed = None }

abbrev pub with_holder : Ghost → ℕ → Option ℕ → Ghost
with_holder G j holder = record G { bucket = put G.bucket j (held_by (G.bucket j) holder) }

-- a bucket in which a caller is armed
abbrev pub armed_by : Bucket → ℕ → Bucket
armed_by b c = record b { armed = Some c }

abbrev pub with_armed : Ghost → ℕ → ℕ → Ghost
with_armed G j c = record G { bucket = put G.bucket j (armed_by (G.bucket j) c) }

-- a node with another owner
abbrev pub with_owner : Ghost → ℕ → Owner → Ghost
with_owner G n owner = record G { node = put G.node n owner }

-- a caller that has raised the count, or has no longer
abbrev pub with_raised : Ghost → ℕ → Bool → Ghost
with_raised G d now = record G { raised = put G.raised d now }

-- a caller that has opened its section, or closed it
abbrev pub with_from : Ghost → ℕ → Option ℕ → Ghost
with_from G d from = record G { from = put G.from d from }

-- a slot with another owner
abbrev pub with_slot : Ghost → ℕ → SlotOwner → Ghost
with_slot G slot owner = record G { slot = put G.slot slot owner }

-- the page's bit is one of these bits of this word of the map
abbrev pub has_bit : ℕ → ℕ → ℕ → Bool
has_bit index bits page = (page / 64 == index) && (bit_at bits (page % 64) == 1)

-- the pages of these bits of a word of the map with another owner
abbrev pub with_pages : Ghost → ℕ → ℕ → PageOwner → Ghost
with_pages G index bits owner = record G { page = put_in (has_bit index bits) owner G.page }

-- A table in a slot as it is made: the buckets of a flat one stand in a row from its first page on, and a nested one has a top page none
-- of whose entries leads to a page.
abbrev pub made_table : ℕ → ℕ → ℕ → ℕ → Table
made_table slot shape seed serial = record {
  slot = slot;
  shape = shape;
  seed = seed;
  serial = serial;
  place = λ b. if is_nested shape then None else Some (64 * (unpacked shape).page + b);
  part = λ p. if is_nested shape then Top else Row;
  entry = λ j. None;
}

-- the page is one of those of a table with this shape that is made
abbrev pub is_page_for : ℕ → ℕ → Bool
is_page_for shape page = is_in_run (unpacked shape).page (table_pages (unpacked shape)) page

-- this table behind all others, with its slot and its pages
abbrev pub with_table : Ghost → Table → Ghost
with_table G table = record G {
  table = put G.table G.attached table;
  attached = G.attached + 1;
  slot = put G.slot table.slot (Live G.attached);
  page = put_in (is_page_for table.shape) (PageOf G.attached) G.page;
}
