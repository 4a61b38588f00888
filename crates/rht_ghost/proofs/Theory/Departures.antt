-- What the work makes of the ghost, and what must be known where it does: who does the work, the entries on their way from bucket to
-- bucket, which table is the current one, and which tables are retired.
use Rattle.std.proofs.Common.{◌≡◌, ◌≢◌, ◌⊎◌, ℕ, ◌+◌, ◌/◌, ◌<◌, ◌==◌, Bool, List, [], ◌∷◌, ◌++◌, Option, Some, None, true, false, sym, ◌∙◌, ap, inl, inr}
use Rattle.rht_words.specs.declared.env.Env.{Env}
use Rattle.rht_words.specs.Links.{head_of}
use Rattle.rht_words.specs.Places.{Section, Slot, LoadedSection}
use Rattle.rht_words.specs.Shapes.{unpacked, size_of}
use Rattle.rht_words.proofs.Memory.{Memory}
use Rattle.rht_ghost.proofs.Theory.Ghosts.{put, put_in, has_entries, Table, Bucket, Owner, First, Leaving, PageOwner, PageFree, PageHeld, PageOf, SlotOwner, Live, Retiring, Retired, Back, IsSince, IsOver, Ghost, is_taken_by, seat_of, seated, has_table, index_at, table_at, is_entry, has_bit}
use Rattle.rht_ghost.proofs.Theory.Wholes.{chain_of, key_of, place_at, home, IsFurther}
use Rattle.rht_ghost.proofs.Theory.Readiness.{linked_bucket, ArePagesOf}
use Rattle.rht_ghost.proofs.Theory.Ways.{followed}
use Rattle.rht_ghost.proofs.Theory.Knowns.{KnownRehash, last_of}
use Rattle.rht_ghost.proofs.Theory.Knowledge.{IsEmptying}

-- who has a seat has one, and is in it or on the way out of it
pub first_one : (o : Owner) (j k : ℕ) → o ≡ First j → o ≡ First k → k ≡ j
first_one o j k one other = let e : First j ≡ First k = sym one ∙ other in cc

pub leaving_one : (o : Owner) (j k : ℕ) → o ≡ Leaving j → o ≡ Leaving k → k ≡ j
leaving_one o j k one other = let e : Leaving j ≡ Leaving k = sym one ∙ other in cc

pub first_not_leaving : (o : Owner) (j k : ℕ) → o ≡ First j → o ≡ Leaving k → ⊥
first_not_leaving o j k first leaving = let e = sym first ∙ leaving in cc

-- nobody has taken it out
pub seat-not_out : (o : Owner) (j c : ℕ) → seat_of o ≡ Some j → is_taken_by c o ≡ false
seat-not_out o j c is = elim (seated o j is) [
  | inl first ↦ ap (is_taken_by c) first
  | inr leaving ↦ ap (is_taken_by c) leaving
]

-- another current table, other owners of slots, and another caller that does the work
abbrev pub with_standing : Ghost → ℕ → (ℕ → SlotOwner) → Option ℕ → Ghost
with_standing G current slot worker = record G { current = current; slot = slot; worker = worker }

abbrev pub with_worker : Ghost → Option ℕ → Ghost
with_worker G worker = with_standing G G.current G.slot worker

-- the next table is the current one
abbrev pub published : Ghost → Ghost
published G = with_standing G (G.current + 1) G.slot G.worker

-- the table in a slot is being retired, and then is retired
abbrev pub retiring : Ghost → ℕ → Ghost
retiring G s = with_standing G G.current (put G.slot s (Retiring (index_at G s))) G.worker

abbrev pub retired : Ghost → ℕ → Ghost
retired G s = with_standing G G.current (put G.slot s (Retired (index_at G s))) G.worker

-- The table of an entry without the page behind it, which the caller has from then on: the words of buckets are where the ways lead then.
abbrev pub without_entry : Table → ℕ → Table
without_entry table j = record table { entry = put table.entry j None }

abbrev pub withdrawn_table : Table → ℕ → Table
withdrawn_table table j = record (without_entry table j) { place = followed (without_entry table j) }

abbrev pub withdrawn : Ghost → ℕ → ℕ → ℕ → Ghost
withdrawn G c j p = record G {
  table = put G.table (table_at G j) (withdrawn_table (G.table (table_at G j)) j);
  page = put G.page p (PageHeld c);
}

-- the page is one of the table's
abbrev pub is_page_of : ℕ → PageOwner → Bool
is_page_of τ PageFree = false
is_page_of τ (PageHeld c) = false
is_page_of τ (PageOf σ) = σ == τ

-- A table that leaves its slot: the caller gives back what was the table's. The pages of these bits of a word of the map are free at once,
-- and the caller has the others.
abbrev pub taken_back : Ghost → ℕ → ℕ → ℕ → ℕ → Ghost
taken_back G c s index bits = record G {
  slot = put G.slot s (Back c);
  page = put_in (has_bit index bits) PageFree (put_in (λ p. is_page_of (index_at G s) (G.page p)) (PageHeld c) G.page);
}

-- a bucket without its last entry, which is on its way out of it
abbrev pub left_by : Bucket → List ℕ → ℕ → Bucket
left_by b nodes entry = record b { nodes = nodes; out = Some entry }

abbrev pub left : Ghost → ℕ → List ℕ → ℕ → Ghost
left G j nodes entry = record G {
  bucket = put G.bucket j (left_by (G.bucket j) nodes entry);
  node = put G.node entry (Leaving j);
}

-- the entry is the first one of another bucket
abbrev pub arrived : Ghost → ℕ → ℕ → Ghost
arrived G i entry = record G {
  bucket = put G.bucket i (linked_bucket (G.bucket i) entry);
  node = put G.node entry (First i);
}

-- a bucket out of which an entry was, cut off behind the node before it, or empty
abbrev pub cut_plain : ℕ → Option ℕ → ℕ
cut_plain plain None = 0
cut_plain plain (Some before) = plain

abbrev pub cut_by : Bucket → Option ℕ → Bucket
cut_by b before = record b { plain = cut_plain b.plain before; out = None }

abbrev pub cut_off : Ghost → ℕ → Option ℕ → Ghost
cut_off G j before = record G { bucket = put G.bucket j (cut_by (G.bucket j) before) }

module _ (env : Env) (mix : ℕ → ℕ → ℕ → ℕ) where
  -- the caller has locked the bucket, in a table behind the current one, to which the entry's port belongs there
  pub record IsNextPlace (d entry i : ℕ) (M : Memory) (G : Ghost) : Type 0 where
    pub holder : (G.bucket i).holder ≡ Some d
    pub later : G.current < table_at G i
    pub attached : table_at G i < G.attached
    pub here : home env mix G (key_of M entry) (table_at G i) ≡ Some i

  -- What is known when an entry goes out of its bucket: the caller does the work and has locked the bucket, which is one of the current
  -- table, and whose last entry it is; no other one is on its way out of it.
  pub record CanLeave (d j i entry : ℕ) (nodes : List ℕ) (M : Memory) (G : Ghost) : Type 0 where
    pub works : G.worker ≡ Some d
    pub holder : (G.bucket j).holder ≡ Some d
    pub table : table_at G j ≡ G.current
    pub still : (G.bucket j).out ≡ None
    pub split : (G.bucket j).nodes ≡ nodes ++ entry ∷ []
    pub next : IsNextPlace d entry i M G

  -- What is known when it gets into another bucket: it leads to the first node there, and the caller has locked no third bucket.
  pub record CanArrive (d j i entry : ℕ) (M : Memory) (G : Ghost) : Type 0 where
    pub works : G.worker ≡ Some d
    pub leaving : G.node entry ≡ Leaving j
    pub next : IsNextPlace d entry i M G
    pub chain : chain_of M entry ≡ head_of (place_at env mix i) (G.bucket i).plain
    pub only : (k : ℕ) → (G.bucket k).holder ≡ Some d → (k ≡ j) ⊎ (k ≡ i)

  -- What is known when the bucket that it was in is cut off: that it is in another one.
  pub record CanCut (d j entry : ℕ) (before : Option ℕ) (G : Ghost) : Type 0 where
    pub works : G.worker ≡ Some d
    pub out : (G.bucket j).out ≡ Some entry
    pub further : IsFurther env mix G entry
    pub last : before ≡ last_of (G.bucket j).nodes

  -- What is known when the next table becomes the current one: each bucket of the current one is emptied.
  pub record CanPublish (d : ℕ) (G : Ghost) : Type 0 where
    pub works : G.worker ≡ Some d
    pub root : KnownRehash
    pub emptied : IsEmptying env mix G root (size_of (unpacked (G.table G.current).shape))

  -- What is known when a table is retired: it is in use, and the current one is right behind it.
  pub record CanRetire (d s : ℕ) (G : Ghost) : Type 0 where
    pub works : G.worker ≡ Some d
    pub table : has_table (G.slot s) ≡ true
    pub live : G.slot s ≡ Live (index_at G s)
    pub left_behind : index_at G s + 1 ≡ G.current

  -- What is known while the section words are kept in the slot of a table that is being retired.
  pub record CanKeep (d s : ℕ) (G : Ghost) : Type 0 where
    pub works : G.worker ≡ Some d
    pub table : ℕ
    pub retiring : G.slot s ≡ Retiring table

  -- What is known when the last of them is stored, this word of this caller: that each other section that comes to the table has its word there.
  pub record CanSettle (d s e word : ℕ) (M : Memory) (G : Ghost) : Type 0 where
    pub works : G.worker ≡ Some d
    pub table : ℕ
    pub retiring : G.slot s ≡ Retiring table
    pub kept : (k : ℕ) → k ≢ e → IsSince (G.from k) table → M (Slot s (LoadedSection k)) ≡ M (Section k)
    pub last : IsSince (G.from e) table → word ≡ M (Section e)

  -- a table that is retired, to which no open section comes, and the caller does the work
  pub record IsGoing (d s τ : ℕ) (G : Ghost) : Type 0 where
    pub works : G.worker ≡ Some d
    pub retired : G.slot s ≡ Retired τ
    pub over : IsOver G τ

  -- What is known when an entry of such a table is cleared: it leads to a page behind none of whose own entries there is a page.
  pub record CanWithdraw (d j p : ℕ) (G : Ghost) : Type 0 where
    pub slot : ℕ
    pub going : IsGoing d slot (table_at G j) G
    pub of : G.page (j / 64) ≡ PageOf (table_at G j)
    pub entry : is_entry G j ≡ true
    pub leads : (G.table (table_at G j)).entry j ≡ Some p
    pub bare : has_entries ((G.table (table_at G j)).part p) ≡ true → (i : ℕ) → i / 64 ≡ p
        → (G.table (table_at G j)).entry i ≡ None

  -- What is known when such a table leaves its slot: none of its entries leads to a page, and the pages of these bits are its own.
  pub record CanTakeBack (d s index bits : ℕ) (G : Ghost) : Type 0 where
    pub table : ℕ
    pub going : IsGoing d s table G
    pub bare : (j : ℕ) → G.page (j / 64) ≡ PageOf table → has_entries ((G.table table).part (j / 64)) ≡ true
        → (G.table table).entry j ≡ None
    pub own : ArePagesOf env mix G index bits (PageOf table)
