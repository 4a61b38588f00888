-- The entries of an ordered map, added port by port to a listing, are listed as they stand.
-- The ports rise, so a port's first owner makes a pair of its own, and its other owners go behind that one.
use Rattle.std.proofs.Common.{◌≡◌, ◌≢◌, ℕ, ◌+◌, ◌<◌, Some, List, [], ◌∷◌, ◌++◌, length, All, refl, sym, ◌∙◌, ap, subst, append_assoc, append-nil, IfSome, arith}
use Rattle.std.proofs.lemmas.Bool.{eq-eqb, ne_eqb}
use Rattle.std.proofs.lemmas.List.Elements.{All-head, All-tail, All-weaker}
use Rattle.std.proofs.lemmas.List.Sums.{sum_by-cons}
use Rattle.std.proofs.lemmas.Map.Keys.{sorted_head, sorted_tail, IsStrictlyIncreasing-from_sorted}
use Rattle.std.specs.declared.cmp.Ordering.TheVariants.{Less}
use Rattle.std.proofs.lemmas.Cmp.{ranked}
use Rattle.std.specs.Ordering.{nat_cmp}
use Rattle.std.specs.List.{fold, AllByRecursion}
use Rattle.std.specs.List.Sorted.{IsStrictlySortedBy}
use Rattle.std.specs.Map.{keys_of}
use Rattle.rht_model.specs.Multimap.{Port}
use Rattle.rht_model.specs.Listing.{added, Lists}
use Rattle.rht_check.specs.Updates.{found_at, owners_at, count_of_owners}
use Rattle.rht_check.proofs.PortMaps.{listed_at-found}

-- ---- owners added one after another

-- all owners of a port added to these pairs
abbrev pub all_added : List (Port × List ℕ) → Port → List ℕ → List (Port × List ℕ)
all_added pairs port owners = fold (λ ps o. added ps port o) pairs owners

-- an owner of a port above all others makes a pair of its own
added-new : (pairs : List (Port × List ℕ)) (port owner : ℕ) → AllByRecursion (λ pair. pair.0 < port) pairs
    → added pairs port owner ≡ pairs ++ (port, owner ∷ []) ∷ []
added-new [] port owner below = refl
added-new (pair ∷ []) port owner below = rw (ne_eqb pair.0 port (λ same. omega (arith, below.0, same))) refl
added-new (pair ∷ next ∷ pairs) port owner below = ap (λ l. pair ∷ l) (added-new (next ∷ pairs) port owner below.1)

-- an owner of the last port goes behind the others of it
added-last : (pairs : List (Port × List ℕ)) (port : ℕ) (owners : List ℕ) (owner : ℕ)
    → added (pairs ++ (port, owners) ∷ []) port owner ≡ pairs ++ (port, owners ++ owner ∷ []) ∷ []
added-last [] port owners owner = rw (eq-eqb port port refl) refl
added-last (pair ∷ []) port owners owner = ap (λ l. pair ∷ l) (added-last [] port owners owner)
added-last (pair ∷ next ∷ pairs) port owners owner = ap (λ l. pair ∷ l) (added-last (next ∷ pairs) port owners owner)

-- By induction over the owners that are still to be added.
added-more : (pairs : List (Port × List ℕ)) (port : ℕ) (owners more : List ℕ)
    → all_added (pairs ++ (port, owners) ∷ []) port more ≡ pairs ++ (port, owners ++ more) ∷ []
added-more pairs port owners [] = rw (append-nil owners) refl
added-more pairs port owners (owner ∷ more) =
    ap (λ ps. all_added ps port more) (added-last pairs port owners owner)
    ∙ added-more pairs port (owners ++ owner ∷ []) more
    ∙ ap (λ os. pairs ++ (port, os) ∷ []) (append_assoc owners (owner ∷ []) more)

pub all_added-new : (pairs : List (Port × List ℕ)) (port : ℕ) (owners : List ℕ)
    → AllByRecursion (λ pair. pair.0 < port) pairs → owners ≢ []
    → all_added pairs port owners ≡ pairs ++ (port, owners) ∷ []
all_added-new pairs port [] below some = absurd (some refl)
all_added-new pairs port (owner ∷ owners) below some =
    ap (λ ps. all_added ps port owners) (added-new pairs port owner below) ∙ added-more pairs port (owner ∷ []) owners

-- ---- how many owners there are

pub count_of_owners-cons : (port : ℕ) (owners : List ℕ) (rest : List (Port × List ℕ))
    → count_of_owners ((port, owners) ∷ rest) ≡ length owners + count_of_owners rest
count_of_owners-cons port owners rest = sum_by-cons (λ entry. length entry.1) (port, owners) rest

-- ---- an entry among those of a map

-- By induction over the pairs before it: what holds of all entries holds of this one.
pub All-between : (P : Port × List ℕ → Type 0) (pairs : List (Port × List ℕ)) (entry : Port × List ℕ) (rest : List (Port × List ℕ))
    → All P (pairs ++ entry ∷ rest) → P entry
All-between P [] entry rest all = All-head P entry rest all
All-between P (pair ∷ pairs) entry rest all =
    All-between P pairs entry rest (All-tail P pair (pairs ++ entry ∷ rest) all)

-- the same of what is told by recursion, and of keys alone
key_between : (P : ℕ → Type 0) (pairs : List (Port × List ℕ)) (entry : Port × List ℕ) (rest : List (Port × List ℕ))
    → AllByRecursion P (keys_of (pairs ++ entry ∷ rest)) → P entry.0
key_between P [] entry rest all = all.0
key_between P (pair ∷ pairs) entry rest all = key_between P pairs entry rest all.1

-- By induction over the pairs before it: their ports are lower.
pub below_entry : (pairs : List (Port × List ℕ)) (entry : Port × List ℕ) (rest : List (Port × List ℕ))
    → IsStrictlySortedBy nat_cmp (keys_of (pairs ++ entry ∷ rest)) → AllByRecursion (λ pair. pair.0 < entry.0) pairs
below_entry [] entry rest sorted = tt
below_entry (pair ∷ pairs) entry rest sorted =
    let behind = keys_of (pairs ++ entry ∷ rest) in
    let less = key_between (λ key. nat_cmp pair.0 key ≡ Less) pairs entry rest (sorted_head nat_cmp pair.0 behind sorted) in
    (ranked pair.0 entry.0 Less (sym less), below_entry pairs entry rest (sorted_tail nat_cmp pair.0 behind sorted))

module _ (entries : List (Port × List ℕ))
    (found : All (λ entry. found_at entries entry.0 ≡ Some entry.1) entries)
    (bound : (port : ℕ) → IfSome (found_at entries port) (λ list. list ≢ [])) where
  -- each entry has an owner
  pub bound_entries : All (λ entry. entry.1 ≢ []) entries
  bound_entries =
      All-weaker (λ entry. found_at entries entry.0 ≡ Some entry.1) (λ entry. entry.1 ≢ [])
      (λ entry is. subst (λ o. IfSome o (λ list. list ≢ [])) is (bound entry.0)) entries found

  -- the entries of an ordered map are the listing of what it says
  pub Lists-entries : IsStrictlySortedBy nat_cmp (keys_of entries) → Lists entries (owners_at entries)
  Lists-entries sorted = record {
    rising = IsStrictlyIncreasing-from_sorted (keys_of entries) sorted;
    bound = bound_entries;
    agree = listed_at-found entries;
  }

-- one entry more of a map was listed
pub listed_more : (all pairs more : List (Port × List ℕ)) (port : ℕ) (owners : List ℕ) (rest : List (Port × List ℕ))
    → IsStrictlySortedBy nat_cmp (keys_of all) → All (λ entry. entry.1 ≢ []) all
    → pairs ++ (port, owners) ∷ rest ≡ all → more ≡ all_added pairs port owners → more ++ rest ≡ all
listed_more all pairs more port owners rest sorted bound parts is =
    let entry : Port × List ℕ = (port, owners) in
    let rises = subst (λ l. IsStrictlySortedBy nat_cmp (keys_of l)) (sym parts) sorted in
    let some = All-between (λ e. e.1 ≢ []) pairs entry rest (subst (λ l. All (λ e. e.1 ≢ []) l) (sym parts) bound) in
    ap (λ l. l ++ rest) (is ∙ all_added-new pairs port owners (below_entry pairs entry rest rises) some)
    ∙ append_assoc pairs (entry ∷ []) rest
    ∙ parts
