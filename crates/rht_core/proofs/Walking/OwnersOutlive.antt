-- That a walk has shown each owner that it loaded outlives an operation of anybody.
use Rattle.std.proofs.Common.{◌≡◌, ◌⊎◌, ℕ, ◌/◌, ◌≤◌, Bool, true, List, [], ◌∷◌, Some, refl, ◌∙◌, ap, inl, inr, arith, sym}
use Rattle.rht_words.specs.declared.env.Env.{Env}
use Rattle.rht_words.specs.Standing.{Standing, stands_nowhere}
use Rattle.rht_words.proofs.Memory.{Memory}
use Rattle.rht_walk.specs.WalkStanding.{standing_of_walk}
use Rattle.rht_walk.specs.declared.walk.Chain.{Chain}
use Rattle.rht_walk.specs.declared.walk.WalkEnd.TheVariants as ends
use Rattle.rht_walk.specs.declared.walk.WalkAt.{WalkAt}
use Rattle.rht_walk.specs.declared.walk.WalkAt.TheVariants as at
use Rattle.std.specs.List.{AllByRecursion}
use Rattle.rht_ghost.proofs.Theory.Ghosts.{Ghost, index_at, PageOf, table_of_page, table_at}
use Rattle.rht_ghost.proofs.Theory.Passed.{GrowsFrom}
use Rattle.rht_ghost.proofs.Theory.Wholes.{Whole, IsAt, AreFrom, word_index}
use Rattle.rht_core.proofs.Finding.Places.{Places}
use Rattle.rht_core.proofs.Finding.PlacesThen.{PlacesKept}
use Rattle.rht_core.proofs.Returning.TiedWalks.{tied_of_walk}
use Rattle.rht_core.proofs.Walking.SlotsOfTables.{IsAttached, index_is, index_stays, attached_at}
use Rattle.rht_core.proofs.Walking.OwnersKept.{HasStood, AreShownOnce, HasBehind, AtNode, KeepsOwners}

module _ (env : Env) (mix : ℕ → ℕ → ℕ → ℕ) (items : List (ℕ × ℕ)) (loaded : List ℕ) (M : Memory) (G : Ghost) (P : Places)
    (whole : Whole env mix M G) (low : ℕ) (G' : Ghost) (grow : GrowsFrom env mix low G G') (met : ℕ → Bool) (P' : Places)
    (kept : PlacesKept low G P P' met)
    (seen seen' : ℕ → Bool) (seen_met : (n : ℕ) → seen n ≡ true → met n ≡ true) where
  abbrev Before : WalkAt → Type 0
  Before = KeepsOwners env mix seen items loaded G P

  abbrev Then : WalkAt → Type 0
  Then = KeepsOwners env mix seen' items loaded G' P'

  module _ (slot : ℕ) (of : IsAt G slot) (from_low : AreFrom low G (slot ∷ [])) where
    attached : IsAttached G slot
    attached = attached_at env mix M G whole slot of

    stays : low ≤ index_at G slot
    stays = let index = index_is env mix M G whole slot of in let from = from_low slot (inl refl) of in omega (arith, index, from)

    index_still : index_at G' slot ≡ index_at G slot
    index_still = index_stays env mix M G whole low G' grow slot attached stays

    place_still : (b j : ℕ) → (G.table (index_at G slot)).place b ≡ Some j → (G'.table (index_at G' slot)).place b ≡ Some j
    place_still b j is =
        ap (λ τ. (G'.table τ).place b) index_still ∙ grow.places (index_at G slot) b j attached.attached stays is

    page_still : (j : ℕ) → G.page (j / 64) ≡ PageOf (index_at G slot) → G'.page (j / 64) ≡ PageOf (index_at G' slot)
    page_still j is = grow.pages (j / 64) (index_at G slot) stays is ∙ ap PageOf (sym index_still)

    -- so places in its buckets stay
    in_table : (j : ℕ) → G.page (j / 64) ≡ PageOf (index_at G slot) → low ≤ table_at G j
    in_table j is =
        let table : table_at G j ≡ index_at G slot = ap table_of_page is in
        let from = stays in
        omega (arith, table, from)

    behind_still : HasBehind env mix seen items loaded G P slot → HasBehind env mix seen' items loaded G' P' slot
    behind_still behind = let same = index_still in let more = grow.attached in omega (arith, behind, same, more)

    module _ (keeps : (n : ℕ) → seen n ≡ true → seen' n ≡ true) where
      shown_still : (Where : ℕ → ℕ → Type 0) → AreShownOnce env mix seen items loaded G P slot Where
          → AreShownOnce env mix seen' items loaded G' P' slot Where
      shown_still Where shown = record {
        nodes = shown.nodes;
        counted = shown.counted;
        each = λ n i. stood_still n (shown.each n i);
        distinct = shown.distinct;
        all = shown.all;
      }
        where
          stood_still : (n : ℕ) → HasStood env mix seen items loaded G P slot Where n
              → HasStood env mix seen' items loaded G' P' slot Where n
          stood_still n had = record {
            met = keeps n had.met;
            number = had.number;
            word = had.word;
            at = had.at;
            here = place_still had.number had.word had.here;
            page = page_still had.word had.page;
            is = kept had.word n had.at (seen_met n had.met) (in_table had.word had.page) had.is;
            stood = had.stood;
          }

  node_still : (chain : Chain) (m : ℕ) (least : ℕ → ℕ) → IsAt G chain.visit.table
      → AreFrom low G (chain.visit.table ∷ []) → ((n : ℕ) → seen n ≡ true → seen' n ≡ true)
      → seen m ≡ true → AtNode env mix seen items loaded G P chain m least → AtNode env mix seen' items loaded G' P' chain m least
  node_still chain m least of from_low keeps stood at = record {
    here = place_still chain.visit.table of from_low chain.visit.bucket (word_index env mix chain.place) at.here;
    page = page_still chain.visit.table of from_low (word_index env mix chain.place) at.page;
    stands = elim at.stands [
      | inl out ↦ inl (record {
        bucket = out.bucket;
        at = out.at;
        is =
            let later = out.later in
            let from = stays chain.visit.table of from_low in
            let table : table_at G out.bucket ≡ out.table = ap table_of_page out.of in
            kept out.bucket m out.at (seen_met m stood) (omega (arith, later, from, table)) out.is;
        table = out.table;
        of =
            let later = out.later in
            let from = stays chain.visit.table of from_low in
            grow.pages (out.bucket / 64) out.table (omega (arith, later, from)) out.of;
        later = let later = out.later in let same = index_still chain.visit.table of from_low in omega (arith, later, same);
      })
      | inr is ↦ inr (record {
        at = is.at;
        is = kept (word_index env mix chain.place) m is.at (seen_met m stood)
            (in_table chain.visit.table of from_low (word_index env mix chain.place) at.page) is.is;
        shown = shown_still chain.visit.table of from_low keeps _ is.shown;
      })
    ];
  }

  -- who stands at a table or a node stands somewhere
  pub owners_outlive : (state : WalkAt) → tied_of_walk env mix G state → AllByRecursion (λ n. seen n ≡ true) (standing_of_walk state).nodes
      → AreFrom low G (standing_of_walk state).tables
      → (standing_of_walk state ≡ stands_nowhere) ⊎ ((n : ℕ) → seen n ≡ true → seen' n ≡ true) → Before state → Then state
  owners_outlive at.Opening tied stood from_low either kept_so = record { none = kept_so.none; nothing = kept_so.nothing }
  owners_outlive at.CurrentTable tied stood from_low either kept_so = record { none = kept_so.none; nothing = kept_so.nothing }
  owners_outlive (at.Serial table) tied stood from_low either kept_so = record { none = kept_so.none; nothing = kept_so.nothing }
  owners_outlive (at.Shape table serial) tied stood from_low either kept_so = record { none = kept_so.none; nothing = kept_so.nothing }
  owners_outlive (at.TableEnd table) tied stood from_low either kept_so = kept_so
  owners_outlive (at.Closing (ends.Walked next)) tied stood from_low either kept_so = kept_so
  owners_outlive (at.Closing (ends.Again table)) tied stood from_low either kept_so = tt
  owners_outlive (at.Entry visit way) tied stood from_low (inl none) kept_so =
      absurd (let tables = ap (λ (s : Standing). s.tables) none in cc)
  owners_outlive (at.Entry visit way) tied stood from_low (inr keeps) kept_so =
      shown_still visit.table tied.walked.of from_low keeps _ kept_so
  owners_outlive (at.Heading visit place) tied stood from_low (inl none) kept_so =
      absurd (let tables = ap (λ (s : Standing). s.tables) none in cc)
  owners_outlive (at.Heading visit place) tied stood from_low (inr keeps) kept_so =
      shown_still visit.table tied.walked.of from_low keeps _ kept_so
  owners_outlive (at.Key chain node) tied stood from_low (inl none) kept_so =
      absurd (let tables = ap (λ (s : Standing). s.tables) none in cc)
  owners_outlive (at.Key chain node) tied stood from_low (inr keeps) kept_so =
      node_still chain node _ tied.of from_low keeps stood.0 kept_so
  owners_outlive (at.Owner chain node port) tied stood from_low (inl none) kept_so =
      absurd (let tables = ap (λ (s : Standing). s.tables) none in cc)
  owners_outlive (at.Owner chain node port) tied stood from_low (inr keeps) kept_so =
      node_still chain node _ tied.of from_low keeps stood.0 kept_so
  owners_outlive (at.Link chain node) tied stood from_low (inl none) kept_so =
      absurd (let tables = ap (λ (s : Standing). s.tables) none in cc)
  owners_outlive (at.Link chain node) tied stood from_low (inr keeps) kept_so =
      node_still chain node _ tied.of from_low keeps stood.0 kept_so
  owners_outlive (at.StrangeEnd visit) tied stood from_low (inl none) kept_so =
      absurd (let tables = ap (λ (s : Standing). s.tables) none in cc)
  owners_outlive (at.StrangeEnd visit) tied stood from_low (inr keeps) (inl behind) = inl (behind_still visit.table tied.of from_low behind)
  owners_outlive (at.StrangeEnd visit) tied stood from_low (inr keeps) (inr shown) =
      inr (shown_still visit.table tied.of from_low keeps _ shown)
