-- The nodes of a caller that wait to be given back, and what is kept of the section words, whatever anybody
-- does. Once each kept word was even or has changed no open section may meet one of the nodes.
use Rattle.std.proofs.Common.{◌≡◌, ◌≢◌, ℕ, ◌%◌, List, true, refl, ap, inl, inr}
use Rattle.std.specs.Prelude.{◌&&◌}
use Rattle.std.proofs.lemmas.Bool.{both_ways, and_right, or_cases}
use Rattle.rht_words.specs.declared.env.Env.{Env}
use Rattle.rht_words.specs.Members.{In}
use Rattle.rht_words.specs.Places.{Section}
use Rattle.rht_words.proofs.Memory.{Memory}
use Rattle.rht_ghost.proofs.Theory.Ghosts.{Taken, Ghost, is_listed}
use Rattle.rht_core.proofs.Returning.Readers.{Reader, is_open, meets_too, opens, reads_nothing, ReaderRight}
use Rattle.rht_core.proofs.Returning.GracePeriods as grace

-- what a section may meet of nodes in lists
abbrev pub section_of : Reader → grace.Section ℕ
section_of r = record { reads = is_open r; meets = r.lists }

-- these nodes were taken out by the caller
abbrev pub AreOut : ℕ → Ghost → List ℕ → Type 0
AreOut d G nodes = (n : ℕ) → In n nodes → G.node n ≡ Taken d

module _ (env : Env) (mix : ℕ → ℕ → ℕ → ℕ) (c : ℕ) (nodes : List ℕ) where
  abbrev Of : ℕ → Type 0
  Of n = In n nodes

  -- while a section of the caller may meet one of these nodes, its word is this one
  abbrev pub KeptFor : Memory → Reader → ℕ → Type 0
  KeptFor M r kept = grace.Kept ℕ Of (M (Section c)) (section_of r) kept

  -- no section of it may meet one
  abbrev pub OverFor : Reader → Type 0
  OverFor r = grace.Over ℕ Of (section_of r)

  -- an operation that leaves the section's word leaves what is kept
  pub kept-left : (d : ℕ) (M M' : Memory) (G' : Ghost) (r : Reader) (kept : ℕ)
      → M' (Section c) ≡ M (Section c) → AreOut d G' nodes → KeptFor M r kept
      → KeptFor M' (meets_too G' r) kept
  kept-left d M M' G' r kept same out keeps =
      grace.kept-stays ℕ Of (M (Section c)) (M' (Section c)) (section_of r) (section_of (meets_too G' r)) kept
      (inl (same, was_met)) keeps
    where
      -- nodes that were taken out are in no list, so none comes to be met
      was_met : (n : ℕ) → In n nodes → (meets_too G' r).lists n ≡ true → r.lists n ≡ true
      was_met n there met =
          let unlisted = and_right (is_open r) (is_listed (G'.node n)) (ap is_listed (out n there)) in
          elim (or_cases (r.lists n) (is_open r && is_listed (G'.node n)) met) [
            | inl before ↦ before
            | inr now ↦ absurd (both_ways (is_open r && is_listed (G'.node n)) unlisted now)
          ]

  -- so does a section that is opened, and one that is left
  pub kept-opened : (d : ℕ) (M' : Memory) (G : Ghost) (kept : ℕ) → AreOut d G nodes
      → KeptFor M' (opens G) kept
  kept-opened d M' G kept out =
      grace.over-kept ℕ Of (M' (Section c)) (section_of (opens G)) kept
      (λ n there. ap is_listed (out n there))

  pub kept-closed : (M' : Memory) (kept : ℕ) → KeptFor M' reads_nothing kept
  kept-closed M' kept = grace.over-kept ℕ Of (M' (Section c)) (section_of reads_nothing) kept
      (λ n there. refl)

  -- the word that is loaded is kept
  pub kept-now : (M : Memory) (r : Reader) → KeptFor M r (M (Section c))
  kept-now M r = grace.kept-loaded ℕ Of (M (Section c)) (section_of r)

  -- another word that is loaded later says that it is over, so that 0 may be kept from then on
  pub kept-changed : (M : Memory) (r : Reader) (kept : ℕ) → M (Section c) ≢ kept → KeptFor M r kept
      → KeptFor M r 0
  kept-changed M r kept other keeps =
      grace.over-kept ℕ Of (M (Section c)) (section_of r) 0
      (grace.over-changed ℕ Of (M (Section c)) (section_of r) kept other keeps)

  -- where an even word is kept no section of the caller may meet one of the nodes
  pub over-now : (M : Memory) (G : Ghost) (r : Reader) (kept : ℕ) → ReaderRight env mix M G c r → kept % 2 ≡ 0
      → KeptFor M r kept → OverFor r
  over-now M G r kept right even keeps =
      grace.over-even ℕ Of (M (Section c)) (section_of r) kept
      (record { odd = right.odd.1; reading = right.reading }) even keeps
