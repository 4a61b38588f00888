-- A grace period of things that no section meets any more that is opened from now on: each caller's section
-- word is loaded once. It is over once each was even, or was found changed later; when the loads come isn't
-- asked, and that words wrap does no harm.
use Rattle.std.proofs.Common.{◌≡◌, ◌≢◌, ◌⊎◌, ℕ, ◌%◌, Bool, true, false, refl, ◌∙◌, inl, inr, arith}
use Rattle.std.proofs.lemmas.Bool.{both_ways, false_from_ne_true}

-- a section: whether it is open, and whether it may meet a thing
pub record Section (Thing : Type 0) : Type 0 where
  pub reads : Bool
  pub meets : Thing → Bool

-- its word is odd while it is open, and who doesn't read meets nothing
pub record SectionRight (Thing : Type 0) (word : ℕ) (s : Section Thing) : Type 0 where
  pub odd : s.reads ≡ true → word % 2 ≡ 1
  pub reading : (x : Thing) → s.meets x ≡ true → s.reads ≡ true

module _ (Thing : Type 0) (Of : Thing → Type 0) where
  -- what is kept of a caller's section word for such things: while its section may meet one of them its word
  -- is this one
  abbrev pub Kept : ℕ → Section Thing → ℕ → Type 0
  Kept word s kept = (x : Thing) → Of x → s.meets x ≡ true → word ≡ kept

  -- no section of the caller may meet one
  abbrev pub Over : Section Thing → Type 0
  Over s = (x : Thing) → Of x → s.meets x ≡ false

  -- What anybody does: the word changes only where the section is left or opened, and then it meets none of
  -- the things; otherwise it meets none of them that it didn't meet before.
  abbrev pub Goes : ℕ → ℕ → Section Thing → Section Thing → Type 0
  Goes word word' s s' = ((word' ≡ word) × ((x : Thing) → Of x → s'.meets x ≡ true → s.meets x ≡ true))
      ⊎ Over s'

  -- whatever word is loaded is kept
  pub kept-loaded : (word : ℕ) (s : Section Thing) → Kept word s word
  kept-loaded word s x of meets = refl

  -- and stays so, whatever anybody does
  pub kept-stays : (word word' : ℕ) (s s' : Section Thing) (kept : ℕ) → Goes word word' s s'
      → Kept word s kept
      → Kept word' s' kept
  kept-stays word word' s s' kept (inl still) keeps x of meets = still.0 ∙ keeps x of (still.1 x of meets)
  kept-stays word word' s s' kept (inr over) keeps x of meets =
      absurd (both_ways (s'.meets x) (over x of) meets)

  -- an even word says that it is over
  pub over-even : (word : ℕ) (s : Section Thing) (kept : ℕ) → SectionRight Thing word s → kept % 2 ≡ 0
      → Kept word s kept
      → Over s
  over-even word s kept right even keeps x of = false_from_ne_true (s.meets x) (λ meets.
      let odd = right.odd (right.reading x meets) in let same = keeps x of meets in
      omega (arith, odd, same, even))

  -- and so does another word that is loaded later
  pub over-changed : (word : ℕ) (s : Section Thing) (kept : ℕ) → word ≢ kept → Kept word s kept → Over s
  over-changed word s kept other keeps x of = false_from_ne_true (s.meets x)
      (λ meets. other (keeps x of meets))

  -- then any word may be kept in its place
  pub over-kept : (word : ℕ) (s : Section Thing) (kept : ℕ) → Over s → Kept word s kept
  over-kept word s kept over x of meets = absurd (both_ways (s.meets x) (over x of) meets)
