-- Operations after which a call that has ended keeps a lock or its section, the fewest of each kind: a resizing that locks an empty bucket
-- and never stores its word back, so that whoever has loaded the old table waits for ever; a bind that does so; any call that takes the
-- work lock; and one that opens its section and never closes it. Of the first one nothing was said before, since its reply isn't one that
-- changes nothing. That a resizing may clear an entry of a retired table, which is no lock, lets none of these pass.
use Rattle.std.proofs.Common.{◌≡◌, ℕ, ◌+◌, ◌*◌, ◌%◌, ◌<◌, List, [], ◌∷◌, true, inl, inr, refl, ap, arith}
use Rattle.rht_words.specs.declared.env.Env.{Env}
use Rattle.rht_words.specs.declared.geometry.Geometry.{Geometry}
use Rattle.rht_words.specs.declared.op.Op.TheVariants.{Exchange}
use Rattle.rht_words.specs.Places.{WorkLock, Section, PageWord, place_of}
use Rattle.rht_model.specs.declared.history.Call.{Call}
use Rattle.rht_model.specs.declared.history.Call.TheVariants.{Bind, Work}
use Rattle.rht_core.specs.declared.event.Event.{Event}
use Rattle.rht_core.specs.Traces.{Did, Past}
use Rattle.rht_core.specs.Seen.{words_before}
use Rattle.rht_core.specs.Refused.{turns, IsEvenButReturn}
use Rattle.rht_core.specs.LetGo.{HasEnteredAt, HasLetGo}
use Rattle.rht_core.proofs.Undoing.TurnedBits.{turned-here}
use Rattle.rht_core.proofs.Undoing.WorkedRefusals.{locks_it, never_taken, never_returned, opens, keeps_section}

-- The call turned the lowest bit of this word of a page an odd number of times, and entered no page there; nor did it clear an entry of a retired
-- table there, all its other operations having turned the bit an even number of times.
pub record KeepsBucket (g : Geometry) (words_at : ℕ → List ℕ) (call : Call) (steps : List Did) (index : ℕ) : Type 0 where
  pub within : index < 64 * g.pages
  pub odd : turns (place_of g (PageWord index)) 0 steps % 2 ≡ 1
  pub unentered : HasEnteredAt g words_at call steps index → ⊥
  pub unreturned : call ≡ Work → IsEvenButReturn g words_at (place_of g (PageWord index)) 0 steps → ⊥

module _ (g : Geometry) (words_at : ℕ → List ℕ) (index : ℕ) (within : index < 64 * g.pages) where
  abbrev lock : Did
  lock = locks_it g words_at index within

  odd_once : turns (place_of g (PageWord index)) 0 (lock ∷ []) % 2 ≡ 1
  odd_once = ap (λ n. (n + 0) % 2) (turned-here (place_of g (PageWord index)) 0 lock refl)

  -- it clears no entry
  cleared_none : IsEvenButReturn g words_at (place_of g (PageWord index)) 0 (lock ∷ []) → ⊥
  cleared_none = never_returned g words_at (place_of g (PageWord index)) 0 (place_of g (PageWord index)) 0 1 0

  pub never_stored_back : KeepsBucket g words_at Work (lock ∷ []) index
  never_stored_back = record { within = within; odd = odd_once; unentered = λ is. is.may; unreturned = λ is. cleared_none }

  pub bind_keeps_lock : (port owner : ℕ) → KeepsBucket g words_at (Bind port owner true) (lock ∷ []) index
  bind_keeps_lock port owner = record {
    within = within;
    odd = odd_once;
    unentered = λ is. never_taken g words_at lock index is.page is.entered;
    unreturned = λ is. cleared_none;
  }

-- a call with such operations hasn't let go of its locks
pub not_let_go : (M : Type 0) (mix : ℕ → ℕ → ℕ → ℕ) (env : Env) (events : List Event) (c : ℕ) (past : Past) (index : ℕ)
    → KeepsBucket env.geometry (words_before M mix env events) past.done.call past.steps index → HasLetGo M mix env events c past → ⊥
not_let_go M mix env events c past index keeps let_go = elim (let_go.buckets index keeps.within) [
  | inl entered ↦ keeps.unentered entered
  | inr (inl even) ↦ let odd = keeps.odd in absurd (omega (arith, odd, even))
  | inr (inr (works, returns)) ↦ keeps.unreturned works returns
]

-- the work lock, taken and never given back
pub work_kept : (g : Geometry) → turns (place_of g WorkLock) 0 (record { index = 0; op = Exchange (place_of g WorkLock) 0 1; old = 0 } ∷ []) % 2 ≡ 1
work_kept g = refl

-- a section, opened and never closed
pub section_kept : (g : Geometry) (words_at : ℕ → List ℕ) (c : ℕ) (few : c < 16)
    → turns (place_of g (Section c)) 0 (opens g words_at c few ∷ []) % 2 ≡ 1
section_kept g words_at c few = (keeps_section g words_at c few 0).odd
