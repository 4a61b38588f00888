-- Taking the lock of a bucket: what each state performs, and what comes after it.
use Rattle.std.specs.Prelude.{◌≡◌, ℕ, ◌+◌, ◌%◌, ◌==◌, if◌then◌else◌}
use Rattle.rht_words.specs.declared.op.Op.{Op}
use Rattle.rht_words.specs.declared.op.Op.TheVariants.{Load, Exchange}
use Rattle.rht_words.specs.declared.machine.Next.{Next}
use Rattle.rht_words.specs.declared.machine.Next.TheVariants.{Go, Done}
use Rattle.rht_words.specs.declared.geometry.Geometry.{Geometry}
use Rattle.rht_words.specs.Places.{IsBucketPlace}
use Rattle.rht_words.specs.Planned.{IsWord}
use Rattle.rht_chain.specs.declared.lock.LockAt.{LockAt}
use Rattle.rht_chain.specs.declared.lock.LockAt.TheVariants as at

-- what contracts see of the machine
pub record LockModel : Type 0 where
  pub place : ℕ
  pub at : LockAt

-- it begins by loading the word at this place
abbrev pub lock_new : ℕ → LockModel
lock_new place = record { place = place; at = at.Word }

-- the state's one operation
abbrev pub lock_plan_at : ℕ → LockAt → Op
lock_plan_at place at.Word = Load place
lock_plan_at place (at.Exchange word) = Exchange place word (word + 1)

abbrev pub lock_plan : LockModel → Op
lock_plan m = lock_plan_at m.place m.at

-- what comes after a state that found this word
abbrev pub lock_after_at : LockModel → LockAt → ℕ → LockModel × Next ℕ
lock_after_at m at.Word word = if word % 2 == 1 then (m, Go) else (record m { at = at.Exchange word }, Go)
lock_after_at m (at.Exchange found) word = if word == found then (m, Done found) else
    (record m { at = at.Word }, Go)

abbrev pub lock_after : LockModel → ℕ → LockModel × Next ℕ
lock_after m word = lock_after_at m m.at word

-- the word that is to be locked isn't
abbrev pub IsEven : LockAt → Type 0
IsEven at.Word = Unit {0}
IsEven (at.Exchange word) = word % 2 ≡ 0

-- the word that is to be locked is a word
abbrev pub IsLockWord : LockAt → Type 0
IsLockWord at.Word = Unit {0}
IsLockWord (at.Exchange word) = IsWord word

-- the lock is a bucket's, and the word that it has found is an even one
pub record IsLockIn (g : Geometry) (m : LockModel) : Type 0 where
  pub place_in : IsBucketPlace g m.place
  pub even : IsEven m.at
  pub word_in : IsLockWord m.at

-- The operation is on the word at this place. It loads it, or locks it where it is found unlocked.
abbrev pub IsLocking : ℕ → Op → Type 0
IsLocking place (Load at) = at ≡ place
IsLocking place (Exchange at old new) = (at ≡ place) × (old % 2 ≡ 0) × (new ≡ old + 1)
IsLocking place _ = ⊥
