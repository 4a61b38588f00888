-- A lock is taken by an exchange from an even word alone.
use Rattle.std.proofs.Common.{ℕ, ◌%◌, refl, eqb}
use Rattle.std.proofs.lemmas.Bool.{cond_both, eqb-true}
use Rattle.rht_words.specs.declared.machine.Next.{Next}
use Rattle.rht_words.specs.declared.machine.Next.TheVariants.{Go, Done}
use Rattle.rht_chain.specs.declared.lock.LockAt.{LockAt}
use Rattle.rht_chain.specs.declared.lock.LockAt.TheVariants as at
use Rattle.rht_chain.specs.Lock.{LockModel, lock_after_at, IsEven}
use Rattle.rht_chain.specs.Laws.{DidAsItSays, LocksEvenWords}

-- By cases on the state.
did_at : (place : ℕ) (at : LockAt) (old : ℕ) → IsEven at
    → DidAsItSays (record { place = place; at = at }) old
    (lock_after_at (record { place = place; at = at }) at old).1
did_at place at.Word old even =
    let m : LockModel = record { place = place; at = at.Word } in
    cond_both {A = LockModel × Next ℕ} (eqb (old % 2) 1) (m, Go) (record m { at = at.Exchange old }, Go)
    (λ next. DidAsItSays m old next.1) (λ odd. refl) (λ unlocked. refl)
did_at place (at.Exchange word) old even =
    let m : LockModel = record { place = place; at = at.Exchange word } in
    cond_both {A = LockModel × Next ℕ} (eqb old word) (m, Done word) (record m { at = at.Word }, Go)
    (λ next. DidAsItSays m old next.1)
    (λ found. record { exchange = refl; found = eqb-true old word found; even = even; locks = rw found refl })
    (λ lost. rw lost refl)

pub locks_even_words : LocksEvenWords
locks_even_words m old even = did_at m.place m.at old even
