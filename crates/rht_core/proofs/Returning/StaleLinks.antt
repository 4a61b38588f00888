-- Which operations leave what a section may meet. All that callers make do, but those that open or close the
-- section, where they give back no node that it may meet.
use Rattle.std.proofs.Common.{◌≡◌, ℕ, suc, ◌%◌, false, sym, ◌∙◌, inl, inr, arith}
use Rattle.std.proofs.lemmas.Bool.{both_ways}
use Rattle.rht_words.specs.declared.env.Env.{Env}
use Rattle.rht_words.specs.Places.{Section}
use Rattle.rht_words.proofs.Memory.{Memory}
use Rattle.rht_ghost.proofs.Theory.Ghosts.{Ghost}
use Rattle.rht_ghost.proofs.Theory.Frames.{Made, GoesBack}
use Rattle.rht_ghost.proofs.Theory.Passed.{there_from-from}
use Rattle.rht_core.proofs.Returning.Readers.{Reader, ReaderRight, LeavesStale, meets_too, reader-stays}

module _ (env : Env) (mix : ℕ → ℕ → ℕ → ℕ) where
  -- What any operation makes leaves what a section may meet, if it neither opens the section nor closes it; but a node that it gives back
  -- must be none of these.
  made-leaves : (d c : ℕ) (M M' : Memory) (G G' : Ghost) (r : Reader) → r.from ≡ G.from c → Made env mix d M G M' G'
      → ((n : ℕ) → GoesBack env mix d G G' n → r.lists n ≡ false)
      → M' (Section c) % 2 ≡ M (Section c) % 2 → LeavesStale env mix M G M' G' c r
  made-leaves d c M M' G G' r from_is made unmet section =
      let stay = (made.others (suc d) (λ e. absurd (omega arith))).tables in
      record {
        section = section;
        current = stay.grow.current;
        there = λ τ is. there_from-from env mix stay.low G G' stay.grow τ (stay.sections c τ (sym from_is ∙ is));
        used = λ n met used. elim (made.stale.owners.used n used) [
          | inl stays ↦ stays
          | inr back ↦ absurd (both_ways (r.lists n) (unmet n back) met)
        ];
        chains = made.stale.chains;
        lists = made.stale.lists;
      }

  -- so what is true of what it may meet is true then
  pub made-keeps : (d c : ℕ) (M M' : Memory) (G G' : Ghost) (r : Reader) → r.from ≡ G.from c → Made env mix d M G M' G'
      → ((n : ℕ) → GoesBack env mix d G G' n → r.lists n ≡ false)
      → M' (Section c) % 2 ≡ M (Section c) % 2 → ReaderRight env mix M G c r
      → ReaderRight env mix M' G' c (meets_too G' r)
  made-keeps d c M M' G G' r from_is made unmet section right =
      reader-stays env mix M G M' G' c r right made.whole (made-leaves d c M M' G G' r from_is made unmet section)
