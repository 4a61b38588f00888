-- The number of a port's bucket in a table, by the words: by the table's seed, which its slot's word has.
use Rattle.std.proofs.Common.{◌≡◌, ℕ, List, sym, ap, ◌∙◌}
use Rattle.rht_words.specs.declared.env.Env.{Env}
use Rattle.rht_words.specs.Places.{Slot, SeedWord, word_at}
use Rattle.rht_words.proofs.Memory.{Memory}
use Rattle.rht_policy.specs.Mix.{bucket_of}
use Rattle.rht_ghost.proofs.Theory.Ghosts.{Ghost}
use Rattle.rht_ghost.proofs.Theory.Wholes.{hash_in, IsAt, Whole}
use Rattle.rht_ghost.proofs.Theory.Steps.{mem}
use Rattle.rht_ghost.proofs.Pieces.TableLoads.{seed_word}

module _ (env : Env) (mix : ℕ → ℕ → ℕ → ℕ) (words : List ℕ) (G : Ghost) (whole : Whole env mix (mem env mix words) G) where
  abbrev M : Memory
  M = mem env mix words

  pub hash_in-words : (port slot shape : ℕ) (at : IsAt G slot) → (G.table at.table).shape ≡ shape
      → hash_in env mix G port at.table ≡ bucket_of mix port shape (word_at env.geometry words (Slot slot SeedWord))
  hash_in-words port slot shape at shape_is =
      ap (λ s. bucket_of mix port s (G.table at.table).seed) shape_is
      ∙ ap (bucket_of mix port shape) (sym (seed_word env mix M G whole slot at))
