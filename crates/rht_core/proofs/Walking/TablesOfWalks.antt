-- The table that a walk is in, named by its slot: it is there, it has the bucket at which the walk is, and where that bucket's word leads.
use Rattle.std.proofs.Common.{◌≡◌, ℕ, ◌<◌, List, Some, refl, sym, subst, ◌/◌}
use Rattle.rht_words.specs.declared.env.Env.{Env}
use Rattle.rht_words.specs.declared.op.Op.TheVariants.{Load}
use Rattle.rht_words.specs.Links.{head_of}
use Rattle.rht_words.specs.Operations.{old_of}
use Rattle.rht_words.specs.Places.{IsBucketPlace}
use Rattle.rht_words.specs.Shapes.{unpacked, size_of}
use Rattle.rht_walk.specs.Walk.{IsVisitIn}
use Rattle.rht_walk.specs.declared.walk.Visit.{Visit}
use Rattle.rht_ghost.proofs.Theory.Ghosts.{Ghost, index_at, table_at, PageOf}
use Rattle.rht_ghost.proofs.Theory.Passed.{place-table, place-word}
use Rattle.rht_ghost.proofs.Theory.Steps.{mem}
use Rattle.rht_ghost.proofs.Theory.Wholes.{place_at, word_index, Whole, IsThere, at-there}
use Rattle.rht_core.proofs.Finding.BucketHeads.{loaded_head}
use Rattle.rht_core.proofs.Returning.TiedWalks.{IsWalked, IsAtBucket, number_below}
use Rattle.rht_core.proofs.Walking.SlotsOfTables.{index_is}

module _ (env : Env) (mix : ℕ → ℕ → ℕ → ℕ) (words : List ℕ) (G : Ghost) (whole : Whole env mix (mem env mix words) G) (visit : Visit)
    (within : IsVisitIn visit) where
  abbrev pub τ : ℕ
  τ = index_at G visit.table

  module _ (walked : IsWalked env mix G visit) where
    same_table : τ ≡ walked.of.table
    same_table = index_is env mix (mem env mix words) G whole visit.table walked.of

    pub walked_there : IsThere G τ
    walked_there = subst (IsThere G) (sym same_table) (at-there walked.of)

    pub walked_number : visit.bucket < size_of (unpacked (G.table τ).shape)
    walked_number =
        subst (λ σ. visit.bucket < size_of (unpacked (G.table σ).shape)) (sym same_table)
        (number_below env mix words G whole visit within walked)

    -- the page of a bucket that has its number there, and its table
    pub walked_page : (j : ℕ) → (G.table τ).place visit.bucket ≡ Some j → G.page (j / 64) ≡ PageOf τ
    walked_page j is = (place-word env mix (mem env mix words) G whole τ visit.bucket j walked_there walked_number is).of

    pub walked_table : (j : ℕ) → (G.table τ).place visit.bucket ≡ Some j → table_at G j ≡ τ
    walked_table j is = place-table env mix (mem env mix words) G whole τ visit.bucket j walked_there walked_number is

  module _ (place : ℕ) (there : IsBucketPlace env.geometry place) (tied : IsAtBucket env mix G visit place) where
    pub heading_here : (G.table τ).place visit.bucket ≡ Some (word_index env mix place)
    heading_here =
        subst (λ σ. (G.table σ).place visit.bucket ≡ Some (word_index env mix place)) (sym (same_table tied.walked)) tied.here

    pub heading_leads : head_of place (old_of words (Load place))
        ≡ head_of (place_at env mix (word_index env mix place)) (G.bucket (word_index env mix place)).plain
    heading_leads =
        loaded_head env mix words G whole τ visit.bucket (word_index env mix place) (walked_there tied.walked) (walked_number tied.walked)
        heading_here place there refl
