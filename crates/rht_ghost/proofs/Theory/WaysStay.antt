-- What is known of the way to a bucket over entries, and of the table behind, outlives a step that leaves tables what they are.
use Rattle.std.proofs.Common.{ℕ, ◌+◌, ◌<◌, ◌≤◌, Option, Some, None, sym, ◌∙◌, ap, subst, inl, inr, arith}
use Rattle.std.specs.Prelude.{IfSome}
use Rattle.rht_words.specs.declared.env.Env.{Env}
use Rattle.rht_nest.specs.Tables.{is_nested}
use Rattle.rht_nest.specs.Place.{PlaceModel}
use Rattle.rht_ghost.proofs.Theory.Ghosts.{Ghost}
use Rattle.rht_ghost.proofs.Theory.Wholes.{hash_in}
use Rattle.rht_ghost.proofs.Theory.Passed.{GrowsFrom, hash-from}
use Rattle.rht_ghost.proofs.Theory.Knowledge.{IsWay, IsWayIn, IsWayTo, IsRightBehind}

module _ (env : Env) (mix : ℕ → ℕ → ℕ → ℕ) (low : ℕ) (G G' : Ghost) (grow : GrowsFrom env mix low G G') where
  -- the entries on the way to a bucket are where they were, of a table that stays
  IsWay-from : (number τ shape : ℕ) (place : PlaceModel) → τ < G.attached → low ≤ τ → IsWay env mix G number τ shape place
      → IsWay env mix G' number τ shape place
  IsWay-from number τ shape place l from way = elim way [
    | inl first ↦ inl first
    | inr second ↦ inr (record {
      page = second.page;
      of = grow.pages second.page τ from second.of;
      part_is = grow.parts second.page τ l from second.of ∙ second.part_is;
      place_is = second.place_is;
    })
  ]

  pub IsWayIn-from : (number τ : ℕ) (place : PlaceModel) → τ < G.attached → low ≤ τ → IsWayIn env mix G number τ place
      → IsWayIn env mix G' number τ place
  IsWayIn-from number τ place l from to =
      let shape = (grow.tables τ l).shape in
      record {
        nested = ap is_nested shape ∙ to.nested;
        way = subst (λ s. IsWay env mix G' number τ s place) (sym shape)
            (IsWay-from number τ (G.table τ).shape place l from to.way);
      }

  -- and those to the bucket of a port
  pub IsWayTo-from : (port τ : ℕ) (place : PlaceModel) → τ < G.attached → low ≤ τ
      → IsWayTo env mix G port τ place → IsWayTo env mix G' port τ place
  IsWayTo-from port τ place l from to =
      rw (hash-from env mix low G G' grow port τ l) (IsWayIn-from (hash_in env mix G port τ) τ place l from to)

  -- and a table right behind another one stays there
  pub IsRightBehind-from : (τ : ℕ) (early : Option ℕ)
      → IfSome early (IsRightBehind env mix G τ) → IfSome early (IsRightBehind env mix G' τ)
  IsRightBehind-from τ None is = tt
  IsRightBehind-from τ (Some next) is = record {
    attached = omega (arith, is.attached, grow.attached);
    slot_is = (grow.tables (τ + 1) is.attached).slot ∙ is.slot_is;
  }
