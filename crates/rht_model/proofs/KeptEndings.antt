-- What is appended to the replies that are kept apart changes no ending that is kept: a place that
-- names one of them names the same one afterwards.
use Rattle.std.proofs.Common.{◌≡◌, Some, List, [], ◌∷◌, ◌++◌, length, map, slice_get, refl, sym, ◌∙◌, ap, arith, inl, inr}
use Rattle.std.proofs.lemmas.List.{length_push, map_push}
use Rattle.std.proofs.lemmas.Option.{slice_get_cases}
use Rattle.std.specs.List.{AllByRecursion}
use Rattle.rht_words.proofs.EachElement.{slice_get-push, slice_get-push_last, AllByRecursion-push, AllByRecursion-weaker}
use Rattle.rht_model.specs.declared.replies.Kept.{Kept}
use Rattle.rht_model.specs.declared.replies.Kept.TheVariants.{Bound, Exists, Found, Missing, Released, Absent, Apart}
use Rattle.rht_model.specs.declared.replies.Whole.{Whole}
use Rattle.rht_model.specs.Endings.{replied}
use Rattle.rht_model.specs.KeptReplies.{ending_apart, ending_of, IsKept}

module _ (apart : List Whole) (whole : Whole) where
  -- the replies kept apart, with one more
  abbrev longer : List Whole
  longer = apart ++ whole ∷ []

  -- an ending that is kept stays as it was
  pub ending_of-longer : (kept : Kept) → IsKept apart kept → ending_of longer kept ≡ ending_of apart kept
  ending_of-longer (Bound kick) is_kept = refl
  ending_of-longer (Exists owner) is_kept = refl
  ending_of-longer (Found owner) is_kept = refl
  ending_of-longer Missing is_kept = refl
  ending_of-longer (Released kick) is_kept = refl
  ending_of-longer Absent is_kept = refl
  ending_of-longer (Apart place) within =
      elim (slice_get_cases apart place).1 [
        | inl found ↦
            let before : slice_get apart place ≡ Some found.0 = found.2 in
            ap ending_apart (slice_get-push apart whole place found.0 before ∙ sym before)
        | inr past ↦ absurd (omega (arith, past.0, within))
      ]

  -- and is kept still
  pub IsKept-longer : (kept : Kept) → IsKept apart kept → IsKept longer kept
  IsKept-longer (Bound kick) is_kept = tt
  IsKept-longer (Exists owner) is_kept = tt
  IsKept-longer (Found owner) is_kept = tt
  IsKept-longer Missing is_kept = tt
  IsKept-longer (Released kick) is_kept = tt
  IsKept-longer Absent is_kept = tt
  IsKept-longer (Apart place) within = omega (arith, length_push apart whole, within)

  -- so do all endings that are kept
  pub endings-longer : (all : List Kept) → AllByRecursion (IsKept apart) all
      → map (ending_of longer) all ≡ map (ending_of apart) all
  endings-longer [] are_kept = refl
  endings-longer (kept ∷ all) are_kept =
      rw (ending_of-longer kept are_kept.0, endings-longer all are_kept.1) refl

  -- what names the place of the new one has its ending
  pub ending_of-new : ending_of longer (Apart (length apart))
      ≡ replied whole.reply whole.owners.items whole.pairs.items
  ending_of-new = ap ending_apart (slice_get-push_last apart whole)

  -- so one ending more is kept
  pub endings-new : (all : List Kept) → AllByRecursion (IsKept apart) all
      → map (ending_of longer) (all ++ Apart (length apart) ∷ [])
      ≡ map (ending_of apart) all ++ replied whole.reply whole.owners.items whole.pairs.items ∷ []
  endings-new all are_kept =
      rw (
        map_push (ending_of longer) all (Apart (length apart)),
        endings-longer all are_kept,
        ending_of-new,
      ) refl

  -- and each of them is kept
  pub AreKept-new : (all : List Kept) → AllByRecursion (IsKept apart) all
      → AllByRecursion (IsKept longer) (all ++ Apart (length apart) ∷ [])
  AreKept-new all are_kept =
      AllByRecursion-push (IsKept longer) all (Apart (length apart))
      (AllByRecursion-weaker (IsKept apart) (IsKept longer) IsKept-longer all are_kept)
      (omega (arith, length_push apart whole))
