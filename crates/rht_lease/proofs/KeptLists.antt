-- A reply to a call more, which is kept apart, changes no answer that is kept: a place that names one of them names the same one afterwards.
use Rattle.std.proofs.Common.{◌≡◌, Some, List, [], ◌∷◌, ◌++◌, length, map, slice_get, refl, sym, ◌∙◌, ap, arith, inl, inr}
use Rattle.std.proofs.lemmas.List.{length_push, map_push}
use Rattle.std.proofs.lemmas.Option.{slice_get_cases}
use Rattle.std.specs.List.{AllByRecursion}
use Rattle.rht_words.proofs.EachElement.{slice_get-push, slice_get-push_last, AllByRecursion-push, AllByRecursion-weaker}
use Rattle.rht_model.specs.Endings.{Ending}
use Rattle.rht_lease.specs.declared.lease.LeaseReply.TheVariants as answers
use Rattle.rht_lease.specs.declared.replies.Kept.{Kept}
use Rattle.rht_lease.specs.declared.replies.Kept.TheVariants.{Plain, Renewed, NoLease, Swept}
use Rattle.rht_lease.specs.KeptAnswers.{plain_answer, answer_of, IsKept}

module _ (plain : List Ending) (ending : Ending) where
  -- the replies to calls, with one more
  abbrev longer : List Ending
  longer = plain ++ ending ∷ []

  -- an answer that is kept stays as it was
  answer_of-longer : (kept : Kept) → IsKept plain kept → answer_of longer kept ≡ answer_of plain kept
  answer_of-longer (Plain place) within =
      elim (slice_get_cases plain place).1 [
        | inl found ↦
            let before : slice_get plain place ≡ Some found.0 = found.2 in
            ap plain_answer (slice_get-push plain ending place found.0 before ∙ sym before)
        | inr past ↦ absurd (omega (arith, past.0, within))
      ]
  answer_of-longer Renewed is_kept = refl
  answer_of-longer NoLease is_kept = refl
  answer_of-longer (Swept swept) is_kept = refl

  -- and is kept still
  IsKept-longer : (kept : Kept) → IsKept plain kept → IsKept longer kept
  IsKept-longer (Plain place) within = omega (arith, length_push plain ending, within)
  IsKept-longer Renewed is_kept = tt
  IsKept-longer NoLease is_kept = tt
  IsKept-longer (Swept swept) is_kept = tt

  -- so do all answers that are kept
  pub answers-longer : (all : List Kept) → AllByRecursion (IsKept plain) all → map (answer_of longer) all ≡ map (answer_of plain) all
  answers-longer [] are_kept = refl
  answers-longer (kept ∷ all) are_kept = rw (answer_of-longer kept are_kept.0, answers-longer all are_kept.1) refl

  pub AreKept-longer : (all : List Kept) → AllByRecursion (IsKept plain) all → AllByRecursion (IsKept longer) all
  AreKept-longer all are_kept = AllByRecursion-weaker (IsKept plain) (IsKept longer) IsKept-longer all are_kept

  -- what names the place of the new one is its answer
  answer_of-new : answer_of longer (Plain (length plain)) ≡ (answers.Plain ending.answer.reply, ending.answer.owners)
  answer_of-new = ap plain_answer (slice_get-push_last plain ending)

  -- so one answer more is kept
  pub answers-new : (all : List Kept) → AllByRecursion (IsKept plain) all
      → map (answer_of longer) (all ++ Plain (length plain) ∷ [])
      ≡ map (answer_of plain) all ++ (answers.Plain ending.answer.reply, ending.answer.owners) ∷ []
  answers-new all are_kept =
      rw (map_push (answer_of longer) all (Plain (length plain)), answers-longer all are_kept, answer_of-new) refl

  -- and each of them is kept
  pub AreKept-new : (all : List Kept) → AllByRecursion (IsKept plain) all → AllByRecursion (IsKept longer) (all ++ Plain (length plain) ∷ [])
  AreKept-new all are_kept =
      AllByRecursion-push (IsKept longer) all (Plain (length plain)) (AreKept-longer all are_kept)
      (omega (arith, length_push plain ending))
