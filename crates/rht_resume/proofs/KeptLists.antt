-- An answer more changes none that is kept: a place that names one of the replies to calls, or of the pieces, names the same one afterwards.
use Rattle.std.proofs.Common.{◌≡◌, ℕ, ◌<◌, List, [], ◌∷◌, ◌++◌, length, map, slice_get, refl, sym, ◌∙◌, ap, arith, inl, inr}
use Rattle.std.proofs.lemmas.List.{length_push, map_push}
use Rattle.std.proofs.lemmas.Option.{slice_get_cases}
use Rattle.std.specs.List.{AllByRecursion}
use Rattle.rht_words.proofs.EachElement.{slice_get-push, slice_get-push_last, AllByRecursion-push, AllByRecursion-weaker}
use Rattle.rht_model.specs.Endings.{Ending}
use Rattle.rht_resume.specs.declared.replies.Kept.{Kept}
use Rattle.rht_resume.specs.declared.replies.Kept.TheVariants.{Plain, Next}
use Rattle.rht_resume.specs.declared.replies.Shown.{Shown}
use Rattle.rht_resume.specs.Answers.{plain_answer}
use Rattle.rht_resume.specs.KeptAnswers.{plain_at, piece_at, shown_answer, answer_kept, IsKept}

-- what stands at the places of a list stands there in another one
abbrev Extends : {A : Type 0} → List A → List A → Type 0
Extends list other = (i : ℕ) → i < length list → (slice_get other i ≡ slice_get list i) × (i < length other)

Extends-same : {A : Type 0} (list : List A) → Extends list list
Extends-same list i within = (refl, within)

-- so it is where one more stands behind
Extends-push : {A : Type 0} (list : List A) (last : A) → Extends list (list ++ last ∷ [])
Extends-push list last i within =
    elim (slice_get_cases list i).1 [
      | inl found ↦ (slice_get-push list last i found.0 found.2 ∙ sym found.2, omega (arith, within, length_push list last))
      | inr past ↦ absurd (omega (arith, past.0, within))
    ]

module _ (plain other : List Ending) (pieces more : List Shown) (longer : Extends plain other) (longer_too : Extends pieces more) where
  -- an answer that is kept stays as it was
  answer_kept-longer : (kept : Kept) → IsKept plain pieces kept → answer_kept other more kept ≡ answer_kept plain pieces kept
  answer_kept-longer (Plain place) within = ap plain_at (longer place within).0
  answer_kept-longer (Next place) within = ap piece_at (longer_too place within).0

  -- and is kept still
  IsKept-longer : (kept : Kept) → IsKept plain pieces kept → IsKept other more kept
  IsKept-longer (Plain place) within = (longer place within).1
  IsKept-longer (Next place) within = (longer_too place within).1

  -- so do all answers that are kept
  answers-longer : (all : List Kept) → AllByRecursion (IsKept plain pieces) all
      → map (answer_kept other more) all ≡ map (answer_kept plain pieces) all
  answers-longer [] are_kept = refl
  answers-longer (kept ∷ all) are_kept = rw (answer_kept-longer kept are_kept.0, answers-longer all are_kept.1) refl

  -- and one more, which is kept at a place that there is
  answers-more : (all : List Kept) (last : Kept) → AllByRecursion (IsKept plain pieces) all
      → map (answer_kept other more) (all ++ last ∷ []) ≡ map (answer_kept plain pieces) all ++ answer_kept other more last ∷ []
  answers-more all last are_kept = rw (map_push (answer_kept other more) all last, answers-longer all are_kept) refl

  AreKept-more : (all : List Kept) (last : Kept) → AllByRecursion (IsKept plain pieces) all → IsKept other more last
      → AllByRecursion (IsKept other more) (all ++ last ∷ [])
  AreKept-more all last are_kept is_kept =
      AllByRecursion-push (IsKept other more) all last
      (AllByRecursion-weaker (IsKept plain pieces) (IsKept other more) IsKept-longer all are_kept) is_kept

module _ (plain : List Ending) (pieces : List Shown) (all : List Kept) (are_kept : AllByRecursion (IsKept plain pieces) all) where
  -- ---- a reply to a call more

  module _ (ending : Ending) where
    pub answers-plain_longer : map (answer_kept (plain ++ ending ∷ []) pieces) all ≡ map (answer_kept plain pieces) all
    answers-plain_longer =
        answers-longer plain (plain ++ ending ∷ []) pieces pieces (Extends-push plain ending) (Extends-same pieces) all are_kept

    pub answers-plain : map (answer_kept (plain ++ ending ∷ []) pieces) (all ++ Plain (length plain) ∷ [])
        ≡ map (answer_kept plain pieces) all ++ plain_answer ending ∷ []
    answers-plain =
        answers-more plain (plain ++ ending ∷ []) pieces pieces (Extends-push plain ending) (Extends-same pieces) all (Plain (length plain))
        are_kept
        ∙ ap (λ a. map (answer_kept plain pieces) all ++ plain_at a ∷ []) (slice_get-push_last plain ending)

    pub AreKept-plain : AllByRecursion (IsKept (plain ++ ending ∷ []) pieces) (all ++ Plain (length plain) ∷ [])
    AreKept-plain =
        AreKept-more plain (plain ++ ending ∷ []) pieces pieces (Extends-push plain ending) (Extends-same pieces) all (Plain (length plain))
        are_kept (omega (arith, length_push plain ending))

  -- ---- a piece more

  module _ (shown : Shown) where
    pub answers-piece_longer : map (answer_kept plain (pieces ++ shown ∷ [])) all ≡ map (answer_kept plain pieces) all
    answers-piece_longer =
        answers-longer plain plain pieces (pieces ++ shown ∷ []) (Extends-same plain) (Extends-push pieces shown) all are_kept

    pub answers-piece : map (answer_kept plain (pieces ++ shown ∷ [])) (all ++ Next (length pieces) ∷ [])
        ≡ map (answer_kept plain pieces) all ++ shown_answer shown ∷ []
    answers-piece =
        answers-more plain plain pieces (pieces ++ shown ∷ []) (Extends-same plain) (Extends-push pieces shown) all (Next (length pieces))
        are_kept
        ∙ ap (λ a. map (answer_kept plain pieces) all ++ piece_at a ∷ []) (slice_get-push_last pieces shown)

    pub AreKept-piece : AllByRecursion (IsKept plain (pieces ++ shown ∷ [])) (all ++ Next (length pieces) ∷ [])
    AreKept-piece =
        AreKept-more plain plain pieces (pieces ++ shown ∷ []) (Extends-same plain) (Extends-push pieces shown) all (Next (length pieces))
        are_kept (omega (arith, length_push pieces shown))
