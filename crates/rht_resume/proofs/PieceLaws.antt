-- What comes of a `next` whatever its walks were answered: a piece of the size that was wanted or the last one; or that the walk has to begin
-- anew, exactly where one of the walks was answered so.
use Rattle.std.proofs.Common.{◌≡◌, ℕ, ◌-◌, ◌≤◌, ◌==◌, nat_lt, Bool, true, false, if◌then◌else◌, Option, Some, None, List, [], ◌∷◌, ◌++◌, length, take, drop, refl, sym, ◌∙◌, ap, subst, inl, inr, arith}
use Rattle.std.proofs.lemmas.Bool.{ltb-true, ltb-false, eqb-true}
use Rattle.std.proofs.lemmas.List.{length-append, length-take-le}
use Rattle.rht_model.specs.declared.history.Cursor.{Cursor}
use Rattle.rht_model.specs.declared.history.Reply.{Reply}
use Rattle.rht_model.specs.declared.history.Reply.TheVariants as replies
use Rattle.rht_model.specs.Endings.{Ending}
use Rattle.rht_resume.specs.declared.resume.Piece.TheVariants.{Part, Again}
use Rattle.rht_resume.specs.declared.resumed.Spot.{Spot}
use Rattle.rht_resume.specs.Pieces.{Outcome, Turn, On, Over, Never, start, before, behind_answer, taking, turn_by, turn_of, outcome_by, outcome_from}
use Rattle.rht_resume.specs.Laws.{IsPieceOf, CutsRightly, AnswersAgain, BeginsAnewByWalk}
use Rattle.rht_resume.proofs.WalkSteps.{IsWalked, OverWalked, over-taking}

pub some_in : {A : Type 0} {one other : A} → Some one ≡ Some other → one ≡ other
some_in {A} {one} {other} same = cc

-- ---- sizes

-- A `next` that goes on has no more pairs than are wanted, and one that is over has such a piece.
abbrev IsCutSo : ℕ → Turn → Type 0
IsCutSo limit (On spot pairs) = length pairs ≤ limit
IsCutSo limit (Over outcome) = IsPieceOf limit outcome.piece outcome.pairs outcome.spot
IsCutSo limit Never = Unit {0}

cut-either : (limit : ℕ) (case : Bool) (one other : Turn) → (case ≡ true → IsCutSo limit one) → (case ≡ false → IsCutSo limit other)
    → IsCutSo limit (if case then one else other)
cut-either limit true one other first second = first refl
cut-either limit false one other first second = second refl

cut-behind : (limit : ℕ) (pairs : List (ℕ × ℕ)) (next : Option Cursor) → length pairs ≤ limit → IsCutSo limit (behind_answer limit pairs next)
cut-behind limit pairs None within = (refl, within, refl)
cut-behind limit pairs (Some cursor) within =
    cut-either limit (length pairs == limit) (Over (record { piece = Part; spot = Some (before cursor); pairs = pairs })) (On (before cursor) pairs)
    (λ enough. (eqb-true (length pairs) limit enough, λ none. absurd (cc))) (λ few. within)

cut-taking : (limit : ℕ) (spot : Spot) (pairs fresh : List (ℕ × ℕ)) (next : Option Cursor) → length pairs ≤ limit
    → IsCutSo limit (taking limit spot pairs (limit - length pairs) fresh next)
cut-taking limit spot pairs fresh next within =
    let wanted = limit - length pairs in
    cut-either limit (nat_lt wanted (length fresh)) _ (behind_answer limit (pairs ++ fresh) next)
    (λ more.
    let less = ltb-true wanted (length fresh) more in
    let taken = length-take-le wanted fresh (omega (arith, less)) in
    (omega (arith, within, taken, length-append pairs (take wanted fresh)), λ none. absurd (cc)))
    (λ few.
    let all = ltb-false wanted (length fresh) few in
    cut-behind limit (pairs ++ fresh) next (omega (arith, within, all, length-append pairs fresh)))

cut-again : (limit table : ℕ) → IsPieceOf limit (Again table) [] (Some start)
cut-again limit table = (refl, refl)

cut-turn : (limit : ℕ) (spot : Spot) (pairs : List (ℕ × ℕ)) (reply : Reply) (seen : List (ℕ × ℕ)) → length pairs ≤ limit
    → IsCutSo limit (turn_by limit spot pairs reply seen)
cut-turn limit spot pairs (replies.Walked len next) seen within = cut-taking limit spot pairs (drop spot.shown seen) next within
cut-turn limit spot pairs (replies.Again table) seen within = cut-again limit table
cut-turn limit spot pairs _ seen within = tt

module _ (limit : ℕ) (outcome : Outcome) where
  cut-over : (endings : List Ending)
      → ((spot : Spot) (pairs : List (ℕ × ℕ)) → length pairs ≤ limit → outcome_from limit spot pairs endings ≡ Some outcome
      → IsPieceOf limit outcome.piece outcome.pairs outcome.spot)
      → (turn : Turn) → IsCutSo limit turn → outcome_by turn endings (λ s p. outcome_from limit s p endings) ≡ Some outcome
      → IsPieceOf limit outcome.piece outcome.pairs outcome.spot
  cut-over endings others (On spot pairs) cut is = others spot pairs cut is
  cut-over [] others (Over over) cut is =
      subst (λ (o : Outcome). IsPieceOf limit o.piece o.pairs o.spot) (some_in is) cut
  cut-over (ending ∷ endings) others (Over over) cut is = absurd (cc)
  cut-over endings others Never cut is = absurd (cc)

  -- By induction over the answers.
  cut-from : (spot : Spot) (pairs : List (ℕ × ℕ)) (endings : List Ending) → length pairs ≤ limit
      → outcome_from limit spot pairs endings ≡ Some outcome → IsPieceOf limit outcome.piece outcome.pairs outcome.spot
  cut-from spot pairs [] within is = absurd (cc)
  cut-from spot pairs (ending ∷ endings) within is =
      cut-over endings (λ s p less. cut-from s p endings less) (turn_of limit spot pairs ending)
      (cut-turn limit spot pairs ending.answer.reply ending.pairs within) is

pub cuts : CutsRightly
cuts limit spot endings outcome is = cut-from limit outcome spot [] endings (omega arith) is

-- ---- walks that have to begin anew

module _ (limit table : ℕ) (outcome : Outcome) where
  -- the piece says so exactly where one of these was answered so
  abbrev IsAgainBy : List Ending → Type 0
  IsAgainBy endings = (outcome.piece ≡ Again table → AnswersAgain table endings) × (AnswersAgain table endings → outcome.piece ≡ Again table)

  anew-turn : (ending : Ending) (endings : List Ending)
      → ((spot : Spot) (pairs : List (ℕ × ℕ)) → outcome_from limit spot pairs endings ≡ Some outcome → IsAgainBy endings)
      → (ending.answer.reply ≡ replies.Again table → ⊥) → (turn : Turn) → OverWalked turn
      → outcome_by turn endings (λ s p. outcome_from limit s p endings) ≡ Some outcome → IsAgainBy (ending ∷ endings)
  anew-turn ending endings others other (On spot pairs) walked is =
      let behind = others spot pairs is in
      (λ again. inr (behind.0 again), λ any. elim any [ inl here ↦ absurd (other here) | inr there ↦ behind.1 there ])
  anew-turn ending [] others other (Over over) walked is =
      let piece : over.piece ≡ outcome.piece = ap (λ (o : Outcome). o.piece) (some_in is) in (
        λ again. absurd (subst IsWalked (piece ∙ again) walked),
        λ any. elim any [ inl here ↦ absurd (other here) | inr there ↦ absurd there ],
      )
  anew-turn ending (next ∷ endings) others other (Over over) walked is = absurd (cc)
  anew-turn ending endings others other Never walked is = absurd (cc)

  anew-again : (ending : Ending) (endings : List Ending) (named : ℕ) → ending.answer.reply ≡ replies.Again named
      → outcome_by (Over (record { piece = Again named; spot = Some start; pairs = [] })) endings (λ s p. outcome_from limit s p endings)
      ≡ Some outcome
      → IsAgainBy (ending ∷ endings)
  anew-again ending [] named reply is =
      let piece : Again named ≡ outcome.piece = ap (λ (o : Outcome). o.piece) (some_in is) in (
        λ again. inl (reply ∙ (let same : named ≡ table = cc in ap (λ n. replies.Again n) same)),
        λ any. elim any [ inl here ↦ (let same : named ≡ table = cc in sym piece ∙ ap (λ n. Again n) same) | inr there ↦ absurd there ],
      )
  anew-again ending (next ∷ endings) named reply is = absurd (cc)

  -- By induction over the answers.
  anew-from : (spot : Spot) (pairs : List (ℕ × ℕ)) (endings : List Ending) → outcome_from limit spot pairs endings ≡ Some outcome
      → IsAgainBy endings
  anew-from spot pairs [] is = absurd (cc)
  anew-from spot pairs (ending ∷ endings) is = by_reply (λ s p. anew-from s p endings) ending.answer.reply refl
    where
      by_reply : ((s : Spot) (p : List (ℕ × ℕ)) → outcome_from limit s p endings ≡ Some outcome → IsAgainBy endings)
          → (reply : Reply) → ending.answer.reply ≡ reply → IsAgainBy (ending ∷ endings)
      by_reply others (replies.Walked len next) reply =
          let turn_is : turn_of limit spot pairs ending ≡ taking limit spot pairs (limit - length pairs) (drop spot.shown ending.pairs) next =
          ap (λ r. turn_by limit spot pairs r ending.pairs) reply in
          anew-turn ending endings others (λ again. absurd (cc))
          (taking limit spot pairs (limit - length pairs) (drop spot.shown ending.pairs) next)
          (over-taking limit spot pairs (limit - length pairs) (drop spot.shown ending.pairs) next)
          (ap (λ t. outcome_by t endings (λ s p. outcome_from limit s p endings)) (sym turn_is) ∙ is)
      by_reply others (replies.Again named) reply =
          let turn_is : turn_of limit spot pairs ending ≡ Over (record { piece = Again named; spot = Some start; pairs = [] }) =
          ap (λ r. turn_by limit spot pairs r ending.pairs) reply in
          anew-again ending endings named reply
          (ap (λ t. outcome_by t endings (λ s p. outcome_from limit s p endings)) (sym turn_is) ∙ is)
      by_reply others _ reply =
          let turn_is : turn_of limit spot pairs ending ≡ Never = ap (λ r. turn_by limit spot pairs r ending.pairs) reply in
          let never = ap (λ t. outcome_by t endings (λ s p. outcome_from limit s p endings)) (sym turn_is) ∙ is in
          absurd (cc)

pub begins_anew : BeginsAnewByWalk
begins_anew limit spot endings outcome table is = anew-from limit table outcome spot [] endings is
