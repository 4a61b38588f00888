-- The answers of a `next`, one after another: which of them belong to it, which calls they answer, and what each further one makes of it.
use Rattle.std.proofs.Common.{◌≡◌, ◌≢◌, ℕ, Bool, true, false, ◌&&◌, Some, None, List, [], ◌∷◌, ◌++◌, length, drop, refl, sym, ◌∙◌, ap, subst, append_assoc, arith}
use Rattle.std.proofs.lemmas.List.{length_push}
use Rattle.rht_model.specs.declared.finished.Finished.{Finished}
use Rattle.rht_model.specs.declared.history.Call.{Call}
use Rattle.rht_model.specs.declared.history.Reply.{Reply}
use Rattle.rht_model.specs.declared.history.Reply.TheVariants as replies
use Rattle.rht_model.specs.Endings.{Ending, ended_with}
use Rattle.rht_core.specs.Serving.{asks_for_work, AreBehind, AreForCommand, Serves}
use Rattle.rht_resume.specs.declared.resumed.Spot.{Spot}
use Rattle.rht_resume.specs.Pieces.{Outcome, Turn, On, Over, Never, turn_by, turn_of, outcome_by, outcome_from, outcome_of, walk_at, walks_by, walks_from, walks_of, own_from, ended_each}

-- ---- one answer more

-- The `next` at this spot isn't over by these answers: it is at another spot by now, and has these pairs.
pub record IsUnderway (limit : ℕ) (first : Spot) (endings : List Ending) (spot : Spot) (pairs : List (ℕ × ℕ)) : Type 0 where
  pub calls : List Call
  pub many : length calls ≡ length endings
  pub outcome : (more : List Ending) → outcome_of limit first (endings ++ more) ≡ outcome_from limit spot pairs more
  pub walks : (more : List Ending) → walks_of limit first (endings ++ more) ≡ calls ++ walks_from limit spot pairs more

abbrev pub IsUnderway-none : (limit : ℕ) (spot : Spot) (pairs : List (ℕ × ℕ)) → pairs ≡ [] → IsUnderway limit spot [] spot pairs
IsUnderway-none limit spot pairs none = record {
  calls = [];
  many = refl;
  outcome = λ more. ap (λ p. outcome_from limit spot p more) (sym none);
  walks = λ more. ap (λ p. walks_from limit spot p more) (sym none);
}

-- calls that have ended, with one more
pub ended_each-push : (calls : List Call) (endings : List Ending) (call : Call) (ending : Ending) → length calls ≡ length endings
    → ended_each (calls ++ call ∷ []) (endings ++ ending ∷ []) ≡ ended_each calls endings ++ ended_with call ending ∷ []
ended_each-push [] [] call ending same = refl
ended_each-push [] (other ∷ endings) call ending same = absurd (omega (arith, same))
ended_each-push (first ∷ calls) [] call ending same = absurd (omega (arith, same))
ended_each-push (first ∷ calls) (other ∷ endings) call ending same =
    ap (λ l. ended_with first other ∷ l) (ended_each-push calls endings call ending (omega (arith, same)))

module _ (limit : ℕ) (first : Spot) (endings : List Ending) (spot : Spot) (pairs : List (ℕ × ℕ)) (ending : Ending)
    (underway : IsUnderway limit first endings spot pairs) where
  abbrev turn : Turn
  turn = turn_of limit spot pairs ending

  abbrev longer : List Ending
  longer = endings ++ ending ∷ []

  -- the answer leads on
  abbrev pub IsUnderway-more : (later : Spot) (more_pairs : List (ℕ × ℕ)) → turn ≡ On later more_pairs
      → IsUnderway limit first longer later more_pairs
  IsUnderway-more later more_pairs on = record {
    calls = underway.calls ++ walk_at spot ∷ [];
    many = (let many = underway.many in
        omega (arith, many, length_push underway.calls (walk_at spot), length_push endings ending));
    outcome = λ more.
        ap (outcome_of limit first) (append_assoc endings (ending ∷ []) more)
        ∙ underway.outcome (ending ∷ more)
        ∙ ap (λ t. outcome_by t more (λ s p. outcome_from limit s p more)) on;
    walks = λ more.
        ap (walks_of limit first) (append_assoc endings (ending ∷ []) more)
        ∙ underway.walks (ending ∷ more)
        ∙ ap (λ t. underway.calls ++ walk_at spot ∷ walks_by t (λ s p. walks_from limit s p more)) on
        ∙ sym (append_assoc underway.calls (walk_at spot ∷ []) (walks_from limit later more_pairs more));
  }

  -- the answer ends it
  pub over-outcome : (outcome : Outcome) → turn ≡ Over outcome → outcome_of limit first longer ≡ Some outcome
  over-outcome outcome over = underway.outcome (ending ∷ []) ∙ ap (λ t. outcome_by t [] (λ s p. outcome_from limit s p [])) over

  pub over-walks : (outcome : Outcome) → turn ≡ Over outcome → walks_of limit first longer ≡ underway.calls ++ walk_at spot ∷ []
  over-walks outcome over =
      underway.walks (ending ∷ [])
      ∙ ap (λ t. underway.calls ++ walk_at spot ∷ walks_by t (λ s p. walks_from limit s p [])) over

  -- the finished calls with this one more
  pub ended_each-calls : (before : List Finished)
      → (before ++ ended_each underway.calls endings) ++ ended_with (walk_at spot) ending ∷ []
      ≡ before ++ ended_each (underway.calls ++ walk_at spot ∷ []) longer
  ended_each-calls before =
      append_assoc before (ended_each underway.calls endings) (ended_with (walk_at spot) ending ∷ [])
      ∙ ap (λ l. before ++ l) (sym (ended_each-push underway.calls endings (walk_at spot) ending underway.many))

-- ---- which answers belong to a `next`

module _ (limit : ℕ) (more : List Ending) (outcome : Outcome) where
  -- by what the first answer makes of it; the others are said by the induction
  own-turn : (endings : List Ending)
      → ((spot : Spot) (pairs : List (ℕ × ℕ)) → outcome_from limit spot pairs endings ≡ Some outcome
      → own_from limit spot pairs (endings ++ more) ≡ endings)
      → (turn : Turn) → outcome_by turn endings (λ s p. outcome_from limit s p endings) ≡ Some outcome
      → walks_by turn (λ s p. own_from limit s p (endings ++ more)) ≡ endings
  own-turn endings others (On spot pairs) is = others spot pairs is
  own-turn [] others (Over over) is = refl
  own-turn (ending ∷ endings) others (Over over) is = absurd (cc)
  own-turn endings others Never is = absurd (cc)

  -- By induction over the answers: those of a `next` that is over are its own, whatever stands behind them.
  pub own_from-over : (spot : Spot) (pairs : List (ℕ × ℕ)) (endings : List Ending) → outcome_from limit spot pairs endings ≡ Some outcome
      → own_from limit spot pairs (endings ++ more) ≡ endings
  own_from-over spot pairs [] is = absurd (cc)
  own_from-over spot pairs (ending ∷ endings) is =
      ap (λ l. ending ∷ l)
      (own-turn endings (λ s p. own_from-over s p endings) (turn_of limit spot pairs ending) is)

-- the answers that belong to it stand first
prefix-turn : (limit : ℕ) (endings : List Ending)
    → ((spot : Spot) (pairs : List (ℕ × ℕ))
    → endings ≡ own_from limit spot pairs endings ++ drop (length (own_from limit spot pairs endings)) endings)
    → (turn : Turn)
    → endings
    ≡ walks_by turn (λ s p. own_from limit s p endings) ++ drop (length (walks_by turn (λ s p. own_from limit s p endings))) endings
prefix-turn limit endings others (On spot pairs) = others spot pairs
prefix-turn limit endings others (Over outcome) = refl
prefix-turn limit endings others Never = refl

pub own_from-first : (limit : ℕ) (spot : Spot) (pairs : List (ℕ × ℕ)) (endings : List Ending)
    → endings ≡ own_from limit spot pairs endings ++ drop (length (own_from limit spot pairs endings)) endings
own_from-first limit spot pairs [] = refl
own_from-first limit spot pairs (ending ∷ endings) =
    ap (λ l. ending ∷ l)
    (prefix-turn limit endings (λ s p. own_from-first limit s p endings) (turn_of limit spot pairs ending))

-- ---- its calls are served

-- no answer of a walk asks for work, and there is a node
walk-served : (auto : Bool) (spot : Spot) (ending : Ending) → ending.answer.reply ≢ replies.NoNode
    → asks_for_work (walk_at spot) ending.answer.reply ≡ false
    → AreForCommand auto (walk_at spot) ending (ended_with (walk_at spot) ending ∷ [])
walk-served auto spot ending some none = record {
  tries = ended_with (walk_at spot) ending ∷ [];
  behind = [];
  whole = refl;
  are_tries = (refl, some);
  works = subst (λ b. AreBehind b []) (sym (ap (λ b. auto && b) none ∙ never auto)) refl;
}
  where
    never : (b : Bool) → (b && false) ≡ false
    never true = refl
    never false = refl

-- an answer that makes something of a `next` is one of a walk
walk-answer : (auto : Bool) (limit : ℕ) (spot : Spot) (pairs : List (ℕ × ℕ)) (ending : Ending) → turn_of limit spot pairs ending ≢ Never
    → AreForCommand auto (walk_at spot) ending (ended_with (walk_at spot) ending ∷ [])
walk-answer auto limit spot pairs ending some = by_reply ending.answer.reply refl
  where
    by_reply : (reply : Reply) → ending.answer.reply ≡ reply
        → AreForCommand auto (walk_at spot) ending (ended_with (walk_at spot) ending ∷ [])
    by_reply (replies.Walked len next) is = walk-served auto spot ending (λ none. absurd (cc)) (ap (asks_for_work (walk_at spot)) is)
    by_reply (replies.Again table) is = walk-served auto spot ending (λ none. absurd (cc)) (ap (asks_for_work (walk_at spot)) is)
    by_reply _ is = absurd (some (ap (λ r. turn_by limit spot pairs r ending.pairs) is))

module _ (auto : Bool) (limit : ℕ) (outcome : Outcome) where
  serves-turn : (endings : List Ending)
      → ((spot : Spot) (pairs : List (ℕ × ℕ)) → outcome_from limit spot pairs endings ≡ Some outcome
      → Serves auto (walks_from limit spot pairs endings) endings (ended_each (walks_from limit spot pairs endings) endings))
      → (turn : Turn) → outcome_by turn endings (λ s p. outcome_from limit s p endings) ≡ Some outcome
      → Serves auto (walks_by turn (λ s p. walks_from limit s p endings)) endings
      (ended_each (walks_by turn (λ s p. walks_from limit s p endings)) endings)
  serves-turn endings others (On spot pairs) is = others spot pairs is
  serves-turn [] others (Over over) is = refl
  serves-turn (ending ∷ endings) others (Over over) is = absurd (cc)
  serves-turn endings others Never is = absurd (cc)

  not_never : (endings : List Ending) (turn : Turn) → outcome_by turn endings (λ s p. outcome_from limit s p endings) ≡ Some outcome
      → turn ≢ Never
  not_never endings turn is never =
      let none : None ≡ Some outcome = subst (λ t. outcome_by t endings (λ s p. outcome_from limit s p endings) ≡ Some outcome) never is in
      absurd (cc)

  -- By induction over the answers.
  pub Serves-walks : (spot : Spot) (pairs : List (ℕ × ℕ)) (endings : List Ending) → outcome_from limit spot pairs endings ≡ Some outcome
      → Serves auto (walks_from limit spot pairs endings) endings (ended_each (walks_from limit spot pairs endings) endings)
  Serves-walks spot pairs [] is = absurd (cc)
  Serves-walks spot pairs (ending ∷ endings) is =
      let turn = turn_of limit spot pairs ending in
      record {
        first = ended_with (walk_at spot) ending ∷ [];
        rest = ended_each (walks_by turn (λ s p. walks_from limit s p endings)) endings;
        whole = refl;
        first_is = walk-answer auto limit spot pairs ending (not_never endings turn is);
        rest_is = serves-turn endings (λ s p. Serves-walks s p endings) turn is;
      }
