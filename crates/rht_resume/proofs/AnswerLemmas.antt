-- The endings of a worker's calls, cut into those of its commands: the endings that belong to a command are told by themselves, whatever stands
-- behind them. So a command more has its endings behind those of the others, and how the calls ended decides the answers.
use Rattle.std.proofs.Common.{◌≡◌, Option, Some, None, List, [], ◌∷◌, ◌++◌, length, take, drop, refl, sym, ◌∙◌, ap, subst, append_assoc}
use Rattle.std.proofs.lemmas.List.{append-nil}
use Rattle.rht_model.specs.Endings.{Ending}
use Rattle.rht_resume.specs.declared.resume.ResumeCall.{ResumeCall}
use Rattle.rht_resume.specs.declared.resume.ResumeCall.TheVariants as asks
use Rattle.rht_resume.specs.declared.resumed.Spot.{Spot}
use Rattle.rht_resume.specs.Answers.{Answer, only_answer, answer_by, answer_of, calls_for, spot_after, own_endings, endings_behind, calls_in_turn, spot_left, AreAnswered}
use Rattle.rht_resume.specs.Pieces.{Outcome, begun, outcome_of}
use Rattle.rht_resume.proofs.PieceLemmas.{own_from-over, own_from-first}

-- ---- the endings of one command

-- there is an outcome where there is an answer
outcome_there : (outcome : Option Outcome) (answer : Answer) → answer_by outcome ≡ Some answer → (is : Outcome) × (outcome ≡ Some is)
outcome_there None answer same = absurd (cc)
outcome_there (Some is) answer same = (is, refl)

-- what stands behind the first ones
drop-own : (own behind : List Ending) → drop (length own) (own ++ behind) ≡ behind
drop-own [] behind = refl
drop-own (ending ∷ own) behind = drop-own own behind

module _ (spot : Option Spot) (behind : List Ending) (answer : Answer) where
  only-own : (own : List Ending) → only_answer own ≡ Some answer → take 1 (own ++ behind) ≡ own
  only-own [] is = absurd (cc)
  only-own (ending ∷ []) is = refl
  only-own (ending ∷ next ∷ others) is = absurd (cc)

  -- those that answer the command are its own, and behind them stand the others
  pub own_endings-answered : (ask : ResumeCall) (own : List Ending) → answer_of spot ask own ≡ Some answer
      → own_endings spot ask (own ++ behind) ≡ own
  own_endings-answered (asks.Plain call) own is = only-own own is
  own_endings-answered (asks.Next limit) own is =
      let outcome = outcome_there (outcome_of limit (begun spot) own) answer is in
      own_from-over limit behind outcome.0 (begun spot) [] own outcome.1

  pub endings_behind-answered : (ask : ResumeCall) (own : List Ending) → answer_of spot ask own ≡ Some answer
      → endings_behind spot ask (own ++ behind) ≡ behind
  endings_behind-answered ask own is =
      ap (λ l. drop (length l) (own ++ behind)) (own_endings-answered ask own is) ∙ drop-own own behind

-- all endings are a command's own and those behind them
pub endings-cut : (spot : Option Spot) (ask : ResumeCall) (endings : List Ending)
    → endings ≡ own_endings spot ask endings ++ endings_behind spot ask endings
endings-cut spot (asks.Plain call) [] = refl
endings-cut spot (asks.Plain call) (ending ∷ endings) = refl
endings-cut spot (asks.Next limit) endings = own_from-first limit (begun spot) [] endings

-- ---- a command before others

module _ (spot : Option Spot) (ask : ResumeCall) (asked : List ResumeCall) (own behind : List Ending) (answer : Answer)
    (is : answer_of spot ask own ≡ Some answer) where
  own_same : own_endings spot ask (own ++ behind) ≡ own
  own_same = own_endings-answered spot behind answer ask own is

  behind_same : endings_behind spot ask (own ++ behind) ≡ behind
  behind_same = endings_behind-answered spot behind answer ask own is

  AreAnswered-cut : (answers : List Answer) → AreAnswered (spot_after spot ask own) asked answers behind
      → AreAnswered spot (ask ∷ asked) (answer ∷ answers) (own ++ behind)
  AreAnswered-cut answers rest = (
    subst (λ l. answer_of spot ask l ≡ Some answer) (sym own_same) is,
    subst (λ l. AreAnswered (spot_after spot ask l) asked answers (endings_behind spot ask (own ++ behind))) (sym own_same)
        (subst (λ l. AreAnswered (spot_after spot ask own) asked answers l) (sym behind_same) rest),
  )

  calls_in_turn-cut : calls_in_turn spot (ask ∷ asked) (own ++ behind)
      ≡ calls_for spot ask own ++ calls_in_turn (spot_after spot ask own) asked behind
  calls_in_turn-cut =
      ap (λ l. calls_for spot ask l ++ calls_in_turn (spot_after spot ask l) asked (endings_behind spot ask (own ++ behind))) own_same
      ∙ ap (λ l. calls_for spot ask own ++ calls_in_turn (spot_after spot ask own) asked l) behind_same

  spot_left-cut : spot_left spot (ask ∷ asked) (own ++ behind) ≡ spot_left (spot_after spot ask own) asked behind
  spot_left-cut =
      ap (λ l. spot_left (spot_after spot ask l) asked (endings_behind spot ask (own ++ behind))) own_same
      ∙ ap (λ l. spot_left (spot_after spot ask own) asked l) behind_same

-- ---- a command behind others

-- The commands with one more, whose endings are behind theirs.
pub record IsPushed (spot : Option Spot) (asked : List ResumeCall) (answers : List Answer) (endings : List Ending) (ask : ResumeCall)
    (answer : Answer) (more : List Ending) : Type 0 where
  pub answered : AreAnswered spot (asked ++ ask ∷ []) (answers ++ answer ∷ []) (endings ++ more)
  pub calls : calls_in_turn spot (asked ++ ask ∷ []) (endings ++ more)
      ≡ calls_in_turn spot asked endings ++ calls_for (spot_left spot asked endings) ask more
  pub spot_is : spot_left spot (asked ++ ask ∷ []) (endings ++ more) ≡ spot_after (spot_left spot asked endings) ask more

-- By induction over the commands.
pub push-answered : (spot : Option Spot) (asked : List ResumeCall) (answers : List Answer) (endings : List Ending) (ask : ResumeCall)
    (answer : Answer) (more : List Ending) → AreAnswered spot asked answers endings
    → answer_of (spot_left spot asked endings) ask more ≡ Some answer → IsPushed spot asked answers endings ask answer more
push-answered spot [] [] endings ask answer more none is =
    let whole : endings ++ more ≡ more ++ [] = ap (λ l. l ++ more) none ∙ sym (append-nil more) in
    record {
      answered =
          subst (λ l. AreAnswered spot (ask ∷ []) (answer ∷ []) l) (sym whole) (AreAnswered-cut spot ask [] more [] answer is [] refl);
      calls = ap (calls_in_turn spot (ask ∷ [])) whole ∙ calls_in_turn-cut spot ask [] more [] answer is ∙ append-nil (calls_for spot ask more);
      spot_is = ap (spot_left spot (ask ∷ [])) whole ∙ spot_left-cut spot ask [] more [] answer is;
    }
push-answered spot [] (other ∷ answers) endings ask answer more none is = absurd none
push-answered spot (first ∷ asked) [] endings ask answer more none is = absurd none
push-answered spot (first ∷ asked) (other ∷ answers) endings ask answer more answered is =
    let own = own_endings spot first endings in
    let behind = endings_behind spot first endings in
    let rest = push-answered (spot_after spot first own) asked answers behind ask answer more answered.1 is in
    let whole : endings ++ more ≡ own ++ (behind ++ more) =
    ap (λ l. l ++ more) (endings-cut spot first endings) ∙ append_assoc own behind more in
    record {
      answered =
          subst (λ l. AreAnswered spot (first ∷ (asked ++ ask ∷ [])) (other ∷ (answers ++ answer ∷ [])) l) (sym whole)
          (AreAnswered-cut spot first (asked ++ ask ∷ []) own (behind ++ more) other answered.0 (answers ++ answer ∷ []) rest.answered);
      calls =
          ap (calls_in_turn spot (first ∷ (asked ++ ask ∷ []))) whole
          ∙ calls_in_turn-cut spot first (asked ++ ask ∷ []) own (behind ++ more) other answered.0
          ∙ ap (λ l. calls_for spot first own ++ l) rest.calls
          ∙ sym (append_assoc (calls_for spot first own) (calls_in_turn (spot_after spot first own) asked behind)
          (calls_for (spot_left (spot_after spot first own) asked behind) ask more));
      spot_is =
          ap (spot_left spot (first ∷ (asked ++ ask ∷ []))) whole
          ∙ spot_left-cut spot first (asked ++ ask ∷ []) own (behind ++ more) other answered.0
          ∙ rest.spot_is;
    }

-- ---- the answers are decided

some_in : {A : Type 0} {one other : A} → Some one ≡ Some other → one ≡ other
some_in {A} {one} {other} same = cc

-- by induction over the commands
pub decides : (spot : Option Spot) (asked : List ResumeCall) (answers others : List Answer) (endings : List Ending)
    → AreAnswered spot asked answers endings → AreAnswered spot asked others endings → answers ≡ others
decides spot [] [] [] endings answered too = refl
decides spot [] [] (other ∷ others) endings answered too = absurd too
decides spot [] (answer ∷ answers) others endings answered too = absurd answered
decides spot (ask ∷ asked) [] others endings answered too = absurd answered
decides spot (ask ∷ asked) (answer ∷ answers) [] endings answered too = absurd too
decides spot (ask ∷ asked) (answer ∷ answers) (other ∷ others) endings answered too =
    let first : answer ≡ other = some_in (sym answered.0 ∙ too.0) in
    ap (λ a. a ∷ answers) first
    ∙ ap (λ l. other ∷ l)
    (decides (spot_after spot ask (own_endings spot ask endings)) asked answers others (endings_behind spot ask endings) answered.1 too.1)
