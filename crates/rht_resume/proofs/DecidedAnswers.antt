-- The calls that a worker has finished decide how the calls ended that its commands stand for, and so what the commands were answered. A worker
-- makes its next call by its commands and by how the calls before ended: so on two sides that serve the same finished calls the next call is the
-- same. Its own finished calls are told by themselves, so that it has ended the same way, and the others go on behind the same ones.
use Rattle.std.proofs.Common.{◌≡◌, ℕ, ◌&&◌, Bool, true, false, Option, Some, List, [], ◌∷◌, ◌++◌, refl, sym, ◌∙◌, ap, subst, append_assoc}
use Rattle.rht_model.specs.declared.finished.Finished.{Finished}
use Rattle.rht_model.specs.declared.history.Call.{Call}
use Rattle.rht_model.specs.Endings.{Ending, ended_with, ending_in}
use Rattle.rht_core.specs.Serving.{asks_for_work, AreWorks, AreBehind, AreTries, AreForCommand, Serves}
use Rattle.rht_resume.specs.declared.resume.ResumeCall.{ResumeCall}
use Rattle.rht_resume.specs.declared.resume.ResumeCall.TheVariants as asks
use Rattle.rht_resume.specs.declared.resumed.Spot.{Spot}
use Rattle.rht_resume.specs.Answers.{Answer, answer_by, answer_of, calls_for, spot_after, own_endings, endings_behind, calls_in_turn, AreAnswered}
use Rattle.rht_resume.specs.Pieces.{Turn, On, Over, Never, start, begun, turn_of, outcome_by, outcome_from, walk_at, walks_by, walks_from}
use Rattle.rht_resume.proofs.AnswerLemmas.{endings-cut, decides}

-- ---- the finished calls of one command

-- the first of two lists that are the same, and what stands behind it
first_in : {A : Type 0} {first other : A} {rest left : List A} → first ∷ rest ≡ other ∷ left → first ≡ other
first_in {A} {first} {other} {rest} {left} same = cc

rest_in : {A : Type 0} {first other : A} {rest left : List A} → first ∷ rest ≡ other ∷ left → rest ≡ left
rest_in {A} {first} {other} {rest} {left} same = cc

-- By induction over the works: they end with the first that isn't answered that it moved, so that the same calls stand behind them.
works-same : (some others rest left : List Finished) → AreWorks some → AreWorks others → some ++ rest ≡ others ++ left → rest ≡ left
works-same [] others rest left works too same = absurd works
works-same (done ∷ []) [] rest left works too same = absurd too
works-same (done ∷ []) (other ∷ []) rest left works too same = rest_in same
works-same (done ∷ []) (other ∷ next ∷ others) rest left works too same = absurd (works.1 (ap (λ d. d.reply) (first_in same) ∙ too.1))
works-same (done ∷ next ∷ some) [] rest left works too same = absurd too
works-same (done ∷ next ∷ some) (other ∷ []) rest left works too same = absurd (too.1 (sym (ap (λ d. d.reply) (first_in same)) ∙ works.1))
works-same (done ∷ next ∷ some) (other ∷ last ∷ others) rest left works too same =
    works-same (next ∷ some) (last ∷ others) rest left works.2 too.2 (rest_in same)

-- behind a command that asks for work, and behind one that doesn't
behind-same : (asks : Bool) (some others rest left : List Finished) → AreBehind asks some → AreBehind asks others
    → some ++ rest ≡ others ++ left → rest ≡ left
behind-same true some others rest left works too same = works-same some others rest left works too same
behind-same false some others rest left none too same = ap (λ l. l ++ rest) (sym none) ∙ same ∙ ap (λ l. l ++ left) too

-- two calls that ended so, where they are the same
ended-same : (call : Call) (ending end : Ending) (done other : Finished) → done ≡ ended_with call ending → other ≡ ended_with call end
    → done ≡ other → ending ≡ end
ended-same call ending end done other is too same = ap ending_in (sym is ∙ same ∙ too)

-- The reply of the first call tells whether it is the only one or the first of three. So the command ends the same way, and the same calls stand
-- behind.
module _ (call : Call) (ending end : Ending) (rest left : List Finished) where
  tries-same : (some others : List Finished) → AreTries call ending some → AreTries call end others → some ++ rest ≡ others ++ left
      → (ending ≡ end) × (rest ≡ left)
  tries-same [] others tries too same = absurd tries
  tries-same (done ∷ []) [] tries too same = absurd too
  tries-same (done ∷ []) (other ∷ []) tries too same = (ended-same call ending end done other tries.0 too.0 (first_in same), rest_in same)
  tries-same (done ∷ []) (other ∷ tidy ∷ []) tries too same = absurd too
  tries-same (done ∷ []) (other ∷ tidy ∷ last ∷ []) tries too same =
      absurd (tries.1 (ap (λ d. d.reply) (sym tries.0 ∙ first_in same) ∙ too.1))
  tries-same (done ∷ []) (other ∷ tidy ∷ last ∷ next ∷ others) tries too same = absurd too
  tries-same (first ∷ tidy ∷ []) others tries too same = absurd tries
  tries-same (first ∷ tidy ∷ done ∷ []) [] tries too same = absurd too
  tries-same (first ∷ tidy ∷ done ∷ []) (other ∷ []) tries too same =
      absurd (too.1 (ap (λ d. d.reply) (sym too.0 ∙ sym (first_in same)) ∙ tries.1))
  tries-same (first ∷ tidy ∷ done ∷ []) (other ∷ tidied ∷ []) tries too same = absurd too
  tries-same (first ∷ tidy ∷ done ∷ []) (other ∷ tidied ∷ last ∷ []) tries too same =
      let behind : done ∷ rest ≡ last ∷ left = rest_in (rest_in same) in
      (ended-same call ending end done last tries.3 too.3 (first_in behind), rest_in behind)
  tries-same (first ∷ tidy ∷ done ∷ []) (other ∷ tidied ∷ last ∷ next ∷ others) tries too same = absurd too
  tries-same (first ∷ tidy ∷ done ∷ next ∷ some) others tries too same = absurd tries

-- All calls that are made for a command, and the works behind it.
command-same : (auto : Bool) (call : Call) (ending end : Ending) (some others rest left : List Finished) → AreForCommand auto call ending some
    → AreForCommand auto call end others → some ++ rest ≡ others ++ left → (ending ≡ end) × (rest ≡ left)
command-same auto call ending end some others rest left made too same =
    let cut : made.tries ++ (made.behind ++ rest) ≡ too.tries ++ (too.behind ++ left) =
    sym (append_assoc made.tries made.behind rest)
    ∙ ap (λ l. l ++ rest) (sym made.whole)
    ∙ same
    ∙ ap (λ l. l ++ left) too.whole
    ∙ append_assoc too.tries too.behind left in
    let tries = tries-same call ending end (made.behind ++ rest) (too.behind ++ left) made.tries too.tries made.are_tries too.are_tries cut in
    let works : AreBehind (auto && asks_for_work call ending.answer.reply) too.behind =
    subst (λ e. AreBehind (auto && asks_for_work call e.answer.reply) too.behind) (sym tries.0) too.works in
    (tries.0, behind-same (auto && asks_for_work call ending.answer.reply) made.behind too.behind rest left made.works works tries.1)

-- ---- two sides

-- The same finished calls serve these calls with these endings, and those calls with those endings.
record ServeBoth (auto : Bool) (calls others : List Call) (endings ends : List Ending) : Type 0 where
  dones : List Finished
  serves : Serves auto calls endings dones
  too : Serves auto others ends dones

module _ (auto : Bool) where
  -- a call that is the same on both sides ends the same way, and the same finished calls serve the others
  call-same : (call : Call) (calls others : List Call) (ending end : Ending) (endings ends : List Ending)
      → ServeBoth auto (call ∷ calls) (call ∷ others) (ending ∷ endings) (end ∷ ends)
      → (ending ≡ end) × ServeBoth auto calls others endings ends
  call-same call calls others ending end endings ends both =
      let some = both.serves in
      let too = both.too in
      let same = command-same auto call ending end some.first too.first some.rest too.rest some.first_is too.first_is
      (sym some.whole ∙ too.whole) in
      (same.0, record { dones = some.rest; serves = some.rest_is; too = subst (Serves auto others ends) (sym same.1) too.rest_is })

  module _ (calls others : List Call) (behind left : List Ending) (answer other : Answer) where
    module _ (limit : ℕ) where
      -- by what the first answer makes of a `next`; the others are said by the induction
      turn-same : (own ends : List Ending)
          → ((spot : Spot) (pairs : List (ℕ × ℕ)) → answer_by (outcome_from limit spot pairs own) ≡ Some answer
          → answer_by (outcome_from limit spot pairs ends) ≡ Some other
          → ServeBoth auto (walks_from limit spot pairs own ++ calls) (walks_from limit spot pairs ends ++ others) (own ++ behind) (ends ++ left)
          → (own ≡ ends) × ServeBoth auto calls others behind left)
          → (turn : Turn) → answer_by (outcome_by turn own (λ s p. outcome_from limit s p own)) ≡ Some answer
          → answer_by (outcome_by turn ends (λ s p. outcome_from limit s p ends)) ≡ Some other
          → ServeBoth auto (walks_by turn (λ s p. walks_from limit s p own) ++ calls) (walks_by turn (λ s p. walks_from limit s p ends) ++ others)
          (own ++ behind) (ends ++ left)
          → (own ≡ ends) × ServeBoth auto calls others behind left
      turn-same own ends more (On spot pairs) is too both = more spot pairs is too both
      turn-same [] [] more (Over outcome) is too both = (refl, both)
      turn-same [] (end ∷ ends) more (Over outcome) is too both = absurd (cc)
      turn-same (ending ∷ own) ends more (Over outcome) is too both = absurd (cc)
      turn-same own ends more Never is too both = absurd (cc)

      -- By induction over the endings of its walks: each begins where the one before has left it, with the pairs so far.
      walks-same : (spot : Spot) (pairs : List (ℕ × ℕ)) (own ends : List Ending) → answer_by (outcome_from limit spot pairs own) ≡ Some answer
          → answer_by (outcome_from limit spot pairs ends) ≡ Some other
          → ServeBoth auto (walks_from limit spot pairs own ++ calls) (walks_from limit spot pairs ends ++ others) (own ++ behind) (ends ++ left)
          → (own ≡ ends) × ServeBoth auto calls others behind left
      walks-same spot pairs [] ends is too both = absurd (cc)
      walks-same spot pairs (ending ∷ own) [] is too both = absurd (cc)
      walks-same spot pairs (ending ∷ own) (end ∷ ends) is too both =
          let turn = turn_of limit spot pairs in
          let first = call-same (walk_at spot) (walks_by (turn ending) (λ s p. walks_from limit s p own) ++ calls)
          (walks_by (turn end) (λ s p. walks_from limit s p ends) ++ others) ending end (own ++ behind) (ends ++ left) both in
          let back : end ≡ ending = sym first.0 in
          let later = turn-same own ends (λ s p. walks-same s p own ends) (turn ending) is
          (subst (λ e. answer_by (outcome_by (turn e) ends (λ s p. outcome_from limit s p ends)) ≡ Some other) back too)
          (subst
          (λ e. ServeBoth auto (walks_by (turn ending) (λ s p. walks_from limit s p own) ++ calls)
          (walks_by (turn e) (λ s p. walks_from limit s p ends) ++ others) (own ++ behind) (ends ++ left))
          back first.1) in
          (ap (λ e. e ∷ own) first.0 ∙ ap (λ l. end ∷ l) later.0, later.1)

    -- The calls of a command that is the same on both sides end the same way.
    ask-same : (spot : Option Spot) (ask : ResumeCall) (own ends : List Ending) → answer_of spot ask own ≡ Some answer
        → answer_of spot ask ends ≡ Some other
        → ServeBoth auto (calls_for spot ask own ++ calls) (calls_for spot ask ends ++ others) (own ++ behind) (ends ++ left)
        → (own ≡ ends) × ServeBoth auto calls others behind left
    ask-same spot (asks.Plain call) [] ends is too both = absurd (cc)
    ask-same spot (asks.Plain call) (ending ∷ next ∷ own) ends is too both = absurd (cc)
    ask-same spot (asks.Plain call) (ending ∷ []) [] is too both = absurd (cc)
    ask-same spot (asks.Plain call) (ending ∷ []) (end ∷ next ∷ ends) is too both = absurd (cc)
    ask-same spot (asks.Plain call) (ending ∷ []) (end ∷ []) is too both =
        let same = call-same call calls others ending end behind left both in
        (ap (λ e. e ∷ []) same.0, same.1)
    ask-same spot (asks.Next limit) own ends is too both = walks-same limit (begun spot) [] own ends is too both

  -- By induction over the commands: all their calls end the same way.
  endings-same : (spot : Option Spot) (asked : List ResumeCall) (answers others : List Answer) (endings ends : List Ending)
      → AreAnswered spot asked answers endings → AreAnswered spot asked others ends
      → ServeBoth auto (calls_in_turn spot asked endings) (calls_in_turn spot asked ends) endings ends → endings ≡ ends
  endings-same spot [] [] [] endings ends answered too both = answered ∙ sym too
  endings-same spot [] [] (other ∷ others) endings ends answered too both = absurd too
  endings-same spot [] (answer ∷ answers) others endings ends answered too both = absurd answered
  endings-same spot (ask ∷ asked) [] others endings ends answered too both = absurd answered
  endings-same spot (ask ∷ asked) (answer ∷ answers) [] endings ends answered too both = absurd too
  endings-same spot (ask ∷ asked) (answer ∷ answers) (other ∷ others) endings ends answered too both =
      let own = own_endings spot ask endings in
      let own_too = own_endings spot ask ends in
      let behind = endings_behind spot ask endings in
      let left = endings_behind spot ask ends in
      let calls = calls_in_turn (spot_after spot ask own) asked behind in
      let calls_too = calls_in_turn (spot_after spot ask own_too) asked left in
      let whole : endings ≡ own ++ behind = endings-cut spot ask endings in
      let whole_too : ends ≡ own_too ++ left = endings-cut spot ask ends in
      let cut : ServeBoth auto (calls_for spot ask own ++ calls) (calls_for spot ask own_too ++ calls_too) (own ++ behind) (own_too ++ left) =
      record {
        dones = both.dones;
        serves = subst (λ l. Serves auto (calls_for spot ask own ++ calls) l both.dones) whole both.serves;
        too = subst (λ l. Serves auto (calls_for spot ask own_too ++ calls_too) l both.dones) whole_too both.too;
      } in
      let same = ask-same calls calls_too behind left answer other spot ask own own_too answered.0 too.0 cut in
      let later = endings-same (spot_after spot ask own) asked answers others behind left answered.1
      (subst (λ l. AreAnswered (spot_after spot ask l) asked others left) (sym same.0) too.1)
      (subst (λ l. ServeBoth auto calls (calls_in_turn (spot_after spot ask l) asked left) behind left) (sym same.0) same.1) in
      whole ∙ ap (λ l. l ++ behind) same.0 ∙ ap (λ l. own_too ++ l) later ∙ sym whole_too

-- ---- the answers are decided

-- Both sides have the same endings, and these decide the answers.
pub finished-decide : (auto : Bool) (asked : List ResumeCall) (answers others : List Answer) (endings ends : List Ending)
    (dones : List Finished) → AreAnswered (Some start) asked answers endings
    → Serves auto (calls_in_turn (Some start) asked endings) endings dones → AreAnswered (Some start) asked others ends
    → Serves auto (calls_in_turn (Some start) asked ends) ends dones → answers ≡ others
finished-decide auto asked answers others endings ends dones answered serves too served =
    let same : endings ≡ ends = endings-same auto (Some start) asked answers others endings ends answered too
    (record { dones = dones; serves = serves; too = served }) in
    decides (Some start) asked answers others ends (subst (AreAnswered (Some start) asked answers) same answered) too
