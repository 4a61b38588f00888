-- Claims have one verdict. They have one list of entries. The first claim that isn't right is one claim: were there two, the later of
-- them would stand behind claims that are right, and the earlier is among these. Where all claims are right, the first worker that has
-- commands left is one worker, and bindings have one listing.
use Rattle.std.proofs.Common.{◌≡◌, ℕ, ◌<◌, None, Some, List, [], ◌∷◌, ◌++◌, length, refl, sym, ◌∙◌, ap, subst, append_assoc, append-nil, arith, inl, inr}
use Rattle.std.proofs.lemmas.Bool.{cases_order}
use Rattle.rht_words.specs.declared.config.Kind.{Kind}
use Rattle.rht_model.specs.declared.history.Call.{Call}
use Rattle.rht_model.specs.declared.history.Entry.{Entry}
use Rattle.rht_model.specs.Multimap.{Port, unbound}
use Rattle.rht_model.specs.Histories.{IsLegal, bindings_left}
use Rattle.rht_model.proofs.LongerHistories.{IsLegalFrom-parts}
use Rattle.rht_model.proofs.OneListing.{Lists-unique}
use Rattle.rht_check.specs.declared.claim.Verdict.{Verdict}
use Rattle.rht_check.specs.declared.claim.Verdict.TheVariants.{Legal, Extra, Wrong, Unfinished}
use Rattle.rht_check.specs.Claims.{Told, command_behind, entry_of, IsEntryOf, AreEntriesOf}
use Rattle.rht_check.specs.Verdicts.{AreRight, IsReached, IsExtra, IsWrong, IsUnfinished, IsAccepted, IsVerdictOn}
use Rattle.rht_check.specs.Laws.{without_room}

-- ---- one list of entries

-- a claim has one entry
same_entry : (commands : List (ℕ × Call)) (before : List Told) (told : Told) (first second : Entry)
    → IsEntryOf commands before told first → IsEntryOf commands before told second → first ≡ second
same_entry commands before told first second is too =
    let call : first.call ≡ second.call = let both = sym is.0 ∙ too.0 in cc in
    is.1 ∙ ap (entry_of told) call ∙ sym too.1

-- By induction over the claims: they have one list of entries.
pub same_entries : (commands : List (ℕ × Call)) (before claims : List Told) (first second : List Entry)
    → AreEntriesOf commands before claims first → AreEntriesOf commands before claims second → first ≡ second
same_entries commands before [] [] [] is too = refl
same_entries commands before [] [] (second ∷ seconds) is too = absurd too
same_entries commands before [] (first ∷ firsts) second is too = absurd is
same_entries commands before (told ∷ claims) [] second is too = absurd is
same_entries commands before (told ∷ claims) (first ∷ firsts) [] is too = absurd too
same_entries commands before (told ∷ claims) (first ∷ firsts) (second ∷ seconds) is too =
    ap (λ e. e ∷ firsts) (same_entry commands before told first second is.0 too.0)
    ∙ ap (λ es. second ∷ es) (same_entries commands (before ++ told ∷ []) claims firsts seconds is.1 too.1)

-- ---- two ways to part a list

-- Of two ways to part a list at something that stands in it, the longer front has the other front and what stands behind that in it.
record IsLonger {X : Type 0} (front longer : List X) (x : X) : Type 0 where
  middle : List X
  parts : longer ≡ front ++ x ∷ middle

-- By induction over the shorter front.
longer_front : {X : Type 0} (front longer : List X) (x y : X) (behind rest : List X)
    → front ++ x ∷ behind ≡ longer ++ y ∷ rest → length front < length longer → IsLonger front longer x
longer_front [] [] x y behind rest same below = absurd (omega (arith, below))
longer_front [] (z ∷ longer) x y behind rest same below =
    record { middle = longer; parts = ap (λ v. v ∷ longer) (let first : z ≡ x = cc in first) }
longer_front (z ∷ front) [] x y behind rest same below = absurd (omega (arith, below))
longer_front (z ∷ front) (w ∷ longer) x y behind rest same below =
    let tails : front ++ x ∷ behind ≡ longer ++ y ∷ rest = cc in
    let more = longer_front front longer x y behind rest tails (omega (arith, below)) in
    record {
      middle = more.middle;
      parts = ap (λ v. v ∷ longer) (let first : w ≡ z = cc in first) ∙ ap (λ l. z ∷ l) more.parts;
    }

-- By induction over both fronts, which are as long: they are the same, and so is what stands behind them.
same_parts : {X : Type 0} (front other : List X) (x y : X) (behind rest : List X)
    → front ++ x ∷ behind ≡ other ++ y ∷ rest → length front ≡ length other → (front ≡ other) × (x ≡ y)
same_parts [] [] x y behind rest same long = (refl, (let first : x ≡ y = cc in first))
same_parts [] (w ∷ other) x y behind rest same long = absurd (omega (arith, long))
same_parts (z ∷ front) [] x y behind rest same long = absurd (omega (arith, long))
same_parts (z ∷ front) (w ∷ other) x y behind rest same long =
    let tails : front ++ x ∷ behind ≡ other ++ y ∷ rest = cc in
    let parts = same_parts front other x y behind rest tails (omega (arith, long)) in
    (ap (λ v. v ∷ front) (let first : z ≡ w = cc in first) ∙ ap (λ l. w ∷ l) parts.0, parts.1)

module _ (kind : Kind) (commands : List (ℕ × Call)) where
  -- ---- a claim among others that are right

  -- The entries of claims before this one, its own, and those behind it.
  record HasEntry (before claims : List Told) (told : Told) (entries : List Entry) : Type 0 where
    firsts : List Entry
    entry : Entry
    others : List Entry
    parts : entries ≡ firsts ++ entry ∷ others
    given : AreEntriesOf commands before claims firsts
    is : IsEntryOf commands (before ++ claims) told entry

  -- By induction over the claims before it.
  entry_among : (before claims : List Told) (told : Told) (more : List Told) (entries : List Entry)
      → AreEntriesOf commands before (claims ++ told ∷ more) entries → HasEntry before claims told entries
  entry_among before [] told more [] given = absurd given
  entry_among before [] told more (entry ∷ entries) given = record {
    firsts = [];
    entry = entry;
    others = entries;
    parts = refl;
    given = tt;
    is = subst (λ l. IsEntryOf commands l told entry) (sym (append-nil before)) given.0;
  }
  entry_among before (claim ∷ claims) told more [] given = absurd given
  entry_among before (claim ∷ claims) told more (first ∷ entries) given =
      let behind = entry_among (before ++ claim ∷ []) claims told more entries given.1 in
      record {
        firsts = first ∷ behind.firsts;
        entry = behind.entry;
        others = behind.others;
        parts = ap (λ l. first ∷ l) behind.parts;
        given = (given.0, behind.given);
        is = subst (λ l. IsEntryOf commands l told behind.entry) (append_assoc before (claim ∷ []) claims) behind.is;
      }

  -- A claim that stands among others which are right answers a command, and with its entry the history is legal.
  record IsRightAt (before : List Told) (told : Told) : Type 0 where
    firsts : List Entry
    call : Call
    given : AreEntriesOf commands [] before firsts
    answers : command_behind commands before told ≡ Some call
    legal : IsLegal kind (firsts ++ entry_of told call ∷ [])

  right_at : (before : List Told) (told : Told) (more : List Told) (entries : List Entry)
      → AreRight kind commands (before ++ told ∷ more) entries → IsRightAt before told
  right_at before told more entries right =
      let has = entry_among [] before told more entries right.given in
      let parted : entries ≡ (has.firsts ++ has.entry ∷ []) ++ has.others =
      has.parts ∙ sym (append_assoc has.firsts (has.entry ∷ []) has.others) in
      let legal = (IsLegalFrom-parts kind unbound (has.firsts ++ has.entry ∷ []) has.others (subst (IsLegal kind) parted right.legal)).0 in
      record {
        firsts = has.firsts;
        call = has.entry.call;
        given = has.given;
        answers = has.is.0;
        legal = subst (λ e. IsLegal kind (has.firsts ++ e ∷ [])) has.is.1 legal;
      }

  -- ---- the first claim that isn't right

  module _ (claims : List Told) where
    -- The claim of this number isn't right, whatever stands behind it.
    record IsStopped (number : ℕ) : Type 0 where
      at : IsReached kind commands claims number
      stops : IsRightAt at.before at.told → ⊥

    stopped_extra : (number : ℕ) → IsExtra kind commands claims number → IsStopped number
    stopped_extra number extra = record {
      at = extra.at;
      stops = λ right. let both : None ≡ Some right.call = sym extra.none ∙ right.answers in absurd (cc);
    }

    stopped_wrong : (number : ℕ) → IsWrong kind commands claims number → IsStopped number
    stopped_wrong number wrong = record {
      at = wrong.at;
      stops = λ right.
          let call : right.call ≡ wrong.call = let both = sym right.answers ∙ wrong.given in cc in
          let firsts = same_entries commands [] wrong.at.before right.firsts wrong.at.entries right.given wrong.at.right.given in
          wrong.illegal
          (subst (λ l. IsLegal kind (l ++ entry_of wrong.at.told wrong.call ∷ [])) firsts
          (subst (λ c. IsLegal kind (right.firsts ++ entry_of wrong.at.told c ∷ [])) call right.legal));
    }

    -- where all claims are right, none is stopped
    none_stopped : (number : ℕ) (entries : List Entry) → IsStopped number → AreRight kind commands claims entries → ⊥
    none_stopped number entries stopped right =
        let at = stopped.at in
        stopped.stops (right_at at.before at.told at.behind entries
        (subst (λ l. AreRight kind commands l entries) at.parts right))

    -- of two that are stopped none is the earlier one
    not_earlier : (number other : ℕ) → IsStopped number → IsStopped other → number < other → ⊥
    not_earlier number other stopped too earlier =
        let at = stopped.at in
        let later = too.at in
        let longer = longer_front at.before later.before at.told later.told at.behind later.behind (sym at.parts ∙ later.parts)
        (omega (arith, earlier, at.counted, later.counted)) in
        stopped.stops (right_at at.before at.told longer.middle later.entries
        (subst (λ l. AreRight kind commands l later.entries) longer.parts later.right))

    same_stop : (number other : ℕ) → IsStopped number → IsStopped other → number ≡ other
    same_stop number other stopped too =
        elim (cases_order number other) [
          | inl same ↦ same
          | inr (inl below) ↦ absurd (not_earlier number other stopped too below)
          | inr (inr above) ↦ absurd (not_earlier other number too stopped above)
        ]

    -- a claim has a command or has none
    extra_or_wrong : (number other : ℕ) → IsExtra kind commands claims number → IsWrong kind commands claims other → ⊥
    extra_or_wrong number other extra wrong =
        let at = extra.at in
        let too = wrong.at in
        let same = same_stop number other (stopped_extra number extra) (stopped_wrong other wrong) in
        let parts = same_parts at.before too.before at.told too.told at.behind too.behind (sym at.parts ∙ too.parts)
        (omega (arith, same, at.counted, too.counted)) in
        let command = ap (λ l. command_behind commands l at.told) parts.0 ∙ ap (command_behind commands too.before) parts.1 in
        let both : None ≡ Some wrong.call = sym extra.none ∙ command ∙ wrong.given in
        absurd (cc)

    -- ---- all claims are right

    same_unfinished : (worker other : ℕ) → IsUnfinished kind commands claims worker → IsUnfinished kind commands claims other
        → worker ≡ other
    same_unfinished worker other is too =
        elim (cases_order worker other) [
          | inl same ↦ same
          | inr (inl below) ↦ absurd (omega (arith, is.more, too.first worker below))
          | inr (inr above) ↦ absurd (omega (arith, too.more, is.first other above))
        ]

    unfinished_or_accepted : (worker : ℕ) (pairs : List (Port × List ℕ)) → IsUnfinished kind commands claims worker
        → IsAccepted kind commands claims pairs → ⊥
    unfinished_or_accepted worker pairs is accepted = absurd (omega (arith, is.more, accepted.all worker))

    same_accepted : (pairs others : List (Port × List ℕ)) → IsAccepted kind commands claims pairs → IsAccepted kind commands claims others
        → pairs ≡ others
    same_accepted pairs others is too =
        let entries = same_entries commands [] claims is.entries too.entries is.right.given too.right.given in
        Lists-unique pairs others (bindings_left kind unbound is.entries) (bindings_left kind unbound too.entries) is.listed too.listed
        (λ port. ap (λ es. bindings_left kind unbound es port) entries)

    -- ---- any two verdicts

    pub same_verdict : (first second : Verdict) → IsVerdictOn kind commands claims first → IsVerdictOn kind commands claims second
        → without_room first ≡ without_room second
    same_verdict (Legal bindings) (Legal others) is too =
        ap (λ pairs. Legal (record { pairs = pairs; room = 0 })) (same_accepted bindings.pairs others.pairs is too)
    same_verdict (Legal bindings) (Extra other) is too = absurd (none_stopped other is.entries (stopped_extra other too) is.right)
    same_verdict (Legal bindings) (Wrong other) is too = absurd (none_stopped other is.entries (stopped_wrong other too) is.right)
    same_verdict (Legal bindings) (Unfinished other) is too = absurd (unfinished_or_accepted other bindings.pairs too is)
    same_verdict (Extra number) (Legal bindings) is too = absurd (none_stopped number too.entries (stopped_extra number is) too.right)
    same_verdict (Extra number) (Extra other) is too =
        ap (λ n. Extra n) (same_stop number other (stopped_extra number is) (stopped_extra other too))
    same_verdict (Extra number) (Wrong other) is too = absurd (extra_or_wrong number other is too)
    same_verdict (Extra number) (Unfinished other) is too = absurd (none_stopped number too.entries (stopped_extra number is) too.right)
    same_verdict (Wrong number) (Legal bindings) is too = absurd (none_stopped number too.entries (stopped_wrong number is) too.right)
    same_verdict (Wrong number) (Extra other) is too = absurd (extra_or_wrong other number too is)
    same_verdict (Wrong number) (Wrong other) is too =
        ap (λ n. Wrong n) (same_stop number other (stopped_wrong number is) (stopped_wrong other too))
    same_verdict (Wrong number) (Unfinished other) is too = absurd (none_stopped number too.entries (stopped_wrong number is) too.right)
    same_verdict (Unfinished worker) (Legal bindings) is too = absurd (unfinished_or_accepted worker bindings.pairs is too)
    same_verdict (Unfinished worker) (Extra other) is too = absurd (none_stopped other is.entries (stopped_extra other too) is.right)
    same_verdict (Unfinished worker) (Wrong other) is too = absurd (none_stopped other is.entries (stopped_wrong other too) is.right)
    same_verdict (Unfinished worker) (Unfinished other) is too = ap (λ w. Unfinished w) (same_unfinished worker other is too)
