-- A section word that is another one at two events was even at some event between them. And a caller that is in its section, and was in none at an
-- event before, has opened it since.
-- For an event leaves the word, or turns whether it is odd. Both go by induction over the events between.
use Rattle.std.proofs.Common.{◌≡◌, ◌≢◌, ◌⊎◌, ℕ, zero, suc, ◌+◌, ◌-◌, ◌%◌, ◌<◌, ◌≤◌, List, [], ◌∷◌, Some, take, length, refl, sym, ◌∙◌, ap, subst, inl, inr, arith}
use Rattle.std.specs.List.{AllByRecursion, slice_get}
use Rattle.std.proofs.lemmas.Bool.{cases_eq, cases_lt}
use Rattle.std.proofs.lemmas.List.{take_all}
use Rattle.rht_words.specs.declared.env.Env.{Env}
use Rattle.rht_words.specs.Places.{Section, word_at}
use Rattle.rht_core.specs.declared.event.Event.{Event}
use Rattle.rht_core.specs.Removals.{IsOpenSince}
use Rattle.rht_core.specs.Runs.{World, run_of, IsAdmitted, IsAdmittedEvent}
use Rattle.rht_core.specs.Seen.{words_before}
use Rattle.rht_core.proofs.Counting.FullTables.{taken}
use Rattle.rht_core.proofs.Events.InvariantRuns.{has_inv}
use Rattle.rht_core.proofs.Events.RangesInRuns.{event-all}
use Rattle.rht_core.proofs.Events.Worlds.{run_of-next}
use Rattle.rht_core.proofs.Returning.SectionWords.{SameOrTurned, event_turns}

-- there is an element at a place, or the list has ended before it
data ElementAt {X : Type 0} (P : X → Type 0) (xs : List X) (i : ℕ) : Type 0 where
  stands : (x : X) → slice_get xs i ≡ Some x → P x → ElementAt P xs i
  ended : length xs ≤ i → ElementAt P xs i

element_at : {X : Type 0} (P : X → Type 0) (xs : List X) (i : ℕ) → AllByRecursion P xs → ElementAt P xs i
element_at P [] i all = ended (omega arith)
element_at P (x ∷ xs) zero all = stands x refl all.0
element_at P (x ∷ xs) (suc i) all = further (element_at P xs i all.1)
  where
    further : ElementAt P xs i → ElementAt P (x ∷ xs) (suc i)
    further (stands y is so) = stands y is so
    further (ended within) = ended (omega (arith, within))

module _ (M : Type 0) (mix : ℕ → ℕ → ℕ → ℕ) (env : Env) (events : List Event) (admitted : IsAdmitted events) (d : ℕ) (low : d < 16) where
  -- the caller's section word before each event
  abbrev pub word : ℕ → ℕ
  word i = word_at env.geometry (words_before M mix env events i) (Section d)

  -- an event leaves it or turns it
  turns : (i : ℕ) → (word (suc i) ≡ word i) ⊎ (word (suc i) % 2 ≢ word i % 2)
  turns i = go (element_at IsAdmittedEvent events i admitted)
    where
      go : ElementAt IsAdmittedEvent events i → (word (suc i) ≡ word i) ⊎ (word (suc i) % 2 ≢ word i % 2)
      go (stands event is may) =
          let has = has_inv env mix M (take i events) (taken IsAdmittedEvent i events admitted) in
          let w = run_of {M = M} mix env (take i events) in
          subst (λ (v : World M). SameOrTurned env mix M w.core.words v.core.words d) (sym (run_of-next M mix env events i event is))
          (event_turns env mix M w.core has.ghost event has.all (event-all M mix env w event may has.all) has.inv d low)
      go (ended within) =
          inl (ap (λ es. word_at env.geometry (run_of {M = M} mix env es).core.words (Section d))
          (take_all (suc i) events (omega (arith, within)) ∙ sym (take_all i events within)))

  -- it was even at an event from one up to another one
  pub record WasEven (from upto : ℕ) : Type 0 where
    pub at : ℕ
    pub low_at : from ≤ at
    pub high_at : at ≤ upto
    pub even : word at % 2 ≡ 0

  pub was_even-later : (from upto more : ℕ) → upto ≤ more → WasEven from upto → WasEven from more
  was_even-later from upto more later was = record {
    at = was.at;
    low_at = was.low_at;
    high_at = (let high = was.high_at in omega (arith, high, later));
    even = was.even;
  }

  between : (n i : ℕ) → word (i + n) ≢ word i → WasEven i (i + n)
  between zero i other = absurd (other (ap word (let same : i + zero ≡ i = omega arith in same)))
  between (suc n) i other =
      let next : suc (i + n) ≡ i + suc n = omega arith in
      subst (WasEven i) next (elim (turns (i + n)) [
        | inl same ↦
            was_even-later i (i + n) (suc (i + n)) (omega arith)
            (between n i (λ e. other (ap word (sym next) ∙ same ∙ e)))
        | inr turned ↦ elim (cases_eq (word (i + n) % 2) 0) [
          | inl even ↦ record { at = i + n; low_at = omega arith; high_at = omega arith; even = even }
          | inr odd ↦ record { at = suc (i + n); low_at = omega arith; high_at = omega arith; even = omega (arith, odd, turned) }
        ]
      ])

  -- two words differ
  pub differ : (i j from upto : ℕ) → from ≤ i → i ≤ upto → from ≤ j → j ≤ upto → word i ≢ word j → WasEven from upto
  differ i j from upto from_i to_i from_j to_j other = elim (cases_lt i j) [
    | inl before ↦ within i j from_i to_j (omega (arith, before)) (λ e. other (sym e))
    | inr behind ↦ within j i from_j to_i behind other
  ]
    where
      within : (one two : ℕ) → from ≤ one → two ≤ upto → one ≤ two → word two ≢ word one → WasEven from upto
      within one two low_one high_two order apart =
          let there : one + (two - one) ≡ two = omega (arith, order) in
          let was = between (two - one) one (λ e. apart (ap word (sym there) ∙ e)) in
          record {
            at = was.at;
            low_at = (let at = was.low_at in omega (arith, at, low_one));
            high_at = (let at = was.high_at in omega (arith, at, there, high_two));
            even = was.even;
          }

  -- it was in none, and is in its section
  abbrev OpenedSince : ℕ → ℕ → Type 0
  OpenedSince from behind = (at : ℕ) × IsOpenSince env.geometry (words_before M mix env events) d at behind × (from ≤ at)

  opened : (n i : ℕ) → word i % 2 ≡ 0 → word (i + n) % 2 ≡ 1 → OpenedSince i (i + n)
  opened zero i even odd =
      absurd (let same : word (i + zero) ≡ word i = ap word (let e : i + zero ≡ i = omega arith in e) in omega (arith, even, odd, same))
  opened (suc n) i even odd =
      let next : suc (i + n) ≡ i + suc n = omega arith in
      let then : word (suc (i + n)) ≡ word (i + suc n) = ap word next in
      let odd_next : word (suc (i + n)) % 2 ≡ 1 = omega (arith, odd, then) in
      subst (OpenedSince i) next (elim (turns (i + n)) [
        | inl same ↦
            let sooner = opened n i even (let e = same in omega (arith, odd_next, e)) in
            let since = sooner.1 in (
              sooner.0,
              record {
                before = (let before = since.before in omega (arith, before));
                outside = since.outside;
                inside = λ index behind within. elim (cases_lt index (suc (i + n))) [
                  | inl before ↦ since.inside index behind (omega (arith, before)) ∙ sym same
                  | inr last ↦ ap word (let here : index ≡ suc (i + n) = omega (arith, within, last) in here)
                ];
                reads = odd_next;
              },
              sooner.2,
            )
        | inr turned ↦ (
          i + n,
          record {
            before = omega arith;
            outside = omega (arith, odd_next, turned);
            inside = λ index behind within. ap word (let here : index ≡ suc (i + n) = omega (arith, within, behind) in here);
            reads = odd_next;
          },
          omega arith,
        )
      ])

  pub opened_since : (from behind : ℕ) → WasEven from behind → word behind % 2 ≡ 1 → OpenedSince from behind
  opened_since from behind was odd =
      let order = was.high_at in
      let there : was.at + (behind - was.at) ≡ behind = omega (arith, order) in
      let since = subst (OpenedSince was.at) there
      (opened (behind - was.at) was.at was.even (let same = ap word there in omega (arith, odd, same))) in
      (since.0, since.1, let at = since.2 in let low_at = was.low_at in omega (arith, at, low_at))
