-- A history beside a run, entries of callers aside: it is legal, its numbers never fall and are below the number of events, and
-- after each event its entries so far leave what the words stand for. Each event of a run keeps this: one that leaves the
-- bindings, and one that changes them as an entry does that is put behind all others. And so it is kept where an entry that
-- changes nothing is put in, and where the last entry of a caller gets its reply.
use Rattle.std.proofs.Common.{◌≡◌, ℕ, ◌+◌, ◌<◌, List, [], ◌∷◌, ◌++◌, length, refl, sym, ap, ◌∙◌, subst, inl, inr, arith}
use Rattle.std.proofs.lemmas.Bool.{cases_lt}
use Rattle.std.proofs.lemmas.List.{length_push}
use Rattle.rht_words.specs.declared.env.Env.{Env}
use Rattle.rht_words.specs.declared.config.Kind.{Kind}
use Rattle.rht_model.specs.declared.history.Entry.{Entry}
use Rattle.rht_model.specs.declared.history.Reply.{Reply}
use Rattle.rht_model.specs.Multimap.{Multimap, Agree, unbound}
use Rattle.rht_model.specs.Histories.{IsLegal, IsLegalAt, left_by, bindings_left}
use Rattle.rht_model.proofs.Agreements.{Agree-sym, left_by-Agree, answer_of-Agree, IsLegalAt-answer_of}
use Rattle.rht_model.proofs.LongerHistories.{bindings_left-append, IsLegalFrom-push}
use Rattle.rht_core.specs.declared.event.Event.{Event}
use Rattle.rht_core.specs.Numbered.{Numbered, history_of, numbered_to, NeverFalls, entries_of}
use Rattle.rht_core.specs.Alone.{bindings_at}
use Rattle.rht_core.specs.RunHistories.{bindings_behind}
use Rattle.rht_core.proofs.Histories.NumberedEntries.{AllBelow, AllBelow-more, numbered_to-all, put_in, put_in-rising, put_in-below, CanPutIn, put_in-legal, put_in-left, history_of-push, push-rising, push-below, push-before, replied, LastHas, replied-alike, alike-rising, alike-below, alike-legal, alike-left}
use Rattle.rht_core.proofs.Histories.Behind.{behind-more, behind-last}

module _ (M : Type 0) (mix : ℕ → ℕ → ℕ → ℕ) (env : Env) where
  abbrev kind : Kind
  kind = env.config.kind

  abbrev at_end : List Event → Multimap
  at_end events = bindings_at M mix env events

  -- what entries leave
  abbrev left : List Entry → Multimap
  left entries = bindings_left kind unbound entries

  pub record IsGood (events : List Event) (history : List Numbered) : Type 0 where
    pub legal : IsLegal kind (history_of history)
    pub rising : NeverFalls 0 history
    pub below : AllBelow (length events) history
    pub now : Agree (left (history_of history)) (at_end events)
    pub agrees : (i : ℕ) → i < length events → Agree (left (numbered_to i history))
        (bindings_behind M mix env events (i + 1))

  -- ---- one more event

  -- after each event but the last it is as before, where the history up to it is
  module _ (events : List Event) (event : Event) (history more : List Numbered) (good : IsGood events history)
      (below : AllBelow (length events + 1) more) (now : Agree (left (history_of more))
      (at_end (events ++ event ∷ [])))
      (same : (i : ℕ) → i < length events → left (numbered_to i more) ≡ left (numbered_to i history)) where
    agrees-more : (i : ℕ) → i < length (events ++ event ∷ [])
        → Agree (left (numbered_to i more)) (bindings_behind M mix env (events ++ event ∷ []) (i + 1))
    agrees-more i l = elim (cases_lt i (length events)) [
      | inl before ↦ λ p.
          ap (λ (b : Multimap). b p) (same i before) ∙ good.agrees i before p
          ∙ sym (ap (λ (b : Multimap). b p) (behind-more M mix env events event (i + 1)
          (omega (arith, before))))
      | inr last ↦
          let here : i ≡ length events = omega (arith, last, l, length_push events event) in
          subst (λ j. Agree (left (numbered_to j more))
          (bindings_behind M mix env (events ++ event ∷ []) (j + 1))) (sym here)
          (λ p. ap (λ (l : List Entry). left l p) (numbered_to-all (length events) more below) ∙ now p
          ∙ sym (ap (λ (b : Multimap). b p) (behind-last M mix env events event)))
    ]

  pub good-quiet : (events : List Event) (event : Event) (history : List Numbered) → IsGood events history
      → Agree (at_end (events ++ event ∷ [])) (at_end events) → IsGood (events ++ event ∷ []) history
  good-quiet events event history good agree =
      let longer = length_push events event in
      let now : Agree (left (history_of history)) (at_end (events ++ event ∷ [])) = λ p. good.now p
      ∙ sym (agree p) in
      record {
        legal = good.legal;
        rising = good.rising;
        below = AllBelow-more (length events) (length (events ++ event ∷ [])) history
            (omega (arith, longer)) good.below;
        now = now;
        agrees = agrees-more events event history history good
            (AllBelow-more (length events) (length events + 1) history (omega arith) good.below) now
            (λ i l. refl);
      }

  -- an entry behind all others, of the last event, which changes the bindings as that does
  pub good-push : (events : List Event) (event : Event) (history : List Numbered) (entry : Entry)
      → IsGood events history
      → IsLegalAt kind (at_end events) entry → Agree (at_end (events ++ event ∷ []))
      (left_by kind (at_end events) entry)
      → IsGood (events ++ event ∷ []) (history ++ record { number = length events; entry = entry } ∷ [])
  good-push events event history entry good legal leaves =
      let x : Numbered = record { number = length events; entry = entry } in
      let more = history ++ x ∷ [] in
      let longer = length_push events event in
      let back = Agree-sym (left (history_of history)) (at_end events) good.now in
      let here = IsLegalAt-answer_of kind (at_end events) (left (history_of history)) entry
      (answer_of-Agree kind (at_end events) (left (history_of history)) entry.call back) legal in
      let pushed = history_of-push history x in
      let is : left (history_of more) ≡ left_by kind (left (history_of history)) entry =
      ap left pushed ∙ bindings_left-append kind unbound (history_of history) (entry ∷ []) in
      let low = AllBelow-more (length events) (length events + 1) history (omega arith) good.below in
      let below = push-below x (length events + 1) history (omega arith) low in
      let now : Agree (left (history_of more)) (at_end (events ++ event ∷ [])) = λ p.
      ap (λ (b : Multimap). b p) is ∙ left_by-Agree kind (left (history_of history)) (at_end events)
      entry good.now p ∙ sym (leaves p) in
      record {
        legal = subst (IsLegal kind) (sym pushed) ((IsLegalFrom-push kind unbound (history_of history)
            entry).1 (good.legal, here));
        rising = push-rising x 0 history (omega arith) low good.rising;
        below = AllBelow-more (length events + 1) (length (events ++ event ∷ [])) more
            (omega (arith, longer)) below;
        now = now;
        agrees = agrees-more events event history more good below now
            (λ i l. ap left (push-before x i history l));
      }

  -- ---- the history alone

  -- an entry that changes nothing is put in
  pub good-put : (events : List Event) (history : List Numbered) (x : Numbered) → IsGood events history
      → x.number < length events
      → CanPutIn kind x unbound history → IsGood events (put_in x history)
  good-put events history x good low can =
      let more = put_in x history in
      let below = put_in-below x (length events) history low good.below in
      let all : (h : List Numbered) → AllBelow (length events) h → numbered_to (length events) h ≡ history_of h =
      λ h b. numbered_to-all (length events) h (AllBelow-more (length events) (length events + 1) h
      (omega arith) b) in
      let same : (i : ℕ) → Agree (left (numbered_to i more)) (left (numbered_to i history)) =
      λ i. put_in-left kind x unbound i 0 history good.rising can in
      record {
        legal = put_in-legal kind x unbound 0 history good.rising can good.legal;
        rising = put_in-rising x 0 history (omega arith) good.rising;
        below = below;
        now = λ p. sym (ap (λ (l : List Entry). left l p) (all more below)) ∙ same (length events) p
            ∙ ap (λ (l : List Entry). left l p) (all history good.below) ∙ good.now p;
        agrees = λ i l p. same i p ∙ good.agrees i l p;
      }

  -- the last entry of a caller gets its reply
  pub good-replied : (events : List Event) (history : List Numbered) (c : ℕ) (reply : Reply)
      → IsGood events history
      → LastHas c reply (entries_of c history) → IsGood events (replied c reply history)
  good-replied events history c reply good last =
      let more = replied c reply history in
      let alike = replied-alike c reply history last in
      let below = alike-below (length events) history more alike good.below in
      let all : (h : List Numbered) → AllBelow (length events) h → numbered_to (length events) h ≡ history_of h =
      λ h b. numbered_to-all (length events) h (AllBelow-more (length events) (length events + 1) h
      (omega arith) b) in
      let same : (i : ℕ) → left (numbered_to i more) ≡ left (numbered_to i history) =
      λ i. alike-left kind unbound i history more alike in
      record {
        legal = alike-legal kind unbound history more alike good.legal;
        rising = alike-rising 0 history more alike good.rising;
        below = below;
        now = λ p. sym (ap (λ (l : List Entry). left l p) (all more below))
            ∙ ap (λ (b : Multimap). b p) (same (length events))
            ∙ ap (λ (l : List Entry). left l p) (all history good.below) ∙ good.now p;
        agrees = λ i l p. ap (λ (b : Multimap). b p) (same i) ∙ good.agrees i l p;
      }
