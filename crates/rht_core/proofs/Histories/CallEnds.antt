-- A call ends: its entry, where it is about bindings, is the last of its caller's. One that has changed the bindings stands there
-- already, and gets its reply; one that hasn't is put in at the event at which its answer was right.
use Rattle.std.proofs.Common.{◌≡◌, ◌≢◌, ℕ, ◌+◌, ◌<◌, ◌≤◌, List, [], ◌∷◌, ◌++◌, length, Some, Bool, true, false, cond, refl, sym, ap, ◌∙◌, subst, inl, inr, arith}
use Rattle.std.specs.Prelude.{is_some}
use Rattle.std.proofs.lemmas.Bool.{cases_Bool}
use Rattle.std.proofs.lemmas.List.{append-nil}
use Rattle.rht_words.specs.declared.env.Env.{Env}
use Rattle.rht_words.specs.declared.config.Kind.{Kind}
use Rattle.rht_model.specs.declared.history.Call.{Call}
use Rattle.rht_model.specs.declared.history.Reply.{Reply}
use Rattle.rht_model.specs.Endings.{Ending, ended_with}
use Rattle.rht_model.specs.Multimap.{Agree, unbound}
use Rattle.rht_model.specs.Answers.{Answer, port_of}
use Rattle.rht_model.specs.Histories.{without_kick, bindings_left}
use Rattle.rht_model.proofs.Agreements.{Agree-sym, answer_of-Agree, left_by-Agree, IsLegalAt-answer_of}
use Rattle.rht_core.specs.declared.event.Event.{Event}
use Rattle.rht_core.specs.Traces.{Did, Past, behind_call}
use Rattle.rht_core.specs.Numbered.{Numbered, entries_of, numbered_to}
use Rattle.rht_core.specs.RunHistories.{IsEntryOf, about_bindings}
use Rattle.rht_core.proofs.Tracing.TracesAtEvents.{behind_steps-push}
use Rattle.rht_ghost.proofs.Theory.Answering.{entry_of, IsLegalOn}
use Rattle.rht_core.proofs.Histories.NumberedEntries.{AllBelow, put_in, put_in-other, put_in-own, CanPutIn, with_reply, replied, replied-other, replied-own, LastHas}
use Rattle.rht_core.proofs.Histories.GoodHistories.{IsGood, good-put, good-replied}
use Rattle.rht_core.proofs.Histories.CallerEntries.{behind, IsSaid, IsTail}

-- these entries are those of the calls, one for each, in order
abbrev pub AreEnded : List Past → List Numbered → Type 0
AreEnded [] [] = Unit {0}
AreEnded [] (x ∷ xs) = ⊥
AreEnded (past ∷ calls) [] = ⊥
AreEnded (past ∷ calls) (x ∷ xs) = IsEntryOf past x × AreEnded calls xs

AreEnded-push : (calls : List Past) (xs : List Numbered) (past : Past) (x : Numbered) → AreEnded calls xs
    → IsEntryOf past x
    → AreEnded (calls ++ past ∷ []) (xs ++ x ∷ [])
AreEnded-push [] [] past x ended is = (is, tt)
AreEnded-push [] (y ∷ ys) past x ended is = absurd ended
AreEnded-push (call ∷ calls) [] past x ended is = absurd ended
AreEnded-push (call ∷ calls) (y ∷ ys) past x ended is = (ended.0, AreEnded-push calls ys past x ended.1 is)

-- one more call, which may be about bindings or not
pub about-push : (calls : List Past) (past : Past)
    → about_bindings (calls ++ past ∷ []) ≡ about_bindings calls ++ about_bindings (past ∷ [])
about-push [] past = refl
about-push (call ∷ calls) past = go (is_some (port_of call.done.call)) (about-push calls past)
  where
    go : (t : Bool) → about_bindings (calls ++ past ∷ []) ≡ about_bindings calls ++ about_bindings (past ∷ [])
        → cond t (call ∷ about_bindings (calls ++ past ∷ [])) (about_bindings (calls ++ past ∷ []))
        ≡ cond t (call ∷ about_bindings calls) (about_bindings calls) ++ about_bindings (past ∷ [])
    go true rest = ap (λ all. call ∷ all) rest
    go false rest = rest

-- the last of these is the one that was put behind the others
LastHas-last : (c : ℕ) (reply : Reply) (es : List Numbered) (x : Numbered)
    → without_kick reply ≡ without_kick x.entry.reply
    → LastHas c reply (es ++ x ∷ [])
LastHas-last c reply [] x is = is
LastHas-last c reply (e ∷ []) x is = is
LastHas-last c reply (e ∷ f ∷ es) x is = LastHas-last c reply (f ∷ es) x is

module _ (M : Type 0) (mix : ℕ → ℕ → ℕ → ℕ) (env : Env) (events : List Event) (c : ℕ) (call : Call)
    (begin : ℕ)
    (before : List Did) (last : Did) (index : last.index + 1 ≡ length events) (ending : Ending) where
  abbrev kind : Kind
  kind = env.config.kind

  abbrev past : Past
  past = record { done = ended_with call ending; begin = begin; steps = before ++ last ∷ [] }

  -- the call ends at the last event
  ends : behind_call past ≡ length events
  ends = behind_steps-push (begin + 1) before last ∙ index

  -- the history after the end of the call
  pub record IsEnd (history : List Numbered) (calls : List Past) : Type 0 where
    pub next : List Numbered
    pub good : IsGood M mix env events next
    pub others : (d : ℕ) → d ≢ c → entries_of d next ≡ entries_of d history
    pub es : List Numbered
    pub own : entries_of c next ≡ es
    pub ended : AreEnded (about_bindings (calls ++ past ∷ [])) es

  module _ (history : List Numbered) (calls : List Past) (es : List Numbered)
      (good : IsGood M mix env events history)
      (ended : AreEnded (about_bindings calls) es) (below : AllBelow begin es) where
    -- one more entry is that of the call
    one_more : is_some (port_of call) ≡ true → (x : Numbered) → IsEntryOf past x
        → AreEnded (about_bindings (calls ++ past ∷ [])) (es ++ x ∷ [])
    one_more about x is =
        let now : about_bindings (past ∷ []) ≡ past ∷ [] = ap (λ t. cond t (past ∷ []) []) about in
        subst (λ all. AreEnded all (es ++ x ∷ [])) (sym (about-push calls past
        ∙ ap (λ l. about_bindings calls ++ l) now))
        (AreEnded-push (about_bindings calls) es past x ended is)

    -- a call that isn't about bindings has none
    none_more : is_some (port_of call) ≡ false → entries_of c history ≡ es → IsEnd history calls
    none_more not_about none =
        let now : about_bindings (past ∷ []) ≡ [] = ap (λ t. cond t (past ∷ []) []) not_about in
        record {
          next = history;
          good = good;
          others = λ d ne. refl;
          es = es;
          own = none;
          ended = subst (λ all. AreEnded all es) (sym (about-push calls past
              ∙ ap (λ l. about_bindings calls ++ l) now ∙ append-nil (about_bindings calls))) ended;
        }

    -- where it has changed nothing, its entry is put in
    put_now : entries_of c history ≡ es → is_some (port_of call) ≡ true
        → (is : IsSaid M mix env events c call begin ending.answer)
        → IsLegalOn kind c call (behind M mix env events (is.at + 1)) ending.answer → IsEnd history calls
    put_now none about is said =
        let entry = entry_of c call ending.answer in
        let x : Numbered = record { number = is.at; entry = entry } in
        let then = behind M mix env events (is.at + 1) in
        let left = bindings_left kind unbound (numbered_to is.at history) in
        let agree : Agree left then = good.agrees is.at is.so_far in
        let back = Agree-sym left then agree in
        let can : CanPutIn kind x unbound history = record {
          legal = IsLegalAt-answer_of kind then left entry (answer_of-Agree kind then left call back)
              said.legal;
          leaves = λ b same p.
              left_by-Agree kind b then entry (λ q. same q ∙ agree q) p ∙ said.leaves p
              ∙ sym (same p ∙ agree p);
        } in
        let low : AllBelow (is.at + 1) (entries_of c history) = subst (AllBelow (is.at + 1)) (sym none)
        (below_more es below (let l = is.begun in omega (arith, l))) in
        record {
          next = put_in x history;
          good = good-put M mix env events history x good is.so_far can;
          others = λ d ne. put_in-other x d history (λ e. ne (sym e));
          es = es ++ x ∷ [];
          own = put_in-own x 0 history good.rising low ∙ ap (λ own. own ++ x ∷ []) none;
          ended = one_more about x (record {
            call = refl;
            reply = refl;
            owners = refl;
            begun = is.begun;
            ended = subst (λ n. is.at < n) (sym ends) is.so_far;
          });
        }
      where
        below_more : (xs : List Numbered) → AllBelow begin xs → begin ≤ is.at + 1 → AllBelow (is.at + 1) xs
        below_more [] b l = tt
        below_more (x ∷ xs) b l = (let h = b.0 in omega (arith, h, l), below_more xs b.1 l)

    pub end_history : IsTail M mix env events c call begin (before ++ last ∷ []) (Some ending.answer) es
        (entries_of c history)
        → IsEnd history calls
    end_history (inl is) = elim is.still.said [
      | inl said ↦ elim (cases_Bool (is_some (port_of call))) [
        | inl about ↦ put_now is.none about is.still said
        | inr not_about ↦ none_more not_about is.none
      ]
      | inr not_about ↦ none_more (ap is_some not_about) is.none
    ]
    end_history (inr is) =
        let pending = is.pending in
        let told : pending.told ≡ ending.answer = (let known = pending.known in cc) in
        let x = is.entry in
        let reply = ending.answer.reply in
        let same : without_kick reply ≡ without_kick x.entry.reply = ap
        (λ (a : Answer). without_kick a.reply) (sym told) ∙ pending.reply in
        let has = subst (LastHas c reply) (sym is.one) (LastHas-last c reply es x same) in
        record {
          next = replied c reply history;
          good = good-replied M mix env events history c reply good has;
          others = λ d ne. replied-other c reply d history ne;
          es = es ++ with_reply x reply ∷ [];
          own = replied-own c reply history es x is.one;
          ended = one_more pending.about (with_reply x reply) (record {
            call = pending.same_call;
            reply = refl;
            owners = sym pending.owners ∙ ap (λ (a : Answer). a.owners) told;
            begun = pending.begun;
            ended = subst (λ n. x.number < n) (sym ends) pending.so_far;
          });
        }
