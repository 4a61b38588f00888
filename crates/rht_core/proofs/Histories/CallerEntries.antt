-- The entries of one caller in a history beside a run. Those of its calls that have ended come first. A call in progress has one
-- more exactly where it has changed the bindings, with its answer as far as that is known. Where it has changed none and its answer
-- is known, there is an event of the call at which that answer was right and changed nothing; so there is of an answer that it knows
-- early, unless the page that it knows it for is there.
use Rattle.std.proofs.Common.{◌≡◌, ◌≢◌, ◌⊎◌, ℕ, ◌+◌, ◌<◌, ◌≤◌, List, [], ◌∷◌, ◌++◌, length, Option, Some, None, true, refl, sym, ap, ◌∙◌, subst, inl, inr, arith}
use Rattle.std.specs.Prelude.{is_some}
use Rattle.std.specs.List.{AllByRecursion}
use Rattle.std.proofs.lemmas.List.{length_push}
use Rattle.std.proofs.lemmas.List.Quantifiers.{Any-push}
use Rattle.rht_words.specs.declared.env.Env.{Env}
use Rattle.rht_words.specs.declared.config.Kind.{Kind}
use Rattle.rht_words.proofs.EachElement.{Any-append_left}
use Rattle.rht_model.specs.declared.history.Call.{Call}
use Rattle.rht_model.specs.declared.history.Call.TheVariants.{Walk, Work, Tidy, Count}
use Rattle.rht_model.specs.Multimap.{Multimap, Agree}
use Rattle.rht_model.specs.Answers.{Answer, port_of, answer_of}
use Rattle.rht_model.specs.Histories.{without_kick}
use Rattle.rht_core.specs.declared.event.Event.{Event}
use Rattle.rht_core.specs.Traces.{Did}
use Rattle.rht_core.specs.Numbered.{Numbered, entries_of}
use Rattle.rht_core.specs.Alone.{bindings_at}
use Rattle.rht_core.specs.RunHistories.{bindings_behind, ChangesBindings}
use Rattle.rht_ghost.proofs.Theory.Answering.{entry_of, IsSameAnswer, IsLegalOn, IsSaidOn, RecallsAnswer, ClaimsAnswer, SaysStill, KnowsEarly, Says}
use Rattle.rht_core.proofs.Histories.NumberedEntries.{IsAlike, alike-legal_at, alike-left_by, push-other, push-own}
use Rattle.rht_core.proofs.Histories.Behind.{Any-push_cases, behind-all, behind-more, behind-last, Changed, Changed-more, Changed-fewer}
use Rattle.rht_core.proofs.Histories.GoodHistories.{IsGood, good-quiet, good-push}

-- a call that is answered is about bindings
answered_about : (k : Kind) (b : Multimap) (call : Call) (answer : Answer) → answer_of k b call ≡ Some answer
    → is_some (port_of call) ≡ true
answered_about k b (Walk from limit) answer is = absurd (cc)
answered_about k b Work answer is = absurd (cc)
answered_about k b Tidy answer is = absurd (cc)
answered_about k b Count answer is = absurd (cc)
answered_about k b _ answer is = refl

module _ (M : Type 0) (mix : ℕ → ℕ → ℕ → ℕ) (env : Env) where
  abbrev kind : Kind
  kind = env.config.kind

  abbrev pub behind : List Event → ℕ → Multimap
  behind events count = bindings_behind M mix env events count

  module _ (events : List Event) (c : ℕ) where
    -- at an event of the call so far its answer was right, and changed nothing
    pub record IsSaid (call : Call) (begin : ℕ) (answer : Answer) : Type 0 where
      pub at : ℕ
      pub begun : begin ≤ at
      pub so_far : at < length events
      pub said : IsSaidOn kind c call (behind events (at + 1)) answer

    abbrev pub Still : Call → ℕ → Option Answer → Type 0
    Still call begin None = Unit {0}
    Still call begin (Some answer) = IsSaid call begin answer

    -- of an answer that is known early the same, or the page that it is known for is there
    abbrev pub IsEarly : Call → ℕ → Type 0 → Option Answer → Type 0
    IsEarly call begin There early = (answer : Answer) → early ≡ Some answer → There ⊎ IsSaid call begin answer

    -- the entry of a call in progress that has changed the bindings
    pub record IsPending (call : Call) (begin : ℕ) (answer : Option Answer) (x : Numbered) : Type 0 where
      pub told : Answer
      pub known : answer ≡ Some told
      pub about : is_some (port_of call) ≡ true
      pub same_call : x.entry.call ≡ call
      pub owners : told.owners ≡ x.entry.owners
      pub reply : without_kick told.reply ≡ without_kick x.entry.reply
      pub begun : begin ≤ x.number
      pub so_far : x.number < length events

    pub record Unchanged (call : Call) (begin : ℕ) (steps : List Did) (answer : Option Answer)
        (es own : List Numbered) : Type 0 where
      pub none : own ≡ es
      pub same : ¬ Changed M mix env events steps
      pub still : Still call begin answer

    pub record HasChanged (call : Call) (begin : ℕ) (steps : List Did) (answer : Option Answer)
        (es own : List Numbered) : Type 0 where
      pub entry : Numbered
      pub one : own ≡ es ++ entry ∷ []
      pub changed : Changed M mix env events steps
      pub pending : IsPending call begin answer entry

    -- its entries are those of the calls that have ended, and that of the call in progress
    abbrev pub IsTail : Call → ℕ → List Did → Option Answer → List Numbered → List Numbered → Type 0
    IsTail call begin steps answer es own = Unchanged call begin steps answer es own
        ⊎ HasChanged call begin steps answer es own

  -- ---- one event more

  module _ (events : List Event) (event : Event) where
    abbrev more : List Event
    more = events ++ event ∷ []

    longer : length more ≡ length events + 1
    longer = length_push events event

    pub said-more : (c : ℕ) (call : Call) (begin : ℕ) (answer : Answer) → IsSaid events c call begin answer
        → IsSaid more c call begin answer
    said-more c call begin answer is = record {
      at = is.at;
      begun = is.begun;
      so_far = (let l = is.so_far in omega (arith, longer, l));
      said = subst (λ (b : Multimap). IsSaidOn kind c call b answer)
          (sym (behind-more M mix env events event (is.at + 1) (let l = is.so_far in omega (arith, l))))
          is.said;
    }

    still-more : (c : ℕ) (call : Call) (begin : ℕ) (answer : Option Answer)
        → Still events c call begin answer → Still more c call begin answer
    still-more c call begin None still = still
    still-more c call begin (Some answer) still = said-more c call begin answer still

    -- where the page stays once it is there
    pub early-more : (c : ℕ) (call : Call) (begin : ℕ) (There There' : Type 0) (early : Option Answer)
        → (There → There') → IsEarly events c call begin There early → IsEarly more c call begin There' early
    early-more c call begin There There' early stays is answer known = elim (is answer known) [
      | inl there ↦ inl (stays there)
      | inr said ↦ inr (said-more c call begin answer said)
    ]

    pending-more : (c : ℕ) (call : Call) (begin : ℕ) (answer : Option Answer) (x : Numbered)
        → IsPending events c call begin answer x
        → IsPending more c call begin answer x
    pending-more c call begin answer x is = record {
      told = is.told;
      known = is.known;
      about = is.about;
      same_call = is.same_call;
      owners = is.owners;
      reply = is.reply;
      begun = is.begun;
      so_far = (let l = is.so_far in omega (arith, longer, l));
    }

    -- the event of another caller, or of none
    pub tail-more : (c : ℕ) (call : Call) (begin : ℕ) (steps : List Did) (answer : Option Answer)
        (es own : List Numbered)
        → AllByRecursion (λ did. did.index < length events) steps
        → IsTail events c call begin steps answer es own
        → IsTail more c call begin steps answer es own
    tail-more c call begin steps answer es own made (inl is) = inl (record {
      none = is.none;
      same = λ changed. is.same (Changed-fewer M mix env events event steps made changed);
      still = still-more c call begin answer is.still;
    })
    tail-more c call begin steps answer es own made (inr is) = inr (record {
      entry = is.entry;
      one = is.one;
      changed = Changed-more M mix env events event steps made is.changed;
      pending = pending-more c call begin answer is.entry is.pending;
    })

    -- ---- an operation of the call

    module _ (c : ℕ) (call : Call) (begin : ℕ) (begun : begin ≤ length events) (steps : List Did)
        (made : AllByRecursion (λ did. did.index < length events) steps) (did : Did)
        (index : did.index ≡ length events) where
      abbrev before : Multimap
      before = bindings_at M mix env events

      abbrev after : Multimap
      after = bindings_at M mix env more

      before-is : behind more did.index ≡ before
      before-is = ap (behind more) index ∙ behind-more M mix env events event (length events)
          (omega arith) ∙ behind-all M mix env events

      after-is : behind more (did.index + 1) ≡ after
      after-is = ap (λ n. behind more (n + 1)) index ∙ behind-last M mix env events event

      -- where it leaves the bindings the call has changed them if it had
      unchanged : Agree after before → ¬ Changed M mix env events steps
          → ¬ Changed M mix env more (steps ++ did ∷ [])
      unchanged agree same changed = elim (Any-push_cases (ChangesBindings M mix env more) steps did
          changed) [
            | inl earlier ↦ same (Changed-fewer M mix env events event steps made earlier)
            | inr now ↦ now.1 (ap (λ (b : Multimap). b now.0) before-is ∙ sym (agree now.0)
                ∙ sym (ap (λ (b : Multimap). b now.0) after-is))
          ]

      still_changed : Changed M mix env events steps → Changed M mix env more (steps ++ did ∷ [])
      still_changed changed = Any-append_left (ChangesBindings M mix env more) steps (did ∷ [])
          (Changed-more M mix env events event steps made changed)

      now_changed : (port : ℕ) → after port ≢ before port → Changed M mix env more (steps ++ did ∷ [])
      now_changed port differs = Any-push (ChangesBindings M mix env more) steps did (
        port,
        λ same. differs (sym (ap (λ (b : Multimap). b port) after-is) ∙ sym same
            ∙ ap (λ (b : Multimap). b port) before-is),
      )

      -- an answer is as good as one that says otherwise whether `work` has something to do
      said-same : (was now : Answer) → IsSameAnswer was now → IsSaid more c call begin was
          → IsSaid more c call begin now
      said-same was now same is = record {
        at = is.at;
        begun = is.begun;
        so_far = is.so_far;
        said = elim is.said [
          | inl legal ↦ inl (legal-same legal)
          | inr not_about ↦ inr not_about
        ];
      }
        where
          b : Multimap
          b = behind more (is.at + 1)

          x : Numbered
          x = record { number = 0; entry = entry_of c call was }

          y : Numbered
          y = record { number = 0; entry = entry_of c call now }

          alike : IsAlike x y
          alike = record {
            number = refl;
            caller = refl;
            call = refl;
            owners = same.owners;
            reply =
                same.reply;
          }

          legal-same : IsLegalOn kind c call b was → IsLegalOn kind c call b now
          legal-same legal = record {
            legal = alike-legal_at kind b x y alike legal.legal;
            leaves = λ p. ap (λ (m : Multimap). m p) (alike-left_by kind b x y alike) ∙ legal.leaves p;
          }

      -- what is said on the bindings now is so at the last event
      said-now : (answer : Answer) → IsSaidOn kind c call after answer → IsSaid more c call begin answer
      said-now answer said = record {
        at = length events;
        begun = begun;
        so_far = omega (arith, longer);
        said = subst (λ (b : Multimap). IsSaidOn kind c call b answer) (sym (behind-last M mix env events event)) said;
      }

      -- what is known early stays so, or is said now
      pub early-next : (There There' : Type 0) (was now : Option Answer) → KnowsEarly kind c call There There' after was now
          → IsEarly events c call begin There was → IsEarly more c call begin There' now
      early-next There There' was now knows is answer known = elim (knows answer known) [
        | inl stays ↦ elim (is answer stays.known_early) [
          | inl there ↦ inl (stays.stays there)
          | inr said ↦ inr (said-more c call begin answer said)
        ]
        | inr (inl said) ↦ inr (said-now answer said)
        | inr (inr there) ↦ inl there
      ]

      -- an answer that is recalled, the page not being there, was right at the event at which it was known early
      said-recalled : (early : Option Answer) (There : Type 0) (was now : Option Answer)
          → (recalls : RecallsAnswer kind c call early There was now) → IsEarly events c call begin There early
          → IsSaid more c call begin recalls.answer
      said-recalled early There was now recalls is = elim (is recalls.foreseen recalls.known_early) [
        | inl there ↦ absurd (recalls.missing there)
        | inr said ↦ said-same recalls.foreseen recalls.answer recalls.same
            (said-more c call begin recalls.foreseen said)
      ]

      still-next : (early : Option Answer) (There : Type 0) (was now : Option Answer)
          → ((claims : ClaimsAnswer kind c call was now) → IsSaid more c call begin claims.answer)
          → SaysStill kind c call early There after was now → IsEarly events c call begin There early
          → Still events c call begin was → Still more c call begin now
      still-next early There None now claimed (inl keeps) is still =
          subst (Still more c call begin) (sym keeps) tt
      still-next early There (Some was) None claimed (inl keeps) is still = absurd keeps
      still-next early There (Some was) (Some now) claimed (inl keeps) is still = said-same was now keeps
          (said-more c call begin was still)
      still-next early There was now claimed (inr (inl learns)) is still =
          subst (Still more c call begin) (sym learns.known) (said-now learns.answer learns.said)
      still-next early There was now claimed (inr (inr (inl recalls))) is still =
          subst (Still more c call begin) (sym recalls.known) (said-recalled early There was now recalls is)
      still-next early There was now claimed (inr (inr (inr claims))) is still =
          subst (Still more c call begin) (sym claims.known) (claimed claims)

      pending-next : (early : Option Answer) (There : Type 0) (was now : Option Answer) (x : Numbered)
          → SaysStill kind c call early There after was now
          → IsPending events c call begin was x
          → IsPending more c call begin now x
      pending-next early There None now x said is = absurd (let known = is.known in cc)
      pending-next early There (Some was) None x (inl keeps) is = absurd keeps
      pending-next early There (Some was) (Some now) x (inl keeps) is =
          let same : was ≡ is.told = (let known = is.known in cc) in
          let same_told = subst (λ (a : Answer). IsSameAnswer a now) same keeps in
          record {
            told = now;
            known = refl;
            about = is.about;
            same_call = is.same_call;
            owners = same_told.owners ∙ is.owners;
            reply = same_told.reply ∙ is.reply;
            begun = is.begun;
            so_far = (let l = is.so_far in omega (arith, longer, l));
          }
      pending-next early There (Some was) now x (inr (inl learns)) is = absurd (let unknown = learns.unknown in cc)
      pending-next early There (Some was) now x (inr (inr (inl recalls))) is =
          absurd (let unknown = recalls.unknown in cc)
      pending-next early There (Some was) now x (inr (inr (inr claims))) is =
          absurd (let unknown = claims.unknown in cc)

      -- the history after the operation: the others' entries are the same
      pub record IsNext (history : List Numbered) (now : Option Answer) (es : List Numbered) : Type 0 where
        pub next : List Numbered
        pub good : IsGood M mix env more next
        pub others : (d : ℕ) → d ≢ c → entries_of d next ≡ entries_of d history
        pub tail : IsTail more c call begin (steps ++ did ∷ []) now es (entries_of c next)

      pub next_history : (early : Option Answer) (There : Type 0) (history : List Numbered) (was now : Option Answer)
          (es : List Numbered) → IsGood M mix env events history
          → ((claims : ClaimsAnswer kind c call was now) → IsSaid more c call begin claims.answer)
          → Says kind c call early There before after was now
          → IsEarly events c call begin There early → IsTail events c call begin steps was es (entries_of c history)
          → IsNext history now es
      next_history early There history was now es good claimed (inl stills) knows (inl is) = record {
        next = history;
        good = good-quiet M mix env events event history good stills.agree;
        others = λ d ne. refl;
        tail = inl (record {
          none = is.none;
          same = unchanged stills.agree is.same;
          still = still-next early There was now claimed stills.said knows is.still;
        });
      }
      next_history early There history was now es good claimed (inl stills) knows (inr is) = record {
        next = history;
        good = good-quiet M mix env events event history good stills.agree;
        others = λ d ne. refl;
        tail = inr (record {
          entry = is.entry;
          one = is.one;
          changed = still_changed is.changed;
          pending = pending-next early There was now is.entry stills.said is.pending;
        });
      }
      next_history early There history was now es good claimed (inr changes) knows (inl is) =
          let entry = entry_of c call changes.answer in
          let x : Numbered = record { number = length events; entry = entry } in
          record {
            next = history ++ x ∷ [];
            good = good-push M mix env events event history entry good (inl changes.answered)
                changes.bindings;
            others = λ d ne. push-other x d history (λ e. ne (sym e));
            tail = inr (record {
              entry = x;
              one = push-own x history ∙ ap (λ own. own ++ x ∷ []) is.none;
              changed = now_changed changes.port changes.differs;
              pending = record {
                told = changes.answer;
                known = changes.known;
                about = answered_about kind before call _ changes.answered;
                same_call = refl;
                owners = refl;
                reply = refl;
                begun = begun;
                so_far = omega (arith, longer);
              };
            });
          }
      next_history early There history was now es good claimed (inr changes) knows (inr is) =
          absurd (let unknown = changes.unknown in let known = is.pending.known in cc)
