-- Bindings with the same owners of each port are told apart by no call and by no history.
-- What a call answers and leaves of a port depends on that port alone, so it is the same port by port.
use Rattle.std.proofs.Common.{◌≡◌, List, [], ◌∷◌, refl, sym, ◌∙◌, ap, inl, inr, unwrap_or}
use Rattle.rht_words.specs.declared.config.Kind.{Kind}
use Rattle.rht_model.specs.declared.history.Call.{Call}
use Rattle.rht_model.specs.declared.history.Entry.{Entry}
use Rattle.rht_model.specs.Multimap.{Multimap, Agree}
use Rattle.rht_model.specs.Answers.{answer_of, plain}
use Rattle.rht_model.specs.Histories.{without_kick, IsAnswered, IsLegalAt, IsLegalFrom, left_by, bindings_left}
use Rattle.rht_model.proofs.OwnPort.{answer_of-own_port, left_by-own_port}

-- bindings agree with themselves
pub Agree-refl : (bindings : Multimap) → Agree bindings bindings
Agree-refl bindings port = refl

-- if one agrees with another, that agrees with the one
pub Agree-sym : (first second : Multimap) → Agree first second → Agree second first
Agree-sym first second agree port = sym (agree port)

-- a call has one answer on bindings that agree
pub answer_of-Agree : (kind : Kind) (first second : Multimap) (call : Call) → Agree first second
    → answer_of kind first call ≡ answer_of kind second call
answer_of-Agree kind first second call agree = answer_of-own_port kind first second call
    (λ port own. agree port)

-- entries of one call that are answered on bindings that agree have the same reply, `kick` aside, and the same list
pub IsAnswered-unique : (kind : Kind) (bindings same : Multimap) (first second : Entry) → Agree bindings same
    → first.call ≡ second.call → IsAnswered kind bindings first → IsAnswered kind same second
    → (without_kick first.reply ≡ without_kick second.reply) × (first.owners ≡ second.owners)
IsAnswered-unique kind bindings same first second agree one_call answered answered' =
    let one_answer = answer_of-Agree kind bindings same first.call agree
    ∙ ap (answer_of kind same) one_call in
    let answers = sym answered ∙ one_answer ∙ answered' in
    let none = plain first.reply in (
      ap (λ answer. (unwrap_or answer none).reply) answers,
      ap (λ answer. (unwrap_or answer none).owners)
          answers,
    )

-- an entry leaves bindings that agree agreeing
pub left_by-Agree : (kind : Kind) (first second : Multimap) (entry : Entry) → Agree first second
    → Agree (left_by kind first entry) (left_by kind second entry)
left_by-Agree kind first second entry agree port = left_by-own_port kind first second entry port (agree port)

-- By induction over the history: what it leaves of bindings that agree agrees.
pub bindings_left-Agree : (kind : Kind) (first second : Multimap) (history : List Entry) → Agree first second
    → Agree (bindings_left kind first history) (bindings_left kind second history)
bindings_left-Agree kind first second [] agree = agree
bindings_left-Agree kind first second (entry ∷ history) agree =
    let agree_behind = left_by-Agree kind first second entry agree in
    bindings_left-Agree kind (left_by kind first entry) (left_by kind second entry) history agree_behind

-- an entry is legal on bindings on which its call has the same answer
pub IsLegalAt-answer_of : (kind : Kind) (first second : Multimap) (entry : Entry)
    → answer_of kind first entry.call ≡ answer_of kind second entry.call
    → IsLegalAt kind first entry → IsLegalAt kind second entry
IsLegalAt-answer_of kind first second entry same legal =
    elim legal as (λ _. IsLegalAt kind second entry) [
      | inl answered ↦ inl (sym same ∙ answered)
      | inr refused ↦ inr refused
    ]

-- By induction over the history: it is legal from bindings that agree with those it is legal from.
pub IsLegalFrom-Agree : (kind : Kind) (first second : Multimap) (history : List Entry) → Agree first second
    → IsLegalFrom kind first history → IsLegalFrom kind second history
IsLegalFrom-Agree kind first second [] agree legal = tt
IsLegalFrom-Agree kind first second (entry ∷ history) agree legal =
    let agree_behind = left_by-Agree kind first second entry agree in
    let same = answer_of-Agree kind first second entry.call agree in (
      IsLegalAt-answer_of kind first second entry same legal.0,
      IsLegalFrom-Agree kind (left_by kind first entry) (left_by kind second entry) history agree_behind
          legal.1,
    )
