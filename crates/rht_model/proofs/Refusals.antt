-- An entry that is answered leaves the bindings after its call, and one that is refused leaves them as they were.
-- No answer is a refusal, and every reply with which a call may be refused is one.
use Rattle.std.proofs.Common.{◌≡◌, ℕ, ◌==◌, Bool, true, false, List, [], ◌∷◌, refl, sym, ◌∙◌, ap, Option}
use Rattle.std.proofs.lemmas.Bool.{cond_both}
use Rattle.std.specs.List.{list_any}
use Rattle.std.specs.Option.{option_map_or}
use Rattle.rht_words.specs.declared.config.Kind.{Kind}
use Rattle.rht_words.specs.declared.config.Kind.TheVariants as kinds
use Rattle.rht_model.specs.declared.history.Call.{Call}
use Rattle.rht_model.specs.declared.history.Call.TheVariants.{Bind, Find, All, Release, Rebind, Walk, Work, Tidy, Count}
use Rattle.rht_model.specs.declared.history.Entry.{Entry}
use Rattle.rht_model.specs.declared.history.Reply.{Reply}
use Rattle.rht_model.specs.declared.history.Reply.TheVariants.{Bound, Released, Absent, Rebound, TooBig, Again, Busy, NoTable, NoNode}
use Rattle.rht_model.specs.Multimap.{Multimap}
use Rattle.rht_model.specs.Answers.{Answer, answer_of, bindings_after, bind_reply, find_reply, release_reply, rebind_reply, is_refusal, MayRefuse, IsBindRefusal, IsRebindRefusal}
use Rattle.rht_model.specs.Histories.{IsAnswered, IsRefused, left_by, without_kick}

is_refusal-bind_reply : (kind : Kind) (owners : List ℕ) → is_refusal (bind_reply kind owners) ≡ false
is_refusal-bind_reply kinds.Single [] = refl
is_refusal-bind_reply kinds.Single (first ∷ others) = refl
is_refusal-bind_reply kinds.Listed owners = refl

is_refusal-find_reply : (owners : List ℕ) → is_refusal (find_reply owners) ≡ false
is_refusal-find_reply [] = refl
is_refusal-find_reply (first ∷ others) = refl

is_refusal-release_reply : (owner : ℕ) (owners : List ℕ) → is_refusal (release_reply owner owners) ≡ false
is_refusal-release_reply owner owners =
    cond_both (list_any (λ o. o == owner) owners) (Released false) Absent (λ reply. is_refusal reply ≡ false)
    (λ bound. refl)
    (λ absent. refl)

is_refusal-rebind_reply : (owner : ℕ) (owners : List ℕ) → is_refusal (rebind_reply owner owners) ≡ false
is_refusal-rebind_reply owner owners =
    cond_both (list_any (λ o. o == owner) owners) Rebound Absent (λ reply. is_refusal reply ≡ false)
    (λ bound. refl)
    (λ absent. refl)

-- whether a call's answer, if it has one, is a refusal
abbrev answers_refusal : Option Answer → Bool
answers_refusal answer = option_map_or (λ a. is_refusal a.reply) answer false

-- no answer is a refusal
pub answers_refusal-answer_of : (kind : Kind) (bindings : Multimap) (call : Call)
    → answers_refusal (answer_of kind bindings call) ≡ false
answers_refusal-answer_of kind bindings (Bind port owner once) = is_refusal-bind_reply kind (bindings port)
answers_refusal-answer_of kind bindings (Find port) = is_refusal-find_reply (bindings port)
answers_refusal-answer_of kind bindings (All port) = refl
answers_refusal-answer_of kind bindings (Release port owner) = is_refusal-release_reply owner (bindings port)
answers_refusal-answer_of kind bindings (Rebind port owner new) = is_refusal-rebind_reply owner
    (bindings port)
answers_refusal-answer_of kind bindings (Walk from limit) = refl
answers_refusal-answer_of kind bindings Work = refl
answers_refusal-answer_of kind bindings Tidy = refl
answers_refusal-answer_of kind bindings Count = refl

-- a kick makes no refusal
is_refusal-without_kick : (reply : Reply) → is_refusal (without_kick reply) ≡ is_refusal reply
is_refusal-without_kick (Bound kick) = refl
is_refusal-without_kick (Released kick) = refl
is_refusal-without_kick reply = refl

-- the refusals of a bind are refusals
is_refusal-bind : (reply : Reply) → IsBindRefusal reply → is_refusal reply ≡ true
is_refusal-bind (TooBig count) refuses = refl
is_refusal-bind (Again table) refuses = refl
is_refusal-bind (Busy root last) refuses = refl
is_refusal-bind (NoTable size) refuses = refl
is_refusal-bind NoNode refuses = refl
is_refusal-bind reply refuses = absurd refuses

-- the refusal of a rebind is one
is_refusal-rebind : (reply : Reply) → IsRebindRefusal reply → is_refusal reply ≡ true
is_refusal-rebind NoNode refuses = refl
is_refusal-rebind reply refuses = absurd refuses

-- every reply with which a call may be refused is a refusal
pub is_refusal-MayRefuse : (call : Call) (reply : Reply) → MayRefuse call reply → is_refusal reply ≡ true
is_refusal-MayRefuse (Bind port owner once) reply refuses = is_refusal-bind reply refuses
is_refusal-MayRefuse (Rebind port owner new) reply refuses = is_refusal-rebind reply refuses
is_refusal-MayRefuse call reply refuses = absurd refuses

-- An entry that is answered leaves the bindings after its call.
pub left_by-IsAnswered : (kind : Kind) (bindings : Multimap) (entry : Entry) → IsAnswered kind bindings entry
    → left_by kind bindings entry ≡ bindings_after kind bindings entry.call
left_by-IsAnswered kind bindings entry answered =
    let no_refusal = sym (ap answers_refusal answered) ∙ answers_refusal-answer_of kind bindings entry.call in
    let answers : is_refusal entry.reply ≡ false = sym (is_refusal-without_kick entry.reply) ∙ no_refusal in
    rw answers refl

-- An entry that is refused leaves the bindings as they were.
pub left_by-IsRefused : (kind : Kind) (bindings : Multimap) (entry : Entry) → IsRefused entry
    → left_by kind bindings entry ≡ bindings
left_by-IsRefused kind bindings entry refused = rw (is_refusal-MayRefuse entry.call entry.reply
    refused.0) refl

-- An answered entry is no refused one.
pub IsAnswered-not_refused : (kind : Kind) (bindings : Multimap) (entry : Entry)
    → IsAnswered kind bindings entry
    → IsRefused entry → ⊥
IsAnswered-not_refused kind bindings entry answered refused =
    let no_refusal = sym (ap answers_refusal answered) ∙ answers_refusal-answer_of kind bindings entry.call in
    let answers : is_refusal entry.reply ≡ false = sym (is_refusal-without_kick entry.reply) ∙ no_refusal in
    let refuses = is_refusal-MayRefuse entry.call entry.reply refused.0 in
    cc
