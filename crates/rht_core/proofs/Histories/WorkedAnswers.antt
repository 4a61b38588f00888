-- Some commands of one worker with how they ended, as the definition has it: answered in their order, and not otherwise.
use Rattle.std.proofs.Common.{false, true, List, [], ◌∷◌, refl, ap}
use Rattle.rht_words.specs.declared.config.Kind.TheVariants.{Single}
use Rattle.rht_model.specs.declared.history.Call.{Call}
use Rattle.rht_model.specs.declared.history.Call.TheVariants.{Bind, Find, All, Release, Rebind, Work}
use Rattle.rht_model.specs.declared.history.Reply.TheVariants.{Bound, Exists, Found, Missing, Listed, Released, Rebound, Busy, Idle}
use Rattle.rht_model.specs.Multimap.{unbound}
use Rattle.rht_model.specs.Answers.{Answer, is_refusal}
use Rattle.rht_model.specs.Endings.{Ending, plain_ending, replied}
use Rattle.rht_core.specs.NeverRefused.{NoneRefused, EndAsAnswered}

-- the port goes to the first owner, stays with it, and is handed on; what `work` answers isn't looked at, nor is a kick
abbrev calls : List Call
calls =
    Bind 5 10 false ∷ Bind 5 11 false ∷ Work ∷ Find 5 ∷ Rebind 5 10 12 ∷ All 5 ∷ Release 5 12 ∷ Find 5 ∷ []

abbrev endings : List Ending
endings =
    plain_ending (Bound true) ∷ plain_ending (Exists 10) ∷ plain_ending Idle ∷ plain_ending (Found 10) ∷ plain_ending Rebound
    ∷ replied (Listed 1) (12 ∷ []) [] ∷ plain_ending (Released true) ∷ plain_ending Missing ∷ []

answered : EndAsAnswered Single unbound calls endings
answered = (refl, (refl, (tt, (refl, (refl, (refl, (refl, (refl, tt))))))))

-- a bind isn't answered so that was refused
refused_bind : EndAsAnswered Single unbound (Bind 5 10 false ∷ []) (plain_ending (Busy 0 1) ∷ []) → ⊥
refused_bind is = let same = ap (λ (a : Answer). is_refusal a.reply) is.0 in absurd (cc)

-- nor is a look-up that found what is bound later
early_find : EndAsAnswered Single unbound (Find 5 ∷ Bind 5 10 false ∷ []) (plain_ending (Found 10) ∷ plain_ending (Bound false) ∷ []) → ⊥
early_find is = let same = ap (λ (a : Answer). a.reply) is.0 in absurd (cc)

-- a refused bind is a refused one, and a command without an ending isn't answered
refused_too : NoneRefused (Bind 5 10 false ∷ []) (plain_ending (Busy 0 1) ∷ []) → ⊥
refused_too none = let answers = none.0 refl in absurd (cc)

unanswered : EndAsAnswered Single unbound (Find 5 ∷ []) [] → ⊥
unanswered is = is
