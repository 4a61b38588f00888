-- Claimed histories and their verdicts, as the definitions have them. They are examples to read beside the definitions; nothing cites
-- them. Two workers share a table of one owner each; the first binds a port and looks it up, and the second binds it in between.
use Rattle.std.proofs.Common.{◌≡◌, ℕ, ◌==◌, ◌≤◌, false, List, [], ◌∷◌, length, get_or, refl, sym, ◌∙◌, ap, subst, unwrap_or, arith, inl, inr}
use Rattle.std.proofs.lemmas.Bool.{cases_Bool}
use Rattle.rht_words.specs.declared.config.Kind.TheVariants.{Single}
use Rattle.rht_model.specs.declared.history.Call.{Call}
use Rattle.rht_model.specs.declared.history.Call.TheVariants.{Bind, Find}
use Rattle.rht_model.specs.declared.history.Reply.{Reply}
use Rattle.rht_model.specs.declared.history.Reply.TheVariants.{Bound, Exists, Found, Missing, NoNode}
use Rattle.rht_model.specs.declared.history.Entry.{Entry}
use Rattle.rht_model.specs.Answers.{plain}
use Rattle.rht_check.specs.Claims.{Told, commands_of, claims_of, entry_of}
use Rattle.rht_check.specs.Verdicts.{AreRight, IsAccepted, IsWrong, IsExtra, IsUnfinished}

abbrev commands : List (ℕ × Call)
commands = (1, Bind 80 100 false) ∷ (1, Find 80) ∷ (2, Bind 80 7 false) ∷ []

-- a claim without owners
abbrev told : ℕ → Reply → Told
told worker reply = (worker, reply, [])

abbrev bound : Told
bound = told 1 (Bound false)

abbrev exists : Told
exists = told 2 (Exists 100)

abbrev found : Told
found = told 1 (Found 100)

abbrev bound_entry : Entry
bound_entry = entry_of bound (Bind 80 100 false)

abbrev exists_entry : Entry
exists_entry = entry_of exists (Bind 80 7 false)

abbrev found_entry : Entry
found_entry = entry_of found (Find 80)

pub AreRight-two : AreRight Single commands (bound ∷ exists ∷ []) (bound_entry ∷ exists_entry ∷ [])
AreRight-two = record { given = ((refl, refl), ((refl, refl), tt)); legal = (inl refl, (inl refl, tt)) }

pub AreRight-three : AreRight Single commands (bound ∷ exists ∷ found ∷ []) (bound_entry ∷ exists_entry ∷ found_entry ∷ [])
AreRight-three = record {
  given = ((refl, refl), ((refl, refl), ((refl, refl), tt)));
  legal = (inl refl, (inl refl, (inl refl, tt)));
}

-- the second worker can't have bound the port too
pub IsWrong-bound_twice : IsWrong Single commands (bound ∷ told 2 (Bound false) ∷ found ∷ []) 2
IsWrong-bound_twice = record {
  at = record {
    before = bound ∷ [];
    told = told 2 (Bound false);
    behind = found ∷ [];
    entries = bound_entry ∷ [];
    parts = refl;
    counted = refl;
    right = record { given = ((refl, refl), tt); legal = (inl refl, tt) };
  };
  call = Bind 80 7 false;
  given = refl;
  illegal = λ legal. elim legal.1.0 [
    | inl answered ↦
        let same : Exists 100 ≡ Bound false = ap (λ answer. (unwrap_or answer (plain Missing)).reply) answered in
        cc
    | inr refused ↦ refused.0
  ];
}

-- a look-up can't be refused
pub IsWrong-refused_look_up : IsWrong Single commands (bound ∷ exists ∷ told 1 NoNode ∷ []) 3
IsWrong-refused_look_up = record {
  at = record {
    before = bound ∷ exists ∷ [];
    told = told 1 NoNode;
    behind = [];
    entries = bound_entry ∷ exists_entry ∷ [];
    parts = refl;
    counted = refl;
    right = AreRight-two;
  };
  call = Find 80;
  given = refl;
  illegal = λ legal. elim legal.1.1.0 [
    | inl answered ↦
        let same : Found 100 ≡ NoNode = ap (λ answer. (unwrap_or answer (plain Missing)).reply) answered in
        cc
    | inr refused ↦ refused.0
  ];
}

-- the second worker has no second command
pub IsExtra-missing : IsExtra Single commands (bound ∷ exists ∷ found ∷ told 2 Missing ∷ []) 4
IsExtra-missing = record {
  at = record {
    before = bound ∷ exists ∷ found ∷ [];
    told = told 2 Missing;
    behind = [];
    entries = bound_entry ∷ exists_entry ∷ found_entry ∷ [];
    parts = refl;
    counted = refl;
    right = AreRight-three;
  };
  none = refl;
}

-- the first worker's look-up isn't claimed
pub IsUnfinished-look_up : IsUnfinished Single commands (bound ∷ exists ∷ []) 1
IsUnfinished-look_up = record {
  entries = bound_entry ∷ exists_entry ∷ [];
  right = AreRight-two;
  more = omega arith;
  first = λ other before.
      let none : other ≡ 0 = omega (arith, before) in
      subst (λ w. length (commands_of w commands) ≤ claims_of w (bound ∷ exists ∷ [])) (sym none) (omega arith);
}

-- ---- the whole history, and what it leaves

abbrev whole : List Told
whole = bound ∷ exists ∷ found ∷ []

-- no worker has more commands than claims
all_claimed : (worker : ℕ) → length (commands_of worker commands) ≤ claims_of worker whole
all_claimed worker =
    elim (cases_Bool (1 == worker)) [
      | inl first ↦ elim (cases_Bool (2 == worker)) [
        | inl second ↦ rw (first, second) (omega arith)
        | inr other ↦ rw (first, other) (omega arith)
      ]
      | inr not_first ↦ elim (cases_Bool (2 == worker)) [
        | inl second ↦ rw (not_first, second) (omega arith)
        | inr other ↦ rw (not_first, other) (omega arith)
      ]
    ]

pub IsAccepted-whole : IsAccepted Single commands whole ((80, 100 ∷ []) ∷ [])
IsAccepted-whole = record {
  entries = bound_entry ∷ exists_entry ∷ found_entry ∷ [];
  right = AreRight-three;
  all = all_claimed;
  listed = record {
    rising = λ k within. absurd (omega arith);
    bound = λ k default within none.
        let first : k ≡ 0 = omega (arith, within) in
        let owners = ap (λ n. (get_or ((80, 100 ∷ []) ∷ []) n default).1) first in
        let both : 100 ∷ [] ≡ [] = sym owners ∙ none in
        cc;
    agree = λ port. elim (cases_Bool (port == 80)) [
      | inl same ↦ rw same refl
      | inr other ↦ rw other refl
    ];
  };
}
