-- The entries of claims, told otherwise: each worker's are its first commands in their order; they are all of them where the worker has
-- no more commands than claims.
use Rattle.std.proofs.Common.{◌≡◌, ◌≢◌, ℕ, ◌+◌, ◌-◌, ◌<◌, ◌≤◌, Some, None, List, [], ◌∷◌, ◌++◌, length, map, drop, suc, zero, refl, sym, ◌∙◌, ap, subst, append_assoc, append-nil, length-append, add-one, arith, inl, inr}
use Rattle.std.proofs.Math.ListN.{drop_of_length-le}
use Rattle.std.proofs.lemmas.Bool.{cases_eq, eq-eqb, ne_eqb}
use Rattle.std.proofs.lemmas.List.{nil_from_length}
use Rattle.std.specs.List.{slice_get}
use Rattle.rht_words.specs.declared.config.Kind.{Kind}
use Rattle.rht_model.specs.declared.history.Call.{Call}
use Rattle.rht_model.specs.declared.history.Entry.{Entry}
use Rattle.rht_model.specs.Multimap.{Port, unbound}
use Rattle.rht_model.specs.Listing.{Lists}
use Rattle.rht_model.specs.Histories.{bindings_left}
use Rattle.rht_check.specs.Claims.{Told, commands_of, claims_of, command_behind, entry_of, IsEntryOf, AreEntriesOf}
use Rattle.rht_check.specs.Verdicts.{IsAccepted}
use Rattle.rht_check.specs.Laws.{told_in, answered_by, IsWholeHistory}
use Rattle.rht_check.proofs.JudgedClaims.{claims_of-own, claims_of-other, slice_get-of_rest, slice_get-of_none}

-- what stands at a place is the first of what is left from there on
slice_get-rest : {X : Type 0} (xs : List X) (n : ℕ) (x : X) → slice_get xs n ≡ Some x → drop n xs ≡ x ∷ drop (suc n) xs
slice_get-rest [] n x is = absurd (cc)
slice_get-rest (y ∷ ys) zero x is = ap (λ v. v ∷ ys) (let same : y ≡ x = cc in same)
slice_get-rest (y ∷ ys) (suc n) x is = slice_get-rest ys n x is

-- an entry of a worker comes before those behind it, and one of another worker is left out
answered_own : (worker : ℕ) (entry : Entry) (entries : List Entry) → entry.caller + 1 ≡ worker
    → answered_by worker (entry ∷ entries) ≡ entry.call ∷ answered_by worker entries
answered_own worker entry entries same = rw (eq-eqb (entry.caller + 1) worker same) refl

answered_other : (worker : ℕ) (entry : Entry) (entries : List Entry) → entry.caller + 1 ≢ worker
    → answered_by worker (entry ∷ entries) ≡ answered_by worker entries
answered_other worker entry entries differs = rw (ne_eqb (entry.caller + 1) worker differs) refl

module _ (commands : List (ℕ × Call)) (no_first : commands_of 0 commands ≡ []) where
  -- a claim with a command is of a worker that is counted from 1
  counted : (before : List Told) (told : Told) (call : Call) → command_behind commands before told ≡ Some call → 0 < told.0
  counted before told call given =
      elim (cases_eq told.0 0) [
        | inl none ↦
            let gone : None ≡ Some call =
            sym (ap (λ w. slice_get (commands_of w commands) (claims_of w before)) none
            ∙ ap (λ cs. slice_get cs (claims_of 0 before)) no_first) ∙ given in
            absurd (cc)
        | inr some ↦ omega arith
      ]

  -- the caller of its entry is the worker
  worker_in : (before : List Told) (told : Told) (entry : Entry) → IsEntryOf commands before told entry → entry.caller + 1 ≡ told.0
  worker_in before told entry is =
      let some = counted before told entry.call is.0 in
      let caller : entry.caller ≡ told.0 - 1 = ap (λ (e : Entry). e.caller) is.1 in
      omega arith

  told_in-entry : (before : List Told) (told : Told) (entry : Entry) → IsEntryOf commands before told entry → told_in entry ≡ told
  told_in-entry before told entry is =
      ap (λ w. (w, entry.reply, entry.owners)) (worker_in before told entry is)
      ∙ ap (λ (e : Entry). (told.0, e.reply, e.owners)) is.1

  -- By induction over the claims: their entries are the claims.
  pub told_in-entries : (before claims : List Told) (entries : List Entry) → AreEntriesOf commands before claims entries
      → map told_in entries ≡ claims
  told_in-entries before [] [] given = refl
  told_in-entries before [] (entry ∷ entries) given = absurd given
  told_in-entries before (told ∷ claims) [] given = absurd given
  told_in-entries before (told ∷ claims) (entry ∷ entries) given =
      ap (λ t. t ∷ map told_in entries) (told_in-entry before told entry given.0)
      ∙ ap (λ ts. told ∷ ts) (told_in-entries (before ++ told ∷ []) claims entries given.1)

  -- By induction over the claims: a worker's entries are its next commands.
  pub answered_by-entries : (worker : ℕ) (before claims : List Told) (entries : List Entry) → AreEntriesOf commands before claims entries
      → drop (claims_of worker before) (commands_of worker commands)
      ≡ answered_by worker entries ++ drop (claims_of worker (before ++ claims)) (commands_of worker commands)
  answered_by-entries worker before [] [] given =
      ap (λ l. drop (claims_of worker l) (commands_of worker commands)) (sym (append-nil before))
  answered_by-entries worker before [] (entry ∷ entries) given = absurd given
  answered_by-entries worker before (told ∷ claims) [] given = absurd given
  answered_by-entries worker before (told ∷ claims) (entry ∷ entries) given =
      let own = commands_of worker commands in
      let is_worker = worker_in before told entry given.0 in
      let behind = answered_by-entries worker (before ++ told ∷ []) claims entries given.1
      ∙ ap (λ l. answered_by worker entries ++ drop (claims_of worker l) own) (append_assoc before (told ∷ []) claims) in
      elim (cases_eq told.0 worker) [
        | inl same ↦
            let here : slice_get own (claims_of worker before) ≡ Some entry.call =
            subst (λ w. slice_get (commands_of w commands) (claims_of w before) ≡ Some entry.call) same given.0.0 in
            let more : claims_of worker (before ++ told ∷ []) ≡ suc (claims_of worker before) =
            claims_of-own worker before told same ∙ add-one (claims_of worker before) in
            slice_get-rest own (claims_of worker before) entry.call here
            ∙ ap (λ l. entry.call ∷ l) (ap (λ n. drop n own) (sym more) ∙ behind)
            ∙ ap (λ l. l ++ drop (claims_of worker (before ++ told ∷ claims)) own)
            (sym (answered_own worker entry entries (is_worker ∙ same)))
        | inr other ↦
            ap (λ n. drop n own) (sym (claims_of-other worker before told other)) ∙ behind
            ∙ ap (λ l. l ++ drop (claims_of worker (before ++ told ∷ claims)) own)
            (sym (answered_other worker entry entries (λ same. other (sym is_worker ∙ same))))
      ]

  -- By induction over the entries: where each worker's are its next commands, they are entries of what they claim.
  pub entries_given : (before : List Told) (entries : List Entry)
      → ((worker : ℕ) → drop (claims_of worker before) (commands_of worker commands) ≡ answered_by worker entries)
      → AreEntriesOf commands before (map told_in entries) entries
  entries_given before [] in_order = tt
  entries_given before (entry ∷ entries) in_order =
      let told = told_in entry in
      let own = commands_of told.0 commands in
      let here = in_order told.0 ∙ answered_own told.0 entry entries refl in
      let parts = slice_get-of_rest own (claims_of told.0 before) entry.call (answered_by told.0 entries) here in
      let caller : entry.caller ≡ told.0 - 1 = omega arith in
      let is : entry ≡ entry_of told entry.call =
      ap (λ n. record { caller = n; call = entry.call; reply = entry.reply; owners = entry.owners }) caller in (
        (parts.0, is),
        entries_given (before ++ told ∷ []) entries (λ worker. elim (cases_eq told.0 worker) [
          | inl same ↦
              subst (λ w. drop (claims_of w (before ++ told ∷ [])) (commands_of w commands) ≡ answered_by w entries) same
              (ap (λ n. drop n own) (claims_of-own told.0 before told refl ∙ add-one (claims_of told.0 before)) ∙ parts.1)
          | inr other ↦
              ap (λ n. drop n (commands_of worker commands)) (claims_of-other worker before told other)
              ∙ in_order worker ∙ answered_other worker entry entries other
        ]),
      )

  -- where all commands of a worker are answered, it has no more of them than claims
  all_claimed : (claims : List Told) (entries : List Entry) → AreEntriesOf commands [] claims entries
      → (worker : ℕ) → answered_by worker entries ≡ commands_of worker commands
      → length (commands_of worker commands) ≤ claims_of worker claims
  all_claimed claims entries given worker in_order =
      let own = commands_of worker commands in
      let left = drop (claims_of worker claims) own in
      let parts = answered_by-entries worker [] claims entries given ∙ ap (λ l. l ++ left) in_order in
      let none : left ≡ [] = nil_from_length left (omega (arith, ap (λ (l : List Call). length l) parts, length-append own left)) in
      (slice_get-of_none own (claims_of worker claims) none).1

  module _ (kind : Kind) (claims : List Told) (pairs : List (Port × List ℕ)) where
    -- a history that is accepted is a whole one
    pub whole_accepted : IsAccepted kind commands claims pairs
        → (entries : List Entry) × IsWholeHistory kind commands claims entries × Lists pairs (bindings_left kind unbound entries)
    whole_accepted accepted =
        let entries = accepted.entries in
        let given = accepted.right.given in (
          entries,
          record {
            told = told_in-entries [] claims entries given;
            in_order = λ worker.
                sym (answered_by-entries worker [] claims entries given
                ∙ ap (λ l. answered_by worker entries ++ l) (drop_of_length-le (commands_of worker commands) (accepted.all worker))
                ∙ append-nil (answered_by worker entries));
            legal = accepted.right.legal;
          },
          accepted.listed,
        )

    -- and a whole history is accepted
    pub accepted_whole : (entries : List Entry) → IsWholeHistory kind commands claims entries
        → Lists pairs (bindings_left kind unbound entries) → IsAccepted kind commands claims pairs
    accepted_whole entries whole listed =
        let given = subst (λ l. AreEntriesOf commands [] l entries) whole.told
        (entries_given [] entries (λ worker. sym (whole.in_order worker))) in
        record {
          entries = entries;
          right = record { given = given; legal = whole.legal };
          all = λ worker. all_claimed claims entries given worker (whole.in_order worker);
          listed = listed;
        }
