-- Claims judged one by one: the entries of those that were right so far, the commands that each worker has left behind them, and the
-- bindings that the entries leave. From these the next claim is judged, and at the end all of them.
use Rattle.std.proofs.Common.{◌≡◌, ◌≢◌, ℕ, ◌+◌, ◌<◌, ◌≤◌, ◌==◌, cond, None, Some, List, [], ◌∷◌, ◌++◌, length, get_or, take, drop, take-append-drop, suc, zero, refl, sym, ◌∙◌, ap, subst, append_assoc, append-nil, add-one, add-zero, arith, inl, inr}
use Rattle.std.proofs.Math.ListN.{drop_of_length-le}
use Rattle.std.proofs.lemmas.Bool.{cases_eq, cases_lt, eq-eqb, ne_eqb}
use Rattle.std.proofs.lemmas.Grind.{common_steps}
use Rattle.std.proofs.lemmas.List.{drop_more}
use Rattle.std.proofs.lemmas.List.Sums.{sum_by_push}
use Rattle.std.specs.List.{slice_get}
use Rattle.rht_words.specs.declared.config.Kind.{Kind}
use Rattle.rht_model.specs.declared.history.Call.{Call}
use Rattle.rht_model.specs.declared.history.Entry.{Entry}
use Rattle.rht_model.specs.Multimap.{Port, unbound}
use Rattle.rht_model.specs.Listing.{Lists}
use Rattle.rht_model.specs.Histories.{IsLegalAt, left_by, bindings_left}
use Rattle.rht_model.proofs.LongerHistories.{IsLegalFrom-push, bindings_left-append}
use Rattle.rht_check.specs.Claims.{Told, commands_of, claims_of, command_behind, entry_of, IsEntryOf, AreEntriesOf}
use Rattle.rht_check.specs.CommandsLeft.{Left, left_of, TakesCommand, IsFirstLeft}
use Rattle.rht_check.specs.Updates.{owners_at}
use Rattle.rht_check.specs.Verdicts.{AreRight, IsReached, IsExtra, IsWrong, IsUnfinished, IsAccepted}

-- ---- one claim more

-- a claim of a worker is counted with those before it, and one of another worker isn't
pub claims_of-own : (worker : ℕ) (claims : List Told) (told : Told) → told.0 ≡ worker
    → claims_of worker (claims ++ told ∷ []) ≡ claims_of worker claims + 1
claims_of-own worker claims told own =
    sum_by_push (λ t. cond (t.0 == worker) 1 0) claims told
    ∙ ap (λ b. claims_of worker claims + cond b 1 0) (eq-eqb told.0 worker own)

pub claims_of-other : (worker : ℕ) (claims : List Told) (told : Told) → told.0 ≢ worker
    → claims_of worker (claims ++ told ∷ []) ≡ claims_of worker claims
claims_of-other worker claims told other =
    sum_by_push (λ t. cond (t.0 == worker) 1 0) claims told
    ∙ ap (λ b. claims_of worker claims + cond b 1 0) (ne_eqb told.0 worker other)
    ∙ add-zero (claims_of worker claims)

-- By induction over the claims: the entry of one claim more stands behind the others.
pub AreEntriesOf-push : (commands : List (ℕ × Call)) (before claims : List Told) (entries : List Entry) (told : Told) (entry : Entry)
    → AreEntriesOf commands before claims entries → IsEntryOf commands (before ++ claims) told entry
    → AreEntriesOf commands before (claims ++ told ∷ []) (entries ++ entry ∷ [])
AreEntriesOf-push commands before [] [] told entry given is =
    (subst (λ l. IsEntryOf commands l told entry) (append-nil before) is, tt)
AreEntriesOf-push commands before [] (first ∷ entries) told entry given is = absurd given
AreEntriesOf-push commands before (claim ∷ claims) [] told entry given is = absurd given
AreEntriesOf-push commands before (claim ∷ claims) (first ∷ entries) told entry given is = (
  given.0,
  AreEntriesOf-push commands (before ++ claim ∷ []) claims entries told entry given.1
      (subst (λ l. IsEntryOf commands l told entry) (sym (append_assoc before (claim ∷ []) claims)) is),
)

-- ---- what stands at a place of a list

-- what is left of a list begins with what stands at its place
pub slice_get-of_rest : {X : Type 0} (xs : List X) (n : ℕ) (x : X) (rest : List X) → drop n xs ≡ x ∷ rest
    → (slice_get xs n ≡ Some x) × (drop (suc n) xs ≡ rest)
slice_get-of_rest [] zero x rest is = absurd (cc)
slice_get-of_rest [] (suc n) x rest is = absurd (cc)
slice_get-of_rest (y ∷ ys) zero x rest is = (cc, cc)
slice_get-of_rest (y ∷ ys) (suc n) x rest is = slice_get-of_rest ys n x rest is

-- and where nothing is left nothing stands there
pub slice_get-of_none : {X : Type 0} (xs : List X) (n : ℕ) → drop n xs ≡ [] → (slice_get xs n ≡ None) × (length xs ≤ n)
slice_get-of_none [] zero none = (refl, omega arith)
slice_get-of_none [] (suc n) none = (refl, omega arith)
slice_get-of_none (y ∷ ys) zero none = absurd (cc)
slice_get-of_none (y ∷ ys) (suc n) none =
    let behind = slice_get-of_none ys n none in (behind.0, omega (arith, behind.1))

-- a list is what stands before a place, what stands there, and what stands behind it
pub parts_at : {X : Type 0} (xs : List X) (i : ℕ) (x : X) → i < length xs → x ≡ get_or xs i x
    → xs ≡ take i xs ++ x ∷ drop (i + 1) xs
parts_at xs i x within is =
    sym (take-append-drop i xs)
    ∙ ap (λ l. take i xs ++ l) (drop_more xs i x within ∙ ap (λ y. y ∷ drop (i + 1) xs) (sym is))

-- so many claims stand before a place
pub length_before : {X : Type 0} (xs : List X) (i : ℕ) → i < length xs → i + 1 ≡ length (take i xs) + 1
length_before xs i within = grind (arith, common_steps)

module _ (kind : Kind) (commands : List (ℕ × Call)) where
  -- These claims are right; so many commands are left to each worker, and these bindings are left.
  pub record AreJudged (claims : List Told) (left : Left) (bindings : List (Port × List ℕ)) : Type 0 where
    pub entries : List Entry
    pub right : AreRight kind commands claims entries
    pub left_is : (worker : ℕ) → left_of left worker ≡ drop (claims_of worker claims) (commands_of worker commands)
    pub bound : owners_at bindings ≡ bindings_left kind unbound entries

  -- no claim is judged yet
  pub AreJudged-none : (left : Left) (bindings : List (Port × List ℕ))
      → ((worker : ℕ) → left_of left worker ≡ commands_of worker commands) → owners_at bindings ≡ unbound
      → AreJudged [] left bindings
  AreJudged-none left bindings all none = record {
    entries = [];
    right = record { given = tt; legal = tt };
    left_is = all;
    bound = none;
  }

  module _ (claims : List Told) (told : Told) (before : Left) (bindings : List (Port × List ℕ))
      (judged : AreJudged claims before bindings) where
    -- how many claims of the worker stand before this one
    abbrev place : ℕ
    place = claims_of told.0 claims

    -- it is the next of all claims
    module _ (all behind : List Told) (number : ℕ) (parts : all ≡ claims ++ told ∷ behind) (counted : number ≡ length claims + 1) where
      abbrev reached : IsReached kind commands all number
      reached = record {
        before = claims;
        told = told;
        behind = behind;
        entries = judged.entries;
        parts = parts;
        counted = counted;
        right = judged.right;
      }

      -- its worker has no command left
      pub extra : left_of before told.0 ≡ [] → IsExtra kind commands all number
      extra none = record {
        at = reached;
        none = (slice_get-of_none (commands_of told.0 commands) place (sym (judged.left_is told.0) ∙ none)).0;
      }

    module _ (call : Call) (after : Left) (taken : TakesCommand before after told.0 call) where
      abbrev entry : Entry
      entry = entry_of told call

      -- the command that was taken is the claim's
      rest : (command_behind commands claims told ≡ Some call)
          × (drop (suc place) (commands_of told.0 commands) ≡ left_of after told.0)
      rest = slice_get-of_rest (commands_of told.0 commands) place call (left_of after told.0)
          (sym (judged.left_is told.0) ∙ taken.taken)

      -- its entry isn't legal behind the others
      pub wrong : (all behind : List Told) (number : ℕ) → all ≡ claims ++ told ∷ behind → number ≡ length claims + 1
          → ¬ IsLegalAt kind (owners_at bindings) entry → IsWrong kind commands all number
      wrong all behind number parts counted illegal = record {
        at = reached all behind number parts counted;
        call = call;
        given = rest.0;
        illegal = λ legal.
            illegal (subst (λ b. IsLegalAt kind b entry) (sym judged.bound)
            (((IsLegalFrom-push kind unbound judged.entries entry).0 legal).1));
      }

      -- it is legal with its entry, and then one claim more is judged
      pub AreJudged-push : (new : List (Port × List ℕ)) → IsLegalAt kind (owners_at bindings) entry
          → owners_at new ≡ left_by kind (owners_at bindings) entry
          → AreJudged (claims ++ told ∷ []) after new
      AreJudged-push new legal goes_on = record {
        entries = judged.entries ++ entry ∷ [];
        right = record {
          given = AreEntriesOf-push commands [] claims judged.entries told entry judged.right.given (rest.0, refl);
          legal = (IsLegalFrom-push kind unbound judged.entries entry).1
              (judged.right.legal, subst (λ b. IsLegalAt kind b entry) judged.bound legal);
        };
        left_is = λ worker. elim (cases_eq worker told.0) [
          | inl own ↦
              subst (λ w. left_of after w ≡ drop (claims_of w (claims ++ told ∷ [])) (commands_of w commands)) (sym own)
              (sym rest.1
              ∙ ap (λ n. drop n (commands_of told.0 commands)) (sym (claims_of-own told.0 claims told refl ∙ add-one place)))
          | inr other ↦
              taken.others worker other ∙ judged.left_is worker
              ∙ ap (λ n. drop n (commands_of worker commands)) (sym (claims_of-other worker claims told (λ same. other (sym same))))
        ];
        bound = goes_on ∙ ap (λ b. left_by kind b entry) judged.bound ∙ sym (bindings_left-append kind unbound judged.entries (entry ∷ []));
      }

  module _ (claims : List Told) (left : Left) (bindings : List (Port × List ℕ)) (judged : AreJudged claims left bindings) where
    -- a worker without commands left has no more of them than claims
    no_more : (worker : ℕ) → left_of left worker ≡ [] → length (commands_of worker commands) ≤ claims_of worker claims
    no_more worker none =
        (slice_get-of_none (commands_of worker commands) (claims_of worker claims) (sym (judged.left_is worker) ∙ none)).1

    -- and one that has some left has more
    some_more : (worker : ℕ) → left_of left worker ≢ [] → claims_of worker claims < length (commands_of worker commands)
    some_more worker some =
        elim (cases_lt (claims_of worker claims) (length (commands_of worker commands))) [
          | inl more ↦ more
          | inr all ↦ absurd (some (judged.left_is worker ∙ drop_of_length-le (commands_of worker commands) all))
        ]

    pub unfinished : (worker : ℕ) → IsFirstLeft left worker → IsUnfinished kind commands claims worker
    unfinished worker is = record {
      entries = judged.entries;
      right = judged.right;
      more = some_more worker is.some;
      first = λ other before. no_more other (is.first other before);
    }

    pub accepted : (pairs : List (Port × List ℕ)) → ((worker : ℕ) → left_of left worker ≡ [])
        → Lists pairs (owners_at bindings) → IsAccepted kind commands claims pairs
    accepted pairs none listed = record {
      entries = judged.entries;
      right = judged.right;
      all = λ worker. no_more worker (none worker);
      listed = subst (Lists pairs) judged.bound listed;
    }
