-- A history is legal exactly where its parts are, each on what the parts before it leave.
-- So a beginning of a legal history is legal, one entry more is looked at on what the others leave, and
-- what comes behind a point is changed there as it would be on the bindings of that point.
use Rattle.std.proofs.Common.{◌≡◌, ◌↔◌, List, [], ◌∷◌, ◌++◌, refl}
use Rattle.rht_words.specs.declared.config.Kind.{Kind}
use Rattle.rht_model.specs.declared.history.Entry.{Entry}
use Rattle.rht_model.specs.Multimap.{Multimap, Agree}
use Rattle.rht_model.specs.Histories.{IsLegalAt, IsLegalFrom, left_by, bindings_left}
use Rattle.rht_model.proofs.Agreements.{IsLegalFrom-Agree, bindings_left-Agree}

-- By induction over the first part: the second goes on from what the first leaves.
pub bindings_left-append : (kind : Kind) (bindings : Multimap) (first second : List Entry)
    → bindings_left kind bindings (first ++ second) ≡ bindings_left kind
    (bindings_left kind bindings first) second
bindings_left-append kind bindings [] second = refl
bindings_left-append kind bindings (entry ∷ first) second =
    bindings_left-append kind (left_by kind bindings entry) first second

-- By induction over the first part: both parts of a legal history are legal where they stand.
pub IsLegalFrom-parts : (kind : Kind) (bindings : Multimap) (first second : List Entry)
    → IsLegalFrom kind bindings (first ++ second)
    → IsLegalFrom kind bindings first × IsLegalFrom kind (bindings_left kind bindings first) second
IsLegalFrom-parts kind bindings [] second legal = (tt, legal)
IsLegalFrom-parts kind bindings (entry ∷ first) second legal =
    let parts = IsLegalFrom-parts kind (left_by kind bindings entry) first second legal.1 in
    ((legal.0, parts.0), parts.1)

-- By induction over the first part: two parts that are legal where they stand are a legal history.
pub IsLegalFrom-append : (kind : Kind) (bindings : Multimap) (first second : List Entry)
    → IsLegalFrom kind bindings first → IsLegalFrom kind (bindings_left kind bindings first) second
    → IsLegalFrom kind bindings (first ++ second)
IsLegalFrom-append kind bindings [] second legal behind = behind
IsLegalFrom-append kind bindings (entry ∷ first) second legal behind =
    (legal.0, IsLegalFrom-append kind (left_by kind bindings entry) first second legal.1 behind)

-- one entry more is looked at on what the others leave
pub IsLegalFrom-push : (kind : Kind) (bindings : Multimap) (history : List Entry) (entry : Entry)
    → IsLegalFrom kind bindings (history ++ entry ∷ [])
    ↔ (IsLegalFrom kind bindings history × IsLegalAt kind (bindings_left kind bindings history) entry)
IsLegalFrom-push kind bindings history entry = (
  λ legal. let parts = IsLegalFrom-parts kind bindings history (entry ∷ []) legal in (parts.0, parts.1.0),
  λ parts. IsLegalFrom-append kind bindings history (entry ∷ []) parts.0 (parts.1, tt),
)

module _ (kind : Kind) (bindings : Multimap) (history one other : List Entry) where
  -- the bindings at the point where the two ways to go on part
  abbrev point : Multimap
  point = bindings_left kind bindings history

  -- a legal way to go on may stand for another one
  pub IsLegalFrom-behind : (IsLegalFrom kind point one → IsLegalFrom kind point other)
      → IsLegalFrom kind bindings (history ++ one) → IsLegalFrom kind bindings (history ++ other)
  IsLegalFrom-behind leads legal =
      let parts = IsLegalFrom-parts kind bindings history one legal in
      IsLegalFrom-append kind bindings history other parts.0 (leads parts.1)

  -- ways to go on that leave the same bindings there leave the same at the end
  pub bindings_left-behind : Agree (bindings_left kind point one) (bindings_left kind point other)
      → Agree (bindings_left kind bindings (history ++ one)) (bindings_left kind bindings (history ++ other))
  bindings_left-behind agree =
      rw (
        bindings_left-append kind bindings history one,
        bindings_left-append kind bindings history
            other,
      ) agree

module _ (kind : Kind) (bindings : Multimap) (first second more : List Entry) where
  -- both histories leave the same bindings
  abbrev AgreeBefore : Type 0
  AgreeBefore = Agree (bindings_left kind bindings first) (bindings_left kind bindings second)

  -- what goes on legally behind the one does so behind the other
  pub IsLegalFrom-alike : AgreeBefore → IsLegalFrom kind bindings second
      → IsLegalFrom kind bindings (first ++ more) → IsLegalFrom kind bindings (second ++ more)
  IsLegalFrom-alike agree legal goes_on =
      let behind = (IsLegalFrom-parts kind bindings first more goes_on).1 in
      IsLegalFrom-append kind bindings second more legal
      (IsLegalFrom-Agree kind (bindings_left kind bindings first) (bindings_left kind bindings second)
      more agree behind)

  -- and leaves the same bindings
  pub bindings_left-alike : AgreeBefore
      → Agree (bindings_left kind bindings (first ++ more)) (bindings_left kind bindings (second ++ more))
  bindings_left-alike agree =
      rw (bindings_left-append kind bindings first more, bindings_left-append kind bindings second more)
      (bindings_left-Agree kind (bindings_left kind bindings first) (bindings_left kind bindings second)
      more agree)
