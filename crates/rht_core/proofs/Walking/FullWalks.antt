-- The calls of a full walk walked one table, up to where each goes on; so what they show together is what it shows.
use Rattle.std.proofs.Common.{◌≢◌, ◌≡◌, ℕ, ◌+◌, ◌<◌, ◌≤◌, List, [], ◌∷◌, ◌++◌, length, Option, Some, None, refl, sym, ◌∙◌, ap, subst, inl, inr, arith}
use Rattle.std.specs.List.{AllByRecursion, flat_map}
use Rattle.std.proofs.lemmas.Bool.{cases_lt}
use Rattle.std.proofs.lemmas.List.{append-nil, map-append}
use Rattle.rht_words.specs.declared.env.Env.{Env}
use Rattle.rht_words.specs.Members.{In, IsDistinct}
use Rattle.rht_words.proofs.EachElement.{AllByRecursion-append, AllByRecursion-weaker}
use Rattle.rht_words.proofs.Members.{not_in_from, in_and_not, In-append_left, In-append_right, In-append_cases}
use Rattle.rht_model.specs.declared.history.Cursor.{Cursor}
use Rattle.rht_walk.specs.WalkLaws.{first_bucket, Fits}
use Rattle.rht_core.specs.declared.event.Event.{Event}
use Rattle.rht_core.specs.Shown.{AreWalks, AreAmong, ends_behind}
use Rattle.rht_core.specs.Traces.{Past, AreInOrder, behind_call}
use Rattle.rht_ghost.proofs.Theory.Ghosts.{Ghost}
use Rattle.rht_ghost.proofs.Theory.Wholes.{hash_in}
use Rattle.rht_core.proofs.Tracing.StepsInTraces.{from-behind}
use Rattle.rht_core.proofs.Walking.WalkFacts.{ports_of, SaidOf, EndKnown, HasWalkedTo}
use Rattle.rht_core.proofs.Walking.WalksAtEvents.{WasLast, AreCounted, IsMissedIn, IsBoundIn, HasWalked, PastWalks}

-- ---- calls in order

-- these calls come one behind the other, from this event on
abbrev pub AreApart : ℕ → List Past → Type 0
AreApart from [] = Unit {0}
AreApart from (past ∷ pasts) = (from ≤ past.begin) × (past.begin < behind_call past) × AreApart (behind_call past) pasts

apart-sooner : (from sooner : ℕ) (pasts : List Past) → sooner ≤ from → AreApart from pasts → AreApart sooner pasts
apart-sooner from sooner [] less apart = tt
apart-sooner from sooner (past ∷ pasts) less apart = (let first = apart.0 in omega (arith, first, less), apart.1, apart.2)

-- so do those that are among such calls
pub among-apart : (from : ℕ) (pasts all : List Past) → AreInOrder from all → AreAmong pasts all → AreApart from pasts
among-apart from [] all order among = tt
among-apart from (past ∷ pasts) [] order among = absurd among
among-apart from (past ∷ pasts) (one ∷ all) order (inl here) =
    let until = from-behind (one.begin + 1) one.steps order.1 in
    let later = among-apart (behind_call one) pasts all order.2 here.1 in
    subst (λ p. AreApart from (p ∷ pasts)) (sym here.0) (order.0, omega (arith, until), later)
among-apart from (past ∷ pasts) (one ∷ all) order (inr there) =
    let until = from-behind (one.begin + 1) one.steps order.1 in
    let first = order.0 in
    apart-sooner (behind_call one) from (past ∷ pasts) (omega (arith, until, first))
    (among-apart (behind_call one) (past ∷ pasts) all order.2 there)

pub among-all : (P : Past → Type 0) (pasts all : List Past) → AllByRecursion P all → AreAmong pasts all → AllByRecursion P pasts
among-all P [] all each among = tt
among-all P (past ∷ pasts) [] each among = absurd among
among-all P (past ∷ pasts) (one ∷ all) each (inl here) = (subst P (sym here.0) each.0, among-all P pasts all each.1 here.1)
among-all P (past ∷ pasts) (one ∷ all) each (inr there) = among-all P (past ∷ pasts) all each.1 there

-- ---- lists of ports

-- two lists of different numbers, of which each has no element of the other
pub distinct-append : (xs ys : List ℕ) → IsDistinct xs → IsDistinct ys → ((x : ℕ) → In x xs → In x ys → ⊥) → IsDistinct (xs ++ ys)
distinct-append [] ys one other apart = other
distinct-append (x ∷ xs) ys one other apart = (
  not_in_from x (xs ++ ys) (λ i. elim (In-append_cases x xs ys i) [
    | inl l ↦ in_and_not x xs l one.0
    | inr r ↦ apart x (inl refl) r
  ]),
  distinct-append xs ys one.1 other (λ y i. apart y (inr i)),
)

module _ (L : Type 0) (mix : ℕ → ℕ → ℕ → ℕ) (env : Env) (events : List Event) (G : Ghost) (count : ℕ → ℕ)
    (counted : AreCounted L mix env (length events) G count) where
  -- no two tables have one serial
  abbrev pub HaveOwnSerials : Type 0
  HaveOwnSerials = (τ σ : ℕ) → τ < G.attached → σ < G.attached → (G.table τ).serial ≡ (G.table σ).serial → τ ≡ σ

  abbrev Missed : ℕ → ℕ → ℕ → Type 0
  Missed = IsMissedIn L mix env events

  abbrev Bound : ℕ → ℕ → ℕ × ℕ → Type 0
  Bound = IsBoundIn L mix env events

  -- what these calls show together of one table
  pub record AllShown (from : Option Cursor) (begin behind : ℕ) (pairs : List (ℕ × ℕ)) : Type 0 where
    pub table : ℕ
    pub attached : table < G.attached
    pub serial : ℕ
    pub shape : ℕ
    pub serial_is : (G.table table).serial ≡ serial
    pub fits : Fits serial shape from
    pub was_last : WasLast L mix env count begin behind table
    pub shown : (port : ℕ) → first_bucket from ≤ hash_in env mix G port table → SaidOf (Missed begin behind) pairs port
    pub within : (port : ℕ) → In port (ports_of pairs) → first_bucket from ≤ hash_in env mix G port table
    pub distinct : IsDistinct (ports_of pairs)
    pub bound : AllByRecursion (Bound begin behind) pairs

  abbrev pub pairs_in : List Past → List (ℕ × ℕ)
  pairs_in pasts = flat_map (λ (past : Past). past.done.pairs) pasts

  missed_wider : (begin behind begin' behind' port : ℕ) → begin' ≤ begin → behind ≤ behind' → Missed begin behind port
      → Missed begin' behind' port
  missed_wider begin behind begin' behind' port less more was = record {
    at = was.at;
    begun = let begun = was.begun in omega (arith, begun, less);
    before = let before = was.before in omega (arith, before, more);
    none = was.none;
  }

  bound_wider : (begin behind begin' behind' : ℕ) (pair : ℕ × ℕ) → begin' ≤ begin → behind ≤ behind' → Bound begin behind pair
      → Bound begin' behind' pair
  bound_wider begin behind begin' behind' pair less more was = record {
    at = was.at;
    begun = let begun = was.begun in omega (arith, begun, less);
    before = let before = was.before in omega (arith, before, more);
    rest = was.rest;
    is = was.is;
  }

  -- the last call behind which nothing is is one of them, or this event
  pub ends-late : (from : ℕ) (pasts : List Past) → AreApart from pasts → from ≤ ends_behind from pasts
  ends-late from [] apart = omega arith
  ends-late from (past ∷ pasts) apart =
      let later = ends-late (behind_call past) pasts apart.2 in
      let first = apart.0 in
      let begun = apart.1 in
      omega (arith, later, first, begun)

  -- the table of a cursor's serial
  cursor_serial : (serial shape : ℕ) (cursor : Cursor) → Fits serial shape (Some cursor) → cursor.serial ≡ serial
  cursor_serial serial shape cursor fits = fits.0

  -- one call, and the others, which go on where it ended
  module _ (alone : HaveOwnSerials) (from : Option Cursor) (past : Past) (cursor : Cursor) (begin behind : ℕ) (pairs : List (ℕ × ℕ))
      (had : HasWalked L mix env events G count from past (Some cursor)) (begun : past.begin < behind_call past)
      (apart : behind_call past ≤ begin)
      (rest : AllShown (Some cursor) begin behind pairs) (late : behind_call past ≤ behind) (in_time : behind ≤ length events) where
    abbrev walked : HasWalkedTo env mix G (count (behind_call past)) from (Missed past.begin (behind_call past))
        (WasLast L mix env count past.begin (behind_call past)) past.done.pairs (Some cursor)
    walked = had.walked

    few : count (behind_call past) ≤ G.attached
    few =
        let rises = counted.rises (behind_call past) (length events) had.done_by (omega arith) in
        let end = counted.at_end in omega (arith, rises, end)

    same_table : walked.table ≡ rest.table
    same_table =
        let low = walked.attached in
        let less = few in
        alone walked.table rest.table (omega (arith, low, less)) rest.attached
        (walked.serial_is ∙ sym walked.ends.0 ∙ cursor_serial rest.serial rest.shape cursor rest.fits ∙ sym rest.serial_is)

    -- no table was behind it then
    last_then : walked.table + 1 ≡ count (behind_call past)
    last_then =
        let was = rest.was_last in
        let first = was.begun in
        let before = was.before in
        let rises = counted.rises (behind_call past) was.at (omega (arith, apart, first)) (omega (arith, before, in_time)) in
        let last = was.last in
        let low = walked.attached in
        let same = same_table in
        omega (arith, rises, last, low, same)

    known : EndKnown env mix G walked.table (first_bucket from) walked.upto (Missed past.begin (behind_call past)) past.done.pairs
    known = walked.ends.2 last_then

    abbrev hash : ℕ → ℕ
    hash port = hash_in env mix G port walked.table

    rest_hash : (port : ℕ) → hash_in env mix G port rest.table ≡ hash port
    rest_hash port = ap (hash_in env mix G port) (sym same_table)

    pub all_shown : AllShown from past.begin behind (past.done.pairs ++ pairs)
    all_shown =
        let ports = map-append (λ (pair : ℕ × ℕ). pair.0) past.done.pairs pairs in
        let low = walked.attached in
        let less = few in
        record {
          table = walked.table;
          attached = omega (arith, low, less);
          serial = walked.serial;
          shape = walked.shape;
          serial_is = walked.serial_is;
          fits = walked.fits;
          was_last =
              let was = rest.was_last in
              record {
                at = was.at;
                begun = let first = was.begun in omega (arith, first, begun, apart);
                before = was.before;
                last = ap (λ t. t + 1) same_table ∙ was.last;
              };
          shown = λ port least. elim (cases_lt (hash port) walked.upto) [
            | inl below ↦ elim (known.shown port least below) [
              | inl missed ↦ inl (missed_wider past.begin (behind_call past) past.begin behind port (omega arith) late missed)
              | inr there ↦ inr (subst (In port) (sym ports) (In-append_left port (ports_of past.done.pairs) (ports_of pairs) there))
            ]
            | inr above ↦
                let upto = walked.ends.1 in
                let same = rest_hash port in
                elim (rest.shown port (omega (arith, upto, above, same))) [
                  | inl missed ↦ inl (missed_wider begin behind past.begin behind port (omega (arith, begun, apart)) (omega arith) missed)
                  | inr there ↦ inr (subst (In port) (sym ports) (In-append_right port (ports_of past.done.pairs) (ports_of pairs) there))
                ]
          ];
          within = λ port there. elim (In-append_cases port (ports_of past.done.pairs) (ports_of pairs) (subst (In port) ports there)) [
            | inl mine ↦ (known.within port mine).0
            | inr others ↦
                let high = rest.within port others in
                let upto = walked.ends.1 in
                let same = rest_hash port in
                let low = walked.low in
                omega (arith, high, upto, same, low)
          ];
          distinct = subst IsDistinct (sym ports) (distinct-append (ports_of past.done.pairs) (ports_of pairs) known.distinct rest.distinct
              (λ port mine others.
              let below = (known.within port mine).1 in
              let high = rest.within port others in
              let upto = walked.ends.1 in
              let same = rest_hash port in
              omega (arith, below, high, upto, same)));
          bound = AllByRecursion-append (Bound past.begin behind) past.done.pairs pairs
              (AllByRecursion-weaker (Bound past.begin (behind_call past)) (Bound past.begin behind)
              (λ pair is. bound_wider past.begin (behind_call past) past.begin behind pair (omega arith) late is) past.done.pairs
              had.bound)
              (AllByRecursion-weaker (Bound begin behind) (Bound past.begin behind)
              (λ pair is. bound_wider begin behind past.begin behind pair (omega (arith, begun, apart)) (omega arith) is) pairs rest.bound);
        }

  -- the last call
  last_shown : (from : Option Cursor) (past : Past) → HasWalked L mix env events G count from past None
      → AllShown from past.begin (behind_call past) (past.done.pairs ++ [])
  last_shown from past had =
      let walked = had.walked in
      let known = walked.ends.2 in
      let low = walked.attached in
      let rises = counted.rises (behind_call past) (length events) had.done_by (omega arith) in
      let end = counted.at_end in
      subst (AllShown from past.begin (behind_call past)) (sym (append-nil past.done.pairs)) (record {
        table = walked.table;
        attached = omega (arith, low, rises, end);
        serial = walked.serial;
        shape = walked.shape;
        serial_is = walked.serial_is;
        fits = walked.fits;
        was_last = walked.ends.0;
        shown = λ port least. known.shown port least (walked.ends.1 port);
        within = λ port there. (known.within port there).0;
        distinct = known.distinct;
        bound = had.bound;
      })

  -- all calls; of several no two tables may have one serial
  pub calls_shown : (from : Option Cursor) (past : Past) (pasts : List Past) → (pasts ≢ [] → HaveOwnSerials) → AreWalks from (past ∷ pasts)
      → AllByRecursion (PastWalks L mix env events G count) (past ∷ pasts) → AreApart past.begin (past ∷ pasts)
      → ends_behind (behind_call past) pasts ≤ length events
      → AllShown from past.begin (ends_behind (behind_call past) pasts) (pairs_in (past ∷ pasts))
  calls_shown from past [] own walks each apart in_time =
      last_shown from past (each.0 from walks.limit walks.len None walks.call walks.reply)
  calls_shown from past (next ∷ pasts) own (cursor, walk, walks) each apart in_time =
      let alone = own (λ (none : next ∷ pasts ≡ []). absurd (cc)) in
      let behind = ends_behind (behind_call next) pasts in
      let later = apart.2 in
      let rest = calls_shown (Some cursor) next pasts (λ some. alone) walks each.1 (omega arith, later.1, later.2) in_time in
      let ends_late = ends-late (behind_call next) pasts later.2 in
      let first = later.0 in
      let begun = later.1 in
      all_shown alone from past cursor next.begin behind (pairs_in (next ∷ pasts))
      (each.0 from walk.limit walk.len (Some cursor) walk.call walk.reply) apart.1 later.0 rest
      (omega (arith, ends_late, first, begun)) in_time
