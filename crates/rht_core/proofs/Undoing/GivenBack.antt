-- Bits that a resizing turned an odd number of times by giving back what was a retired table's: one of its operations turned the bit in giving
-- back, and the others turned it an even number of times. Until the table's slot is freed it is known of such an operation that it will have
-- given back.
use Rattle.std.proofs.Common.{◌≡◌, ◌⊎◌, ℕ, ◌+◌, ◌%◌, List, [], ◌∷◌, ◌++◌, Option, Some, None, refl, ap, ◌∙◌, inl, inr, arith}
use Rattle.std.specs.List.{Any}
use Rattle.std.proofs.lemmas.Bool.{cases_eq}
use Rattle.std.proofs.lemmas.List.{append_assoc}
use Rattle.std.proofs.lemmas.List.Quantifiers.{Any-push}
use Rattle.rht_words.specs.declared.geometry.Geometry.{Geometry}
use Rattle.rht_words.specs.Operations.{op_place}
use Rattle.rht_words.proofs.EachElement.{Any-append_left}
use Rattle.rht_model.specs.declared.history.Call.{Call}
use Rattle.rht_model.specs.declared.history.Call.TheVariants.{Work}
use Rattle.rht_core.specs.Traces.{Did}
use Rattle.rht_core.specs.Refused.{turned, turns, IsEvenIn}
use Rattle.rht_core.specs.Returned.{ReturnsSlot, IsTakenDown, IsReturn}
use Rattle.rht_core.proofs.Undoing.TurnedBits.{turned-far, turned-here, turns-push}

-- ---- how often a bit is turned

-- once or never
pub once_or_never : (place bit : ℕ) (did : Did) → (turned place bit did ≡ 0) ⊎ (turned place bit did ≡ 1)
once_or_never place bit did = elim (cases_eq (op_place did.op) place) [
  | inr far ↦ inl (turned-far place bit did far)
  | inl at ↦ parity _ (turned-here place bit did at)
]
  where
    parity : (n : ℕ) → turned place bit did ≡ n % 2 → (turned place bit did ≡ 0) ⊎ (turned place bit did ≡ 1)
    parity n is = elim (cases_eq (n % 2) 0) [
      | inl zero ↦ inl (is ∙ zero)
      | inr other ↦ inr (omega (arith, is, other))
    ]

turns-split : (place bit : ℕ) (before : List Did) (at : Did) (behind : List Did)
    → turns place bit (before ++ at ∷ behind) ≡ turns place bit (before ++ behind) + turned place bit at
turns-split place bit [] at behind = omega arith
turns-split place bit (first ∷ before) at behind = let rest = turns-split place bit before at behind in omega (arith, rest)

module _ (g : Geometry) (words_at : ℕ → List ℕ) where
  -- ---- what is given back stays so

  abbrev down-more : (slot : ℕ) (before behind : List Did) (did : Did) → IsTakenDown g words_at slot before behind
      → IsTakenDown g words_at slot before (behind ++ did ∷ [])
  down-more slot before behind did is = record {
    sooner = is.sooner;
    at = is.at;
    since = is.since;
    split = is.split;
    loads = is.loads;
    retired = is.retired;
    frees = Any-append_left (ReturnsSlot g slot) behind (did ∷ []) is.frees;
  }

  return-more : (place bit : ℕ) (before : List Did) (at : Did) (behind : List Did) (did : Did)
      → IsReturn g words_at place bit before at behind → IsReturn g words_at place bit before at (behind ++ did ∷ [])
  return-more place bit before at behind did (inl slot) = inl slot
  return-more place bit before at behind did (inr (inl (slot, index, clears, there))) =
      inr (inl (
        slot,
        index,
        record {
          index_in = clears.index_in;
          down = down-more slot before behind did clears.down;
          entry = clears.entry;
          stores = clears.stores;
          page = clears.page;
          leads = clears.leads;
          of = clears.of;
        },
        there,
      ))
  return-more place bit before at behind did (inr (inr (slot, page, returns, there, is))) =
      inr (inr (
        slot,
        page,
        record {
          page_in = returns.page_in;
          down = down-more slot before behind did returns.down;
          of = returns.of;
          sets = returns.sets;
        },
        there,
        is,
      ))

  -- ---- what was given back, or will have been

  -- the operation gives back once this slot is freed behind it
  abbrev pub WillReturn : Option ℕ → ℕ → ℕ → List Did → Did → Type 0
  WillReturn None place bit before at = ⊥
  WillReturn (Some slot) place bit before at =
      (behind : List Did) → Any (ReturnsSlot g slot) behind → IsReturn g words_at place bit before at behind

  -- one of these operations turned the bit in giving back, or does so once the slot is freed that is given back now
  pub record HasReturned (now : Option ℕ) (place bit : ℕ) (steps : List Did) : Type 0 where
    pub before : List Did
    pub at : Did
    pub behind : List Did
    pub split : steps ≡ before ++ at ∷ behind
    pub turns_it : turned place bit at ≡ 1
    pub returns : IsReturn g words_at place bit before at behind ⊎ WillReturn now place bit before at

  -- so it is with one operation more
  pub returned-more : (now : Option ℕ) (place bit : ℕ) (steps : List Did) (did : Did) → HasReturned now place bit steps
      → HasReturned now place bit (steps ++ did ∷ [])
  returned-more now place bit steps did has = record {
    before = has.before;
    at = has.at;
    behind = has.behind ++ did ∷ [];
    split = ap (λ all. all ++ did ∷ []) has.split ∙ append_assoc has.before (has.at ∷ has.behind) (did ∷ []);
    turns_it = has.turns_it;
    returns = elim has.returns [
      | inl is ↦ inl (return-more place bit has.before has.at has.behind did is)
      | inr will ↦ inr will
    ];
  }

  -- with one that begins to give back
  pub returned-begun : (slot place bit : ℕ) (steps : List Did) (did : Did) → HasReturned None place bit steps
      → HasReturned (Some slot) place bit (steps ++ did ∷ [])
  returned-begun slot place bit steps did has =
      let more = returned-more None place bit steps did has in
      record {
        before = more.before;
        at = more.at;
        behind = more.behind;
        split = more.split;
        turns_it = more.turns_it;
        returns = elim more.returns [ inl is ↦ inl is | inr none ↦ absurd none ];
      }

  -- and with the one that frees the slot
  pub returned-freed : (slot place bit : ℕ) (steps : List Did) (did : Did) → ReturnsSlot g slot did → HasReturned (Some slot) place bit steps
      → HasReturned None place bit (steps ++ did ∷ [])
  returned-freed slot place bit steps did frees has = record {
    before = has.before;
    at = has.at;
    behind = has.behind ++ did ∷ [];
    split = ap (λ all. all ++ did ∷ []) has.split ∙ append_assoc has.before (has.at ∷ has.behind) (did ∷ []);
    turns_it = has.turns_it;
    returns = elim has.returns [
      | inl is ↦ inl (return-more place bit has.before has.at has.behind did is)
      | inr will ↦ inl (will (has.behind ++ did ∷ []) (Any-push (ReturnsSlot g slot) has.behind did frees))
    ];
  }

  -- an operation that does so now
  pub returned-now : (now : Option ℕ) (place bit : ℕ) (steps : List Did) (did : Did) → turned place bit did ≡ 1
      → IsReturn g words_at place bit steps did [] ⊎ WillReturn now place bit steps did → HasReturned now place bit (steps ++ did ∷ [])
  returned-now now place bit steps did once returns =
      record { before = steps; at = did; behind = []; split = refl; turns_it = once; returns = returns }

  -- ---- an even number of times, but for that

  -- with so many that the call holds
  abbrev pub IsBalanced : Call → Option ℕ → ℕ → ℕ → List Did → ℕ → Type 0
  IsBalanced call now place bit steps held =
      ((turns place bit steps + held) % 2 ≡ 0)
      ⊎ ((call ≡ Work) × HasReturned now place bit steps × ((turns place bit steps + held) % 2 ≡ 1))

  module _ (call : Call) (was now : Option ℕ) (place bit : ℕ) (steps : List Did) (did : Did) (held : ℕ)
      (more : HasReturned was place bit steps → HasReturned now place bit (steps ++ did ∷ [])) where
    abbrev all : List Did
    all = steps ++ did ∷ []

    pushed : turns place bit all ≡ turns place bit steps + turned place bit did
    pushed = turns-push place bit steps did

    even_stays : (t u d h : ℕ) → u ≡ t + d → (d + held + h) % 2 ≡ 0 → (t + held) % 2 ≡ 0 → (u + h) % 2 ≡ 0
    even_stays t u d h is now so_far = omega (arith, is, now, so_far)

    odd_stays : (t u d h : ℕ) → u ≡ t + d → (d + held + h) % 2 ≡ 0 → (t + held) % 2 ≡ 1 → (u + h) % 2 ≡ 1
    odd_stays t u d h is now so_far = omega (arith, is, now, so_far)

    -- where the operation turns the bit just if what is held there becomes another, it stays so
    pub balanced-push : (then : ℕ) → (turned place bit did + held + then) % 2 ≡ 0 → IsBalanced call was place bit steps held
        → IsBalanced call now place bit all then
    balanced-push then turns_now (inl even) = inl (even_stays _ _ _ then pushed turns_now even)
    balanced-push then turns_now (inr (work, has, odd)) = inr (work, more has, odd_stays _ _ _ then pushed turns_now odd)

    even_once : (t u d : ℕ) → u ≡ t + d → d ≡ 1 → (t + held) % 2 ≡ 0 → (u + held) % 2 ≡ 1
    even_once t u d is once so_far = omega (arith, is, once, so_far)

    odd_once : (t u d : ℕ) → u ≡ t + d → d ≡ 1 → (t + held) % 2 ≡ 1 → (u + held) % 2 ≡ 0
    odd_once t u d is once so_far = omega (arith, is, once, so_far)

    same_twice : (d : ℕ) → d ≡ 0 → (d + held + held) % 2 ≡ 0
    same_twice d none = omega (arith, none)

    -- and where it turns it in giving back
    pub balanced-return : call ≡ Work → (turned place bit did ≡ 1 → HasReturned now place bit all)
        → IsBalanced call was place bit steps held → IsBalanced call now place bit all held
    balanced-return work returns so_far = elim (once_or_never place bit did) [
      | inl none ↦ balanced-push held (same_twice _ none) so_far
      | inr once ↦ elim so_far [
        | inl even ↦ inr (work, returns once, even_once _ _ _ pushed once even)
        | inr odd ↦ inl (odd_once _ _ _ pushed once odd.2)
      ]
    ]

  -- ---- once the call has ended

  odd_split : (t u d : ℕ) → u ≡ t + d → d ≡ 1 → (u + 0) % 2 ≡ 1 → t % 2 ≡ 0
  odd_split t u d is once odd = omega (arith, is, once, odd)

  nothing_held : (n : ℕ) → (n + 0) % 2 ≡ 0 → n % 2 ≡ 0
  nothing_held n even = omega (arith, even)

  -- it holds nothing, and gives nothing back any more
  pub balanced-end : (call : Call) (place bit : ℕ) (steps : List Did) → IsBalanced call None place bit steps 0
      → IsEvenIn g words_at call place bit steps
  balanced-end call place bit steps (inl even) = inl (nothing_held (turns place bit steps) even)
  balanced-end call place bit steps (inr (work, has, odd)) =
      inr (
        work,
        record {
          before = has.before;
          at = has.at;
          behind = has.behind;
          split = has.split;
          returns = elim has.returns [ inl is ↦ is | inr none ↦ absurd none ];
          even = odd_split _ _ _ (ap (turns place bit) has.split ∙ turns-split place bit has.before has.at has.behind) has.turns_it odd;
        },
      )
