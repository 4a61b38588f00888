-- A history whose entries carry numbers: an entry that changes nothing is put in at an earlier number, an entry is added behind all
-- others, and the last entry of a caller gets the reply that it was answered with.
use Rattle.std.proofs.Common.{◌≡◌, ◌≢◌, ◌⊎◌, ℕ, ◌+◌, ◌<◌, ◌≤◌, ◌==◌, nat_le, List, [], ◌∷◌, ◌++◌, Some, Bool, true, false, cond, refl, sym, ◌∙◌, ap, inl, inr, arith}
use Rattle.std.proofs.lemmas.Bool.{cases_eq, cases_lt, eq-eqb, ne_eqb}
use Rattle.std.proofs.lemmas.Bool.Decides.{nat_tests}
use Rattle.std.proofs.lemmas.List.{append-nil}
use Rattle.rht_words.specs.declared.config.Kind.{Kind}
use Rattle.rht_model.specs.Multimap.{Multimap, Agree}
use Rattle.rht_model.specs.declared.history.Call.{Call}
use Rattle.rht_model.specs.declared.history.Call.TheVariants as calls
use Rattle.rht_model.specs.declared.history.Reply.{Reply}
use Rattle.rht_model.specs.declared.history.Reply.TheVariants as replies
use Rattle.rht_model.specs.Answers.{answer_of, bindings_after, is_refusal, MayRefuse}
use Rattle.rht_model.specs.Histories.{without_kick, IsLegalAt, IsLegalFrom, left_by, bindings_left}
use Rattle.rht_model.proofs.Agreements.{Agree-sym, bindings_left-Agree, IsLegalFrom-Agree}
use Rattle.rht_core.specs.Numbered.{Numbered, history_of, numbered_to, NeverFalls, entries_of}

-- ---- numbers

-- a number is at most another one, or above it, with the test
le-cases : (a b : ℕ) → ((a ≤ b) × (nat_le a b ≡ true)) ⊎ ((b < a) × (nat_le a b ≡ false))
le-cases a b = elim (cases_lt b a) [
  | inl h ↦ inr (h, grind (arith, nat_tests))
  | inr h ↦ inl
      (h, grind (arith, nat_tests))
]

-- all numbers are below this one
abbrev pub AllBelow : ℕ → List Numbered → Type 0
AllBelow bound [] = Unit {0}
AllBelow bound (x ∷ xs) = (x.number < bound) × AllBelow bound xs

pub AllBelow-more : (bound more : ℕ) (xs : List Numbered) → bound ≤ more → AllBelow bound xs
    → AllBelow more xs
AllBelow-more bound more [] le below = tt
AllBelow-more bound more (x ∷ xs) le below = (
  let l = below.0 in omega arith,
  AllBelow-more bound more xs
      le below.1,
)

-- no entry is numbered before the first
numbered_to-none : (i from : ℕ) (xs : List Numbered) → i < from → NeverFalls from xs → numbered_to i xs ≡ []
numbered_to-none i from [] l rising = refl
numbered_to-none i from (x ∷ xs) l rising =
    let past : nat_le x.number i ≡ false = (let r = rising.0 in grind (arith, nat_tests)) in
    rw past (numbered_to-none i x.number xs (let r = rising.0 in omega arith) rising.1)

-- where all others are numbered behind it, the entries up to an event are the first ones
pub numbered_to-before : (i : ℕ) (low high : List Numbered) → AllBelow (i + 1) low → NeverFalls (i + 1) high
    → numbered_to i (low ++ high) ≡ history_of low
numbered_to-before i [] high below rising = numbered_to-none i (i + 1) high (omega arith) rising
numbered_to-before i (x ∷ low) high below rising =
    let here : nat_le x.number i ≡ true = (let l = below.0 in grind (arith, nat_tests)) in
    rw here (ap (λ rest. x.entry ∷ rest) (numbered_to-before i low high below.1 rising))

-- and where there are no others, all are
pub numbered_to-all : (i : ℕ) (xs : List Numbered) → AllBelow (i + 1) xs → numbered_to i xs ≡ history_of xs
numbered_to-all i xs below = ap (numbered_to i) (sym (append-nil xs)) ∙ numbered_to-before i xs [] below tt

-- ---- an entry that changes nothing

-- behind all that is numbered up to this event
abbrev pub put_in : Numbered → List Numbered → List Numbered
put_in e [] = e ∷ []
put_in e (x ∷ xs) = cond (nat_le x.number e.number) (x ∷ put_in e xs) (e ∷ x ∷ xs)

pub put_in-rising : (e : Numbered) (from : ℕ) (xs : List Numbered) → from ≤ e.number → NeverFalls from xs
    → NeverFalls from (put_in e xs)
put_in-rising e from [] le rising = (le, tt)
put_in-rising e from (x ∷ xs) le rising = elim (le-cases x.number e.number) [
  | inl p ↦ rw p.1 (rising.0, put_in-rising e x.number xs p.0 rising.1)
  | inr p ↦ rw p.1 (le, (omega arith, rising.1))
]

pub put_in-below : (e : Numbered) (bound : ℕ) (xs : List Numbered) → e.number < bound → AllBelow bound xs
    → AllBelow bound (put_in e xs)
put_in-below e bound [] l below = (l, tt)
put_in-below e bound (x ∷ xs) l below = elim (le-cases x.number e.number) [
  | inl p ↦ rw p.1 (below.0, put_in-below e bound xs l below.1)
  | inr p ↦ rw p.1 (l, below)
]

-- another caller's entries are the same
pub put_in-other : (e : Numbered) (c : ℕ) (xs : List Numbered) → e.entry.caller ≢ c
    → entries_of c (put_in e xs) ≡ entries_of c xs
put_in-other e c [] ne = rw (ne_eqb e.entry.caller c ne) refl
put_in-other e c (x ∷ xs) ne = elim (le-cases x.number e.number) [
  | inl p ↦ rw p.1 (ap (λ rest. cond (x.entry.caller == c) (x ∷ rest) rest) (put_in-other e c xs ne))
  | inr p ↦ rw p.1 (ap (λ t. cond t (e ∷ entries_of c (x ∷ xs)) (entries_of c (x ∷ xs)))
      (ne_eqb e.entry.caller c ne))
]

-- where all entries of its caller are numbered up to its event, the new one is the last of them
none_behind : (c n from : ℕ) (xs : List Numbered) → n < from → NeverFalls from xs
    → AllBelow (n + 1) (entries_of c xs) → entries_of c xs ≡ []
none_behind c n from [] l rising below = refl
none_behind c n from (x ∷ xs) l rising below =
    go (x.entry.caller == c) below (λ b. none_behind c n x.number xs (let high = rising.0 in omega arith)
    rising.1 b)
  where
    go : (t : Bool) → AllBelow (n + 1) (cond t (x ∷ entries_of c xs) (entries_of c xs))
        → (AllBelow (n + 1) (entries_of c xs) → entries_of c xs ≡ [])
        → cond t (x ∷ entries_of c xs) (entries_of c xs) ≡ []
    go true b rest = absurd (let low = b.0 in let high = rising.0 in omega arith)
    go false b rest = rest b

pub put_in-own : (e : Numbered) (from : ℕ) (xs : List Numbered) → NeverFalls from xs
    → AllBelow (e.number + 1) (entries_of e.entry.caller xs)
    → entries_of e.entry.caller (put_in e xs) ≡ entries_of e.entry.caller xs ++ e ∷ []
put_in-own e from [] rising below = rw (eq-eqb e.entry.caller e.entry.caller refl) refl
put_in-own e from (x ∷ xs) rising below =
    let c = e.entry.caller in
    elim (le-cases x.number e.number) [
      | inl p ↦ rw p.1 (go (x.entry.caller == c) below (λ b. put_in-own e x.number xs rising.1 b))
      | inr p ↦
          let none : entries_of c (x ∷ xs) ≡ [] = none_behind c e.number x.number (x ∷ xs) p.0
          (omega arith, rising.1) below in
          rw p.1 (rw none (ap (λ t. cond t (e ∷ []) []) (eq-eqb c c refl)))
    ]
  where
    go : (t : Bool) → AllBelow (e.number + 1) (cond t (x ∷ entries_of e.entry.caller xs)
        (entries_of e.entry.caller xs))
        → (AllBelow (e.number + 1) (entries_of e.entry.caller xs)
        → entries_of e.entry.caller (put_in e xs) ≡ entries_of e.entry.caller xs ++ e ∷ [])
        → cond t (x ∷ entries_of e.entry.caller (put_in e xs))
        (entries_of e.entry.caller (put_in e xs)) ≡ cond t (x ∷ entries_of e.entry.caller xs)
        (entries_of e.entry.caller xs) ++ e ∷ []
    go true b own = ap (λ rest. x ∷ rest) (own b.1)
    go false b own = own b

module _ (kind : Kind) (e : Numbered) where
  -- on the bindings that the entries up to its event leave, it is legal and changes nothing
  pub record CanPutIn (bindings : Multimap) (xs : List Numbered) : Type 0 where
    pub legal : IsLegalAt kind (bindings_left kind bindings (numbered_to e.number xs)) e.entry
    pub leaves : (b : Multimap) → Agree b (bindings_left kind bindings (numbered_to e.number xs))
        → Agree (left_by kind b e.entry) b

  pub put_in-legal : (bindings : Multimap) (from : ℕ) (xs : List Numbered) → NeverFalls from xs
      → CanPutIn bindings xs → IsLegalFrom kind bindings (history_of xs)
      → IsLegalFrom kind bindings (history_of (put_in e xs))
  put_in-legal bindings from [] rising can legal = (can.legal, tt)
  put_in-legal bindings from (x ∷ xs) rising can legal = elim (le-cases x.number e.number) [
    | inl p ↦
        let can' : CanPutIn (left_by kind bindings x.entry) xs =
        record { legal = rw p.1 at can.legal; leaves = rw p.1 at can.leaves } in
        rw p.1 (legal.0, put_in-legal (left_by kind bindings x.entry) x.number xs rising.1 can' legal.1)
    | inr p ↦
        let none : numbered_to e.number xs ≡ [] = numbered_to-none e.number x.number xs p.0 rising.1 in
        let at_once : IsLegalAt kind bindings e.entry = rw (p.1, none) at can.legal in
        let leaves : (b : Multimap) → Agree b bindings → Agree (left_by kind b e.entry) b =
        rw (p.1, none) at can.leaves in
        let agree = leaves bindings (λ port. refl) in
        rw p.1 (
          at_once,
          IsLegalFrom-Agree kind bindings (left_by kind bindings e.entry)
              (history_of (x ∷ xs)) (Agree-sym (left_by kind bindings e.entry) bindings agree) legal,
        )
  ]

  -- the bindings after each event are as before
  pub put_in-left : (bindings : Multimap) (i from : ℕ) (xs : List Numbered) → NeverFalls from xs
      → CanPutIn bindings xs
      → Agree (bindings_left kind bindings (numbered_to i (put_in e xs)))
      (bindings_left kind bindings (numbered_to i xs))
  put_in-left bindings i from [] rising can = elim (le-cases e.number i) [
    | inl p ↦ rw p.1 (can.leaves bindings (λ port. refl))
    | inr p ↦ rw p.1 (λ port. refl)
  ]
  put_in-left bindings i from (x ∷ xs) rising can = elim (le-cases x.number e.number) [
    | inl p ↦
        let can' : CanPutIn (left_by kind bindings x.entry) xs =
        record { legal = rw p.1 at can.legal; leaves = rw p.1 at can.leaves } in
        rw p.1 (elim (le-cases x.number i) [
          | inl q ↦ rw q.1 (put_in-left (left_by kind bindings x.entry) i x.number xs rising.1 can')
          | inr q ↦
              let none : numbered_to i xs ≡ [] = numbered_to-none i x.number xs q.0 rising.1 in
              let none' : numbered_to i (put_in e xs) ≡ [] =
              numbered_to-none i x.number (put_in e xs) q.0 (put_in-rising e x.number xs p.0 rising.1) in
              rw (q.1, none, none') (λ port. refl)
        ])
    | inr p ↦
        let none : numbered_to e.number xs ≡ [] = numbered_to-none e.number x.number xs p.0 rising.1 in
        let leaves : (b : Multimap) → Agree b bindings → Agree (left_by kind b e.entry) b =
        rw (p.1, none) at can.leaves in
        rw p.1 (elim (le-cases e.number i) [
          | inl q ↦ rw q.1 (bindings_left-Agree kind (left_by kind bindings e.entry) bindings
              (numbered_to i (x ∷ xs)) (leaves bindings (λ port. refl)))
          | inr q ↦ rw q.1 (λ port. refl)
        ])
  ]

-- ---- an entry behind all others

pub history_of-push : (xs : List Numbered) (e : Numbered)
    → history_of (xs ++ e ∷ []) ≡ history_of xs ++ e.entry ∷ []
history_of-push [] e = refl
history_of-push (x ∷ xs) e = ap (λ rest. x.entry ∷ rest) (history_of-push xs e)

pub push-rising : (e : Numbered) (from : ℕ) (xs : List Numbered) → from ≤ e.number
    → AllBelow (e.number + 1) xs → NeverFalls from xs
    → NeverFalls from (xs ++ e ∷ [])
push-rising e from [] le below rising = (le, tt)
push-rising e from (x ∷ xs) le below rising = (
  rising.0,
  push-rising e x.number xs
      (let b = below.0 in omega arith) below.1 rising.1,
)

pub push-below : (e : Numbered) (bound : ℕ) (xs : List Numbered) → e.number < bound → AllBelow bound xs
    → AllBelow bound (xs ++ e ∷ [])
push-below e bound [] l below = (l, tt)
push-below e bound (x ∷ xs) l below = (below.0, push-below e bound xs l below.1)

-- up to an event before it, the same entries are numbered
pub push-before : (e : Numbered) (i : ℕ) (xs : List Numbered) → i < e.number
    → numbered_to i (xs ++ e ∷ []) ≡ numbered_to i xs
push-before e i [] l =
    let past : nat_le e.number i ≡ false = grind (arith, nat_tests) in rw past refl
push-before e i (x ∷ xs) l = ap (λ rest. cond (nat_le x.number i) (x.entry ∷ rest) rest)
    (push-before e i xs l)

pub push-other : (e : Numbered) (c : ℕ) (xs : List Numbered) → e.entry.caller ≢ c
    → entries_of c (xs ++ e ∷ []) ≡ entries_of c xs
push-other e c [] ne = rw (ne_eqb e.entry.caller c ne) refl
push-other e c (x ∷ xs) ne = ap (λ rest. cond (x.entry.caller == c) (x ∷ rest) rest) (push-other e c xs ne)

pub push-own : (e : Numbered) (xs : List Numbered) → entries_of e.entry.caller
    (xs ++ e ∷ []) ≡ entries_of e.entry.caller xs ++ e ∷ []
push-own e [] = rw (eq-eqb e.entry.caller e.entry.caller refl) refl
push-own e (x ∷ xs) = go (x.entry.caller == e.entry.caller) (push-own e xs)
  where
    go : (t : Bool) → entries_of e.entry.caller (xs ++ e ∷ []) ≡ entries_of e.entry.caller xs ++ e ∷ []
        → cond t (x ∷ entries_of e.entry.caller (xs ++ e ∷ []))
        (entries_of e.entry.caller (xs ++ e ∷ [])) ≡ cond t (x ∷ entries_of e.entry.caller xs)
        (entries_of e.entry.caller xs) ++ e ∷ []
    go true rest = ap (λ r. x ∷ r) rest
    go false rest = rest

-- ---- the last entry of a caller gets its reply

-- an entry with another reply
abbrev pub with_reply : Numbered → Reply → Numbered
with_reply x reply = record x { entry = record x.entry { reply = reply } }

-- the first of these entries that is the caller's with none of its own behind it gets the reply
abbrev pub replied_if : Bool → List Numbered → Numbered → Reply → List Numbered → List Numbered
replied_if true [] x reply rest = with_reply x reply ∷ rest
replied_if true (y ∷ ys) x reply rest = x ∷ rest
replied_if false own x reply rest = x ∷ rest

abbrev pub replied : ℕ → Reply → List Numbered → List Numbered
replied c reply [] = []
replied c reply (x ∷ xs) = replied_if (x.entry.caller == c) (entries_of c xs) x reply (replied c reply xs)

-- ---- histories that are alike, whether `work` has something to do aside

pub record IsAlike (x y : Numbered) : Type 0 where
  pub number : y.number ≡ x.number
  pub caller : y.entry.caller ≡ x.entry.caller
  pub call : y.entry.call ≡ x.entry.call
  pub owners : y.entry.owners ≡ x.entry.owners
  pub reply : without_kick y.entry.reply ≡ without_kick x.entry.reply

abbrev pub AreAlike : List Numbered → List Numbered → Type 0
AreAlike [] [] = Unit {0}
AreAlike [] (y ∷ ys) = ⊥
AreAlike (x ∷ xs) [] = ⊥
AreAlike (x ∷ xs) (y ∷ ys) = IsAlike x y × AreAlike xs ys

pub AreAlike-refl : (xs : List Numbered) → AreAlike xs xs
AreAlike-refl [] = tt
AreAlike-refl (x ∷ xs) = (
  record {
    number = refl;
    caller = refl;
    call = refl;
    owners = refl;
    reply = refl;
  },
  AreAlike-refl xs,
)

pub alike-rising : (from : ℕ) (xs ys : List Numbered) → AreAlike xs ys → NeverFalls from xs
    → NeverFalls from ys
alike-rising from [] [] alike rising = tt
alike-rising from [] (y ∷ ys) alike rising = absurd alike
alike-rising from (x ∷ xs) [] alike rising = absurd alike
alike-rising from (x ∷ xs) (y ∷ ys) alike rising =
    let same = alike.0.number in
    (rw same rising.0, rw same (alike-rising x.number xs ys alike.1 rising.1))

pub alike-below : (bound : ℕ) (xs ys : List Numbered) → AreAlike xs ys → AllBelow bound xs → AllBelow bound ys
alike-below bound [] [] alike below = tt
alike-below bound [] (y ∷ ys) alike below = absurd alike
alike-below bound (x ∷ xs) [] alike below = absurd alike
alike-below bound (x ∷ xs) (y ∷ ys) alike below = (
  rw alike.0.number below.0,
  alike-below bound xs ys
      alike.1 below.1,
)

-- a reply is a refusal, and one that a call may give, whether `work` has something to do or not
is_refusal-without : (reply : Reply) → is_refusal (without_kick reply) ≡ is_refusal reply
is_refusal-without (replies.Bound kick) = refl
is_refusal-without (replies.Released kick) = refl
is_refusal-without _ = refl

may-bound : (call : Call) (kick : Bool) → MayRefuse call (replies.Bound kick) → ⊥
may-bound (calls.Bind port owner once) kick may = may
may-bound (calls.Rebind port owner new) kick may = may
may-bound _ kick may = may

may-released : (call : Call) (kick : Bool) → MayRefuse call (replies.Released kick) → ⊥
may-released (calls.Bind port owner once) kick may = may
may-released (calls.Rebind port owner new) kick may = may
may-released _ kick may = may

without-may : (call : Call) (reply : Reply) → MayRefuse call reply → MayRefuse call (without_kick reply)
without-may call (replies.Bound kick) may = absurd (may-bound call kick may)
without-may call (replies.Released kick) may = absurd (may-released call kick may)
without-may call _ may = may

may-without : (call : Call) (reply : Reply) → MayRefuse call (without_kick reply) → MayRefuse call reply
may-without call (replies.Bound kick) may = absurd (may-bound call false may)
may-without call (replies.Released kick) may = absurd (may-released call false may)
may-without call _ may = may

module _ (kind : Kind) where
  pub alike-legal_at : (bindings : Multimap) (x y : Numbered) → IsAlike x y
      → IsLegalAt kind bindings x.entry → IsLegalAt kind bindings y.entry
  alike-legal_at bindings x y alike (inl is) =
      inl (ap (answer_of kind bindings) alike.call ∙ is
      ∙ (λ i. Some (record { reply = sym alike.reply i; owners = sym alike.owners i })))
  alike-legal_at bindings x y alike (inr refused) = inr (
    may-without y.entry.call y.entry.reply
        (rw alike.call (rw alike.reply (without-may x.entry.call x.entry.reply refused.0))),
    alike.owners ∙ refused.1,
  )

  pub alike-left_by : (bindings : Multimap) (x y : Numbered) → IsAlike x y
      → left_by kind bindings y.entry ≡ left_by kind bindings x.entry
  alike-left_by bindings x y alike =
      ap (λ call. cond (is_refusal y.entry.reply) bindings (bindings_after kind bindings call)) alike.call
      ∙ ap (λ refuses. cond refuses bindings (bindings_after kind bindings x.entry.call))
      (sym (is_refusal-without y.entry.reply) ∙ ap is_refusal alike.reply ∙ is_refusal-without x.entry.reply)

  pub alike-legal : (bindings : Multimap) (xs ys : List Numbered) → AreAlike xs ys
      → IsLegalFrom kind bindings (history_of xs)
      → IsLegalFrom kind bindings (history_of ys)
  alike-legal bindings [] [] alike legal = tt
  alike-legal bindings [] (y ∷ ys) alike legal = absurd alike
  alike-legal bindings (x ∷ xs) [] alike legal = absurd alike
  alike-legal bindings (x ∷ xs) (y ∷ ys) alike legal = (
    alike-legal_at bindings x y alike.0 legal.0,
    rw (alike-left_by bindings x y alike.0) (alike-legal (left_by kind bindings x.entry) xs ys alike.1
        legal.1),
  )

  pub alike-left : (bindings : Multimap) (i : ℕ) (xs ys : List Numbered) → AreAlike xs ys
      → bindings_left kind bindings (numbered_to i ys) ≡ bindings_left kind bindings (numbered_to i xs)
  alike-left bindings i [] [] alike = refl
  alike-left bindings i [] (y ∷ ys) alike = absurd alike
  alike-left bindings i (x ∷ xs) [] alike = absurd alike
  alike-left bindings i (x ∷ xs) (y ∷ ys) alike = rw alike.0.number
      (go (nat_le x.number i) (λ b. alike-left b i xs ys alike.1))
    where
      go : (t : Bool) → ((b : Multimap) → bindings_left kind b (numbered_to i ys) ≡ bindings_left kind b
          (numbered_to i xs))
          → bindings_left kind bindings (cond t (y.entry ∷ numbered_to i ys)
          (numbered_to i ys)) ≡ bindings_left kind bindings
          (cond t (x.entry ∷ numbered_to i xs) (numbered_to i xs))
      go true rest = ap (λ b. bindings_left kind b (numbered_to i ys))
          (alike-left_by bindings x y alike.0) ∙ rest (left_by kind bindings x.entry)
      go false rest = rest bindings

-- ---- the last entry of a caller gets its reply

module _ (c : ℕ) (reply : Reply) where
  -- the last of these has the reply, whether `work` has something to do aside
  abbrev pub LastHas : List Numbered → Type 0
  LastHas [] = Unit {0}
  LastHas (x ∷ []) = without_kick reply ≡ without_kick x.entry.reply
  LastHas (x ∷ y ∷ xs) = LastHas (y ∷ xs)

  pub replied-alike : (xs : List Numbered) → LastHas (entries_of c xs) → AreAlike xs (replied c reply xs)
  replied-alike [] last = tt
  replied-alike (x ∷ xs) last = go (x.entry.caller == c) (entries_of c xs) last (λ l. replied-alike xs l)
    where
      go : (t : Bool) (own : List Numbered) → LastHas (cond t (x ∷ own) own)
          → (LastHas own → AreAlike xs (replied c reply xs))
          → AreAlike (x ∷ xs) (replied_if t own x reply (replied c reply xs))
      go true [] l rest = (
        record {
          number = refl;
          caller = refl;
          call = refl;
          owners = refl;
          reply = l;
        },
        rest tt,
      )
      go true (y ∷ ys) l rest = (
        record {
          number = refl;
          caller = refl;
          call = refl;
          owners = refl;
          reply = refl;
        },
        rest l,
      )
      go false own l rest = (
        record {
          number = refl;
          caller = refl;
          call = refl;
          owners = refl;
          reply =
              refl;
        },
        rest l,
      )

  -- another caller's entries are the same
  pub replied-other : (d : ℕ) (xs : List Numbered) → d ≢ c
      → entries_of d (replied c reply xs) ≡ entries_of d xs
  replied-other d [] ne = refl
  replied-other d (x ∷ xs) ne = go (cases_eq x.entry.caller c) (entries_of c xs) (replied-other d xs ne)
    where
      go : ((x.entry.caller ≡ c) ⊎ (x.entry.caller ≢ c)) → (own : List Numbered)
          → entries_of d (replied c reply xs) ≡ entries_of d xs
          → entries_of d (replied_if (x.entry.caller == c) own x reply (replied c reply xs)) ≡ entries_of
          d (x ∷ xs)
      go (inl is) [] rest =
          let other : (x.entry.caller == d) ≡ false = ne_eqb x.entry.caller d (λ e. ne (sym e ∙ is)) in
          rw (eq-eqb x.entry.caller c is) (rw other rest)
      go (inl is) (y ∷ ys) rest =
          rw (eq-eqb x.entry.caller c is) (ap (λ r. cond (x.entry.caller == d) (x ∷ r) r) rest)
      go (inr differs) own rest =
          rw (ne_eqb x.entry.caller c differs) (ap (λ r. cond (x.entry.caller == d) (x ∷ r) r) rest)

  -- where it has none, nothing changes
  replied-none : (xs : List Numbered) → entries_of c xs ≡ [] → entries_of c (replied c reply xs) ≡ []
  replied-none [] none = refl
  replied-none (x ∷ xs) none = go (cases_eq x.entry.caller c) (entries_of c xs) none
      (λ n. replied-none xs n) refl
    where
      go : ((x.entry.caller ≡ c) ⊎ (x.entry.caller ≢ c)) → (own : List Numbered)
          → cond (x.entry.caller == c) (x ∷ own) own ≡ []
          → (entries_of c xs ≡ [] → entries_of c (replied c reply xs) ≡ []) → entries_of c xs ≡ own
          → entries_of c (replied_if (x.entry.caller == c) own x reply (replied c reply xs)) ≡ []
      go (inl is) own n rest same = let q = rw (eq-eqb x.entry.caller c is) at n in absurd (cc)
      go (inr differs) own n rest same =
          let other = ne_eqb x.entry.caller c differs in
          let q : own ≡ [] = rw other at n in
          rw other (rw other (rest (same ∙ q)))

  -- its own are the same but for the last
  pub replied-own : (xs es : List Numbered) (x : Numbered) → entries_of c xs ≡ es ++ x ∷ []
      → entries_of c (replied c reply xs) ≡ es ++ with_reply x reply ∷ []
  replied-own [] [] x is = absurd (cc)
  replied-own [] (e ∷ es) x is = absurd (cc)
  replied-own (y ∷ ys) es x is =
      go (cases_eq y.entry.caller c) (entries_of c ys) es is (λ fs same. replied-own ys fs x same) refl
    where
      go : ((y.entry.caller ≡ c) ⊎ (y.entry.caller ≢ c)) → (own es : List Numbered)
          → cond (y.entry.caller == c) (y ∷ own) own ≡ es ++ x ∷ []
          → ((fs : List Numbered) → entries_of c ys ≡ fs ++ x ∷ []
          → entries_of c (replied c reply ys) ≡ fs ++ with_reply x reply ∷ [])
          → entries_of c ys ≡ own
          → entries_of c (replied_if (y.entry.caller == c) own y reply
          (replied c reply ys)) ≡ es ++ with_reply x reply ∷ []
      go (inl own_entry) [] [] is rest same =
          let here = eq-eqb y.entry.caller c own_entry in
          let q : y ∷ [] ≡ x ∷ [] = rw here at is in
          let first : y ≡ x = cc in
          rw here (rw here (rw (replied-none ys same) (ap (λ z. with_reply z reply ∷ []) first)))
      go (inl own_entry) [] (e ∷ []) is rest same = let q = rw (eq-eqb y.entry.caller c own_entry) at
          is in absurd (cc)
      go (inl own_entry) [] (e ∷ f ∷ es) is rest same = let q = rw (eq-eqb y.entry.caller c own_entry) at
          is in absurd (cc)
      go (inl own_entry) (z ∷ zs) [] is rest same = let q = rw (eq-eqb y.entry.caller c own_entry) at
          is in absurd (cc)
      go (inl own_entry) (z ∷ zs) (e ∷ es) is rest same =
          let here = eq-eqb y.entry.caller c own_entry in
          let q : y ∷ z ∷ zs ≡ e ∷ (es ++ x ∷ []) = rw here at is in
          let first : y ≡ e = cc in
          let behind : z ∷ zs ≡ es ++ x ∷ [] = cc in
          rw here (rw here (ap (λ r. y ∷ r) (rest es (same ∙ behind))
          ∙ ap (λ w. w ∷ (es ++ with_reply x reply ∷ [])) first))
      go (inr differs) own es is rest same =
          let other = ne_eqb y.entry.caller c differs in
          let q : own ≡ es ++ x ∷ [] = rw other at is in
          rw other (rw other (rest es (same ∙ q)))
