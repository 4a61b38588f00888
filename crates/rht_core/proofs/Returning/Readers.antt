-- What each open read section may still meet: each node that was in a chain, and each that was in a port's
-- list, at some moment since the section was opened. It never gets less while the section is open, and links
-- lead from it to nothing else.
use Rattle.std.proofs.Common.{◌≡◌, ◌⊎◌, ◌↔◌, ℕ, ◌%◌, ◌<◌, ◌≤◌, List, ◌∷◌, Option, Some, None, Bool, true, false, refl, sym, ◌∙◌, ap, subst, inl, inr, arith}
use Rattle.std.specs.Prelude.{◌||◌, ◌&&◌}
use Rattle.std.specs.Option.{is_some}
use Rattle.std.proofs.lemmas.Bool.{both_ways, cases_Bool, and_parts, and_from, or_cases, or_left, or_right}
use Rattle.rht_words.specs.declared.env.Env.{Env}
use Rattle.rht_words.specs.Places.{Section}
use Rattle.rht_words.proofs.LinksRead.{links_tell_apart}
use Rattle.rht_words.proofs.Memory.{Memory}
use Rattle.rht_words.specs.Members.{In}
use Rattle.rht_ghost.proofs.Theory.Ghosts.{Owner, First, Leaving, Behind, Ghost, is_first, is_listed, first-listed, listed-used, IsUsed, seat_of, not_first-seatless, seat-first}
use Rattle.rht_ghost.proofs.Theory.Wholes.{chain_of, list_of, key_of, seated_at, Whole, AreThereFrom, force-there}
use Rattle.rht_ghost.proofs.Theory.SeatedLinks.{next_of, link-next_of, chain-first}
use Rattle.rht_ghost.proofs.Theory.Frames.{LinksStay}
use Rattle.rht_ghost.proofs.Pieces.Lists.{list_next, list_among}

-- ---- the ghost

-- Of a caller: which table was the current one when its open section was opened, where it has one; and
-- whether a node has been in a chain, and in a port's list, at some moment since.
pub record Reader : Type 0 where
  pub from : Option ℕ
  pub chains : ℕ → Bool
  pub lists : ℕ → Bool

-- the caller has opened a section
abbrev pub is_open : Reader → Bool
is_open r = is_some r.from

abbrev pub IsOpen : Reader → Type 0
IsOpen r = is_open r ≡ true

-- after an operation of anybody: whoever reads may meet what is in chains and lists now, too
abbrev pub meets_too : Ghost → Reader → Reader
meets_too G r = record {
  from = r.from;
  chains = λ n. r.chains n || (is_open r && is_first (G.node n));
  lists = λ n. r.lists n || (is_open r && is_listed (G.node n));
}

-- a section that was opened just now, and none
abbrev pub opens : Ghost → Reader
opens G = record {
  from = Some G.current;
  chains = λ n. is_first (G.node n);
  lists = λ n.
      is_listed (G.node n);
}

abbrev pub reads_nothing : Reader
reads_nothing = record { from = None; chains = λ n. false; lists = λ n. false }

module _ (env : Env) (mix : ℕ → ℕ → ℕ → ℕ) where
  -- ---- what is true of it

  -- of a caller, by its section's word
  pub record ReaderRight (M : Memory) (G : Ghost) (c : ℕ) (r : Reader) : Type 0 where
    -- a section is open exactly while its word is odd
    pub odd : (M (Section c) % 2 ≡ 1) ↔ IsOpen r
    pub low : (τ : ℕ) → r.from ≡ Some τ → τ ≤ G.current
    -- the tables that it may come to are there
    pub there : (τ : ℕ) → r.from ≡ Some τ → AreThereFrom G τ
    -- who doesn't read meets nothing
    pub reading : (n : ℕ) → r.lists n ≡ true → IsOpen r
    -- who reads may meet what is in chains and lists
    pub firsts : (n : ℕ) → IsOpen r → is_first (G.node n) ≡ true → r.chains n ≡ true
    pub listed : (n : ℕ) → IsOpen r → is_listed (G.node n) ≡ true → r.lists n ≡ true
    pub chained : (n : ℕ) → r.chains n ≡ true → r.lists n ≡ true
    -- what may be met is or was a port's, and was not given back since
    pub used : (n : ℕ) → r.lists n ≡ true → IsUsed (G.node n)
    pub among : (n : ℕ) → r.lists n ≡ true → n < env.geometry.nodes
    -- and links lead to nothing else
    pub chain_leads : (n m : ℕ) → r.chains n ≡ true → next_of env (chain_of M n) ≡ Some m → r.chains m ≡ true
    pub list_leads : (n m : ℕ) → r.lists n ≡ true → next_of env (list_of M n) ≡ Some m → r.lists m ≡ true

  -- What any operation leaves that a section may meet, but those that open and leave sections: whether its
  -- word is odd; the tables that it may come to; nodes that it may meet are or were ports'; and their links, where they are in no chain and
  -- in no list, but that one may be led to a node in a chain.
  pub record LeavesStale (M : Memory) (G : Ghost) (M' : Memory) (G' : Ghost) (c : ℕ)
      (r : Reader) : Type 0 where
    pub section : M' (Section c) % 2 ≡ M (Section c) % 2
    pub current : G.current ≤ G'.current
    pub there : (τ : ℕ) → r.from ≡ Some τ → AreThereFrom G τ → AreThereFrom G' τ
    pub used : (n : ℕ) → r.lists n ≡ true → IsUsed (G.node n) → IsUsed (G'.node n)
    pub chains : LinksStay env mix M G M' G'
    pub lists : (n : ℕ) → n < env.geometry.nodes → IsUsed (G.node n) → is_listed (G'.node n) ≡ false
        → list_of M' n ≡ list_of M n

  -- ---- nodes in lists

  module _ (M : Memory) (G : Ghost) (whole : Whole env mix M G) where
    -- one that is in a list is one of the nodes
    listed-among : (n : ℕ) → is_listed (G.node n) ≡ true → n < env.geometry.nodes
    listed-among n = go (G.node n) refl
      where
        go : (o : Owner) → G.node n ≡ o → is_listed o ≡ true → n < env.geometry.nodes
        go (First j) e listed = (whole.owned.first_at n j e).among
        go (Leaving j) e listed = (seated_at env mix M G whole n j (ap seat_of e)).among
        go (Behind k) e listed = (whole.owned.behind_in n k e).among
        go o e listed = absurd (cc)

    -- its list link leads to one that is in it too
    list-behind : (port first : ℕ) (behind : List ℕ) → G.bound port ≡ first ∷ behind → (n m : ℕ)
        → In n (first ∷ behind)
        → next_of env (list_of M n) ≡ Some m → is_listed (G.node m) ≡ true
    list-behind port first behind b n m there leads =
        elim (list_next env mix M G whole port first behind b n there) [
          | inl ends ↦
              let none : ◌≡◌ {A = Option ℕ} None (Some m) = sym (ap (next_of env) ends) ∙ leads in absurd (cc)
          | inr next ↦
              let among = list_among env mix M G whole port first behind b next.node (inr next.there) in
              let names = links_tell_apart.link_names env.geometry.nodes next.node among in
              let named : ◌≡◌ {A = Option ℕ} (Some next.node) (Some m) =
              sym (ap (next_of env) next.link_is ∙ names) ∙ leads in
              let same : next.node ≡ m = cc in
              subst (λ k. is_listed (G.node k) ≡ true) same
              (ap is_listed ((whole.owned.bound_to port first behind b).each next.node next.there))
        ]

    list-listed : (n m : ℕ) → is_listed (G.node n) ≡ true → next_of env (list_of M n) ≡ Some m
        → is_listed (G.node m) ≡ true
    list-listed n m is leads = go (G.node n) refl is
      where
        go : (o : Owner) → G.node n ≡ o → is_listed o ≡ true → is_listed (G.node m) ≡ true
        go (First j) e listed =
            let at = whole.owned.first_at n j e in
            list-behind (key_of M n) n at.behind at.bound_to n m (inl refl) leads
        go (Leaving j) e listed =
            let at = whole.owned.leaving_at n j e in
            list-behind (key_of M n) n at.behind at.bound_to n m (inl refl) leads
        go (Behind k) e listed =
            let at = whole.owned.behind_in n k e in
            list-behind k at.first at.behind at.bound_to n m (inr at.there) leads
        go o e listed = absurd (cc)

  -- ---- one operation

  module _ (M : Memory) (G : Ghost) (M' : Memory) (G' : Ghost) (c : ℕ) (r : Reader)
      (right : ReaderRight M G c r) (whole : Whole env mix M' G') (leaves : LeavesStale M G M' G' c r) where
    abbrev r' : Reader
    r' = meets_too G' r

    -- what may be met then might be met before, or is in a chain or a list now
    chains-cases : (n : ℕ) → r'.chains n ≡ true → (r.chains n ≡ true)
        ⊎ ((is_open r ≡ true) × (is_first (G'.node n) ≡ true))
    chains-cases n is = elim (or_cases (r.chains n) (is_open r && is_first (G'.node n)) is) [
      | inl before ↦ inl before
      | inr now ↦ inr (and_parts (is_open r) (is_first (G'.node n)) now)
    ]

    lists-cases : (n : ℕ) → r'.lists n ≡ true → (r.lists n ≡ true)
        ⊎ ((is_open r ≡ true) × (is_listed (G'.node n) ≡ true))
    lists-cases n is = elim (or_cases (r.lists n) (is_open r && is_listed (G'.node n)) is) [
      | inl before ↦ inl before
      | inr now ↦ inr (and_parts (is_open r) (is_listed (G'.node n)) now)
    ]

    -- so who meets something reads
    lists-open : (n : ℕ) → r'.lists n ≡ true → IsOpen r
    lists-open n is = elim (lists-cases n is) [ inl before ↦ right.reading n before | inr now ↦ now.0 ]

    chains-open : (n : ℕ) → r'.chains n ≡ true → IsOpen r
    chains-open n is =
        elim (chains-cases n is) [ inl before ↦ right.reading n (right.chained n before) | inr now ↦ now.0 ]

    -- what is in no chain now, or in no list, might be met before
    chains-before : (n : ℕ) → r'.chains n ≡ true → is_first (G'.node n) ≡ false → r.chains n ≡ true
    chains-before n is none = elim (chains-cases n is) [
      | inl before ↦ before
      | inr now ↦ absurd (both_ways (is_first (G'.node n)) none now.1)
    ]

    lists-before : (n : ℕ) → r'.lists n ≡ true → is_listed (G'.node n) ≡ false → r.lists n ≡ true
    lists-before n is none = elim (lists-cases n is) [
      | inl before ↦ before
      | inr now ↦ absurd (both_ways (is_listed (G'.node n)) none now.1)
    ]

    -- and what is in a chain or a list may be met
    first-met : (n : ℕ) → IsOpen r → is_first (G'.node n) ≡ true → r'.chains n ≡ true
    first-met n reads is = or_right (r.chains n) (is_open r && is_first (G'.node n))
        (and_from (is_open r) (is_first (G'.node n)) reads is)

    listed-met : (n : ℕ) → IsOpen r → is_listed (G'.node n) ≡ true → r'.lists n ≡ true
    listed-met n reads is = or_right (r.lists n) (is_open r && is_listed (G'.node n))
        (and_from (is_open r) (is_listed (G'.node n)) reads is)

    -- links lead to nothing else
    chain-leads : (n m : ℕ) → r'.chains n ≡ true → next_of env (chain_of M' n) ≡ Some m → r'.chains m ≡ true
    chain-leads n m is leads = elim (cases_Bool (is_first (G'.node n))) [
      | inl first ↦ first-met m (chains-open n is) (chain-first env mix M' G' whole n m first leads)
      | inr other ↦
          let before = chains-before n is other in
          let in_list = right.chained n before in
          let seatless = not_first-seatless (G'.node n) other in
          elim (leaves.chains n (right.among n in_list) (right.used n in_list) seatless) [
            | inl same ↦
                or_left (r.chains m) (is_open r && is_first (G'.node m))
                (right.chain_leads n m before (sym (ap (next_of env) same) ∙ leads))
            | inr led ↦
                let sits = led.leads m (link-next_of env (chain_of M' n) m leads) in
                first-met m (chains-open n is) (seat-first (G'.node m) sits.bucket sits.seat)
          ]
    ]

    list-leads : (n m : ℕ) → r'.lists n ≡ true → next_of env (list_of M' n) ≡ Some m → r'.lists m ≡ true
    list-leads n m is leads = elim (cases_Bool (is_listed (G'.node n))) [
      | inl listed ↦ listed-met m (lists-open n is) (list-listed M' G' whole n m listed leads)
      | inr other ↦
          let before = lists-before n is other in
          let same = leaves.lists n (right.among n before) (right.used n before) other in
          or_left (r.lists m) (is_open r && is_listed (G'.node m))
          (right.list_leads n m before (sym (ap (next_of env) same) ∙ leads))
    ]

    -- so it is true of what may be met after the operation
    pub reader-stays : ReaderRight M' G' c (meets_too G' r)
    reader-stays = record {
      odd = (
        (λ is. right.odd.0 (sym leaves.section ∙ is)),
        (λ is. leaves.section ∙ right.odd.1 is),
      );
      low = λ τ is. let before = right.low τ is in omega (arith, before, leaves.current);
      there = λ τ is. leaves.there τ is (right.there τ is);
      reading = lists-open;
      firsts = first-met;
      listed = listed-met;
      chained = λ n is. elim (cases_Bool (is_first (G'.node n))) [
        | inl first ↦ listed-met n (chains-open n is) (first-listed (G'.node n) first)
        | inr other ↦
            or_left (r.lists n) (is_open r && is_listed (G'.node n))
            (right.chained n (chains-before n is other))
      ];
      used = λ n is. elim (cases_Bool (is_listed (G'.node n))) [
        | inl listed ↦ listed-used (G'.node n) listed
        | inr other ↦ let before = lists-before n is other in leaves.used n before (right.used n before)
      ];
      among = λ n is. elim (cases_Bool (is_listed (G'.node n))) [
        | inl listed ↦ listed-among M' G' whole n listed
        | inr other ↦ right.among n (lists-before n is other)
      ];
      chain_leads = chain-leads;
      list_leads = list-leads;
    }

  -- ---- sections are opened and left

  -- a section that was opened just now meets what is in chains and lists, and nothing else
  pub reader-opens : (M : Memory) (G : Ghost) (c : ℕ) → Whole env mix M G → M (Section c) % 2 ≡ 1
      → ReaderRight M G c (opens G)
  reader-opens M G c whole is = record {
    odd = ((λ odd. refl), (λ reads. is));
    low = λ τ same. let e : G.current ≡ τ = cc in omega (arith, e);
    there = λ τ same σ from. let e : G.current ≡ τ = cc in force-there env mix whole.tables σ (omega (arith, e, from));
    reading = λ n met. refl;
    firsts = λ n reads first. first;
    listed = λ n reads listed. listed;
    chained = λ n first. first-listed (G.node n) first;
    used = λ n listed. listed-used (G.node n) listed;
    among = listed-among M G whole;
    chain_leads = chain-first env mix M G whole;
    list_leads = list-listed M G whole;
  }

  -- and who has left its section meets nothing
  pub reader-leaves : (M : Memory) (G : Ghost) (c : ℕ) → M (Section c) % 2 ≡ 0
      → ReaderRight M G c reads_nothing
  reader-leaves M G c is = record {
    odd = ((λ odd. absurd (omega (arith, is, odd))), (λ reads. absurd (cc)));
    low = λ τ same. absurd (cc);
    there = λ τ same. absurd (cc);
    reading = λ n met. absurd (cc);
    firsts = λ n reads first. absurd (cc);
    listed = λ n reads listed. absurd (cc);
    chained = λ n met. absurd (cc);
    used = λ n met. absurd (cc);
    among = λ n met. absurd (cc);
    chain_leads = λ n m met leads. absurd (cc);
    list_leads = λ n m met leads. absurd (cc);
  }
