-- What is true of the places of each port is so behind an operation that gives back no node.
use Rattle.std.proofs.Common.{◌≡◌, ◌⊎◌, ℕ, ◌+◌, ◌/◌, ◌^◌, ◌<◌, ◌≤◌, List, [], ◌∷◌, Option, Some, None, refl, sym, ◌∙◌, ap, subst, inl, inr, arith}
use Rattle.rht_words.specs.declared.env.Env.{Env}
use Rattle.rht_words.specs.Members.{In}
use Rattle.rht_words.proofs.Memory.{Memory}
use Rattle.rht_words.specs.Ports.{IsPort}
use Rattle.rht_ghost.proofs.Theory.Ghosts.{Ghost, HasSeat, seat_of, table_at, none-some, some-same}
use Rattle.rht_ghost.proofs.Theory.Wholes.{chain_of, key_of, home, Whole, seated_at}
use Rattle.rht_ghost.proofs.Theory.Passed.{GrowsFrom, home-from}
use Rattle.rht_core.proofs.Finding.Falling.{one_place}
use Rattle.rht_core.proofs.Finding.Places.{Places, PlacesRight}
use Rattle.rht_core.proofs.Finding.PlacesStay.{WasSeatedAt, PortMoves, table_stays}
use Rattle.rht_core.proofs.Finding.PlacesSteps.{PlacesNext}
use Rattle.rht_core.proofs.Finding.PortPlaces.{HasDied, IsReplaced, IsPlaceOf, LeadsLower, EndsOrLeads, PortPlacesRight, sits_first, ends_or_leads, sitting_out}

module _ (env : Env) (mix : ℕ → ℕ → ℕ → ℕ) (now : ℕ) (M : Memory) (G : Ghost) (P : Places) (M' : Memory) (G' : Ghost)
    (whole : Whole env mix M G) (whole' : Whole env mix M' G') (right : PlacesRight env mix G P M now)
    {low : ℕ} (step : PlacesNext env mix now low M G P M' G') (grow : GrowsFrom env mix low G G')
    (of_ports : PortPlacesRight env mix M G P now) where
  abbrev P' : Places
  P' = step.places

  abbrev right' : PlacesRight env mix G' P' M' (now + 1)
  right' = step.right_now

  -- the key of a node with a place stays
  key_stays : (i n p : ℕ) → P.place i n ≡ Some p → key_of M' n ≡ key_of M n
  key_stays i n p is = let at = right.placed i n p is in step.frame.keys n at.among at.used

  early : (i n p : ℕ) → P.place i n ≡ Some p → p < now
  early i n p is = (right.placed i n p is).early

  level : (i n p : ℕ) → P.place i n ≡ Some p → table_at G' i ≡ table_at G i
  level i n p is = table_stays env mix now M G P M' G' step.frame right i n p is

  -- two nodes with seats that have one key are one
  one_seated : (n m j k : ℕ) → seat_of (G'.node n) ≡ Some j → seat_of (G'.node m) ≡ Some k → key_of M' n ≡ key_of M' m → n ≡ m
  one_seated n m j k sits other key =
      let a = (seated_at env mix M' G' whole' n j sits) in
      let b = (seated_at env mix M' G' whole' m k other) in
      let lists : ◌≡◌ {A = List ℕ} (n ∷ a.behind) (m ∷ b.behind) = sym a.bound_to ∙ ap G'.bound key ∙ b.bound_to in
      cc

  -- a node that sat at a place in a bucket was its port's first one, whose key the node there then has
  was_bound : (port i n p : ℕ) → P'.place i n ≡ Some p → key_of M' n ≡ port → (was : WasSeatedAt G P G' P' i p)
      → G.bound port ≡ was.node ∷ (seated_at env mix M G whole was.node i was.seat).behind
  was_bound port i n p is key was =
      let at = seated_at env mix M G whole was.node i was.seat in
      let same : key_of M was.node ≡ port = sym (key_stays i was.node p was.is)
      ∙ right'.keys i was.node n p (step.move.kept i was.node p was.is) is ∙ key in
      ap G.bound (sym same) ∙ at.bound_to

  -- ---- whom a port was bound to

  -- the port was bound to a node at this place
  record HadHead (port i p : ℕ) : Type 0 where
    head : ℕ
    there : In head (G.bound port)
    is : P.place i head ≡ Some p

  -- a node with a place to which a port is bound was the port's, or has the place of its first one
  bound_was : (port i n p : ℕ) → P.place i n ≡ Some p → key_of M n ≡ port → In n (G'.bound port) → In n (G.bound port) ⊎ HadHead port i p
  bound_was port i n p is key there = go (G'.bound port) refl there
    where
      moved : (first : ℕ) (behind : List ℕ) (j : ℕ) → G'.bound port ≡ first ∷ behind → seat_of (G'.node first) ≡ Some j
          → In n (first ∷ behind) → PortMoves G P G' P' port first behind j → In n (G.bound port) ⊎ HadHead port i p
      moved first behind j bound sits i_n (inl still) = elim (still.mates n i p i_n (step.move.kept i n p is)) [
        | inl was ↦ inl (subst (In n) (sym still.bound) was.0)
        | inr here ↦ inr (record {
          head = still.head;
          there = subst (In still.head) (sym still.bound) (inl refl);
          is = ap (λ b. P.place b still.head) here.0 ∙ still.was ∙ ap Some (sym here.1);
        })
      ]
      moved first behind j bound sits i_n (inr (inl new)) =
          let at = new.mates n i p i_n (step.move.kept i n p is) in
          elim (step.move.from first j p sits at.1) [
            | inl late ↦ let low = early i n p is in absurd (omega (arith, late, low))
            | inr was ↦
                let to = whole'.owned.bound_to port first behind bound in
                let both = sym new.unbound ∙ was_bound port j first p at.1 to.key_is was in
                absurd (cc)
          ]
      moved first behind j bound sits i_n (inr (inr gone)) = inl (subst (In n) (sym gone.bound) i_n)

      go : (nodes : List ℕ) → G'.bound port ≡ nodes → In n nodes → In n (G.bound port) ⊎ HadHead port i p
      go [] none i_n = absurd i_n
      go (first ∷ behind) bound i_n =
          let to = whole'.owned.bound_to port first behind bound in
          moved first behind to.bucket bound to.first i_n (step.ports port first behind to.bucket bound to.first)

  -- ---- a new place

  -- it was that of the port's first node
  record IsInStead (port i p : ℕ) : Type 0 where
    had : HadHead port i p

  -- or it is above all, and no node with a place in the bucket is the port's
  record IsFresh (port i p : ℕ) : Type 0 where
    late : now ≤ p
    apart : (m q : ℕ) → P.place i m ≡ Some q → key_of M m ≡ port → (In m (G.bound port) → ⊥) × (In m (G'.bound port) → ⊥)

  record IsNew (port i n p : ℕ) : Type 0 where
    seat : seat_of (G'.node n) ≡ Some i
    either : IsInStead port i p ⊎ IsFresh port i p

  new_place : (port i n p : ℕ) → key_of M' n ≡ port → P'.place i n ≡ Some p → (P.place i n ≡ Some p) ⊎ IsNew port i n p
  new_place port i n p key is = elim (step.move.new i n p is) [
    | inl was ↦ inl was
    | inr sits ↦
        let at = seated_at env mix M' G' whole' n sits.bucket sits.seat in
        let bound : G'.bound port ≡ n ∷ at.behind = ap G'.bound (sym key) ∙ at.bound_to in
        go sits.bucket at.behind sits.seat bound (step.ports port n at.behind sits.bucket bound sits.seat)
  ]
    where
      go : (j : ℕ) (behind : List ℕ) → seat_of (G'.node n) ≡ Some j → G'.bound port ≡ n ∷ behind → PortMoves G P G' P' port n behind j
          → (P.place i n ≡ Some p) ⊎ IsNew port i n p
      go j behind sits bound (inl still) = elim (still.mates n i p (inl refl) is) [
        | inl was ↦ inl was.1
        | inr here ↦ inr (record {
          seat = sits ∙ ap Some (sym here.0);
          either = inl (record {
            had = record {
              head = still.head;
              there = subst (In still.head) (sym still.bound) (inl refl);
              is = ap (λ b. P.place b still.head) here.0 ∙ still.was ∙ ap Some (sym here.1);
            };
          });
        })
      ]
      go j behind sits bound (inr (inl new)) =
          let here = new.mates n i p (inl refl) is in
          let late : now ≤ p = elim (step.move.from n i p (sits ∙ ap Some (sym here.0)) is) [
            | inl late ↦ late
            | inr was ↦ let both = sym new.unbound ∙ was_bound port i n p is key was in absurd (cc)
          ] in
          inr (record {
            seat = sits ∙ ap Some (sym here.0);
            either = inr (record {
              late = late;
              apart = λ m q old of. (
                (λ there. absurd (subst (In m) new.unbound there)),
                (λ there.
                    let mate = new.mates m i q (subst (In m) bound there) (step.move.kept i m q old) in
                    let same : p ≡ q = one_place (P'.place j) n p q here.1 mate.1 in
                    let low = early i m q old in absurd (omega (arith, same, low, late))),
              );
            });
          })
      go j behind sits bound (inr (inr gone)) = elim (gone.mates n i p (inl refl) is) [
        | inl was ↦ inl was
        | inr here ↦
            let further : table_at G gone.from < table_at G' i = subst (λ t. table_at G gone.from < t) (ap (table_at G') (sym here.0))
            gone.further in
            let late : now ≤ p = elim (step.move.from n i p (sits ∙ ap Some (sym here.0)) is) [
              | inl late ↦ late
              | inr was ↦
                  let list : ◌≡◌ {A = List ℕ} (n ∷ behind) (was.node ∷ _) = sym gone.bound ∙ was_bound port i n p is key was in
                  let same : n ≡ was.node = cc in
                  let from : gone.from ≡ i = some-same gone.from i (sym gone.seat ∙ ap (λ m. seat_of (G.node m)) same ∙ was.seat) in
                  let here_was = level i was.node p was.is in
                  let at = ap (table_at G) from in
                  absurd (omega (arith, further, here_was, at))
            ] in
            inr (record {
              seat = sits ∙ ap Some (sym here.0);
              either = inr (record {
                late = late;
                apart = λ m q old of.
                    let never : In m (G.bound port) → ⊥ = λ there.
                    elsewhere m q old gone.from behind gone.bound gone.seat (subst (In m) gone.bound there) further in
                    (never, λ there. never (subst (In m) (sym gone.bound) (subst (In m) bound there)));
              });
            })
      ]
        where
          elsewhere : (m q : ℕ) → P.place i m ≡ Some q → (from : ℕ) (behind : List ℕ) → G.bound port ≡ n ∷ behind
              → seat_of (G.node n) ≡ Some from → In m (n ∷ behind) → table_at G from < table_at G' i → ⊥
          elsewhere m q old from behind bound sat there further =
              let table = level i m q old in
              elim (right.of_port port n behind m from i q bound there sat old) [
                | inl here ↦ let at = ap (table_at G) here.0 in omega (arith, further, table, at)
                | inr other ↦ let least = other.table in omega (arith, further, table, least)
              ]

  -- ---- what is true of them then

  homes_then : (i n p : ℕ) → P'.place i n ≡ Some p → IsPlaceOf env mix G' (key_of M' n) i
  homes_then i n p is = elim (new_place (key_of M' n) i n p refl is) [
    | inl was ↦
        let of = of_ports.homes i n p was in
        let table = level i n p was in
        let more = grow.attached in
        let below = of.attached in
        record {
          here = subst (λ k. home env mix G' k (table_at G' i) ≡ Some i) (sym (key_stays i n p was))
              (ap (home env mix G' (key_of M n)) table ∙ home-from env mix low G G' grow (key_of M n) (table_at G i) i below (step.frame.from i n p was) of.here);
          attached = omega (arith, table, more, below);
        }
    | inr new ↦
        let at = (seated_at env mix M' G' whole' n i new.seat).at_home in
        record { here = at.here; attached = at.attached }
  ]

  small_then : (i n p : ℕ) → P'.place i n ≡ Some p → IsPort (key_of M' n)
  small_then i n p is = elim (new_place (key_of M' n) i n p refl is) [
    | inl was ↦ subst IsPort (sym (key_stays i n p was)) (of_ports.small i n p was)
    | inr new ↦
        let at = seated_at env mix M' G' whole' n i new.seat in
        whole'.owned.small (key_of M' n) n at.behind at.bound_to
  ]

  -- a node that had died has died at the same event
  died_still : (n : ℕ) → HasDied G P now n → HasSeat G' n ⊎ HasDied G' P' (now + 1) n
  died_still n died = go (seat_of (G'.node n)) refl
    where
      go : (seat : Option ℕ) → seat_of (G'.node n) ≡ seat → HasSeat G' n ⊎ HasDied G' P' (now + 1) n
      go (Some j) sits = inl (record { bucket = j; seat = sits })
      go None none = inr (record {
        at = died.at;
        is = step.deaths.kept n died.none ∙ died.is;
        early = let low = died.early in omega (arith, low);
        none = none;
      })

  died_then : (i n p : ℕ) → P'.place i n ≡ Some p → HasSeat G' n ⊎ HasDied G' P' (now + 1) n
  died_then i n p is = elim (new_place (key_of M' n) i n p refl is) [
    | inl was ↦ elim (of_ports.died i n p was) [
      | inl sat ↦ go sat.bucket sat.seat (seat_of (G'.node n)) refl
      | inr died ↦ died_still n died
    ]
    | inr new ↦ inl (record { bucket = i; seat = new.seat })
  ]
    where
      go : (j : ℕ) → seat_of (G.node n) ≡ Some j → (seat : Option ℕ) → seat_of (G'.node n) ≡ seat → HasSeat G' n ⊎ HasDied G' P' (now + 1) n
      go j sat (Some k) sits = inl (record { bucket = k; seat = sits })
      go j sat None none = inr (record { at = now; is = step.deaths.died n j sat none; early = omega arith; none = none })

  -- one to which its port isn't bound had no seat, so it is known still since when
  dead_still : (i n p : ℕ) → P.place i n ≡ Some p → (In n (G.bound (key_of M n)) → ⊥) → (at : ℕ) → P.dead n ≡ Some at → P'.dead n ≡ Some at
  dead_still i n p is apart at dead = elim (of_ports.died i n p is) [
    | inl sat ↦ absurd (apart (sits_first env mix M G P now whole right of_ports n sat.bucket sat.seat))
    | inr died ↦ step.deaths.kept n died.none ∙ dead
  ]

  -- a node that was there, where there was one with its key at a higher place
  replaced_still : (port i n m p q : ℕ) → P.place i n ≡ Some p → P.place i m ≡ Some q → key_of M n ≡ port → key_of M m ≡ port → p < q
      → IsReplaced G' P' port n q
  replaced_still port i n m p q is other key mate less =
      let gone : (k : ℕ) → P.place i k ≡ Some p → key_of M k ≡ port → IsReplaced G P port k q = λ k at of.
      subst (λ x. IsReplaced G P x k q) of (of_ports.newest i k m p q at other (of ∙ sym mate) less) in
      let was = gone n is key in
      record {
        apart = λ there. elim (bound_was port i n p is key there) [
          | inl before ↦ was.apart before
          | inr had ↦ (gone had.head had.is (right.keys i had.head n p had.is is ∙ key)).apart had.there
        ];
        at = was.at;
        is = dead_still i n p is (subst (λ x. In n (G.bound x) → ⊥) (sym key) was.apart) was.at was.is;
        before = was.before;
      }

  newest_then : (i n m p q : ℕ) → P'.place i n ≡ Some p → P'.place i m ≡ Some q → key_of M' n ≡ key_of M' m → p < q
      → IsReplaced G' P' (key_of M' n) n q
  newest_then i n m p q is other key less =
      go (new_place (key_of M' n) i n p refl is) (new_place (key_of M' n) i m q (sym key) other)
    where
      port : ℕ
      port = key_of M' n

      key_was : P.place i n ≡ Some p → key_of M n ≡ port
      key_was was = sym (key_stays i n p was)

      -- a first node that was in whose stead another came is the port's still
      head_apart : HadHead port i p → (h : ℕ) → P.place i h ≡ Some q → key_of M h ≡ port → ⊥
      head_apart had h at mate =
          let of : key_of M had.head ≡ port = sym (key_stays i had.head p had.is)
          ∙ right'.keys i had.head n p (step.move.kept i had.head p had.is) is in
          let gone = of_ports.newest i had.head h p q had.is at (of ∙ sym mate) less in
          gone.apart (subst (λ x. In had.head (G.bound x)) (sym of) had.there)

      -- the key of a first node in whose stead another came
      head_key : (had : HadHead port i q) → key_of M had.head ≡ port
      head_key had = sym (key_stays i had.head q had.is)
          ∙ right'.keys i had.head m q (step.move.kept i had.head q had.is) other ∙ sym key

      go : (P.place i n ≡ Some p) ⊎ IsNew port i n p → (P.place i m ≡ Some q) ⊎ IsNew port i m q → IsReplaced G' P' port n q
      go (inl was) (inl had) = replaced_still port i n m p q was had (key_was was) (sym (key_stays i m q had) ∙ sym key) less
      go (inl was) (inr new) = elim new.either [
        | inl stead ↦ replaced_still port i n stead.had.head p q was stead.had.is (key_was was) (head_key stead.had) less
        | inr fresh ↦
            let apart = fresh.apart n p was (key_was was) in
            let never = subst (λ x. In n (G.bound x) → ⊥) (sym (key_was was)) apart.0 in
            elim (of_ports.died i n p was) [
              | inl sat ↦ absurd (never (sits_first env mix M G P now whole right of_ports n sat.bucket sat.seat))
              | inr died ↦ record {
                apart = apart.1;
                at = died.at;
                is = step.deaths.kept n died.none ∙ died.is;
                before = let low = died.early in let late = fresh.late in omega (arith, low, late);
              }
            ]
      ]
      go (inr new) (inl had) = elim new.either [
        | inl stead ↦ absurd (head_apart stead.had m had (sym (key_stays i m q had) ∙ sym key))
        | inr fresh ↦ let low = early i m q had in let late = fresh.late in absurd (omega (arith, low, late, less))
      ]
      go (inr new) (inr other_new) =
          let same = one_seated n m i i new.seat other_new.seat key in
          let level : p ≡ q = one_place (P'.place i) n p q is (ap (P'.place i) same ∙ other) in
          absurd (omega (arith, level, less))

  -- where links led they lead
  lower_still : (i link p : ℕ) → LeadsLower env mix P i link p → LeadsLower env mix P' i link p
  lower_still i link p on = record {
    next = on.next;
    at = on.at;
    leads = on.leads;
    placed = step.move.kept i on.next on.at on.placed;
    below = on.below;
  }

  ends_still : (i n link p : ℕ) → P.place i n ≡ Some p → EndsOrLeads env mix G P i link p → EndsOrLeads env mix G' P' i link p
  ends_still i n link p is (inl out) =
      let table = level i n p is in
      let later = out.later in
      let below = out.attached in
      let from = step.frame.from i n p is in
      let more = grow.attached in
      inl (record {
        bucket = out.bucket;
        within = out.within;
        table = out.table;
        of = step.frame.pages (out.bucket / 64) out.table (omega (arith, from, later)) out.of;
        later = omega (arith, table, later);
        attached = omega (arith, below, more);
        to = elim out.to [
          | inl end ↦ inl end
          | inr on ↦ inr (on.0, lower_still out.bucket link on.0 on.1)
        ];
      })
  ends_still i n link p is (inr (inl end)) = inr (inl end)
  ends_still i n link p is (inr (inr on)) = inr (inr (lower_still i link p on))

  -- the nodes to which a port is bound have its key
  key_in : (port first : ℕ) (behind : List ℕ) (n : ℕ) → G.bound port ≡ first ∷ behind → In n (first ∷ behind) → key_of M n ≡ port
  key_in port first behind n bound (inl e) = ap (key_of M) e ∙ (whole.owned.bound_to port first behind bound).key_is
  key_in port first behind n bound (inr i) =
      (whole.owned.behind_in n port ((whole.owned.bound_to port first behind bound).each n i)).key_is

  lower_then : (i n p : ℕ) → seat_of (G'.node n) ≡ None → P'.place i n ≡ Some p → EndsOrLeads env mix G' P' i (chain_of M' n) p
  lower_then i n p none is = elim (step.move.new i n p is) [
    | inl was ↦
        let at = right.placed i n p was in
        ends_still i n (chain_of M' n) p was (elim (step.frame.links n at.among at.used none) [
          | inl same ↦ subst (λ link. EndsOrLeads env mix G P i link p) (sym same)
              (ends_or_leads env mix M G P now whole right of_ports i n p was)
          | inr led ↦ subst (λ link. EndsOrLeads env mix G P i link p) (sym led.link)
              (elim (right.of_port led.port led.first led.behind n led.bucket i p led.bound led.there led.seat was) [
                | inl here ↦ ends_or_leads env mix M G P now whole right of_ports i led.first p
                    (ap (λ b. P.place b led.first) here.0 ∙ here.1)
                | inr elsewhere ↦ inl (sitting_out env mix M G P now whole right of_ports i led.bucket n led.first p
                    (key_in led.port led.first led.behind n led.bound led.there
                    ∙ sym (key_in led.port led.first led.behind led.first led.bound (inl refl))) led.seat was elsewhere)
              ])
        ])
    | inr sits ↦ absurd (none-some none sits.seat)
  ]

  pub port_places_then : PortPlacesRight env mix M' G' P' (now + 1)
  port_places_then = record { homes = homes_then; small = small_then; died = died_then; newest = newest_then; lower = lower_then }
