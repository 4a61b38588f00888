-- What the bits that a call has turned come to where it takes or gives back a node, a lock, the work lock or
-- a slot, where it opens or closes its read section, and where it does what others don't see. What an operation
-- finds that gives something back is known from who has it.
use Rattle.std.proofs.Common.{◌≡◌, ℕ, ◌+◌, ◌/◌, ◌%◌, ◌<◌, Bool, true, false, List, Some, None, refl, sym, ap, ◌∙◌, subst, inl, inr, arith}
use Rattle.std.specs.Int.{bit_at}
use Rattle.std.proofs.lemmas.Bool.{cases_eq}
use Rattle.std.proofs.lemmas.List.Quantifiers.{Any-push}
use Rattle.rht_words.specs.declared.env.Env.{Env}
use Rattle.rht_words.specs.declared.geometry.Geometry.{Geometry}
use Rattle.rht_words.specs.declared.op.Op.TheVariants.{Store, Exchange, Add, Or}
use Rattle.rht_words.specs.Maps.{bit_of}
use Rattle.rht_words.specs.Operations.{op_place, old_of, word_after}
use Rattle.rht_words.specs.Places.{WorkLock, Section, Slot, StateWord, NodeMap, Node, place_of}
use Rattle.rht_words.proofs.BitChanges.{bit_at-set, bit_at-set_other}
use Rattle.rht_words.proofs.PlacesApart.{parts_in_order}
use Rattle.rht_model.specs.declared.history.Call.{Call}
use Rattle.rht_arena.specs.Laws.{map_place, map_bit}
use Rattle.rht_arena.specs.RunLaws.{page_place}
use Rattle.rht_core.specs.Refused.{GivesBackNode, GivesBackSlot}
use Rattle.rht_core.proofs.Events.SectionsInRuns.{odd_by}
use Rattle.rht_ghost.proofs.Theory.Ghosts.{NodeHeld, SlotHeld, lock_bit, state_word}
use Rattle.rht_ghost.proofs.Theory.Wholes.{place_at}
use Rattle.rht_ghost.proofs.Theory.Steps.{bare, Holding, mem, IsAside, DoesQuiet, DoesTakeNode, DoesGiveNode, DoesTakeLock, DoesDropLock, DoesTakeSlot, DoesGiveSlot, DoesTakeWork, DoesGiveWork}
use Rattle.rht_core.proofs.Undoing.TurnedBits.{turned-far, turned-none, turned-adds, TurnsOne, turned-one, sets_lowest, clears_lowest, node_bit, locked_bit, work_bit, slot_bit, section_bit, section_bit-here, section_bit-far, held_bits}
use Rattle.rht_core.proofs.Undoing.GoingBack.{unturned, comes, goes, sum_is, clear_where, GoesBack, Kept, MayBeLeft, EvenBetween, by_node, by_lock, by_worker, by_slot, by_section, own_node, own_slot, HadOrTakes, off_map, leaves_bit, behind_map, not_in_node_map, not_in_nodes, not_state, not_in_slots, not_first, not_section, same_had, with_same}

module _ {env : Env} {mix : ℕ → ℕ → ℕ → ℕ} {words_at : ℕ → List ℕ} {call : Call}
    (step : GoesBack env mix words_at call) where
  abbrev g : Geometry
  g = env.geometry

  -- ---- nothing that others see

  aside_left : bare step.after ≡ bare step.before → IsAside g step.did.op step.before → (place bit : ℕ)
      → op_place step.did.op ≡ place → MayBeLeft step place bit
  aside_left holds (inl own) place bit at =
      own_node step (ap (λ (x : Holding). x.node) holds) place bit
      (record { node = own.node; has = own.has; word = own.word; there = sym at ∙ own.place })
  aside_left holds (inr (inl own)) place bit at =
      own_slot step (ap (λ (x : Holding). x.slot) holds) place bit (record {
        slot = own.slot;
        has = own.has;
        word = own.word;
        of_table = own.of_table;
        there = sym at ∙ own.place;
      })
  aside_left holds (inr (inr serial)) place bit at = inl (inl (sym at ∙ ap op_place serial))

  pub quiet : DoesQuiet g step.did.op step.did.old step.before (bare step.after) → Kept step
  quiet does =
      with_same step does.holds refl refl had (λ place bit low.
      let same : held_bits g step.caller step.after place bit ≡ held_bits g step.caller step.before place bit =
      ap (λ (x : Holding). held_bits g step.caller x place bit) does.holds in
      elim does.leaves [
        | inl leaves ↦ inr (unturned _ _ _ (turned-none place bit step.did low leaves) same)
        | inr aside ↦ elim (cases_eq (op_place step.did.op) place) [
          | inl at ↦ inl (aside_left does.holds aside place bit at)
          | inr far ↦ inr (unturned _ _ _ (turned-far place bit step.did far) same)
        ]
      ])
    where
      -- what others don't see is no word of the map
      map_apart : IsAside g step.did.op step.before → (page : ℕ) → page < g.pages
          → op_place step.did.op ≡ page_place g page → ⊥
      map_apart (inl own) page within at =
          not_in_nodes env own.node own.word page (step.so_far.node_in own.node own.has) within
          (sym own.place ∙ at)
      map_apart (inr (inl own)) page within at =
          not_in_slots env own.slot own.word own.of_table own.within page (sym own.place ∙ at)
      map_apart (inr (inr serial)) page within at =
          let order = parts_in_order g in
          let there = ap op_place (sym serial) ∙ at in absurd (omega (arith, there, order.page_map))

      had : HadOrTakes step
      had = same_had step does.holds refl (λ page i. elim does.leaves [
        | inl leaves ↦ leaves_bit step page i (λ at. leaves (page % 64) (omega arith))
        | inr aside ↦ off_map step (map_apart aside) page i
      ])

  -- ---- a node

  pub take_node : (n : ℕ) → DoesTakeNode g n step.did.op step.did.old step.before (bare step.after)
      → Kept step
  take_node n does =
      let is = does.taking in
      let slot_same = ap (λ (x : Holding). x.slot) does.holds in
      let has : step.after.node ≡ Some n = ap (λ (x : Holding). x.node) does.holds in
      let turns_it : TurnsOne (map_place g n) (map_bit n) step.did = record {
        on = is.clears.place;
        turns = sum_is _ _ is.free is.clears.bit;
        others = is.clears.others;
      } in
      record {
        own = λ place bit own. elim own [
          | inl node ↦ absurd (let none = sym does.none ∙ node.has in cc)
          | inr slot ↦ own_slot step slot_same place bit slot
        ];
        turn = λ place bit low. inr (by_node step (Some n) does.holds place bit
            (comes _ _ _ (turned-one (map_place g n) (map_bit n) place bit step.did low turns_it)
            (ap (λ m. node_bit g m place bit) does.none)));
        node_in = λ node some.
            let same : n ≡ node = (let e = sym has ∙ some in cc) in
            subst (λ m. m < g.nodes) same is.within;
        slot_in = λ slot some. step.so_far.slot_in slot (sym slot_same ∙ some);
        had = same_had step does.holds refl
            (off_map step (λ page within at. not_in_node_map env n page is.within
            (sym is.clears.place ∙ at)));
      }

  pub give_node : (n : ℕ) → step.ghost.node n ≡ NodeHeld step.caller
      → DoesGiveNode g n step.did.op step.before (bare step.after) → Kept step
  give_node n held does =
      let among = step.so_far.node_in n does.has in
      let slot_same = ap (λ (x : Holding). x.slot) does.holds in
      let none : step.after.node ≡ None = ap (λ (x : Holding). x.node) does.holds in
      let there : step.did.old ≡ mem env mix step.words (NodeMap (n / 64)) =
      step.found ∙ ap (old_of step.words) does.giving in
      let clear : bit_at step.did.old (map_bit n) ≡ 0 =
      clear_where step.did.old (map_bit n) (λ set.
      let free = (step.whole.arena.bits n among).0 (ap (λ w. bit_at w (n % 64)) (sym there) ∙ set) in
      let both_ways = sym held ∙ free in cc) in
      let after : (bit : ℕ)
      → bit_at (word_after step.did.old step.did.op) bit
      ≡ bit_at (word_after step.did.old (Or (map_place g n) (bit_of (map_bit n)))) bit =
      λ bit. ap (λ op. bit_at (word_after step.did.old op) bit) does.giving in
      let turns_it : TurnsOne (map_place g n) (map_bit n) step.did = record {
        on = ap op_place does.giving;
        turns = sum_is _ _ clear (after (map_bit n) ∙ bit_at-set step.did.old (map_bit n));
        others = λ bit low other. after bit ∙ bit_at-set_other step.did.old (map_bit n) bit other;
      } in
      record {
        own = λ place bit own. elim own [
          | inl node ↦
              let same : n ≡ node.node = (let e = sym does.has ∙ node.has in cc) in
              inl (inr (inl (record {
                node = n;
                among = among;
                given = Any-push (GivesBackNode g n) step.steps step.did
                    (record { gives = does.giving; taken = clear });
                word = node.word;
                there = node.there ∙ ap (λ m. place_of g (Node m node.word)) (sym same);
              })))
          | inr slot ↦ own_slot step slot_same place bit slot
        ];
        turn = λ place bit low. inr (by_node step None does.holds place bit
            (goes _ _ _ (turned-one (map_place g n) (map_bit n) place bit step.did low turns_it
            ∙ sym (ap (λ m. node_bit g m place bit) does.has)) refl));
        node_in = λ node some. absurd (let e = sym none ∙ some in cc);
        slot_in = λ slot some. step.so_far.slot_in slot (sym slot_same ∙ some);
        had = same_had step does.holds refl
            (off_map step (λ page within at. not_in_node_map env n page among
            (ap op_place (sym does.giving) ∙ at)));
      }

  -- ---- a lock, and the work lock

  pub take_lock : (j : ℕ)
      → DoesTakeLock g (place_at env mix j) step.did.op step.did.old step.before (bare step.after) → Kept step
  take_lock j does =
      let there = place_at env mix j in
      with_same step does.holds refl refl
      (same_had step does.holds refl
      (off_map step (λ page within at. behind_map env mix j page within (sym does.on ∙ at))))
      (λ place bit low.
      inr (by_lock step (Some there) does.holds place bit
      (comes _ _ _ (turned-one there 0 place bit step.did low
      (sets_lowest there step.did does.on does.even does.locks))
      (ap (λ l. locked_bit g l place bit) does.none))))

  pub drop_lock : (j : ℕ)
      → DoesDropLock g (place_at env mix j) step.did.op step.did.old step.before (bare step.after) → Kept step
  drop_lock j does =
      let there = place_at env mix j in
      with_same step does.holds refl refl
      (same_had step does.holds refl
      (off_map step (λ page within at. behind_map env mix j page within (sym does.on ∙ at))))
      (λ place bit low.
      inr (by_lock step None does.holds place bit
      (goes _ _ _ (turned-one there 0 place bit step.did low
      (clears_lowest there step.did does.on does.even does.unlocks)
      ∙ sym (ap (λ l. locked_bit g l place bit) does.has)) refl)))

  -- an exchange of 0 for 1 that found 0, and a store of 0 that found 1
  exchanges_one : (there : ℕ) → step.did.op ≡ Exchange there 0 1 → step.did.old ≡ 0
      → TurnsOne there 0 step.did
  exchanges_one there is free =
      sets_lowest there step.did (ap op_place is) (ap (λ w. w % 2) free)
      (ap (word_after step.did.old) is ∙ ap (λ w. word_after w (Exchange there 0 1)) free
      ∙ sym (ap (λ w. w + 1) free))

  stores_none : (there : ℕ) → step.did.op ≡ Store there 0 → step.did.old ≡ 1 → TurnsOne there 0 step.did
  stores_none there is one =
      let after : word_after step.did.old step.did.op ≡ 0 = ap (word_after step.did.old) is in
      clears_lowest there step.did (ap op_place is) (ap (λ w. w % 2) after)
      (one ∙ sym (ap (λ w. w + 1) after))

  pub take_work : DoesTakeWork g step.did.op step.did.old step.before (bare step.after) → Kept step
  take_work does =
      let there = place_of g WorkLock in
      with_same step does.holds refl refl
      (same_had step does.holds refl
      (off_map step (λ page within at. not_first env page (ap op_place (sym does.taking) ∙ at))))
      (λ place bit low.
      inr (by_worker step true step.before.moving does.holds place bit
      (comes _ _ _ (turned-one there 0 place bit step.did low (exchanges_one there does.taking does.free))
      (ap (λ b. work_bit g b place bit) does.idle))))

  pub give_work : step.ghost.worker ≡ Some step.caller
      → DoesGiveWork g step.did.op step.before (bare step.after) → Kept step
  give_work works does =
      let there = place_of g WorkLock in
      let one : step.did.old ≡ 1 =
      step.found ∙ ap (old_of step.words) does.giving ∙ step.whole.slots.worker_is ∙ ap lock_bit works in
      with_same step does.holds refl refl
      (same_had step does.holds refl
      (off_map step (λ page within at. not_first env page (ap op_place (sym does.giving) ∙ at))))
      (λ place bit low.
      inr (by_worker step false false does.holds place bit
      (goes _ _ _ (turned-one there 0 place bit step.did low (stores_none there does.giving one)
      ∙ sym (ap (λ b. work_bit g b place bit) does.has)) refl)))

  -- ---- a read section

  pub turn_section : (was now : Bool) → odd_by was + odd_by now ≡ 1 → step.caller < 16
      → step.did.op ≡ Add (place_of g (Section step.caller)) 1 → step.before.section ≡ was
      → bare step.after ≡ record (bare step.before) { section = now } → Kept step
  turn_section was now one few adds had holds =
      let there = place_of g (Section step.caller) in
      let on : op_place step.did.op ≡ there = ap op_place adds in
      with_same step holds refl refl
      (same_had step holds refl
      (off_map step (λ page within at. not_section env step.caller few page (sym on ∙ at))))
      (λ place bit low. elim (cases_eq there place) [
        | inr far ↦
            let none = section_bit-far g step.caller step.before.section place bit far in
            inr (by_section step now holds place bit
            (unturned _ _ _ (turned-far place bit step.did (λ at. far (sym on ∙ at)))
            (section_bit-far g step.caller now place bit far ∙ sym none)))
        | inl here ↦ elim (cases_eq bit 0) [
          | inr above ↦ inl (inl (inr (inr (inr (inr (record { there = sym here; above = omega (arith, above) }))))))
          | inl lowest ↦ inr (by_section step now holds place bit
              (subst (λ b. EvenBetween step place b (section_bit g step.caller step.before.section place b)
              (section_bit g step.caller now place b)) (sym lowest)
              (even_where _ _ _
              (turned-adds there place step.did adds here)
              (section_bit-here g step.caller step.before.section place here ∙ ap odd_by had)
              (section_bit-here g step.caller now place here) one)))
        ]
      ])
    where
      even_where : (t x y : ℕ) → t ≡ 1 → x ≡ odd_by was → y ≡ odd_by now → odd_by was + odd_by now ≡ 1 → (t + x + y) % 2 ≡ 0
      even_where t x y turns first second sum = omega (arith, turns, first, second, sum)

  -- ---- a slot

  pub take_slot : (s : ℕ) → DoesTakeSlot g s step.did.op step.did.old step.before (bare step.after)
      → Kept step
  take_slot s does =
      let there = place_of g (Slot s StateWord) in
      let node_same = ap (λ (x : Holding). x.node) does.holds in
      let has : step.after.slot ≡ Some s = ap (λ (x : Holding). x.slot) does.holds in
      record {
        own = λ place bit own. elim own [
          | inl node ↦ own_node step node_same place bit node
          | inr slot ↦ absurd (let none = sym does.none ∙ slot.has in cc)
        ];
        turn = λ place bit low. inr (by_slot step (Some s) does.holds place bit
            (comes _ _ _ (turned-one there 0 place bit step.did low
            (exchanges_one there does.taking does.free))
            (ap (λ t. slot_bit g t place bit) does.none)));
        node_in = λ node some. step.so_far.node_in node (sym node_same ∙ some);
        slot_in = λ slot some.
            let same : s ≡ slot = (let e = sym has ∙ some in cc) in
            subst (λ m. m < 8) same does.within;
        had = same_had step does.holds refl
            (off_map step (λ page within at. not_state env s does.within page
            (ap op_place (sym does.taking) ∙ at)));
      }

  pub give_slot : (s : ℕ) → step.ghost.slot s ≡ SlotHeld step.caller
      → DoesGiveSlot g s step.did.op step.before (bare step.after) → Kept step
  give_slot s held does =
      let there = place_of g (Slot s StateWord) in
      let node_same = ap (λ (x : Holding). x.node) does.holds in
      let none : step.after.slot ≡ None = ap (λ (x : Holding). x.slot) does.holds in
      let one : step.did.old ≡ 1 =
      step.found ∙ ap (old_of step.words) does.giving ∙ step.whole.slots.states s does.within
      ∙ ap state_word held in
      record {
        own = λ place bit own. elim own [
          | inl node ↦ own_node step node_same place bit node
          | inr slot ↦
              let same : s ≡ slot.slot = (let e = sym does.has ∙ slot.has in cc) in
              inl (inr (inr (inl (record {
                slot = s;
                within = does.within;
                given = Any-push (GivesBackSlot g s) step.steps step.did
                    (record { gives = does.giving; taken = one });
                word = slot.word;
                of_table = slot.of_table;
                there = slot.there ∙ ap (λ m. place_of g (Slot m slot.word)) (sym same);
              }))))
        ];
        turn = λ place bit low. inr (by_slot step None does.holds place bit
            (goes _ _ _ (turned-one there 0 place bit step.did low (stores_none there does.giving one)
            ∙ sym (ap (λ t. slot_bit g t place bit) does.has)) refl));
        node_in = λ node some. step.so_far.node_in node (sym node_same ∙ some);
        slot_in = λ slot some. absurd (let e = sym none ∙ some in cc);
        had = same_had step does.holds refl
            (off_map step (λ page within at. not_state env s does.within page
            (ap op_place (sym does.giving) ∙ at)));
      }
