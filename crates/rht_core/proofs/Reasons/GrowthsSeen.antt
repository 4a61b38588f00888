-- What a bind sees that has found the last table full: which table is the current one, that a further table
-- is due or none, what its making has seen, and in the end the table that follows, or none, by which its
-- attempt ends.
use Rattle.std.proofs.Common.{◌≡◌, ℕ, ◌≤◌, Bool, true, cond, ◌<◌, ◌*◌, ◌-◌, nat_eq, List, [], ◌∷◌, ◌++◌, min, sym, ap, ◌∙◌, inl, inr, arith}
use Rattle.std.specs.Prelude.{Option, Some, None, ◌==◌}
use Rattle.std.proofs.lemmas.Bool.{eqb-true, eqb-false}
use Rattle.rht_words.specs.declared.op.Op.TheVariants.{Load, Exchange}
use Rattle.rht_words.specs.declared.env.Env.{Env}
use Rattle.rht_words.specs.declared.machine.Next.{Next}
use Rattle.rht_words.specs.declared.machine.Next.TheVariants.{Go, Done}
use Rattle.rht_words.specs.Operations.{old_of}
use Rattle.rht_words.specs.Places.{PortCount, Slot, FutureWord, place_of}
use Rattle.rht_policy.specs.Thresholds.{is_above_75}
use Rattle.rht_words.specs.Links.{slot_of, table_of, future_of}
use Rattle.rht_model.specs.declared.history.Reply.{Reply}
use Rattle.rht_model.specs.declared.history.Reply.TheVariants.{Again}
use Rattle.rht_nest.specs.Make.{MakeModel}
use Rattle.rht_nest.specs.Tables.{exponent_made}
use Rattle.rht_nest.specs.declared.make.MakeAt.{MakeAt}
use Rattle.rht_nest.specs.declared.make.MakeAt.TheVariants as makes
use Rattle.rht_nest.specs.Unmake.{UnmakeModel, unmake_new}
use Rattle.rht_bind.specs.Growing.{making, size_grown, want_or_busy, made, ended_attempt, behind_attempt, refused_or_found, has_attached, checked_attach, unmade}
use Rattle.rht_bind.specs.declared.bind.Attempt.{Attempt}
use Rattle.rht_bind.specs.declared.bind.growth.Growing.{Growing}
use Rattle.rht_bind.specs.declared.bind.growth.Refusal.{Refusal}
use Rattle.rht_bind.specs.declared.bind.growth.Refusal.TheVariants as refusals
use Rattle.rht_bind.specs.declared.bind.BindAt.TheVariants as at
use Rattle.rht_core.specs.Jobs.{binds}
use Rattle.rht_bind.specs.declared.bind.BindAt.{BindAt}
use Rattle.rht_core.specs.Traces.{Did}
use Rattle.rht_core.specs.Seen.{IsNoShapeLoad}
use Rattle.rht_core.proofs.Tracing.TracedJobs.{Performs}
use Rattle.rht_core.proofs.Reasons.TablesWalked.{no_load, other_load, no_turn}
use Rattle.rht_core.proofs.Reasons.RefusedBinds.{Behind, Behind-push, SawWhy, SawRoot, SawOther, SawRefusal, SawToMake, refusal-why, FollowedSeen, begins-making, other-saw, no_room-saw, busy-saw, no_table-saw, followed-saw, to_attach-saw, SawToAttach, attach-taken}
use Rattle.rht_ghost.proofs.Theory.Steps.{mem, by_test}
use Rattle.rht_core.proofs.Reasons.BindsSeen.{SawAt, SawForReply}
use Rattle.rht_core.proofs.Reasons.NamedFutures.{no_slot, slot_named, nonzero_named, future_few}
use Rattle.rht_core.proofs.Reasons.SlotsTaken.{slot_taken-push, lost-keeps, OwnUnmade}

-- a future that the operation loads or exchanges is none, or one of the slots
module _ (env : Env) (mix : ℕ → ℕ → ℕ → ℕ) (port owner : ℕ) (once : Bool) where
  pub attaching_few : (growing : Growing) (slot shape : ℕ) (did : Did)
      → Performs mix env (binds port owner once (at.Attaching growing slot shape)) did → did.old ≤ 8
  attaching_few growing slot shape did does =
      let found : did.old ≡ mem env mix does.words (Slot growing.table FutureWord) =
      does.found ∙ ap (old_of does.words) does.planned in
      let few = future_few env mix does.words does.ghost growing.table does.whole
      does.knows.knowing.means.table.at in
      omega (arith, found, few)

  pub again_few : (growing : Growing) (refusal : Refusal) (did : Did)
      → Performs mix env (binds port owner once (at.FutureAgain growing refusal)) did → did.old ≤ 8
  again_few growing refusal did does =
      let found : did.old ≡ mem env mix does.words (Slot growing.table FutureWord) =
      does.found ∙ ap (old_of does.words) does.planned in
      let few = future_few env mix does.words does.ghost growing.table does.whole
      does.knows.knowing.means.table.at in
      omega (arith, found, few)

module _ (env : Env) (words_at : ℕ → List ℕ) (mix : ℕ → ℕ → ℕ → ℕ) (port c : ℕ) (once : Bool) where
  abbrev Sees : BindAt → List Did → Type 0
  Sees = SawAt env words_at mix port c

  abbrev SeesFor : Option Reply → List Did → Type 0
  SeesFor = SawForReply env words_at mix port

  -- an attempt has ended for a table that was seen behind the last one
  ended-saw : (table : ℕ) (all : List Did) → FollowedSeen env words_at mix port table all
      → SeesFor (ended_attempt once table) all
  ended-saw table all followed =
      by_test (λ t. SeesFor (cond t (Some (Again table)) None) all) once (λ t. followed) (λ f. tt)

  behind-saw : (attempt : Attempt) (answer : Option Reply) (all : List Did) → SeesFor answer all
      → Sees (behind_attempt attempt answer) all
  behind-saw attempt None all saw = tt
  behind-saw attempt (Some reply) all saw = saw

  pub unmade-saw : (attempt : Attempt) (answer : Option Reply) (unmake : UnmakeModel) (next : Next (Unit {0}))
      (all : List Did)
      → SeesFor answer all → OwnUnmade env.geometry unmake.slot next all → Sees (unmade attempt answer unmake next) all
  unmade-saw attempt answer unmake Go all saw own = (saw, own)
  unmade-saw attempt answer unmake (Done done) all saw own = behind-saw attempt answer all saw

  -- the load of the count leads to a table of the size that it wants, or to a refusal
  pub want-saw : (growing : Growing) (root : ℕ) (steps : List Did) (did : Did)
      → did.op ≡ Load (place_of env.geometry PortCount) → IsNoShapeLoad env.geometry did
      → Behind env.geometry growing.table growing.shape (SawRoot env words_at mix port growing root) steps
      → Sees (want_or_busy env growing root did.old) (steps ++ did ∷ [])
  want-saw growing root steps did is none saw =
      let Saw : List Did → Type 0 = SawRoot env words_at mix port growing root in
      let size = size_grown growing in
      let busy = at.FutureAgain growing (refusals.Busy root) in
      let same = nat_eq root growing.table in
      let all = steps ++ did ∷ [] in
      by_test
      (λ t. Sees (cond t (making env growing (2 * size)) (cond same (making env growing size) busy)) all)
      (is_above_75 (min did.old 65536) size env.config.max)
      (λ above.
      Behind-push env.geometry growing.table growing.shape Saw
      (SawToMake env words_at mix port growing (2 * size) (exponent_made (2 * size)) true (makes.Slot 0, Go))
      steps did none (no_turn env.geometry did _ is (λ place value adds. cc))
      (λ behind so.
      begins-making env words_at mix port growing root (2 * size) behind did is
      (sym (ap (λ b. cond b (2 * size) size) above)) (inl above) so)
      saw)
      (λ below.
      by_test (λ t. Sees (cond t (making env growing size) busy) all) same
      (λ t.
      Behind-push env.geometry growing.table growing.shape Saw
      (SawToMake env words_at mix port growing size (exponent_made size) true (makes.Slot 0, Go)) steps did none
      (no_turn env.geometry did _ is (λ place value adds. cc))
      (λ behind so.
      begins-making env words_at mix port growing root size behind did is
      (sym (ap (λ b. cond b (2 * size) size) below))
      (inr (eqb-true root growing.table t)) so)
      saw)
      (λ other.
      Behind-push env.geometry growing.table growing.shape (SawRoot env words_at mix port growing root)
      (SawOther env words_at mix port growing.table root growing.why growing.shape) steps did none
      (no_turn env.geometry did _ is (λ place value adds. cc))
      (λ behind so. other-saw env words_at mix port growing root behind did is (eqb-false root growing.table other)
      below so) saw))

  pub made-saw : (growing : Growing) (size : ℕ) (make : MakeModel) (r : MakeAt × Next (Option (ℕ × ℕ)))
      (all : List Did)
      → Behind env.geometry growing.table growing.shape
      (SawToMake env words_at mix port growing size make.exponent make.nested r) all
      → Sees (made growing size (record make { at = r.0 }) r.1) all
  made-saw growing size make (state, Go) all saw = saw
  made-saw growing size make (state, Done None) all saw = record {
    walked = saw.walked;
    quiet = saw.quiet;
    saw = no_room-saw env words_at mix port growing size make.exponent make.nested state saw.walked.behind saw.saw;
  }
  made-saw growing size make (state, Done (Some table)) all saw = record {
    walked = saw.walked;
    quiet = saw.quiet;
    saw = to_attach-saw env words_at mix port growing size make.exponent make.nested state table.0 table.1 saw.walked.behind saw.saw;
  }

  -- a future that was loaded again
  pub again-saw : (growing : Growing) (refusal : Refusal) (future : Option ℕ) (steps : List Did) (did : Did)
      → growing.table < 8 → did.op ≡ Load (place_of env.geometry (Slot growing.table FutureWord))
      → did.old ≤ 8
      → slot_of did.old ≡ future
      → Behind env.geometry growing.table growing.shape (SawRefusal env words_at mix port growing refusal) steps
      → Sees (refused_or_found once growing refusal future) (steps ++ did ∷ [])
  again-saw growing (refusals.Busy root) None steps did within is few reads saw =
      busy-saw env words_at mix port growing root steps did
      (other_load env.geometry did _ is (λ other below same. absurd (omega (arith, same)))) within is
      (no_slot did.old few reads) saw
  again-saw growing (refusals.NoTable size) None steps did within is few reads saw =
      inl (no_table-saw env words_at mix port growing size steps did
      (other_load env.geometry did _ is (λ other below same. absurd (omega (arith, same)))) within is
      (no_slot did.old few reads) saw)
  again-saw growing refusal (Some table) steps did within is few reads saw =
      let named = slot_named did.old table reads in
      behind-saw growing.attempt (ended_attempt once table) (steps ++ did ∷ [])
      (ended-saw table (steps ++ did ∷ [])
      (followed-saw env words_at mix port growing table steps did
      (other_load env.geometry did _ is (λ other below same. absurd (omega (arith, same))))
      (inr (record { table_in = within; slot_in = named.0; tells = inl is; found = named.1 }))
      (record {
        walked = saw.walked;
        quiet = saw.quiet;
        saw = refusal-why env words_at mix port growing refusal saw.walked.behind saw.saw;
      })))

  -- the exchange that attaches
  pub attach-saw : (growing : Growing) (slot shape : ℕ) (steps : List Did) (did : Did) → growing.table < 8
      → slot < 8
      → did.op ≡ Exchange (place_of env.geometry (Slot growing.table FutureWord)) 0 (future_of slot) → did.old ≤ 8
      → Behind env.geometry growing.table growing.shape (SawToAttach env words_at mix port growing slot shape) steps
      → Sees (checked_attach env once growing slot shape did.old) (steps ++ did ∷ [])
  attach-saw growing slot shape steps did within slot_in is few made =
      let all = steps ++ did ∷ [] in
      let saw : Behind env.geometry growing.table growing.shape (SawWhy env words_at mix port growing.table growing.why growing.shape) steps =
      record { walked = made.walked; quiet = made.quiet; saw = made.saw.why } in
      let none = no_load env.geometry did _ is (λ place load. cc) in
      let won = behind_attempt (has_attached growing.attempt) (ended_attempt once slot) in
      let other = table_of (did.old - 1) in
      let lost =
      at.Unmaking growing.attempt (unmake_new env.geometry slot shape) (ended_attempt once other) in
      by_test (λ t. Sees (cond t won lost) all) (did.old == 0)
      (λ t.
      behind-saw (has_attached growing.attempt) (ended_attempt once slot) all
      (ended-saw slot all
      (followed-saw env words_at mix port growing slot steps did none
      (inl (record {
        table_in = within;
        slot_in = slot_in;
        exchanges = is;
        found = eqb-true did.old 0 t;
      })) saw)))
      (λ f.
      let some = eqb-false did.old 0 f in
      let named : did.old ≡ future_of other = nonzero_named did.old few some in (
        ended-saw other all
            (followed-saw env words_at mix port growing other steps did none
            (inr (record {
              table_in = within;
              slot_in = omega arith;
              tells = inr (0, future_of slot, is);
              found = named;
            })) saw),
        slot_taken-push env.geometry slot steps did (lost-keeps env.geometry slot did _ _ _ is some)
            (attach-taken env words_at mix port growing slot shape steps made),
      ))
