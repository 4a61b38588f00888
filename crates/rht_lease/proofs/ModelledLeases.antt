-- The calls of one worker's commands, as long as they ended as the model answers them: they are those that the model makes of the commands. So
-- behind each of them as few ports are bound as behind each command: one that releases binds none.
use Rattle.std.proofs.Common.{◌≡◌, ◌≢◌, ℕ, zero, suc, ◌+◌, ◌-◌, ◌≤◌, ◌<◌, ◌==◌, Bool, true, false, cond, List, [], ◌∷◌, ◌++◌, length, map, take, refl, sym, ◌∙◌, ap, subst, inl, inr, arith}
use Rattle.std.specs.Prelude.{filter}
use Rattle.std.specs.List.{AllByRecursion}
use Rattle.std.proofs.Math.Seq.{take-append-le, take-append-add}
use Rattle.std.proofs.lemmas.Bool.{cases_lt, eqb-true}
use Rattle.std.proofs.lemmas.List.{take_all}
use Rattle.rht_words.specs.declared.config.Kind.{Kind}
use Rattle.rht_words.proofs.EachElement.{AllByRecursion-weaker, AllByRecursion-map}
use Rattle.rht_model.specs.declared.history.Call.{Call}
use Rattle.rht_model.specs.declared.history.Call.TheVariants.{Bind, Release}
use Rattle.rht_model.specs.declared.history.Reply.{Reply}
use Rattle.rht_model.specs.declared.history.Reply.TheVariants.{Bound, Released}
use Rattle.rht_model.specs.Answers.{Answer as ModelAnswer, bind_reply, owners_released, bindings_after}
use Rattle.rht_model.specs.Endings.{Ending}
use Rattle.rht_model.specs.Histories.{without_kick}
use Rattle.rht_model.specs.Multimap.{Port, Multimap}
use Rattle.rht_stands.specs.StandsFor.{AreBound}
use Rattle.rht_core.specs.NeverRefused.{bindings_after_all, EndAsAnswered}
use Rattle.rht_core.proofs.Counting.FullTables.{taken}
use Rattle.rht_lease.specs.declared.lease.Lease.{Lease}
use Rattle.rht_lease.specs.declared.lease.LeaseCall.{LeaseCall}
use Rattle.rht_lease.specs.declared.lease.LeaseCall.TheVariants as asks
use Rattle.rht_lease.specs.Answers.{Answer, IsOwnReply, IsAnswer, AreAnswered, book_left, calls_in_turn}
use Rattle.rht_lease.specs.Books.{has_lease, is_ended, leased, leased_by, release_of, book_after, calls_for}
use Rattle.rht_lease.specs.Modelled.{Modelled, leases_behind, behind_command, behind_commands, modelled_calls}
use Rattle.rht_lease.proofs.BookLaws.{IsAnswer-many}

-- ---- releases

-- the call releases
record IsRelease (call : Call) : Type 0 where
  port : Port
  owner : ℕ
  is : call ≡ Release port owner

cancel-releases : (has : Bool) (port owner : ℕ) → AllByRecursion IsRelease (cond has (Release port owner ∷ []) [])
cancel-releases true port owner = (record { port = port; owner = owner; is = refl }, tt)
cancel-releases false port owner = tt

module _ (kind : Kind) where
  -- what is bound behind a release was bound before
  bound-released : (b : Multimap) (port owner : ℕ) (other : Port) → bindings_after kind b (Release port owner) other ≢ [] → b other ≢ []
  bound-released b port owner other some none = some (go (other == port) refl)
    where
      go : (t : Bool) → (other == port) ≡ t → cond t (owners_released owner (b port)) (b other) ≡ []
      go true same = ap (owners_released owner) (ap b (sym (eqb-true other port same)) ∙ none)
      go false differs = none

  bound-before : (b : Multimap) (call : Call) → IsRelease call → (other : Port) → bindings_after kind b call other ≢ [] → b other ≢ []
  bound-before b call releases other some =
      bound-released b releases.port releases.owner other (subst (λ (c : Call). bindings_after kind b c other ≢ []) releases.is some)

  -- so releases leave no more ports bound
  AreBound-before : (b : Multimap) (calls : List Call) (count : ℕ) → AllByRecursion IsRelease calls
      → AreBound (bindings_after_all kind b calls) count → AreBound b count
  AreBound-before b [] count all are = are
  AreBound-before b (call ∷ calls) count all are =
      let behind = AreBound-before (bindings_after kind b call) calls count all.1 are in
      record {
        ports = behind.ports;
        distinct = behind.distinct;
        bound =
            AllByRecursion-weaker (λ (port : Port). bindings_after kind b call port ≢ []) (λ (port : Port). b port ≢ [])
            (bound-before b call all.0) behind.ports behind.bound;
        many = behind.many;
      }

  few-releases : (b : Multimap) (calls : List Call) → AllByRecursion IsRelease calls → ¬ AreBound b 16
      → (n : ℕ) → ¬ AreBound (bindings_after_all kind b (take n calls)) 16
  few-releases b calls all before n are = before (AreBound-before b (take n calls) 16 (taken IsRelease n calls all) are)

  -- ---- within a command

  few-one : (b : Multimap) (call : Call) → ¬ AreBound b 16 → ¬ AreBound (bindings_after_all kind b (call ∷ [])) 16
      → (n : ℕ) → ¬ AreBound (bindings_after_all kind b (take n (call ∷ []))) 16
  few-one b call before after zero are = before are
  few-one b call before after (suc n) are =
      after (subst (λ cs. AreBound (bindings_after_all kind b cs) 16) (take_all (suc n) (call ∷ []) (omega arith)) are)

  -- behind each of a command's calls, where so few are bound before the command and behind it
  few-within : (state : Modelled) (ask : LeaseCall) → ¬ AreBound state.bindings 16
      → ¬ AreBound (bindings_after_all kind state.bindings (calls_for state.leases ask)) 16
      → (n : ℕ) → ¬ AreBound (bindings_after_all kind state.bindings (take n (calls_for state.leases ask))) 16
  few-within state (asks.Plain call) before after n = few-one state.bindings call before after n
  few-within state (asks.Lease lease) before after n = few-one state.bindings (Bind lease.port lease.owner false) before after n
  few-within state (asks.Renew lease) before after n = few-releases state.bindings [] tt before n
  few-within state (asks.Cancel port owner) before after n =
      few-releases state.bindings (calls_for state.leases (asks.Cancel port owner))
      (cancel-releases (has_lease port owner state.leases) port owner) before n
  few-within state (asks.Sweep now) before after n =
      few-releases state.bindings (calls_for state.leases (asks.Sweep now))
      (AllByRecursion-map IsRelease release_of (λ lease. record { port = lease.port; owner = lease.owner; is = refl })
      (filter (is_ended now) state.leases))
      before n

  -- ---- the book behind a command

  -- a kick isn't looked at
  leased-kick : (leases : List Lease) (lease : Lease) (reply : Reply) → leased leases lease (without_kick reply) ≡ leased leases lease reply
  leased-kick leases lease (Bound kick) = refl
  leased-kick leases lease (Released kick) = refl
  leased-kick leases lease reply = refl

  -- what the one call of a lease is answered, where it ended as the model answers it
  replied-bind : (b : Multimap) (lease : Lease) (answer : Answer) (endings : List Ending) → (own : IsOwnReply answer endings)
      → EndAsAnswered kind b (Bind lease.port lease.owner false ∷ []) endings → bind_reply kind (b lease.port) ≡ without_kick own.reply
  replied-bind b lease answer endings own ends =
      let one = subst (EndAsAnswered kind b (Bind lease.port lease.owner false ∷ [])) own.one ends in
      ap (λ (a : ModelAnswer). a.reply) one.0

  book-behind : (state : Modelled) (ask : LeaseCall) (answer : Answer) (endings : List Ending) → IsAnswer state.leases ask answer endings
      → EndAsAnswered kind state.bindings (calls_for state.leases ask) endings
      → book_after state.leases ask answer.0 ≡ leases_behind kind state ask
  book-behind state (asks.Plain call) answer endings own ends = refl
  book-behind state (asks.Lease lease) answer endings own ends =
      ap (leased_by state.leases lease) own.plain
      ∙ sym (leased-kick state.leases lease own.reply)
      ∙ ap (leased state.leases lease) (sym (replied-bind state.bindings lease answer endings own ends))
  book-behind state (asks.Renew lease) answer endings bare ends = refl
  book-behind state (asks.Cancel port owner) answer endings is ends = refl
  book-behind state (asks.Sweep now) answer endings swept ends = refl

  -- ---- lists of calls

  bindings_after_all-append : (b : Multimap) (calls more : List Call)
      → bindings_after_all kind b (calls ++ more) ≡ bindings_after_all kind (bindings_after_all kind b calls) more
  bindings_after_all-append b [] more = refl
  bindings_after_all-append b (call ∷ calls) more = bindings_after_all-append (bindings_after kind b call) calls more

  -- where calls ended as the model answers them, the first ones did, and the others did behind them
  ends-cut : (b : Multimap) (calls more : List Call) (endings others : List Ending) → length endings ≡ length calls
      → EndAsAnswered kind b (calls ++ more) (endings ++ others)
      → EndAsAnswered kind b calls endings × EndAsAnswered kind (bindings_after_all kind b calls) more others
  ends-cut b [] more [] others same all = (tt, all)
  ends-cut b [] more (ending ∷ endings) others same all = absurd (omega (arith, same))
  ends-cut b (call ∷ calls) more [] others same all = absurd (omega (arith, same))
  ends-cut b (call ∷ calls) more (ending ∷ endings) others same all =
      let rest = ends-cut (bindings_after kind b call) calls more endings others (omega (arith, same)) all.1 in ((all.0, rest.0), rest.1)

  -- ---- the commands

  -- By induction over the commands. Behind so many calls of theirs few ports are bound, where these calls ended as the model answers them.
  pub few-turn : (state : Modelled) (asked : List LeaseCall) (answers : List Answer) (endings : List Ending)
      → AreAnswered state.leases asked answers endings
      → ((n : ℕ) → ¬ AreBound (behind_commands kind state (take n asked)).bindings 16)
      → (n : ℕ) → EndAsAnswered kind state.bindings (take n (calls_in_turn state.leases asked answers)) (take n endings)
      → ¬ AreBound (bindings_after_all kind state.bindings (take n (calls_in_turn state.leases asked answers))) 16
  few-turn state [] [] endings are few n ends bound =
      few 0 (subst (λ cs. AreBound (bindings_after_all kind state.bindings cs) 16) (take_all n [] (omega arith)) bound)
  few-turn state [] (answer ∷ answers) endings are few n ends bound = absurd are
  few-turn state (ask ∷ asked) [] endings are few n ends bound = absurd are
  few-turn state (ask ∷ asked) (answer ∷ answers) endings are few n ends bound = elim (cases_lt (length own) n) [
    | inl more ↦
        let k = n - length own in
        let much : n ≡ length own + k = omega (arith, more) in
        let long : length are.first ≡ length own = IsAnswer-many state.leases ask answer are.first are.first_is in
        let calls : take n (own ++ rest) ≡ own ++ take k rest = ap (λ m. take m (own ++ rest)) much ∙ take-append-add own rest k in
        let mine : n ≡ length are.first + k = omega (arith, much, long) in
        let ended : take n endings ≡ are.first ++ take k are.rest =
        ap (take n) are.whole ∙ ap (λ m. take m (are.first ++ are.rest)) mine ∙ take-append-add are.first are.rest k in
        let both = subst (λ es. EndAsAnswered kind state.bindings (own ++ take k rest) es) ended
        (subst (λ cs. EndAsAnswered kind state.bindings cs (take n endings)) calls ends) in
        let cut = ends-cut state.bindings own (take k rest) are.first (take k are.rest) long both in
        let book = book-behind state ask answer are.first are.first_is cut.0 in
        let left = subst (λ cs. AreBound (bindings_after_all kind state.bindings cs) 16) calls bound in
        let behind = subst (λ (b : Multimap). AreBound b 16) (bindings_after_all-append state.bindings own (take k rest)) left in
        few-turn after asked answers are.rest (subst (λ ls. AreAnswered ls asked answers are.rest) book are.rest_is)
        (λ m. few (suc m)) k
        (subst (λ ls. EndAsAnswered kind after.bindings (take k (calls_in_turn ls asked answers)) (take k are.rest)) book cut.1)
        (subst (λ ls. AreBound (bindings_after_all kind after.bindings (take k (calls_in_turn ls asked answers))) 16) book behind)
    | inr less ↦
        few-within state ask (few 0) (few 1) n
        (subst (λ cs. AreBound (bindings_after_all kind state.bindings cs) 16) (take-append-le n own rest less) bound)
  ]
    where
      own : List Call
      own = calls_for state.leases ask

      rest : List Call
      rest = calls_in_turn (book_after state.leases ask answer.0) asked answers

      after : Modelled
      after = behind_command kind state ask

  -- Where the calls of all these commands ended so, the book behind the first one is the model's. From there on the others are answered, and their
  -- calls ended so.
  record IsCut (state : Modelled) (ask : LeaseCall) (asked : List LeaseCall) (answer : Answer) (answers : List Answer) (rest : List Ending)
      : Type 0 where
    book : book_after state.leases ask answer.0 ≡ leases_behind kind state ask
    answered : AreAnswered (leases_behind kind state ask) asked answers rest
    ended : EndAsAnswered kind (behind_command kind state ask).bindings (calls_in_turn (leases_behind kind state ask) asked answers) rest

  cut-turn : (state : Modelled) (ask : LeaseCall) (asked : List LeaseCall) (answer : Answer) (answers : List Answer) (endings : List Ending)
      → (are : AreAnswered state.leases (ask ∷ asked) (answer ∷ answers) endings)
      → EndAsAnswered kind state.bindings (calls_in_turn state.leases (ask ∷ asked) (answer ∷ answers)) endings
      → IsCut state ask asked answer answers are.rest
  cut-turn state ask asked answer answers endings are ends =
      let own = calls_for state.leases ask in
      let rest = calls_in_turn (book_after state.leases ask answer.0) asked answers in
      let cut = ends-cut state.bindings own rest are.first are.rest (IsAnswer-many state.leases ask answer are.first are.first_is)
      (subst (EndAsAnswered kind state.bindings (own ++ rest)) are.whole ends) in
      let book = book-behind state ask answer are.first are.first_is cut.0 in
      record {
        book = book;
        answered = subst (λ ls. AreAnswered ls asked answers are.rest) book are.rest_is;
        ended =
            subst (λ ls. EndAsAnswered kind (behind_command kind state ask).bindings (calls_in_turn ls asked answers) are.rest) book cut.1;
      }

  -- By induction over the commands. Where all calls ended so, they are those that the model makes.
  pub calls-turn : (state : Modelled) (asked : List LeaseCall) (answers : List Answer) (endings : List Ending)
      → AreAnswered state.leases asked answers endings
      → EndAsAnswered kind state.bindings (calls_in_turn state.leases asked answers) endings
      → calls_in_turn state.leases asked answers ≡ modelled_calls kind state asked
  calls-turn state [] [] endings are ends = refl
  calls-turn state [] (answer ∷ answers) endings are ends = absurd are
  calls-turn state (ask ∷ asked) [] endings are ends = absurd are
  calls-turn state (ask ∷ asked) (answer ∷ answers) endings are ends =
      let after = behind_command kind state ask in
      let both = cut-turn state ask asked answer answers endings are ends in
      ap (λ cs. calls_for state.leases ask ++ cs)
      (ap (λ ls. calls_in_turn ls asked answers) both.book ∙ calls-turn after asked answers are.rest both.answered both.ended)

  -- And the book is the model's behind each command.
  pub book-turn : (state : Modelled) (asked : List LeaseCall) (answers : List Answer) (endings : List Ending)
      → AreAnswered state.leases asked answers endings
      → EndAsAnswered kind state.bindings (calls_in_turn state.leases asked answers) endings
      → (n : ℕ) → book_left state.leases (take n asked) (take n answers) ≡ (behind_commands kind state (take n asked)).leases
  book-turn state asked answers endings are ends zero = refl
  book-turn state [] answers endings are ends (suc n) = refl
  book-turn state (ask ∷ asked) [] endings are ends (suc n) = absurd are
  book-turn state (ask ∷ asked) (answer ∷ answers) endings are ends (suc n) =
      let after = behind_command kind state ask in
      let both = cut-turn state ask asked answer answers endings are ends in
      ap (λ ls. book_left ls (take n asked) (take n answers)) both.book
      ∙ book-turn after asked answers are.rest both.answered both.ended n
