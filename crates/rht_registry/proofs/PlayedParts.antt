-- Parts of a replay that are played one behind the other. What was put so far, with the lines of what is still to play, are the lines of
-- the whole: a part that is put goes from the one to the other, one that fails is a prefix of the whole, and where nothing is left to
-- play the whole was put.
use Rattle.std.proofs.Common.{◌≡◌, ℕ, zero, suc, ◌+◌, ◌-◌, ◌<◌, ◌≤◌, List, [], ◌∷◌, ◌++◌, inl, inr, Option, Result, Ok, Err, IsErr, refl, sym, ◌∙◌, ap, subst, append_assoc, append-nil, arith}
use Rattle.std.specs.Prelude.{Bool, true}
use Rattle.std.specs.List.{list_all, range_with_len}
use Rattle.std.proofs.lemmas.Bool.{and_parts, cases_eq}
use Rattle.std.proofs.KnownBytes.{Appends-nil}
use Rattle.rht_io.specs.declared.source.Failed.{Failed}
use Rattle.rht_io.specs.Told.{Puts}
use Rattle.rht_io.proofs.ToldLemmas.{AppendsPrefix-after, Rose-after_kept, Puts-after, Puts-longer, Puts-of_put, Puts-passed_on}
use Rattle.rht_registry.specs.declared.replaying.ReplayError.{ReplayError}
use Rattle.rht_registry.specs.declared.replaying.ReplayError.TheVariants.{Write}
use Rattle.rht_model.specs.declared.history.Call.{Call}
use Rattle.rht_registry.specs.declared.replaying.player.Player.{Player}
use Rattle.rht_registry.specs.Replays.{Playing, and_then, times}
use Rattle.rht_registry.specs.Players.{Plays, Writes}

-- ---- a part so many times

module _ {A : Type 0} (part : A → A × List ℕ) where
  -- a part that changes nothing and has no lines does so however often
  pub times-still : (a : A) → part a ≡ (a, []) → (n : ℕ) → times n part a ≡ (a, [])
  times-still a still zero = refl
  times-still a still (suc n) = ap (λ first. and_then first (times n part)) still ∙ times-still a still n

  -- of so many, with this many behind, one is next where there are more
  pub times-next : (number counter : ℕ) (a : A) → counter < number
      → times (number - counter) part a ≡ and_then (part a) (times (number - (counter + 1)) part)
  times-next number counter a more =
      let left : number - counter ≡ suc (number - (counter + 1)) = omega arith in ap (λ n. times n part a) left

  -- and none where there are no more
  pub times-no_more : (number counter : ℕ) (a : A) → number ≤ counter → times (number - counter) part a ≡ (a, [])
  times-no_more number counter a over =
      let left : number - counter ≡ 0 = omega arith in ap (λ n. times n part a) left

  -- at the beginning all are
  pub times-all : (number : ℕ) (a : A) → times (number - 0) part a ≡ times number part a
  times-all number a = let left : number - 0 ≡ number = omega arith in ap (λ n. times n part a) left

-- ---- numbers, one after another

-- of those from one to another the first one is next
pub range-next : (from to : ℕ) → from < to → range_with_len from (to - from) ≡ from ∷ range_with_len (from + 1) (to - (from + 1))
range-next from to more =
    let left : to - from ≡ suc (to - (from + 1)) = omega arith in ap (range_with_len from) left

-- By induction over the numbers: what is so of all is so of each.
pub list_all-each : (test : ℕ → Bool) (from n k : ℕ) → list_all test (range_with_len from n) ≡ true → from ≤ k → k < from + n
    → test k ≡ true
list_all-each test from zero k all low high = absurd (omega arith)
list_all-each test from (suc n) k all low high =
    let both = and_parts (test from) (list_all test (range_with_len (from + 1) n)) all in
    elim (cases_eq k from) [
      | inl same ↦ ap test same ∙ both.0
      | inr other ↦ list_all-each test (from + 1) n k both.1 (omega (arith, other)) (omega arith)
    ]

-- ---- lines put

module _ {S : Type 0} (held : S → Option (List ℕ)) (faults : S → ℕ) where
  -- nothing was put
  pub Puts-nothing : {E : Type 0} (a : S) → Puts {E = E} held faults a a (Ok tt) []
  Puts-nothing a = Puts-of_put held faults a a [] (Appends-nil (held a)) (omega arith)

  -- ---- what is still to play

  -- some lines were put since the beginning, and with those of the rest they are those of the whole, which ends where the rest does
  pub record StillToPlay {A : Type 0} (old mid : S) (whole rest : A × List ℕ) : Type 0 where
    pub so_far : List ℕ
    pub put : Puts {E = Failed} held faults old mid (Ok tt) so_far
    pub text : so_far ++ rest.1 ≡ whole.1
    pub end : rest.0 ≡ whole.0

  module _ {A : Type 0} (old : S) (whole : A × List ℕ) where
    -- at the beginning all is
    pub to_play-all : StillToPlay old old whole whole
    to_play-all = record { so_far = []; put = Puts-nothing old; text = refl; end = refl }

    -- the next part was put
    pub to_play-next : (mid new : S) (first : A × List ℕ) (next : A → A × List ℕ)
        → StillToPlay old mid whole (and_then first next) → Puts {E = Failed} held faults mid new (Ok tt) first.1
        → StillToPlay old new whole (next first.0)
    to_play-next mid new first next to_play put = record {
      so_far = to_play.so_far ++ first.1;
      put = Puts-after held faults old mid new (Ok tt) to_play.so_far first.1 to_play.put put;
      text = append_assoc to_play.so_far first.1 (next first.0).1 ∙ to_play.text;
      end = to_play.end;
    }

    -- it failed, and that is passed on
    pub to_play-failed : (mid new : S) (e : Failed) (r : Result (Unit {0}) Failed) (first : A × List ℕ) (next : A → A × List ℕ)
        → StillToPlay old mid whole (and_then first next) → Puts held faults mid new (Err e) first.1 → IsErr r
        → Puts held faults old new r whole.1
    to_play-failed mid new e r first next to_play put failed =
        let more = (next first.0).1 in
        Puts-passed_on held faults old new (Err e) r whole.1 refl failed
        (subst (Puts held faults old new (Err e)) to_play.text
        (Puts-after held faults old mid new (Err e) to_play.so_far (first.1 ++ more) to_play.put
        (Puts-longer held faults mid new e first.1 more put)))

    -- nothing is left to play
    pub to_play-none : (mid : S) (a : A) (rest : A × List ℕ) → StillToPlay old mid whole rest → rest ≡ (a, [])
        → Puts {E = Failed} held faults old mid (Ok tt) whole.1 × (a ≡ whole.0)
    to_play-none mid a rest to_play none =
        let text = sym (append-nil to_play.so_far) ∙ ap (λ l. to_play.so_far ++ l) (sym (ap (λ x. x.1) none)) ∙ to_play.text in
        (subst (Puts {E = Failed} held faults old mid (Ok tt)) text to_play.put, sym (ap (λ x. x.0) none) ∙ to_play.end)

    -- the same with the rest in other words
    pub to_play-as : (mid : S) (rest same : A × List ℕ) → StillToPlay old mid whole rest → rest ≡ same
        → StillToPlay old mid whole same
    to_play-as mid rest same to_play is = subst (StillToPlay old mid whole) is to_play

  -- a part that failed says nothing of where the program stands
  pub Plays-failed : {M : Type 0} (a b : S) (r : Result (Unit {0}) Failed) (commands : List (ℕ × Call)) (part : Playing M × List ℕ)
      (before after : Player M) → Puts held faults a b r part.1 → IsErr r → Plays held faults a b r commands part before after
  Plays-failed a b (Ok done) commands part before after put failed = absurd (cc)
  Plays-failed a b (Err e) commands part before after put failed = record { put = put; now = tt; can = tt; env = tt }

  -- ---- a text that may also fail for want of memory

  pub Writes-of_put : (a b : S) (text : List ℕ) → Puts {E = Failed} held faults a b (Ok tt) text → Writes held faults a b (Ok tt) text
  Writes-of_put a b text put = record { whole = put.whole; prefix = tt; write = λ is. absurd (cc); kept = put.kept }

  pub Writes-failed : (a b : S) (e : Failed) (r : Result (Unit {0}) ReplayError) (text : List ℕ) → Puts held faults a b (Err e) text
      → IsErr r → Writes held faults a b r text
  Writes-failed a b e (Ok done) text put failed = absurd (cc)
  Writes-failed a b e (Err why) text put failed =
      record { whole = tt; prefix = put.prefix; write = λ is. put.failed; kept = put.kept }

  -- a text was put, and then another one was written
  pub Writes-after : (a b c : S) (r : Result (Unit {0}) ReplayError) (xs ys : List ℕ) → Puts {E = Failed} held faults a b (Ok tt) xs
      → Writes held faults b c r ys → Writes held faults a c r (xs ++ ys)
  Writes-after a b c (Ok done) xs ys put written =
      let both : Puts {E = Failed} held faults a c (Ok tt) (xs ++ ys) =
      Puts-after held faults a b c (Ok tt) xs ys put
      record { whole = written.whole; prefix = tt; failed = tt; kept = written.kept } in
      record { whole = both.whole; prefix = tt; write = λ is. absurd (cc); kept = both.kept }
  Writes-after a b c (Err why) xs ys put written = record {
    whole = tt;
    prefix = AppendsPrefix-after (held a) (held b) (held c) xs ys put.whole written.prefix;
    write = λ is. Rose-after_kept (faults a) (faults b) (faults c) put.kept (written.write is);
    kept = omega (arith, put.kept, written.kept);
  }

  -- nothing was, for want of memory
  pub Writes-nothing : (a : S) (r : Result (Unit {0}) ReplayError) (text : List ℕ) → IsErr r → (r ≡ Err Write → ⊥)
      → Writes held faults a a r text
  Writes-nothing a (Ok done) text failed other = absurd (cc)
  Writes-nothing a (Err why) text failed other =
      record { whole = tt; prefix = (0, Appends-nil (held a)); write = λ is. absurd (other is); kept = omega arith }
