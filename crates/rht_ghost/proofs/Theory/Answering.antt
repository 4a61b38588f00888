-- What an operation of a call says about bindings: nothing, or the call's answer, which it is on what the words stand for then; or it
-- changes the bindings as the call is to change them, and the answer is what the call says of the bindings before. A call may also
-- know its answer early, for the case that it will find a page missing, and say it once it has: that answer was so at an earlier event.
use Rattle.std.proofs.Common.{◌≡◌, ◌≢◌, ◌⊎◌, ◌↔◌, ℕ, Bool, true, false, Option, Some, None, refl, sym, ap, ◌∙◌, subst, inl, inr}
use Rattle.std.specs.Prelude.{IfSome}
use Rattle.rht_words.specs.declared.config.Kind.{Kind}
use Rattle.rht_model.specs.declared.history.Call.{Call}
use Rattle.rht_model.specs.declared.history.Call.TheVariants.{Bind, Find, All, Release, Rebind, Walk, Work, Tidy, Count}
use Rattle.rht_model.specs.declared.history.Entry.{Entry}
use Rattle.rht_model.specs.declared.history.Reply.{Reply}
use Rattle.rht_model.specs.declared.history.Reply.TheVariants.{Bound, Released, NoNode}
use Rattle.rht_model.specs.Multimap.{Multimap, Agree}
use Rattle.rht_model.specs.Answers.{Answer, port_of}
use Rattle.rht_model.specs.Histories.{without_kick, IsAnswered, IsLegalAt, left_by}
use Rattle.rht_words.proofs.Members.{one_if}
use Rattle.rht_model.specs.Replies.{takes_out}
use Rattle.rht_model.specs.Replies.{IsReplyTo, AreOwnersWith}
use Rattle.rht_model.proofs.Agreements.{Agree-sym, answer_of-Agree, left_by-Agree, IsLegalAt-answer_of}

-- the entry of a call that is answered so
abbrev pub entry_of : ℕ → Call → Answer → Entry
entry_of c call answer = record { caller = c; call = call; reply = answer.reply; owners = answer.owners }

-- bindings agree with those with which others agree that they agree with
pub Agree-trans : (a b d : Multimap) → Agree a b → Agree b d → Agree a d
Agree-trans a b d first second = λ port. first port ∙ second port

-- the same answer, whether `work` has something to do aside
pub record IsSameAnswer (was now : Answer) : Type 0 where
  pub reply : without_kick now.reply ≡ without_kick was.reply
  pub owners : now.owners ≡ was.owners

-- no answer is known, or the one that was
abbrev pub KeepsAnswer : Option Answer → Option Answer → Type 0
KeepsAnswer None now = now ≡ None
KeepsAnswer (Some was) None = ⊥
KeepsAnswer (Some was) (Some now) = IsSameAnswer was now

-- what is known stays
pub keeps : (answer : Option Answer) → KeepsAnswer answer answer
keeps None = refl
keeps (Some answer) = record { reply = refl; owners = refl }

-- what holds of the reply of a bind or a release whether or not `work` has something to do
pub record IsKickAside (P : Reply → Type 0) : Type 0 where
  pub bound : (kick other : Bool) → P (Bound kick) → P (Bound other)
  pub released : (kick other : Bool) → P (Released kick) → P (Released other)

aside-without : (P : Reply → Type 0) → IsKickAside P → (reply : Reply) → P reply → P (without_kick reply)
aside-without P aside (Bound kick) is = aside.bound kick false is
aside-without P aside (Released kick) is = aside.released kick false is
aside-without P aside reply is = is

aside-with : (P : Reply → Type 0) → IsKickAside P → (reply : Reply) → P (without_kick reply) → P reply
aside-with P aside (Bound kick) is = aside.bound false kick is
aside-with P aside (Released kick) is = aside.released false kick is
aside-with P aside reply is = is

-- holds of the same answer
pub same_reply : (P : Reply → Type 0) → IsKickAside P → (was now : Answer) → IsSameAnswer was now
    → P was.reply → P now.reply
same_reply P aside was now same is =
    aside-with P aside now.reply (subst P (sym same.reply) (aside-without P aside was.reply is))

-- how many nodes a call has taken out of a port's list by what is known of its answer
abbrev pub outs_of : Option Answer → ℕ
outs_of None = 0
outs_of (Some answer) = one_if (takes_out answer.reply)

outs_of-same : (was now : Answer) → IsSameAnswer was now → outs_of (Some now) ≡ outs_of (Some was)
outs_of-same was now same =
    same_reply (λ reply. one_if (takes_out reply) ≡ outs_of (Some was))
    (record { bound = λ k l is. is; released = λ k l is. is }) was now same refl

-- a call that needs a node is answered that there was none exactly where it has none, and no other call has a node
abbrev pub TellsNode : Call → Option ℕ → Reply → Type 0
TellsNode (Bind port owner once) has reply = (has ≡ None) ↔ (reply ≡ NoNode)
TellsNode (Find port) has reply = has ≡ None
TellsNode (All port) has reply = has ≡ None
TellsNode (Release port owner) has reply = has ≡ None
TellsNode (Rebind port owner new) has reply = (has ≡ None) ↔ (reply ≡ NoNode)
TellsNode (Walk from limit) has reply = has ≡ None
TellsNode Work has reply = has ≡ None
TellsNode Tidy has reply = has ≡ None
TellsNode Count has reply = has ≡ None

-- the reply is one of the call's, and the owners are those that come with it; of pairs nothing is said here
pub record IsReplied (call : Call) (answer : Answer) : Type 0 where
  pub reply : IsReplyTo call answer.reply
  pub owners : AreOwnersWith answer.reply answer.owners

-- the same answer is one of the call's as well
IsReplyTo-aside : (call : Call) → IsKickAside (IsReplyTo call)
IsReplyTo-aside (Bind port owner once) = record { bound = λ k l is. is; released = λ k l is. is }
IsReplyTo-aside _ = record { bound = λ k l is. is; released = λ k l is. is }

pub IsReplied-same : (call : Call) (was now : Answer) → IsSameAnswer was now → IsReplied call was
    → IsReplied call now
IsReplied-same call was now same is = record {
  reply = same_reply (IsReplyTo call) (IsReplyTo-aside call) was now same is.reply;
  owners =
      subst (AreOwnersWith now.reply) (sym same.owners)
      (same_reply (λ reply. AreOwnersWith reply was.owners)
      (record { bound = λ k l is. is; released = λ k l is. is }) was now same is.owners);
}

-- and it tells of a node as well
no_node-aside : (A : Type 0) → IsKickAside (λ reply. A ↔ (reply ≡ NoNode))
no_node-aside A = record {
  bound = λ k l is. (λ a. absurd (let none = is.0 a in cc), λ none. absurd (cc));
  released = λ k l is. (λ a. absurd (let none = is.0 a in cc), λ none. absurd (cc));
}

TellsNode-aside : (call : Call) (has : Option ℕ) → IsKickAside (TellsNode call has)
TellsNode-aside (Bind port owner once) has = no_node-aside (has ≡ None)
TellsNode-aside (Rebind port owner new) has = no_node-aside (has ≡ None)
TellsNode-aside _ has = record { bound = λ k l is. is; released = λ k l is. is }

pub TellsNode-same : (call : Call) (has : Option ℕ) (was now : Answer) → IsSameAnswer was now
    → TellsNode call has was.reply
    → TellsNode call has now.reply
TellsNode-same call has was now same is = same_reply (TellsNode call has) (TellsNode-aside call has) was
    now same is

-- and it tells of the node that the call has
pub record IsRight (call : Call) (has : Option ℕ) (answer : Answer) : Type 0 where
  pub replied : IsReplied call answer
  pub tells : TellsNode call has answer.reply

-- Calls whose answers are shown to be right over whole runs: a look-up takes no lock, so what it answers rests on what was so when it began.
abbrev pub may_claim : Call → Bool
may_claim (Find port) = true
may_claim _ = false

module _ (kind : Kind) (c : ℕ) (call : Call) where
  -- the answer is legal on these bindings, and leaves them; or the call isn't about bindings
  pub record IsLegalOn (bindings : Multimap) (answer : Answer) : Type 0 where
    pub legal : IsLegalAt kind bindings (entry_of c call answer)
    pub leaves : Agree (left_by kind bindings (entry_of c call answer)) bindings

  abbrev pub IsSaidOn : Multimap → Answer → Type 0
  IsSaidOn bindings answer = IsLegalOn bindings answer ⊎ (port_of call ≡ None)

  -- the answer is known from now on
  pub record LearnsAnswer (bindings : Multimap) (was now : Option Answer) : Type 0 where
    pub unknown : was ≡ None
    pub answer : Answer
    pub known : now ≡ Some answer
    pub said : IsSaidOn bindings answer

  -- the answer is known from now on, and is the one that was known early, since the page that this was for isn't there
  pub record RecallsAnswer (early : Option Answer) (There : Type 0) (was now : Option Answer) : Type 0 where
    pub unknown : was ≡ None
    pub foreseen : Answer
    pub known_early : early ≡ Some foreseen
    pub missing : ¬ There
    pub answer : Answer
    pub known : now ≡ Some answer
    pub same : IsSameAnswer foreseen answer

  -- the answer is known from now on, of a call whose answers are shown to be right elsewhere
  pub record ClaimsAnswer (was now : Option Answer) : Type 0 where
    pub may : may_claim call ≡ true
    pub unknown : was ≡ None
    pub answer : Answer
    pub known : now ≡ Some answer

  -- an operation that changes no bindings keeps what is known of the answer, or tells it, or recalls the one
  -- that was known early, or claims it
  abbrev pub SaysStill : Option Answer → Type 0 → Multimap → Option Answer → Option Answer → Type 0
  SaysStill early There bindings was now =
      KeepsAnswer was now ⊎ LearnsAnswer bindings was now ⊎ RecallsAnswer early There was now
      ⊎ ClaimsAnswer was now

  -- ---- what is known early

  -- an answer was known early before, and where the page was there it is there still
  pub record StaysEarly (There There' : Type 0) (early : Option Answer) (answer : Answer) : Type 0 where
    pub known_early : early ≡ Some answer
    pub stays : There → There'

  -- an answer that is known early after an operation was known so before, or is said on these bindings, or the page is there
  abbrev pub KnowsEarly : Type 0 → Type 0 → Multimap → Option Answer → Option Answer → Type 0
  KnowsEarly There There' bindings was now = (answer : Answer) → now ≡ Some answer
      → StaysEarly There There' was answer ⊎ IsSaidOn bindings answer ⊎ There'

  pub none_early : (There There' : Type 0) (bindings : Multimap) (was now : Option Answer) → now ≡ None
      → KnowsEarly There There' bindings was now
  none_early There There' bindings was now none answer known = absurd (let both = sym none ∙ known in cc)

  -- an operation that changes bindings as the call is to change them
  pub record ChangesBindings (before after : Multimap) (was now : Option Answer) : Type 0 where
    pub unknown : was ≡ None
    pub answer : Answer
    pub known : now ≡ Some answer
    pub answered : IsAnswered kind before (entry_of c call answer)
    pub bindings : Agree after (left_by kind before (entry_of c call answer))
    pub port : ℕ
    pub differs : after port ≢ before port

  pub record Stills (early : Option Answer) (There : Type 0) (before after : Multimap) (was now : Option Answer)
      : Type 0 where
    pub agree : Agree after before
    pub said : SaysStill early There after was now

  abbrev pub Says : Option Answer → Type 0 → Multimap → Multimap → Option Answer → Option Answer → Type 0
  Says early There before after was now =
      Stills early There before after was now ⊎ ChangesBindings before after was now

  -- whatever is so of an answer when it is told, and of the same answer, is so of the one that is known after an operation
  pub known_so : (So : Answer → Type 0) → ((was now : Answer) → IsSameAnswer was now → So was → So now)
      → (early : Option Answer) (There : Type 0) (before after : Multimap) (was now : Option Answer)
      → Says early There before after was now → ((answer : Answer) → was ≡ None → now ≡ Some answer → So answer)
      → IfSome was So → IfSome now So
  known_so So same early There before after was None says told so = tt
  known_so So same early There before after None (Some now) says told so = told now refl refl
  known_so So same early There before after (Some was) (Some now) (inl still) told so = elim still.said [
    | inl keeps ↦ same was now keeps so
    | inr (inl learns) ↦ absurd (let none = learns.unknown in cc)
    | inr (inr (inl recalls)) ↦ absurd (let none = recalls.unknown in cc)
    | inr (inr (inr claims)) ↦ absurd (let none = claims.unknown in cc)
  ]
  known_so So same early There before after (Some was) (Some now) (inr changes) told so = absurd
      (let none = changes.unknown in cc)

  -- while none is known after it, none was before
  pub unknown_before : (early : Option Answer) (There : Type 0) (before after : Multimap) (was now : Option Answer)
      → Says early There before after was now → now ≡ None → was ≡ None
  unknown_before early There before after None now says none = refl
  unknown_before early There before after (Some was) (Some now) says none = absurd (cc)
  unknown_before early There before after (Some was) None (inl still) none = elim still.said [
    | inl keeps ↦ absurd keeps
    | inr (inl learns) ↦ absurd (let unknown = learns.unknown in cc)
    | inr (inr (inl recalls)) ↦ absurd (let unknown = recalls.unknown in cc)
    | inr (inr (inr claims)) ↦ absurd (let unknown = claims.unknown in cc)
  ]
  unknown_before early There before after (Some was) None (inr changes) none = absurd
      (let unknown = changes.unknown in cc)

  -- ---- bindings that agree

  IsLegalOn-agree : (bindings same : Multimap) (answer : Answer) → Agree same bindings
      → IsLegalOn bindings answer
      → IsLegalOn same answer
  IsLegalOn-agree bindings same answer agree said =
      let entry = entry_of c call answer in
      record {
        legal = IsLegalAt-answer_of kind bindings same entry
            (answer_of-Agree kind bindings same call (Agree-sym same bindings agree)) said.legal;
        leaves = λ port. left_by-Agree kind same bindings entry agree port ∙ said.leaves port
            ∙ sym (agree port);
      }

  IsSaidOn-agree : (bindings same : Multimap) (answer : Answer) → Agree same bindings
      → IsSaidOn bindings answer
      → IsSaidOn same answer
  IsSaidOn-agree bindings same answer agree (inl said) = inl (IsLegalOn-agree bindings same answer agree said)
  IsSaidOn-agree bindings same answer agree (inr not_about) = inr not_about

  -- what is told, kept, recalled or known early is so on bindings that agree
  pub SaysStill-agree : (early : Option Answer) (There : Type 0) (bindings same : Multimap) (was now : Option Answer)
      → Agree same bindings → SaysStill early There bindings was now → SaysStill early There same was now
  SaysStill-agree early There bindings same was now agree (inl keeps) = inl keeps
  SaysStill-agree early There bindings same was now agree (inr (inl learns)) = inr (inl (record {
    unknown = learns.unknown;
    answer = learns.answer;
    known = learns.known;
    said = IsSaidOn-agree bindings same learns.answer agree learns.said;
  }))
  SaysStill-agree early There bindings same was now agree (inr (inr other)) = inr (inr other)

  pub KnowsEarly-agree : (There There' : Type 0) (bindings same : Multimap) (was now : Option Answer)
      → Agree same bindings → KnowsEarly There There' bindings was now → KnowsEarly There There' same was now
  KnowsEarly-agree There There' bindings same was now agree knows answer known = elim (knows answer known) [
    | inl stays ↦ inl stays
    | inr (inl said) ↦ inr (inl (IsSaidOn-agree bindings same answer agree said))
    | inr (inr there) ↦ inr (inr there)
  ]

  -- an operation that changes no bindings, of a call that has this node, keeps what is known of the answer, or tells it rightly
  pub record LearnsRightly (has : Option ℕ) (bindings : Multimap) (was now : Option Answer) : Type 0 where
    pub learns : LearnsAnswer bindings was now
    pub right : IsRight call has learns.answer
    pub takes_none : takes_out learns.answer.reply ≡ false

  abbrev pub Tells : Option ℕ → Multimap → Option Answer → Option Answer → Type 0
  Tells has bindings was now = KeepsAnswer was now ⊎ LearnsRightly has bindings was now

  -- or it recalls the answer rightly
  pub record RecallsRightly (has : Option ℕ) (early : Option Answer) (There : Type 0) (was now : Option Answer)
      : Type 0 where
    pub recalls : RecallsAnswer early There was now
    pub right : IsRight call has recalls.answer
    pub takes_none : takes_out recalls.answer.reply ≡ false

  -- or it claims one that is right
  pub record ClaimsRightly (has : Option ℕ) (was now : Option Answer) : Type 0 where
    pub claims : ClaimsAnswer was now
    pub right : IsRight call has claims.answer
    pub takes_none : takes_out claims.answer.reply ≡ false

  abbrev pub TellsOrRecalls : Option ℕ → Option Answer → Type 0 → Multimap → Option Answer → Option Answer → Type 0
  TellsOrRecalls has early There bindings was now = Tells has bindings was now ⊎ RecallsRightly has early There was now
      ⊎ ClaimsRightly has was now

  pub told-says : (has : Option ℕ) (early : Option Answer) (There : Type 0) (bindings : Multimap) (was now : Option Answer)
      → TellsOrRecalls has early There bindings was now
      → SaysStill early There bindings was now
  told-says has early There bindings was now (inl (inl keeps)) = inl keeps
  told-says has early There bindings was now (inl (inr tells)) = inr (inl tells.learns)
  told-says has early There bindings was now (inr (inl tells)) = inr (inr (inl tells.recalls))
  told-says has early There bindings was now (inr (inr tells)) = inr (inr (inr tells.claims))

  -- and it takes no node out of a list
  pub told-outs : (has : Option ℕ) (early : Option Answer) (There : Type 0) (bindings : Multimap)
      (was now : Option Answer) → TellsOrRecalls has early There bindings was now
      → outs_of now ≡ outs_of was
  told-outs has early There bindings None now (inl (inl keeps)) = ap outs_of keeps
  told-outs has early There bindings (Some was) None (inl (inl keeps)) = absurd keeps
  told-outs has early There bindings (Some was) (Some now) (inl (inl keeps)) = outs_of-same was now keeps
  told-outs has early There bindings was now (inl (inr tells)) =
      ap outs_of tells.learns.known ∙ ap one_if tells.takes_none ∙ sym (ap outs_of tells.learns.unknown)
  told-outs has early There bindings was now (inr (inl tells)) =
      ap outs_of tells.recalls.known ∙ ap one_if tells.takes_none ∙ sym (ap outs_of tells.recalls.unknown)
  told-outs has early There bindings was now (inr (inr tells)) =
      ap outs_of tells.claims.known ∙ ap one_if tells.takes_none ∙ sym (ap outs_of tells.claims.unknown)

  -- what is told is right
  pub told-right : (has : Option ℕ) (early : Option Answer) (There : Type 0) (bindings : Multimap)
      (was now : Option Answer) → TellsOrRecalls has early There bindings was now
      → (answer : Answer) → was ≡ None → now ≡ Some answer → IsRight call has answer
  told-right has early There bindings was now (inl (inl keeps)) answer unknown known =
      absurd (let none = subst (λ a. KeepsAnswer a now) unknown keeps in let both = sym none ∙ known in cc)
  told-right has early There bindings was now (inl (inr tells)) answer unknown known =
      let same : tells.learns.answer ≡ answer = let both = sym tells.learns.known ∙ known in cc in
      subst (IsRight call has) same tells.right
  told-right has early There bindings was now (inr (inl tells)) answer unknown known =
      let same : tells.recalls.answer ≡ answer = let both = sym tells.recalls.known ∙ known in cc in
      subst (IsRight call has) same tells.right
  told-right has early There bindings was now (inr (inr tells)) answer unknown known =
      let same : tells.claims.answer ≡ answer = let both = sym tells.claims.known ∙ known in cc in
      subst (IsRight call has) same tells.right

  -- an answer is told that is legal on the bindings and leaves them
  pub learns : (has : Option ℕ) (bindings : Multimap) (answer : Answer) → IsRight call has answer
      → takes_out answer.reply ≡ false → IsLegalOn bindings answer → Tells has bindings None (Some answer)
  learns has bindings answer right none is = inr (record {
    learns = record { unknown = refl; answer = answer; known = refl; said = inl is };
    right = right;
    takes_none = none;
  })

  -- it is known early, should a page be missing
  pub foresees : (There There' : Type 0) (bindings : Multimap) (was : Option Answer) (answer : Answer)
      → IsLegalOn bindings answer → KnowsEarly There There' bindings was (Some answer)
  foresees There There' bindings was answer is other known =
      let same : answer ≡ other = cc in inr (inl (inl (subst (IsLegalOn bindings) same is)))

  -- and told once the page isn't there
  pub recalls : (has : Option ℕ) (There : Type 0) (bindings : Multimap) (answer : Answer) → IsRight call has answer
      → takes_out answer.reply ≡ false → ¬ There → TellsOrRecalls has (Some answer) There bindings None (Some answer)
  recalls has There bindings answer right none missing = inr (inl (record {
    recalls = record {
      unknown = refl;
      foreseen = answer;
      known_early = refl;
      missing = missing;
      answer = answer;
      known = refl;
      same = record { reply = refl; owners = refl };
    };
    right = right;
    takes_none = none;
  }))

  -- an answer is claimed
  pub claims : (has : Option ℕ) (early : Option Answer) (There : Type 0) (bindings : Multimap) (answer : Answer)
      → may_claim call ≡ true → IsRight call has answer → takes_out answer.reply ≡ false
      → TellsOrRecalls has early There bindings None (Some answer)
  claims has early There bindings answer may right none = inr (inr (record {
    claims = record { may = may; unknown = refl; answer = answer; known = refl };
    right = right;
    takes_none = none;
  }))

  -- where nothing comes between, what is known early stays so
  pub stays_early : (There There' : Type 0) (bindings : Multimap) (was : Option Answer) → (There → There')
      → KnowsEarly There There' bindings was was
  stays_early There There' bindings was stays answer known = inl (record { known_early = known; stays = stays })
