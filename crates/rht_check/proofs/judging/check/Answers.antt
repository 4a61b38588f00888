use Rattle.std.proofs.Common.{◌≡◌, ◌+◌, ◌<◌, [], ◌∷◌, ◌++◌, length, take, drop, true, sym, ◌∙◌, ap, subst, arith}
use Rattle.std.proofs.lemmas.Bool.{both_ways}
use Rattle.std.proofs.lemmas.List.{take_more, take_all}
use Rattle.std.specs.Bool.{OnTrue}
use Rattle.rht_model.specs.Multimap.{unbound}
use Rattle.rht_model.specs.Histories.{left_by}
use Rattle.rht_model.proofs.PlainPairs.{same_bindings}
use Rattle.rht_check.specs.Claims.{Told, commands_of, entry_of}
use Rattle.rht_check.specs.Updates.{owners_at}
use Rattle.rht_check.specs.Verdicts.{IsUnfinished, IsAccepted}
use Rattle.rht_check.proofs.JudgedClaims.{AreJudged, AreJudged-none, AreJudged-push, parts_at, length_before, extra, wrong, unfinished, accepted}
use Rattle.rht_check.proofs.judging.check.Goals as goal

pub loop-i-init : goal.loop-i-init
loop-i-init c =
    let script = c.args.claim.now.script in
    AreJudged-none script.config.kind script.commands.items c.in_ok-left.left c.new-bindings.result
    (λ worker. c.in_ok-left.ensures worker ∙ ap (commands_of worker) c.deref.ensures.value)
    (same_bindings (owners_at c.new-bindings.result) unbound c.new-bindings.ensures)

pub returns-in_default : goal.returns-in_default
returns-in_default c =
    let script = c.args.claim.now.script in
    let claims = c.args.claim.now.claims in
    let i = c.loop-i.i in
    let told : Told = c.index-told.result.now in
    let within : i < length claims.items = omega (arith, c.loop-i-test.true, c.len-i-end.ensures, claims.ok.0) in
    let judged = c.loop-i.invariant in
    extra script.config.kind script.commands.items (take i claims.items) told c.loop-i.left c.loop-i.bindings judged claims.items
    (drop (i + 1) claims.items) (i + 1) (parts_at claims.items i told within c.index-told.ensures)
    (length_before claims.items i within) c.in_default.ensures.0

pub returns-then-not-branch : goal.returns-then-not-branch
returns-then-not-branch c =
    let script = c.args.claim.now.script in
    let claims = c.args.claim.now.claims in
    let i = c.loop-i.i in
    let told : Told = c.index-told.result.now in
    let within : i < length claims.items = omega (arith, c.loop-i-test.true, c.len-i-end.ensures, claims.ok.0) in
    let judged = c.loop-i.invariant in
    wrong script.config.kind script.commands.items (take i claims.items) told c.loop-i.left c.loop-i.bindings judged c.in-Some.call
    c.next.new.self c.in-Some.ensures claims.items (drop (i + 1) claims.items) (i + 1)
    (parts_at claims.items i told within c.index-told.ensures) (length_before claims.items i within)
    (λ legal. both_ways c.in_ok-admit.field-0 c.if-not-branch.true (c.in_ok-admit.ensures.legal.1 legal))

pub loop-i-preserved : goal.loop-i-preserved
loop-i-preserved c =
    let script = c.args.claim.now.script in
    let claims = c.args.claim.now.claims in
    let i = c.loop-i.i in
    let told : Told = c.index-told.result.now in
    let within : i < length claims.items = omega (arith, c.loop-i-test.true, c.len-i-end.ensures, claims.ok.0) in
    let one_more : take i claims.items ++ told ∷ [] ≡ take (i + 1) claims.items =
    ap (λ t. take i claims.items ++ t ∷ []) c.index-told.ensures ∙ sym (take_more claims.items i told within) in
    let yes : c.in_ok-admit.field-0 ≡ true = c.if-not-branch.false in
    let goes_on = subst (λ b. OnTrue b (owners_at c.admit.new.bindings
    ≡ left_by script.config.kind (owners_at c.loop-i.bindings) (entry_of told c.in-Some.call))) yes c.in_ok-admit.ensures.left in
    subst (λ l. AreJudged script.config.kind script.commands.items l c.next.new.self c.admit.new.bindings) one_more
    (AreJudged-push script.config.kind script.commands.items (take i claims.items) told c.loop-i.left c.loop-i.bindings c.loop-i.invariant
    c.in-Some.call c.next.new.self c.in-Some.ensures c.admit.new.bindings (c.in_ok-admit.ensures.legal.0 yes) goes_on)

pub returns-in-Some-unfinished : goal.returns-in-Some-unfinished
returns-in-Some-unfinished c =
    let script = c.args.claim.now.script in
    let claims = c.args.claim.now.claims in
    let all : take c.loop-i.i claims.items ≡ claims.items =
    take_all c.loop-i.i claims.items (omega (arith, c.loop-i-test.false, c.len-i-end.ensures, claims.ok.0)) in
    subst (λ l. IsUnfinished script.config.kind script.commands.items l c.in-Some-unfinished.worker) all
    (unfinished script.config.kind script.commands.items (take c.loop-i.i claims.items) c.loop-i.left c.loop-i.bindings
    c.loop-i.invariant c.in-Some-unfinished.worker c.in-Some-unfinished.ensures)

pub returns : goal.returns
returns c =
    let script = c.args.claim.now.script in
    let claims = c.args.claim.now.claims in
    let all : take c.loop-i.i claims.items ≡ claims.items =
    take_all c.loop-i.i claims.items (omega (arith, c.loop-i-test.false, c.len-i-end.ensures, claims.ok.0)) in
    let pairs = c.in_ok-listing-in-None.field-0.pairs in
    subst (λ l. IsAccepted script.config.kind script.commands.items l pairs) all
    (accepted script.config.kind script.commands.items (take c.loop-i.i claims.items) c.loop-i.left c.loop-i.bindings
    c.loop-i.invariant pairs c.in-None.ensures c.in_ok-listing-in-None.ensures)
