use Rattle.std.proofs.Common.{◌≡◌, Some, None}
use Rattle.std.specs.List.{position}
use Rattle.rht_model.proofs.PlainPairs.{is_pair, bindings_in-set, bindings_in-unrebound}
use Rattle.rht_model.proofs.pair_list.PairList.rebind.Goals as goal

pub returns-in-Some : goal.returns-in-Some
returns-in-Some c =
    let pairs = c.args.self.now in
    let first : position (is_pair c.args.port c.args.owner) pairs ≡ Some c.in-Some.place = cc in
    rw c.self.view_is (bindings_in-set c.args.port c.args.owner c.args.new pairs c.in-Some.place first)

pub returns-in_default : goal.returns-in_default
returns-in_default c =
    let pairs = c.args.self.now in
    let none : position (is_pair c.args.port c.args.owner) pairs ≡ None = cc in
    bindings_in-unrebound c.args.port c.args.owner c.args.new pairs none
