use Rattle.std.proofs.Common.{◌^◌, take, ◌∙◌, arith, rules}
use borrow.Author.Tests.{tests}
use Rattle.std.proofs.lemmas.Iterator.{YieldsList-from_slice}
use Rattle.std.proofs.lemmas.Iterator.Consumers.{YieldsList-from_enumerate, fold_from_yields_List}
use Rattle.room.proofs.Dones.{least_dones, or_done}
use Rattle.room.proofs.room.Room.least_done.Goals as goal

pub returns : goal.returns
returns g c = λ set acts.
    let n = c.args.self.now.plan.stages in
    let places = c.args.self.now.places in
    fold_from_yields_List _ (or_done set) (2 ^ 62) c.fold.result c.fold.ensures.ran (YieldsList-from_enumerate (YieldsList-from_slice (take n places) cc) cc) (λ a x b q k. search (rules, tests, acts))
    ∙ least_dones places set n (omega arith)
