-- `line::first` meets its contract. Assumes nothing.
use Rattle.std.proofs.Common.{eqb, rules, tests}
use Rattle.std.proofs.lemmas.Iterator.{YieldsList-from_slice}
use Rattle.std.proofs.lemmas.Iterator.Search.{position_from_yields_List}
use Rattle.text.proofs.Parts.{index_is}
use Rattle.text.proofs.line.first.Goals as goal

pub returns : goal.returns
returns c =
    rw (index_is c.args.b c.args.t.now)
    (position_from_yields_List (λ x. eqb x c.args.b) _ _ _ c.position.ensures.ran (YieldsList-from_slice c.args.t.now cc) (λ x b q k. search (rules, tests)))
