use Rattle.std.proofs.Common.{◌++◌, arith, length-append}
use Rattle.std.proofs.lemmas.List.{take_all}
use Rattle.std.proofs.lemmas.Bool.Decides.{nat_tests}
use Rattle.bank.proofs.join.check_join.Goals as goal

pub returns : goal.returns
returns g c =
    let first = g.A.Matching.meaning c.args.first.now in
    let second = g.B.Matching.meaning c.args.second.now in
    record {
      answer = grind (arith, nat_tests);
      whole = λ _. take_all 32 (first ++ second) (omega (arith, length-append first second));
    }
