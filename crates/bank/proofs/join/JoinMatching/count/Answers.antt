use Rattle.std.proofs.Common.{arith}
use Rattle.bank.specs.Lawful.{joined_length}
use Rattle.bank.proofs.join.JoinMatching.count.Goals as goal

pub returns : goal.returns
returns g c = record {
  value = omega (arith, joined_length (g.A.Matching.meaning c.args.self.now.first) (g.B.Matching.meaning c.args.self.now.second));
}
