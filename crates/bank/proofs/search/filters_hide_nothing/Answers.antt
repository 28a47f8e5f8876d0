use Rattle.bank.proofs.search.filters_hide_nothing.Goals as goal

pub returns : goal.returns
returns g c = record { sound = (g.B.Matching.lawful c.args.bank.now).sound }
