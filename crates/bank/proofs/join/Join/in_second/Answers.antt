use Rattle.std.proofs.Common.{◌≡◌, ℕ, ◌-◌, ◌<◌, ◌≤◌, List, length, Some, None, Option, MatchOption, inl, inr, refl, ap, ◌∙◌, arith}
use Rattle.std.specs.Option.{SomeIff}
use Rattle.opentype.specs.Meaning.{Subtable, subtable}
use Rattle.bank.specs.Joined.{joined_banks}
use Rattle.bank.specs.Lawful.{from_first, from_second}
use Rattle.bank.proofs.join.Join.in_second.Goals as goal

numbered : (first second : List Subtable) (n k : ℕ) (r : Option ℕ) → n ≡ length first → length first ≤ 32 → k < 32 → SomeIff r (n ≤ k) (k - n)
    → MatchOption r (subtable first k ≡ subtable (joined_banks first second) k) (λ j. subtable second j ≡ subtable (joined_banks first second) k)
numbered first second n k None counted few below h = from_first first second n k counted few (inl (omega (arith, h)))
numbered first second n k (Some j) counted few below h = ap (subtable second) h.1 ∙ from_second first second n k counted h.0 below

pub returns-then-k-ge-MOST_SUBTABLES : goal.returns-then-k-ge-MOST_SUBTABLES
returns-then-k-ge-MOST_SUBTABLES g c =
    let few = (g.A.Matching.lawful c.args.self.now.first).few in
    from_first (g.A.Matching.meaning c.args.self.now.first) (g.B.Matching.meaning c.args.self.now.second) _ c.args.k refl few (inr (omega arith, omega arith))

pub returns : goal.returns
returns g c =
    let few = (g.A.Matching.lawful c.args.self.now.first).few in
    numbered (g.A.Matching.meaning c.args.self.now.first) (g.B.Matching.meaning c.args.self.now.second) c.count.result c.args.k c.checked_sub.result c.count.ensures.value few c.if-k-ge-MOST_SUBTABLES.false c.checked_sub.ensures
